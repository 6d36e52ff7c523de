-- What is handed on of a refusal, and what is due of a run.
use Rattle.std.proofs.Common.{◌≡◌, ℕ, Option, Some, None, Ok, Err, Result, refl, sym, ap, subst}
use Rattle.std.specs.Result.{IsErrAnd}
use Rattle.fleet_model.specs.States.{State}
use Rattle.journal_replay.specs.Differing.{first_differing}
use Rattle.plan_journal.specs.Reading.{Front}
use Rattle.site_lines.specs.declared.fault.At.{At}
use Rattle.fleet_replay.specs.Replay.{unless_differs}
use Rattle.fleet_replay.specs.Stops.{Fails, Gives, run_of}
use Rattle.fleet_replay.specs.declared.refused.ReplayFault.{ReplayFault}
use Rattle.fleet_replay.specs.declared.refused.ReplayFault.TheVariants.{Line}
use Rattle.fleet_replay.specs.declared.refused.TextRefused.{TextRefused}

-- a refusal is handed on
pub handed_on : {X Y : Type 0} (view : X → Y) (result : Result X TextRefused) (due : Result Y ReplayFault) (refused : TextRefused) → IsErrAnd result (λ e. e ≡ refused) → Fails refused due → Gives view result due
handed_on view (Ok x) due refused is fails = absurd is
handed_on view (Err e) due refused is fails = subst (λ r. Fails r due) (sym is) fails

-- A journal that was read and replayed.

given_unless : (s : State) (j journal : Front) (o : Option ℕ) → first_differing s j.entries ≡ o → unless_differs o j ≡ Ok journal → (let r : Result Front At = Ok j in r ≡ Ok journal) × (first_differing s journal.entries ≡ None)
given_unless s j journal None none is = let same : j ≡ journal = cc in (ap (λ (k : Front). Ok k) same, subst (λ (k : Front). first_differing s k.entries ≡ None) same none)
given_unless s j journal (Some n) some is = absurd (cc)

-- a run that is given is one of a journal that was read, none of whose entries differs
pub given_run : (s : State) (r : Result Front At) (journal : Front) → run_of s r ≡ Ok journal → (r ≡ Ok journal) × (first_differing s journal.entries ≡ None)
given_run s (Ok j) journal is = given_unless s j journal (first_differing s j.entries) refl is
given_run s (Err at) journal is = absurd (cc)

no_line : (o : Option ℕ) (j : Front) (at : At) → unless_differs o j ≡ Err (Line at) → ⊥
no_line None j at is = absurd (cc)
no_line (Some n) j at is = absurd (cc)

-- a line that a run is refused for is a bad one
pub bad_line : (s : State) (r : Result Front At) (at : At) → run_of s r ≡ Err (Line at) → r ≡ Err at
bad_line s (Ok j) at is = absurd (no_line (first_differing s j.entries) j at is)
bad_line s (Err found) at is = let same : found ≡ at = cc in ap (λ (a : At). Err a) same
