-- Cycles of deferrals bind their members, and so does each that is answered.
use Rattle.std.proofs.Common.{◌≡◌, ◌≢◌, ℕ, ◌<◌, ◌==◌, ◌&&◌, not, Bool, true, false, List, [], ◌∷◌, length, Option, Some, None, Ok, Err, refl, sym, ap, subst, ◌∙◌}
use Rattle.std.proofs.lemmas.Bool.{and_parts, both_ways, eqb-true, lt-ltb}
use Rattle.std.specs.Option.{is_none, is_some, option_map}
use Rattle.fleet_base.specs.Lists.{numbers_of, robots_of}
use Rattle.fleet_base.specs.RobotLists.{numbers_of-robots_of}
use Rattle.fleet_base.specs.declared.answers.Block.{Block}
use Rattle.fleet_base.specs.declared.answers.Look.{Look}
use Rattle.fleet_base.specs.declared.answers.PendingLook.TheVariants.{Blocked}
use Rattle.fleet_base.specs.declared.answers.ProposeRefused.{ProposeRefused}
use Rattle.fleet_base.specs.declared.answers.ProposeRefused.TheVariants.{HasPending}
use Rattle.fleet_base.specs.declared.answers.Proposed.TheVariants.{Merged, Deferred}
use Rattle.fleet_base.specs.declared.answers.RetryRefused.{RetryRefused}
use Rattle.fleet_base.specs.declared.answers.RetryRefused.TheVariants as refused
use Rattle.fleet_base.specs.declared.answers.UnknownRobot.{UnknownRobot}
use Rattle.fleet_base.specs.declared.entries.Act.TheVariants.{Retried}
use Rattle.fleet_base.specs.declared.entries.Entry.{Entry}
use Rattle.fleet_base.specs.declared.numbers.CellNo.{CellNo}
use Rattle.fleet_base.specs.declared.numbers.ClaimNo.{ClaimNo}
use Rattle.fleet_base.specs.declared.numbers.RobotNo.{RobotNo}
use Rattle.fleet_base.specs.declared.numbers.Span.{Span}
use Rattle.fleet_model.specs.Calls.{Call, Propose, Step, accepted, after_calls, deferring, entries_of, first_of, in_segment, look, look_at_pending, look_of, merge_growth, propose, propose_growth, propose_outcome, propose_refusals, retry, retry_refusals, span_of, unless, unless_refused, with_route}
use Rattle.fleet_model.specs.Cycles.{are_distinct, is_cycle, leads}
use Rattle.fleet_model.specs.Deferral.{ends, least_blocker}
use Rattle.fleet_model.specs.Good.{IsGood}
use Rattle.fleet_model.specs.Journals.{IsJournal, state_after}
use Rattle.fleet_model.specs.Lists.{In, first_some, when}
use Rattle.fleet_model.specs.Sites.{IsSite, needs}
use Rattle.fleet_model.specs.Sound.{IsCycle, IsTrueTo}
use Rattle.fleet_model.specs.States.{State, block_of, cycle_of, is_deferred_on, is_full, is_robot, pending_of, pending_route}
use Rattle.fleet_model.proofs.Bindings.{cycle_binds}
use Rattle.fleet_model.proofs.Deferrals.{cycle_of_least, deferred_below}
use Rattle.fleet_model.proofs.GoodStates.{journal_good}
use Rattle.fleet_model.proofs.Options.{map_some}
use Rattle.fleet_model.proofs.Rotations.{cycle_closed, least_is_cycle}
use Rattle.fleet_model.proofs.Turns.{call_good, calls_journal}
use Rattle.call_laws.specs.Bindings.{AreDeferred, Binds, OnlyReport}
use Rattle.call_laws.proofs.Members.{still}

-- a robot with a route pending may not propose
has_pending : (s : State) (r : ℕ) (cells route : List CellNo) → r < length s.fleet.starts → pending_of s r ≡ Some route → (propose s r cells).answer ≡ Err HasPending
has_pending s r cells route known some = rw (lt-ltb r (length s.fleet.starts) known, ap is_some some) refl

-- the members of a cycle are deferred
pub cycle_defers : (s : State) (members : List ℕ) → IsGood s → IsCycle s members → AreDeferred s members
cycle_defers s members good cycle = record {
  cycle = cycle;
  proposes = λ r cells member.
      let on = cycle_closed s members cycle r member in
      has_pending s r cells on.2.route (deferred_below s r on.0 good.places on.2).0 on.2.pending;
  retries = λ r member.
      let on = cycle_closed s members cycle r member in
      still s r on.0 (deferred_below s r on.0 good.places on.2).0 on.2;
}

-- and stay so after accepted calls
pub journal_binds : (s : State) (members : List ℕ) (journal : List Entry) → IsSite s.fleet.site → IsGood s → IsCycle s members → IsJournal s journal → IsTrueTo members journal → AreDeferred (state_after s journal) members × OnlyReport members journal
journal_binds s members journal site good cycle legal true_to =
    let binds = cycle_binds s members journal site good cycle legal true_to in
    (cycle_defers (state_after s journal) members (journal_good s journal site good legal).0 binds.0, binds.1)

-- after any calls
pub calls_bind : (s : State) (members : List ℕ) → IsSite s.fleet.site → IsGood s → IsCycle s members → Binds s members
calls_bind s members site good cycle = record {
  now = cycle_defers s members good cycle;
  later = λ calls true_to.
      let is = calls_journal s calls site good in
      subst (λ t. AreDeferred t members) is.1 (journal_binds s members (entries_of s calls) site good cycle is.0 true_to).0;
  reports = λ calls true_to. (journal_binds s members (entries_of s calls) site good cycle (calls_journal s calls site good).0 true_to).1;
}

-- a cycle through a robot is a cycle
is_cycle_of : (s : State) (r : ℕ) (xs : List ℕ) → is_cycle (is_deferred_on s) r xs ≡ true → IsCycle s xs
is_cycle_of s r [] is = absurd (both_ways false refl is)
is_cycle_of s r (x ∷ xs) is =
    let same : x ≡ r = eqb-true x r (and_parts (x == r) (are_distinct (x ∷ xs) && leads (is_deferred_on s) r (x ∷ xs)) is).0 in
    subst (λ y. is_cycle (is_deferred_on s) y (x ∷ xs) ≡ true) (sym same) is

-- the cycle of a state binds
pub cycle_of_binds : (s : State) (r : ℕ) → IsSite s.fleet.site → IsGood s → cycle_of s r ≢ [] → Binds s (cycle_of s r)
cycle_of_binds s r site good some = calls_bind s (cycle_of s r) site good (is_cycle_of s r (cycle_of s r) (least_is_cycle (is_deferred_on s) r (cycle_of s r) (cycle_of_least s r good.places) some))

-- a list of robots that is that cycle binds
pub robots_bind : (s : State) (r : ℕ) (cycle : List RobotNo) → IsSite s.fleet.site → IsGood s → cycle ≡ robots_of (cycle_of s r) → cycle ≢ [] → Binds s (numbers_of cycle)
robots_bind s r cycle site good is some =
    subst (λ xs. Binds s xs) (sym (ap numbers_of is ∙ numbers_of-robots_of (cycle_of s r)))
    (cycle_of_binds s r site good (λ none. some (is ∙ ap robots_of none)))

-- the cycle that a block names is that of the state
block_names : (s : State) (r : ℕ) (route : List CellNo) (block : Block) → block_of s r route ≡ Some block → block.cycle ≡ robots_of (cycle_of s r)
block_names s r route block is =
    let found = map_some (least_blocker s.fleet.site (ends s.fleet) r (needs s.fleet.site route)) block is in
    ap (λ (b : Block). b.cycle) (sym found.2)

-- a proposal that is answered with a block: its cycle binds
module _ (s : State) (r : ℕ) (cells : List CellNo) (block : Block) where
  -- what is left by a proposal with this block, refused or not
  deferred_so : (refused : Option ProposeRefused) (blocked : Option Block) → (unless_refused refused s (propose_outcome s r cells blocked)).answer ≡ Ok (Deferred block)
      → (blocked ≡ Some block) × ((unless_refused refused s (propose_outcome s r cells blocked)).after ≡ in_segment s (propose_growth s cells blocked) (deferring s r cells))
  deferred_so (Some e) blocked is = absurd (cc)
  deferred_so None None is = absurd (cc)
  deferred_so None (Some b) is = (cc, refl)

  pub proposal_binds : IsSite s.fleet.site → IsGood s → (propose s r cells).answer ≡ Ok (Deferred block) → block.cycle ≢ [] → Binds (propose s r cells).after (numbers_of block.cycle)
  proposal_binds site good is some =
      let blocked = block_of (deferring s r cells) r cells in
      let so = deferred_so (first_some (propose_refusals s r cells blocked)) blocked is in
      let kept = call_good s r (Propose cells) site good in
      robots_bind (propose s r cells).after r block.cycle kept.1 kept.0
      (block_names (deferring s r cells) r cells block so.0 ∙ ap (λ (t : State). robots_of (cycle_of t r)) (sym so.1)) some

-- a retry that is answered with a block leaves the state, and its cycle binds
module _ (s : State) (r : ℕ) (block : Block) where
  still_so : (unknown none full : Bool) (blocked : Option Block) → first_some (when unknown refused.UnknownRobot ∷ when none refused.NoPending ∷ option_map (λ b. refused.StillDeferred b) blocked ∷ when full refused.Full ∷ []) ≡ Some (refused.StillDeferred block) → blocked ≡ Some block
  still_so true none full blocked is = absurd (cc)
  still_so false true full blocked is = absurd (cc)
  still_so false false full (Some b) is = cc
  still_so false false true None is = absurd (cc)
  still_so false false false None is = absurd (cc)

  refused_so : (refusal : Option RetryRefused) (step : Step Span RetryRefused) (span : Span) → step.answer ≡ Ok span → (unless_refused refusal s step).answer ≡ Err (refused.StillDeferred block) → (refusal ≡ Some (refused.StillDeferred block)) × ((unless_refused refusal s step).after ≡ s)
  refused_so None step span done is = absurd (cc)
  refused_so (Some e) step span done is = (cc, refl)

  retry_so : (retry s r).answer ≡ Err (refused.StillDeferred block) → (block_of s r (pending_route s r) ≡ Some block) × ((retry s r).after ≡ s)
  retry_so is =
      let route = pending_route s r in
      let step = accepted (span_of s route) r (Retried (first_of s)) (in_segment s (merge_growth s route) (with_route s r route)) in
      let so = refused_so (first_some (retry_refusals s r route)) step (span_of s route) refl is in
      (still_so (not (is_robot s r)) (is_none (pending_of s r)) (is_full s (merge_growth s route)) (block_of s r route) so.0, so.1)

  pub retry_binds_here : IsSite s.fleet.site → IsGood s → (retry s r).answer ≡ Err (refused.StillDeferred block) → block.cycle ≢ [] → Binds s (numbers_of block.cycle)
  retry_binds_here site good is some = robots_bind s r block.cycle site good (block_names s r (pending_route s r) block (retry_so is).0) some

  pub retry_binds : IsSite s.fleet.site → IsGood s → (retry s r).answer ≡ Err (refused.StillDeferred block) → block.cycle ≢ [] → Binds (retry s r).after (numbers_of block.cycle)
  retry_binds site good is some = subst (λ t. Binds t (numbers_of block.cycle)) (sym (retry_so is).1) (retry_binds_here site good is some)

-- a look that shows a block leaves the state, and its cycle binds
module _ (s : State) (r : ℕ) (view : Look) (block : Block) where
  abbrev looked : Bool → UnknownRobot → Step Look UnknownRobot
  looked unknown refusal = unless (when unknown refusal ∷ []) s (record { answer = Ok (look_of s r); entry = None; after = s })

  seen_so : (unknown : Bool) (refusal : UnknownRobot) → (looked unknown refusal).answer ≡ Ok view → (look_of s r ≡ view) × ((looked unknown refusal).after ≡ s)
  seen_so true refusal is = absurd (cc)
  seen_so false refusal is = (cc, refl)

  shown_so : (pending : Option (List CellNo)) (blocked : Option Block) → look_at_pending pending blocked ≡ Blocked block → blocked ≡ Some block
  shown_so None blocked is = absurd (cc)
  shown_so (Some route) None is = absurd (cc)
  shown_so (Some route) (Some b) is = cc

  pub look_binds_here : IsSite s.fleet.site → IsGood s → (look s r).answer ≡ Ok view → view.pending ≡ Blocked block → block.cycle ≢ [] → Binds s (numbers_of block.cycle)
  look_binds_here site good is shows some =
      let so = seen_so (not (is_robot s r)) (record {}) is in
      let blocked = shown_so (pending_of s r) (block_of s r (pending_route s r)) (ap (λ (v : Look). v.pending) so.0 ∙ shows) in
      robots_bind s r block.cycle site good (block_names s r (pending_route s r) block blocked) some

  pub look_binds : IsSite s.fleet.site → IsGood s → (look s r).answer ≡ Ok view → view.pending ≡ Blocked block → block.cycle ≢ [] → Binds (look s r).after (numbers_of block.cycle)
  look_binds site good is shows some = subst (λ t. Binds t (numbers_of block.cycle)) (sym (seen_so (not (is_robot s r)) (record {}) is).1) (look_binds_here site good is shows some)
