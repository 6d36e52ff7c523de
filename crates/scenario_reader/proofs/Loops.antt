-- One line more of a text that is read.
use Rattle.std.proofs.Common.{◌≡◌, ℕ, ◌+◌, List, [], ◌∷◌, Ok, Result, sym, ap, ◌∙◌}
use Rattle.site_lines.specs.declared.fault.At.{At}
use Rattle.site_lines.specs.declared.fault.Code.{Code}
use Rattle.site_lines.specs.Readings.{onward, read_from}
use Rattle.scenario_reader.specs.Tables.{refused_at, Fails, FailsAt}
use Rattle.scenario_reader.specs.declared.stop.Stop.{Stop}
use Rattle.scenario_reader.specs.declared.stop.Stop.TheVariants as stops

-- a line that is stopped is the text's fault
pub line_fails : {S T : Type 0} (next : S → List ℕ → Result S Code) (finish : S → Result T Code) (n : ℕ) (s : S) (lines : List (List ℕ)) (raw : List ℕ) (rest : List (List ℕ)) (stop : Stop) (whole : Result T At) → lines ≡ raw ∷ rest → Fails stop (next s raw)
    → read_from next finish n s lines ≡ whole → FailsAt (refused_at stop n) whole
line_fails next finish n s lines raw rest stops.NoMemory whole split fails is = tt
line_fails {S} {T} next finish n s lines raw rest (stops.Bad code) whole split fails is =
    sym is ∙ ap (λ (ls : List (List ℕ)). read_from next finish n s ls) split ∙ ap (λ (r : Result S Code). onward {T = T} r n (λ t. read_from next finish (n + 1) t rest)) fails

-- a line that is taken
pub line_passes : {S T : Type 0} (next : S → List ℕ → Result S Code) (finish : S → Result T Code) (n : ℕ) (s t : S) (lines : List (List ℕ)) (raw : List ℕ) (rest : List (List ℕ)) (whole : Result T At) → lines ≡ raw ∷ rest → next s raw ≡ Ok t
    → read_from next finish n s lines ≡ whole → read_from next finish (n + 1) t rest ≡ whole
line_passes {S} {T} next finish n s t lines raw rest whole split taken is =
    sym (ap (λ (ls : List (List ℕ)). read_from next finish n s ls) split ∙ ap (λ (r : Result S Code). onward {T = T} r n (λ u. read_from next finish (n + 1) u rest)) taken) ∙ is

-- no line is left
pub lines_end : {S T : Type 0} (next : S → List ℕ → Result S Code) (finish : S → Result T Code) (n : ℕ) (s : S) (lines : List (List ℕ)) (whole : Result T At) → lines ≡ []
    → read_from next finish n s lines ≡ whole → onward (finish s) n (λ t. Ok t) ≡ whole
lines_end next finish n s lines whole none is = sym (ap (λ (ls : List (List ℕ)). read_from next finish n s ls) none) ∙ is
