-- Names and sites of small runs, and what a run prints.
use Rattle.std.specs.Prelude.{ℕ, List, [], ◌∷◌, ◌++◌, map, codes}
use Rattle.fleet_model.specs.States.{State}
use Rattle.fleet_model.specs.Calls.{Call, answers, entries_of, after_calls}
use Rattle.fleet_model.specs.Examples.{cells}
use Rattle.fleet_names.specs.Names.{Named}
use Rattle.fleet_names.specs.declared.thing.Thing.TheVariants.{Cell, Crossing, Robot}
use Rattle.site_map.specs.Built.{BuiltSite}
use Rattle.fleet_texts.specs.Words.{lines_text}
use Rattle.fleet_texts.specs.Answers.{answer_text}
use Rattle.fleet_texts.specs.Texts.{journal_text}
use Rattle.fleet_texts.specs.StateTexts.{state_text}

-- the names of the junction and of the bypass, and of three robots
abbrev pub names : Named
names =
    (codes "a", Cell 0) ∷ (codes "b", Cell 1) ∷ (codes "c", Cell 2) ∷ (codes "d", Cell 3) ∷ (codes "e", Cell 4)
    ∷ (codes "r1", Robot 0) ∷ (codes "r2", Robot 1) ∷ (codes "r3", Robot 2) ∷ []

-- sites with n cells and no crossing
abbrev pub plain : ℕ → BuiltSite
plain n = record { cells = n; crossings = []; areas = []; links = [] }

-- the names of the yard, and of two robots
abbrev pub yard_names : Named
yard_names =
    (codes "a", Cell 0) ∷ (codes "p", Cell 1) ∷ (codes "b", Cell 2) ∷ (codes "c", Cell 3) ∷ (codes "q", Cell 4) ∷ (codes "d", Cell 5)
    ∷ (codes "x", Crossing 0) ∷ (codes "r1", Robot 0) ∷ (codes "r2", Robot 1) ∷ []

-- the yard, whose crossing of p and q has these flows
abbrev pub yard : List (List ℕ) → BuiltSite
yard flows = record { cells = 6; crossings = record { cells = cells (1 ∷ 4 ∷ []); flows = map cells flows } ∷ []; areas = []; links = [] }

-- the answers to calls, the journal and the state that they leave
abbrev pub run_text : Named → BuiltSite → State → List (ℕ × Call) → List ℕ
run_text names site s calls =
    lines_text (map (answer_text names site) (answers s calls)) ++ journal_text names (entries_of s calls) ++ state_text names site (after_calls s calls)
