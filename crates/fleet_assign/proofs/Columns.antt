-- One more column of a square of costs.
use Rattle.std.proofs.Common.{◌≡◌, ℕ, ◌+◌, ◌<◌, ◌≤◌, cond, eqb, inl, inr, List, length, Some, None, sym, ap, subst, ◌∙◌, arith}
use Rattle.std.proofs.lemmas.Bool.{cases_eq, eq-eqb, ne_eqb}
use Rattle.fleet_base.specs.declared.numbers.CellNo.{CellNo}
use Rattle.scenario.specs.Scenarios.{ScenarioValue}
use Rattle.site_map.specs.Built.{BuiltSite}
use Rattle.site_map.specs.declared.goal.Goal.{Goal}
use Rattle.task_assign.specs.Squares.{Square, cost_at}
use Rattle.fleet_assign.specs.Tasks.{cost_of, cost_or_most, route_cost, start_of, task_at, task_cost}

-- the column has the costs of the routes from the starts to the goal, and the others are as before
abbrev pub IsFilled : BuiltSite → List CellNo → Goal → ℕ → Square → Square → Type 0
IsFilled site starts goal column before after =
    (i j : ℕ) → i < length starts → j < length starts → cost_at after i j ≡ cond (eqb j column) (cost_or_most (route_cost site goal (start_of starts i))) (cost_at before i j)

-- the columns before this one have the scenario's costs
abbrev pub AreDone : ScenarioValue → ℕ → Square → Type 0
AreDone s column square = (i j : ℕ) → i < length s.starts → j < column → cost_at square i j ≡ cost_of s i j

-- and those from it on have none yet
abbrev pub AreLeft : ScenarioValue → ℕ → Square → Type 0
AreLeft s column square = (i j : ℕ) → i < length s.starts → column ≤ j → j < length s.starts → cost_at square i j ≡ 0

module _ (s : ScenarioValue) (column : ℕ) where
  module _ (before after : Square) (goal : Goal) (is : task_at s column ≡ Some goal) (within : column < length s.starts) (fill : IsFilled s.site s.starts goal column before after) where
    done_here : AreDone s column before → AreDone s (column + 1) after
    done_here done i j row at =
        elim (cases_eq j column) [
          | inl same ↦
              let task : task_at s j ≡ Some goal = ap (task_at s) same ∙ is in
              fill i j row (omega arith)
              ∙ ap (λ b. cond b (cost_or_most (route_cost s.site goal (start_of s.starts i))) (cost_at before i j)) (eq-eqb j column same)
              ∙ ap (task_cost s.site (start_of s.starts i)) (sym task)
          | inr other ↦
              fill i j row (omega arith)
              ∙ ap (λ b. cond b (cost_or_most (route_cost s.site goal (start_of s.starts i))) (cost_at before i j)) (ne_eqb j column other)
              ∙ done i j row (omega arith)
        ]

    left_here : AreLeft s column before → AreLeft s (column + 1) after
    left_here left i j row from at =
        let other : j ≡ column → ⊥ = omega arith in
        fill i j row at
        ∙ ap (λ b. cond b (cost_or_most (route_cost s.site goal (start_of s.starts i))) (cost_at before i j)) (ne_eqb j column other)
        ∙ left i j row (omega arith) at

  -- a column without a task costs nothing
  pub done_idle : (square : Square) → task_at s column ≡ None → column < length s.starts → AreLeft s column square → AreDone s column square → AreDone s (column + 1) square
  done_idle square none within left done i j row at =
      elim (cases_eq j column) [
        | inl same ↦
            let idle : task_at s j ≡ None = ap (task_at s) same ∙ none in
            left i j row (omega arith) (omega arith) ∙ ap (task_cost s.site (start_of s.starts i)) (sym idle)
        | inr other ↦ done i j row (omega arith)
      ]

  pub left_more : (square : Square) → AreLeft s column square → AreLeft s (column + 1) square
  left_more square left i j row from at = left i j row (omega arith) at

  -- a column with a task that is filled
  module _ (before after : Square) (goal : Goal) (site : BuiltSite) (starts : List CellNo) (site_is : site ≡ s.site) (starts_are : starts ≡ s.starts) (is : task_at s column ≡ Some goal) (within : column < length s.starts) (fill : IsFilled site starts goal column before after) where
    filled : IsFilled s.site s.starts goal column before after
    filled = subst (λ (b : BuiltSite). IsFilled b s.starts goal column before after) site_is (subst (λ (cs : List CellNo). IsFilled site cs goal column before after) starts_are fill)

    pub done_task : AreDone s column before → AreDone s (column + 1) after
    done_task = done_here before after goal is within filled

    pub left_task : AreLeft s column before → AreLeft s (column + 1) after
    left_task = left_here before after goal is within filled
