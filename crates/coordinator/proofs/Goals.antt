-- A replan to the goal of a request.
use Rattle.std.proofs.Common.{◌≡◌, ℕ, Bool, sym, ap, ◌∙◌}
use Rattle.fleet_base.specs.declared.numbers.CellNo.{CellNo}
use Rattle.fleet_calls.specs.Calls.{call_of}
use Rattle.fleet_calls.specs.declared.request.Request.{Request}
use Rattle.fleet_calls.specs.declared.request.Request.TheVariants.{Replan}
use Rattle.fleet_model.specs.Calls.{Replans, replan, turn, turn_of}
use Rattle.fleet_model.specs.Lists.{has_cell}
use Rattle.fleet_model.specs.States.{State}
use Rattle.site_map.specs.Built.{BuiltSite}
use Rattle.site_map.specs.Goals.{goal_cells}
use Rattle.site_map.specs.declared.goal.Goal.{Goal}

-- it is the replan to any set that has just the cells of the goal
pub replan_is : (s : State) (r : ℕ) (site : BuiltSite) (request : Request) (goal : Goal) (there : CellNo → Bool) → request ≡ Replan goal → ((a : CellNo) → there a ≡ has_cell (goal_cells site goal) a) → turn_of Replans (replan s r there) ≡ turn s r (call_of site request)
replan_is s r site request goal there is same =
    let tests : there ≡ has_cell (goal_cells site goal) = λ i a. same a i in
    ap (λ g. turn_of Replans (replan s r g)) tests ∙ ap (λ q. turn s r (call_of site q)) (sym is)
