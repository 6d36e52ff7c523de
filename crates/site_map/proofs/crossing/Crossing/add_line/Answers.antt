use Rattle.std.proofs.Common.{◌≡◌, ◌++◌, ◌∷◌, [], true, cond, ◌&&◌, not, sym, ap, subst, ◌∙◌, arith}
use Rattle.std.specs.List.{list_any}
use Rattle.std.specs.Result.{is_ok}
use Rattle.std.specs.FinSet as set
use Rattle.fleet_model.specs.Lists.{has_cell}
use Rattle.site_map.specs.Inside.{IsCrossing}
use Rattle.site_map.proofs.CrossingLemmas.{IsCrossing-line}
use Rattle.site_map.proofs.crossing.Crossing.add_line.Goals as goal

pub invariant_of-self-2 : goal.invariant_of-self-2
invariant_of-self-2 c =
    let ok : is_ok c.push.result ≡ true = c.push.ensures.succeeds (omega (arith, c.in_ok-reserve.ensures.ok)) in
    subst (λ ls. IsCrossing c.self.inside.cells ls c.remove_all.new.free c.leaves_rest-rest.result)
    (sym (c.push.ensures.items ∙ ap (λ b. cond b (c.reserve.new.self.items ++ c.args.line ∷ []) c.reserve.new.self.items) ok ∙ ap (λ l. l ++ c.args.line ∷ []) c.reserve.ensures.items))
    (IsCrossing-line c.self.inside.cells c.args.line c.self.inside.lines.items c.self.inside.free c.remove_all.new.free c.args.members.now c.self.inside.has_rest c.leaves_rest-rest.result c.self.invariant c.requires.members
    (λ d. c.remove_all.ensures d ∙ ap (λ cs. set.contains c.self.inside.free d.0 && not (has_cell cs d)) c.cells-2.ensures)
    (c.leaves_rest-rest.ensures ∙ ap (list_any (λ d. set.contains c.self.inside.free d.0 && not (set.contains c.args.members.now d.0))) c.cells.ensures))
