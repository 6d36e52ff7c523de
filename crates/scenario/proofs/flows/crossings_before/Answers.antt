use Rattle.std.proofs.Common.{◌≡◌, ◌≤◌, Bool, true, false, cond, List, refl, ap, ◌∙◌, arith}
use Rattle.fleet_model.specs.Lists.{has_cell}
use mir.Val.{bool_byte}
use Rattle.fleet_base.specs.declared.numbers.CellNo.{CellNo}
use Rattle.site_map.specs.Built.{crossing_at, no_crossing}
use Rattle.scenario.proofs.Prints.{with_more}
use Rattle.scenario.proofs.flows.crossings_before.Goals as goal

byte_is : (b : Bool) → bool_byte b ≡ cond b 1 0
byte_is true = refl
byte_is false = refl

byte_small : (b : Bool) → cond b 1 0 ≤ 1
byte_small true = omega arith
byte_small false = omega arith

pub loop-earlier-preserved : goal.loop-earlier-preserved
loop-earlier-preserved c =
    let has : c.contains.result ≡ has_cell (crossing_at c.args.site.now c.loop-earlier.earlier).cells c.args.cell = c.contains.ensures.value ∙ ap (λ (cells : List CellNo). has_cell cells c.args.cell) c.crossing_cells.ensures.cells in
    let one : c.from-count.result ≡ cond (has_cell (crossing_at c.args.site.now c.loop-earlier.earlier).cells c.args.cell) 1 0 = c.from-count.ensures ∙ byte_is c.contains.result ∙ ap (λ (b : Bool). cond b 1 0) has in
    let more = with_more c.args.site.now.crossings c.loop-earlier.earlier c.args.cell no_crossing (omega arith) in
    let small = byte_small (has_cell (crossing_at c.args.site.now c.loop-earlier.earlier).cells c.args.cell) in
    record {
      count = omega (arith, more, one, c.loop-earlier.invariant.count);
      small = omega (arith, one, small, c.loop-earlier.invariant.small);
    }
