use Rattle.std.proofs.Common.{◌∙◌, ◌∷◌, [], ap}
use Rattle.fleet_names.specs.Things.{same_kind}
use Rattle.fleet_names.proofs.Steps.{count_of-holds}
use Rattle.scenario_gen.proofs.Counting.{counted_more, numbered_more, own_kind, own_number, same_test}
use Rattle.scenario_gen.proofs.naming.add_numbered.Goals as goal

pub loop-number-preserved : goal.loop-number-preserved
loop-number-preserved c =
    let test = same_kind c.args.kind in
    let names = c.loop-number.names in
    let new = c.add.new.names in
    let name = c.deref.result.now in
    let t = c.of_kind.result in
    record {
      named = numbered_more c.args.names.now names new c.args.letter.now name c.args.kind t c.loop-number.number c.loop-number.invariant.named c.in_ok-add.ensures (c.deref.ensures.value ∙ c.in_ok-name.ensures) c.of_kind.ensures;
      count = counted_more test names new ((name, t) ∷ []) c.loop-number.number 1 c.in_ok-add.ensures c.loop-number.invariant.count
          (count_of-holds test (name, t) [] (ap test c.of_kind.ensures ∙ own_kind c.args.kind c.loop-number.number));
    }
