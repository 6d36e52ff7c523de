use Rattle.std.proofs.Common.{◌≡◌, ◌∙◌, ◌∷◌, [], ap, sym, refl, ◌++◌}
use Rattle.std.specs.Prelude.{codes}
use Rattle.std.specs.Fmt.{decimal}
use Rattle.fleet_names.specs.Things.{is_area, is_crossing, is_robot}
use Rattle.fleet_names.specs.Names.{count_of}
use Rattle.fleet_names.specs.declared.thing.Thing.TheVariants as thing
use Rattle.fleet_names.proofs.Steps.{count_of-fails, count_of-holds}
use Rattle.scenario_gen.specs.Generated.{numbered}
use Rattle.scenario_gen.proofs.Counting.{counted_more, none_counted}
use Rattle.scenario_gen.proofs.naming.names.Goals as goal

pub add_numbered-requires-2 : goal.add_numbered-requires-2
add_numbered-requires-2 c =
    counted_more is_crossing c.new-names.result c.add_numbered.new.names _ 0 0 c.in_ok-add_numbered.ensures (ap (count_of is_crossing) c.new-names.ensures) (none_counted is_crossing (λ i. (codes "c" ++ decimal i, thing.Cell i)) (λ i. refl) 0 c.args.cells)

pub add-requires : goal.add-requires
add-requires c =
    let cells = counted_more is_area c.new-names.result c.add_numbered.new.names _ 0 0 c.in_ok-add_numbered.ensures (ap (count_of is_area) c.new-names.ensures) (none_counted is_area (λ i. (codes "c" ++ decimal i, thing.Cell i)) (λ i. refl) 0 c.args.cells) in
    sym (counted_more is_area c.add_numbered.new.names c.add_numbered-2.new.names _ 0 0 c.in_ok-add_numbered-2.ensures cells (none_counted is_area (λ i. (codes "x" ++ decimal i, thing.Crossing i)) (λ i. refl) 0 c.args.crossings))

-- the count of areas in front of the first
none_of : (c : goal.After-add-arg-4-1) → count_of is_area c.add_numbered-2.new.names ≡ 0
none_of c =
    let cells = counted_more is_area c.new-names.result c.add_numbered.new.names _ 0 0 c.in_ok-add_numbered.ensures (ap (count_of is_area) c.new-names.ensures) (none_counted is_area (λ i. (codes "c" ++ decimal i, thing.Cell i)) (λ i. refl) 0 c.args.cells) in
    counted_more is_area c.add_numbered.new.names c.add_numbered-2.new.names _ 0 0 c.in_ok-add_numbered-2.ensures cells (none_counted is_area (λ i. (codes "x" ++ decimal i, thing.Crossing i)) (λ i. refl) 0 c.args.crossings)

pub add-requires-2 : goal.add-requires-2
add-requires-2 c = sym (counted_more is_area c.add_numbered-2.new.names c.add.new.names ((codes "top", thing.Area 0) ∷ []) 0 1 c.in_ok-add.ensures (none_of c) (count_of-holds is_area (codes "top", thing.Area 0) [] refl))

pub add_numbered-requires-3 : goal.add_numbered-requires-3
add_numbered-requires-3 c =
    let cells = counted_more is_robot c.new-names.result c.add_numbered.new.names _ 0 0 c.in_ok-add_numbered.ensures (ap (count_of is_robot) c.new-names.ensures) (none_counted is_robot (λ i. (codes "c" ++ decimal i, thing.Cell i)) (λ i. refl) 0 c.args.cells) in
    let crossings = counted_more is_robot c.add_numbered.new.names c.add_numbered-2.new.names _ 0 0 c.in_ok-add_numbered-2.ensures cells (none_counted is_robot (λ i. (codes "x" ++ decimal i, thing.Crossing i)) (λ i. refl) 0 c.args.crossings) in
    let top = counted_more is_robot c.add_numbered-2.new.names c.add.new.names ((codes "top", thing.Area 0) ∷ []) 0 0 c.in_ok-add.ensures crossings (count_of-fails is_robot (codes "top", thing.Area 0) [] refl) in
    counted_more is_robot c.add.new.names c.add-2.new.names ((codes "bottom", thing.Area 1) ∷ []) 0 0 c.in_ok-add-2.ensures top (count_of-fails is_robot (codes "bottom", thing.Area 1) [] refl)
