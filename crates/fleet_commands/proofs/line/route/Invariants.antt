use Rattle.std.proofs.Common.{◌≡◌, ◌<◌, ◌++◌, length, All}
use Rattle.std.specs.Option.{option_map}
use Rattle.fleet_names.specs.Names.{count_of}
use Rattle.fleet_names.specs.Things.{is_cell}
use Rattle.fleet_commands.specs.UsedNames.{cells_named}
use Rattle.fleet_commands.proofs.line.route.Given as goal

abbrev pub invariant-loop-word : goal.invariant-loop-word
invariant-loop-word l = record {
  rest : option_map (λ cs. l.cells.items ++ cs) (cells_named l.names l.words) ≡ cells_named l.names l.fn.words;
  known : All (λ c. c.0 < count_of is_cell l.names) l.cells.items;
}

abbrev pub decreases-loop-word : goal.decreases-loop-word
decreases-loop-word l = length l.words
