use Rattle.std.proofs.Common.{◌≡◌, ◌≤◌, ◌++◌, [], length, map}
use Rattle.std.specs.Prelude.{All}
use Rattle.std.specs.Option.{unwrap_or}
use Rattle.fleet_base.specs.declared.limits.TheConstants.{MAX_LEGS}
use Rattle.scenario.proofs.missions.missions_of.Given as goal

abbrev pub invariant-loop-legs : goal.invariant-loop-legs
invariant-loop-legs l = record {
  made : l.robots.items ++ map (λ m. unwrap_or m []) l.legs-iterator.rest.items ≡ map (λ m. unwrap_or m []) l.fn.given.items;
  left : All (λ m. length (unwrap_or m []) ≤ MAX_LEGS) l.legs-iterator.rest.items;
  few : All (λ legs. length legs ≤ MAX_LEGS) l.robots.items;
}
