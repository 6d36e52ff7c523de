use Rattle.std.proofs.Common.{◌≡◌, ◌==◌, not, length}
use Rattle.std.proofs.lemmas.List.Filters.{FiltersInPlace}
use Rattle.fleet_base.proofs.held.Held.remove.Given as goal

abbrev pub invariant-loop-place : goal.invariant-loop-place
invariant-loop-place l = record {
  count : l.self-inside.count ≡ l.initial.self-inside.count;
  size : length l.self-inside.places ≡ 6;
  filters : FiltersInPlace (λ c. not (c.0 == l.claim.0)) l.initial.self-inside.places l.self-inside.places l.kept l.place;
}
