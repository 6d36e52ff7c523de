use Rattle.std.proofs.Common.{◌≡◌, ℕ, ◌<◌, ◌≤◌, slice_index}
use Rattle.site_map.proofs.numbering.fill.Given as goal

abbrev pub invariant-loop-place : goal.invariant-loop-place
invariant-loop-place l =
    ((k : ℕ) → l.from ≤ k → k < l.place → slice_index l.owners k ≡ l.number)
    × ((k : ℕ) → k < l.from → slice_index l.owners k ≡ slice_index l.initial.owners k)
