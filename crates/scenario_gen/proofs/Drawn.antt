-- What draws give.
use Rattle.std.proofs.Common.{◌≡◌, ℕ, zero, suc, ◌+◌, ◌*◌, ◌/◌, ◌<◌, ◌^◌, sym, ap, ◌∙◌, arith}
use Rattle.std.proofs.lemmas.Nat.{mod_below}
use Rattle.scenario_gen.specs.Draws.{draw, drawn, after_draws}

pub draw_below : (k x : ℕ) → 0 < k → draw k x < k
unfolding draw
draw_below k x some = mod_below (drawn x / 2 ^ 32) k some

-- two more draws
pub drawn_twice : (i x : ℕ) → drawn (drawn (after_draws (2 * i) x)) ≡ after_draws (2 * (i + 1)) x
drawn_twice i x = let more : suc (suc (2 * i)) ≡ 2 * (i + 1) = omega arith in ap (λ n. after_draws n x) more
