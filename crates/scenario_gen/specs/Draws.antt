-- The draws of the generator.
use Rattle.std.specs.Prelude.{ℕ, zero, suc, ◌+◌, ◌*◌, ◌/◌, ◌%◌, ◌^◌}

-- the number behind one draw from x
unfoldable pub drawn : ℕ → ℕ
drawn x = (x * 6364136223846793005 + 1442695040888963407) % 2 ^ 64

-- what a draw from x gives, of the numbers below k
unfoldable pub draw : ℕ → ℕ → ℕ
draw k x = drawn x / 2 ^ 32 % k

-- the number behind n draws from x
abbrev pub after_draws : ℕ → ℕ → ℕ
after_draws zero x = x
after_draws (suc n) x = drawn (after_draws n x)
