-- What room there is behind an outcome that isn't refused for want of it.
use Rattle.std.proofs.Common.{◌≡◌, ℕ, ◌+◌, ◌≤◌, Bool, true, false, cond, not, ◌&&◌, ◌||◌, ◌==◌, refl, subst, arith, eq-eqb, length}
use Rattle.std.proofs.lemmas.Bool.{ltb-false, ltb-true, ne_eqb, not_from_false, not_from_true, or_parts}
use Rattle.std.specs.Prelude.{nat_lt}
use Rattle.fleet_base.specs.declared.limits.TheConstants.{MAX_COUNT}
use Rattle.fleet_model.specs.Plans.{unfinished}
use Rattle.fleet_model.specs.States.{State, base_behind, is_full, is_past, owed}

-- behind an outcome by which entries and what is owed grow by so much there is room in the segment of this base, and in the run
pub record IsRoom (s : State) (growth low : ℕ) : Type 0 where
  pub base : low ≤ s.count
  pub segment : s.count + owed s + growth ≤ low + s.cap
  pub total : s.count + owed s + growth ≤ MAX_COUNT

-- an outcome that isn't refused for want of room has it
pub room_behind : (s : State) (growth : ℕ) → s.base ≤ s.count → is_full s growth ≡ false → IsRoom s growth (base_behind s growth)
room_behind s growth begun free = go (is_past s growth) refl parts.1
  where
    narrow : Bool
    narrow = not (length (unfinished s.fleet) == 0) || nat_lt s.cap (owed s + growth)

    parts : (nat_lt MAX_COUNT (s.count + owed s + growth) ≡ false) × ((is_past s growth && narrow) ≡ false)
    parts = or_parts (nat_lt MAX_COUNT (s.count + owed s + growth)) (is_past s growth && narrow) free

    few : s.count + owed s + growth ≤ MAX_COUNT
    few = ltb-false MAX_COUNT (s.count + owed s + growth) parts.0

    go : (past : Bool) → is_past s growth ≡ past → (past && narrow) ≡ false → IsRoom s growth (cond past s.count s.base)
    go false e h = record { base = begun; segment = ltb-false (s.base + s.cap) (s.count + owed s + growth) e; total = few }
    go true e h =
        let fits = ltb-false s.cap (owed s + growth) (or_parts (not (length (unfinished s.fleet) == 0)) (nat_lt s.cap (owed s + growth)) h).1 in
        record { base = omega arith; segment = omega arith; total = few }

-- an outcome that isn't refused for want of room opens a segment exactly where it would go above the cap of the current one
pub past_opens : (s : State) (growth : ℕ) → s.base ≤ s.count → is_full s growth ≡ false → not (base_behind s growth == s.base) ≡ is_past s growth
past_opens s growth begun free = go (is_past s growth) refl
  where
    go : (past : Bool) → is_past s growth ≡ past → not (cond past s.count s.base == s.base) ≡ past
    go false e = not_from_true (s.base == s.base) (eq-eqb s.base s.base refl)
    go true e =
        let more = ltb-true (s.base + s.cap) (s.count + owed s + growth) e in
        let room : IsRoom s growth s.count = subst (λ b. IsRoom s growth (cond b s.count s.base)) e (room_behind s growth begun free) in
        not_from_false (s.count == s.base) (ne_eqb s.count s.base (λ same. let l = room.segment in omega arith))
