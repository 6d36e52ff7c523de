-- Sets of robots along the edges.
use Rattle.std.proofs.Common.{◌≡◌, ◌↔◌, ℕ, zero, suc, ◌+◌, ◌<◌, ◌≤◌, Bool, true, false, ◌&&◌, ◌||◌, eqb, inl, inr, sym, ap, ◌∙◌, bit_and, bit_or, min, max, subst, arith, eq-eqb, refl, Option, Some, None}
use Rattle.std.specs.Int.{bit_at}
use Rattle.std.specs.Option.{is_some, IfSome, IfNone}
use Rattle.std.proofs.lemmas.Bool.{and_from, and_parts, both_ways, cases_eq, cases_lt, ne_eqb, eqb-true}
use Rattle.std.proofs.lemmas.Nat.Bits.{bit_at_and, bit_at_or, bit_at-lt}
use Rattle.fleet_base.specs.declared.numbers.RobotNo.{RobotNo}
use Rattle.bit_set.specs.Words.{is_in}
use Rattle.bit_set.proofs.WordBits.{is_in-zero}
use Rattle.cycle_cert.specs.Members.{LeadsInto}

max_bit : (a b : ℕ) → a < 2 → b < 2 → eqb (max a b) 1 ≡ (eqb a 1 || eqb b 1)
max_bit zero zero p q = refl
max_bit zero (suc zero) p q = refl
max_bit (suc zero) zero p q = refl
max_bit (suc zero) (suc zero) p q = refl
max_bit (suc (suc a)) b p q = absurd (omega arith)
max_bit zero (suc (suc b)) p q = absurd (omega arith)
max_bit (suc zero) (suc (suc b)) p q = absurd (omega arith)

-- the numbers of one of two sets
pub is_in-or : (s t q : ℕ) → is_in (bit_or s t) q ≡ (is_in s q || is_in t q)
is_in-or s t q = ap (λ b. eqb b 1) (bit_at_or s t q) ∙ max_bit (bit_at s q) (bit_at t q) (bit_at-lt s q) (bit_at-lt t q)

min_bit : (a b : ℕ) → a < 2 → b < 2 → eqb (min a b) 1 ≡ (eqb a 1 && eqb b 1)
min_bit zero zero p q = refl
min_bit zero (suc zero) p q = refl
min_bit (suc zero) zero p q = refl
min_bit (suc zero) (suc zero) p q = refl
min_bit (suc (suc a)) b p q = absurd (omega arith)
min_bit zero (suc (suc b)) p q = absurd (omega arith)
min_bit (suc zero) (suc (suc b)) p q = absurd (omega arith)

-- the numbers of both of two sets
pub is_in-and : (s t q : ℕ) → is_in (bit_and s t) q ≡ (is_in s q && is_in t q)
is_in-and s t q = ap (λ b. eqb b 1) (bit_at_and s t q) ∙ min_bit (bit_at s q) (bit_at t q) (bit_at-lt s q) (bit_at-lt t q)

-- the set with one number
pub is_in-one : (one r : ℕ) → ((q : ℕ) → is_in one q ≡ (eqb q r || is_in 0 q)) → (q : ℕ) → is_in one q ≡ eqb q r
is_in-one one r e q = elim (cases_eq q r) [
  | inl same ↦ e q ∙ rw (eq-eqb q r same) refl
  | inr other ↦ e q ∙ rw (ne_eqb q r other) (is_in-zero q)
]

-- what leads into the set with one number leads to that number
pub into_one : (edge : ℕ → ℕ → Bool) (one r v : ℕ) → ((q : ℕ) → is_in one q ≡ (eqb q r || is_in 0 q)) → LeadsInto edge one v ↔ (edge v r ≡ true)
into_one edge one r v e = (
  λ i. subst (λ q. edge v q ≡ true) (eqb-true i.over r (sym (is_in-one one r e i.over) ∙ i.member)) i.leads,
  λ h. record { over = r; member = is_in-one one r e r ∙ eq-eqb r r refl; leads = h },
)

-- the numbers below the bound that lead into the set
pub record IsBefore (edge : ℕ → ℕ → Bool) (set found bound : ℕ) : Type 0 where
  pub known : bound ≤ 64
  pub below : (v : ℕ) → v < bound → (is_in found v ≡ true) ↔ LeadsInto edge set v
  pub above : (v : ℕ) → bound ≤ v → is_in found v ≡ false

pub before_none : (edge : ℕ → ℕ → Bool) (set : ℕ) → IsBefore edge set 0 0
before_none edge set = record { known = omega arith; below = λ v l. absurd (omega arith); above = λ v l. is_in-zero v }

-- numbers that don't lead into the set are passed by
pub before_on : (edge : ℕ → ℕ → Bool) (set found bound next : ℕ) → bound ≤ next → next ≤ 64 → ((v : ℕ) → bound ≤ v → v < next → LeadsInto edge set v → ⊥) → IsBefore edge set found bound → IsBefore edge set found next
before_on edge set found bound next upto known none h = record {
  known = known;
  below = λ v l. elim (cases_lt v bound) [
    | inl within ↦ h.below v within
    | inr past ↦ (
      λ t. absurd (both_ways (is_in found v) (h.above v past) t),
      λ i. absurd (none v past l i),
    )
  ];
  above = λ v l. h.above v (omega arith);
}

-- one more that leads into the set
pub before_with : (edge : ℕ → ℕ → Bool) (set found more bound : ℕ) → bound < 64 → ((q : ℕ) → is_in more q ≡ (eqb q bound || is_in found q)) → LeadsInto edge set bound → IsBefore edge set found bound → IsBefore edge set more (bound + 1)
before_with edge set found more bound known e leads h = record {
  known = omega arith;
  below = λ v l. elim (cases_eq v bound) [
    | inl same ↦ (λ t. subst (λ k. LeadsInto edge set k) (sym same) leads, λ i. e v ∙ rw (eq-eqb v bound same) refl)
    | inr other ↦ (
        let rest : is_in more v ≡ is_in found v = e v ∙ rw (ne_eqb v bound other) refl in
        let b = h.below v (omega arith) in
        (λ t. b.0 (sym rest ∙ t), λ i. rest ∙ b.1 i)
        )
  ];
  above = λ v l. e v ∙ rw (ne_eqb v bound (omega arith)) (h.above v (omega arith));
}

-- one more that doesn't
pub before_without : (edge : ℕ → ℕ → Bool) (set found bound : ℕ) → bound < 64 → (LeadsInto edge set bound → ⊥) → IsBefore edge set found bound → IsBefore edge set found (bound + 1)
before_without edge set found bound known none h =
    before_on edge set found bound (bound + 1) (omega arith) (omega arith) (λ v a b. let same : v ≡ bound = omega arith in subst (λ k. LeadsInto edge set k → ⊥) (sym same) none) h

-- what is no source doesn't lead into a set
pub no_source : (edge : ℕ → ℕ → Bool) (sources set v : ℕ) → v < 64 → ((a q : ℕ) → a < 64 → edge a q ≡ true → is_in sources a ≡ true) → is_in sources v ≡ false → LeadsInto edge set v → ⊥
no_source edge sources set v known all f i = both_ways (is_in sources v) f (all v i.over known i.leads)

-- a number that a row and a set both have
pub both_member : (edge : ℕ → ℕ → Bool) (row set at q : ℕ) → ((v : ℕ) → is_in row v ≡ edge at v) → is_in (bit_and row set) q ≡ true → (edge at q ≡ true) × (is_in set q ≡ true)
both_member edge row set at q row_is h = let b = and_parts (is_in row q) (is_in set q) (sym (is_in-and row set q) ∙ h) in (sym (row_is q) ∙ b.0, b.1)

pub member_both : (edge : ℕ → ℕ → Bool) (row set at q : ℕ) → ((v : ℕ) → is_in row v ≡ edge at v) → edge at q ≡ true → is_in set q ≡ true → is_in (bit_and row set) q ≡ true
member_both edge row set at q row_is e m = is_in-and row set q ∙ and_from (is_in row q) (is_in set q) (row_is q ∙ e) m

-- what holds anyway holds where there is no value
pub if_none : {A : Type 0} {P : Type 0} (o : Option A) → P → IfNone o P
if_none None p = p
if_none (Some x) p = tt

-- where a next number in the set was found, the number leads into it
pub next_leads : (edge : ℕ → ℕ → Bool) (set at : ℕ) (o : Option RobotNo) → is_some o ≡ true → IfSome o (λ q. edge at q.0 ≡ true) → IfSome o (λ q. is_in set q.0 ≡ true) → LeadsInto edge set at
next_leads edge set at (Some q) h e m = record { over = q.0; member = m; leads = e }
next_leads edge set at None h e m = absurd (cc)

-- where none was found, it doesn't
pub next_none : {P : Type 0} (o : Option RobotNo) → is_some o ≡ false → IfNone o (P → ⊥) → P → ⊥
next_none (Some q) h n = absurd (cc)
next_none None h n = n
