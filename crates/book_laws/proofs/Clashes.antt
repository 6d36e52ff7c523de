-- The search for a clash of starts finds the least one, or there is none.
use Rattle.std.proofs.Common.{◌≡◌, ◌≢◌, ◌↔◌, ℕ, zero, suc, ◌+◌, ◌<◌, ◌≤◌, ◌==◌, ◌⊎◌, inl, inr, Bool, true, false, List, [], ◌∷◌, length, Option, Some, None, ap, sym, subst, refl, ◌∙◌, arith, cond, add-zero, zero-add, eq-eqb}
use Rattle.std.proofs.lemmas.Bool.{both_ways, cases_lt, ne_eqb}
use Rattle.std.proofs.lemmas.Option.{same_Some}
use Rattle.std.specs.Prelude.{slice_get}
use Rattle.std.specs.List.{find}
use Rattle.std.specs.Option.{option_map}
use Rattle.fleet_base.specs.Lists.{RiseFrom}
use Rattle.fleet_base.specs.declared.numbers.CellNo.{CellNo}
use Rattle.fleet_base.specs.declared.numbers.ClaimNo.{ClaimNo}
use Rattle.fleet_base.specs.declared.numbers.RobotNo.{RobotNo}
use Rattle.fleet_model.specs.Lists.{In, first_some, when}
use Rattle.fleet_model.specs.Replays.{opening, start_at}
use Rattle.fleet_model.specs.Sites.{IsSite, Site, footprint_of, has_claim, in_conflict, is_kept_from}
use Rattle.fleet_model.proofs.Blockers.{In_has, has_In}
use Rattle.fleet_model.proofs.Lists.{In_either}
use Rattle.fleet_model.proofs.SameNumbers.{same_claim}
use Rattle.fleet_model.proofs.Tests.{In_any, any_In, found_In}
use Rattle.coordinator.specs.declared.refused.NewRefused.{NewRefused}
use Rattle.coordinator.specs.declared.refused.NewRefused.TheVariants.{Clash, NoRobot}
use Rattle.coordinator.specs.Openings.{AreApart, IsClash, IsLeastClash, clash_by, clash_from, clash_with, kept_claim, opening_cause}
use Rattle.coordinator.proofs.Apart.{apart, holds_at, kept_apart, with_apart}

-- two orders of three numbers, each no later than the other, are one
same_three : (i j c k l d : ℕ) → (i < k) ⊎ ((i ≡ k) × ((j < l) ⊎ ((j ≡ l) × (c ≤ d)))) → (k < i) ⊎ ((k ≡ i) × ((l < j) ⊎ ((l ≡ j) × (d ≤ c)))) → (i ≡ k) × (j ≡ l) × (c ≡ d)
same_three i j c k l d x y = (grind arith, grind arith, grind arith)

-- each claim of a rising list is no less than its bound
rise_bound : (low : ℕ) (claims : List ClaimNo) (d : ClaimNo) → RiseFrom low claims → In d claims → low ≤ d.0
rise_bound low [] d rise member = elim member [ ]
rise_bound low (c ∷ cs) d rise member =
    In_either member (λ same. let above = rise.0 in omega (arith, ap (λ (x : ClaimNo). x.0) same)) (λ behind. let above = rise.0 in let more = rise_bound (c.0 + 1) cs d rise.1 behind in omega arith)

-- what is found in a rising list is the least that passes
find_least : (p : ClaimNo → Bool) (low : ℕ) (claims : List ClaimNo) (c d : ClaimNo) → RiseFrom low claims → find p claims ≡ Some c → In d claims → p d ≡ true → c.0 ≤ d.0
find_least p low [] c d rise found member passes = elim member [ ]
find_least p low (x ∷ xs) c d rise found member passes = go (p x) refl found (λ h i. find_least p (x.0 + 1) xs c d rise.1 h i passes)
  where
    go : (b : Bool) → p x ≡ b → cond b (Some x) (find p xs) ≡ Some c → (find p xs ≡ Some c → In d xs → c.0 ≤ d.0) → c.0 ≤ d.0
    go true is h later =
        let same : x ≡ c = cc in
        let number : x.0 ≡ c.0 = ap (λ (y : ClaimNo). y.0) same in
        In_either member (λ e. omega (arith, ap (λ (y : ClaimNo). y.0) e)) (λ i. let above = rise_bound (x.0 + 1) xs d rise.1 i in omega arith)
    go false is h later = In_either member (λ e. absurd (both_ways (p x) is (subst (λ y. p y ≡ true) e passes))) (λ i. later h i)

first_alone : {A : Type 0} (o : Option A) → first_some (o ∷ []) ≡ o
first_alone None = refl
first_alone (Some x) = refl

-- the clash of a robot in this cell with the first of the others that has one
record IsMet (site : Site) (a : CellNo) (others : List CellNo) (one other : ℕ) (found : NewRefused) : Type 0 where
  at : ℕ
  to : CellNo
  stands : slice_get others at ≡ Some to
  claim : ClaimNo
  kept : kept_claim site a to ≡ Some claim
  is : found ≡ clash_by one (other + at) claim
  first : (k : ℕ) (b : CellNo) → k < at → slice_get others k ≡ Some b → kept_claim site a b ≡ None

with_met : (site : Site) (one : ℕ) (a : CellNo) (other : ℕ) (others : List CellNo) (found : NewRefused) → clash_with site one a other others ≡ Some found → IsMet site a others one other found
with_met site one a other [] found h = absurd (cc)
with_met site one a other (b ∷ bs) found h = go (kept_claim site a b) refl h (λ g. with_met site one a (other + 1) bs found g)
  where
    front : (m : IsMet site a bs one (other + 1) found) → kept_claim site a b ≡ None → (k : ℕ) (y : CellNo) → k < suc m.at → slice_get (b ∷ bs) k ≡ Some y → kept_claim site a y ≡ None
    front m none zero y less stands = subst (λ z. kept_claim site a z ≡ None) (same_Some b y stands) none
    front m none (suc k) y less stands = m.first k y (omega arith) stands

    go : (o : Option ClaimNo) → kept_claim site a b ≡ o → first_some (option_map (clash_by one other) o ∷ clash_with site one a (other + 1) bs ∷ []) ≡ Some found → (clash_with site one a (other + 1) bs ≡ Some found → IsMet site a bs one (other + 1) found) → IsMet site a (b ∷ bs) one other found
    go (Some c) is h later = record {
      at = 0;
      to = b;
      stands = refl;
      claim = c;
      kept = is;
      is = sym (same_Some (clash_by one other c) found h) ∙ ap (λ n. clash_by one n c) (sym (add-zero other));
      first = λ k y less stands. absurd (omega arith);
    }
    go None is h later =
        let m = later (sym (first_alone (clash_with site one a (other + 1) bs)) ∙ h) in
        let same : other + 1 + m.at ≡ other + suc m.at = omega arith in
        record { at = suc m.at; to = m.to; stands = m.stands; claim = m.claim; kept = m.kept; is = m.is ∙ ap (λ n. clash_by one n m.claim) same; first = front m is }

-- the clash of the first two robots that have one
record IsFound (site : Site) (starts : List CellNo) (n : ℕ) (found : NewRefused) : Type 0 where
  one : ℕ
  other : ℕ
  lesser : one < other
  from : CellNo
  one_stands : slice_get starts one ≡ Some from
  to : CellNo
  other_stands : slice_get starts other ≡ Some to
  claim : ClaimNo
  kept : kept_claim site from to ≡ Some claim
  is : found ≡ clash_by (n + one) (n + other) claim
  first : (i j : ℕ) (a b : CellNo) → i < j → slice_get starts i ≡ Some a → slice_get starts j ≡ Some b → (i < one) ⊎ ((i ≡ one) × (j < other)) → kept_claim site a b ≡ None

module _ (site : Site) (n : ℕ) (x : CellNo) (xs : List CellNo) (found : NewRefused) where
  -- the first robot clashes with the first of those behind it that has a clash with it
  head_first : (m : IsMet site x xs n (n + 1) found) (i j : ℕ) (a b : CellNo) → i < j → slice_get (x ∷ xs) i ≡ Some a → slice_get (x ∷ xs) j ≡ Some b → (i < 0) ⊎ ((i ≡ 0) × (j < suc m.at)) → kept_claim site a b ≡ None
  head_first m i zero a b less ai bj before = absurd (omega arith)
  head_first m zero (suc j) a b less ai bj before =
      let within : j < m.at = elim before [ inl l ↦ absurd (omega arith) | inr e ↦ (let l = e.1 in omega arith) ] in
      subst (λ z. kept_claim site z b ≡ None) (same_Some x a ai) (m.first j b within bj)
  head_first m (suc i) (suc j) a b less ai bj before = elim before [ inl l ↦ absurd (omega arith) | inr e ↦ absurd (let k = e.0 in omega arith) ]

  at_head : IsMet site x xs n (n + 1) found → IsFound site (x ∷ xs) n found
  at_head m =
      let one_is : n ≡ n + 0 = omega arith in
      let other_is : n + 1 + m.at ≡ n + suc m.at = omega arith in
      record {
        one = 0;
        other = suc m.at;
        lesser = omega arith;
        from = x;
        one_stands = refl;
        to = m.to;
        other_stands = m.stands;
        claim = m.claim;
        kept = m.kept;
        is = m.is ∙ ap (λ k. clash_by n k m.claim) other_is ∙ ap (λ k. clash_by k (n + suc m.at) m.claim) one_is;
        first = head_first m;
      }

  -- the first robot clashes with none
  tail_first : clash_with site n x (n + 1) xs ≡ None → (f : IsFound site xs (n + 1) found) (i j : ℕ) (a b : CellNo) → i < j → slice_get (x ∷ xs) i ≡ Some a → slice_get (x ∷ xs) j ≡ Some b → (i < suc f.one) ⊎ ((i ≡ suc f.one) × (j < suc f.other)) → kept_claim site a b ≡ None
  tail_first none f i zero a b less ai bj before = absurd (omega arith)
  tail_first none f zero (suc j) a b less ai bj before = subst (λ z. kept_claim site z b ≡ None) (same_Some x a ai) (with_apart site n x (n + 1) xs j b none bj)
  tail_first none f (suc i) (suc j) a b less ai bj before =
      f.first i j a b (omega arith) ai bj (elim before [ inl l ↦ inl (omega arith) | inr e ↦ inr (let k = e.0 in omega arith, let k = e.1 in omega arith) ])

  in_tail : clash_with site n x (n + 1) xs ≡ None → IsFound site xs (n + 1) found → IsFound site (x ∷ xs) n found
  in_tail none f =
      let one_is : n + 1 + f.one ≡ n + suc f.one = omega arith in
      let other_is : n + 1 + f.other ≡ n + suc f.other = omega arith in
      record {
        one = suc f.one;
        other = suc f.other;
        lesser = let l = f.lesser in omega arith;
        from = f.from;
        one_stands = f.one_stands;
        to = f.to;
        other_stands = f.other_stands;
        claim = f.claim;
        kept = f.kept;
        is = f.is ∙ ap (λ k. clash_by k (n + 1 + f.other) f.claim) one_is ∙ ap (λ k. clash_by (n + suc f.one) k f.claim) other_is;
        first = tail_first none f;
      }

from_found : (site : Site) (n : ℕ) (starts : List CellNo) (found : NewRefused) → clash_from site n starts ≡ Some found → IsFound site starts n found
from_found site n [] found h = absurd (cc)
from_found site n (x ∷ xs) found h = go (clash_with site n x (n + 1) xs) refl h (λ g. from_found site (n + 1) xs found g)
  where
    go : (o : Option NewRefused) → clash_with site n x (n + 1) xs ≡ o → first_some (o ∷ clash_from site (n + 1) xs ∷ []) ≡ Some found → (clash_from site (n + 1) xs ≡ Some found → IsFound site xs (n + 1) found) → IsFound site (x ∷ xs) n found
    go (Some f) is h later = at_head site n x xs found (with_met site n x (n + 1) xs found (is ∙ h))
    go None is h later = in_tail site n x xs found is (later (sym (first_alone (clash_from site (n + 1) xs)) ∙ h))

-- a refusal that names the least clash
record NamesLeast (site : Site) (starts : List CellNo) (found : NewRefused) : Type 0 where
  one : ℕ
  other : ℕ
  claim : ClaimNo
  is : found ≡ clash_by one other claim
  least : IsLeastClash site starts one other claim

module _ (site : Site) (is_site : IsSite site) (starts : List CellNo) where
  module _ (found : NewRefused) (f : IsFound site starts 0 found) where
    -- the claim of the one conflicts with this one of the other
    inside : In f.claim (footprint_of site f.from) × (is_kept_from site f.claim f.to ≡ true)
    inside = found_In (λ c. is_kept_from site c f.to) (footprint_of site f.from) f.claim f.kept

    met : (d : ClaimNo) × In d (footprint_of site f.to) × (in_conflict site.groups f.claim d ≡ true)
    met = any_In (λ d. in_conflict site.groups f.claim d) (footprint_of site f.to) inside.1

    clash : IsClash site starts f.one f.other f.claim
    clash = record {
      lesser = f.lesser;
      holds = ap (λ o. (start_at site o).holds f.claim) f.one_stands ∙ In_has (footprint_of site f.from) f.claim inside.0;
      against = met.0;
      held = ap (λ o. (start_at site o).holds met.0) f.other_stands ∙ In_has (footprint_of site f.to) met.0 met.1;
      conflict = met.2;
    }

    module _ (first second : ℕ) (by : ClaimNo) (k : IsClash site starts first second by) where
      a : (c : CellNo) × (slice_get starts first ≡ Some c) × (has_claim (footprint_of site c) by ≡ true)
      a = holds_at site starts first by k.holds

      b : (c : CellNo) × (slice_get starts second ≡ Some c) × (has_claim (footprint_of site c) k.against ≡ true)
      b = holds_at site starts second k.against k.held

      -- no clash comes before the one that is found
      not_before : (first < f.one) ⊎ ((first ≡ f.one) × (second < f.other)) → ⊥
      not_before before = kept_apart site a.0 b.0 by k.against (f.first first second a.0 b.0 k.lesser a.1 b.1 before) a.2 b.2 k.conflict

      -- of the same robots' clashes the claim is the least
      least_claim : first ≡ f.one → second ≡ f.other → f.claim.0 ≤ by.0
      least_claim one_same other_same =
          let from : a.0 ≡ f.from = same_Some a.0 f.from (sym a.1 ∙ ap (λ i. slice_get starts i) one_same ∙ f.one_stands) in
          let to : b.0 ≡ f.to = same_Some b.0 f.to (sym b.1 ∙ ap (λ i. slice_get starts i) other_same ∙ f.other_stands) in
          find_least (λ c. is_kept_from site c f.to) 0 (footprint_of site f.from) f.claim by (is_site.ascending f.from) f.kept
          (has_In (footprint_of site f.from) by (subst (λ c. has_claim (footprint_of site c) by ≡ true) from a.2))
          (In_any (λ d. in_conflict site.groups by d) (footprint_of site f.to) (has_In (footprint_of site f.to) k.against (subst (λ c. has_claim (footprint_of site c) k.against ≡ true) to b.2)) k.conflict)

      claim_behind : f.one ≡ first → (f.other < second) ⊎ (second ≤ f.other) → (f.other < second) ⊎ ((f.other ≡ second) × (f.claim.0 ≤ by.0))
      claim_behind one_same (inl less) = inl less
      claim_behind one_same (inr more) = elim (cases_lt second f.other) [
        | inl less ↦ absurd (not_before (inr (sym one_same, less)))
        | inr upto ↦ (let same : f.other ≡ second = omega arith in inr (same, least_claim (sym one_same) (sym same)))
      ]

      robots_behind : (f.one < first) ⊎ (first ≤ f.one) → (f.one < first) ⊎ ((f.one ≡ first) × ((f.other < second) ⊎ ((f.other ≡ second) × (f.claim.0 ≤ by.0))))
      robots_behind (inl less) = inl less
      robots_behind (inr more) = elim (cases_lt first f.one) [
        | inl less ↦ absurd (not_before (inl less))
        | inr upto ↦ (let same : f.one ≡ first = omega arith in inr (same, claim_behind same (cases_lt f.other second)))
      ]

    least : IsLeastClash site starts f.one f.other f.claim
    least = record { clash = clash; least = λ first second by k. robots_behind first second by k (cases_lt f.one first) }

  names_least : (found : NewRefused) → clash_from site 0 starts ≡ Some found → NamesLeast site starts found
  names_least found is =
      let f = from_found site 0 starts found is in
      record { one = f.one; other = f.other; claim = f.claim; is = f.is ∙ ap (λ k. clash_by k (0 + f.other) f.claim) (zero-add f.one) ∙ ap (λ k. clash_by f.one k f.claim) (zero-add f.other); least = least found f }

  -- one clash is the least
  least_is_one : (i j : ℕ) (c : ClaimNo) (k l : ℕ) (d : ClaimNo) → IsLeastClash site starts i j c → IsLeastClash site starts k l d → (i ≡ k) × (j ≡ l) × (c ≡ d)
  least_is_one i j c k l d x y =
      let n = same_three i j c.0 k l d.0 (x.least k l d y.clash) (y.least i j c x.clash) in
      (n.0, n.1, same_claim c d (eq-eqb c.0 d.0 n.2))

  clashes : (one other : ℕ) (claim : ClaimNo) → IsClash site starts one other claim → AreApart site starts → ⊥
  clashes one other claim k apart = apart one other claim k.against (λ same. let l = k.lesser in omega arith) k.conflict k.holds k.held

  pub none_apart : (clash_from site 0 starts ≡ None) ↔ AreApart site starts
  none_apart = (λ none. apart site starts 0 none, λ are. go are (clash_from site 0 starts) refl)
    where
      go : AreApart site starts → (o : Option NewRefused) → clash_from site 0 starts ≡ o → o ≡ None
      go are None is = refl
      go are (Some found) is = let l = names_least found is in absurd (clashes l.one l.other l.claim l.least.clash are)

  pub named_least : (one other : RobotNo) (claim : ClaimNo) → (clash_from site 0 starts ≡ Some (Clash one other claim)) ↔ IsLeastClash site starts one.0 other.0 claim
  named_least one other claim = (
    λ is.
        let l = names_least (Clash one other claim) is in
        let names = l.is in
        let same_one : one ≡ record { 0 = l.one } = cc in
        let same_other : other ≡ record { 0 = l.other } = cc in
        let same_by : claim ≡ l.claim = cc in
        subst (λ c. IsLeastClash site starts one.0 other.0 c) (sym same_by)
        (subst (λ (q : RobotNo). IsLeastClash site starts one.0 q.0 l.claim) (sym same_other)
        (subst (λ (r : RobotNo). IsLeastClash site starts r.0 l.other l.claim) (sym same_one) l.least)),
    λ least. go least (clash_from site 0 starts) refl,
  )
    where
      go : IsLeastClash site starts one.0 other.0 claim → (o : Option NewRefused) → clash_from site 0 starts ≡ o → o ≡ Some (Clash one other claim)
      go least None is = absurd (clashes one.0 other.0 claim least.clash (none_apart.0 is))
      go least (Some found) is =
          let l = names_least found is in
          let same = least_is_one l.one l.other l.claim one.0 other.0 claim l.least least in
          ap (λ x. Some x) (l.is ∙ ap (λ k. clash_by k l.other l.claim) same.0 ∙ ap (λ k. clash_by one.0 k l.claim) same.1 ∙ ap (λ c. clash_by one.0 other.0 c) same.2)

-- where there is a robot, the first cause is the clash
cause_is : (site : Site) (a : CellNo) (rest : List CellNo) → opening_cause site (a ∷ rest) ≡ clash_from site 0 (a ∷ rest)
cause_is site a rest = ap (λ b. first_some (when b NoRobot ∷ clash_from site 0 (a ∷ rest) ∷ [])) (ne_eqb (length (a ∷ rest)) 0 (λ none. omega arith)) ∙ first_alone (clash_from site 0 (a ∷ rest))

pub cause_none : (site : Site) → IsSite site → (starts : List CellNo) → (opening_cause site starts ≡ None) ↔ ((starts ≢ []) × AreApart site starts)
cause_none site is_site [] = (λ none. absurd (cc), λ p. absurd (p.0 refl))
cause_none site is_site (a ∷ rest) =
    let is = cause_is site a rest in
    let exactly = none_apart site is_site (a ∷ rest) in
    (λ none. (λ empty. cc, exactly.0 (sym is ∙ none)), λ p. is ∙ exactly.1 p.1)

pub cause_no_robot : (site : Site) → IsSite site → (starts : List CellNo) → (opening_cause site starts ≡ Some NoRobot) ↔ (starts ≡ [])
cause_no_robot site is_site [] = (λ said. refl, λ empty. refl)
cause_no_robot site is_site (a ∷ rest) = (
  λ said. absurd (let l = names_least site is_site (a ∷ rest) NoRobot (sym (cause_is site a rest) ∙ said) in let names = l.is in cc),
  λ empty. absurd (cc),
)

pub cause_clash : (site : Site) → IsSite site → (starts : List CellNo) (one other : RobotNo) (claim : ClaimNo) → (opening_cause site starts ≡ Some (Clash one other claim)) ↔ IsLeastClash site starts one.0 other.0 claim
cause_clash site is_site [] one other claim = (λ said. absurd (cc), λ least. absurd (let a = holds_at site [] one.0 claim least.clash.holds in let none = a.1 in cc))
cause_clash site is_site (a ∷ rest) one other claim =
    let is = cause_is site a rest in
    let exactly = named_least site is_site (a ∷ rest) one other claim in
    (λ said. exactly.0 (sym is ∙ said), λ least. is ∙ exactly.1 least)
