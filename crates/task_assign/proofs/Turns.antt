-- Columns that are exchanged along a way.
use Rattle.std.proofs.Common.{◌≡◌, ℕ, ◌<◌, ◌≤◌, Bool, true, cond, eqb, ◌⊎◌, inl, inr, refl, sym, ap, ◌∙◌, subst, arith}
use Rattle.std.proofs.lemmas.Bool.{cases_eq, eq-eqb, ne_eqb}
use Rattle.task_assign.specs.Pairings.{IsPairing}
use Rattle.task_assign.specs.Bounds.{AreExchanged}
use Rattle.task_assign.specs.Trees.{row_in, from_in, IsTree, AreLinked, IsTurned}
use Rattle.task_assign.specs.declared.tree.Tree.{Tree}

-- the other of two numbers, and any third number itself
abbrev pub partner : ℕ → ℕ → ℕ → ℕ
partner a b k = cond (eqb k a) b (cond (eqb k b) a k)

module _ (a b : ℕ) where
  partner_first : (k : ℕ) → k ≡ a → partner a b k ≡ b
  partner_first k e = ap (λ t. cond t b (cond (eqb k b) a k)) (eq-eqb k a e)

  partner_second : (k : ℕ) → (k ≡ a → ⊥) → k ≡ b → partner a b k ≡ a
  partner_second k off e = ap (λ t. cond t b (cond (eqb k b) a k)) (ne_eqb k a off) ∙ ap (λ t. cond t a k) (eq-eqb k b e)

  partner_third : (k : ℕ) → (k ≡ a → ⊥) → (k ≡ b → ⊥) → partner a b k ≡ k
  partner_third k off other = ap (λ t. cond t b (cond (eqb k b) a k)) (ne_eqb k a off) ∙ ap (λ t. cond t a k) (ne_eqb k b other)

  partner_twice : (k : ℕ) → partner a b (partner a b k) ≡ k
  partner_twice k =
      elim (cases_eq k a) [
        | inl first ↦ ap (partner a b) (partner_first k first) ∙ elim (cases_eq b a) [
          | inl same ↦ partner_first b same ∙ same ∙ sym first
          | inr apart ↦ partner_second b apart refl ∙ sym first
        ]
        | inr off ↦ elim (cases_eq k b) [
          | inl second ↦ ap (partner a b) (partner_second k off second) ∙ partner_first a refl ∙ sym second
          | inr other ↦ ap (partner a b) (partner_third k off other) ∙ partner_third k off other
        ]
      ]

  partner_below : (n k : ℕ) → a < n → b < n → k < n → partner a b k < n
  partner_below n k la lb lk =
      elim (cases_eq k a) [
        | inl first ↦ subst (λ x. x < n) (sym (partner_first k first)) lb
        | inr off ↦ elim (cases_eq k b) [
          | inl second ↦ subst (λ x. x < n) (sym (partner_second k off second)) la
          | inr other ↦ subst (λ x. x < n) (sym (partner_third k off other)) lk
        ]
      ]

  exchanged_at : (p q : ℕ → ℕ) → AreExchanged p q a b → (k : ℕ) → q k ≡ p (partner a b k)
  exchanged_at p q e k =
      elim (cases_eq k a) [
        | inl first ↦ ap q first ∙ e.at_first ∙ ap p (sym (partner_first k first))
        | inr off ↦ elim (cases_eq k b) [
          | inl second ↦ ap q second ∙ e.at_second ∙ ap p (sym (partner_second k off second))
          | inr other ↦ e.others k off other ∙ ap p (sym (partner_third k off other))
        ]
      ]

  -- an exchange leaves a permutation
  pub exchanged_pairing : (n : ℕ) (p q : ℕ → ℕ) → a < n → b < n → AreExchanged p q a b → IsPairing n p → IsPairing n q
  exchanged_pairing n p q la lb e h = record {
    below = λ i l. subst (λ c. c < n) (sym (exchanged_at p q e i)) (h.below (partner a b i) (partner_below n i la lb l));
    apart = λ i k l m s.
        let same : partner a b i ≡ partner a b k = h.apart (partner a b i) (partner a b k) (partner_below n i la lb l) (partner_below n k la lb m) (sym (exchanged_at p q e i) ∙ s ∙ exchanged_at p q e k) in
        sym (partner_twice i) ∙ ap (partner a b) same ∙ partner_twice k;
  }

-- in the midst of a turn at a place of the tree: the row there meets the column that the end's row has by now
pub record IsTurning (tight : ℕ → ℕ → Bool) (t : Tree) (row place : ℕ) (before now : ℕ → ℕ) : Type 0 where
  pub met : tight (row_in t place) (now row) ≡ true
  pub ahead : (q : ℕ) → q ≤ place → (row_in t q ≡ row → ⊥) → now (row_in t q) ≡ before (row_in t q)
  pub others : (x : ℕ) → (x ≡ row → ⊥) → (now x ≡ before x) ⊎ (tight x (now x) ≡ true)
  pub kept : (x : ℕ) → x ≤ t.last → (x ≡ row → ⊥) → now x ≡ before x

module _ (tight : ℕ → ℕ → Bool) (t : Tree) (row : ℕ) (before : ℕ → ℕ) where
  pub turning_first : (place : ℕ) → tight (row_in t place) (before row) ≡ true → IsTurning tight t row place before before
  turning_first place met = record { met = met; ahead = λ q l o. refl; others = λ x o. inl refl; kept = λ x l o. refl }

  pub turning_more : (place : ℕ) (now next : ℕ → ℕ) → IsTree t → AreLinked tight before t → row ≤ t.last → 0 < place → place < t.count → AreExchanged now next row (row_in t place) → IsTurning tight t row place before now → IsTurning tight t row (from_in t place) before next
  turning_more place now next a linked ends some known e h =
      let behind : t.last < row_in t place = a.behind place some known in
      let earlier : from_in t place < place = a.before place some known in
      let apart : row_in t place ≡ row → ⊥ = λ s. let x : row_in t place ≡ row = s in omega arith in
      let column : next row ≡ before (row_in t place) = e.at_first ∙ h.ahead place (omega arith) apart in
      record {
        met = subst (λ c. tight (row_in t (from_in t place)) c ≡ true) (sym column) (linked place some known);
        ahead = λ q l o.
            let other : row_in t q ≡ row_in t place → ⊥ = λ s. let same : q ≡ place = a.apart q place (omega arith) known s in omega arith in
            e.others (row_in t q) o other ∙ h.ahead q (omega arith) o;
        others = λ x o. elim (cases_eq x (row_in t place)) [
          | inl here ↦ inr (subst (λ r. tight r (next r) ≡ true) (sym here) (subst (λ c. tight (row_in t place) c ≡ true) (sym e.at_second) h.met))
          | inr off ↦ elim (h.others x o) [
            | inl same ↦ inl (e.others x o off ∙ same)
            | inr met ↦ inr (subst (λ c. tight x c ≡ true) (sym (e.others x o off)) met)
          ]
        ];
        kept = λ x l o.
            let off : x ≡ row_in t place → ⊥ = λ s. let y : x ≡ row_in t place = s in omega arith in
            e.others x o off ∙ h.kept x l o;
      }

  turned_root : (now next : ℕ → ℕ) → AreExchanged now next row (row_in t 0) → IsTurning tight t row 0 before now → next (row_in t 0) ≡ now row
  turned_root now next e h =
      elim (cases_eq (row_in t 0) row) [
        | inl same ↦ ap next same ∙ e.at_first ∙ ap now same
        | inr off ↦ e.at_second
      ]

  pub turning_last : (place : ℕ) (now next : ℕ → ℕ) → place ≡ 0 → AreExchanged now next row (row_in t 0) → IsTurning tight t row place before now → IsTurned tight t row before next
  turning_last place now next none e h' =
      let h : IsTurning tight t row 0 before now = subst (λ k. IsTurning tight t row k before now) none h' in
      let root : tight (row_in t 0) (next (row_in t 0)) ≡ true = subst (λ c. tight (row_in t 0) c ≡ true) (sym (turned_root now next e h)) h.met in
      record {
        root = root;
        others = λ x o. elim (cases_eq x (row_in t 0)) [
          | inl here ↦ inr (subst (λ r. tight r (next r) ≡ true) (sym here) root)
          | inr off ↦ elim (h.others x o) [
            | inl same ↦ inl (e.others x o off ∙ same)
            | inr met ↦ inr (subst (λ c. tight x c ≡ true) (sym (e.others x o off)) met)
          ]
        ];
        given = λ o. e.at_first ∙ h.ahead 0 (omega arith) (λ s. o (sym s));
        kept = λ x l o off. e.others x o off ∙ h.kept x l o;
      }
