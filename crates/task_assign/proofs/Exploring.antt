-- What a tree has reached from one row, and from the rows before a place.
use Rattle.std.proofs.Common.{◌≡◌, ℕ, ◌+◌, ◌<◌, ◌≤◌, Bool, true, inl, inr, sym, ap, ◌∙◌, subst, arith}
use Rattle.std.proofs.lemmas.Bool.{cases_eq}
use Rattle.task_assign.specs.Trees.{row_in, is_reached, IsTree, AreLinked, IsGrown, IsExplored, IsClosed}
use Rattle.task_assign.specs.declared.tree.Tree.{Tree}
use Rattle.task_assign.proofs.TreeLemmas.{count_upto, grown_itself, grown_more}

-- of the rows before another those were reached whose columns the row meets
abbrev pub IsExploredUpto : (ℕ → ℕ → Bool) → (ℕ → ℕ) → Tree → ℕ → ℕ → Type 0
IsExploredUpto tight column t row at = (b : ℕ) → t.first ≤ b → b < at → tight row (column b) ≡ true → (t.last < b) × (is_reached t b ≡ true)

pub record IsExploring (tight : ℕ → ℕ → Bool) (column : ℕ → ℕ) (start now : Tree) (row at : ℕ) : Type 0 where
  pub tree : IsTree now
  pub grown : IsGrown start now
  pub linked : AreLinked tight column now
  pub upto : IsExploredUpto tight column now row at

module _ (tight : ℕ → ℕ → Bool) (column : ℕ → ℕ) where
  pub exploring_first : (t : Tree) (row : ℕ) → IsTree t → AreLinked tight column t → IsExploring tight column t t row t.first
  exploring_first t row a linked = record { tree = a; grown = grown_itself t; linked = linked; upto = λ b l m. absurd (omega arith) }

  pub exploring_more : (start now next : Tree) (row at : ℕ) → IsExploring tight column start now row at → IsTree next → IsGrown now next → AreLinked tight column next → (tight row (column at) ≡ true → (next.last < at) × (is_reached next at ≡ true)) → IsExploring tight column start next row (at + 1)
  exploring_more start now next row at h a g linked here = record {
    tree = a;
    grown = grown_more start now next h.grown g;
    linked = linked;
    upto = λ b l m t. elim (cases_eq b at) [
      | inl same ↦ subst (λ k. (next.last < k) × (is_reached next k ≡ true)) (sym same) (here (subst (λ k. tight row (column k) ≡ true) same t))
      | inr other ↦
          let first = g.first_kept in
          let last = g.last_kept in
          let old = h.upto b (omega arith) (omega arith) t in
          let behind : now.last < b = old.0 in
          (omega arith, g.reached_kept b old.1)
    ];
  }

  -- nothing changes at a row that isn't met, or was reached
  pub exploring_same : (start now : Tree) (row at : ℕ) → IsExploring tight column start now row at → (tight row (column at) ≡ true → (now.last < at) × (is_reached now at ≡ true)) → IsExploring tight column start now row (at + 1)
  exploring_same start now row at h here = exploring_more start now now row at h h.tree (grown_itself now) h.linked here

  -- all rows at places before one were explored
  pub record IsGrowing (start now : Tree) (at : ℕ) : Type 0 where
    pub tree : IsTree now
    pub grown : IsGrown start now
    pub linked : AreLinked tight column now
    pub explored : (q : ℕ) → q < at → q < now.count → IsExplored tight column now (row_in now q)

  pub growing_first : (t : Tree) → IsTree t → AreLinked tight column t → IsGrowing t t 0
  growing_first t a linked = record { tree = a; grown = grown_itself t; linked = linked; explored = λ q l m. absurd (omega arith) }

  pub growing_more : (start now next : Tree) (at : ℕ) → at < now.count → IsGrowing start now at → IsTree next → IsGrown now next → AreLinked tight column next → IsExplored tight column next (row_in now at) → IsGrowing start next (at + 1)
  growing_more start now next at known h a g linked here = record {
    tree = a;
    grown = grown_more start now next h.grown g;
    linked = linked;
    explored = λ q l m. elim (cases_eq q at) [
      | inl same ↦ subst (λ r. IsExplored tight column next r) (sym (ap (row_in next) same ∙ g.rows_kept at known)) here
      | inr other ↦
          let old = h.explored q (omega arith) (omega arith) in
          let first = g.first_kept in
          let last = g.last_kept in
          let size = g.size_kept in
          subst (λ r. IsExplored tight column next r) (sym (g.rows_kept q (omega arith)))
          (λ b l' m' t.
          let found = old b (omega arith) (omega arith) t in
          let behind : now.last < b = found.0 in
          (omega arith, g.reached_kept b found.1))
    ];
  }

  pub growing_all : (start now : Tree) (at : ℕ) → now.count ≤ at → IsGrowing start now at → IsClosed tight column now
  growing_all start now at all h r known reached =
      let found = h.tree.listed r known reached in
      let place : found.0 < now.count = found.1 in
      subst (λ x. IsExplored tight column now x) found.2 (h.explored found.0 (omega arith) place)

  -- there are at most 64 places
  pub growing_end : (start now : Tree) (at : ℕ) → 64 ≤ at → IsGrowing start now at → IsClosed tight column now
  growing_end start now at end h =
      let few = h.tree.few in
      let upto = count_upto now h.tree in
      growing_all start now at (omega arith) h
