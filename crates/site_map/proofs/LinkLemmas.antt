-- The links of a cell, in order.
use Rattle.std.proofs.Common.{◌≡◌, ℕ, suc, ◌+◌, ◌≤◌, Bool, true, false, cond, eqb, ltb, List, [], ◌∷◌, length, refl, ap, ◌∙◌, arith}
use Rattle.std.specs.List.{insert, list_any, prefix_len, take_while, All}
use Rattle.std.proofs.lemmas.Bool.{ltb-true, ltb-false, or_parts, eqb-false}
use Rattle.std.proofs.lemmas.List.Folds.{length-prefix_len}
use Rattle.std.proofs.lemmas.List.Elements.{All-nil, All-cons, All-head, All-tail}
use Rattle.fleet_base.specs.declared.numbers.CellNo.{CellNo}
use Rattle.fleet_base.specs.declared.numbers.Link.{Link}
use Rattle.site_map.specs.Cells.{with_one_more, LinksRise}

abbrev pub is_before : CellNo → Link → Bool
is_before to l = ltb l.to.0 to.0

insert-prefix_len : (links : List Link) (link : Link) → insert links (prefix_len (is_before link.to) links) link ≡ with_one_more links link
insert-prefix_len [] link = refl
insert-prefix_len (l ∷ ls) link =
    elim (ltb l.to.0 link.to.0) as (λ b. insert (l ∷ ls) (cond b (1 + prefix_len (is_before link.to) ls) 0) link ≡ cond b (l ∷ with_one_more ls link) (link ∷ l ∷ ls)) [
      | true ↦
          let one_more : 1 + prefix_len (is_before link.to) ls ≡ suc (prefix_len (is_before link.to) ls) = omega arith in
          rw one_more (ap (λ xs. l ∷ xs) (insert-prefix_len ls link))
      | false ↦ refl
    ]

-- the place of a link is where `with_one_more` has it
pub insert-with_one_more : (links : List Link) (link : Link) → insert links (length (take_while (is_before link.to) links)) link ≡ with_one_more links link
insert-with_one_more links link = ap (λ i. insert links i link) (length-prefix_len (is_before link.to) links) ∙ insert-prefix_len links link

-- links that rise still do with a new one in its place
pub LinksRise-with_one_more : (low : ℕ) (links : List Link) (link : Link) → LinksRise low links → low ≤ link.to.0 → list_any (λ l. eqb l.to.0 link.to.0) links ≡ false → LinksRise low (with_one_more links link)
LinksRise-with_one_more low [] link rise above new = (above, tt)
LinksRise-with_one_more low (l ∷ ls) link rise above new =
    let parts = or_parts (eqb l.to.0 link.to.0) (list_any (λ m. eqb m.to.0 link.to.0) ls) new in
    let other = eqb-false l.to.0 link.to.0 parts.0 in
    elim (ltb l.to.0 link.to.0) as (λ b. ltb l.to.0 link.to.0 ≡ b → LinksRise low (cond b (l ∷ with_one_more ls link) (link ∷ l ∷ ls))) [
      | true ↦ λ e.
          let below = ltb-true l.to.0 link.to.0 e in
          (rise.0, LinksRise-with_one_more (l.to.0 + 1) ls link rise.1 (omega arith) parts.1)
      | false ↦ λ e.
          let upto = ltb-false l.to.0 link.to.0 e in
          (above, (omega arith, rise.1))
    ] refl

-- what holds of each link holds with one more of which it holds
pub All-with_one_more : (P : Link → Type 0) (links : List Link) (link : Link) → All P links → P link → All P (with_one_more links link)
All-with_one_more P [] link all here = All-cons P link [] here (All-nil P)
All-with_one_more P (l ∷ ls) link all here =
    elim (ltb l.to.0 link.to.0) as (λ b. All P (cond b (l ∷ with_one_more ls link) (link ∷ l ∷ ls))) [
      | true ↦ All-cons P l (with_one_more ls link) (All-head P l ls all) (All-with_one_more P ls link (All-tail P l ls all) here)
      | false ↦ All-cons P link (l ∷ ls) here all
    ]

pub length-with_one_more : (links : List Link) (link : Link) → length (with_one_more links link) ≡ length links + 1
length-with_one_more [] link = refl
length-with_one_more (l ∷ ls) link =
    elim (ltb l.to.0 link.to.0) as (λ b. length (cond b (l ∷ with_one_more ls link) (link ∷ l ∷ ls)) ≡ suc (length ls) + 1) [
      | true ↦ omega (arith, length-with_one_more ls link)
      | false ↦ omega arith
    ]
