-- Cells, claims and events with one number are one.
use Rattle.std.proofs.Common.{◌≡◌, true, ◌==◌, refl, List, [], ◌∷◌, map}
use Rattle.std.proofs.lemmas.Bool.{eqb-true}
use Rattle.fleet_base.specs.declared.numbers.CellNo.{CellNo}
use Rattle.fleet_base.specs.declared.numbers.ClaimNo.{ClaimNo}
use Rattle.fleet_base.specs.declared.numbers.EventNo.{EventNo}

-- cells with one number are one
pub same_cell : (a b : CellNo) → a.0 ≡ b.0 → a ≡ b
same_cell a b p = λ i. record { 0 = p i }

-- lists of cells with the same numbers are one
pub same_cells : (v w : List CellNo) → map (λ a. a.0) v ≡ map (λ a. a.0) w → v ≡ w
same_cells [] [] e = refl
same_cells [] (b ∷ bs) e = absurd (cc)
same_cells (a ∷ cs) [] e = absurd (cc)
same_cells (a ∷ cs) (b ∷ bs) e =
    let f : a.0 ≡ b.0 = cc in
    let g : map (λ a. a.0) cs ≡ map (λ a. a.0) bs = cc in
    let c = same_cell a b f in
    let d = same_cells cs bs g in
    cc

-- claims whose numbers the test finds equal are one
pub same_claim : (c d : ClaimNo) → (c.0 == d.0) ≡ true → c ≡ d
same_claim c d h = let p = eqb-true c.0 d.0 h in λ i. record { 0 = p i }

-- events' numbers that are one number are one
pub same_number : (a b : EventNo) → a.0 ≡ b.0 → a ≡ b
same_number a b p = λ i. record { 0 = p i }
