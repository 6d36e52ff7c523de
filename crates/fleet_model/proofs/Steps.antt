-- The steps of a walk: of walks in a row, the cells that they move to, and the claims that they acquire.
use Rattle.std.proofs.Common.{◌≡◌, ◌⊎◌, inl, inr, refl, sym, ap, ◌∙◌, subst, List, [], ◌∷◌, ◌++◌, map, append_assoc, not}
use Rattle.fleet_base.specs.declared.numbers.CellNo.{CellNo}
use Rattle.fleet_base.specs.declared.numbers.ClaimNo.{ClaimNo}
use Rattle.fleet_base.specs.declared.numbers.Kind.{Kind}
use Rattle.fleet_base.specs.declared.numbers.Kind.TheVariants.{Acquire, Move, Release}
use Rattle.fleet_model.specs.Lists.{In, here, there}
use Rattle.fleet_model.specs.Sites.{Site, step, last_cell, steps_from, IsWalkFrom, footprint_of, without, moved_to, has_claim, acquired}
use Rattle.fleet_model.proofs.Lists.{In-append_cases, In_unmap, In_unfilter}

-- the steps of two walks, one behind the other
pub steps-append : (site : Site) (a : CellNo) (xs ys : List CellNo) → steps_from site a (xs ++ ys) ≡ steps_from site a xs ++ steps_from site (last_cell a xs) ys
steps-append site a [] ys = refl
steps-append site a (x ∷ xs) ys = ap (λ ks. step site a x ++ ks) (steps-append site x xs ys) ∙ sym (append_assoc (step site a x) (steps_from site x xs) (steps_from site (last_cell x xs) ys))

-- a walk and one that goes on from its last cell are one walk
pub walk-append : (site : Site) (a : CellNo) (xs ys : List CellNo) → IsWalkFrom site a xs → IsWalkFrom site (last_cell a xs) ys → IsWalkFrom site a (xs ++ ys)
walk-append site a [] ys h g = g
walk-append site a (x ∷ xs) ys h g = (h.0, walk-append site x xs ys h.1 g)

-- a beginning of a walk is a walk
pub walk_front : (site : Site) (a : CellNo) (front back : List CellNo) → IsWalkFrom site a (front ++ back) → IsWalkFrom site a front
walk_front site a [] back h = tt
walk_front site a (b ∷ bs) back h = (h.0, walk_front site b bs back h.1)

pub moved_to-append : (js ks : List Kind) → moved_to (js ++ ks) ≡ moved_to js ++ moved_to ks
moved_to-append [] ks = refl
moved_to-append (Acquire c ∷ js) ks = moved_to-append js ks
moved_to-append (Move a b ∷ js) ks = ap (λ cs. b ∷ cs) (moved_to-append js ks)
moved_to-append (Release c ∷ js) ks = moved_to-append js ks

moved_to-acquires : (cs : List ClaimNo) → moved_to (map (λ c. Acquire c) cs) ≡ []
moved_to-acquires [] = refl
moved_to-acquires (c ∷ cs) = moved_to-acquires cs

moved_to-releases : (cs : List ClaimNo) → moved_to (map (λ c. Release c) cs) ≡ []
moved_to-releases [] = refl
moved_to-releases (c ∷ cs) = moved_to-releases cs

moved_to-step : (site : Site) (a b : CellNo) → moved_to (step site a b) ≡ b ∷ []
moved_to-step site a b =
    moved_to-append (map (λ c. Acquire c) (without (footprint_of site b) (footprint_of site a))) (Move a b ∷ map (λ c. Release c) (without (footprint_of site a) (footprint_of site b)))
    ∙ rw (moved_to-acquires (without (footprint_of site b) (footprint_of site a)), moved_to-releases (without (footprint_of site a) (footprint_of site b))) refl

pub moved_to-steps : (site : Site) (a : CellNo) (cells : List CellNo) → moved_to (steps_from site a cells) ≡ cells
moved_to-steps site a [] = refl
moved_to-steps site a (b ∷ bs) = moved_to-append (step site a b) (steps_from site b bs) ∙ rw (moved_to-step site a b, moved_to-steps site b bs) refl

-- a claim that is acquired has a step that acquires it
pub acquired_In : (ks : List Kind) (c : ClaimNo) → In c (acquired ks) → In (Acquire c) ks
acquired_In [] c m = elim m [ ]
acquired_In (Acquire d ∷ ks) c (here e) = here (ap (λ x. Acquire x) e)
acquired_In (Acquire d ∷ ks) c (there m) = there (acquired_In ks c m)
acquired_In (Move a b ∷ ks) c m = there (acquired_In ks c m)
acquired_In (Release d ∷ ks) c m = there (acquired_In ks c m)

-- a step that acquires a claim is counted
pub In_acquired : (ks : List Kind) (c : ClaimNo) → In (Acquire c) ks → In c (acquired ks)
In_acquired [] c m = elim m [ ]
In_acquired (Acquire d ∷ ks) c (here e) = here (cc)
In_acquired (Acquire d ∷ ks) c (there m) = there (In_acquired ks c m)
In_acquired (Move a b ∷ ks) c (here e) = absurd (cc)
In_acquired (Move a b ∷ ks) c (there m) = In_acquired ks c m
In_acquired (Release d ∷ ks) c (here e) = absurd (cc)
In_acquired (Release d ∷ ks) c (there m) = In_acquired ks c m

-- what a step acquires is a claim of the cell that it leads to
step_acquires : (site : Site) (a b : CellNo) (c : ClaimNo) → In (Acquire c) (step site a b) → In c (footprint_of site b)
step_acquires site a b c m =
    go (In-append_cases (map (λ (d : ClaimNo). Acquire d) (without (footprint_of site b) (footprint_of site a))) (Move a b ∷ map (λ (d : ClaimNo). Release d) (without (footprint_of site a) (footprint_of site b))) m)
  where
    behind : In (Acquire c) (Move a b ∷ map (λ (d : ClaimNo). Release d) (without (footprint_of site a) (footprint_of site b))) → ⊥
    behind (here e) = absurd (cc)
    behind (there k) = let d = In_unmap (λ (d : ClaimNo). Release d) (without (footprint_of site a) (footprint_of site b)) k in let e = d.2 in absurd (cc)

    go : In (Acquire c) (map (λ (d : ClaimNo). Acquire d) (without (footprint_of site b) (footprint_of site a))) ⊎ In (Acquire c) (Move a b ∷ map (λ (d : ClaimNo). Release d) (without (footprint_of site a) (footprint_of site b))) → In c (footprint_of site b)
    go (inl k) =
        let d = In_unmap (λ (d : ClaimNo). Acquire d) (without (footprint_of site b) (footprint_of site a)) k in
        let e : c ≡ d.0 = let f = d.2 in cc in
        subst (λ x. In x (footprint_of site b)) (sym e) (In_unfilter (λ (x : ClaimNo). not (has_claim (footprint_of site a) x)) (footprint_of site b) d.1).0
    go (inr k) = absurd (behind k)

-- what a walk acquires is a claim of one of its later cells
pub steps_acquire : (site : Site) (a : CellNo) (bs : List CellNo) (c : ClaimNo) → In (Acquire c) (steps_from site a bs) → (b : CellNo) × In b bs × In c (footprint_of site b)
steps_acquire site a [] c m = elim m [ ]
steps_acquire site a (b ∷ bs) c m =
    elim (In-append_cases (step site a b) (steps_from site b bs) m) [
      | inl k ↦ (b, here refl, step_acquires site a b c k)
      | inr k ↦ (let r = steps_acquire site b bs c k in (r.0, there r.1, r.2))
    ]
