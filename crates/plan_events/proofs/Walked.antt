-- The steps of a walk, one by one.
use Rattle.std.proofs.Common.{◌≡◌, ℕ, ◌+◌, ◌-◌, ◌<◌, ◌≤◌, Bool, true, false, ◌==◌, ◌||◌, refl, sym, ap, ◌∙◌, List, [], ◌∷◌, ◌++◌, map, length, drop, get_or, append-nil, take, cond, not, inl, inr, eq-eqb, arith}
use Rattle.std.proofs.lemmas.Bool.{cases_eq, ne_eqb, not_from_true, not_from_false}
use Rattle.std.proofs.lemmas.List.{drop_more, length-drop, length-append}
use Rattle.std.proofs.lemmas.List.Elements.{filter_more}
use Rattle.std.proofs.lemmas.List.Folds.{list_any-append}
use Rattle.fleet_base.specs.declared.numbers.CellNo.{CellNo}
use Rattle.fleet_base.specs.declared.numbers.ClaimNo.{ClaimNo}
use Rattle.fleet_base.specs.declared.numbers.Kind.{Kind}
use Rattle.fleet_base.specs.declared.numbers.Kind.TheVariants.{Acquire, Move, Release}
use Rattle.fleet_model.specs.Sites.{Site, acquired, footprint_of, has_claim, step, steps, without}
use Rattle.plan_events.proofs.Causes.{no_cell}

-- the steps from the cell before this place on
abbrev pub steps_on : Site → List CellNo → ℕ → List Kind
steps_on site cells at = steps site (drop (at - 1) cells)

-- the step to the cell at this place
abbrev pub step_at : Site → List CellNo → ℕ → List Kind
step_at site cells at = step site (get_or cells (at - 1) no_cell) (get_or cells at no_cell)

steps_more : (site : Site) (cells : List CellNo) (k at : ℕ) → k + 1 ≡ at → at < length cells → steps site (drop k cells) ≡ step site (get_or cells k no_cell) (get_or cells at no_cell) ++ steps site (drop at cells)
steps_more site cells k at e h =
    let here : drop at cells ≡ get_or cells at no_cell ∷ drop (at + 1) cells = drop_more cells at no_cell h in
    ap (steps site) (drop_more cells k no_cell (omega arith) ∙ ap (λ n. get_or cells k no_cell ∷ drop n cells) e ∙ ap (λ cs. get_or cells k no_cell ∷ cs) here)
    ∙ ap (λ ks. step site (get_or cells k no_cell) (get_or cells at no_cell) ++ ks) (sym (ap (steps site) here))

pub steps_on_more : (site : Site) (cells : List CellNo) (at : ℕ) → 1 ≤ at → at < length cells → steps_on site cells at ≡ step_at site cells at ++ steps_on site cells (at + 1)
steps_on_more site cells at low h =
    let same : at ≡ at + 1 - 1 = omega arith in
    steps_more site cells (at - 1) at (omega arith) h ∙ ap (λ n. step_at site cells at ++ steps site (drop n cells)) same

steps_none : (site : Site) (cells : List CellNo) → length cells ≤ 1 → steps site cells ≡ []
steps_none site [] h = refl
steps_none site (a ∷ []) h = refl
steps_none site (a ∷ b ∷ bs) h = absurd (omega arith)

pub steps_on_end : (site : Site) (cells : List CellNo) (at : ℕ) → 1 ≤ at → length cells ≤ at → steps_on site cells at ≡ []
steps_on_end site cells at low h = steps_none site (drop (at - 1) cells) (let l = length-drop (at - 1) cells in omega arith)

pub length-steps_on : (site : Site) (cells : List CellNo) (at : ℕ) → 1 ≤ at → at < length cells → length (steps_on site cells at) ≡ length (step_at site cells at) + length (steps_on site cells (at + 1))
length-steps_on site cells at low h = ap length (steps_on_more site cells at low h) ∙ length-append (step_at site cells at) (steps_on site cells (at + 1))

acquired-append : (js ks : List Kind) → acquired (js ++ ks) ≡ acquired js ++ acquired ks
acquired-append [] ks = refl
acquired-append (Acquire c ∷ js) ks = ap (λ cs. c ∷ cs) (acquired-append js ks)
acquired-append (Move a b ∷ js) ks = acquired-append js ks
acquired-append (Release c ∷ js) ks = acquired-append js ks

acquired-acquires : (cs : List ClaimNo) → acquired (map (λ c. Acquire c) cs) ≡ cs
acquired-acquires [] = refl
acquired-acquires (c ∷ cs) = ap (λ ds. c ∷ ds) (acquired-acquires cs)

acquired-releases : (cs : List ClaimNo) → acquired (map (λ c. Release c) cs) ≡ []
acquired-releases [] = refl
acquired-releases (c ∷ cs) = acquired-releases cs

acquired-step : (site : Site) (a b : CellNo) → acquired (step site a b) ≡ without (footprint_of site b) (footprint_of site a)
acquired-step site a b =
    let new : List ClaimNo = without (footprint_of site b) (footprint_of site a) in
    let old : List ClaimNo = without (footprint_of site a) (footprint_of site b) in
    acquired-append (map (λ c. Acquire c) new) (Move a b ∷ map (λ c. Release c) old)
    ∙ ap (λ cs. acquired (map (λ c. Acquire c) new) ++ cs) (acquired-releases old)
    ∙ append-nil (acquired (map (λ c. Acquire c) new))
    ∙ acquired-acquires new

-- the steps on acquire what the next of them does, and what those behind it do
pub needed_more : (site : Site) (cells : List CellNo) (at : ℕ) → 1 ≤ at → at < length cells → (c : ClaimNo)
    → has_claim (acquired (steps_on site cells at)) c ≡ (has_claim (without (footprint_of site (get_or cells at no_cell)) (footprint_of site (get_or cells (at - 1) no_cell))) c || has_claim (acquired (steps_on site cells (at + 1))) c)
needed_more site cells at low h c =
    ap (λ ks. has_claim (acquired ks) c) (steps_on_more site cells at low h)
    ∙ ap (λ cs. has_claim cs c) (acquired-append (step_at site cells at) (steps_on site cells (at + 1)))
    ∙ list_any-append (λ (d : ClaimNo). d.0 == c.0) (acquired (step_at site cells at)) (acquired (steps_on site cells (at + 1)))
    ∙ ap (λ cs. has_claim cs c || has_claim (acquired (steps_on site cells (at + 1))) c) (acquired-step site (get_or cells (at - 1) no_cell) (get_or cells at no_cell))

or_swapped : (x y z : Bool) → ((x || y) || z) ≡ (y || (x || z))
or_swapped true true z = refl
or_swapped true false z = refl
or_swapped false y z = refl

-- what the steps on acquire or the set has stays the same where the set takes what the next step acquires
pub needed_step : (site : Site) (cells : List CellNo) (at : ℕ) (c : ClaimNo) (old new all : Bool) → 1 ≤ at → at < length cells
    → new ≡ (has_claim (without (footprint_of site (get_or cells at no_cell)) (footprint_of site (get_or cells (at - 1) no_cell))) c || old)
    → (has_claim (acquired (steps_on site cells at)) c || old) ≡ all → (has_claim (acquired (steps_on site cells (at + 1))) c || new) ≡ all
needed_step site cells at c old new all low h taken kept =
    let fresh : Bool = has_claim (without (footprint_of site (get_or cells at no_cell)) (footprint_of site (get_or cells (at - 1) no_cell))) c in
    let behind : Bool = has_claim (acquired (steps_on site cells (at + 1))) c in
    ap (λ t. behind || t) taken
    ∙ sym (or_swapped fresh behind old)
    ∙ ap (λ t. t || old) (sym (needed_more site cells at low h c))
    ∙ kept

abbrev pub no_claim : ClaimNo
no_claim = record { 0 = 0 }

without_more : (cs ds : List ClaimNo) (i : ℕ) → i < length cs → without (take (i + 1) cs) ds ≡ without (take i cs) ds ++ cond (not (has_claim ds (get_or cs i no_claim))) (get_or cs i no_claim ∷ []) []
without_more cs ds i h = filter_more (λ (c : ClaimNo). not (has_claim ds c)) cs i no_claim h

-- one claim more that isn't among the others
pub without_taken : (cs ds : List ClaimNo) (i : ℕ) → i < length cs → has_claim ds (get_or cs i no_claim) ≡ false → without (take (i + 1) cs) ds ≡ without (take i cs) ds ++ get_or cs i no_claim ∷ []
without_taken cs ds i h e = without_more cs ds i h ∙ ap (λ t. without (take i cs) ds ++ cond t (get_or cs i no_claim ∷ []) []) (not_from_false (has_claim ds (get_or cs i no_claim)) e)

-- one claim more that is among the others
pub without_left : (cs ds : List ClaimNo) (i : ℕ) → i < length cs → has_claim ds (get_or cs i no_claim) ≡ true → without (take (i + 1) cs) ds ≡ without (take i cs) ds
without_left cs ds i h e = without_more cs ds i h ∙ ap (λ t. without (take i cs) ds ++ cond t (get_or cs i no_claim ∷ []) []) (not_from_true (has_claim ds (get_or cs i no_claim)) e) ∙ append-nil (without (take i cs) ds)

pub or-false : (x : Bool) → (x || false) ≡ x
or-false true = refl
or-false false = refl

eqb_symmetric : (a b : ℕ) → (a == b) ≡ (b == a)
eqb_symmetric a b = elim (cases_eq a b) [ inl e ↦ eq-eqb a b e ∙ sym (eq-eqb b a (sym e)) | inr ne ↦ ne_eqb a b ne ∙ sym (ne_eqb b a (λ e. ne (sym e))) ]

or_moved : (x y z : Bool) → (x || (y || z)) ≡ ((y || (x || false)) || z)
or_moved true true z = refl
or_moved true false z = refl
or_moved false true z = refl
or_moved false false z = refl

-- one claim more at the end
pub has_claim-push : (cs : List ClaimNo) (c d : ClaimNo) (z : Bool) → ((d.0 == c.0) || (has_claim cs d || z)) ≡ (has_claim (cs ++ c ∷ []) d || z)
has_claim-push cs c d z =
    or_moved (d.0 == c.0) (has_claim cs d) z
    ∙ ap (λ t. (has_claim cs d || (t || false)) || z) (eqb_symmetric d.0 c.0)
    ∙ ap (λ t. t || z) (sym (list_any-append (λ (e : ClaimNo). e.0 == d.0) cs (c ∷ [])))
