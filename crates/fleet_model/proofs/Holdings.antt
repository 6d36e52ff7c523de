-- What each robot holds by what was reported: how reports change it, and that it is little.
use Rattle.std.proofs.Common.{zero, suc, ◌≡◌, ℕ, ◌+◌, ◌<◌, ◌≤◌, Bool, true, false, cond, not, ◌==◌, ◌||◌, ◌&&◌, ◌⊎◌, inl, inr, refl, sym, ap, ◌∙◌, subst, List, [], ◌∷◌, ◌++◌, map, length, length-append, get_or, arith, eq-eqb, Option, Some, None}
use Rattle.std.proofs.lemmas.Bool.{both_ways, cases_eq, and_parts, or_cases, or_left, ne_eqb, lt-ltb, le-ltb}
use Rattle.std.proofs.lemmas.List.{length-map, map-append, get_or-map}
use Rattle.std.proofs.lemmas.List.Elements.{All-contains}
use Rattle.std.proofs.lemmas.List.FromFn.{fill_by_all}
use Rattle.std.proofs.lemmas.Option.{slice_get-get_or}
use Rattle.std.specs.Prelude.{slice_get, slice_set}
use Rattle.std.specs.List.{filter, range_with_len, Contains}
use Rattle.fleet_base.specs.Lists.{placed, RiseFrom}
use Rattle.fleet_base.proofs.ClaimLemmas.{length-placed, RiseFrom-filter}
use Rattle.fleet_base.specs.declared.numbers.CellNo.{CellNo}
use Rattle.fleet_base.specs.declared.numbers.ClaimNo.{ClaimNo}
use Rattle.fleet_base.specs.declared.numbers.Event.{Event}
use Rattle.fleet_base.specs.declared.numbers.Kind.{Kind}
use Rattle.fleet_base.specs.declared.numbers.Kind.TheVariants.{Acquire, Move, Release}
use Rattle.fleet_model.specs.Lists.{In, here, there, numbers_below, Begins}
use Rattle.fleet_model.specs.Sites.{footprint_of, has_claim, IsSite, Site, step, steps_from, without}
use Rattle.fleet_model.specs.Replays.{after_kind, after_kinds, AreSteps, CanDo, held_claims, IsStanding, opening, Spot, standing, start_at}
use Rattle.fleet_model.specs.Plans.{Fleet, IsBehind, IsReady, kinds, own}
use Rattle.fleet_model.specs.States.{opening_state}
use Rattle.fleet_model.specs.Calls.{reported}
use Rattle.fleet_model.specs.Good.{IsGoodPlan}
use Rattle.fleet_model.specs.Tables.{held_by, holdings, IsCounted}
use Rattle.fleet_model.proofs.Alone.{after_kinds-append, legal_at, replay_own}
use Rattle.fleet_model.proofs.Claims.{unnamed}
use Rattle.fleet_model.proofs.Blockers.{has_In, In_has}
use Rattle.fleet_model.proofs.Filters.{filter_in, filter_out, filter_le}
use Rattle.fleet_model.proofs.Good.{good_safe}
use Rattle.fleet_model.proofs.GoodStates.{report_good}
use Rattle.fleet_model.proofs.Lists.{In_either, In_equal, In-append_cases, In-append_left, In-append_right, In-filter, In-map, In_All, In_unfilter, In_unmap, In_below}
use Rattle.fleet_model.proofs.Numbers.{In_own}
use Rattle.fleet_model.proofs.SameNumbers.{same_claim}
use Rattle.fleet_model.proofs.Tables.{filter_agree_in, filter_both, finished_kept, now, now-other, now-own, same_test, table_same, table_set}
use Rattle.fleet_model.proofs.Walks.{start_stands, step_stands}

-- so many claims from one on
abbrev claims_from : ℕ → ℕ → List ClaimNo
claims_from a n = map (λ k. record { 0 = k }) (range_with_len a n)

-- none of them is below the first
above : (a n : ℕ) (d : ClaimNo) → In d (claims_from a n) → a ≤ d.0
above a zero d m = elim m [ ]
above a (suc n) d (here e) = omega (arith, ap (λ (x : ClaimNo). x.0) e)
above a (suc n) d (there m) = let b = above (a + 1) n d m in omega arith

-- these claims rise
claims_rise : (a n : ℕ) → RiseFrom a (claims_from a n)
claims_rise a zero = tt
claims_rise a (suc n) = (omega arith, claims_rise (a + 1) n)

-- those that pass a test rise
rise_filter : (p : ClaimNo → Bool) (a n : ℕ) → RiseFrom a (filter p (claims_from a n))
rise_filter p a n = RiseFrom-filter p a (claims_from a n) (claims_rise a n)

-- a claim that isn't above the first of a list stands in front of it
placed_front : (c : ClaimNo) (xs : List ClaimNo) → ((d : ClaimNo) → In d xs → c.0 ≤ d.0) → placed xs c ≡ c ∷ xs
placed_front c [] h = refl
placed_front c (x ∷ xs) h = ap (λ b. cond b (x ∷ placed xs c) (c ∷ x ∷ xs)) (le-ltb x.0 c.0 (h x (here refl)))

-- a list with one more claim behind its first
placed_step : (c x : ClaimNo) (xs ys : List ClaimNo) (b : Bool) → x.0 < c.0 → ys ≡ placed xs c → cond b (x ∷ ys) ys ≡ placed (cond b (x ∷ xs) xs) c
placed_step c x xs ys true l h = ap (λ zs. x ∷ zs) h ∙ sym (ap (λ b. cond b (x ∷ placed xs c) (c ∷ x ∷ xs)) (lt-ltb x.0 c.0 l))
placed_step c x xs ys false l h = h

-- the claims that pass, with one more, are those that pass with that one in its place
filter_placed : (p : ClaimNo → Bool) (c : ClaimNo) (a n : ℕ) → a ≤ c.0 → c.0 < a + n → p c ≡ false → filter (λ d. (c.0 == d.0) || p d) (claims_from a n) ≡ placed (filter p (claims_from a n)) c
filter_placed p c a zero l h u = absurd (omega arith)
filter_placed p c a (suc n) l h u = go (cases_eq a c.0) (filter_placed p c (a + 1) n)
  where
    rest : List ClaimNo
    rest = claims_from (a + 1) n

    more : ClaimNo → Bool
    more d = (c.0 == d.0) || p d

    go : (a ≡ c.0) ⊎ (a ≡ c.0 → ⊥) → (a + 1 ≤ c.0 → c.0 < a + 1 + n → p c ≡ false → filter more rest ≡ placed (filter p rest) c) → filter more (claims_from a (suc n)) ≡ placed (filter p (claims_from a (suc n))) c
    go (inl e) ih =
        let same : record { 0 = a } ≡ c = λ i. record { 0 = e i } in
        subst (λ x. filter more (x ∷ rest) ≡ placed (filter p (x ∷ rest)) c) (sym same)
        (filter_in more c rest (or_left (c.0 == c.0) (p c) (eq-eqb c.0 c.0 refl))
        ∙ (ap (λ zs. c ∷ zs) (filter_agree_in more p rest (λ d m. let k = above (a + 1) n d m in ap (λ b. b || p d) (ne_eqb c.0 d.0 (λ i. omega arith))))
        ∙ (sym (placed_front c (filter p rest) (λ d m. let k = above (a + 1) n d (In_unfilter p rest m).0 in omega arith))
        ∙ ap (λ zs. placed zs c) (sym (filter_out p c rest u)))))
    go (inr o) ih =
        let less : a < c.0 = omega arith in
        ap (λ b. cond (b || p (record { 0 = a })) (record { 0 = a } ∷ filter more rest) (filter more rest)) (ne_eqb c.0 a (λ i. o (sym i)))
        ∙ placed_step c (record { 0 = a }) (filter p rest) (filter more rest) (p (record { 0 = a })) less (ih (omega arith) (omega arith) u)

swapped_test : (x y z : Bool) → x ≡ y → (not x && z) ≡ (z && not y)
swapped_test x true true h = ap (λ b. not b && true) h
swapped_test x true false h = ap (λ b. not b && false) h
swapped_test x false true h = ap (λ b. not b && true) h
swapped_test x false false h = ap (λ b. not b && false) h

-- the claims that pass, without one, are those that pass without it
filter_taken : (p : ClaimNo → Bool) (c : ClaimNo) (cs : List ClaimNo) → filter (λ d. not (c.0 == d.0) && p d) cs ≡ filter (λ d. not (d.0 == c.0)) (filter p cs)
filter_taken p c cs = filter_both (λ (d : ClaimNo). not (c.0 == d.0) && p d) (λ (d : ClaimNo). not (d.0 == c.0)) p cs (λ d. swapped_test (c.0 == d.0) (d.0 == c.0) (p d) (same_test c.0 d.0))

-- reports

-- the claims that a robot holds behind one more thing
abbrev held_behind : Fleet → Event → List ClaimNo
held_behind m e = held_claims m.site (after_kind e.kind (now m e.robot.0))

pub holdings-reported : (m : Fleet) (e : Event) → holdings (reported m (Some e)) ≡ slice_set (holdings m) e.robot.0 (held_behind m e)
holdings-reported m e =
    table_set (held_by (reported m (Some e))) (held_by m) (length m.starts) e.robot.0 (held_behind m e)
    (λ q h. ap (λ s. held_claims m.site s) (now-other m e q h))
    (ap (λ s. held_claims m.site s) (now-own m e))

pub holdings-moved : (m : Fleet) (e : Event) (a b : CellNo) → e.kind ≡ Move a b → holdings (reported m (Some e)) ≡ holdings m
holdings-moved m e a b k = table_same (held_by (reported m (Some e))) (held_by m) (numbers_below (length m.starts)) (λ q. go q (cases_eq e.robot.0 q))
  where
    go : (q : ℕ) → (e.robot.0 ≡ q) ⊎ (e.robot.0 ≡ q → ⊥) → held_by (reported m (Some e)) q ≡ held_by m q
    go q (inl i) = subst (λ r. held_by (reported m (Some e)) r ≡ held_by m r) i (ap (λ s. held_claims m.site s) (now-own m e) ∙ ap (λ j. held_claims m.site (after_kind j (now m e.robot.0))) k)
    go q (inr n) = ap (λ s. held_claims m.site s) (now-other m e q n)

pub holdings-released : (m : Fleet) (e : Event) (c : ClaimNo) → e.kind ≡ Release c → holdings (reported m (Some e)) ≡ slice_set (holdings m) e.robot.0 (filter (λ d. not (d.0 == c.0)) (held_by m e.robot.0))
holdings-released m e c k =
    holdings-reported m e
    ∙ ap (λ cs. slice_set (holdings m) e.robot.0 cs) (ap (λ j. held_claims m.site (after_kind j (now m e.robot.0))) k ∙ filter_taken (now m e.robot.0).holds c (claims_from 0 (length m.site.groups)))

-- a ready event is one that its robot itself is able to do
ready_can : (m : Fleet) (e : Event) → IsSite m.site → IsGoodPlan m → IsReady (IsBehind m.site.groups) m.plan m.finished e → CanDo m.site (now m e.robot.0) e.kind
ready_can m e is_site good ready = (legal_at m.site (opening m.site m.starts) m.finished e [] (good_safe m is_site good (e ∷ []) (ready, tt))).0

-- a claim that is acquired isn't held
unheld : (m : Fleet) (e : Event) (c : ClaimNo) → IsSite m.site → IsGoodPlan m → IsReady (IsBehind m.site.groups) m.plan m.finished e → e.kind ≡ Acquire c → (now m e.robot.0).holds c ≡ false
unheld m e c is_site good ready k = subst (λ j. CanDo m.site (now m e.robot.0) j) k (ready_can m e is_site good ready)

-- an acquired claim is not in the list
pub acquired_missing : (m : Fleet) (e : Event) (c : ClaimNo) → IsSite m.site → IsGoodPlan m → IsReady (IsBehind m.site.groups) m.plan m.finished e → e.kind ≡ Acquire c → Contains (held_by m e.robot.0) c → ⊥
acquired_missing m e c is_site good ready k has =
    let holds : ClaimNo → Bool = (now m e.robot.0).holds in
    both_ways (holds c) (unheld m e c is_site good ready k)
    (All-contains (λ d. holds d ≡ true) (held_by m e.robot.0) c (In_All (λ d. holds d ≡ true) (held_by m e.robot.0) (λ d i. (In_unfilter holds (claims_from 0 (length m.site.groups)) i).1)) has)

-- a step acquires claims of the footprint that it leads to
step_claims : (site : Site) (a b : CellNo) (c : ClaimNo) → In (Acquire c) (step site a b) → In c (footprint_of site b)
step_claims site a b c i = go (In-append_cases (map (λ d. Acquire d) (without (footprint_of site b) (footprint_of site a))) (Move a b ∷ map (λ d. Release d) (without (footprint_of site a) (footprint_of site b))) i)
  where
    go : In (Acquire c) (map (λ d. Acquire d) (without (footprint_of site b) (footprint_of site a))) ⊎ In (Acquire c) (Move a b ∷ map (λ d. Release d) (without (footprint_of site a) (footprint_of site b))) → In c (footprint_of site b)
    go (inl j) =
        let new : List ClaimNo = without (footprint_of site b) (footprint_of site a) in
        let u : (x : ClaimNo) × In x new × (Acquire c ≡ Acquire x) = In_unmap (λ d. Acquire d) new j in
        let same : c ≡ u.0 = cc in
        In_equal same (In_unfilter (λ d. not (has_claim (footprint_of site a) d)) (footprint_of site b) u.1).0
    go (inr j) = In_either j (λ k. absurd (cc)) (λ l. absurd (no_release l))
      where
        no_release : In (Acquire c) (map (λ d. Release d) (without (footprint_of site a) (footprint_of site b))) → ⊥
        no_release l = let u = In_unmap (λ d. Release d) (without (footprint_of site a) (footprint_of site b)) l in let k : Acquire c ≡ Release u.0 = u.2 in absurd (cc)

-- what a walk acquires is of some footprint
walk_claims : (site : Site) (a : CellNo) (cells : List CellNo) (c : ClaimNo) → In (Acquire c) (steps_from site a cells) → (b : CellNo) × In c (footprint_of site b)
walk_claims site a [] c i = elim i [ ]
walk_claims site a (b ∷ bs) c i = elim (In-append_cases (step site a b) (steps_from site b bs) i) [ inl j ↦ (b, step_claims site a b c j) | inr j ↦ walk_claims site b bs c j ]

-- and so is what a robot acquires on its walk, wherever it starts
steps_claims : (site : Site) (o : Option CellNo) (ks : List Kind) (c : ClaimNo) → AreSteps site o ks → In (Acquire c) ks → (b : CellNo) × In c (footprint_of site b)
steps_claims site None ks c h i = absurd (elim (subst (λ js. In (Acquire c) js) h i) [ ])
steps_claims site (Some a) ks c h i = walk_claims site a h.0 c (subst (λ js. In (Acquire c) js) h.2 i)

-- a step releases claims of the footprint that it leaves
step_releases : (site : Site) (a b : CellNo) (c : ClaimNo) → In (Release c) (step site a b) → In c (footprint_of site a)
step_releases site a b c i = go (In-append_cases (map (λ d. Acquire d) (without (footprint_of site b) (footprint_of site a))) (Move a b ∷ map (λ d. Release d) (without (footprint_of site a) (footprint_of site b))) i)
  where
    go : In (Release c) (map (λ d. Acquire d) (without (footprint_of site b) (footprint_of site a))) ⊎ In (Release c) (Move a b ∷ map (λ d. Release d) (without (footprint_of site a) (footprint_of site b))) → In c (footprint_of site a)
    go (inl j) = let u = In_unmap (λ d. Acquire d) (without (footprint_of site b) (footprint_of site a)) j in let k : Release c ≡ Acquire u.0 = u.2 in absurd (cc)
    go (inr j) = In_either j (λ k. absurd (cc)) given
      where
        given : In (Release c) (map (λ d. Release d) (without (footprint_of site a) (footprint_of site b))) → In c (footprint_of site a)
        given l =
            let old : List ClaimNo = without (footprint_of site a) (footprint_of site b) in
            let u : (x : ClaimNo) × In x old × (Release c ≡ Release x) = In_unmap (λ d. Release d) old l in
            let same : c ≡ u.0 = cc in
            In_equal same (In_unfilter (λ d. not (has_claim (footprint_of site b) d)) (footprint_of site a) u.1).0

-- what a walk releases is of some footprint
walk_releases : (site : Site) (a : CellNo) (cells : List CellNo) (c : ClaimNo) → In (Release c) (steps_from site a cells) → (b : CellNo) × In c (footprint_of site b)
walk_releases site a [] c i = elim i [ ]
walk_releases site a (b ∷ bs) c i = elim (In-append_cases (step site a b) (steps_from site b bs) i) [ inl j ↦ (a, step_releases site a b c j) | inr j ↦ walk_releases site b bs c j ]

-- and so is what a robot releases on its walk, wherever it starts
steps_releases : (site : Site) (o : Option CellNo) (ks : List Kind) (c : ClaimNo) → AreSteps site o ks → In (Release c) ks → (b : CellNo) × In c (footprint_of site b)
steps_releases site None ks c h i = absurd (elim (subst (λ js. In (Release c) js) h i) [ ])
steps_releases site (Some a) ks c h i = walk_releases site a h.0 c (subst (λ js. In (Release c) js) h.2 i)

-- a planned acquire is of one of the site's claims
pub acquired_counted : (m : Fleet) (e : Event) (c : ClaimNo) → IsCounted m.site → IsGoodPlan m → In e m.plan → e.kind ≡ Acquire c → c.0 < length m.site.groups
acquired_counted m e c counts good i k =
    let mine : In e.kind (kinds e.robot.0 m.plan) = In-map (λ (f : Event). f.kind) (own e.robot.0 m.plan) (In_own e.robot.0 m.plan i refl) in
    let from : (b : CellNo) × In c (footprint_of m.site b) = steps_claims m.site (slice_get m.starts e.robot.0) (kinds e.robot.0 m.plan) c (good.walks e.robot.0) (subst (λ j. In j (kinds e.robot.0 m.plan)) k mine) in
    counts.counted from.0 c from.1

-- a planned release is of one of the site's claims
pub released_counted : (m : Fleet) (e : Event) (c : ClaimNo) → IsCounted m.site → IsGoodPlan m → In e m.plan → e.kind ≡ Release c → c.0 < length m.site.groups
released_counted m e c counts good i k =
    let mine : In e.kind (kinds e.robot.0 m.plan) = In-map (λ (f : Event). f.kind) (own e.robot.0 m.plan) (In_own e.robot.0 m.plan i refl) in
    let from : (b : CellNo) × In c (footprint_of m.site b) = steps_releases m.site (slice_get m.starts e.robot.0) (kinds e.robot.0 m.plan) c (good.walks e.robot.0) (subst (λ j. In j (kinds e.robot.0 m.plan)) k mine) in
    counts.counted from.0 c from.1

-- a member of a list is at some place of it
In_Contains : {X : Type 0} (xs : List X) (x : X) → In x xs → Contains xs x
In_Contains [] x m = elim m [ ]
In_Contains (y ∷ ys) x (here e) = (0, omega arith, sym e)
In_Contains (y ∷ ys) x (there m) = let r = In_Contains ys x m in (suc r.0, (let l = r.1 in omega arith), r.2)

-- a released claim is in the list
pub released_there : (m : Fleet) (e : Event) (c : ClaimNo) → IsSite m.site → IsCounted m.site → IsGoodPlan m → IsReady (IsBehind m.site.groups) m.plan m.finished e → e.kind ≡ Release c → Contains (held_by m e.robot.0) c
released_there m e c is_site counts good ready k =
    let n : ℕ = length m.site.groups in
    let holds : (now m e.robot.0).holds c ≡ true = subst (λ j. CanDo m.site (now m e.robot.0) j) k (ready_can m e is_site good ready) in
    In_Contains (held_by m e.robot.0) c (In-filter (now m e.robot.0).holds (claims_from 0 n) (In-map (λ j. record { 0 = j }) (numbers_below n) (In_below n c.0 (released_counted m e c counts good ready.planned k))) holds)

-- an acquire puts its claim in its place
held_more : (m : Fleet) (e : Event) (c : ClaimNo) → IsSite m.site → IsCounted m.site → IsGoodPlan m → IsReady (IsBehind m.site.groups) m.plan m.finished e → e.kind ≡ Acquire c → held_behind m e ≡ placed (held_by m e.robot.0) c
held_more m e c is_site counts good ready k =
    ap (λ j. held_claims m.site (after_kind j (now m e.robot.0))) k
    ∙ filter_placed (now m e.robot.0).holds c 0 (length m.site.groups) (omega arith) (let l = acquired_counted m e c counts good ready.planned k in omega arith) (unheld m e c is_site good ready k)

pub holdings-acquired : (m : Fleet) (e : Event) (c : ClaimNo) → IsSite m.site → IsCounted m.site → IsGoodPlan m → IsReady (IsBehind m.site.groups) m.plan m.finished e → e.kind ≡ Acquire c → holdings (reported m (Some e)) ≡ slice_set (holdings m) e.robot.0 (placed (held_by m e.robot.0) c)
holdings-acquired m e c is_site counts good ready k =
    holdings-reported m e
    ∙ ap (λ cs. slice_set (holdings m) e.robot.0 cs) (held_more m e c is_site counts good ready k)

-- small holdings

-- of two tests that are one together each passes its part
or_step : {A : Type 0} (x : A) (us vs ws : List A) (a b : Bool) → length us ≤ length vs + length ws → length (cond (a || b) (x ∷ us) us) ≤ length (cond a (x ∷ vs) vs) + length (cond b (x ∷ ws) ws)
or_step x us vs ws true true h = omega arith
or_step x us vs ws true false h = omega arith
or_step x us vs ws false true h = omega arith
or_step x us vs ws false false h = h

-- what passes one of two tests is no more than what passes the first and what passes the second
either_few : (p q : ClaimNo → Bool) (cs : List ClaimNo) → length (filter (λ d. p d || q d) cs) ≤ length (filter p cs) + length (filter q cs)
either_few p q [] = omega arith
either_few p q (c ∷ cs) = or_step c (filter (λ d. p d || q d) cs) (filter p cs) (filter q cs) (p c) (q c) (either_few p q cs)

none_pass : (p : ClaimNo → Bool) (cs : List ClaimNo) → ((d : ClaimNo) → In d cs → p d ≡ false) → filter p cs ≡ []
none_pass p [] h = refl
none_pass p (c ∷ cs) h = filter_out p c cs (h c (here refl)) ∙ none_pass p cs (λ d i. h d (there i))

-- a claim comes at most once
once : (z : ClaimNo) (a n : ℕ) → length (filter (λ d. z.0 == d.0) (claims_from a n)) ≤ 1
once z a zero = omega arith
once z a (suc n) = go (cases_eq z.0 a) (once z (a + 1) n)
  where
    rest : List ClaimNo
    rest = claims_from (a + 1) n

    is_it : ClaimNo → Bool
    is_it d = z.0 == d.0

    go : (z.0 ≡ a) ⊎ (z.0 ≡ a → ⊥) → length (filter is_it rest) ≤ 1 → length (filter is_it (record { 0 = a } ∷ rest)) ≤ 1
    go (inl e) ih =
        let none : filter is_it rest ≡ [] = none_pass is_it rest (λ d i. ne_eqb z.0 d.0 (λ k. let l = above (a + 1) n d i in omega arith)) in
        let all : filter is_it (record { 0 = a } ∷ rest) ≡ record { 0 = a } ∷ [] = filter_in is_it (record { 0 = a }) rest (eq-eqb z.0 a e) ∙ ap (λ ds. record { 0 = a } ∷ ds) none in
        let one : length (filter is_it (record { 0 = a } ∷ rest)) ≡ 1 = ap length all in
        omega arith
    go (inr o) ih = subst (λ ds. length ds ≤ 1) (sym (filter_out is_it (record { 0 = a }) rest (ne_eqb z.0 a o))) ih

-- of these claims no more are in a list than it is long
few : (zs : List ClaimNo) (a n : ℕ) → length (filter (has_claim zs) (claims_from a n)) ≤ length zs
few [] a n = let none : length (filter (has_claim []) (claims_from a n)) ≡ 0 = ap length (none_pass (has_claim []) (claims_from a n) (λ d i. refl)) in omega arith
few (z ∷ zs) a n =
    let parts = either_few (λ d. z.0 == d.0) (has_claim zs) (claims_from a n) in
    let one = once z a n in
    let more = few zs a n in
    omega arith

-- the robot holds claims of this list alone
abbrev Within : List ClaimNo → Spot → Type 0
Within zs s = (d : ClaimNo) → s.holds d ≡ true → In d zs

-- a robot that holds claims of a list alone, and acquires none but those, holds claims of it alone
within_kind : (zs : List ClaimNo) (k : Kind) (s : Spot) → Within zs s → ((c : ClaimNo) → k ≡ Acquire c → In c zs) → Within zs (after_kind k s)
within_kind zs (Acquire c) s w h d t = elim (or_cases (c.0 == d.0) (s.holds d) t) [ inl e ↦ subst (λ x. In x zs) (same_claim c d e) (h c refl) | inr o ↦ w d o ]
within_kind zs (Move a b) s w h d t = w d t
within_kind zs (Release c) s w h d t = w d (and_parts (not (c.0 == d.0)) (s.holds d) t).1

-- and so after many things
within_kinds : (zs : List ClaimNo) (ks : List Kind) (s : Spot) → Within zs s → ((c : ClaimNo) → In (Acquire c) ks → In c zs) → Within zs (after_kinds s ks)
within_kinds zs [] s w h = w
within_kinds zs (k ∷ ks) s w h = within_kinds zs ks (after_kind k s) (within_kind zs k s w (λ c e. h c (here (sym e)))) (λ c i. h c (there i))

-- of two splits of a list the first part of the one is a first part of that of the other, or the other way round
split : {A : Type 0} (xs ys us vs : List A) → xs ++ ys ≡ us ++ vs → ((ws : List A) × (us ≡ xs ++ ws)) ⊎ ((ws : List A) × (xs ≡ us ++ ws) × (ws ++ ys ≡ vs))
split [] ys us vs h = inl (us, refl)
split (x ∷ xs) ys [] vs h = inr (x ∷ xs, refl, h)
split {A} (x ∷ xs) ys (u ∷ us) vs h = go (split xs ys us vs (cc))
  where
    first : x ≡ u
    first = cc

    go : ((ws : List A) × (us ≡ xs ++ ws)) ⊎ ((ws : List A) × (xs ≡ us ++ ws) × (ws ++ ys ≡ vs)) → ((ws : List A) × (u ∷ us ≡ x ∷ (xs ++ ws))) ⊎ ((ws : List A) × (x ∷ xs ≡ u ∷ (us ++ ws)) × (ws ++ ys ≡ vs))
    go (inl w) = inl (w.0, λ i. sym first i ∷ w.1 i)
    go (inr w) = inr (w.0, (λ i. first i ∷ w.1 i), w.2)

-- the robot holds claims of some short list alone
record HoldsFew (s : Spot) : Type 0 where
  claims : List ClaimNo
  within : Within claims s
  short : length claims ≤ 6

-- within a walk a robot holds claims of the two footprints that it is between
walk_few : (site : Site) → IsSite site → (s : Spot) (a : CellNo) (cells : List CellNo) (js rest : List Kind) → IsStanding site s a → js ++ rest ≡ steps_from site a cells → HoldsFew (after_kinds s js)
walk_few site is_site s a [] [] rest stands h = record { claims = footprint_of site a; within = λ d t. has_In (footprint_of site a) d (sym (stands.holds d) ∙ t); short = (let l = is_site.short a in omega arith) }
walk_few site is_site s a [] (j ∷ js) rest stands h = absurd (cc)
walk_few site is_site s a (b ∷ bs) js rest stands h = go (split js rest (step site a b) (steps_from site b bs) h) (λ ks e. walk_few site is_site (after_kinds s (step site a b)) b bs ks rest (step_stands site is_site s a b stands).1 e)
  where
    go : ((ws : List Kind) × (step site a b ≡ js ++ ws)) ⊎ ((ws : List Kind) × (js ≡ step site a b ++ ws) × (ws ++ rest ≡ steps_from site b bs)) → ((ks : List Kind) → ks ++ rest ≡ steps_from site b bs → HoldsFew (after_kinds (after_kinds s (step site a b)) ks)) → HoldsFew (after_kinds s js)
    go (inl w) ih = record {
      claims = footprint_of site a ++ footprint_of site b;
      within =
          within_kinds (footprint_of site a ++ footprint_of site b) js s
          (λ d t. In-append_left (footprint_of site a) (footprint_of site b) (has_In (footprint_of site a) d (sym (stands.holds d) ∙ t)))
          (λ c i. In-append_right (footprint_of site a) (footprint_of site b) (step_claims site a b c (subst (λ ks. In (Acquire c) ks) (sym w.1) (In-append_left js w.0 i))));
      short = (
          let l = length-append (footprint_of site a) (footprint_of site b) in
          let k = is_site.short a in
          let j = is_site.short b in
          omega arith);
    }
    go (inr w) ih = subst (λ t. HoldsFew t) (sym (ap (λ ks. after_kinds s ks) w.1 ∙ after_kinds-append s (step site a b) w.0)) (ih w.0 w.2)

-- within its walk a robot holds few claims, wherever it starts
steps_few : (site : Site) → IsSite site → (o : Option CellNo) (js rest : List Kind) → AreSteps site o (js ++ rest) → HoldsFew (after_kinds (start_at site o) js)
steps_few site is_site None [] rest h = record { claims = []; within = λ d t. absurd (both_ways false refl t); short = omega arith }
steps_few site is_site None (j ∷ js) rest h = absurd (cc)
steps_few site is_site (Some a) js rest h = walk_few site is_site (standing site a) a h.0 js rest (start_stands site is_site a) h.2

-- each robot holds few claims
now_few : (m : Fleet) (q : ℕ) → IsSite m.site → IsGoodPlan m → HoldsFew (now m q)
now_few m q is_site good =
    let first : Begins (own q m.finished) (own q m.plan) = (finished_kept m good).first q in
    let parts : kinds q m.plan ≡ kinds q m.finished ++ map (λ (e : Event). e.kind) first.0 = ap (λ es. map (λ (e : Event). e.kind) es) first.1 ∙ map-append (λ (e : Event). e.kind) (own q m.finished) first.0 in
    subst (λ s. HoldsFew s) (sym (replay_own (opening m.site m.starts) m.finished q))
    (steps_few m.site is_site (slice_get m.starts q) (kinds q m.finished) (map (λ (e : Event). e.kind) first.0) (subst (λ ks. AreSteps m.site (slice_get m.starts q) ks) parts (good.walks q)))

-- a robot holds at most six claims
pub held_few : (m : Fleet) (q : ℕ) → IsSite m.site → IsGoodPlan m → length (held_by m q) ≤ 6
held_few m q is_site good =
    let f = now_few m q is_site good in
    let n : ℕ = length m.site.groups in
    let l = filter_le (now m q).holds (has_claim f.claims) (claims_from 0 n) (λ d i t. In_has f.claims d (f.within d t)) in
    let k = few f.claims 0 n in
    let j = f.short in
    omega arith

-- and they ascend
pub held_rise : (m : Fleet) (q : ℕ) → RiseFrom 0 (held_by m q)
held_rise m q = rise_filter (now m q).holds 0 (length m.site.groups)

-- a robot that is about to acquire a claim holds fewer than six
pub acquired_room : (m : Fleet) (e : Event) (c : ClaimNo) → IsSite m.site → IsCounted m.site → IsGoodPlan m → IsReady (IsBehind m.site.groups) m.plan m.finished e → e.kind ≡ Acquire c → length (held_by m e.robot.0) < 6
acquired_room m e c is_site counts good ready k =
    let few : length (held_by (reported m (Some e)) e.robot.0) ≤ 6 = held_few (reported m (Some e)) e.robot.0 is_site (report_good m e good ready) in
    let is : held_by (reported m (Some e)) e.robot.0 ≡ placed (held_by m e.robot.0) c = ap (λ s. held_claims m.site s) (now-own m e) ∙ held_more m e c is_site counts good ready k in
    let one = ap length is ∙ length-placed (held_by m e.robot.0) c in
    omega arith

-- openings

-- those of a rising list are the list
filter_listed : (cs : List ClaimNo) (a n : ℕ) → RiseFrom a cs → ((d : ClaimNo) → In d cs → d.0 < a + n) → filter (has_claim cs) (claims_from a n) ≡ cs
filter_listed [] a n h l = none_pass (has_claim []) (claims_from a n) (λ d i. refl)
filter_listed (c ∷ cs) a zero h l = let k = l c (here refl) in let j = h.0 in absurd (omega arith)
filter_listed (c ∷ cs) a (suc n) h l = go (cases_eq a c.0) (λ r b. filter_listed cs (a + 1) n r b) (λ r b. filter_listed (c ∷ cs) (a + 1) n r b)
  where
    rest : List ClaimNo
    rest = claims_from (a + 1) n

    go : (a ≡ c.0) ⊎ (a ≡ c.0 → ⊥) → (RiseFrom (a + 1) cs → ((d : ClaimNo) → In d cs → d.0 < a + 1 + n) → filter (has_claim cs) rest ≡ cs)
        → (RiseFrom (a + 1) (c ∷ cs) → ((d : ClaimNo) → In d (c ∷ cs) → d.0 < a + 1 + n) → filter (has_claim (c ∷ cs)) rest ≡ c ∷ cs) → filter (has_claim (c ∷ cs)) (record { 0 = a } ∷ rest) ≡ c ∷ cs
    go (inl e) ih other =
        let same : record { 0 = a } ≡ c = λ i. record { 0 = e i } in
        filter_in (has_claim (c ∷ cs)) (record { 0 = a }) rest (or_left (c.0 == a) (has_claim cs (record { 0 = a })) (eq-eqb c.0 a (sym e)))
        ∙ ((λ i. same i ∷ filter (has_claim (c ∷ cs)) rest)
        ∙ ap (λ ds. c ∷ ds) (filter_agree_in (has_claim (c ∷ cs)) (has_claim cs) rest (λ d i. let k = above (a + 1) n d i in ap (λ b. b || has_claim cs d) (ne_eqb c.0 d.0 (λ j. omega arith)))
        ∙ ih (subst (λ k. RiseFrom (k + 1) cs) (sym e) h.1) (λ d i. let k = l d (there i) in omega arith)))
    go (inr o) ih other =
        let k = h.0 in
        filter_out (has_claim (c ∷ cs)) (record { 0 = a }) rest (unnamed (a + 1) (c ∷ cs) (record { 0 = a }) (omega arith, h.1) (omega arith))
        ∙ other (omega arith, h.1) (λ d i. let j = l d i in omega arith)

-- what a robot holds in a cell is the footprint
pub held_standing : (site : Site) (a : CellNo) → IsSite site → IsCounted site → held_claims site (standing site a) ≡ footprint_of site a
held_standing site a is_site counts = filter_listed (footprint_of site a) 0 (length site.groups) (is_site.ascending a) (λ d i. let l = counts.counted a d i in omega arith)

pub holdings-opening : (site : Site) (starts : List CellNo) (pending : List (Option (List CellNo))) (next cap : ℕ) → IsSite site → IsCounted site → holdings (opening_state site starts pending next cap).fleet ≡ map (footprint_of site) starts
holdings-opening site starts pending next cap is_site counts =
    sym (fill_by_all (held_by (opening_state site starts pending next cap).fleet) (map (footprint_of site) starts) (length starts) [] (length-map starts (footprint_of site)) at)
  where
    at : (k : ℕ) → k < length starts → get_or (map (footprint_of site) starts) k [] ≡ held_claims site (start_at site (slice_get starts k))
    at k l =
        let a : CellNo = get_or starts k (record { 0 = 0 }) in
        get_or-map (footprint_of site) starts k (record { 0 = 0 }) [] l
        ∙ (sym (held_standing site a is_site counts) ∙ ap (λ o. held_claims site (start_at site o)) (sym (slice_get-get_or starts k (record { 0 = 0 }) l)))
