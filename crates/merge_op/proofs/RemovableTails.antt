-- The removable tail of a plan, by the robot's unfinished events.
use Rattle.std.proofs.Common.{◌≡◌, ℕ, ◌+◌, ◌-◌, ◌<◌, Bool, true, false, not, ◌==◌, inl, inr, refl, sym, ap, ◌∙◌, subst, List, [], ◌∷◌, ◌++◌, map, length, take, drop, append_assoc, arith, length-append, length-drop, Option, Some, None}
use Rattle.std.proofs.lemmas.Bool.{both_ways, cases_Bool, false_from_ne_true, not-true, not_from_false}
use Rattle.std.proofs.lemmas.List.{map-append, take-append-drop}
use Rattle.std.proofs.lemmas.Option.{same_Some, slice_get-map}
use Rattle.std.proofs.Math.Seq.{take-append_seam}
use Rattle.std.specs.Prelude.{slice_get}
use Rattle.std.specs.List.{filter}
use Rattle.std.specs.Option.{option_map}
use Rattle.fleet_base.specs.declared.numbers.ClaimGroup.{ClaimGroup}
use Rattle.fleet_base.specs.declared.numbers.Event.{Event}
use Rattle.fleet_base.specs.declared.numbers.Kind.{Kind}
use Rattle.fleet_model.specs.Lists.{In, here, there}
use Rattle.fleet_model.specs.Sites.{Site, IsSite}
use Rattle.fleet_model.specs.Replays.{AreSteps}
use Rattle.fleet_model.specs.Plans.{Fleet, IsRemovableTail, is_awaited, is_done, own, removable_tail, unfinished}
use Rattle.fleet_model.specs.Good.{IsAscending, IsGoodPlan}
use Rattle.fleet_model.proofs.Filters.{filter_all, filter_out, filter_swap}
use Rattle.fleet_model.proofs.Lists.{In_unfilter}
use Rattle.fleet_model.proofs.Numbers.{IsAscending-own, from_one, low_bound, own_In}
use Rattle.fleet_model.proofs.Tails.{tail_is, tail_longest}
use Rattle.fleet_model.proofs.Tests.{any_none, none_any}
use Rattle.site_map.specs.Built.{BuiltSite}
use Rattle.site_map.specs.Claims.{site_of}
use Rattle.event_graph.proofs.Whole.{awaited_whole, closed, tail_enough, tail_whole}
use Rattle.merge_op.specs.Rests.{begins_step, IsFirstFree, IsFreeFrom}
use Rattle.merge_op.proofs.Beginnings.{front_steps, tail_begins}
use Rattle.merge_op.proofs.Places.{get_In, In_get, get-append_right, get-drop}

abbrev kinds_of : List Event → List Kind
kinds_of es = map (λ (e : Event). e.kind) es

-- of events that rise, where what comes behind an undone one is undone, those that are undone are the last
undone_last : (done : Event → Bool) (low : ℕ) (es : List Event) → IsAscending low es → ((e f : Event) → In e es → In f es → f.no.0 < e.no.0 → done e ≡ true → done f ≡ true)
    → (front : List Event) × (es ≡ front ++ filter (λ e. not (done e)) es)
undone_last done low [] rises closed = ([], refl)
undone_last done low (e ∷ es) rises closed = elim (cases_Bool (done e)) [
  | inl t ↦
      let later = undone_last done (e.no.0 + 1) es rises.1 (λ x y i j. closed x y (there i) (there j)) in
      (e ∷ later.0, ap (λ xs. e ∷ xs) later.1 ∙ ap (λ xs. e ∷ later.0 ++ xs) (sym (filter_out (λ x. not (done x)) e es (ap not t))))
  | inr n ↦
      ([], sym (filter_all (λ x. not (done x)) (e ∷ es) (λ x i. not_from_false (done x) (false_from_ne_true (done x) (λ t. both_ways (done e) n (first x i t))))))
]
  where
    first : (x : Event) → In x (e ∷ es) → done x ≡ true → done e ≡ true
    first x (here k) t = ap done (sym k) ∙ t
    first x (there i) t = closed x e (there i) (here refl) (let b = low_bound (e.no.0 + 1) es rises.1 i in omega arith) t

module _ (built : BuiltSite) (m : Fleet) (is_site : IsSite (site_of built)) (good : IsGoodPlan m) (over : m.site ≡ site_of built) (r : ℕ) where
  -- the robot's unfinished events
  abbrev mine : List Event
  mine = own r (unfinished m)

  -- they are the last of its events
  mine_last : (front : List Event) × (own r m.plan ≡ front ++ mine)
  mine_last =
      let last = undone_last (is_done m.finished) 1 (own r m.plan) (IsAscending-own r 1 m.plan (from_one m good))
      (λ e f i j l t.
      let p = own_In r m.plan i in
      let q = own_In r m.plan j in
      closed m good e f p.0 q.0 (inl (q.1 ∙ sym p.1, l)) t)
      in
      (last.0, last.1 ∙ ap (λ es. last.0 ++ es) (filter_swap (λ e. not (is_done m.finished e)) (λ (e : Event). e.robot.0 == r) m.plan))

  -- one of them is unfinished and planned
  mine_is : (e : Event) → In e mine → In e (unfinished m) × In e m.plan × (is_done m.finished e ≡ false)
  mine_is e i =
      let o = own_In r (unfinished m) i in
      let u = In_unfilter (λ x. not (is_done m.finished x)) m.plan o.0 in
      (o.0, u.0, not-true (is_done m.finished e) u.1)

  abbrev IsFree : ℕ → Type 0
  IsFree place = IsFreeFrom built.cells m.site.groups (unfinished m) mine place

  -- from where a removable tail begins events may go
  free_of_tail : (tail : List Event) → IsRemovableTail m r tail → IsFree (length mine - length tail)
  free_of_tail tail is = record {
    within = omega arith;
    begins = λ e h. tail_begins built is_site (slice_get m.starts r) (kinds_of is.front) (kinds_of tail) whole (subst (λ s. AreSteps s (slice_get m.starts r) (kinds_of is.front)) over is.rests) e.kind (slice_get-map (λ (x : Event). x.kind) tail 0 ∙ ap (option_map (λ (x : Event). x.kind)) (at 0 e (ap (slice_get mine) plus_none ∙ h)));
    unawaited = λ i e l h.
        let k = i - (length mine - length tail) in
        let j = get_In tail k e (at k e (ap (slice_get mine) (let s : length mine - length tail + k ≡ i = omega arith in s) ∙ h)) in
        any_none (λ x. is_awaited m.site.groups x e) (unfinished m) (λ x n. is.unawaited x e (In_unfilter (λ y. not (is_done m.finished y)) m.plan n).0 j);
  }
    where
      whole : AreSteps (site_of built) (slice_get m.starts r) (kinds_of is.front ++ kinds_of tail)
      whole = subst (λ s. AreSteps s (slice_get m.starts r) (kinds_of is.front ++ kinds_of tail)) over (subst (λ ks. AreSteps m.site (slice_get m.starts r) ks) (ap kinds_of is.splits ∙ map-append (λ (x : Event). x.kind) is.front tail) (good.walks r))

      plus_none : length mine - length tail + 0 ≡ length mine - length tail
      plus_none = omega arith

      at : (k : ℕ) (e : Event) → slice_get mine (length mine - length tail + k) ≡ Some e → slice_get tail k ≡ Some e
      at k e h = ap (λ es. slice_get es k) (sym (tail_whole m r tail is)) ∙ (get-drop mine (length mine - length tail) k ∙ h)

  -- events that may go are a removable tail
  tail_of_free : (place : ℕ) → IsFree place → IsRemovableTail m r (drop place mine)
  tail_of_free place free = record {
    front = before;
    splits = splits;
    rests = subst (λ s. AreSteps s (slice_get m.starts r) (kinds_of before)) (sym over) rests;
    undone = λ f i. (mine_is f (in_drop f i).1).2;
    unawaited = λ e f i j.
        let d = in_drop f j in
        none_any (λ x. is_awaited m.site.groups x f) m.plan e i (sym (awaited_whole m good f (mine_is f d.1).0) ∙ free.unawaited (place + d.0) f (omega arith) d.2);
  }
    where
      before : List Event
      before = mine_last.0 ++ take place mine

      splits : own r m.plan ≡ before ++ drop place mine
      splits = mine_last.1 ∙ (ap (λ es. mine_last.0 ++ es) (sym (take-append-drop place mine)) ∙ sym (append_assoc mine_last.0 (take place mine) (drop place mine)))

      whole : AreSteps (site_of built) (slice_get m.starts r) (kinds_of before ++ kinds_of (drop place mine))
      whole = subst (λ s. AreSteps s (slice_get m.starts r) (kinds_of before ++ kinds_of (drop place mine))) over (subst (λ ks. AreSteps m.site (slice_get m.starts r) ks) (ap kinds_of splits ∙ map-append (λ (x : Event). x.kind) before (drop place mine)) (good.walks r))

      begins_at : (o : Option Event) → slice_get mine place ≡ o → (k : Kind) → option_map (λ (x : Event). x.kind) o ≡ Some k → begins_step built.cells k ≡ true
      begins_at None e k h = absurd (cc)
      begins_at (Some x) e k h = ap (begins_step built.cells) (sym (same_Some x.kind k h)) ∙ free.begins x e

      behind : slice_get (kinds_of before ++ kinds_of (drop place mine)) (length (kinds_of before)) ≡ option_map (λ (x : Event). x.kind) (slice_get mine place)
      behind =
          get-append_right (kinds_of before) (kinds_of (drop place mine)) (length (kinds_of before)) (omega arith)
          ∙ (ap (slice_get (kinds_of (drop place mine))) (let z : length (kinds_of before) - length (kinds_of before) ≡ 0 = omega arith in z)
          ∙ (slice_get-map (λ (x : Event). x.kind) (drop place mine) 0
          ∙ ap (option_map (λ (x : Event). x.kind)) (get-drop mine place 0 ∙ ap (slice_get mine) (let p : place + 0 ≡ place = omega arith in p))))

      rests : AreSteps (site_of built) (slice_get m.starts r) (kinds_of before)
      rests =
          subst (λ ks. AreSteps (site_of built) (slice_get m.starts r) ks) (take-append_seam (kinds_of before) (kinds_of (drop place mine)))
          (front_steps built is_site (slice_get m.starts r) (kinds_of before ++ kinds_of (drop place mine)) (length (kinds_of before)) whole
          (omega (arith, length-append (kinds_of before) (kinds_of (drop place mine))))
          (λ k h. begins_at (slice_get mine place) refl k (sym behind ∙ h)))

      in_drop : (f : Event) → In f (drop place mine) → (k : ℕ) × In f mine × (slice_get mine (place + k) ≡ Some f)
      in_drop f i =
          let k = In_get (drop place mine) f i in
          let at = sym (get-drop mine place k.0) ∙ k.1 in
          (k.0, get_In mine (place + k.0) f at, at)

  -- from the first place on from which events may go stand as many as the removable tail has
  pub removed : (first : ℕ) → IsFirstFree built.cells m.site.groups (unfinished m) mine 0 first → length mine - first ≡ length (removable_tail m r)
  removed first is =
      let tail = tail_is m r good in
      let enough = tail_enough m r (removable_tail m r) tail in
      let upto = is.first (length mine - length (removable_tail m r)) (omega arith) (free_of_tail (removable_tail m r) tail) in
      let within = is.free.within in
      let longest = tail_longest m r good (drop first mine) (tail_of_free first is.free) in
      let left = length-drop first mine in
      omega arith

-- the same, where the parts are handed in
pub removed_by : (built : BuiltSite) (m : Fleet) (r cells first left : ℕ) (groups : List ClaimGroup) (events : List Event) → IsSite (site_of built) → IsGoodPlan m → m.site ≡ site_of built
    → cells ≡ built.cells → groups ≡ (site_of built).groups → unfinished m ≡ events → left ≡ length (own r events) → IsFirstFree cells groups events (own r events) 0 first → left - first ≡ length (removable_tail m r)
removed_by built m r cells first left groups events is_site good over cells_are groups_are events_are left_is is =
    let with_cells : IsFirstFree built.cells groups events (own r events) 0 first = subst (λ n. IsFirstFree n groups events (own r events) 0 first) cells_are is in
    let with_groups : IsFirstFree built.cells m.site.groups events (own r events) 0 first = subst (λ gs. IsFirstFree built.cells gs events (own r events) 0 first) (groups_are ∙ ap (λ (s : Site). s.groups) (sym over)) with_cells in
    let with_events : IsFirstFree built.cells m.site.groups (unfinished m) (own r (unfinished m)) 0 first = subst (λ es. IsFirstFree built.cells m.site.groups es (own r es) 0 first) (sym events_are) with_groups in
    ap (λ n. n - first) (left_is ∙ ap (λ es. length (own r es)) (sym events_are)) ∙ removed built m is_site good over r first with_events
