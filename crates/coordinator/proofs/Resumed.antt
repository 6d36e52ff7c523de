-- Pending routes that are put in one after the other, and what a checkpoint without a fault opens.
use Rattle.std.proofs.Common.{◌≡◌, ℕ, zero, suc, ◌+◌, ◌<◌, ◌≤◌, Bool, true, false, ◌&&◌, ◌||◌, ◌==◌, ◌⊎◌, inl, inr, refl, sym, ap, ◌∙◌, subst, List, [], ◌∷◌, map, length, drop, set, get_or, arith, Option, Some, None}
use Rattle.std.proofs.lemmas.Bool.{and_parts, cases_lt, eqb-true, le-ltb, lt-ltb, ltb-false, not-false, or_parts}
use Rattle.std.proofs.lemmas.List.{at_drop_more, drop_all, get_or_past, length-map, length-set}
use Rattle.std.proofs.lemmas.Option.{same_Some, slice_get-get_or}
use Rattle.std.specs.Prelude.{nat_lt, slice_get}
use Rattle.std.specs.List.{filter}
use Rattle.std.specs.Option.{is_none, is_some, option_map}
use Rattle.fleet_base.specs.declared.limits.TheConstants.{MAX_FIRST}
use Rattle.fleet_base.specs.declared.numbers.CellNo.{CellNo}
use Rattle.fleet_model.specs.Lists.{first_some, when}
use Rattle.fleet_model.specs.Sites.{Site}
use Rattle.fleet_model.specs.Replays.{start_at}
use Rattle.fleet_model.specs.States.{State, opening_state, pending_of}
use Rattle.fleet_model.specs.Calls.{begin_at}
use Rattle.fleet_model.specs.Good.{IsOpening}
use Rattle.fleet_model.proofs.Accepted.{start_of}
use Rattle.fleet_model.proofs.Filters.{length-filter-le}
use Rattle.fleet_model.proofs.Options.{map_none, when_none}
use Rattle.fleet_model.proofs.Room.{filled_more}
use Rattle.fleet_model.proofs.SameNumbers.{same_cell}
use Rattle.deferral.specs.declared.pending.Pending.{Pending}
use Rattle.deferral.specs.Backlogs.{Backlog}
use Rattle.deferral.specs.Laws as deferrals
use Rattle.plan_events.specs.Shapes.{shape_cause, IsShape}
use Rattle.plan_events.proofs.Causes.{accepted_shape}
use Rattle.coordinator.specs.declared.tables.Tables.{Tables}
use Rattle.coordinator.specs.Changes.{IsDeferred}
use Rattle.coordinator.specs.Kept.{Shows}
use Rattle.coordinator.specs.declared.refused.NewRefused.TheVariants as new_refused
use Rattle.coordinator.specs.declared.refused.ResumeRefused.{ResumeRefused}
use Rattle.coordinator.specs.declared.refused.ResumeRefused.TheVariants as resume_refused
use Rattle.coordinator.specs.Openings.{bad_pending, clash_from, is_bad, IsResumeRefusal, opening_cause, resume_cause}
use Rattle.coordinator.specs.Resuming.{early_cause, HasShape, IsPut}
use Rattle.coordinator.proofs.OpeningShown.{above_none}
use Rattle.coordinator.proofs.Apart.{apart}
use Rattle.coordinator.proofs.Backlogs.{IsNeeding, pending_shown}
use Rattle.coordinator.proofs.Proposed.{first_parts}
use Rattle.coordinator.proofs.Searches.{first_none}

abbrev Routes : Type 0
Routes = List (Option (List CellNo))

-- the first so many pending routes, and none of the others
abbrev pub first_routes : ℕ → Routes → Routes
first_routes zero ps = map (λ p. None) ps
first_routes (suc n) [] = []
first_routes (suc n) (p ∷ ps) = p ∷ first_routes n ps

pub length-first : (n : ℕ) (ps : Routes) → length (first_routes n ps) ≡ length ps
length-first zero ps = length-map ps (λ p. None)
length-first (suc n) [] = refl
length-first (suc n) (p ∷ ps) = ap (λ k. suc k) (length-first n ps)

pub first_all : (n : ℕ) (ps : Routes) → length ps ≤ n → first_routes n ps ≡ ps
first_all zero [] l = refl
first_all zero (p ∷ ps) l = absurd (omega arith)
first_all (suc n) [] l = refl
first_all (suc n) (p ∷ ps) l = ap (λ qs. p ∷ qs) (first_all n ps (omega arith))

pub first_free : (n : ℕ) (ps : Routes) → get_or (first_routes n ps) n None ≡ None
first_free zero [] = refl
first_free zero (p ∷ ps) = refl
first_free (suc n) [] = refl
first_free (suc n) (p ∷ ps) = first_free n ps

first_without : (n : ℕ) (ps : Routes) → n < length ps → get_or ps n None ≡ None → first_routes (suc n) ps ≡ first_routes n ps
first_without n [] l h = absurd (omega arith)
first_without zero (p ∷ ps) l h = ap (λ q. q ∷ map (λ p. None) ps) h
first_without (suc n) (p ∷ ps) l h = ap (λ qs. p ∷ qs) (first_without n ps (omega arith) h)

first_with : (n : ℕ) (ps : Routes) (route : List CellNo) → n < length ps → get_or ps n None ≡ Some route → first_routes (suc n) ps ≡ set (first_routes n ps) n (Some route)
first_with n [] route l h = absurd (omega arith)
first_with zero (p ∷ ps) route l h = ap (λ q. q ∷ map (λ p. None) ps) h
first_with (suc n) (p ∷ ps) route l h = ap (λ qs. p ∷ qs) (first_with n ps route (omega arith) h)

-- a route that is put in is pending, and nothing else changes
put_shown : (t u : Tables) (s : State) (r : ℕ) (p : Pending) → Shows t s → length s.pending ≡ length s.fleet.starts → r < length s.fleet.starts → pending_of s r ≡ None → IsNeeding s.fleet.site (Some p) → IsDeferred t u r p → Shows u (record s { pending = set s.pending r (Some p.route) })
put_shown t u s r p shows places known none needing is = record {
  robots = ap (λ g. g.robots) is.graph ∙ shows.robots;
  groups = ap (λ g. g.groups) is.graph ∙ shows.groups;
  events = ap (λ g. g.events) is.graph ∙ shows.events;
  next = ap (λ g. g.next) is.graph ∙ shows.next;
  known = is.known ∙ shows.known;
  deferrals = subst (λ b. deferrals.Shows b (record s { pending = set s.pending r (Some p.route) })) (sym is.deferrals) (
      let d = pending_shown t.deferrals s r (Some p) shows.deferrals (omega (arith, shows.routes)) (omega arith) needing in
      record { groups = d.groups; routes = d.routes; needs = d.needs; ends = d.ends }
      );
  routes = ap (λ (d : Backlog). length d.pending) is.deferrals ∙ length-set t.deferrals.pending r (Some p) ∙ shows.routes;
  ends = ap (λ (d : Backlog). length d.ends) is.deferrals ∙ shows.ends;
  owed = (let more = filled_more s.pending r p.route (omega arith) none in omega (arith, is.owed, shows.owed, more));
}

-- the next route of a checkpoint is put in
pub route_put : (site : Site) (starts : List CellNo) (ps : Routes) (next n : ℕ) (t u : Tables) (o : Option (List CellNo)) → n < length ps → length ps ≡ length starts → get_or ps n None ≡ o → IsPut site t u n o → Shows t (opening_state site starts (first_routes n ps) next 0)
    → Shows u (opening_state site starts (first_routes (suc n) ps) next 0)
route_put site starts ps next n t u None l same at put shows =
    subst (λ x. Shows x (opening_state site starts (first_routes (suc n) ps) next 0)) (sym put) (subst (λ qs. Shows t (opening_state site starts qs next 0)) (sym (first_without n ps l at)) shows)
route_put site starts ps next n t u (Some route) l same at put shows =
    subst (λ qs. Shows u (opening_state site starts qs next 0)) (sym (first_with n ps route l at))
    (put_shown t u (opening_state site starts (first_routes n ps) next 0) n (record { route = route; needs = put.0 }) shows (length-first n ps ∙ same) (omega (arith, same)) (first_free n ps) (λ c. put.1 (record { 0 = c })) put.2)

-- the search for a bad route, one robot on
module _ (site : Site) (at : List CellNo) (ps : Routes) (i : ℕ) (a : CellNo) (p : Option (List CellNo)) where
  pub bad_past : i < length ps → length ps ≡ length at → is_bad site (get_or at i a) (get_or ps i p) ≡ false → bad_pending site i (drop i at) (drop i ps) ≡ bad_pending site (i + 1) (drop (i + 1) at) (drop (i + 1) ps)
  bad_past within same fine =
      at_drop_more (λ cells. bad_pending site i cells (drop i ps)) at i a (omega arith)
      ∙ (at_drop_more (λ qs. bad_pending site i (get_or at i a ∷ drop (i + 1) at) qs) ps i p within
      ∙ (ap (λ b. first_some (when b (record { 0 = i }) ∷ bad_pending site (i + 1) (drop (i + 1) at) (drop (i + 1) ps) ∷ [])) fine ∙ first_none (bad_pending site (i + 1) (drop (i + 1) at) (drop (i + 1) ps))))

  pub bad_there : i < length ps → length ps ≡ length at → is_bad site (get_or at i a) (get_or ps i p) ≡ true → bad_pending site i (drop i at) (drop i ps) ≡ Some (record { 0 = i })
  bad_there within same bad =
      at_drop_more (λ cells. bad_pending site i cells (drop i ps)) at i a (omega arith)
      ∙ (at_drop_more (λ qs. bad_pending site i (get_or at i a ∷ drop (i + 1) at) qs) ps i p within
      ∙ ap (λ b. first_some (when b (record { 0 = i }) ∷ bad_pending site (i + 1) (drop (i + 1) at) (drop (i + 1) ps) ∷ [])) bad)

  pub bad_none : length ps ≤ i → bad_pending site i (drop i at) (drop i ps) ≡ None
  bad_none past = ap (bad_pending site i (drop i at)) (drop_all i ps past)

-- where no route is bad each is legal from its cell
pub fine_at : (site : Site) (n : ℕ) (at : List CellNo) (ps : Routes) (r : ℕ) (a : CellNo) (route : List CellNo) → bad_pending site n at ps ≡ None → slice_get at r ≡ Some a → get_or ps r None ≡ Some route → is_bad site a (Some route) ≡ false
fine_at site n at [] r a route none start pends = absurd (cc)
fine_at site n [] (p ∷ ps) r a route none start pends = absurd (cc)
fine_at site n (b ∷ bs) (p ∷ ps) zero a route none start pends =
    let parts = first_parts (when (is_bad site b p) (record { 0 = n })) (bad_pending site (n + 1) bs ps ∷ []) none in
    let fine = when_none (is_bad site b p) (record { 0 = n }) parts.0 in
    subst (λ x. is_bad site x (Some route) ≡ false) (same_Some b a start) (subst (λ q. is_bad site b q ≡ false) pends fine)
fine_at site n (b ∷ bs) (p ∷ ps) (suc r) a route none start pends =
    let parts = first_parts (when (is_bad site b p) (record { 0 = n })) (bad_pending site (n + 1) bs ps ∷ []) none in
    fine_at site (n + 1) bs ps r a route (first_parts (bad_pending site (n + 1) bs ps) [] parts.1).0 start pends

none_of_test : {A : Type 0} (o : Option A) → is_none o ≡ true → o ≡ None
none_of_test None h = refl
none_of_test (Some x) h = absurd (cc)

-- a route that isn't bad has a shape, and begins at the cell
pub fine_parts : (site : Site) (a : CellNo) (route : List CellNo) → is_bad site a (Some route) ≡ false → (shape_cause site route ≡ None) × (begin_at a route ≡ true)
fine_parts site a route fine =
    let parts = and_parts (is_none (shape_cause site route)) (begin_at a route) (not-false (is_none (shape_cause site route) && begin_at a route) fine) in
    (none_of_test (shape_cause site route) parts.0, parts.1)

begins : (a : CellNo) (route : List CellNo) → begin_at a route ≡ true → slice_get route 0 ≡ Some a
begins a [] h = absurd (cc)
begins a (b ∷ bs) h = ap (λ x. Some x) (sym (same_cell a b (eqb-true a.0 b.0 h)))

-- a robot with a route pending has a cell
cell_of_pending : (starts : List CellNo) (ps : Routes) (r : ℕ) (route : List CellNo) → length ps ≡ length starts → get_or ps r None ≡ Some route → (a : CellNo) × (slice_get starts r ≡ Some a)
cell_of_pending starts ps r route same pends = go (cases_lt r (length ps))
  where
    go : (r < length ps) ⊎ (length ps ≤ r) → (a : CellNo) × (slice_get starts r ≡ Some a)
    go (inl l) = start_of starts r (omega (arith, same))
    go (inr l) = absurd (let none = get_or_past ps r None l in cc)

-- the pending route of a robot has a shape
pub shaped : (site : Site) (starts : List CellNo) (ps : Routes) (r : ℕ) (o : Option (List CellNo)) → length ps ≡ length starts → bad_pending site 0 starts ps ≡ None → get_or ps r None ≡ o → HasShape site o
shaped site starts ps r None same none pends = tt
shaped site starts ps r (Some route) same none pends =
    let a = cell_of_pending starts ps r route same pends in
    (fine_parts site a.0 route (fine_at site 0 starts ps r a.0 route none a.1 pends)).0

-- a checkpoint without a fault may open a run
pub checkpoint_opens : (site : Site) (starts : List CellNo) (ps : Routes) (next cap : ℕ) → clash_from site 0 starts ≡ None → (nat_lt next 1 || nat_lt MAX_FIRST next) ≡ false → length ps ≡ length starts → length starts ≤ 64 → bad_pending site 0 starts ps ≡ None → length (filter is_some ps) ≤ cap
    → IsOpening site starts ps next cap
checkpoint_opens site starts ps next cap free number same few none room =
    let bounds = or_parts (nat_lt next 1) (nat_lt MAX_FIRST next) number in
    record {
      first = ltb-false next 1 bounds.0;
      bounded = ltb-false MAX_FIRST next bounds.1;
      apart = apart site starts cap free;
      places = same;
      routes = λ r route pends.
          let a = cell_of_pending starts ps r route same pends in
          let fine = fine_parts site a.0 route (fine_at site 0 starts ps r a.0 route none a.1 pends) in
          let shape : IsShape site route = accepted_shape site route fine.0 in
          record { long = shape.long; short = shape.short; linked = shape.linked; begins = begins a.0 route fine.1 ∙ ap (λ o. Some (start_at site o).cell) (sym a.1) };
      room = room;
      total = (let less = length-filter-le is_some ps in omega (arith, less, same, few));
    }

-- lists as long as each other have as many places without a route
pub none_same : {A B C : Type 0} (xs : List A) (ys : List B) → length xs ≡ length ys → map {B = Option C} (λ x. None) xs ≡ map {B = Option C} (λ y. None) ys
none_same [] [] l = refl
none_same [] (y ∷ ys) l = absurd (omega (arith, l))
none_same (x ∷ xs) [] l = absurd (omega (arith, l))
none_same (x ∷ xs) (y ∷ ys) l = ap (λ zs. None ∷ zs) (none_same xs ys (omega (arith, l)))

-- an element that is there is so whatever stands for one that isn't
pub any_default : {A : Type 0} (xs : List A) (i : ℕ) (d e : A) → i < length xs → get_or xs i d ≡ get_or xs i e
any_default xs i d e l = same_Some (get_or xs i d) (get_or xs i e) (sym (slice_get-get_or xs i d l) ∙ slice_get-get_or xs i e l)

-- without an earlier cause there may be too many pending routes alone
pub resume_is : (site : Site) (starts : List CellNo) (ps : Routes) (next cap : ℕ) → early_cause site starts ps next ≡ None → resume_cause site starts ps next cap ≡ when (nat_lt cap (length (filter is_some ps))) resume_refused.Crowded
resume_is site starts ps next cap none =
    let one = first_parts (option_map (λ cause. resume_refused.New cause) (opening_cause site starts)) (when (nat_lt next 1 || nat_lt MAX_FIRST next) resume_refused.BadNext ∷ option_map (λ r. resume_refused.BadPending r) (bad_pending site 0 starts ps) ∷ []) none in
    let two = first_parts (when (nat_lt next 1 || nat_lt MAX_FIRST next) resume_refused.BadNext) (option_map (λ r. resume_refused.BadPending r) (bad_pending site 0 starts ps) ∷ []) one.1 in
    let three = first_parts (option_map (λ r. resume_refused.BadPending r) (bad_pending site 0 starts ps)) [] two.1 in
    (λ i. first_some (one.0 i ∷ two.0 i ∷ three.0 i ∷ when (nat_lt cap (length (filter is_some ps))) resume_refused.Crowded ∷ []))
    ∙ last_alone (when (nat_lt cap (length (filter is_some ps))) resume_refused.Crowded)
  where
    last_alone : (o : Option ResumeRefused) → first_some (None ∷ None ∷ None ∷ o ∷ []) ≡ o
    last_alone None = refl
    last_alone (Some x) = refl

-- what a checkpoint without an earlier cause is
pub record IsFine (site : Site) (starts : List CellNo) (ps : Routes) (next : ℕ) : Type 0 where
  pub some : 0 < length starts
  pub free : clash_from site 0 starts ≡ None
  pub number : (nat_lt next 1 || nat_lt MAX_FIRST next) ≡ false
  pub legal : bad_pending site 0 starts ps ≡ None

pub fine_is : (site : Site) (starts : List CellNo) (ps : Routes) (next : ℕ) → early_cause site starts ps next ≡ None → IsFine site starts ps next
fine_is site starts ps next none =
    let one = first_parts (option_map (λ cause. resume_refused.New cause) (opening_cause site starts)) (when (nat_lt next 1 || nat_lt MAX_FIRST next) resume_refused.BadNext ∷ option_map (λ r. resume_refused.BadPending r) (bad_pending site 0 starts ps) ∷ []) none in
    let two = first_parts (when (nat_lt next 1 || nat_lt MAX_FIRST next) resume_refused.BadNext) (option_map (λ r. resume_refused.BadPending r) (bad_pending site 0 starts ps) ∷ []) one.1 in
    let three = first_parts (option_map (λ r. resume_refused.BadPending r) (bad_pending site 0 starts ps)) [] two.1 in
    let opens = map_none (λ cause. resume_refused.New cause) (opening_cause site starts) one.0 in
    let clash = first_parts (when (length starts == 0) new_refused.NoRobot) (clash_from site 0 starts ∷ []) opens in
    record {
      some = above_none (length starts) (when_none (length starts == 0) new_refused.NoRobot clash.0);
      free = (first_parts (clash_from site 0 starts) [] clash.1).0;
      number = when_none (nat_lt next 1 || nat_lt MAX_FIRST next) resume_refused.BadNext two.0;
      legal = map_none (λ r. resume_refused.BadPending r) (bad_pending site 0 starts ps) three.0;
    }

-- the refusal for want of memory, behind the earlier causes
pub late_refusal : (cap count : ℕ) → IsResumeRefusal (when (nat_lt cap count) resume_refused.Crowded) resume_refused.NoMemory
late_refusal cap count = go (nat_lt cap count)
  where
    go : (b : Bool) → IsResumeRefusal (when b resume_refused.Crowded) resume_refused.NoMemory
    go true = inr refl
    go false = refl

-- too many pending routes are the refusal, behind the earlier causes
pub crowded_refusal : (site : Site) (starts : List CellNo) (ps : Routes) (next cap : ℕ) → early_cause site starts ps next ≡ None → cap < length (filter is_some ps) → IsResumeRefusal (resume_cause site starts ps next cap) resume_refused.Crowded
crowded_refusal site starts ps next cap none many =
    let count = length (filter is_some ps) in
    subst (λ o. IsResumeRefusal o resume_refused.Crowded) (sym (resume_is site starts ps next cap none ∙ ap (λ b. when b resume_refused.Crowded) (lt-ltb cap count many))) (inl refl)

-- without an earlier cause and with room for the pending routes there is no cause
pub no_cause : (site : Site) (starts : List CellNo) (ps : Routes) (next cap : ℕ) → early_cause site starts ps next ≡ None → length (filter is_some ps) ≤ cap → resume_cause site starts ps next cap ≡ None
no_cause site starts ps next cap none room =
    let count = length (filter is_some ps) in
    resume_is site starts ps next cap none ∙ ap (λ b. when b resume_refused.Crowded) (le-ltb cap count room)

-- the tables don't tell the cap
pub capped_shown : (t : Tables) (site : Site) (starts : List CellNo) (ps : Routes) (next cap : ℕ) → Shows t (opening_state site starts ps next 0) → Shows t (opening_state site starts ps next cap)
capped_shown t site starts ps next cap shows = record {
  robots = shows.robots;
  groups = shows.groups;
  events = shows.events;
  next = shows.next;
  known = shows.known;
  deferrals = (let d = shows.deferrals in record { groups = d.groups; routes = d.routes; needs = d.needs; ends = d.ends });
  routes = shows.routes;
  ends = shows.ends;
  owed = shows.owed;
}
