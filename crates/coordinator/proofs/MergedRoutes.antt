-- A merge that a call makes, over the tables.
use Rattle.std.proofs.Common.{◌≡◌, ℕ, zero, suc, ◌+◌, ◌<◌, ◌≤◌, List, [], ◌∷◌, ◌++◌, length, Some, sym, ap, subst, ◌∙◌, refl, arith}
use Rattle.std.proofs.lemmas.List.{length-append, length-map}
use Rattle.std.proofs.lemmas.List.Elements.{All-head, All-tail}
use Rattle.std.proofs.lemmas.List.FromFn.{length-map-range_with_len}
use Rattle.std.specs.Prelude.{All, Vec, slice_get, vec_len}
use Rattle.std.specs.Vec.{vec_capacity}
use Rattle.std.specs.Global.{Global}
use Rattle.std.specs.Option.{option_map, option_to_list, unwrap_or}
use Rattle.fleet_base.specs.declared.entries.Act.{Act}
use Rattle.fleet_base.specs.declared.entries.Entry.{Entry}
use Rattle.fleet_base.specs.declared.numbers.CellNo.{CellNo}
use Rattle.fleet_base.specs.declared.numbers.ClaimGroup.{ClaimGroup}
use Rattle.fleet_base.specs.declared.numbers.Kind.{Kind}
use Rattle.fleet_base.specs.declared.marks.Mark.{Mark}
use Rattle.fleet_model.specs.Lists.{In, when}
use Rattle.fleet_model.specs.Sites.{IsSite, cell_count, footprint_of, last_cell, steps}
use Rattle.fleet_model.specs.Plans.{Fleet, cell_of, end_of, merged, numbered, unfinished}
use Rattle.fleet_model.specs.States.{State, base_behind, is_past}
use Rattle.fleet_model.specs.Segments.{mark_at}
use Rattle.fleet_model.specs.Calls.{in_segment, with_route}
use Rattle.fleet_model.specs.Good.{IsGood, IsGoodPlan}
use Rattle.fleet_model.proofs.Accepted.{start_of}
use Rattle.fleet_model.proofs.Blockers.{ends_within, has_In, length-ends}
use Rattle.fleet_model.proofs.Numbered.{length-numbered}
use Rattle.fleet_model.proofs.StepCounts.{steps_long}
use Rattle.fleet_model.proofs.Tables.{unfinished-merged}
use Rattle.fleet_model.proofs.Turns.{call_good}
use Rattle.event_graph.specs.Graphs.{AreApart, IsKnown}
use Rattle.event_graph.proofs.Uses.{unfinished_apart}
use Rattle.event_graph.proofs.Whole.{steps_known}
use Rattle.site_map.specs.Built.{BuiltSite}
use Rattle.site_map.specs.Cells.{cells_below}
use Rattle.site_map.specs.Claims.{footprint_in, site_of}
use Rattle.robot_tables.specs.Robots.{Robots}
use Rattle.coordinator.specs.declared.coordinator.Coordinator.TheInside.{Inside}
use Rattle.coordinator.specs.declared.tables.Tables.{Tables}
use Rattle.coordinator.specs.Changes.{IsSettled, IsTold}
use Rattle.coordinator.specs.Kept.{IsKept, Shows}
use Rattle.coordinator.specs.Merging.{WouldMerge, growth_of}
use Rattle.coordinator.proofs.EndCells.{cell_known, end_known, last_known}
use Rattle.coordinator.proofs.KeptNext.{counted_is, good, kept_grown, site_is, state}
use Rattle.coordinator.proofs.Transitions.{based_shown, settled_shown}

pub all_at : {A : Type 0} (P : A → Type 0) (xs : List A) (i : ℕ) (x : A) → All P xs → slice_get xs i ≡ Some x → P x
all_at P [] i x all at = absurd (cc)
all_at P (y ∷ ys) zero x all at = let same : y ≡ x = cc in subst P same (All-head P y ys all)
all_at P (y ∷ ys) (suc i) x all at = all_at P ys i x (All-tail P y ys all) at

pub cells_of : (site : BuiltSite) → cell_count (site_of site) ≡ site.cells
cells_of site = length-map (cells_below site.cells) (footprint_in site) ∙ length-map-range_with_len (λ k. record { 0 = k }) 0 site.cells

-- what the tables tell of ends
module _ (c : Inside) (kept : IsKept c) where
  abbrev now : State
  now = state c kept

  -- the cells of a fleet's site are those of the site that is kept
  count_of : (m : Fleet) → m.site ≡ now.fleet.site → cell_count m.site ≡ c.site.cells
  count_of m site = ap cell_count (site ∙ kept.state.site) ∙ cells_of c.site

  pub tables_known : (r : ℕ) → r < length now.fleet.starts → r < length c.tables.robots.ends
  tables_known r known = omega (arith, ap (λ (k : Robots). length k.ends) kept.tables.known, length-ends now.fleet)

  pub end_at : (r : ℕ) (a : CellNo) → slice_get c.tables.robots.ends r ≡ Some a → (r < length now.fleet.starts) × (a ≡ end_of now.fleet r)
  end_at r a at = ends_within now.fleet r a (ap (λ (k : Robots). slice_get k.ends r) (sym kept.tables.known) ∙ at)

  -- where a robot started, by any plan of the fleet
  start_cell : (m : Fleet) → m.site ≡ now.fleet.site → m.starts ≡ now.fleet.starts → (r : ℕ) → r < length now.fleet.starts → (a : CellNo) × (slice_get m.starts r ≡ Some a) × (a.0 < cell_count m.site)
  start_cell m site starts r known =
      let start = start_of m.starts r (omega (arith, known, ap length starts)) in
      let there : slice_get c.from.at.items r ≡ Some start.0 = ap (λ xs. slice_get xs r) (sym (starts ∙ kept.state.starts)) ∙ start.1 in
      let below = all_at (λ (a : CellNo). a.0 < c.site.cells) c.from.at.items r start.0 kept.known there in
      (start.0, start.1, omega (arith, below, count_of m site))

  -- where a robot ends by any plan of the fleet
  pub end_cell_by : (m : Fleet) → m.site ≡ now.fleet.site → m.starts ≡ now.fleet.starts → IsGoodPlan m → (r : ℕ) → r < length now.fleet.starts → (end_of m r).0 < c.site.cells
  end_cell_by m site starts plan r known =
      let start = start_cell m site starts r known in
      omega (arith, end_known m (subst IsSite (sym site) (site_is c kept)) plan r start.0 start.1 start.2, count_of m site)

  -- where it is
  pub at_cell : (r : ℕ) → r < length now.fleet.starts → (cell_of now.fleet r).0 < c.site.cells
  at_cell r known =
      let start = start_cell now.fleet refl refl r known in
      omega (arith, cell_known now.fleet (site_is c kept) (good c kept).plan r start.0 start.1 start.2, count_of now.fleet refl)

  pub end_cell : (r : ℕ) → r < length now.fleet.starts → (end_of now.fleet r).0 < c.site.cells
  end_cell r known = end_cell_by now.fleet refl refl (good c kept).plan r known

  pub told : (r : ℕ) → IsTold c.site c.tables r
  told r a at =
      let is = end_at r a at in (
        subst (λ (x : CellNo). x.0 < c.site.cells) (sym is.1) (end_cell r is.0),
        ap (λ z. footprint_of z a) (sym kept.state.site)
            ∙ ap (λ o. unwrap_or (option_map (footprint_of now.fleet.site) o) []) (sym (ap (λ (k : Robots). slice_get k.ends r) (sym kept.tables.known) ∙ at))
            ∙ sym (kept.tables.deferrals.ends r),
      )

module _ (c : Inside) (kept : IsKept c) (r : ℕ) (kinds : List Kind) (end : CellNo) (act : Act) (would : WouldMerge (state c kept) r kinds end act) where
  abbrev s : State
  s = state c kept

  abbrev route : List CellNo
  route = would.start ∷ would.rest

  abbrev growth : ℕ
  growth = growth_of act kinds

  good_next : IsGood (in_segment s growth (with_route s r route))
  good_next = subst IsGood would.after (call_good s r would.call (site_is c kept) (good c kept)).0

  pub end_is_cell : end.0 < c.site.cells
  end_is_cell =
      let count : cell_count s.fleet.site ≡ c.site.cells = ap cell_count kept.state.site ∙ cells_of c.site in
      let begins : would.start ≡ end_of s.fleet r = (let h = would.legal.begins in cc) in
      let first : would.start.0 < c.site.cells = subst (λ (a : CellNo). a.0 < c.site.cells) (sym begins) (end_cell c kept r would.robot) in
      let last = last_known s.fleet.site (site_is c kept) would.start would.rest (omega (arith, first, count)) would.legal.linked in
      subst (λ (a : CellNo). a.0 < c.site.cells) (sym would.end_is) (omega (arith, last, count))

  pub kinds_some : 0 < length kinds
  kinds_some = omega (arith, steps_long s.fleet.site route would.legal.long, ap length would.kinds_are)

  pub few : length c.tables.graph.events + length kinds < 4294967296
  few =
      let all : length (unfinished s.fleet) + length (steps s.fleet.site route) ≡ length (unfinished (merged s.fleet r route)) =
      sym (ap length (unfinished-merged s.fleet r route (good c kept).plan) ∙ length-append (unfinished s.fleet) (numbered s.fleet.next r (steps s.fleet.site route)) ∙ ap (λ n. length (unfinished s.fleet) + n) (length-numbered s.fleet.next r (steps s.fleet.site route))) in
      omega (arith, ap length kept.tables.events, ap length would.kinds_are, all, good_next.room, good_next.base, kept.state.cap, kept.small)

  pub claims_known : (k : Kind) → In k kinds → IsKnown (length c.tables.graph.groups) k
  claims_known k i =
      subst (λ (gs : List ClaimGroup). IsKnown (length gs) k) (sym kept.tables.groups)
      (steps_known s.fleet.site (λ a d h. (counted_is c kept).counted a d (has_In (footprint_of s.fleet.site a) d h)) route k
      (subst (λ ks. In k ks) would.kinds_are i))

  pub apart : AreApart c.tables.graph.groups (c.tables.graph.events ++ numbered c.tables.graph.next r kinds)
  apart =
      let then = unfinished_apart (merged s.fleet r route) (site_is c kept) good_next.plan in
      let events : unfinished (merged s.fleet r route) ≡ c.tables.graph.events ++ numbered c.tables.graph.next r kinds =
      unfinished-merged s.fleet r route (good c kept).plan
      ∙ ap (λ es. es ++ numbered s.fleet.next r (steps s.fleet.site route)) (sym kept.tables.events)
      ∙ ap (λ n. c.tables.graph.events ++ numbered n r (steps s.fleet.site route)) (sym kept.tables.next)
      ∙ ap (λ ks. c.tables.graph.events ++ numbered c.tables.graph.next r ks) (sym would.kinds_are) in
      subst (λ gs. AreApart gs (c.tables.graph.events ++ numbered c.tables.graph.next r kinds)) (sym kept.tables.groups) (subst (λ es. AreApart s.fleet.site.groups es) events then)

  module _ (journal : Vec Entry Global) (marks : Vec Mark Global) (tables : Tables) (settled : IsSettled c.tables tables r kinds end (footprint_of (site_of c.site) end)) (items : journal.items ≡ c.journal.items ++ record { robot = record { 0 = r }; act = act } ∷ [])
      (len : vec_len journal ≡ vec_len c.journal + 1) (capacity : vec_len c.journal + (c.tables.owed + length kinds + 1) ≤ vec_capacity journal)
      (marks_are : marks.items ≡ c.marks.items ++ option_to_list (when (is_past s growth) (mark_at s))) where
    settled_here : IsSettled c.tables tables r (steps s.fleet.site route) (last_cell would.start would.rest) (footprint_of s.fleet.site (last_cell would.start would.rest))
    settled_here =
        subst (λ z. IsSettled c.tables tables r (steps s.fleet.site route) (last_cell would.start would.rest) (footprint_of z (last_cell would.start would.rest))) (sym kept.state.site)
        (subst (λ a. IsSettled c.tables tables r (steps s.fleet.site route) a (footprint_of (site_of c.site) a)) would.end_is
        (subst (λ ks. IsSettled c.tables tables r ks end (footprint_of (site_of c.site) end)) would.kinds_are settled))

    pub kept_merged : IsKept (record c { journal = journal; marks = marks; tables = tables })
    kept_merged =
        kept_grown c kept journal marks tables r would.call (record { robot = record { 0 = r }; act = act }) growth would.gives items
        (subst (λ t. Shows tables t) (sym would.after) (based_shown tables (with_route s r route) (base_behind s growth) (settled_shown c.tables tables s r kept.tables (good c kept) would.robot would.start would.rest would.legal.long settled_here)))
        (omega (arith, len, capacity, settled.owed)) would.room (ap (λ (t : State). t.base) would.after) marks_are
