-- A withdrawal, over the tables.
use Rattle.std.proofs.Common.{inl, inr, ◌≡◌, ℕ, ◌+◌, ◌-◌, ◌<◌, ◌≤◌, List, [], ◌∷◌, ◌++◌, length, map, take, Option, Some, None, sym, ap, subst, ◌∙◌, refl, arith}
use Rattle.std.proofs.lemmas.Bool.{cases_lt, lt-ltb, ne_eqb}
use Rattle.std.proofs.lemmas.List.{length-append}
use Rattle.std.specs.Prelude.{Ok, Vec, vec_len}
use Rattle.std.specs.Vec.{vec_capacity}
use Rattle.std.specs.Global.{Global}
use Rattle.std.specs.Option.{option_to_list}
use Rattle.fleet_base.specs.declared.answers.WithdrawRefused.{WithdrawRefused}
use Rattle.fleet_base.specs.declared.answers.Withdrawn.{Withdrawn}
use Rattle.fleet_base.specs.declared.entries.Act.TheVariants as act
use Rattle.fleet_base.specs.declared.entries.Entry.{Entry}
use Rattle.fleet_base.specs.declared.numbers.CellNo.{CellNo}
use Rattle.fleet_base.specs.declared.numbers.Event.{Event}
use Rattle.fleet_model.specs.Sites.{footprint_of, last_cell, moved_to}
use Rattle.fleet_model.specs.Plans.{Fleet, IsRemovableTail, cell_of, end_of, own, removable_tail, unfinished, withdrawn}
use Rattle.fleet_model.specs.States.{State}
use Rattle.fleet_model.specs.Calls.{Step, Withdraw, accepted, moved, withdraw}
use Rattle.fleet_model.proofs.Room.{cut_both_owes, cut_owes}
use Rattle.std.proofs.Math.Seq.{take-append_seam}
use Rattle.fleet_model.proofs.Tables.{own_before}
use Rattle.fleet_model.proofs.Tails.{tail_is}
use Rattle.fleet_model.proofs.Withdraw.{withdrawn_good}
use Rattle.deferral.specs.declared.pending.Pending.{Pending}
use Rattle.deferral.specs.Backlogs as backlogs
use Rattle.event_graph.specs.Graphs.{IsUnawaited, tail_of}
use Rattle.event_graph.proofs.Whole.{tail_enough, tail_unawaited, tail_whole}
use Rattle.site_map.specs.Claims.{site_of}
use Rattle.coordinator.specs.declared.coordinator.Coordinator.TheInside.{Inside}
use Rattle.coordinator.specs.declared.tables.Tables.{Tables}
use Rattle.coordinator.specs.Books.{with_entries}
use Rattle.coordinator.specs.Changes.{IsCut, route_count}
use Rattle.coordinator.specs.Endings.{end_without, IsRemoval}
use Rattle.coordinator.specs.Kept.{IsKept, Shows, shown}
use Rattle.coordinator.proofs.KeptNext.{good, kept_on, robot_is, state}
use Rattle.coordinator.proofs.MergedRoutes.{end_cell_by}
use Rattle.coordinator.proofs.Transitions.{cut_shown, pending_same}
use Rattle.coordinator.proofs.WholeWalks.{end_from_cell}

pub above_zero : (n : ℕ) → (n ≡ 0 → ⊥) → 0 < n
above_zero n other = elim (cases_lt 0 n) [ inl above ↦ above | inr past ↦ absurd (other (omega arith)) ]

-- as many events as the tail has are among the robot's unfinished ones
pub enough : (c : Inside) (kept : IsKept c) (r removed : ℕ) → removed ≡ length (removable_tail (state c kept).fleet r) → removed ≤ length (own r (unfinished (state c kept).fleet))
enough c kept r removed is =
    let m = (state c kept).fleet in
    omega (arith, is, tail_enough m r (removable_tail m r) (tail_is m r (good c kept).plan))

module _ (c : Inside) (kept : IsKept c) (r : ℕ) (w : Withdrawn) (found : IsRemoval (shown c) r w) where
  abbrev s : State
  s = state c kept

  abbrev m : Fleet
  m = s.fleet

  abbrev tail : List Event
  tail = removable_tail m r

  abbrev then : Fleet
  then = withdrawn m tail

  is_tail : IsRemovableTail m r tail
  is_tail = tail_is m r (good c kept).plan

  pub enough_here : w.removed ≤ length (own r c.tables.graph.events)
  enough_here = omega (arith, enough c kept r w.removed found.tail, ap (λ es. length (own r es)) kept.tables.events)

  pub unawaited : IsUnawaited c.tables.graph.groups c.tables.graph.events (tail_of r w.removed c.tables.graph.events)
  unawaited =
      subst (λ gs. IsUnawaited gs c.tables.graph.events (tail_of r w.removed c.tables.graph.events)) (sym kept.tables.groups)
      (subst (λ es. IsUnawaited m.site.groups es (tail_of r w.removed es)) (sym kept.tables.events)
      (subst (λ n. IsUnawaited m.site.groups (unfinished m) (tail_of r n (unfinished m))) (sym found.tail)
      (subst (λ es. IsUnawaited m.site.groups (unfinished m) es) (sym (tail_whole m r tail is_tail)) (tail_unawaited m r tail is_tail))))

  owed_by : (o : Option Pending) → backlogs.pending_of c.tables.deferrals r ≡ o → w.removed + route_count o ≤ c.tables.owed
  owed_by None is = omega (arith, found.tail, kept.tables.owed, cut_owes s r (good c kept) (pending_same c.tables s r None kept.tables is))
  owed_by (Some p) is = omega (arith, found.tail, kept.tables.owed, cut_both_owes s r p.route (good c kept) (pending_same c.tables s r (Some p) kept.tables is))

  pub owed_enough : w.removed + route_count (backlogs.pending_of c.tables.deferrals r) ≤ c.tables.owed
  owed_enough = owed_by (backlogs.pending_of c.tables.deferrals r) refl

  pub end_is : end_without m r w.removed ≡ end_of then r
  end_is =
      let rest : List Event = own r (unfinished then) in
      let all : own r (unfinished m) ≡ rest ++ tail = own_before m r tail (good c kept).plan is_tail in
      let count : length (own r (unfinished m)) - w.removed ≡ length rest = omega (arith, found.tail, ap length all, length-append rest tail) in
      let front : take (length (own r (unfinished m)) - w.removed) (own r (unfinished m)) ≡ rest = ap (λ n. take n (own r (unfinished m))) count ∙ ap (take (length rest)) all ∙ take-append_seam rest tail in
      ap (λ es. last_cell (cell_of m r) (moved_to (map (λ (e : Event). e.kind) es))) front
      ∙ sym (end_from_cell then (withdrawn_good m r (good c kept).plan) r)

  pub end_cell_then : (end_of then r).0 < c.site.cells
  end_cell_then = end_cell_by c kept then refl refl (withdrawn_good m r (good c kept).plan) r (robot_is c kept r found.known)

  pub withdraw_is : withdraw s r ≡ accepted (record { removed = length tail; end = end_of then r }) r (act.Withdrawn (length tail) (end_of then r)) (moved s then r None)
  withdraw_is = rw (lt-ltb r (length m.starts) (robot_is c kept r found.known), ne_eqb (length tail) 0 (λ e. omega (arith, e, found.tail, found.some))) refl

  pub end_then : w.end ≡ end_of then r
  end_then = found.end ∙ end_is

  pub cell_then : w.end.0 < c.site.cells
  cell_then = subst (λ (a : CellNo). a.0 < c.site.cells) (sym end_then) end_cell_then

  pub answer_is : Ok w ≡ (withdraw s r).answer
  answer_is = (λ i. Ok (record { removed = found.tail i; end = end_then i })) ∙ sym (ap (λ (t : Step Withdrawn WithdrawRefused). t.answer) withdraw_is)

  module _ (journal : Vec Entry Global) (tables : Tables) (cut : IsCut c.tables tables r w.removed w.end (footprint_of (site_of c.site) w.end))
      (items : journal.items ≡ c.journal.items ++ record { robot = record { 0 = r }; act = act.Withdrawn w.removed w.end } ∷ []) (len : vec_len journal ≡ vec_len c.journal + 1) (capacity : vec_capacity journal ≡ vec_capacity c.journal) where
    abbrev entry : Entry
    entry = record { robot = record { 0 = r }; act = act.Withdrawn (length tail) (end_of then r) }

    items_are : journal.items ≡ c.journal.items ++ entry ∷ []
    items_are = items ∙ (λ i. c.journal.items ++ record { robot = record { 0 = r }; act = act.Withdrawn (found.tail i) (end_then i) } ∷ [])

    cut_here : IsCut c.tables tables r (length tail) (end_of then r) (footprint_of m.site (end_of then r))
    cut_here =
        subst (λ z. IsCut c.tables tables r (length tail) (end_of then r) (footprint_of z (end_of then r))) (sym kept.state.site)
        (subst (λ a. IsCut c.tables tables r (length tail) a (footprint_of (site_of c.site) a)) end_then
        (subst (λ n. IsCut c.tables tables r n w.end (footprint_of (site_of c.site) w.end)) found.tail cut))

    pub kept_then : IsKept (record c { journal = journal; tables = tables })
    kept_then =
        kept_on c kept journal tables r Withdraw entry (ap (λ (t : Step Withdrawn WithdrawRefused). t.entry) withdraw_is) items_are
        (subst (λ t. Shows tables t) (sym (ap (λ (t : Step Withdrawn WithdrawRefused). t.after) withdraw_is)) (cut_shown c.tables tables s r kept.tables (good c kept) (robot_is c kept r found.known) cut_here))
        (omega (arith, len, capacity, kept.room, cut.owed, found.some)) (ap (λ (t : Step Withdrawn WithdrawRefused). t.after.base) withdraw_is)

    pub book_then : shown (record c { journal = journal; tables = tables }) ≡ with_entries (shown c) (option_to_list (withdraw s r).entry)
    book_then = ap (λ es. record (shown c) { journal = es }) (items_are ∙ ap (λ (t : Step Withdrawn WithdrawRefused). c.journal.items ++ option_to_list t.entry) (sym withdraw_is))
