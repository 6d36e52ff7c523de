-- A deferral, over the tables.
use Rattle.std.proofs.Common.{◌≡◌, ℕ, ◌+◌, ◌≤◌, ◌==◌, inl, false, List, [], ◌∷◌, ◌++◌, Some, sym, ap, subst, ◌∙◌, arith}
use Rattle.std.specs.Prelude.{Ok, Vec, vec_len}
use Rattle.std.specs.Vec.{vec_capacity}
use Rattle.std.specs.Global.{Global}
use Rattle.std.specs.List.{list_any}
use Rattle.std.specs.Option.{option_to_list}
use Rattle.std.specs.Ordering.{nat_cmp}
use Rattle.std.specs.FinSet as set
use Rattle.fleet_base.specs.Lists.{robots_of}
use Rattle.fleet_base.specs.declared.answers.Block.{Block}
use Rattle.fleet_base.specs.declared.answers.ProposeRefused.{ProposeRefused}
use Rattle.fleet_base.specs.declared.answers.ProposeRefused.TheVariants as refused
use Rattle.fleet_base.specs.declared.answers.Proposed.{Proposed}
use Rattle.fleet_base.specs.declared.answers.Proposed.TheVariants as proposed
use Rattle.fleet_base.specs.declared.entries.Act.TheVariants as act
use Rattle.fleet_base.specs.declared.entries.Entry.{Entry}
use Rattle.fleet_base.specs.declared.numbers.CellNo.{CellNo}
use Rattle.fleet_model.specs.Sites.{needs}
use Rattle.fleet_base.specs.declared.marks.Mark.{Mark}
use Rattle.fleet_model.specs.Lists.{when}
use Rattle.fleet_model.specs.Segments.{mark_at}
use Rattle.fleet_model.specs.States.{State, base_behind, cycle_of, is_full, is_past}
use Rattle.fleet_model.specs.Calls.{Propose, Step, accepted, deferring, in_segment, propose}
use Rattle.fleet_model.specs.Good.{IsGood}
use Rattle.fleet_model.proofs.Turns.{call_good}
use Rattle.fleet_base.specs.declared.answers.Blocker.{Blocker}
use Rattle.coordinator.specs.declared.coordinator.Coordinator.TheInside.{Inside}
use Rattle.coordinator.specs.declared.tables.Tables.{Tables}
use Rattle.coordinator.specs.Books.{IsAnswer, with_entries}
use Rattle.coordinator.specs.Changes.{IsDeferred}
use Rattle.coordinator.specs.Kept.{IsKept, Shows, shown}
use Rattle.coordinator.specs.Proposals.{block_with, WouldDefer}
use Rattle.coordinator.proofs.Backlogs.{IsNeeding}
use Rattle.coordinator.proofs.KeptNext.{good, kept_grown, site_is, state}
use Rattle.coordinator.proofs.Proposed.{deferred_is, early_robot}
use Rattle.coordinator.proofs.Transitions.{based_shown, deferred_shown}

module _ (c : Inside) (kept : IsKept c) (r : ℕ) (cells : List CellNo) (needed : set.FinSet nat_cmp) (blocker : Blocker) (would : WouldDefer (shown c) r cells needed blocker) (room : is_full (state c kept) 2 ≡ false)
    (tables : Tables) (pending : List CellNo) (same : pending ≡ cells) (deferred : IsDeferred c.tables tables r (record { route = pending; needs = needed })) where
  abbrev s : State
  s = state c kept

  abbrev then : State
  then = in_segment s 2 (deferring s r cells)

  abbrev block : Block
  block = block_with (deferring s r cells) r blocker

  is_then : propose s r cells ≡ accepted (proposed.Deferred block) r (act.Deferred cells block.cycle) then
  is_then = deferred_is s r cells block would.early would.blocked room

  good_then : IsGood then
  good_then = subst IsGood (ap (λ (t : Step Proposed ProposeRefused). t.after) is_then) (call_good s r (Propose cells) (site_is c kept) (good c kept)).0

  needing : IsNeeding s.fleet.site (Some (record { route = pending; needs = needed }))
  needing n =
      would.needs (record { 0 = n })
      ∙ ap (λ z. list_any (λ d. d.0 == n) (needs z cells)) (sym kept.state.site)
      ∙ ap (λ w. list_any (λ d. d.0 == n) (needs s.fleet.site w)) (sym same)

  shows_then : Shows tables then
  shows_then =
      let known = early_robot s r cells would.early in
      based_shown tables (deferring s r cells) (base_behind s 2)
      (subst (λ w. Shows tables (deferring s r w)) same (deferred_shown c.tables tables s r kept.tables (good c kept) known.0 (record { route = pending; needs = needed }) known.1 needing deferred))

  module _ (told : Block) (told_is : (t : State) → Shows tables t → IsGood t → told ≡ record { claim = blocker.claim; by = blocker.by; cycle = robots_of (cycle_of t r) }) where
    told_block : told ≡ block
    told_block = told_is then shows_then good_then

    pub answer_is : IsAnswer refused.NoMemory (Ok (proposed.Deferred told)) (propose s r cells).answer
    answer_is = subst (λ (t : Step Proposed ProposeRefused). IsAnswer refused.NoMemory (Ok (proposed.Deferred told)) t.answer) (sym is_then) (inl (ap (λ x. Ok (proposed.Deferred x)) told_block))

    module _ (route : List CellNo) (same_route : route ≡ cells) (journal : Vec Entry Global) (marks : Vec Mark Global) (items : journal.items ≡ c.journal.items ++ record { robot = record { 0 = r }; act = act.Deferred route told.cycle } ∷ [])
        (len : vec_len journal ≡ vec_len c.journal + 1) (capacity : vec_len c.journal + (c.tables.owed + 2) ≤ vec_capacity journal)
        (marks_are : marks.items ≡ c.marks.items ++ option_to_list (when (is_past s 2) (mark_at s))) where
      abbrev entry : Entry
      entry = record { robot = record { 0 = r }; act = act.Deferred cells block.cycle }

      items_are : journal.items ≡ c.journal.items ++ entry ∷ []
      items_are = items ∙ (λ i. c.journal.items ++ record { robot = record { 0 = r }; act = act.Deferred (same_route i) (told_block i).cycle } ∷ [])

      pub kept_then : IsKept (record c { journal = journal; marks = marks; tables = tables })
      kept_then =
          kept_grown c kept journal marks tables r (Propose cells) entry 2 (ap (λ (t : Step Proposed ProposeRefused). t.entry) is_then) items_are
          (subst (λ t. Shows tables t) (sym (ap (λ (t : Step Proposed ProposeRefused). t.after) is_then)) shows_then)
          (omega (arith, len, capacity, deferred.owed)) room (ap (λ (t : Step Proposed ProposeRefused). t.after.base) is_then) marks_are

      pub book_then : shown (record c { journal = journal; marks = marks; tables = tables }) ≡ with_entries (shown c) (option_to_list (propose s r cells).entry)
      book_then = ap (λ es. record (shown c) { journal = es }) (items_are ∙ ap (λ (t : Step Proposed ProposeRefused). c.journal.items ++ option_to_list t.entry) (sym is_then))
