-- Where a robot ends, by where it is and by its unfinished events.
use Rattle.std.proofs.Common.{inl, inr, Option, None, ◌≡◌, ℕ, ◌+◌, ◌≤◌, ◌==◌, false, not, List, [], ◌∷◌, ◌++◌, length, map, take, sym, ap, subst, ◌∙◌, refl, arith, Some}
use Rattle.std.proofs.lemmas.Bool.{cases_lt, false_from_ne_true, not_from_false}
use Rattle.std.proofs.lemmas.List.{append-nil, map-append, take_all}
use Rattle.std.proofs.lemmas.List.Elements.{filter-append}
use Rattle.std.proofs.lemmas.Option.{slice_get-get_or}
use Rattle.std.specs.Prelude.{slice_get}
use Rattle.coordinator.specs.Endings.{first_kinds, kind_target, target_of}
use Rattle.coordinator.proofs.Searches.{take_next}
use Rattle.std.specs.List.{filter}
use Rattle.std.specs.Option.{unwrap_or}
use Rattle.fleet_base.specs.declared.numbers.CellNo.{CellNo}
use Rattle.fleet_base.specs.declared.numbers.Event.{Event}
use Rattle.fleet_base.specs.declared.numbers.Kind.{Kind}
use Rattle.fleet_base.specs.declared.numbers.Kind.TheVariants.{Acquire, Move, Release}
use Rattle.fleet_model.specs.Lists.{In}
use Rattle.fleet_model.specs.Sites.{last_cell, moved_to}
use Rattle.fleet_model.specs.Replays.{Spot, after_kinds, opening, replay}
use Rattle.fleet_model.specs.Plans.{Fleet, IsBehind, cell_of, end_of, is_done, kinds, own, unfinished}
use Rattle.fleet_model.specs.Good.{IsAscending, IsGoodPlan}
use Rattle.fleet_model.proofs.Alone.{after_kinds-append, replay_own}
use Rattle.fleet_model.proofs.Filters.{filter_all, filter_none, filter_swap}
use Rattle.fleet_model.proofs.Lists.{In-append_right}
use Rattle.fleet_model.proofs.Numbers.{IsAscending-own, In_own, ascending_apart, done_in, from_one, own_In}
use Rattle.fleet_model.proofs.Orders as orders
use Rattle.fleet_model.proofs.Safe.{own_behind}
use Rattle.fleet_model.proofs.Tables.{finished_kept}

-- what a robot does moves it along the cells that it moves to
pub cell_behind : (s : Spot) (ks : List Kind) → (after_kinds s ks).cell ≡ last_cell s.cell (moved_to ks)
cell_behind s [] = refl
cell_behind s (Acquire c ∷ ks) = cell_behind (after_kinds s (Acquire c ∷ [])) ks
cell_behind s (Move a b ∷ ks) = cell_behind (after_kinds s (Move a b ∷ [])) ks
cell_behind s (Release c ∷ ks) = cell_behind (after_kinds s (Release c ∷ [])) ks

module _ (m : Fleet) (good : IsGoodPlan m) (r : ℕ) where
  abbrev rest : List Event
  rest = ((finished_kept m good).first r).0

  splits : own r m.plan ≡ own r m.finished ++ rest
  splits = ((finished_kept m good).first r).1

  rises : IsAscending 1 (own r m.finished ++ rest)
  rises = subst (λ es. IsAscending 1 es) splits (IsAscending-own r 1 m.plan (from_one m good))

  -- what is behind the finished ones isn't finished
  rest_undone : (e : Event) → In e rest → is_done m.finished e ≡ false
  rest_undone e i =
      let planned = own_In r m.plan (subst (λ es. In e es) (sym splits) (In-append_right (own r m.finished) rest i)) in
      false_from_ne_true (is_done m.finished e) (λ d.
      let done = orders.In_done (IsBehind m.site.groups) m.plan (from_one m good) (own_behind m.site) m.finished (finished_kept m good) e planned.0 d in
      let less = ascending_apart 1 (own r m.finished) rest rises (In_own r m.finished done planned.1) i in
      absurd (omega arith))

  own_left : own r (unfinished m) ≡ rest
  own_left =
      filter_swap (λ (e : Event). e.robot.0 == r) (λ e. not (is_done m.finished e)) m.plan
      ∙ ap (λ es. filter (λ e. not (is_done m.finished e)) es) splits
      ∙ filter-append (λ e. not (is_done m.finished e)) (own r m.finished) rest
      ∙ ap (λ es. es ++ filter (λ e. not (is_done m.finished e)) rest) (filter_none (λ e. not (is_done m.finished e)) (own r m.finished) (λ e i. ap not (done_in m.finished (own_In r m.finished i).0)))
      ∙ filter_all (λ e. not (is_done m.finished e)) rest (λ e i. not_from_false (is_done m.finished e) (rest_undone e i))

  -- a robot ends where its unfinished events take it from where it is
  pub end_from_cell : end_of m r ≡ last_cell (cell_of m r) (moved_to (map (λ e. e.kind) (own r (unfinished m))))
  end_from_cell =
      let start : Spot = opening m.site m.starts r in
      let parts : kinds r m.plan ≡ kinds r m.finished ++ map (λ e. e.kind) rest = ap (map (λ (e : Event). e.kind)) splits ∙ map-append (λ (e : Event). e.kind) (own r m.finished) rest in
      ap (λ (s : Spot). s.cell) (replay_own (opening m.site m.starts) m.plan r ∙ ap (after_kinds start) parts ∙ after_kinds-append start (kinds r m.finished) (map (λ e. e.kind) rest) ∙ ap (λ s. after_kinds s (map (λ e. e.kind) rest)) (sym (replay_own (opening m.site m.starts) m.finished r)))
      ∙ cell_behind (replay (opening m.site m.starts) m.finished r) (map (λ e. e.kind) rest)
      ∙ ap (λ es. last_cell (cell_of m r) (moved_to (map (λ e. e.kind) es))) (sym own_left)

-- one more event at the end
moved_more : (ks : List Kind) (k : Kind) → moved_to (ks ++ k ∷ []) ≡ moved_to ks ++ moved_to (k ∷ [])
moved_more [] k = refl
moved_more (Acquire c ∷ ks) k = moved_more ks k
moved_more (Move a b ∷ ks) k = ap (λ cs. b ∷ cs) (moved_more ks k)
moved_more (Release c ∷ ks) k = moved_more ks k

last_more : (a : CellNo) (bs : List CellNo) (b : CellNo) → last_cell a (bs ++ b ∷ []) ≡ b
last_more a [] b = refl
last_more a (c ∷ cs) b = last_more c cs b

kinds_more : (es : List Event) (k : ℕ) (e : Event) → slice_get es k ≡ Some e → first_kinds (k + 1) es ≡ first_kinds k es ++ e.kind ∷ []
kinds_more es k e at = ap (map (λ (x : Event). x.kind)) (take_next es k e at) ∙ map-append (λ (x : Event). x.kind) (take k es) (e ∷ [])

by_kind : (c : CellNo) (bs : List CellNo) (k : Kind) → last_cell c (bs ++ moved_to (k ∷ [])) ≡ unwrap_or (kind_target k) (last_cell c bs)
by_kind c bs (Acquire d) = ap (last_cell c) (append-nil bs)
by_kind c bs (Move a b) = last_more c bs b
by_kind c bs (Release d) = ap (last_cell c) (append-nil bs)

-- one event more moves the robot where it is a move
pub moved_step : (c : CellNo) (es : List Event) (k : ℕ) (o : Option Event) → slice_get es k ≡ o → last_cell c (moved_to (first_kinds (k + 1) es)) ≡ unwrap_or (target_of o) (last_cell c (moved_to (first_kinds k es)))
moved_step c es k (Some e) at =
    ap (λ ks. last_cell c (moved_to ks)) (kinds_more es k e at)
    ∙ ap (last_cell c) (moved_more (first_kinds k es) e.kind)
    ∙ by_kind c (moved_to (first_kinds k es)) e.kind
moved_step c es k None none =
    let past : length es ≤ k = elim (cases_lt k (length es)) [ inl within ↦ (let some = slice_get-get_or es k (record { no = record { 0 = 0 }; robot = record { 0 = 0 }; kind = Acquire (record { 0 = 0 }) }) within in absurd (cc)) | inr past ↦ past ] in
    ap (λ xs. last_cell c (moved_to (map (λ (x : Event). x.kind) xs))) (take_all (k + 1) es (omega arith) ∙ sym (take_all k es past))
