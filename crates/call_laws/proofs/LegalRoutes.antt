-- What a proposal of a legal route is answered.
use Rattle.std.proofs.Common.{◌≡◌, ◌≢◌, ◌↔◌, ℕ, suc, ◌+◌, ◌<◌, ◌≤◌, Bool, true, false, ◌⊎◌, inl, inr, nat_le, List, [], ◌∷◌, length, Option, Some, None, Result, Ok, Err, refl, sym, ap, subst, ◌∙◌, one-add, arith, eq-eqb}
use Rattle.std.proofs.lemmas.Bool.{le-ltb, lt-ltb}
use Rattle.std.proofs.lemmas.Bool.Decides.{nat_tests}
use Rattle.std.proofs.lemmas.Option.{same_Some}
use Rattle.std.specs.Prelude.{nat_lt, slice_get}
use Rattle.std.specs.List.{position_or_len}
use Rattle.fleet_base.specs.declared.answers.Block.{Block}
use Rattle.fleet_base.specs.declared.answers.ProposeRefused.{ProposeRefused}
use Rattle.fleet_base.specs.declared.answers.ProposeRefused.TheVariants.{Full}
use Rattle.fleet_base.specs.declared.answers.Proposed.{Proposed}
use Rattle.fleet_base.specs.declared.numbers.CellNo.{CellNo}
use Rattle.fleet_model.specs.Calls.{begin_at, deferring, first_unlinked, propose, propose_growth, propose_outcome, propose_refusals, span_of, unknown_at, unless_refused, unlinked_at}
use Rattle.fleet_model.specs.Good.{IsGood}
use Rattle.fleet_model.specs.Lists.{first_some, when}
use Rattle.fleet_model.specs.Plans.{end_of}
use Rattle.fleet_model.specs.Sites.{IsSite, IsWalk, IsWalkFrom, Site, cell_count}
use Rattle.fleet_model.specs.Sound.{CanInsert}
use Rattle.fleet_model.specs.States.{State, block_of, is_full}
use Rattle.fleet_model.proofs.Proposals.{deferred_rightly, merged_safely}
use Rattle.fleet_model.proofs.Shortcuts.{link_within}
use Rattle.call_laws.specs.Proposals.{IsDeferred, IsMerged, MayPropose}

-- a walk from a cell of the site has cells of the site alone
none_past : (site : Site) → IsSite site → (a : CellNo) (bs : List CellNo) → a.0 < cell_count site → IsWalkFrom site a bs → position_or_len (λ (c : CellNo). nat_le (cell_count site) c.0) (a ∷ bs) ≡ length (a ∷ bs)
none_past site is_site a [] known walk = let is : nat_le (cell_count site) a.0 ≡ false = grind (arith, nat_tests) in rw is refl
none_past site is_site a (b ∷ bs) known walk =
    let is : nat_le (cell_count site) a.0 ≡ false = grind (arith, nat_tests) in
    let rest = none_past site is_site b bs (link_within site is_site a b walk.0).1 walk.1 in
    rw (is, one-add) (ap suc rest)

none_unknown : (site : Site) → IsSite site → (cells : List CellNo) → 2 ≤ length cells → IsWalk site cells → unknown_at site cells ≡ None
none_unknown site is_site [] long walk = absurd (omega arith)
none_unknown site is_site (a ∷ []) long walk = absurd (omega arith)
none_unknown site is_site (a ∷ b ∷ bs) long walk =
    let all = none_past site is_site a (b ∷ bs) (link_within site is_site a b walk.0).0 walk in
    let not_less : nat_lt (length (a ∷ b ∷ bs)) (length (a ∷ b ∷ bs)) ≡ false = grind (arith, nat_tests) in
    rw (all, not_less) refl

none_unlinked_from : (site : Site) (at : ℕ) (a : CellNo) (bs : List CellNo) → IsWalkFrom site a bs → first_unlinked site at a bs ≡ None
none_unlinked_from site at a [] walk = refl
none_unlinked_from site at a (b ∷ bs) walk = rw (walk.0, none_unlinked_from site (at + 1) b bs walk.1) refl

none_unlinked : (site : Site) (cells : List CellNo) → IsWalk site cells → unlinked_at site cells ≡ None
none_unlinked site [] walk = refl
none_unlinked site (a ∷ bs) walk = none_unlinked_from site 1 a bs walk

begins : (a : CellNo) (cells : List CellNo) → slice_get cells 0 ≡ Some a → begin_at a cells ≡ true
begins a [] is = absurd (cc)
begins a (b ∷ bs) is = eq-eqb a.0 b.0 (ap (λ (c : CellNo). c.0) (sym (same_Some b a is)))

when_alone : {A : Type 0} (b : Bool) (x : A) → first_some (when b x ∷ []) ≡ when b x
when_alone true x = refl
when_alone false x = refl

module _ (s : State) (r : ℕ) (cells : List CellNo) (site : IsSite s.fleet.site) (may : MayPropose s r cells) where
  -- want of room is the one refusal
  only_room : (block : Option Block) → first_some (propose_refusals s r cells block) ≡ when (is_full s (propose_growth s cells block)) Full
  only_room block =
      rw (lt-ltb r (length s.fleet.starts) may.robot, may.free, le-ltb (length cells) 2 may.route.long, le-ltb 1024 (length cells) may.route.short, none_unknown s.fleet.site site cells may.route.long may.route.linked, none_unlinked s.fleet.site cells may.route.linked, begins (end_of s.fleet r) cells may.route.begins)
      (when_alone (is_full s (propose_growth s cells block)) Full)

  -- the proposal with this block is refused where there is no room
  abbrev by_room : Option Block → Option ProposeRefused → Result Proposed ProposeRefused
  by_room block refused = (unless_refused refused s (propose_outcome s r cells block)).answer

  abbrev blocked : Option Block
  blocked = block_of (deferring s r cells) r cells

  answer_is : (propose s r cells).answer ≡ by_room blocked (when (is_full s (propose_growth s cells blocked)) Full)
  answer_is = ap (by_room blocked) (only_room blocked)

  taken : (block : Option Block) (full : Bool) → (by_room block (when full Full) ≢ Err Full) → IsMerged (by_room block (when full Full)) ⊎ IsDeferred (by_room block (when full Full))
  taken block true room = absurd (room refl)
  taken None false room = inl (span_of s cells, refl)
  taken (Some block) false room = inr (block, refl)

  -- where there is room the route is merged or deferred
  outcome : (propose s r cells).answer ≢ Err Full → IsMerged (propose s r cells).answer ⊎ IsDeferred (propose s r cells).answer
  outcome room =
      subst (λ answer. IsMerged answer ⊎ IsDeferred answer) (sym answer_is)
      (taken blocked (is_full s (propose_growth s cells blocked)) (λ full. room (answer_is ∙ full)))

  refused_so : (block : Option Block) (full : Bool) (refused : ProposeRefused) → by_room block (when full Full) ≡ Err refused → refused ≡ Full
  refused_so block true refused is = cc
  refused_so None false refused is = absurd (cc)
  refused_so (Some block) false refused is = absurd (cc)

  pub refused_full : (refused : ProposeRefused) → (propose s r cells).answer ≡ Err refused → refused ≡ Full
  refused_full refused is = refused_so blocked (is_full s (propose_growth s cells blocked)) refused (sym answer_is ∙ is)

  module _ (good : IsGood s) (room : (propose s r cells).answer ≢ Err Full) where
    pub merged_exactly : IsMerged (propose s r cells).answer ↔ CanInsert s r cells
    merged_exactly = (
      λ merged. merged_safely s r cells merged.0 site good merged.1,
      λ safe. elim (outcome room) [ inl merged ↦ merged | inr deferred ↦ absurd (deferred_rightly s r cells deferred.0 site good deferred.1 safe) ],
    )

    pub deferred_exactly : IsDeferred (propose s r cells).answer ↔ (CanInsert s r cells → ⊥)
    deferred_exactly = (
      λ deferred. deferred_rightly s r cells deferred.0 site good deferred.1,
      λ unsafe. elim (outcome room) [ inl merged ↦ absurd (unsafe (merged_safely s r cells merged.0 site good merged.1)) | inr deferred ↦ deferred ],
    )
