-- The early causes of a proposal's refusal.
use Rattle.std.proofs.Common.{◌==◌, get_or, ◌≡◌, ℕ, ◌<◌, ◌≤◌, not, Bool, true, false, List, [], ◌∷◌, length, Option, Some, None, sym, ap, subst, ◌∙◌, refl, arith}
use Rattle.std.proofs.lemmas.Bool.{le-ltb, lt-ltb}
use Rattle.fleet_base.specs.declared.answers.ProposeRefused.{ProposeRefused}
use Rattle.fleet_base.specs.declared.answers.ProposeRefused.TheVariants as refused
use Rattle.fleet_base.specs.declared.numbers.CellNo.{CellNo}
use Rattle.fleet_model.specs.Lists.{first_some, when}
use Rattle.fleet_model.specs.Sites.{Site, IsWalk}
use Rattle.fleet_model.specs.Plans.{end_of}
use Rattle.fleet_model.specs.States.{State, pending_of}
use Rattle.fleet_model.specs.Calls.{begin_at, unlinked_at}
use Rattle.plan_events.specs.Shapes.{shape_cause}
use Rattle.plan_events.proofs.Causes.{accepted_known, accepted_shape}
use Rattle.coordinator.specs.Proposals.{early_cause, refused_or}
use Rattle.plan_events.proofs.Routes.{none_unlinked}
use Rattle.coordinator.proofs.KeptNext.{state}
use Rattle.coordinator.proofs.MergedRoutes.{end_at}
use Rattle.coordinator.specs.Kept.{IsKept}
use Rattle.coordinator.specs.declared.coordinator.Coordinator.TheInside.{Inside}
use Rattle.deferral.specs.Backlogs as backlogs
use Rattle.fleet_model.proofs.Options.{none_of}
use Rattle.fleet_model.proofs.Tables.{same_test}
use Rattle.site_map.specs.Claims.{site_of}
use Rattle.std.specs.Option.{is_some}
use Rattle.std.specs.Prelude.{Ok, slice_get}

unlinked_none : (site : Site) (cells : List CellNo) → IsWalk site cells → unlinked_at site cells ≡ None
unlinked_none site [] walk = refl
unlinked_none site (a ∷ bs) walk = none_unlinked site 1 a bs walk

when_alone : {A : Type 0} (b : Bool) (x : A) → first_some (when b x ∷ []) ≡ when b x
when_alone true x = refl
when_alone false x = refl

-- a known robot without a pending route, and cells with a shape: they must begin at the end
pub early_at : (s : State) (r : ℕ) (cells : List CellNo) → r < length s.fleet.starts → pending_of s r ≡ None → shape_cause s.fleet.site cells ≡ None
    → early_cause s r cells ≡ when (not (begin_at (end_of s.fleet r) cells)) (refused.BadStart (end_of s.fleet r))
early_at s r cells known none shape =
    let is = accepted_shape s.fleet.site cells shape in
    rw (lt-ltb r (length s.fleet.starts) known, none, le-ltb (length cells) 2 is.long, le-ltb 1024 (length cells) is.short, accepted_known s.fleet.site cells shape, unlinked_none s.fleet.site cells is.linked)
    (when_alone (not (begin_at (end_of s.fleet r) cells)) (refused.BadStart (end_of s.fleet r)))

begin_as : (end d : CellNo) (cells : List CellNo) → 2 ≤ length cells → begin_at end cells ≡ ((get_or cells 0 d).0 == end.0)
begin_as end d [] long = absurd (omega arith)
begin_as end d (a ∷ bs) long = same_test end.0 a.0

-- over the tables
module _ (c : Inside) (kept : IsKept c) (r : ℕ) (cells : List CellNo) (known : r < length c.from.at.items) (free : false ≡ is_some (backlogs.route_of c.tables.deferrals r)) where
  abbrev s : State
  s = state c kept

  pub none_waits : pending_of s r ≡ None
  none_waits = none_of (pending_of s r) (ap is_some (sym (kept.tables.deferrals.routes r)) ∙ sym free)

  module _ (shape : shape_cause (site_of c.site) cells ≡ None) (end : CellNo) (at : slice_get c.tables.robots.ends r ≡ Some end) (d : CellNo) (bad : Bool) (test : bad ≡ not ((get_or cells 0 d).0 == end.0)) where
    pub shape_now : shape_cause s.fleet.site cells ≡ None
    shape_now = subst (λ z. shape_cause z cells ≡ None) (sym kept.state.site) shape

    pub cause_is : early_cause s r cells ≡ when bad (refused.BadStart end)
    cause_is =
        let is = end_at c kept r end at in
        let long = (accepted_shape s.fleet.site cells shape_now).long in
        early_at s r cells is.0 none_waits shape_now
        ∙ ap (λ a. when (not (begin_at a cells)) (refused.BadStart a)) (sym is.1)
        ∙ ap (λ b. when b (refused.BadStart end)) (ap (λ b. not b) (begin_as end d cells long) ∙ sym test)

-- a proposal that is let through has no early cause
pub passed : {A : Type 0} (o : Option ProposeRefused) (x value : A) → Ok x ≡ refused_or o value → o ≡ None
passed None x value is = refl
passed (Some refusal) x value is = absurd (cc)
