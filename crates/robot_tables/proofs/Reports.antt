-- What a report changes in what a fleet tells of its robots.
use Rattle.std.proofs.Common.{◌≡◌, ℕ, ◌<◌, not, ◌==◌, inl, inr, refl, sym, ap, ◌∙◌, subst, [], length, set, Some, arith}
use Rattle.std.proofs.lemmas.Option.{slice_get-get_or, same_Some}
use Rattle.std.proofs.lemmas.List.FromFn.{length-map-range_with_len}
use Rattle.std.specs.List.{filter}
use Rattle.fleet_base.specs.Lists.{placed}
use Rattle.fleet_base.specs.declared.numbers.ClaimNo.{ClaimNo}
use Rattle.fleet_base.specs.declared.numbers.Event.{Event}
use Rattle.fleet_base.specs.declared.numbers.Kind.{Kind}
use Rattle.fleet_base.specs.declared.numbers.Kind.TheVariants.{Acquire, Move, Release}
use Rattle.fleet_model.specs.Sites.{IsSite}
use Rattle.fleet_model.specs.Plans.{Fleet, IsBehind, IsReady}
use Rattle.fleet_model.specs.Deferral.{ends}
use Rattle.fleet_model.specs.Calls.{reported}
use Rattle.fleet_model.specs.Good.{IsGoodPlan}
use Rattle.fleet_model.specs.Tables.{held_by, holdings, IsCounted}
use Rattle.fleet_model.proofs.Blockers.{length-ends}
use Rattle.fleet_model.proofs.Holdings.{acquired_missing, acquired_room, holdings-acquired, holdings-moved, holdings-released}
use Rattle.fleet_model.proofs.Reports.{planned_robot}
use Rattle.fleet_model.proofs.Tables.{places-moved, places-other, table_get}
use Rattle.robot_tables.specs.Robots.{after_report, holding_at, robots_of, HasPlaceFor}

-- the robot of a ready event has a place
pub known : (m : Fleet) (e : Event) → IsGoodPlan m → IsReady (IsBehind m.site.groups) m.plan m.finished e → e.robot.0 < length (ends m)
known m e good ready = let start = planned_robot m e good ready.planned in let l = length-ends m in omega arith

-- what a robot holds
holding_is : (m : Fleet) (r : ℕ) → r < length m.starts → holding_at (robots_of m) r ≡ held_by m r
holding_is m r start =
    let there = table_get (held_by m) (length m.starts) r start in
    same_Some (holding_at (robots_of m) r) (held_by m r) (sym (slice_get-get_or (holdings m) r [] (let l = length-map-range_with_len (held_by m) 0 (length m.starts) in omega arith)) ∙ there)

module _ (m : Fleet) (e : Event) (is_site : IsSite m.site) (counted : IsCounted m.site) (good : IsGoodPlan m) (ready : IsReady (IsBehind m.site.groups) m.plan m.finished e) where
  held_is : holding_at (robots_of m) e.robot.0 ≡ held_by m e.robot.0
  held_is = holding_is m e.robot.0 (planned_robot m e good ready.planned)

  place_by : (k : Kind) → e.kind ≡ k → HasPlaceFor (holding_at (robots_of m) e.robot.0) k
  place_by (Acquire c) kind = subst (λ claims. HasPlaceFor claims (Acquire c)) (sym held_is) (acquired_missing m e c is_site good ready kind, acquired_room m e c is_site counted good ready kind)
  place_by (Move a b) kind = tt
  place_by (Release c) kind = tt

  -- there is a place for what is acquired
  pub place : HasPlaceFor (holding_at (robots_of m) e.robot.0) e.kind
  place = place_by e.kind refl

  report_by : (k : Kind) → e.kind ≡ k → robots_of (reported m (Some e)) ≡ after_report (robots_of m) e.robot.0 k
  report_by (Acquire c) kind =
      let held = holdings-acquired m e c is_site counted good ready kind ∙ ap (λ claims. set (holdings m) e.robot.0 (placed claims c)) (sym held_is) in
      let same = places-other m e c (inl kind) in
      λ i. record { ends = ends m; places = same i; holdings = held i }
  report_by (Move a b) kind =
      let moved = places-moved m e a b kind in
      let held = holdings-moved m e a b kind in
      λ i. record { ends = ends m; places = moved i; holdings = held i }
  report_by (Release c) kind =
      let held = holdings-released m e c kind ∙ ap (λ claims. set (holdings m) e.robot.0 (filter (λ (d : ClaimNo). not (d.0 == c.0)) claims)) (sym held_is) in
      let same = places-other m e c (inr kind) in
      λ i. record { ends = ends m; places = same i; holdings = held i }

  -- a report changes what is known of its robot
  pub report : robots_of (reported m (Some e)) ≡ after_report (robots_of m) e.robot.0 e.kind
  report = report_by e.kind refl
