use Rattle.std.proofs.Common.{◌≡◌, ℕ, ◌+◌, ◌++◌, ◌∷◌, sym, ap, subst, ◌∙◌, length, take, drop, get_or, None, arith}
use Rattle.std.proofs.lemmas.List.{drop_all, drop_more}
use Rattle.std.proofs.lemmas.List.Elements.{All-get_or}
use Rattle.std.proofs.Math.Seq.{take-append_seam}
use Rattle.fleet_base.specs.declared.numbers.Event.{Event}
use Rattle.fleet_base.specs.declared.numbers.Kind.TheVariants.{Acquire}
use Rattle.fleet_model.specs.Replays.{after_event, opening, Spots}
use Rattle.fleet_model.proofs.Lists.{All_In}
use Rattle.site_map.specs.Claims.{claim_total, site_of}
use Rattle.plan_events.specs.Clashes.{event_clash, IsEventOf}
use Rattle.plan_events.specs.Holdings.{holdings_of}
use Rattle.plan_events.specs.Spots.{spot_of}
use Rattle.plan_events.proofs.Legal.{order_legal, starts_within}
use Rattle.plan_events.proofs.Replaying.{ended, stepped, IsReplayed}
use Rattle.plan_events.proofs.replay.replay_order.Goals as goal

-- an event in the place of none
abbrev no_event : Event
no_event = record { no = record { 0 = 0 }; robot = record { 0 = 0 }; kind = Acquire (record { 0 = 0 }) }

pub event_clash-requires-clause-limit : goal.event_clash-requires-clause-limit
event_clash-requires-clause-limit c =
    let events = c.args.events.now in
    let is = All-get_or (IsEventOf (length c.args.starts.now) c.args.site.now.cells (claim_total c.args.site.now)) events c.loop-event.event-index no_event c.loop-event-test.true c.requires.events in
    let robot = is.robot in
    c.in_ok-spots.ensures.limit (omega arith)

pub loop-event-preserved : goal.loop-event-preserved
loop-event-preserved c =
    let site = site_of c.args.site.now in
    let starts = c.args.starts.now in
    let events = c.args.events.now in
    let robots = length starts in
    let place = c.loop-event.event-index in
    let event = get_or events place no_event in
    let items = c.loop-event.spots.items in
    let new = c.apply.new.spots in
    let long : c.loop-event.spots.len ≡ length new = (let a = c.apply.auto.spots in let b = c.deref_mut.ensures.len in omega arith) in
    let written : take c.loop-event.spots.len (new ++ drop (length new) items) ≡ new = ap (λ n. take n (new ++ drop (length new) items)) long ∙ take-append_seam new (drop (length new) items) in
    let left : drop place events ≡ event ∷ drop (place + 1) events = drop_more events place no_event c.loop-event-test.true in
    let here : IsReplayed site robots (opening site starts) events (spot_of items) (event ∷ drop (place + 1) events) = subst (λ es. IsReplayed site robots (opening site starts) events (spot_of items) es) left c.loop-event.invariant.1 in
    let none : event_clash site robots (spot_of items) event ≡ None =
    ap (λ n. event_clash site n (spot_of items) event) (sym c.loop-event.invariant.0) ∙ (ap (λ spots. event_clash site (length spots) (spot_of spots) event) (sym c.deref.ensures.value) ∙ (sym c.event_clash.ensures ∙ c.in_default.is))
    in
    let made : (r : ℕ) → spot_of new r ≡ after_event event (spot_of items) r = λ r. c.apply.ensures r ∙ ap (λ spots. after_event event (spot_of spots) r) c.deref_mut.ensures.value in (
      ap length written ∙ (let a = c.apply.auto.spots in let b = c.deref_mut.ensures.value in let e = ap length b in let s = c.loop-event.invariant.0 in omega arith),
      subst (λ spots. IsReplayed site robots (opening site starts) events (spot_of spots) (drop (place + 1) events)) (sym written) (stepped site robots (opening site starts) events (spot_of items) (spot_of new) event (drop (place + 1) events) here none made),
    )

pub returns-clause-legal : goal.returns-clause-legal
returns-clause-legal c =
    let site = site_of c.args.site.now in
    let starts = c.args.starts.now in
    let events = c.args.events.now in
    let robots = length starts in
    let is = ended site robots (opening site starts) events (spot_of c.loop-event.spots.items) (drop c.loop-event.event-index events) (drop_all c.loop-event.event-index events (omega arith)) c.loop-event.invariant.1 in
    order_legal site robots (opening site starts) events (starts_within site starts)
    (λ e i. (All_In (IsEventOf robots c.args.site.now.cells (claim_total c.args.site.now)) events c.requires.events e i).robot) is.0

pub returns-clause-holding : goal.returns-clause-holding
returns-clause-holding c =
    let site = site_of c.args.site.now in
    let starts = c.args.starts.now in
    let events = c.args.events.now in
    let spots = c.loop-event.spots.items in
    let is = ended site (length starts) (opening site starts) events (spot_of spots) (drop c.loop-event.event-index events) (drop_all c.loop-event.event-index events (omega arith)) c.loop-event.invariant.1 in
    c.in_ok-holding_of.ensures
    ∙ (ap (λ kept. holdings_of site (length kept) (spot_of kept)) c.deref-2.ensures.value
    ∙ (ap (λ n. holdings_of site n (spot_of spots)) c.loop-event.invariant.0
    ∙ ap (λ (all : Spots). holdings_of site (length starts) all) is.1))
