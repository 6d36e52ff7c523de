use Rattle.std.proofs.Common.{◌≡◌, ℕ, [], ◌∷◌, ◌++◌, refl, ap, sym, subst, ◌∙◌, arith}
use Rattle.std.specs.Option.{option_to_list}
use Rattle.fleet_base.specs.declared.entries.Act.{Act}
use Rattle.fleet_base.specs.declared.numbers.Span.{Span}
use Rattle.fleet_model.specs.Lists.{when}
use Rattle.fleet_model.specs.Segments.{mark_at}
use Rattle.fleet_model.specs.States.{is_past}
use Rattle.fleet_model.specs.Calls.{first_of}
use Rattle.coordinator.specs.Books.{Book, state_of}
use Rattle.coordinator.specs.Merging.{WouldMerge, act_of, growth_of}
use Rattle.coordinator.proofs.KeptNext.{route_owed, state}
use Rattle.coordinator.proofs.MergedRoutes.{apart, claims_known, end_is_cell, few, kept_merged, kinds_some, tables_known, told}
use Rattle.coordinator.proofs.coordinator.Coordinator.merge_route.Goals as goal

pub settle-requires-clause-ends : goal.settle-requires-clause-ends
settle-requires-clause-ends c =
    let would = subst (λ (b : Book). WouldMerge (state_of b) c.args.robot.0 c.args.kinds.now c.args.end (act_of c.args.how (first_of (state_of b)))) (sym c.self.view_is) c.requires in
    tables_known c.self.inside c.self.invariant c.args.robot.0 would.robot

pub settle-requires-clause-told : goal.settle-requires-clause-told
settle-requires-clause-told c =
    told c.self.inside c.self.invariant c.args.robot.0

pub settle-requires-clause-end : goal.settle-requires-clause-end
settle-requires-clause-end c =
    let would = subst (λ (b : Book). WouldMerge (state_of b) c.args.robot.0 c.args.kinds.now c.args.end (act_of c.args.how (first_of (state_of b)))) (sym c.self.view_is) c.requires in
    end_is_cell c.self.inside c.self.invariant c.args.robot.0 c.args.kinds.now c.args.end (act_of c.args.how (first_of (state c.self.inside c.self.invariant))) would

pub settle-requires-clause-some : goal.settle-requires-clause-some
settle-requires-clause-some c =
    let would = subst (λ (b : Book). WouldMerge (state_of b) c.args.robot.0 c.args.kinds.now c.args.end (act_of c.args.how (first_of (state_of b)))) (sym c.self.view_is) c.requires in
    kinds_some c.self.inside c.self.invariant c.args.robot.0 c.args.kinds.now c.args.end (act_of c.args.how (first_of (state c.self.inside c.self.invariant))) would

pub settle-requires-clause-few : goal.settle-requires-clause-few
settle-requires-clause-few c =
    let would = subst (λ (b : Book). WouldMerge (state_of b) c.args.robot.0 c.args.kinds.now c.args.end (act_of c.args.how (first_of (state_of b)))) (sym c.self.view_is) c.requires in
    few c.self.inside c.self.invariant c.args.robot.0 c.args.kinds.now c.args.end (act_of c.args.how (first_of (state c.self.inside c.self.invariant))) would

pub settle-requires-clause-claims : goal.settle-requires-clause-claims
settle-requires-clause-claims c =
    let would = subst (λ (b : Book). WouldMerge (state_of b) c.args.robot.0 c.args.kinds.now c.args.end (act_of c.args.how (first_of (state_of b)))) (sym c.self.view_is) c.requires in
    claims_known c.self.inside c.self.invariant c.args.robot.0 c.args.kinds.now c.args.end (act_of c.args.how (first_of (state c.self.inside c.self.invariant))) would

pub settle-requires-clause-apart : goal.settle-requires-clause-apart
settle-requires-clause-apart c =
    let would = subst (λ (b : Book). WouldMerge (state_of b) c.args.robot.0 c.args.kinds.now c.args.end (act_of c.args.how (first_of (state_of b)))) (sym c.self.view_is) c.requires in
    apart c.self.inside c.self.invariant c.args.robot.0 c.args.kinds.now c.args.end (act_of c.args.how (first_of (state c.self.inside c.self.invariant))) would

pub settle-requires-clause-owed : goal.settle-requires-clause-owed
settle-requires-clause-owed c =
    route_owed c.self.inside c.self.invariant c.args.robot.0

pub invariant_of-self-2 : goal.invariant_of-self-2
invariant_of-self-2 c =
    let first = first_of (state c.self.inside c.self.invariant) in
    let mark_is : c.new_mark-mark.result ≡ when (is_past (state c.self.inside c.self.invariant) (growth_of (act_of c.args.how first) c.args.kinds.now)) (mark_at (state c.self.inside c.self.invariant)) =
    subst (λ (b : Book). c.new_mark-mark.result ≡ when (is_past (state_of b) c.growth.result) (mark_at (state_of b))) (sym c.self.view_is) c.new_mark-mark.ensures
    ∙ ap (λ n. when (is_past (state c.self.inside c.self.invariant) n) (mark_at (state c.self.inside c.self.invariant))) (c.growth.ensures.value first c.args.kinds.now refl)
    in
    let told_act : c.act.result ≡ act_of c.args.how (first_of (state c.self.inside c.self.invariant)) =
    c.act.ensures ∙ ap (act_of c.args.how) (ap (λ (x : Span). x.first) c.in_ok-span.ensures.span ∙ ap (λ (n : ℕ). record { 0 = n }) c.self.invariant.tables.next) in
    let would = subst (λ (b : Book). WouldMerge (state_of b) c.args.robot.0 c.args.kinds.now c.args.end (act_of c.args.how (first_of (state_of b)))) (sym c.self.view_is) c.requires in
    kept_merged c.self.inside c.self.invariant c.args.robot.0 c.args.kinds.now c.args.end (act_of c.args.how (first_of (state c.self.inside c.self.invariant))) would c.push_reserved.new.self c.put_mark.new.marks c.settle.new.self
    c.in_ok-span.ensures.settled
    (c.push_reserved.ensures.items
    ∙ ap (λ es. es ++ record { robot = c.args.robot; act = c.act.result } ∷ []) c.reserve.ensures.items
    ∙ ap (λ (a : Act). c.self.inside.journal.items ++ record { robot = c.args.robot; act = a } ∷ []) told_act)
    (omega (arith, c.push_reserved.ensures.len, c.reserve.ensures.len))
    (omega (arith, c.push_reserved.ensures.capacity, c.in_ok-reserve.ensures.ok, c.reserve.ensures.len))
    (c.put_mark.ensures ∙ λ i. c.reserve-2.ensures.items i ++ option_to_list (mark_is i))
