-- Merges are least insertions, call by call.
use Rattle.std.proofs.Common.{◌≡◌, ℕ, Bool, List, [], Option, Some, None, Ok, refl, sym, ap, subst, ◌∙◌}
use Rattle.std.specs.Option.{unwrap_or}
use Rattle.fleet_base.specs.declared.answers.Block.{Block}
use Rattle.fleet_base.specs.declared.answers.Proposed.TheVariants as proposed
use Rattle.fleet_base.specs.declared.entries.Act.{Act}
use Rattle.fleet_base.specs.declared.entries.Act.TheVariants as act
use Rattle.fleet_base.specs.declared.numbers.CellNo.{CellNo}
use Rattle.fleet_base.specs.declared.numbers.Event.{Event}
use Rattle.fleet_base.specs.declared.numbers.Span.{Span}
use Rattle.fleet_model.specs.Calls.{Step, accepted, deferring, detour_of, first_of, in_segment, merge_growth, propose, propose_growth, propose_outcome, propose_refusals, replan, replan_refusals, retry, retry_refusals, span_of, unless_refused, with_route}
use Rattle.fleet_model.specs.Good.{IsGood}
use Rattle.fleet_model.specs.Lists.{first_some}
use Rattle.fleet_model.specs.Plans.{IsAllowed}
use Rattle.fleet_model.specs.Sites.{IsSite}
use Rattle.fleet_model.specs.States.{State, block_of, pending_route}
use Rattle.fleet_model.proofs.LeastMerge.{least}
use Rattle.call_laws.specs.Least.{AllowedSafely}

-- an accepted call leaves the state that it would leave without its refusals
after_ok : {A E : Type 0} (o : Option E) (s : State) (a : A) (r : ℕ) (act : Act) (after : State) (b : A) → (unless_refused o s (accepted a r act after)).answer ≡ Ok b → (unless_refused o s (accepted a r act after)).after ≡ after
after_ok None s a r act after b is = refl
after_ok (Some e) s a r act after b is = absurd (cc)

answer_ok : {A E : Type 0} (o : Option E) (s : State) (step : Step A E) (b : A) → (unless_refused o s step).answer ≡ Ok b → step.answer ≡ Ok b
answer_ok None s step b is = is
answer_ok (Some e) s step b is = absurd (cc)

-- the state with the route in the plan allows what a safe insertion allows
with_route_least : (s : State) (r : ℕ) (route : List CellNo) (order : List Event) → IsSite s.fleet.site → IsGood s → AllowedSafely s r route order → IsAllowed (with_route s r route).fleet order
with_route_least s r route order site good safely = least s.fleet r route site good.plan safely.pairs safely.insertion safely.safe order safely.allowed

pub proposed_least : (s : State) (r : ℕ) (cells : List CellNo) (span : Span) (order : List Event) → IsSite s.fleet.site → IsGood s → (propose s r cells).answer ≡ Ok (proposed.Merged span) → AllowedSafely s r cells order → IsAllowed (propose s r cells).after.fleet order
proposed_least s r cells span order site good is safely = subst (λ (t : State). IsAllowed t.fleet order) (sym (go (block_of (deferring s r cells) r cells) is)) (with_route_least s r cells order site good safely)
  where
    go : (o : Option Block) → (unless_refused (first_some (propose_refusals s r cells o)) s (propose_outcome s r cells o)).answer ≡ Ok (proposed.Merged span) → (unless_refused (first_some (propose_refusals s r cells o)) s (propose_outcome s r cells o)).after ≡ in_segment s (propose_growth s cells None) (with_route s r cells)
    go None h = after_ok (first_some (propose_refusals s r cells None)) s (proposed.Merged (span_of s cells)) r (act.Merged cells (first_of s)) (in_segment s (propose_growth s cells None) (with_route s r cells)) (proposed.Merged span) h
    go (Some block) h = absurd (let other = answer_ok (first_some (propose_refusals s r cells (Some block))) s (propose_outcome s r cells (Some block)) (proposed.Merged span) h in cc)

pub retried_least : (s : State) (r : ℕ) (span : Span) (order : List Event) → IsSite s.fleet.site → IsGood s → (retry s r).answer ≡ Ok span → AllowedSafely s r (pending_route s r) order → IsAllowed (retry s r).after.fleet order
retried_least s r span order site good is safely =
    let route = pending_route s r in
    subst (λ (t : State). IsAllowed t.fleet order) (sym (after_ok (first_some (retry_refusals s r route)) s (span_of s route) r (act.Retried (first_of s)) (in_segment s (merge_growth s route) (with_route s r route)) span is)) (with_route_least s r route order site good safely)

pub replanned_least : (s : State) (r : ℕ) (goal : CellNo → Bool) (route : List CellNo) (span : Span) (order : List Event) → IsSite s.fleet.site → IsGood s → detour_of s.fleet r goal ≡ Some route → (replan s r goal).answer ≡ Ok span → AllowedSafely s r route order → IsAllowed (replan s r goal).after.fleet order
replanned_least s r goal route span order site good found is safely =
    let told = unwrap_or (detour_of s.fleet r goal) [] in
    let after = after_ok (first_some (replan_refusals s r goal (detour_of s.fleet r goal))) s (span_of s told) r (act.Replanned told (first_of s)) (in_segment s (merge_growth s told) (with_route s r told)) span is in
    subst (λ (t : State). IsAllowed t.fleet order) (sym (after ∙ ap (λ o. in_segment s (merge_growth s (unwrap_or o [])) (with_route s r (unwrap_or o []))) found)) (with_route_least s r route order site good safely)
