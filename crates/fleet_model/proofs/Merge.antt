-- A merge removes no allowed order.
use Rattle.std.proofs.Common.{◌≡◌, ℕ, ◌<◌, ◌≤◌, true, ◌⊎◌, inl, inr, List, [], ◌∷◌, ◌++◌, arith}
use Rattle.fleet_base.specs.declared.numbers.CellNo.{CellNo}
use Rattle.fleet_base.specs.declared.numbers.Event.{Event}
use Rattle.fleet_model.specs.Lists.{In}
use Rattle.fleet_model.specs.Sites.{Site, steps}
use Rattle.fleet_model.specs.Plans.{Fleet, is_done, IsBehind, IsOrder, IsAllowed, merged, route_events}
use Rattle.fleet_model.specs.Good.{IsGoodPlan}
use Rattle.fleet_model.proofs.Lists.{In-append_left, In-append_cases}
use Rattle.fleet_model.proofs.Numbers.{low_bound}
use Rattle.fleet_model.proofs.Good.{behind_less}
use Rattle.fleet_model.proofs.Numbered.{numbered-ascending}

-- events with numbers from next on leave the orders of those with lower numbers
pub order_still : (site : Site) (plan news done order : List Event) (next : ℕ) → ((e : Event) → In e plan → e.no.0 < next) → ((e : Event) → In e news → next ≤ e.no.0)
    → IsOrder (IsBehind site.groups) plan done order → IsOrder (IsBehind site.groups) (plan ++ news) done order
order_still site plan news done [] next low high h = tt
order_still site plan news done (e ∷ es) next low high h = (
  record { planned = In-append_left plan news h.0.planned; undone = h.0.undone; waited = λ f m b. old f b (In-append_cases plan news m) },
  order_still site plan news (done ++ e ∷ []) es next low high h.1,
)
  where
    old : (f : Event) → IsBehind site.groups e f → In f plan ⊎ In f news → is_done done f ≡ true
    old f b (inl m) = h.0.waited f m b
    old f b (inr m) = let l = behind_less site.groups e f b in let i = low e h.0.planned in let j = high f m in absurd (omega arith)

module _ (m : Fleet) (r : ℕ) (route : List CellNo) where
  -- the events of a route have the numbers from the next on
  pub news_high : (e : Event) → In e (route_events m r route) → m.next ≤ e.no.0
  news_high e i = low_bound m.next (route_events m r route) (numbered-ascending m.next r (steps m.site route)) i

  -- an event of the merged plan with a high number is of the route
  pub new_event : IsGoodPlan m → (e : Event) → In e (m.plan ++ route_events m r route) → m.next ≤ e.no.0 → In e (route_events m r route)
  new_event good e i l = elim (In-append_cases m.plan (route_events m r route) i) [ inl j ↦ (let h = good.next e j in absurd (omega arith)) | inr j ↦ j ]

-- a merge removes no allowed order
pub allowed_still : (m : Fleet) (r : ℕ) (route : List CellNo) (order : List Event) → IsGoodPlan m → IsAllowed m order → IsAllowed (merged m r route) order
allowed_still m r route order good h =
    order_still m.site m.plan (route_events m r route) m.finished order m.next good.next (news_high m r route) h
