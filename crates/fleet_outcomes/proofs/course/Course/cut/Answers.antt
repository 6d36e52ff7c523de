use Rattle.std.proofs.Common.{◌≡◌, ◌-◌, ◌++◌, [], ◌∷◌, ap, subst, rules, tests}
use Rattle.std.specs.Prelude.{nat_le, OnOk}
use Rattle.std.specs.List.{filter}
use Rattle.std.proofs.lemmas.Fn.{filter_same}
use Rattle.fleet_outcomes.specs.declared.stops.Stop.{Stop}
use Rattle.fleet_outcomes.specs.Courses.{cut}
use Rattle.fleet_outcomes.proofs.course.Course.cut.Goals as goal

kept : (c : goal.After-stop) → c.retain.new.self.items ≡ filter (λ (stop : Stop). nat_le stop.events (c.self.inside.events - c.from.result)) c.self.inside.stops.items
kept c = filter_same _ (λ (stop : Stop). nat_le stop.events (c.self.inside.events - c.from.result)) _ (λ x b g r. search (rules, tests)) _ _ c.retain.ensures.filtered

pub returns : goal.returns
returns c =
    let left = c.self.inside.events - c.from.result in
    let stops : record { stops = c.retain.new.self.items ++ record { events = left; cell = c.args.end } ∷ []; events = left; pending = c.self.inside.pending } ≡ cut c.from.result c.args.end (record { stops = c.self.inside.stops.items; events = c.self.inside.events; pending = c.self.inside.pending })
    = ap (λ xs. record { stops = xs ++ record { events = left; cell = c.args.end } ∷ []; events = left; pending = c.self.inside.pending }) (kept c) in
    rw (← c.self.view_is, ← c.from.ensures) (subst (λ x. OnOk c.stop.result (c.stop.new.self ≡ x)) stops c.stop.ensures)
