use Rattle.std.proofs.Common.{refl, sym, subst, ◌∙◌, take}
use Rattle.fleet_model.specs.Journals.{state_after}
use Rattle.fleet_model.specs.Segments.{StandAlone, entries_between, segment_end}
use Rattle.fleet_model.proofs.GoodStates.{opening_good}
use Rattle.fleet_model.proofs.Marks.{segments_alone}
use Rattle.site_map.specs.Claims.{site_of}
use Rattle.coordinator.specs.Books.{Book, opening_of}
use Rattle.coordinator.specs.Kept.{shown}
use Rattle.coordinator.proofs.coordinator.Coordinator.marks.Goals as goal

pub returns-clause-segments : goal.returns-clause-segments
returns-clause-segments c earlier mark later are =
    let i = c.self.inside in
    let k = c.self.invariant in
    let opening = opening_of (shown i) in
    subst (λ (b : Book). StandAlone (state_after (opening_of b) (take mark.before b.journal)) (entries_between mark.before (segment_end later b.journal) b.journal)) c.self.view_is
    (segments_alone opening k.site (opening_good (site_of i.site) i.from.at.items i.from.pending.items i.from.next.0 i.cap k.opening) refl refl i.journal.items k.legal earlier mark later (sym k.marks ∙ (sym c.deref.ensures.value ∙ are)))
