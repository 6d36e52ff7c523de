use Rattle.std.proofs.Common.{◌+◌, length, sym, ap, ◌∙◌, subst, arith}
use Rattle.fleet_model.proofs.Accepted.{start_of}
use Rattle.site_map.specs.Claims.{site_of}
use Rattle.coordinator.specs.Books.{opening_of}
use Rattle.fleet_outcomes.specs.Courses.{course_after, MayFollow}
use Rattle.fleet_outcomes.proofs.Following.{IsAt, first_at, few_at, may_at, other_at, own_at, stops_at}
use Rattle.fleet_outcomes.proofs.served.course_of.Goals as goal
use Rattle.fleet_outcomes.proofs.served.course_of.Goals.{then-eq+in_ok-follow, else-eq}

pub loop-entry-init : goal.loop-entry-init
loop-entry-init c =
    let book = c.args.fleet.now in
    let start = start_of book.starts c.args.robot.0 c.requires in
    subst (λ course. IsAt (opening_of book) book.journal c.args.robot.0 0 course) (sym (c.in_ok-course.ensures start.0 start.1))
    (first_at (site_of book.site) book.starts book.pending book.first book.cap book.journal c.args.robot.0 start.0 start.1)

pub follow-requires-clause-may : goal.follow-requires-clause-may
follow-requires-clause-may c =
    let book = c.args.fleet.now in
    let kept = c.journal-entry-items.ensures in
    subst (λ site. MayFollow (site_of site) c.entry-item.result.act c.loop-entry.course) (sym c.site.ensures)
    (may_at (opening_of book) book.journal c.args.robot.0 kept.site kept.opening kept.legal c.journal-entry-items.result.now kept.entries c.loop-entry.entry-index c.entry-item.result c.loop-entry-test.true c.entry-item.is c.loop-entry.course c.loop-entry.invariant (sym c.eq.ensures ∙ c.if-eq.true))

pub follow-requires-clause-few : goal.follow-requires-clause-few
follow-requires-clause-few c =
    let book = c.args.fleet.now in
    let kept = c.journal-entry-items.ensures in
    few_at (opening_of book) book.journal c.args.robot.0 kept.site kept.opening kept.legal c.journal-entry-items.result.now kept.entries c.loop-entry.entry-index c.entry-item.result c.loop-entry-test.true c.entry-item.is c.loop-entry.course c.loop-entry.invariant

pub loop-entry-preserved : goal.loop-entry-preserved
loop-entry-preserved c =
    let book = c.args.fleet.now in
    let kept = c.journal-entry-items.ensures in
    let n = c.loop-entry.entry-index in
    let entry = c.entry-item.result in
    let old = c.loop-entry.course in
    elim c.if-eq.branch [
      | then-eq+in_ok-follow w ↦
          let is = w.course-is ∙ (w.in_ok-follow.ensures ∙ ap (λ site. course_after (site_of site) entry.act old) w.site.ensures) in
          subst (λ course. IsAt (opening_of book) book.journal c.args.robot.0 (n + 1) course) (sym is)
          (own_at (opening_of book) book.journal c.args.robot.0 kept.site kept.opening kept.legal c.journal-entry-items.result.now kept.entries n entry c.loop-entry-test.true c.entry-item.is old c.loop-entry.invariant (sym c.eq.ensures ∙ w.if-eq.true))
      | else-eq w ↦
          subst (λ course. IsAt (opening_of book) book.journal c.args.robot.0 (n + 1) course) (sym w.course-is)
          (other_at (opening_of book) book.journal c.args.robot.0 kept.site kept.opening kept.legal c.journal-entry-items.result.now kept.entries n entry c.loop-entry-test.true c.entry-item.is old c.loop-entry.invariant (sym c.eq.ensures ∙ w.if-eq.false))
    ]

pub returns : goal.returns
returns c =
    let book = c.args.fleet.now in
    let long = ap length c.journal-entry-items.ensures.entries in
    stops_at (opening_of book) book.journal c.args.robot.0 c.loop-entry.entry-index c.loop-entry.course (omega arith) c.loop-entry.invariant
