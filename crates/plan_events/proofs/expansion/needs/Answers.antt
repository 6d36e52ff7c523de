use Rattle.std.proofs.Common.{◌≡◌, ◌-◌, ◌||◌, sym, ap, ◌∙◌, get_or, arith}
use Rattle.std.specs.FinSet.{contains, contains-empty}
use Rattle.std.specs.Ordering.{nat_cmp}
use Rattle.fleet_model.specs.Sites.{acquired, footprint_of, has_claim, needs, without}
use Rattle.site_map.specs.Claims.{site_of}
use Rattle.plan_events.proofs.Causes.{accepted_known, known_at, no_cell}
use Rattle.plan_events.proofs.Walked.{needed_step, or-false, steps_on_end}
use Rattle.plan_events.proofs.expansion.needs.Goals as goal

pub loop-at-init : goal.loop-at-init
loop-at-init c = λ k.
    let all = has_claim (needs (site_of c.args.site.now) c.args.cells.now) k in
    ap (λ s. all || contains s k.0) c.new-claims.ensures ∙ ap (λ t. all || t) (contains-empty nat_cmp k.0) ∙ or-false all

pub footprint-held-requires : goal.footprint-held-requires
footprint-held-requires c = known_at c.args.site.now c.args.cells.now (accepted_known (site_of c.args.site.now) c.args.cells.now c.requires) (c.loop-at.at - 1) no_cell (omega arith)

pub footprint-wanted-requires : goal.footprint-wanted-requires
footprint-wanted-requires c = known_at c.args.site.now c.args.cells.now (accepted_known (site_of c.args.site.now) c.args.cells.now c.requires) c.loop-at.at no_cell (omega arith)

pub loop-at-preserved : goal.loop-at-preserved
loop-at-preserved c = λ k.
    let site = site_of c.args.site.now in
    let cells = c.args.cells.now in
    let at = c.loop-at.at in
    let old = contains c.loop-at.claims k.0 in
    let wanted : c.list.result.now ≡ footprint_of site (get_or cells at no_cell) = c.list.ensures.claims ∙ c.footprint-wanted.ensures.claims in
    let held : c.list-in-loop-at.result.now ≡ footprint_of site (get_or cells (at - 1) no_cell) = c.list-in-loop-at.ensures.claims ∙ c.footprint-held.ensures.claims in
    needed_step site cells at k old (contains c.put_without.new.found k.0) (has_claim (needs site cells) k) (omega arith) (omega arith)
    (c.put_without.ensures k ∙ ap (λ cs. has_claim (without cs c.list-in-loop-at.result.now) k || old) wanted ∙ ap (λ ds. has_claim (without (footprint_of site (get_or cells at no_cell)) ds) k || old) held)
    (c.loop-at.invariant k)

pub returns : goal.returns
returns c = λ k.
    ap (λ ks. has_claim (acquired ks) k || contains c.loop-at.claims k.0) (sym (steps_on_end (site_of c.args.site.now) c.args.cells.now c.loop-at.at (omega arith) (omega arith)))
    ∙ c.loop-at.invariant k
