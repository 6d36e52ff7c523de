use Rattle.std.proofs.Common.{◌≡◌, ◌+◌, ◌-◌, false, inr, length, get_or, Some, None, refl, ap, sym, subst, ◌∙◌}
use Rattle.std.specs.Prelude.{Err}
use Rattle.std.specs.Option.{option_to_list}
use Rattle.fleet_base.specs.declared.answers.ProposeRefused.{ProposeRefused}
use Rattle.fleet_base.specs.declared.answers.ProposeRefused.TheVariants as refused
use Rattle.fleet_base.specs.declared.answers.Proposed.{Proposed}
use Rattle.fleet_base.specs.declared.entries.Act.TheVariants as act
use Rattle.fleet_model.specs.Sites.{steps}
use Rattle.fleet_model.specs.States.{block_of, is_full}
use Rattle.fleet_model.specs.Calls.{Step, deferring, first_of, propose}
use Rattle.site_map.specs.Claims.{site_of}
use Rattle.coordinator.specs.Books.{Book, IsAnswer, state_of, with_entries}
use Rattle.coordinator.specs.Merging.{WouldMerge}
use Rattle.coordinator.specs.Proposals.{early_cause}
use Rattle.coordinator.proofs.KeptNext.{good, state}
use Rattle.coordinator.proofs.Proposed.{early_robot, merged_is, merged_would}
use Rattle.coordinator.proofs.coordinator.Coordinator.merge_proposal.Goals as goal

pub merge_route-requires : goal.merge_route-requires
merge_route-requires c =
    let k = c.self.invariant in
    let s = state c.self.inside k in
    let r = c.args.robot.0 in
    let cells = c.args.cells.now in
    let back = sym c.self.view_is in
    let early : early_cause s r cells ≡ None = subst (λ (b : Book). early_cause (state_of b) r cells ≡ None) back c.requires.early in
    let free : block_of (deferring s r cells) r cells ≡ None = subst (λ (b : Book). block_of (deferring (state_of b) r cells) r cells ≡ None) back c.requires.free in
    let count : c.args.events ≡ length (steps s.fleet.site cells) = c.requires.events ∙ ap (λ (b : Book). length (steps (site_of b.site) cells)) back ∙ ap (λ z. length (steps z cells)) (sym k.state.site) in
    let room : is_full s (1 + length (steps s.fleet.site cells)) ≡ false =
    ap (λ n. is_full s (1 + n)) (sym count) ∙ subst (λ (b : Book). is_full (state_of b) (1 + c.args.events) ≡ false) back (sym c.is_full.ensures ∙ c.if-is_full.false) in
    let are = c.deref.ensures.value ∙ c.in-Ok.ensures.steps ∙ ap (λ z. steps z cells) (sym k.state.site) in
    subst (λ (b : Book). WouldMerge (state_of b) r c.deref.result.now (get_or cells (length cells - 1) (record { 0 = 0 })) (act.Merged c.in-Ok-copy_of.route (first_of (state_of b)))) c.self.view_is
    (merged_would s r cells c.deref.result.now c.in-Ok-copy_of.route (record { 0 = 0 }) (early_robot s r cells early).0 are c.in-Ok-copy_of.ensures (good c.self.inside k) room (merged_is s r cells early free room))

pub returns-in_default-clause-answer : goal.returns-in_default-clause-answer
returns-in_default-clause-answer c =
    let k = c.self.invariant in
    let s = state c.self.inside k in
    let r = c.args.robot.0 in
    let cells = c.args.cells.now in
    let back = sym c.self.view_is in
    let early : early_cause s r cells ≡ None = subst (λ (b : Book). early_cause (state_of b) r cells ≡ None) back c.requires.early in
    let free : block_of (deferring s r cells) r cells ≡ None = subst (λ (b : Book). block_of (deferring (state_of b) r cells) r cells ≡ None) back c.requires.free in
    let count : c.args.events ≡ length (steps s.fleet.site cells) = c.requires.events ∙ ap (λ (b : Book). length (steps (site_of b.site) cells)) back ∙ ap (λ z. length (steps z cells)) (sym k.state.site) in
    let room : is_full s (1 + length (steps s.fleet.site cells)) ≡ false =
    ap (λ n. is_full s (1 + n)) (sym count) ∙ subst (λ (b : Book). is_full (state_of b) (1 + c.args.events) ≡ false) back (sym c.is_full.ensures ∙ c.if-is_full.false) in
    let done = merged_is s r cells early free room in
    subst (λ (b : Book). IsAnswer refused.NoMemory (Err refused.NoMemory) (propose (state_of b) r cells).answer) c.self.view_is
    (subst (λ (t : Step Proposed ProposeRefused). IsAnswer refused.NoMemory (Err refused.NoMemory) t.answer) (sym done) (inr refl))

pub returns-in-Ok-merge_route-clause-book : goal.returns-in-Ok-merge_route-clause-book
returns-in-Ok-merge_route-clause-book c =
    let k = c.self.invariant in
    let s = state c.self.inside k in
    let r = c.args.robot.0 in
    let cells = c.args.cells.now in
    let back = sym c.self.view_is in
    let early : early_cause s r cells ≡ None = subst (λ (b : Book). early_cause (state_of b) r cells ≡ None) back c.requires.early in
    let free : block_of (deferring s r cells) r cells ≡ None = subst (λ (b : Book). block_of (deferring (state_of b) r cells) r cells ≡ None) back c.requires.free in
    let count : c.args.events ≡ length (steps s.fleet.site cells) = c.requires.events ∙ ap (λ (b : Book). length (steps (site_of b.site) cells)) back ∙ ap (λ z. length (steps z cells)) (sym k.state.site) in
    let room : is_full s (1 + length (steps s.fleet.site cells)) ≡ false =
    ap (λ n. is_full s (1 + n)) (sym count) ∙ subst (λ (b : Book). is_full (state_of b) (1 + c.args.events) ≡ false) back (sym c.is_full.ensures ∙ c.if-is_full.false) in
    let done = merged_is s r cells early free room in
    let told : (propose s r cells).entry ≡ Some (record { robot = c.args.robot; act = act.Merged c.in-Ok-copy_of.route (first_of s) }) =
    ap (λ (t : Step Proposed ProposeRefused). t.entry) done ∙ ap (λ w. Some (record { robot = c.args.robot; act = act.Merged w (first_of s) })) (sym c.in-Ok-copy_of.ensures) in
    let there = subst (λ (b : Book). (propose (state_of b) r cells).entry ≡ Some (record { robot = c.args.robot; act = act.Merged c.in-Ok-copy_of.route (first_of (state_of b)) })) c.self.view_is told in
    c.in-Ok-merge_route.ensures.entry ∙ ap (λ o. with_entries c.args.self.now (option_to_list o)) (sym there)
