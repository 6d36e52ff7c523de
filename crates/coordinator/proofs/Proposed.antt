-- Proposals that are accepted.
use Rattle.std.proofs.Common.{not, drop, ◌≡◌, ℕ, ◌+◌, ◌-◌, ◌<◌, Bool, true, false, List, [], ◌∷◌, ◌++◌, length, get_or, Option, Some, None, sym, ap, subst, ◌∙◌, refl}
use Rattle.std.proofs.lemmas.Bool.{ltb-true, not-false}
use Rattle.std.specs.Option.{is_some}
use Rattle.fleet_base.specs.declared.answers.Block.{Block}
use Rattle.fleet_base.specs.declared.answers.ProposeRefused.{ProposeRefused}
use Rattle.fleet_base.specs.declared.answers.ProposeRefused.TheVariants as refused
use Rattle.fleet_base.specs.declared.answers.Proposed.{Proposed}
use Rattle.fleet_base.specs.declared.answers.Proposed.TheVariants as proposed
use Rattle.fleet_base.specs.declared.entries.Act.TheVariants.{Merged}
use Rattle.fleet_base.specs.declared.entries.Act.TheVariants as act
use Rattle.fleet_base.specs.declared.entries.Entry.{Entry}
use Rattle.fleet_base.specs.declared.numbers.CellNo.{CellNo}
use Rattle.fleet_base.specs.declared.numbers.EventNo.{EventNo}
use Rattle.fleet_base.specs.declared.numbers.Kind.{Kind}
use Rattle.fleet_model.specs.Lists.{first_some, when}
use Rattle.fleet_model.specs.Sites.{steps}
use Rattle.fleet_model.specs.Plans.{IsRoute}
use Rattle.fleet_model.specs.States.{State, block_of, is_full, is_robot, pending_of}
use Rattle.fleet_model.specs.Calls.{Propose, Step, accepted, deferring, first_of, in_segment, propose, propose_growth, propose_outcome, propose_refusals, span_of, unless, unless_refused, with_route}
use Rattle.fleet_model.specs.Good.{IsGood}
use Rattle.fleet_model.proofs.Accepted.{accepts_propose}
use Rattle.fleet_model.proofs.Changes.{Accepts, CanChange, Change, Cut, Did, Dropped, Grew, Kept, Tells}
use Rattle.fleet_model.proofs.Options.{none_of, when_none}
use Rattle.coordinator.specs.Merging.{WouldMerge}
use Rattle.coordinator.specs.Proposals.{early_cause, early_refusals}
use Rattle.coordinator.proofs.Retries.{would_merge}

first_append : {A : Type 0} (xs ys : List (Option A)) → first_some xs ≡ None → first_some (xs ++ ys) ≡ first_some ys
first_append [] ys is = refl
first_append (None ∷ xs) ys is = first_append xs ys is
first_append (Some x ∷ xs) ys is = absurd (cc)

-- a proposal whose block is this
abbrev by_block : State → ℕ → List CellNo → Option Block → Step Proposed ProposeRefused
by_block s r cells block = unless (propose_refusals s r cells block) s (propose_outcome s r cells block)

-- without an early cause there is only want of room
room_alone : (s : State) (r : ℕ) (cells : List CellNo) (block : Option Block) → early_cause s r cells ≡ None → is_full s (propose_growth s cells block) ≡ false → first_some (propose_refusals s r cells block) ≡ None
room_alone s r cells block early room =
    first_append (early_refusals s r cells) (when (is_full s (propose_growth s cells block)) refused.Full ∷ []) early
    ∙ ap (λ b. first_some (when b refused.Full ∷ [])) room

proceeds : (s : State) (r : ℕ) (cells : List CellNo) (block : Option Block) → early_cause s r cells ≡ None → is_full s (propose_growth s cells block) ≡ false → by_block s r cells block ≡ propose_outcome s r cells block
proceeds s r cells block early room = ap (λ o. unless_refused o s (propose_outcome s r cells block)) (room_alone s r cells block early room)

outcome_some : (s : State) (r : ℕ) (cells : List CellNo) (block : Option Block) → is_some (propose_outcome s r cells block).entry ≡ true
outcome_some s r cells None = refl
outcome_some s r cells (Some block) = refl

no_room : (s : State) (r : ℕ) (cells : List CellNo) (block : Option Block) → early_cause s r cells ≡ None → is_full s (propose_growth s cells block) ≡ true → first_some (propose_refusals s r cells block) ≡ Some refused.Full
no_room s r cells block early full =
    first_append (early_refusals s r cells) (when (is_full s (propose_growth s cells block)) refused.Full ∷ []) early
    ∙ ap (λ b. first_some (when b refused.Full ∷ [])) full

-- without an early cause a proposal is accepted exactly where there is room
pub accepted_by : (s : State) (r : ℕ) (cells : List CellNo) (block : Option Block) → early_cause s r cells ≡ None → block_of (deferring s r cells) r cells ≡ block → not (is_full s (propose_growth s cells block)) ≡ is_some (propose s r cells).entry
accepted_by s r cells block early is = by_room (is_full s (propose_growth s cells block)) refl
  where
    by_room : (full : Bool) → is_full s (propose_growth s cells block) ≡ full → not full ≡ is_some (propose s r cells).entry
    by_room false room = sym (ap (λ (t : Step Proposed ProposeRefused). is_some t.entry) (ap (by_block s r cells) is ∙ proceeds s r cells block early room) ∙ outcome_some s r cells block)
    by_room true full = sym (ap (λ (t : Step Proposed ProposeRefused). is_some t.entry) (ap (by_block s r cells) is ∙ ap (λ o. unless_refused o s (propose_outcome s r cells block)) (no_room s r cells block early full)))

pub merged_is : (s : State) (r : ℕ) (cells : List CellNo) → early_cause s r cells ≡ None → block_of (deferring s r cells) r cells ≡ None → is_full s (1 + length (steps s.fleet.site cells)) ≡ false
    → propose s r cells ≡ accepted (proposed.Merged (span_of s cells)) r (act.Merged cells (first_of s)) (in_segment s (1 + length (steps s.fleet.site cells)) (with_route s r cells))
merged_is s r cells early free room = ap (by_block s r cells) free ∙ proceeds s r cells None early room

pub deferred_is : (s : State) (r : ℕ) (cells : List CellNo) (block : Block) → early_cause s r cells ≡ None → block_of (deferring s r cells) r cells ≡ Some block → is_full s 2 ≡ false
    → propose s r cells ≡ accepted (proposed.Deferred block) r (act.Deferred cells block.cycle) (in_segment s 2 (deferring s r cells))
deferred_is s r cells block early blocked room = ap (by_block s r cells) blocked ∙ proceeds s r cells (Some block) early room

-- a merged route is legal
route_told : (s : State) (r : ℕ) (change : Change) (cells : List CellNo) (first : EventNo) → CanChange s r change → Tells s r change (Merged cells first) → IsRoute s.fleet r cells
route_told s r (Grew route) cells first can tells = subst (λ w. IsRoute s.fleet r w) tells.0 can.1
route_told s r (Kept route) cells first can tells = absurd tells
route_told s r Dropped cells first can tells = absurd tells
route_told s r Cut cells first can tells = absurd tells
route_told s r (Did e) cells first can tells = absurd tells

pub merged_would : (s : State) (r : ℕ) (cells : List CellNo) (kinds : List Kind) (route : List CellNo) (d : CellNo) → r < length s.fleet.starts → kinds ≡ steps s.fleet.site cells → route ≡ cells → IsGood s → is_full s (1 + length (steps s.fleet.site cells)) ≡ false
    → propose s r cells ≡ accepted (proposed.Merged (span_of s cells)) r (act.Merged cells (first_of s)) (in_segment s (1 + length (steps s.fleet.site cells)) (with_route s r cells)) → WouldMerge s r kinds (get_or cells (length cells - 1) d) (act.Merged route (first_of s))
merged_would s r cells kinds route d known are same good room is =
    let entry : Entry = record { robot = record { 0 = r }; act = act.Merged cells (first_of s) } in
    let gives = ap (λ (t : Step Proposed ProposeRefused). t.entry) is in
    let how : Accepts s r entry (propose s r cells).after = accepts_propose s r cells entry good gives in
    let legal = route_told s r how.change cells (first_of s) how.can how.tells in
    subst (λ w. WouldMerge s r kinds (get_or cells (length cells - 1) d) (act.Merged w (first_of s))) (sym same)
    (would_merge s r cells kinds (act.Merged cells (first_of s)) (Propose cells) (1 + length (steps s.fleet.site cells)) d known legal are gives (ap (λ ks. 1 + length ks) are) room (ap (λ (t : Step Proposed ProposeRefused). t.after) is))

pub first_parts : {A : Type 0} (o : Option A) (os : List (Option A)) → first_some (o ∷ os) ≡ None → (o ≡ None) × (first_some os ≡ None)
first_parts None os is = (refl, is)
first_parts (Some x) os is = absurd (cc)

-- what a proposal without an early cause says of its robot
pub early_robot : (s : State) (r : ℕ) (cells : List CellNo) → early_cause s r cells ≡ None → (r < length s.fleet.starts) × (pending_of s r ≡ None)
early_robot s r cells early =
    let one = first_parts (when (not (is_robot s r)) refused.UnknownRobot) (drop 1 (early_refusals s r cells)) early in
    let two = first_parts (when (is_some (pending_of s r)) refused.HasPending) (drop 2 (early_refusals s r cells)) one.1 in (
      ltb-true r (length s.fleet.starts) (not-false (is_robot s r) (when_none (not (is_robot s r)) refused.UnknownRobot one.0)),
      none_of (pending_of s r) (when_none (is_some (pending_of s r)) refused.HasPending two.0),
    )
