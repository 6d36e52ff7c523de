-- A retry that no refusal fits, and one of a robot that isn't there.
use Rattle.std.proofs.Common.{◌≡◌, ℕ, ◌-◌, ◌<◌, ◌≤◌, false, List, [], ◌∷◌, length, get_or, Some, None, sym, ap, ◌∙◌, refl, arith}
use Rattle.std.proofs.lemmas.Bool.{le-ltb, lt-ltb}
use Rattle.std.specs.Prelude.{Err}
use Rattle.fleet_base.specs.declared.answers.RetryRefused.TheVariants as refused
use Rattle.fleet_base.specs.declared.entries.Act.{Act}
use Rattle.fleet_base.specs.declared.entries.Act.TheVariants as act
use Rattle.fleet_base.specs.declared.numbers.CellNo.{CellNo}
use Rattle.fleet_base.specs.declared.numbers.Kind.{Kind}
use Rattle.fleet_model.specs.Sites.{last_cell, steps}
use Rattle.fleet_model.specs.Plans.{IsRoute}
use Rattle.fleet_model.specs.States.{State, block_of, is_full, pending_of}
use Rattle.fleet_model.specs.Calls.{Call, accepted, first_of, in_segment, merge_growth, retry, span_of, turn, with_route}
use Rattle.coordinator.specs.Books.{IsAnswer}
use Rattle.coordinator.specs.Merging.{WouldMerge, growth_of}

last_get : (a d : CellNo) (bs : List CellNo) → get_or (a ∷ bs) (length bs) d ≡ last_cell a bs
last_get a d [] = refl
last_get a d (b ∷ bs) = last_get b d bs

-- a call that puts this legal route into the plan
pub would_merge : (s : State) (r : ℕ) (route : List CellNo) (kinds : List Kind) (act : Act) (call : Call) (growth : ℕ) (d : CellNo) → r < length s.fleet.starts → IsRoute s.fleet r route → kinds ≡ steps s.fleet.site route
    → (turn s r call).entry ≡ Some (record { robot = record { 0 = r }; act = act }) → growth_of act kinds ≡ growth → is_full s growth ≡ false → (turn s r call).after ≡ in_segment s growth (with_route s r route) → WouldMerge s r kinds (get_or route (length route - 1) d) act
would_merge s r [] kinds act call growth d robot legal are gives growth_is room after = let long = legal.long in absurd (omega arith)
would_merge s r (a ∷ bs) kinds act call growth d robot legal are gives growth_is room after = record {
  start = a;
  rest = bs;
  kinds_are = are;
  end_is = (let n : length (a ∷ bs) - 1 ≡ length bs = omega arith in ap (λ k. get_or (a ∷ bs) k d) n ∙ last_get a d bs);
  robot = robot;
  legal = legal;
  call = call;
  gives = gives;
  room = ap (is_full s) growth_is ∙ room;
  after = after ∙ ap (λ n. in_segment s n (with_route s r (a ∷ bs))) (sym growth_is);
}

pub unknown : (s : State) (r : ℕ) → length s.fleet.starts ≤ r → IsAnswer refused.NoMemory (Err refused.UnknownRobot) (retry s r).answer
unknown s r past = rw (le-ltb r (length s.fleet.starts) past) refl

pub retried : (s : State) (r : ℕ) (route : List CellNo) → r < length s.fleet.starts → pending_of s r ≡ Some route → block_of s r route ≡ None → is_full s (length (steps s.fleet.site route)) ≡ false
    → retry s r ≡ accepted (span_of s route) r (act.Retried (first_of s)) (in_segment s (merge_growth s route) (with_route s r route))
retried s r route known some free room = rw (lt-ltb r (length s.fleet.starts) known, some, free, room) refl
