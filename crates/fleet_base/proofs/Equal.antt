-- Short lists that are compared by their places are compared by their robots.
use Rattle.std.proofs.Common.{◌≡◌, Bool, ◌&&◌, eqb, List, sym, ap, ◌∙◌}
use lib.Pointwise.{pointwise}
use Rattle.fleet_base.specs.declared.numbers.RobotNo.{RobotNo}
use Rattle.fleet_base.specs.declared.robot_list.RobotList.TheInside.{Inside}
use Rattle.fleet_base.specs.RobotLists.{shown, IsKept, places_of, places_of-shown}

abbrev are_equal : Inside → Inside → Bool
are_equal a b = eqb a.len b.len && pointwise eqb a.places b.places

pub are_equal-places : (a b : Inside) (xs ys : List RobotNo) (lens both : Bool) → IsKept a → IsKept b → shown a ≡ xs → shown b ≡ ys → lens ≡ eqb a.len b.len → both ≡ (lens && pointwise eqb a.places b.places) → both ≡ are_equal (places_of xs) (places_of ys)
are_equal-places a b xs ys lens both kept_a kept_b is_a is_b first then =
    then
    ∙ ap (λ t. t && pointwise eqb a.places b.places) first
    ∙ ap (λ i. are_equal i b) (sym (places_of-shown a kept_a) ∙ ap (λ rs. places_of rs) is_a)
    ∙ ap (λ i. are_equal (places_of xs) i) (sym (places_of-shown b kept_b) ∙ ap (λ rs. places_of rs) is_b)
