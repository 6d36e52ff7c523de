-- Names, in the order of declaration: pairs of a name's bytes and what it names.
use Rattle.std.specs.Prelude.{◌≡◌, ℕ, ◌+◌, ◌==◌, nat_le, ◌&&◌, ◌||◌, if◌then◌else◌, Bool, true, List, [], ◌∷◌, length, count_by, Some, None, MatchBool}
use Rattle.std.specs.declared.option.Option.{Option}
use Rattle.std.specs.List.{list_all}
use Rattle.std.specs.Str.{bytes_eq}
use Rattle.fleet_names.specs.declared.thing.Thing.{Thing}
use Rattle.fleet_names.specs.Things.{number_of, same_kind, same_thing}

-- `a` to `z`, `0` to `9` and `_`
abbrev pub is_name_byte : ℕ → Bool
is_name_byte b = nat_le 97 b && nat_le b 122 || nat_le 48 b && nat_le b 57 || b == 95

-- whether bytes are a name: 1 to 32 such bytes
abbrev pub is_name : List ℕ → Bool
is_name bytes = nat_le 1 (length bytes) && nat_le (length bytes) 32 && list_all is_name_byte bytes

-- names and what they name
abbrev pub Named : Type 0
Named = List (List ℕ × Thing)

-- what a name names
abbrev pub thing_of : Named → List ℕ → Option Thing
thing_of [] name = None
thing_of (e ∷ es) name = if bytes_eq name e.0 then Some e.1 else thing_of es name

-- the name of a thing
abbrev pub name_of : Named → Thing → Option (List ℕ)
name_of [] thing = None
name_of (e ∷ es) thing = if same_thing thing e.1 then Some e.0 else name_of es thing

-- how many things of a kind have names; the test tells the kind
abbrev pub count_of : (Thing → Bool) → Named → ℕ
count_of test names = count_by (λ e. test e.1) names

-- Each name is a name, and no later thing has it too.
abbrev pub AreNames : Named → Type 0
AreNames [] = Unit {0}
AreNames (e ∷ es) = (is_name e.0 ≡ true) × (thing_of es e.0 ≡ None) × AreNames es

-- The numbers of the things of a kind count up from n, in the order of declaration.
abbrev pub CountUp : (Thing → Bool) → ℕ → Named → Type 0
CountUp test n [] = Unit {0}
CountUp test n (e ∷ es) = MatchBool (test e.1) ((number_of e.1 ≡ n) × CountUp test (n + 1) es) (CountUp test n es)

-- Names differ, and the numbers of each kind count up from 0.
pub record AreDeclared (names : Named) : Type 0 where
  pub differ : AreNames names
  pub numbers : (thing : Thing) → CountUp (same_kind thing) 0 names
