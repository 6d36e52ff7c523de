-- The line of an entry is short where its numbers are, and its lists.
use Rattle.std.proofs.Common.{◌≡◌, ℕ, ◌+◌, ◌*◌, ◌≤◌, ◌&&◌, cond, leb, true, false, List, [], ◌∷◌, ◌++◌, length, map, Some, arith}
use Rattle.std.specs.Fmt.{decimal}
use Rattle.std.specs.List.{list_all}
use Rattle.std.specs.Option.{unwrap_or}
use Rattle.std.proofs.lemmas.Bool.{and_parts, leb-true}
use Rattle.std.proofs.lemmas.Fmt.{length-decimal-le}
use Rattle.std.proofs.lemmas.List.{length-append}
use Rattle.fleet_base.specs.declared.entries.Act.{Act}
use Rattle.fleet_base.specs.declared.entries.Act.TheVariants.{Merged, Deferred, Retried, Canceled, Withdrawn, Replanned, Reported}
use Rattle.fleet_base.specs.declared.entries.Entry.{Entry}
use Rattle.fleet_names.specs.Names.{AreDeclared, AreNames, Named, is_name, is_name_byte, name_of}
use Rattle.fleet_names.specs.Things.{same_thing}
use Rattle.fleet_names.specs.declared.thing.Thing.{Thing}
use Rattle.fleet_names.specs.declared.thing.Thing.TheVariants as thing
use Rattle.fleet_texts.specs.Texts.{act_word, detail_words, entry_text}
use Rattle.fleet_texts.specs.Words.{behind, cell_text, name_text, robot_text}

-- numbers of at most 15 digits, at most 1,000,000 removed events, and lists as long as routes and cycles
abbrev pub IsSmall : Act → Type 0
IsSmall (Merged route first) = (length route ≤ 1024) × (first.0 ≤ 999999999999999)
IsSmall (Deferred route cycle) = (length route ≤ 1024) × (length cycle ≤ 64)
IsSmall (Retried first) = first.0 ≤ 999999999999999
IsSmall Canceled = Unit {0}
IsSmall (Withdrawn removed end) = removed ≤ 1000000
IsSmall (Replanned route first) = (length route ≤ 1024) × (first.0 ≤ 999999999999999)
IsSmall (Reported event) = event.0 ≤ 999999999999999

-- a name has at most 32 bytes
short_name : (name : List ℕ) → is_name name ≡ true → length name ≤ 32
short_name name is =
    let parts = and_parts (leb 1 (length name) && leb (length name) 32) (list_all is_name_byte name) is in
    leb-true (length name) 32 (and_parts (leb 1 (length name)) (leb (length name) 32) parts.0).1

found_short : (es : Named) (thing : Thing) → AreNames es → length (unwrap_or (name_of es thing) []) ≤ 32
found_short [] thing are = omega arith
found_short (e ∷ es) thing are =
    elim (same_thing thing e.1) as (λ b. length (unwrap_or (cond b (Some e.0) (name_of es thing)) []) ≤ 32) [
      | true ↦ short_name e.0 are.0
      | false ↦ found_short es thing are.2
    ]

name_short : (names : Named) → AreDeclared names → (thing : Thing) → length (name_text names thing) ≤ 32
unfolding name_text
name_short names declared thing = found_short names thing declared.differ

-- words behind one another
module _ (A : Type 0) (text : A → List ℕ) (each : (a : A) → length (text a) ≤ 32) where
  behind_short : (xs : List A) → length (behind (map text xs)) ≤ 33 * length xs
  behind_short [] = omega arith
  behind_short (x ∷ xs) =
      let rest = behind_short xs in
      let first = each x in
      let both = length-append (32 ∷ text x) (behind (map text xs)) in
      omega (arith, rest, first, both)

length-behind : (word : List ℕ) (words : List (List ℕ)) → length (behind (word ∷ words)) ≡ length word + 1 + length (behind words)
length-behind word words = let both = length-append (32 ∷ word) (behind words) in omega (arith, both)

behind-append : (xs ys : List (List ℕ)) → length (behind (xs ++ ys)) ≡ length (behind xs) + length (behind ys)
behind-append [] ys = omega arith
behind-append (x ∷ xs) ys =
    let rest = behind-append xs ys in
    let whole = length-append (32 ∷ x) (behind (xs ++ ys)) in
    let front = length-append (32 ∷ x) (behind xs) in
    omega (arith, rest, whole, front)

number_short : (n : ℕ) → n ≤ 999999999999999 → length (decimal n) ≤ 15
number_short n small = length-decimal-le 15 n (omega arith) (omega (arith, small)) (omega (arith, small))

word_short : (act : Act) → length (act_word act) ≤ 9
word_short (Merged route first) = omega arith
word_short (Deferred route cycle) = omega arith
word_short (Retried first) = omega arith
word_short Canceled = omega arith
word_short (Withdrawn removed end) = omega arith
word_short (Replanned route first) = omega arith
word_short (Reported event) = omega arith

module _ (names : Named) (declared : AreDeclared names) where
  details_short : (act : Act) → IsSmall act → length (behind (detail_words names act)) ≤ 36000
  details_short (Merged route first) small =
      let number = number_short first.0 small.1 in
      let cells = behind_short _ (cell_text names) (λ a. name_short names declared (thing.Cell a.0)) route in
      let both = length-behind (decimal first.0) (map (cell_text names) route) in
      let few = small.0 in
      omega (arith, number, cells, both, few)
  details_short (Deferred route cycle) small =
      let few = small.0 in
      let count = small.1 in
      let number = number_short (length cycle) (omega (arith, count)) in
      let cells = behind_short _ (cell_text names) (λ a. name_short names declared (thing.Cell a.0)) route in
      let robots = behind_short _ (robot_text names) (λ r. name_short names declared (thing.Robot r.0)) cycle in
      let front = length-behind (decimal (length cycle)) (map (robot_text names) cycle) in
      let both = behind-append (decimal (length cycle) ∷ map (robot_text names) cycle) (map (cell_text names) route) in
      omega (arith, few, count, number, cells, robots, front, both)
  details_short (Retried first) small = let number = number_short first.0 small in let both = length-behind (decimal first.0) [] in omega (arith, number, both)
  details_short Canceled small = omega arith
  details_short (Withdrawn removed end) small =
      let number = number_short removed (omega (arith, small)) in
      let cell = name_short names declared (thing.Cell end.0) in
      let both = length-behind (decimal removed) (cell_text names end ∷ []) in
      let last = length-behind (cell_text names end) [] in
      omega (arith, number, cell, both, last)
  details_short (Replanned route first) small =
      let number = number_short first.0 small.1 in
      let cells = behind_short _ (cell_text names) (λ a. name_short names declared (thing.Cell a.0)) route in
      let both = length-behind (decimal first.0) (map (cell_text names) route) in
      let few = small.0 in
      omega (arith, number, cells, both, few)
  details_short (Reported event) small = let number = number_short event.0 small in let both = length-behind (decimal event.0) [] in omega (arith, number, both)

  pub line_short : (entry : Entry) → IsSmall entry.act → length (entry_text names entry) ≤ 65536
  unfolding entry_text
  line_short entry small =
      let word = word_short entry.act in
      let robot = name_short names declared (thing.Robot entry.robot.0) in
      let details = details_short entry.act small in
      let front = length-append (act_word entry.act) (behind (robot_text names entry.robot ∷ detail_words names entry.act)) in
      let both = length-behind (robot_text names entry.robot) (detail_words names entry.act) in
      omega (arith, word, robot, details, front, both)
