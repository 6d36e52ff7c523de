-- Lines that have no line feed, and the text of such lines.
use Rattle.std.proofs.Common.{◌≡◌, ⊎_elim, ℕ, ◌^◌, ◌<◌, Bool, true, false, cond, ◌&&◌, leb, List, [], ◌∷◌, ◌++◌, map, Option, Some, refl, sym, ap, subst, ◌∙◌, append_assoc, rules}
use Rattle.std.specs.Prelude.{flat_map}
use Rattle.std.specs.Fmt.{decimal}
use Rattle.std.specs.List.{list_all, list_any, onto_first, AllByRecursion}
use Rattle.std.specs.Option.{unwrap_or}
use Rattle.std.specs.Str.{all_ascii_digits}
use Rattle.std.specs.Str.Parse.{digits_value}
use Rattle.std.proofs.lemmas.Bool.{cases_Bool, and_parts, or_parts, eqb-true, false≢true}
use Rattle.std.proofs.lemmas.Fmt.{digits_decimal}
use Rattle.std.proofs.lemmas.Str.Parse.{IsNumeralModel, numerals_by_value}
use Rattle.std.proofs.lemmas.List.Folds.{list_any-append}
use Rattle.std.proofs.lemmas.List.Concat.{flat_map-append}
use Rattle.fleet_names.specs.declared.thing.Thing.{Thing}
use Rattle.fleet_names.specs.Things.{same_thing}
use Rattle.fleet_names.specs.Names.{Named, AreNames, is_name_byte, name_of}
use Rattle.site_lines.specs.Lines.{is_feed, lines_of}
use Rattle.scenario.specs.Canonical.{line, name}
use Rattle.scenario_laws.proofs.RoundTrip.{bare_line}

-- no byte is a line feed
abbrev pub NoFeed : List ℕ → Type 0
NoFeed bs = list_any is_feed bs ≡ false

pub none_in_both : (xs ys : List ℕ) → NoFeed xs → NoFeed ys → NoFeed (xs ++ ys)
none_in_both xs ys left right = list_any-append is_feed xs ys ∙ rw (left, right) refl

-- a line ends at its line feed
pub ended : (bs rest : List ℕ) → NoFeed bs → lines_of (bs ++ 10 ∷ rest) ≡ bs ∷ lines_of rest
ended [] rest none = refl
ended (b ∷ bs) rest none =
    let parts = or_parts (is_feed b) (list_any is_feed bs) none in
    rw parts.0 (ap (onto_first b) (ended bs rest parts.1))

-- lines with their line feeds
abbrev pub fed : List (List ℕ) → List ℕ
fed lines = flat_map (λ l. l ++ 10 ∷ []) lines

pub lines_of_fed : (lines : List (List ℕ)) → AllByRecursion NoFeed lines → lines_of (fed lines) ≡ lines
lines_of_fed [] all = refl
lines_of_fed (l ∷ ls) all = ap lines_of (append_assoc l (10 ∷ []) (fed ls)) ∙ ended l (fed ls) all.0 ∙ ap (λ rest. l ∷ rest) (lines_of_fed ls all.1)

-- a line of words
pub line_fed : (keyword : List ℕ) (words : List (List ℕ)) → line keyword words ≡ bare_line keyword words ++ 10 ∷ []
line_fed keyword words = sym (append_assoc keyword (flat_map (λ word. 32 ∷ word) words) (10 ∷ []))

none_in_words : (words : List (List ℕ)) → AllByRecursion NoFeed words → NoFeed (flat_map (λ word. 32 ∷ word) words)
none_in_words [] all = refl
none_in_words (w ∷ ws) all = none_in_both w (flat_map (λ word. 32 ∷ word) ws) all.0 (none_in_words ws all.1)

pub none_in_line : (keyword : List ℕ) (words : List (List ℕ)) → NoFeed keyword → AllByRecursion NoFeed words → NoFeed (bare_line keyword words)
none_in_line keyword words first all = none_in_both keyword (flat_map (λ word. 32 ∷ word) words) first (none_in_words words all)

-- a name has none
not_feed : (b : ℕ) → is_name_byte b ≡ true → is_feed b ≡ false
not_feed b is = ⊎_elim (λ h. let same : b ≡ 10 = eqb-true b 10 h in let no = subst (λ x. is_name_byte x ≡ true) same is in absurd (false≢true no)) (λ h. h) (cases_Bool (is_feed b))

none_in_bytes : (bs : List ℕ) → list_all is_name_byte bs ≡ true → NoFeed bs
none_in_bytes [] all = refl
none_in_bytes (b ∷ bs) all = let parts = and_parts (is_name_byte b) (list_all is_name_byte bs) all in rw (not_feed b parts.0, none_in_bytes bs parts.1) refl

in_choice : (b : Bool) (bytes : List ℕ) (rest : Option (List ℕ)) → NoFeed bytes → NoFeed (unwrap_or rest []) → NoFeed (unwrap_or (cond b (Some bytes) rest) [])
in_choice true bytes rest here later = here
in_choice false bytes rest here later = later

pub none_in_name : (names : Named) (t : Thing) → AreNames names → NoFeed (name names t)
none_in_name [] t are = refl
none_in_name (e ∷ es) t are = in_choice (same_thing t e.1) e.0 (name_of es t) (none_in_bytes e.0 (and_parts _ (list_all is_name_byte e.0) are.0).1) (none_in_name es t are.2)

-- nor has a number
own : IsNumeralModel (λ ds. all_ascii_digits ds ≡ true) (digits_value 10)
own = numerals_by_value _ (search rules)

no_digit_feed : (b : ℕ) → (leb 48 b && leb b 57) ≡ true → is_feed b ≡ false
no_digit_feed b is = ⊎_elim (λ h. let same : b ≡ 10 = eqb-true b 10 h in let no = subst (λ x. (leb 48 x && leb x 57) ≡ true) same is in absurd (false≢true no)) (λ h. h) (cases_Bool (is_feed b))

none_in_digits : (ds : List ℕ) → all_ascii_digits ds ≡ true → NoFeed ds
none_in_digits [] all = refl
none_in_digits (d ∷ ds) all = let parts = and_parts (leb 48 d && leb d 57) (all_ascii_digits ds) all in rw (no_digit_feed d parts.0, none_in_digits ds parts.1) refl

pub none_in_number : (n : ℕ) → n < 2 ^ 64 → NoFeed (decimal n)
none_in_number n few = none_in_digits (decimal n) (digits_decimal own n few)

-- the text of each is its line
pub each_fed : {A : Type 0} (text line_of : A → List ℕ) → ((a : A) → text a ≡ line_of a ++ 10 ∷ []) → (xs : List A) → flat_map text xs ≡ fed (map line_of xs)
each_fed text line_of is [] = refl
each_fed text line_of is (x ∷ xs) = ap (λ first. first ++ flat_map text xs) (is x) ∙ ap (λ rest. (line_of x ++ 10 ∷ []) ++ rest) (each_fed text line_of is xs)

-- or its lines
pub all_fed : {A : Type 0} (text : A → List ℕ) (lines : A → List (List ℕ)) → ((a : A) → text a ≡ fed (lines a)) → (xs : List A) → flat_map text xs ≡ fed (flat_map lines xs)
all_fed text lines is [] = refl
all_fed text lines is (x ∷ xs) = ap (λ first. first ++ flat_map text xs) (is x) ∙ ap (λ rest. fed (lines x) ++ rest) (all_fed text lines is xs) ∙ sym (flat_map-append (λ l. l ++ 10 ∷ []) (lines x) (flat_map lines xs))

-- lines of each
pub none_in_each : {A : Type 0} (line_of : A → List ℕ) (P : A → Type 0) → ((a : A) → P a → NoFeed (line_of a)) → (xs : List A) → AllByRecursion P xs → AllByRecursion NoFeed (map line_of xs)
none_in_each line_of P is [] all = tt
none_in_each line_of P is (x ∷ xs) all = (is x all.0, none_in_each line_of P is xs all.1)

pub none_in_front : (xs ys : List (List ℕ)) → AllByRecursion NoFeed xs → AllByRecursion NoFeed ys → AllByRecursion NoFeed (xs ++ ys)
none_in_front [] ys left right = right
none_in_front (x ∷ xs) ys left right = (left.0, none_in_front xs ys left.1 right)

pub none_in_all : {A : Type 0} (lines : A → List (List ℕ)) (P : A → Type 0) → ((a : A) → P a → AllByRecursion NoFeed (lines a)) → (xs : List A) → AllByRecursion P xs → AllByRecursion NoFeed (flat_map lines xs)
none_in_all lines P is [] all = tt
none_in_all lines P is (x ∷ xs) all = none_in_front (lines x) (flat_map lines xs) (is x all.0) (none_in_all lines P is xs all.1)

-- what holds of each
pub always : {A : Type 0} (P : A → Type 0) → ((a : A) → P a) → (xs : List A) → AllByRecursion P xs
always P is [] = tt
always P is (x ∷ xs) = (is x, always P is xs)
