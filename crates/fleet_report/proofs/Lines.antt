-- Lines behind one another.
use Rattle.std.proofs.Common.{◌≡◌, ℕ, suc, ◌+◌, ◌≤◌, List, [], ◌∷◌, ◌++◌, map, drop, codes, length, Some, slice_get, sym, ap, ◌∙◌, append_assoc, arith}
use Rattle.std.specs.List.{flat_map}
use Rattle.std.proofs.lemmas.Grind.{flat_map-append}
use Rattle.std.proofs.lemmas.List.{append-nil, drop_all, drop_more}
use Rattle.std.proofs.lemmas.Option.{get_or_from_slice_get, slice_get_within}
use Rattle.fleet_model.specs.Lists.{numbers_below}
use Rattle.fleet_model.specs.States.{State}
use Rattle.fleet_names.specs.Names.{Named}
use Rattle.site_map.specs.Built.{BuiltSite}
use Rattle.site_map.proofs.CellLemmas.{numbers_below_push}
use Rattle.fleet_texts.specs.StateTexts.{header_lines, robot_lines, state_text}
use Rattle.fleet_texts.specs.Words.{lines_text}

-- lines behind others
pub lines_both : (xs ys : List (List ℕ)) → lines_text (xs ++ ys) ≡ lines_text xs ++ lines_text ys
lines_both xs ys = flat_map-append (λ (line : List ℕ). line ++ 10 ∷ []) xs ys

split_at : {A : Type 0} (xs : List A) (i : ℕ) (x : A) → slice_get xs i ≡ Some x → drop i xs ≡ x ∷ drop (i + 1) xs
split_at xs i x at = drop_more xs i x (slice_get_within xs i x at) ∙ ap (λ y. y ∷ drop (i + 1) xs) (get_or_from_slice_get xs i x x at)

-- one line more of a list
pub line_more : {A : Type 0} (line : A → List ℕ) (xs : List A) (i : ℕ) (x : A) (text more : List ℕ) → slice_get xs i ≡ Some x → more ≡ text ++ lines_text (line x ∷ [])
    → more ++ lines_text (map line (drop (i + 1) xs)) ≡ text ++ lines_text (map line (drop i xs))
line_more line xs i x text more at is =
    ap (λ t. t ++ lines_text (map line (drop (i + 1) xs))) is
    ∙ append_assoc text (lines_text (line x ∷ [])) (lines_text (map line (drop (i + 1) xs)))
    ∙ ap (λ t. text ++ t) (sym (lines_both (line x ∷ []) (map line (drop (i + 1) xs))) ∙ ap (λ ys. lines_text (map line ys)) (sym (split_at xs i x at)))

-- no line is left of a list
pub none_left : {A : Type 0} (line : A → List ℕ) (xs : List A) (i : ℕ) (text : List ℕ) → length xs ≤ i → text ++ lines_text (map line (drop i xs)) ≡ text
none_left line xs i text past = ap (λ ys. text ++ lines_text (map line ys)) (drop_all i xs past) ∙ append-nil text

-- the lines of one number more
pub numbers_more : (lines : ℕ → List (List ℕ)) (n : ℕ) (text more whole : List ℕ) → text ≡ whole ++ lines_text (flat_map lines (numbers_below n)) → more ≡ text ++ lines_text (lines n)
    → more ≡ whole ++ lines_text (flat_map lines (numbers_below (n + 1)))
numbers_more lines n text more whole so_far is =
    is
    ∙ ap (λ t. t ++ lines_text (lines n)) so_far
    ∙ append_assoc whole (lines_text (flat_map lines (numbers_below n))) (lines_text (lines n))
    ∙ ap (λ t. whole ++ t)
    (sym (lines_both (flat_map lines (numbers_below n)) (lines n))
    ∙ ap lines_text (ap (λ ls. flat_map lines (numbers_below n) ++ ls) (sym (append-nil (lines n))) ∙ sym (flat_map-append lines (numbers_below n) (n ∷ [])))
    ∙ ap (λ ns. lines_text (flat_map lines ns)) (sym (numbers_below_push n))
    ∙ ap (λ k. lines_text (flat_map lines (numbers_below k))) (let e : suc n ≡ n + 1 = omega arith in e))

-- a state's lines behind one another
pub state_whole : (names : Named) (site : BuiltSite) (s : State) (entries next : ℕ) (text headed told whole : List ℕ) → entries ≡ s.count → next ≡ s.fleet.next
    → headed ≡ text ++ lines_text (header_lines entries next) → told ≡ headed ++ lines_text (flat_map (robot_lines names site s) (numbers_below (length s.fleet.starts))) → whole ≡ told ++ lines_text (codes "end" ∷ [])
    → whole ≡ text ++ state_text names site s
unfolding state_text
state_whole names site s entries next text headed told whole entries_are next_is heads tells ends =
    let header = header_lines entries next in
    let robots = flat_map (robot_lines names site s) (numbers_below (length s.fleet.starts)) in
    let same : header ≡ header_lines s.count s.fleet.next = ap (λ n. header_lines n next) entries_are ∙ ap (header_lines s.count) next_is in
    ends
    ∙ ap (λ t. t ++ lines_text (codes "end" ∷ [])) (tells ∙ ap (λ t. t ++ lines_text robots) heads)
    ∙ append_assoc (text ++ lines_text header) (lines_text robots) (lines_text (codes "end" ∷ []))
    ∙ append_assoc text (lines_text header) (lines_text robots ++ lines_text (codes "end" ∷ []))
    ∙ ap (λ t. text ++ t)
    (ap (λ t. lines_text header ++ t) (sym (lines_both robots (codes "end" ∷ [])))
    ∙ sym (lines_both header (robots ++ codes "end" ∷ []))
    ∙ ap (λ h. lines_text (h ++ robots ++ codes "end" ∷ [])) same)
