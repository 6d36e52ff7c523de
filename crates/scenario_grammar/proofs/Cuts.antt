-- Where a text is cut behind one of its lines.
use Rattle.std.proofs.Common.{◌≡◌, ⊎_elim, inl, inr, ◌⊎◌, ℕ, suc, ◌+◌, Bool, true, false, cond, List, [], ◌∷◌, ◌++◌, length, refl, sym, ap, subst, ◌∙◌, arith}
use Rattle.std.specs.List.{onto_first}
use Rattle.std.proofs.lemmas.Bool.{cases_Bool, eqb-true}
use Rattle.std.proofs.lemmas.List.{append-nil}
use Rattle.site_lines.specs.Lines.{is_feed, lines_of}
use Rattle.scenario_reader.specs.Reading.{bytes_of_lines}
use Rattle.scenario_grammar.specs.Grammar.{EndsInFeed}

-- the front of a text with these lines, of whole lines
pub record Cut (text : List ℕ) (before : List (List ℕ)) (last : List ℕ) : Type 0 where
  pub front : List ℕ
  pub rest : List ℕ
  pub split : text ≡ front ++ rest
  pub lines : lines_of front ≡ before ++ last ∷ []
  pub whole : (rest ≡ []) ⊎ EndsInFeed front
  pub used : bytes_of_lines (suc (length before)) text ≡ length front

-- lines of a text that begins with a line feed, and with another byte
fed_lines : (b : ℕ) (bs : List ℕ) → is_feed b ≡ true → lines_of (b ∷ bs) ≡ [] ∷ lines_of bs
fed_lines b bs fed = ap (λ (t : Bool). cond t ([] ∷ lines_of bs) (onto_first b (lines_of bs))) fed

more_lines : (b : ℕ) (bs : List ℕ) → is_feed b ≡ false → lines_of (b ∷ bs) ≡ onto_first b (lines_of bs)
more_lines b bs other = ap (λ (t : Bool). cond t ([] ∷ lines_of bs) (onto_first b (lines_of bs))) other

fed_bytes : (b : ℕ) (bs : List ℕ) (n : ℕ) → is_feed b ≡ true → bytes_of_lines (suc n) (b ∷ bs) ≡ bytes_of_lines n bs + 1
fed_bytes b bs n fed = ap (λ (t : Bool). cond t (bytes_of_lines n bs) (bytes_of_lines (suc n) bs) + 1) fed

more_bytes : (b : ℕ) (bs : List ℕ) (n : ℕ) → is_feed b ≡ false → bytes_of_lines (suc n) (b ∷ bs) ≡ bytes_of_lines (suc n) bs + 1
more_bytes b bs n other = ap (λ (t : Bool). cond t (bytes_of_lines n bs) (bytes_of_lines (suc n) bs) + 1) other

-- a text with a byte has a line
some_line : (b : ℕ) (bs : List ℕ) → (line : List ℕ) × (lines : List (List ℕ)) × (lines_of (b ∷ bs) ≡ line ∷ lines)
some_line b bs = ⊎_elim
    (λ (fed : is_feed b ≡ true). ([], lines_of bs, fed_lines b bs fed))
    (λ (other : is_feed b ≡ false). let made = onto (lines_of bs) in (made.0, made.1, more_lines b bs other ∙ made.2))
    (cases_Bool (is_feed b))
  where
    onto : (ls : List (List ℕ)) → (line : List ℕ) × (lines : List (List ℕ)) × (onto_first b ls ≡ line ∷ lines)
    onto [] = (b ∷ [], [], refl)
    onto (l ∷ ls) = (b ∷ l, ls, refl)

-- one byte more in front of a whole front
also_fed : (b : ℕ) (front rest : List ℕ) → (rest ≡ []) ⊎ EndsInFeed front → (rest ≡ []) ⊎ EndsInFeed (b ∷ front)
also_fed b front rest whole = ⊎_elim
    (λ (none : rest ≡ []). inl none)
    (λ (fed : EndsInFeed front). inr (b ∷ fed.0, ap (λ (xs : List ℕ). b ∷ xs) fed.1))
    whole

-- lists that are the same have the same first element and the same others
pub same_head : (l x : List ℕ) (ls xs : List (List ℕ)) → l ∷ ls ≡ x ∷ xs → (l ≡ x) × (ls ≡ xs)
same_head l x ls xs is = (cc, cc)

cut_feed : (b : ℕ) (bs : List ℕ) → is_feed b ≡ true → Cut (b ∷ bs) [] []
cut_feed b bs fed = record {
  front = b ∷ [];
  rest = bs;
  split = refl;
  lines = fed_lines b [] fed;
  whole = inr ([], ap (λ (x : ℕ). x ∷ []) (eqb-true b 10 fed));
  used = fed_bytes b bs 0 fed ∙ omega arith;
}

cut_behind : (b : ℕ) (bs : List ℕ) (before : List (List ℕ)) (last : List ℕ) → is_feed b ≡ true → Cut bs before last → Cut (b ∷ bs) ([] ∷ before) last
cut_behind b bs before last fed cut = record {
  front = b ∷ cut.front;
  rest = cut.rest;
  split = ap (λ (xs : List ℕ). b ∷ xs) cut.split;
  lines = fed_lines b cut.front fed ∙ ap (λ (ls : List (List ℕ)). [] ∷ ls) cut.lines;
  whole = also_fed b cut.front cut.rest cut.whole;
  used = fed_bytes b bs (suc (length before)) fed ∙ ap (λ (n : ℕ). n + 1) cut.used ∙ omega arith;
}

-- in the first line
cut_last : (b : ℕ) (bs last : List ℕ) → is_feed b ≡ false → Cut bs [] last → Cut (b ∷ bs) [] (b ∷ last)
cut_last b bs last other cut = record {
  front = b ∷ cut.front;
  rest = cut.rest;
  split = ap (λ (xs : List ℕ). b ∷ xs) cut.split;
  lines = more_lines b cut.front other ∙ ap (onto_first b) cut.lines;
  whole = also_fed b cut.front cut.rest cut.whole;
  used = more_bytes b bs 0 other ∙ ap (λ (n : ℕ). n + 1) cut.used ∙ omega arith;
}

cut_later : (b : ℕ) (bs first : List ℕ) (before : List (List ℕ)) (last : List ℕ) → is_feed b ≡ false → Cut bs (first ∷ before) last → Cut (b ∷ bs) ((b ∷ first) ∷ before) last
cut_later b bs first before last other cut = record {
  front = b ∷ cut.front;
  rest = cut.rest;
  split = ap (λ (xs : List ℕ). b ∷ xs) cut.split;
  lines = more_lines b cut.front other ∙ ap (onto_first b) cut.lines;
  whole = also_fed b cut.front cut.rest cut.whole;
  used = more_bytes b bs (suc (length before)) other ∙ ap (λ (n : ℕ). n + 1) cut.used ∙ omega arith;
}

cut_alone : (b : ℕ) → is_feed b ≡ false → Cut (b ∷ []) [] (b ∷ [])
cut_alone b other = record { front = b ∷ []; rest = []; split = refl; lines = more_lines b [] other; whole = inl refl; used = more_bytes b [] 0 other ∙ omega arith }

-- a first line that grows by a byte
grown : (b : ℕ) (bs l : List ℕ) (ls before : List (List ℕ)) (last : List ℕ) (behind : List (List ℕ)) → is_feed b ≡ false
    → ((before : List (List ℕ)) (last : List ℕ) → l ∷ ls ≡ before ++ last ∷ behind → Cut bs before last) → (b ∷ l) ∷ ls ≡ before ++ last ∷ behind → Cut (b ∷ bs) before last
grown b bs l ls [] last behind other cut is =
    let same = same_head (b ∷ l) last ls behind is in
    subst (Cut (b ∷ bs) []) same.0 (cut_last b bs l other (cut [] l (ap (λ (xs : List (List ℕ)). l ∷ xs) same.1)))
grown b bs l ls (first ∷ before) last behind other cut is =
    let same = same_head (b ∷ l) first ls (before ++ last ∷ behind) is in
    subst (λ (x : List ℕ). Cut (b ∷ bs) (x ∷ before) last) same.0 (cut_later b bs l before last other (cut (l ∷ before) last (ap (λ (xs : List (List ℕ)). l ∷ xs) same.1)))

alone : (b : ℕ) (before : List (List ℕ)) (last : List ℕ) (behind : List (List ℕ)) → is_feed b ≡ false → (b ∷ []) ∷ [] ≡ before ++ last ∷ behind → Cut (b ∷ []) before last
alone b [] last behind other is = let same = same_head (b ∷ []) last [] behind is in subst (Cut (b ∷ []) []) same.0 (cut_alone b other)
alone b (first ∷ before) last behind other is = absurd (none before (same_head (b ∷ []) first [] (before ++ last ∷ behind) is).1)
  where
    none : (xs : List (List ℕ)) → [] ≡ xs ++ last ∷ behind → ⊥
    none [] e = absurd (cc)
    none (x ∷ xs) e = absurd (cc)

after_feed : (b : ℕ) (bs : List ℕ) (before : List (List ℕ)) (last : List ℕ) (behind : List (List ℕ)) → is_feed b ≡ true
    → ((before : List (List ℕ)) → lines_of bs ≡ before ++ last ∷ behind → Cut bs before last) → [] ∷ lines_of bs ≡ before ++ last ∷ behind → Cut (b ∷ bs) before last
after_feed b bs [] last behind fed cut is = let same = same_head [] last (lines_of bs) behind is in subst (Cut (b ∷ bs) []) same.0 (cut_feed b bs fed)
after_feed b bs (first ∷ before) last behind fed cut is =
    let same = same_head [] first (lines_of bs) (before ++ last ∷ behind) is in
    subst (λ (x : List ℕ). Cut (b ∷ bs) (x ∷ before) last) same.0 (cut_behind b bs before last fed (cut before same.1))

-- a text can be cut behind each of its lines
pub cut_at : (text : List ℕ) (before : List (List ℕ)) (last : List ℕ) (behind : List (List ℕ)) → lines_of text ≡ before ++ last ∷ behind → Cut text before last
cut_at [] [] last behind is = absurd (cc)
cut_at [] (first ∷ before) last behind is = absurd (cc)
cut_at (b ∷ []) before last behind is = ⊎_elim
    (λ (fed : is_feed b ≡ true). after_feed b [] before last behind fed (λ more e. cut_at [] more last behind e) (sym (fed_lines b [] fed) ∙ is))
    (λ (other : is_feed b ≡ false). alone b before last behind other (sym (more_lines b [] other) ∙ is))
    (cases_Bool (is_feed b))
cut_at (b ∷ c ∷ cs) before last behind is = ⊎_elim
    (λ (fed : is_feed b ≡ true). after_feed b (c ∷ cs) before last behind fed (λ more e. cut_at (c ∷ cs) more last behind e) (sym (fed_lines b (c ∷ cs) fed) ∙ is))
    (λ (other : is_feed b ≡ false).
    let some = some_line c cs in
    grown b (c ∷ cs) some.0 some.1 before last behind other (λ more end e. cut_at (c ∷ cs) more end behind (some.2 ∙ e)) (sym (more_lines b (c ∷ cs) other ∙ ap (onto_first b) some.2) ∙ is))
    (cases_Bool (is_feed b))

-- lines in front of others
onto_front : (b : ℕ) (l : List ℕ) (ls more : List (List ℕ)) (xs : List (List ℕ)) → xs ≡ l ∷ ls → onto_first b (xs ++ more) ≡ onto_first b xs ++ more
onto_front b l ls more xs is = ap (λ (x : List (List ℕ)). onto_first b (x ++ more)) is ∙ sym (ap (λ (x : List (List ℕ)). onto_first b x ++ more) is)

with_feed : (line : List ℕ) → (l : List ℕ) × (ls : List (List ℕ)) × (lines_of (line ++ 10 ∷ []) ≡ l ∷ ls)
with_feed [] = some_line 10 []
with_feed (b ∷ bs) = some_line b (bs ++ 10 ∷ [])

fed_joined : (line behind : List ℕ) → lines_of ((line ++ 10 ∷ []) ++ behind) ≡ lines_of (line ++ 10 ∷ []) ++ lines_of behind
fed_joined [] behind = refl
fed_joined (b ∷ line) behind =
    let later = fed_joined line behind in
    ⊎_elim
    (λ (fed : is_feed b ≡ true).
    fed_lines b ((line ++ 10 ∷ []) ++ behind) fed ∙ ap (λ (ls : List (List ℕ)). [] ∷ ls) later ∙ sym (ap (λ (ls : List (List ℕ)). ls ++ lines_of behind) (fed_lines b (line ++ 10 ∷ []) fed)))
    (λ (other : is_feed b ≡ false).
    let some = with_feed line in
    more_lines b ((line ++ 10 ∷ []) ++ behind) other ∙ ap (onto_first b) later ∙ onto_front b some.0 some.1 (lines_of behind) (lines_of (line ++ 10 ∷ [])) some.2 ∙ sym (ap (λ (ls : List (List ℕ)). ls ++ lines_of behind) (more_lines b (line ++ 10 ∷ []) other)))
    (cases_Bool (is_feed b))

-- the lines of a whole front come first
pub joined_lines : (front behind : List ℕ) → (behind ≡ []) ⊎ EndsInFeed front → lines_of (front ++ behind) ≡ lines_of front ++ lines_of behind
joined_lines front behind whole = ⊎_elim
    (λ (none : behind ≡ []). ap (λ (xs : List ℕ). lines_of (front ++ xs)) none ∙ ap lines_of (append-nil front) ∙ sym (ap (λ (xs : List ℕ). lines_of front ++ lines_of xs) none ∙ append-nil (lines_of front)))
    (λ (fed : EndsInFeed front). ap (λ (xs : List ℕ). lines_of (xs ++ behind)) fed.1 ∙ fed_joined fed.0 behind ∙ sym (ap (λ (xs : List ℕ). lines_of xs ++ lines_of behind) fed.1))
    whole

-- one byte more in front of lines and of bytes
step_bytes : (b : ℕ) (xs ys l : List ℕ) (ls : List (List ℕ)) → lines_of xs ≡ l ∷ ls → bytes_of_lines (length (lines_of (b ∷ xs))) (b ∷ ys) ≡ bytes_of_lines (length (lines_of xs)) ys + 1
step_bytes b xs ys l ls is = ⊎_elim
    (λ (fed : is_feed b ≡ true). ap (λ (zs : List (List ℕ)). bytes_of_lines (length zs) (b ∷ ys)) (fed_lines b xs fed) ∙ fed_bytes b ys (length (lines_of xs)) fed)
    (λ (other : is_feed b ≡ false).
    ap (λ (zs : List (List ℕ)). bytes_of_lines (length zs) (b ∷ ys)) (more_lines b xs other ∙ ap (onto_first b) is) ∙ more_bytes b ys (length ls) other ∙ sym (ap (λ (zs : List (List ℕ)). bytes_of_lines (length zs) ys + 1) is))
    (cases_Bool (is_feed b))

one_byte : (b : ℕ) → bytes_of_lines (length (lines_of (b ∷ []))) (b ∷ []) ≡ 1
one_byte b = ⊎_elim
    (λ (fed : is_feed b ≡ true). ap (λ (zs : List (List ℕ)). bytes_of_lines (length zs) (b ∷ [])) (fed_lines b [] fed) ∙ fed_bytes b [] 0 fed)
    (λ (other : is_feed b ≡ false). ap (λ (zs : List (List ℕ)). bytes_of_lines (length zs) (b ∷ [])) (more_lines b [] other) ∙ more_bytes b [] 0 other)
    (cases_Bool (is_feed b))

-- the bytes of all lines
all_bytes : (text : List ℕ) → bytes_of_lines (length (lines_of text)) text ≡ length text
all_bytes [] = refl
all_bytes (b ∷ []) = one_byte b
all_bytes (b ∷ c ∷ cs) =
    let some = some_line c cs in
    step_bytes b (c ∷ cs) (c ∷ cs) some.0 some.1 some.2 ∙ ap (λ (n : ℕ). n + 1) (all_bytes (c ∷ cs)) ∙ omega arith

fed_bytes_of : (line behind : List ℕ) → bytes_of_lines (length (lines_of (line ++ 10 ∷ []))) ((line ++ 10 ∷ []) ++ behind) ≡ length (line ++ 10 ∷ [])
fed_bytes_of [] behind = fed_bytes 10 behind 0 refl
fed_bytes_of (b ∷ line) behind =
    let some = with_feed line in
    step_bytes b (line ++ 10 ∷ []) ((line ++ 10 ∷ []) ++ behind) some.0 some.1 some.2 ∙ ap (λ (n : ℕ). n + 1) (fed_bytes_of line behind) ∙ omega arith

-- a whole front takes all its bytes
pub joined_bytes : (front behind : List ℕ) → (behind ≡ []) ⊎ EndsInFeed front → bytes_of_lines (length (lines_of front)) (front ++ behind) ≡ length front
joined_bytes front behind whole = ⊎_elim
    (λ (none : behind ≡ []). ap (λ (xs : List ℕ). bytes_of_lines (length (lines_of front)) (front ++ xs)) none ∙ ap (bytes_of_lines (length (lines_of front))) (append-nil front) ∙ all_bytes front)
    (λ (fed : EndsInFeed front). ap (λ (xs : List ℕ). bytes_of_lines (length (lines_of xs)) (xs ++ behind)) fed.1 ∙ fed_bytes_of fed.0 behind ∙ sym (ap length fed.1))
    whole
