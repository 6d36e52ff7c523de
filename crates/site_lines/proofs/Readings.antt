-- A refusal of lines names the first bad line, or the end.
use Rattle.std.proofs.Common.{◌≡◌, ⊎_elim, inl, inr, ℕ, ◌+◌, List, [], ◌∷◌, Ok, Err, Result, refl, sym, ap, ◌∙◌, arith}
use Rattle.site_lines.specs.declared.fault.Code.{Code}
use Rattle.site_lines.specs.declared.fault.At.{At}
use Rattle.site_lines.specs.Readings.{onward, read_from, IsBadLine, IsBadEnd, IsFirstFault}

same_at : {T : Type 0} (a b : At) → (let r : Result T At = Err a in r ≡ Err b) → a ≡ b
same_at a b e = cc

-- a fault behind one line more
behind_line : {S : Type 0} (step : S → List ℕ → Result S Code) (n : ℕ) (s t : S) (line : List ℕ) (lines : List (List ℕ)) (at : At) → step s line ≡ Ok t → IsBadLine step (n + 1) t lines at → IsBadLine step n s (line ∷ lines) at
behind_line step n s t line lines at is later = record {
  front = line ∷ later.front;
  line = later.line;
  back = later.back;
  state = later.state;
  split = ap (λ ls. line ∷ ls) later.split;
  number = later.number ∙ omega arith;
  accepted = rw is later.accepted;
  refused = later.refused;
}

behind_end : {S T : Type 0} (step : S → List ℕ → Result S Code) (done : S → Result T Code) (n : ℕ) (s t : S) (line : List ℕ) (lines : List (List ℕ)) (at : At) → step s line ≡ Ok t
    → IsBadEnd step done (n + 1) t lines at → IsBadEnd step done n s (line ∷ lines) at
behind_end step done n s t line lines at is later = record {
  state = later.state;
  number = later.number ∙ omega arith;
  accepted = rw is later.accepted;
  refused = later.refused;
}

here : {S T : Type 0} (step : S → List ℕ → Result S Code) (done : S → Result T Code) (n : ℕ) (s : S) (line : List ℕ) (lines : List (List ℕ)) (at : At) (r : Result S Code) → step s line ≡ r
    → ((t : S) → read_from step done (n + 1) t lines ≡ Err at → IsFirstFault step done (n + 1) t lines at)
    → onward r n (λ t. read_from step done (n + 1) t lines) ≡ Err at → IsFirstFault step done n s (line ∷ lines) at
here step done n s line lines at (Ok t) is next e =
    ⊎_elim
    (λ (bad : IsBadLine step (n + 1) t lines at). inl (behind_line step n s t line lines at is bad))
    (λ (bad : IsBadEnd step done (n + 1) t lines at). inr (behind_end step done n s t line lines at is bad))
    (next t e)
here {S} {T} step done n s line lines at (Err code) is next e =
    let same = same_at {T = T} (record { line = n; code = code }) at e in
    inl (record {
      front = [];
      line = line;
      back = lines;
      state = s;
      split = refl;
      number = sym (ap (λ (a : At). a.line) same) ∙ omega arith;
      accepted = refl;
      refused = is ∙ ap (λ (a : At). Err a.code) same;
    })

at_end : {S T : Type 0} (step : S → List ℕ → Result S Code) (done : S → Result T Code) (n : ℕ) (s : S) (at : At) (r : Result T Code) → done s ≡ r → onward r n (λ t. Ok t) ≡ Err at → IsFirstFault step done n s [] at
at_end step done n s at (Ok t) is e = absurd (cc)
at_end {S} {T} step done n s at (Err code) is e =
    let same = same_at {T = T} (record { line = n; code = code }) at e in
    inr (record {
      state = s;
      number = sym (ap (λ (a : At). a.line) same) ∙ omega arith;
      accepted = refl;
      refused = is ∙ ap (λ (a : At). Err a.code) same;
    })

-- A refusal names the first bad line, with what its step says, or the end.
pub first_fault : {S T : Type 0} (step : S → List ℕ → Result S Code) (done : S → Result T Code) (n : ℕ) (s : S) (lines : List (List ℕ)) (at : At) → read_from step done n s lines ≡ Err at → IsFirstFault step done n s lines at
first_fault step done n s [] at e = at_end step done n s at (done s) refl e
first_fault step done n s (line ∷ lines) at e = here step done n s line lines at (step s line) refl (λ t h. first_fault step done (n + 1) t lines at h) e
