-- What a source has left and a sink holds, where they tell it.
use Rattle.std.specs.Prelude.{◌≡◌, ℕ, ◌≤◌, List, ◌++◌, length, take, Some, IfSome, IsSomeAnd, MatchResult, Result}
use Rattle.std.specs.declared.option.Option.{Option}
use Rattle.std.specs.Io.KnownBytes.{Consumes}

-- the source lost some first bytes of those that it had left, at most so many
abbrev pub TakesAtMost : Option (List ℕ) → Option (List ℕ) → ℕ → Type 0
TakesAtMost old new most = (bs : List ℕ) × (length bs ≤ most) × Consumes old new bs

-- the source lost its first bytes, exactly so many
abbrev pub TakesJust : Option (List ℕ) → Option (List ℕ) → ℕ → Type 0
TakesJust old new count = (bs : List ℕ) × (length bs ≡ count) × Consumes old new bs

-- where the sink tells its bytes now, it told them before, and they have grown by bs
abbrev pub Puts : Option (List ℕ) → Option (List ℕ) → List ℕ → Type 0
Puts old new bs = IfSome new (λ ys. IsSomeAnd old (λ xs. ys ≡ xs ++ bs))

-- where the sink tells its bytes now, it told the same before
abbrev pub Stays : Option (List ℕ) → Option (List ℕ) → Type 0
Stays old new = IfSome new (λ ys. old ≡ Some ys)

-- a write put the n bytes that it took behind those written at `Ok(n)`, and nothing at `Err`
abbrev pub WritePuts : {E : Type 0} → Option (List ℕ) → Option (List ℕ) → Result ℕ E → List ℕ → Type 0
WritePuts old new r piece = MatchResult r (λ n. Puts old new (take n piece)) (λ _. Stays old new)

-- some first bytes of the text went out, maybe none or all
abbrev pub PutsPrefix : Option (List ℕ) → Option (List ℕ) → List ℕ → Type 0
PutsPrefix old new text = (n : ℕ) × (n ≤ length text) × Puts old new (take n text)
