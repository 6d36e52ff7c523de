-- What is taken of a source, and what is seen of it.
use Rattle.std.proofs.Common.{◌≡◌, ℕ, ◌+◌, ◌<◌, ◌≤◌, true, false, List, [], ◌++◌, length, Option, Some, None, refl, ap, ◌∙◌, length-append, arith, lt-ltb, le-ltb}
use Rattle.std.specs.Prelude.{nat_lt}
use Rattle.std.specs.Io.KnownBytes.{Consumes, IsAtEnd}
use Rattle.std.proofs.lemmas.List.{append-nil}
use Rattle.fleet_io.specs.Bytes.{TakesJust}
use Rattle.form_base.specs.Runs.{IsTaken}

-- nothing is taken where nothing is read
pub none_taken : (left : Option (List ℕ)) (bytes : List ℕ) → bytes ≡ [] → IsTaken false None left left bytes
none_taken (Some xs) bytes none = record { input = xs; is = refl; takes = refl; size = refl; sees = none }
none_taken None bytes none = record { input = []; is = tt; takes = tt; size = refl; sees = none }

-- all that was left
pub all_taken : (limit : ℕ) (old new : Option (List ℕ)) (bytes : List ℕ) → length bytes ≤ limit → Consumes old new bytes → IsAtEnd new → IsTaken false (Some limit) old new bytes
all_taken limit (Some xs) (Some ys) bytes len taken end =
    let whole : xs ≡ bytes = taken ∙ ap (λ zs. bytes ++ zs) end ∙ append-nil bytes in
    let small : nat_lt limit (length bytes) ≡ false = le-ltb _ _ len in
    record { input = bytes; is = whole; takes = rw small end; size = small; sees = refl }
all_taken limit None new bytes len taken end =
    let small : nat_lt limit (length bytes) ≡ false = le-ltb _ _ len in
    record { input = bytes; is = tt; takes = rw small end; size = small; sees = refl }
all_taken limit (Some xs) None bytes len taken end = absurd taken

-- more bytes than the limit
pub big_taken : (limit : ℕ) (old new : Option (List ℕ)) → TakesJust old new (limit + 1) → (seen : List ℕ) × IsTaken true (Some limit) old new seen
big_taken limit (Some xs) (Some ys) (bs, len, taken) =
    let long : limit < length xs = omega (arith, ap length taken, length-append bs ys) in
    let big : nat_lt limit (length xs) ≡ true = lt-ltb _ _ long in
    (xs, record { input = xs; is = refl; takes = rw big (bs, len, taken); size = big; sees = refl })
big_taken limit None new (bs, len, taken) =
    let big : nat_lt limit (length bs) ≡ true = lt-ltb _ _ (omega arith) in
    (bs, record { input = bs; is = tt; takes = rw big (bs, len, tt); size = big; sees = refl })
big_taken limit (Some xs) None (bs, len, taken) = absurd taken
