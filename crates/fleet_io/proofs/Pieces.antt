-- Reads one after the other, into the room behind the bytes that came before.
use Rattle.std.proofs.Common.{◌≡◌, ℕ, ◌+◌, ◌≤◌, List, ◌++◌, length, take, Option, Some, None, Result, Ok, Err, OnErr, sym, ap, ◌∙◌, arith, append_assoc}
use Rattle.std.proofs.lemmas.List.{take-take, take-append-le, length-take, length-take-le, length-append}
use Rattle.std.proofs.Math.Seq.{take-append-add}
use Rattle.std.specs.Io.KnownBytes.{Consumes, Keeps}

-- one read takes xs, and the next ys
pub consumes_more : (a b c : Option (List ℕ)) (xs ys : List ℕ) → Consumes a b xs → Consumes b c ys → Consumes a c (xs ++ ys)
consumes_more (Some x) (Some y) (Some z) xs ys first then = first ∙ ap (λ ts. xs ++ ts) then ∙ sym (append_assoc xs ys z)
consumes_more (Some x) (Some y) None xs ys first then = absurd then
consumes_more (Some x) None c xs ys first then = absurd first
consumes_more None b c xs ys first then = tt

-- reads take xs, and a read that fails takes nothing
pub consumes_same : (a b c : Option (List ℕ)) (xs : List ℕ) → Consumes a b xs → Keeps b c → Consumes a c xs
consumes_same (Some x) (Some y) (Some z) xs first then = first ∙ ap (λ ts. xs ++ ts) (sym then)
consumes_same (Some x) (Some y) None xs first then = absurd then
consumes_same (Some x) None c xs first then = absurd first
consumes_same None b c xs first then = tt

-- more room behind the first bytes leaves them as they are
pub first_stay : (items now grown zeros : List ℕ) (filled room : ℕ) → now ≡ grown → grown ≡ take (filled + room) items ++ zeros → filled ≤ length items → take filled now ≡ take filled items
first_stay items now grown zeros filled room same is held =
    let enough : filled ≤ length (take (filled + room) items) = simp length-take (omega arith) in
    ap (λ ts. take filled ts) (same ∙ is) ∙ take-append-le filled (take (filled + room) items) zeros enough ∙ take-take filled (filled + room) items (omega arith)

-- the first bytes of a buffer, after a read put count bytes of part behind them
pub first_more : (items now part post tail : List ℕ) (filled count len : ℕ) → take filled now ≡ take filled items → filled ≤ length items → filled + count ≤ len → count ≤ length part → take (filled + count) (take len (take filled now ++ (part ++ post) ++ tail)) ≡ take filled items ++ take count part
first_more items now part post tail filled count len same held fits got =
    let n : length (take filled items) ≡ filled = length-take-le filled items held in
    let behind : count ≤ length (part ++ post) = omega (arith, length-append part post) in
    let front = take filled items in
    rw same (take-take (filled + count) len (front ++ (part ++ post) ++ tail) fits
    ∙ ap (λ ts. take (filled + count) ts) (append_assoc front (part ++ post) tail)
    ∙ ap (λ k. take (k + count) (front ++ ((part ++ post) ++ tail))) (sym n)
    ∙ take-append-add front ((part ++ post) ++ tail) count
    ∙ ap (λ ts. front ++ ts) (take-append-le count (part ++ post) tail behind ∙ take-append-le count part post got))

-- what holds in any case holds at an error
pub at_error : {T E : Type 0} (r : Result T E) (P : Type 0) → P → OnErr r P
at_error (Ok x) P p = tt
at_error (Err e) P p = p
