use Rattle.std.proofs.Common.{◌≡◌, ◌<◌, ℕ, List, length, map, get_or, sym, ap, ◌∙◌, arith}
use Rattle.std.proofs.lemmas.List.{get_or-map, length-map}
use Rattle.site_map.specs.Built.{no_crossing}
use Rattle.site_map.specs.Crossings.{BuiltCrossing, claim_count_of, completed}
use Rattle.site_map.proofs.ClaimLemmas.{crossing_claims_front, length-crossings, next_fits, numbered_more, numbered_none, numbered_all}
use Rattle.site_map.proofs.numbering.number_claims.Goals as goal

-- the claims of the crossing that is read
count_is : (xs : List BuiltCrossing) (i count : ℕ) (x : BuiltCrossing) → i < length xs → x ≡ get_or xs i x → count ≡ claim_count_of (completed x) → count ≡ claim_count_of (get_or (map completed xs) i no_crossing)
count_is xs i count x within at is = is ∙ ap (λ y. claim_count_of (completed y)) at ∙ sym (ap claim_count_of (get_or-map completed xs i x no_crossing within))

pub overflow_cast-firsts : goal.overflow_cast-firsts
overflow_cast-firsts c =
    let front = crossing_claims_front (map completed c.args.crossings.now) c.loop-number.number in
    omega (arith, front, c.loop-number.invariant.next_is)

pub overflow_cast-number : goal.overflow_cast-number
overflow_cast-number c =
    let few = length-crossings (map completed c.args.crossings.now) in
    let same = length-map c.args.crossings.now completed in
    omega (arith, few, same)

pub fill-requires : goal.fill-requires
fill-requires c =
    let within : c.loop-number.number < length (map completed c.args.crossings.now) = omega (arith, length-map c.args.crossings.now completed) in
    let fits = next_fits (map completed c.args.crossings.now) c.loop-number.next c.loop-number.number c.claim_count-count.result within c.loop-number.invariant.next_is (count_is c.args.crossings.now c.loop-number.number c.claim_count-count.result c.index-crossings-number.result c.loop-number-test.true c.index-crossings-number.is c.claim_count-count.ensures) in
    omega (arith, fits)

pub overflow_add-next : goal.overflow_add-next
overflow_add-next c =
    let within : c.loop-number.number < length (map completed c.args.crossings.now) = omega (arith, length-map c.args.crossings.now completed) in
    let fits = next_fits (map completed c.args.crossings.now) c.loop-number.next c.loop-number.number c.claim_count-count.result within c.loop-number.invariant.next_is (count_is c.args.crossings.now c.loop-number.number c.claim_count-count.result c.index-crossings-number.result c.loop-number-test.true c.index-crossings-number.is c.claim_count-count.ensures) in
    omega (arith, fits)

pub loop-number-init : goal.loop-number-init
loop-number-init c = numbered_none (map completed c.args.crossings.now) c.args.firsts.now c.args.owners.now

pub loop-number-preserved : goal.loop-number-preserved
loop-number-preserved c =
    let within : c.loop-number.number < length (map completed c.args.crossings.now) = omega (arith, length-map c.args.crossings.now completed) in
    numbered_more (map completed c.args.crossings.now) c.loop-number.firsts c.loop-number.owners c.fill.new.owners c.loop-number.next c.loop-number.number c.claim_count-count.result within (omega (arith, length-map c.args.crossings.now completed)) (count_is c.args.crossings.now c.loop-number.number c.claim_count-count.result c.index-crossings-number.result c.loop-number-test.true c.index-crossings-number.is c.claim_count-count.ensures) c.fill.ensures.filled c.fill.ensures.others c.loop-number.invariant

pub returns : goal.returns
returns c = numbered_all (map completed c.args.crossings.now) c.loop-number.firsts c.loop-number.owners c.loop-number.next c.loop-number.number (omega (arith, length-map c.args.crossings.now completed)) (omega (arith, length-map c.args.crossings.now completed)) (omega arith) c.loop-number.invariant
