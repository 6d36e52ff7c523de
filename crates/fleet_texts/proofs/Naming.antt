-- What has no name is past the count of its kind.
use Rattle.std.proofs.Common.{◌≡◌, ℕ, ◌+◌, ◌≤◌, max, Bool, true, false, eqb, List, [], ◌∷◌, length, map, Some, None, refl, ap, ◌∙◌, arith}
use Rattle.std.specs.Prelude.{MatchBool}
use Rattle.std.specs.Option.{unwrap_or}
use Rattle.std.proofs.lemmas.Bool.{ne_eqb}
use Rattle.std.proofs.lemmas.List.{length-append, length-map}
use Rattle.std.proofs.lemmas.List.FromFn.{length-map-range_with_len, length-range_with_len}
use Rattle.std.proofs.lemmas.Option.{slice_get_past}
use Rattle.fleet_base.specs.declared.numbers.ClaimNo.{ClaimNo}
use Rattle.fleet_names.specs.declared.thing.Thing.{Thing}
use Rattle.fleet_names.specs.Things.{number_of, same_kind}
use Rattle.fleet_names.specs.Names.{Named, name_of, count_of, CountUp, AreDeclared}
use Rattle.fleet_names.proofs.Steps.{count_of-holds, count_of-fails}
use Rattle.fleet_base.specs.declared.numbers.CellNo.{CellNo}
use Rattle.fleet_model.specs.Lists.{numbers_below}
use Rattle.site_map.specs.declared.names.ClaimName.{ClaimName}
use Rattle.site_map.specs.declared.names.ClaimName.TheVariants.{Cell, Crossing}
use Rattle.site_map.specs.Cells.{cells_below}
use Rattle.site_map.specs.Crossings.{BuiltCrossing, crossing_claims}
use Rattle.site_map.specs.Built.{BuiltSite}
use Rattle.site_map.specs.Claims.{claim_total, flow_names, names_from, names_of}
use Rattle.site_map.proofs.CellLemmas.{to_cell}
use Rattle.fleet_texts.specs.Words.{name_text, claim_text, known_claim_text}

-- a thing past those of its kind has no name
past_here : (e : List ℕ × Thing) (es : Named) (thing : Thing) (n : ℕ) (b : Bool) → same_kind thing e.1 ≡ b → MatchBool b ((number_of e.1 ≡ n) × CountUp (same_kind thing) (n + 1) es) (CountUp (same_kind thing) n es) → n + count_of (same_kind thing) (e ∷ es) ≤ number_of thing
    → ((m : ℕ) → CountUp (same_kind thing) m es → m + count_of (same_kind thing) es ≤ number_of thing → name_of es thing ≡ None) → name_of (e ∷ es) thing ≡ None
past_here e es thing n true is kept past rest =
    let one = count_of-holds (same_kind thing) e es is in
    let first = kept.0 in
    let other : eqb (number_of thing) (number_of e.1) ≡ false = ne_eqb (number_of thing) (number_of e.1) (λ same. absurd (omega arith)) in
    rw (is, other) (rest (n + 1) kept.1 (omega arith))
past_here e es thing n false is kept past rest =
    let none = count_of-fails (same_kind thing) e es is in
    rw is (rest n kept (omega arith))

past_from : (es : Named) (thing : Thing) (n : ℕ) → CountUp (same_kind thing) n es → n + count_of (same_kind thing) es ≤ number_of thing → name_of es thing ≡ None
past_from [] thing n kept past = refl
past_from (e ∷ es) thing n kept past = past_here e es thing n (same_kind thing e.1) refl kept past (λ m up more. past_from es thing m up more)

pub no_name : (names : Named) (thing : Thing) → AreDeclared names → count_of (same_kind thing) names ≤ number_of thing → name_text names thing ≡ []
unfolding name_text
no_name names thing declared past = ap (λ name. unwrap_or name []) (past_from names thing 0 (declared.numbers thing) (omega arith))

-- a site has a name for each of its claims
length-cell_names : (n : ℕ) → length (map (λ c. Cell c) (cells_below n)) ≡ n
length-cell_names n = length-map (cells_below n) (λ c. Cell c) ∙ length-map-range_with_len to_cell 0 n

length-flow_names : (k : ℕ) (flows : List (List CellNo)) → length (flow_names k flows) ≡ max 1 (length flows)
length-flow_names k [] = refl
length-flow_names k (f ∷ fs) = length-map (numbers_below (length (f ∷ fs))) (λ j. Crossing k (Some j)) ∙ length-range_with_len 0 (length (f ∷ fs)) ∙ omega arith

length-names_from : (k : ℕ) (xs : List BuiltCrossing) → length (names_from k xs) ≡ crossing_claims xs
length-names_from k [] = refl
length-names_from k (x ∷ xs) = omega (arith, length-append {A = ClaimName}, length-flow_names k x.flows, length-names_from (k + 1) xs)

length-names_of : (site : BuiltSite) → length (names_of site) ≡ claim_total site
length-names_of site = omega (arith, length-append {A = ClaimName}, length-cell_names site.cells, length-names_from 0 site.crossings)

pub no_claim : (names : Named) (site : BuiltSite) (claim : ClaimNo) → claim_total site ≤ claim.0 → claim_text names site claim ≡ []
unfolding claim_text
no_claim names site claim past = ap (known_claim_text names) (slice_get_past (names_of site) claim.0 (omega (arith, length-names_of site)))
