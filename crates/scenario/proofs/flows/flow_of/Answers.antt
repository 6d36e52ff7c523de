use Rattle.std.proofs.Common.{◌≡◌, ℕ, ◌+◌, ◌<◌, List, Some, length, take, get_or, ap, ◌∙◌, arith}
use Rattle.std.specs.Prelude.{slice_get}
use Rattle.std.proofs.lemmas.Option.{slice_get_within, get_or_from_slice_get}
use Rattle.fleet_base.specs.declared.numbers.ClaimNo.{ClaimNo}
use Rattle.fleet_model.specs.Sites.{footprint_of}
use Rattle.site_map.specs.Built.{crossings_with}
use Rattle.site_map.specs.Claims.{site_of}
use Rattle.scenario.proofs.Prints.{claim_at}
use Rattle.scenario.proofs.flows.flow_of.Goals as goal

pub overflow_add-place : goal.overflow_add-place
overflow_add-place c =
    let is = claim_at c.args.site.now c.args.crossing c.args.cell c.requires.cell c.requires.known c.requires.inside in
    let within : 1 + crossings_with (take c.args.crossing c.args.site.now.crossings) c.args.cell < length (footprint_of (site_of c.args.site.now) c.args.cell) = slice_get_within (footprint_of (site_of c.args.site.now) c.args.cell) _ _ is in
    omega (arith, within, c.crossings_before-place.ensures, c.footprint-claims.ensures.short, ap length c.footprint-claims.ensures.claims)

pub offset_bounds-list-place : goal.offset_bounds-list-place
offset_bounds-list-place c =
    let is = claim_at c.args.site.now c.args.crossing c.args.cell c.requires.cell c.requires.known c.requires.inside in
    let within : 1 + crossings_with (take c.args.crossing c.args.site.now.crossings) c.args.cell < length (footprint_of (site_of c.args.site.now) c.args.cell) = slice_get_within (footprint_of (site_of c.args.site.now) c.args.cell) _ _ is in
    omega (arith, within, c.crossings_before-place.ensures, c.footprint-claims.ensures.short, ap length c.footprint-claims.ensures.claims)

pub bounds-list-place : goal.bounds-list-place
bounds-list-place c =
    let is = claim_at c.args.site.now c.args.crossing c.args.cell c.requires.cell c.requires.known c.requires.inside in
    let within : 1 + crossings_with (take c.args.crossing c.args.site.now.crossings) c.args.cell < length (footprint_of (site_of c.args.site.now) c.args.cell) = slice_get_within (footprint_of (site_of c.args.site.now) c.args.cell) _ _ is in
    omega (arith, within, c.crossings_before-place.ensures, ap length (c.list.ensures.claims ∙ c.footprint-claims.ensures.claims))

-- the claim at the place, by its number
read : (claims whole : List ClaimNo) (place at claim : ℕ) → claims ≡ whole → place ≡ at → slice_get whole (1 + at) ≡ Some (record { 0 = claim }) → (get_or claims (1 + place) (record { 0 = 0 })).0 ≡ claim
read claims whole place at claim same place_is is =
    ap (λ (x : ClaimNo). x.0) (ap (λ cs. get_or cs (1 + place) (record { 0 = 0 })) same ∙ ap (λ n. get_or whole (1 + n) (record { 0 = 0 })) place_is ∙ get_or_from_slice_get whole (1 + at) (record { 0 = claim }) (record { 0 = 0 }) is)

pub overflow_sub-result : goal.overflow_sub-result
overflow_sub-result c =
    let is = claim_at c.args.site.now c.args.crossing c.args.cell c.requires.cell c.requires.known c.requires.inside in
    let number = read c.list.result.now (footprint_of (site_of c.args.site.now) c.args.cell) c.crossings_before-place.result (crossings_with (take c.args.crossing c.args.site.now.crossings) c.args.cell) _ (c.list.ensures.claims ∙ c.footprint-claims.ensures.claims) c.crossings_before-place.ensures is in
    omega (arith, number, c.requires.first)

pub returns : goal.returns
returns c =
    let is = claim_at c.args.site.now c.args.crossing c.args.cell c.requires.cell c.requires.known c.requires.inside in
    let number = read c.list.result.now (footprint_of (site_of c.args.site.now) c.args.cell) c.crossings_before-place.result (crossings_with (take c.args.crossing c.args.site.now.crossings) c.args.cell) _ (c.list.ensures.claims ∙ c.footprint-claims.ensures.claims) c.crossings_before-place.ensures is in
    omega (arith, number, c.requires.first)
