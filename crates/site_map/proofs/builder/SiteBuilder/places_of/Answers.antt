use Rattle.std.proofs.Common.{◌≡◌, ◌+◌, ◌<◌, ◌≤◌, ◌∷◌, ℕ, length, map, get_or, sym, ap, subst, ◌∙◌, arith}
use Rattle.std.specs.List.{All}
use Rattle.std.specs.Option.{unwrap_or}
use Rattle.std.proofs.lemmas.List.Elements.{All-weaker}
use Rattle.site_map.specs.declared.places.Place.{Place}
use Rattle.site_map.specs.declared.places.Places.TheVariants.{Free}
use Rattle.site_map.specs.Built.{BuiltSite, completed_site, no_crossing}
use Rattle.site_map.specs.Claims.{footprint_in}
use Rattle.site_map.specs.Inside.{claim_at, IsPlace, places_from, places_list}
use Rattle.site_map.proofs.CellLemmas.{read_at}
use Rattle.site_map.proofs.SiteLemmas.{footprint_by_places, places_known}
use Rattle.site_map.proofs.builder.SiteBuilder.places_of.Goals as goal

pub returns-clause-claims : goal.returns-clause-claims
returns-clause-claims c =
    let known : c.args.cell.0 < length c.self.inside.links.items = omega (arith, ap (λ (s : BuiltSite). s.cells) c.self.view_is, c.requires) in
    let here = read_at c.self.inside.places.items c.args.cell.0 c.index.result.now Free (omega (arith, known, c.self.invariant.placed)) c.index.ensures in
    subst (λ (s : BuiltSite). footprint_in (completed_site s) c.args.cell ≡ record { 0 = c.args.cell.0 } ∷ map (λ (p : Place). record { 0 = claim_at s p }) (places_list c.index.result.now)) c.self.view_is
    (footprint_by_places c.self.inside.links.items c.self.inside.link_count c.self.inside.places.items c.self.inside.crossings.items c.self.inside.areas.items c.self.inside.firsts.items c.self.inside.owners.items c.args.cell c.index.result.now c.self.invariant known here)

pub returns-clause-known : goal.returns-clause-known
returns-clause-known c =
    let known : c.args.cell.0 < length c.self.inside.links.items = omega (arith, ap (λ (s : BuiltSite). s.cells) c.self.view_is, c.requires) in
    let here = read_at c.self.inside.places.items c.args.cell.0 c.index.result.now Free (omega (arith, known, c.self.invariant.placed)) c.index.ensures in
    let here_site : BuiltSite = record { cells = length c.self.inside.links.items; crossings = c.self.inside.crossings.items; areas = c.self.inside.areas.items; links = c.self.inside.links.items } in
    let last : ℕ → ℕ = λ k. length (get_or c.self.inside.crossings.items k no_crossing).flows in
    let all = places_known last 0 c.self.inside.crossings.items c.args.cell (λ i within. ap last (let e : 0 + i ≡ i = omega arith in e)) in
    subst (λ (s : BuiltSite). All (IsPlace s) (places_list c.index.result.now)) c.self.view_is
    (subst (All (IsPlace here_site)) (sym (ap places_list here ∙ c.self.invariant.found c.args.cell known))
    (All-weaker (λ (p : Place). (p.crossing < 0 + length c.self.inside.crossings.items) × (unwrap_or p.line (last p.crossing) ≤ last p.crossing)) (IsPlace here_site)
    (λ p h. record { known = (let below = h.0 in omega arith); line = h.1 }) (places_from 0 c.self.inside.crossings.items c.args.cell) all))
