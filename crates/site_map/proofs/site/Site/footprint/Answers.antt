use Rattle.std.proofs.Common.{◌≡◌, ◌≢◌, ◌<◌, ◌∷◌, [], List, arith, ap, sym, subst, ◌∙◌}
use Rattle.std.specs.List.{All, AllPairs}
use Rattle.fleet_base.specs.declared.numbers.ClaimNo.{ClaimNo}
use Rattle.fleet_base.specs.Lists.{RiseFrom}
use Rattle.fleet_model.specs.Sites.{footprint_of}
use Rattle.site_map.specs.Built.{BuiltSite, completed_site}
use Rattle.site_map.specs.Claims.{claim_total, footprint_in, group_at, site_of}
use Rattle.site_map.specs.Inside.{claim_at}
use Rattle.site_map.proofs.SiteLemmas.{footprint_apart, footprint_at, footprint_in_rises, footprint_known}
use Rattle.site_map.proofs.site.Site.footprint.Goals as goal

pub claims_of-requires-in-Two-clause-rise : goal.claims_of-requires-in-Two-clause-rise
claims_of-requires-in-Two-clause-rise c =
    let within : c.args.cell.0 < c.self.inside.built.cells = omega (arith, ap (λ (s : BuiltSite). s.cells) c.self.view_is, c.requires) in
    let list : footprint_in (completed_site c.self.inside.built) c.args.cell ≡ record { 0 = c.args.cell.0 } ∷ c.claim_at-in-Two.result ∷ c.claim_at-in-Two-2.result ∷ [] = c.in-Two.ensures.claims ∙ ap (λ n. record { 0 = c.args.cell.0 } ∷ record { 0 = n } ∷ record { 0 = claim_at c.self.inside.built c.in-Two.other } ∷ []) (sym c.claim_at-in-Two.ensures) ∙ ap (λ n. record { 0 = c.args.cell.0 } ∷ c.claim_at-in-Two.result ∷ record { 0 = n } ∷ []) (sym c.claim_at-in-Two-2.ensures) in
    subst (RiseFrom 0) list (footprint_in_rises c.self.inside.built c.args.cell within)

pub returns-in-Free-clause-claims : goal.returns-in-Free-clause-claims
returns-in-Free-clause-claims c =
    let within : c.args.cell.0 < c.self.inside.built.cells = omega (arith, ap (λ (s : BuiltSite). s.cells) c.self.view_is, c.requires) in
    let list : footprint_in (completed_site c.self.inside.built) c.args.cell ≡ record { 0 = c.args.cell.0 } ∷ [] = c.in-Free.ensures.claims in
    c.claims_of.ensures ∙ sym list ∙ sym (footprint_at (completed_site c.self.inside.built) c.args.cell within)
    ∙ ap (λ (s : BuiltSite). footprint_of (site_of s) c.args.cell) c.self.view_is

pub returns-in-One-clause-claims : goal.returns-in-One-clause-claims
returns-in-One-clause-claims c =
    let within : c.args.cell.0 < c.self.inside.built.cells = omega (arith, ap (λ (s : BuiltSite). s.cells) c.self.view_is, c.requires) in
    let list : footprint_in (completed_site c.self.inside.built) c.args.cell ≡ record { 0 = c.args.cell.0 } ∷ c.claim_at.result ∷ [] = c.in-One.ensures.claims ∙ ap (λ n. record { 0 = c.args.cell.0 } ∷ record { 0 = n } ∷ []) (sym c.claim_at.ensures) in
    c.claims_of-in-One.ensures ∙ sym list ∙ sym (footprint_at (completed_site c.self.inside.built) c.args.cell within)
    ∙ ap (λ (s : BuiltSite). footprint_of (site_of s) c.args.cell) c.self.view_is

pub returns-in-One-clause-apart : goal.returns-in-One-clause-apart
returns-in-One-clause-apart c =
    let within : c.args.cell.0 < c.self.inside.built.cells = omega (arith, ap (λ (s : BuiltSite). s.cells) c.self.view_is, c.requires) in
    let list : footprint_in (completed_site c.self.inside.built) c.args.cell ≡ record { 0 = c.args.cell.0 } ∷ c.claim_at.result ∷ [] = c.in-One.ensures.claims ∙ ap (λ n. record { 0 = c.args.cell.0 } ∷ record { 0 = n } ∷ []) (sym c.claim_at.ensures) in
    subst (λ (s : BuiltSite). AllPairs (λ (d e : ClaimNo). group_at (site_of s) d ≢ group_at (site_of s) e) c.claims_of-in-One.result) c.self.view_is
    (subst (λ (ds : List ClaimNo). AllPairs (λ (d e : ClaimNo). group_at (site_of (completed_site c.self.inside.built)) d ≢ group_at (site_of (completed_site c.self.inside.built)) e) ds) (sym (c.claims_of-in-One.ensures ∙ sym list)) (footprint_apart c.self.inside.built c.args.cell within))

pub returns-in-One-clause-known : goal.returns-in-One-clause-known
returns-in-One-clause-known c =
    let within : c.args.cell.0 < c.self.inside.built.cells = omega (arith, ap (λ (s : BuiltSite). s.cells) c.self.view_is, c.requires) in
    let list : footprint_in (completed_site c.self.inside.built) c.args.cell ≡ record { 0 = c.args.cell.0 } ∷ c.claim_at.result ∷ [] = c.in-One.ensures.claims ∙ ap (λ n. record { 0 = c.args.cell.0 } ∷ record { 0 = n } ∷ []) (sym c.claim_at.ensures) in
    subst (λ (s : BuiltSite). All (λ (d : ClaimNo). d.0 < claim_total s) c.claims_of-in-One.result) c.self.view_is
    (subst (λ (ds : List ClaimNo). All (λ (d : ClaimNo). d.0 < claim_total (completed_site c.self.inside.built)) ds) (sym (c.claims_of-in-One.ensures ∙ sym list)) (footprint_known c.self.inside.built c.args.cell within))

pub returns-in-Two-clause-claims : goal.returns-in-Two-clause-claims
returns-in-Two-clause-claims c =
    let within : c.args.cell.0 < c.self.inside.built.cells = omega (arith, ap (λ (s : BuiltSite). s.cells) c.self.view_is, c.requires) in
    let list : footprint_in (completed_site c.self.inside.built) c.args.cell ≡ record { 0 = c.args.cell.0 } ∷ c.claim_at-in-Two.result ∷ c.claim_at-in-Two-2.result ∷ [] = c.in-Two.ensures.claims ∙ ap (λ n. record { 0 = c.args.cell.0 } ∷ record { 0 = n } ∷ record { 0 = claim_at c.self.inside.built c.in-Two.other } ∷ []) (sym c.claim_at-in-Two.ensures) ∙ ap (λ n. record { 0 = c.args.cell.0 } ∷ c.claim_at-in-Two.result ∷ record { 0 = n } ∷ []) (sym c.claim_at-in-Two-2.ensures) in
    c.claims_of-in-Two.ensures ∙ sym list ∙ sym (footprint_at (completed_site c.self.inside.built) c.args.cell within)
    ∙ ap (λ (s : BuiltSite). footprint_of (site_of s) c.args.cell) c.self.view_is

pub returns-in-Two-clause-apart : goal.returns-in-Two-clause-apart
returns-in-Two-clause-apart c =
    let within : c.args.cell.0 < c.self.inside.built.cells = omega (arith, ap (λ (s : BuiltSite). s.cells) c.self.view_is, c.requires) in
    let list : footprint_in (completed_site c.self.inside.built) c.args.cell ≡ record { 0 = c.args.cell.0 } ∷ c.claim_at-in-Two.result ∷ c.claim_at-in-Two-2.result ∷ [] = c.in-Two.ensures.claims ∙ ap (λ n. record { 0 = c.args.cell.0 } ∷ record { 0 = n } ∷ record { 0 = claim_at c.self.inside.built c.in-Two.other } ∷ []) (sym c.claim_at-in-Two.ensures) ∙ ap (λ n. record { 0 = c.args.cell.0 } ∷ c.claim_at-in-Two.result ∷ record { 0 = n } ∷ []) (sym c.claim_at-in-Two-2.ensures) in
    subst (λ (s : BuiltSite). AllPairs (λ (d e : ClaimNo). group_at (site_of s) d ≢ group_at (site_of s) e) c.claims_of-in-Two.result) c.self.view_is
    (subst (λ (ds : List ClaimNo). AllPairs (λ (d e : ClaimNo). group_at (site_of (completed_site c.self.inside.built)) d ≢ group_at (site_of (completed_site c.self.inside.built)) e) ds) (sym (c.claims_of-in-Two.ensures ∙ sym list)) (footprint_apart c.self.inside.built c.args.cell within))

pub returns-in-Two-clause-known : goal.returns-in-Two-clause-known
returns-in-Two-clause-known c =
    let within : c.args.cell.0 < c.self.inside.built.cells = omega (arith, ap (λ (s : BuiltSite). s.cells) c.self.view_is, c.requires) in
    let list : footprint_in (completed_site c.self.inside.built) c.args.cell ≡ record { 0 = c.args.cell.0 } ∷ c.claim_at-in-Two.result ∷ c.claim_at-in-Two-2.result ∷ [] = c.in-Two.ensures.claims ∙ ap (λ n. record { 0 = c.args.cell.0 } ∷ record { 0 = n } ∷ record { 0 = claim_at c.self.inside.built c.in-Two.other } ∷ []) (sym c.claim_at-in-Two.ensures) ∙ ap (λ n. record { 0 = c.args.cell.0 } ∷ c.claim_at-in-Two.result ∷ record { 0 = n } ∷ []) (sym c.claim_at-in-Two-2.ensures) in
    subst (λ (s : BuiltSite). All (λ (d : ClaimNo). d.0 < claim_total s) c.claims_of-in-Two.result) c.self.view_is
    (subst (λ (ds : List ClaimNo). All (λ (d : ClaimNo). d.0 < claim_total (completed_site c.self.inside.built)) ds) (sym (c.claims_of-in-Two.ensures ∙ sym list)) (footprint_known c.self.inside.built c.args.cell within))
