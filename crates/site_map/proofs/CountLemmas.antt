-- The claims of footprints are claims of the site.
use Rattle.std.proofs.Common.{◌<◌, inl, inr, List, [], ◌∷◌, arith, subst, sym}
use Rattle.std.specs.List.{All}
use Rattle.std.proofs.lemmas.Bool.{cases_lt}
use Rattle.std.proofs.lemmas.List.Elements.{All-head, All-tail}
use Rattle.fleet_base.specs.declared.numbers.ClaimNo.{ClaimNo}
use Rattle.fleet_model.specs.Lists.{In, here, there}
use Rattle.fleet_model.specs.Tables.{IsCounted}
use Rattle.site_map.specs.Built.{BuiltSite, completed_site}
use Rattle.site_map.specs.Claims.{claim_total, footprint_in, site_of}
use Rattle.site_map.proofs.SiteLemmas.{footprint_at, footprint_known, footprint_past, length-groups}

All_In : {A : Type 0} (P : A → Type 0) (xs : List A) (x : A) → All P xs → In x xs → P x
All_In P [] x all m = elim m [ ]
All_In P (y ∷ ys) x all (here e) = subst P (sym e) (All-head P y ys all)
All_In P (y ∷ ys) x all (there m) = All_In P ys x (All-tail P y ys all) m

pub is_counted : (built : BuiltSite) → IsCounted (site_of (completed_site built))
is_counted built = record {
  counted = λ a c m. elim (cases_lt a.0 built.cells) [
    | inl within ↦
        let known = All_In (λ (d : ClaimNo). d.0 < claim_total (completed_site built)) (footprint_in (completed_site built) a) c (footprint_known built a within) (subst (In c) (footprint_at (completed_site built) a within) m) in
        omega (arith, known, length-groups (completed_site built))
    | inr past ↦ elim (subst (In c) (footprint_past (completed_site built) a past) m) [ ]
  ];
}
