-- Ends that are told one robot after the other.
use Rattle.std.proofs.Common.{◌≡◌, ℕ, ◌+◌, ◌<◌, ◌≤◌, List, [], ◌∷◌, ◌++◌, length, map, get_or, set, take, replicate, sym, ap, ◌∙◌, refl, arith}
use Rattle.std.proofs.lemmas.List.{get_or-set_other, length-replicate, length-set, map-append, take_all, take_more, take_more_set}
use Rattle.fleet_base.specs.declared.numbers.CellNo.{CellNo}
use Rattle.fleet_base.specs.declared.numbers.ClaimNo.{ClaimNo}
use Rattle.fleet_model.specs.Sites.{Site, footprint_of}
use Rattle.deferral.specs.Backlogs.{Backlog}
use Rattle.deferral.proofs.Blanks.{get_or-blank}

-- so many robots' ends have the footprints of their starts, and the others none
pub record AreTold (site : Site) (starts : List CellNo) (old new : Backlog) (count : ℕ) : Type 0 where
  pub groups : new.groups ≡ old.groups
  pub pending : new.pending ≡ old.pending
  pub ends : length new.ends ≡ length starts
  pub told : take count new.ends ≡ map (footprint_of site) (take count starts)
  pub rest : (k : ℕ) → count ≤ k → get_or new.ends k [] ≡ []

pub none_told : (site : Site) (starts : List CellNo) (b : Backlog) → b.ends ≡ replicate (length starts) [] → AreTold site starts b b 0
none_told site starts b is = record {
  groups = refl;
  pending = refl;
  ends = ap length is ∙ length-replicate (length starts) [];
  told = refl;
  rest = λ k above. ap (λ es. get_or es k []) is ∙ get_or-blank [] (length starts) k;
}

pub one_told : (site : Site) (starts : List CellNo) (old new : Backlog) (count : ℕ) (d : CellNo) → count < length starts → AreTold site starts old new count → AreTold site starts old (record new { ends = set new.ends count (footprint_of site (get_or starts count d)) }) (count + 1)
one_told site starts old new count d within told =
    let claims : List ClaimNo = footprint_of site (get_or starts count d) in
    record {
      groups = told.groups;
      pending = told.pending;
      ends = length-set new.ends count claims ∙ told.ends;
      told =
          take_more_set new.ends count claims (omega (arith, told.ends))
          ∙ ap (λ es. es ++ claims ∷ []) told.told
          ∙ sym (ap (map (footprint_of site)) (take_more starts count d within) ∙ map-append (footprint_of site) (take count starts) (get_or starts count d ∷ []));
      rest = λ k above. get_or-set_other new.ends count k claims [] (λ e. omega (arith, e)) ∙ told.rest k (omega arith);
    }

pub all_told : (site : Site) (starts : List CellNo) (old new : Backlog) (count : ℕ) → length starts ≤ count → AreTold site starts old new count → new ≡ record old { ends = map (footprint_of site) starts }
all_told site starts old new count past told =
    let ends : new.ends ≡ map (footprint_of site) starts = sym (take_all count new.ends (omega (arith, told.ends))) ∙ told.told ∙ ap (map (footprint_of site)) (take_all count starts past) in
    λ i. record { groups = told.groups i; pending = told.pending i; ends = ends i }
