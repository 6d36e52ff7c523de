use Rattle.std.proofs.Common.{◌≡◌, ℕ, List, Bool, true, not, ◌||◌, leb, ltb, ◌++◌, ◌∷◌, [], length, map, get_or, Some, None, sym, ap, subst, ◌∙◌, arith}
use Rattle.std.specs.List.{list_any}
use Rattle.std.proofs.lemmas.Bool.{not_from_true, le-leb, lt-leb}
use Rattle.fleet_base.specs.declared.numbers.CellNo.{CellNo}
use Rattle.site_map.specs.declared.places.Places.{Places}
use Rattle.site_map.specs.declared.places.Places.TheVariants.{Free}
use Rattle.site_map.specs.declared.refused.BuildRefused.TheVariants.{Full, TooManyCrossings}
use Rattle.site_map.specs.Cells.{are_known, has_repeat, in_order}
use Rattle.site_map.specs.Crossings.{BuiltCrossing, completed, crossing_claims}
use Rattle.site_map.specs.Built.{crossings_with}
use Rattle.site_map.specs.Inside.{places_list}
use Rattle.site_map.specs.Refusals.{crossing_cause}
use Rattle.site_map.proofs.BuilderLemmas.{any_crowded, crossing_full}
use Rattle.site_map.proofs.CauseLemmas.{crossing_is_full, crossing_is_crowded, crossing_is_fine}
use Rattle.site_map.proofs.CellLemmas.{known_All}
use Rattle.site_map.proofs.builder.SiteBuilder.checked_crossing.Goals as goal

abbrev full : List BuiltCrossing → ℕ → List CellNo → Bool
full crossings n cells = leb 256 (length crossings) || ltb 256 (crossing_claims (map completed (crossings ++ record { cells = in_order n cells; flows = [] } ∷ [])))

abbrev crowded : List BuiltCrossing → List CellNo → Bool
crowded crossings cells = list_any (λ c. leb 2 (crossings_with crossings c)) cells

pub returns-then-len-clause-refused : goal.returns-then-len-clause-refused
returns-then-len-clause-refused c =
    let n : ℕ = length c.self.inside.links.items in
    let count : c.len.result ≡ n = omega arith in
    let known : are_known n c.args.cells.now ≡ true = subst (λ m. are_known m c.args.cells.now ≡ true) count (sym c.are_known.ensures ∙ c.if-not-are_known.false) in
    subst (λ s. crossing_cause s c.args.cells.now ≡ Some Full) c.self.view_is
    (crossing_is_full (not (are_known n c.args.cells.now)) (has_repeat c.args.cells.now) (full c.self.inside.crossings.items n c.args.cells.now) (crowded c.self.inside.crossings.items c.args.cells.now)
    (not_from_true (are_known n c.args.cells.now) known) c.in-Some.ensures.distinct
    (crossing_full c.self.inside.links.items c.self.inside.link_count c.self.inside.places.items c.self.inside.crossings.items c.self.inside.areas.items c.self.inside.firsts.items c.self.inside.owners.items (in_order n c.args.cells.now) c.self.invariant ∙ le-leb 256 (length c.self.inside.owners.items) (omega arith)))

pub returns-then-is_crowded-clause-refused : goal.returns-then-is_crowded-clause-refused
returns-then-is_crowded-clause-refused c =
    let n : ℕ = length c.self.inside.links.items in
    let count : c.len.result ≡ n = omega arith in
    let known : are_known n c.args.cells.now ≡ true = subst (λ m. are_known m c.args.cells.now ≡ true) count (sym c.are_known.ensures ∙ c.if-not-are_known.false) in
    subst (λ s. crossing_cause s c.args.cells.now ≡ Some TooManyCrossings) c.self.view_is
    (crossing_is_crowded (not (are_known n c.args.cells.now)) (has_repeat c.args.cells.now) (full c.self.inside.crossings.items n c.args.cells.now) (crowded c.self.inside.crossings.items c.args.cells.now)
    (not_from_true (are_known n c.args.cells.now) known) c.in-Some.ensures.distinct
    (crossing_full c.self.inside.links.items c.self.inside.link_count c.self.inside.places.items c.self.inside.crossings.items c.self.inside.areas.items c.self.inside.firsts.items c.self.inside.owners.items (in_order n c.args.cells.now) c.self.invariant ∙ lt-leb 256 (length c.self.inside.owners.items) (omega arith))
    (sym (any_crowded c.self.inside.links.items c.self.inside.link_count c.self.inside.places.items c.self.inside.crossings.items c.self.inside.areas.items c.self.inside.firsts.items c.self.inside.owners.items c.args.cells.now c.self.invariant (known_All n n c.args.cells.now known (omega arith)))
    ∙ ap (λ (ps : List Places). list_any (λ (d : CellNo). leb 2 (length (places_list (get_or ps d.0 Free)))) c.args.cells.now) (sym c.deref.ensures.value)
    ∙ sym c.is_crowded.ensures ∙ c.if-is_crowded.true))

pub returns-clause-accepted : goal.returns-clause-accepted
returns-clause-accepted c =
    let n : ℕ = length c.self.inside.links.items in
    let count : c.len.result ≡ n = omega arith in
    let known : are_known n c.args.cells.now ≡ true = subst (λ m. are_known m c.args.cells.now ≡ true) count (sym c.are_known.ensures ∙ c.if-not-are_known.false) in
    subst (λ s. crossing_cause s c.args.cells.now ≡ None) c.self.view_is
    (crossing_is_fine (not (are_known n c.args.cells.now)) (has_repeat c.args.cells.now) (full c.self.inside.crossings.items n c.args.cells.now) (crowded c.self.inside.crossings.items c.args.cells.now)
    (not_from_true (are_known n c.args.cells.now) known) c.in-Some.ensures.distinct
    (crossing_full c.self.inside.links.items c.self.inside.link_count c.self.inside.places.items c.self.inside.crossings.items c.self.inside.areas.items c.self.inside.firsts.items c.self.inside.owners.items (in_order n c.args.cells.now) c.self.invariant ∙ lt-leb 256 (length c.self.inside.owners.items) (omega arith))
    (sym (any_crowded c.self.inside.links.items c.self.inside.link_count c.self.inside.places.items c.self.inside.crossings.items c.self.inside.areas.items c.self.inside.firsts.items c.self.inside.owners.items c.args.cells.now c.self.invariant (known_All n n c.args.cells.now known (omega arith)))
    ∙ ap (λ (ps : List Places). list_any (λ (d : CellNo). leb 2 (length (places_list (get_or ps d.0 Free)))) c.args.cells.now) (sym c.deref.ensures.value)
    ∙ sym c.is_crowded.ensures ∙ c.if-is_crowded.false))
