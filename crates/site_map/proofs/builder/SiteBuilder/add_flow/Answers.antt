use Rattle.std.proofs.Common.{◌≡◌, ℕ, ◌<◌, ◌≤◌, Bool, true, cond, not, ◌&&◌, ltb, List, [], ◌∷◌, ◌++◌, length, map, get_or, set, take, drop, sym, ap, subst, ◌∙◌, arith}
use Rattle.std.specs.FinSet as fin
use Rattle.fleet_base.specs.declared.numbers.CellNo.{CellNo}
use Rattle.site_map.specs.declared.places.Places.{Places}
use Rattle.site_map.specs.declared.places.Places.TheVariants.{Free}
use Rattle.site_map.specs.Crossings.{BuiltCrossing, completed, crossing_claims, in_flow, with_line}
use Rattle.site_map.specs.Built.{BuiltSite, crossing_at, no_crossing}
use Rattle.site_map.specs.Inside.{AreCells, AreNumbered, IsKept, marked, places_list}
use Rattle.std.proofs.lemmas.List.Elements.{All-get_or}
use Rattle.fleet_model.specs.Lists.{has_cell}
use Rattle.site_map.proofs.BuilderLemmas.{claim_count_within, kept_flow, total_flow}
use Rattle.site_map.proofs.CellLemmas.{read_at, written_back}
use Rattle.site_map.proofs.SiteLemmas.{flows_few}
use Rattle.site_map.proofs.builder.SiteBuilder.add_flow.Goals as goal

pub overflow_cast-number : goal.overflow_cast-number
overflow_cast-number c =
    let within : c.args.crossing < length c.self.inside.crossings.items = omega (arith, ap (λ (s : BuiltSite). length s.crossings) c.self.view_is, c.requires.known) in
    let x = read_at c.self.inside.crossings.items c.args.crossing c.index_mut-changed.result.now no_crossing within c.index_mut-changed.ensures.value in
    let y : BuiltCrossing = get_or c.self.inside.crossings.items c.args.crossing no_crossing in
    let some = (All-get_or (λ z. AreCells (length c.self.inside.links.items) z.cells) c.self.inside.crossings.items c.args.crossing no_crossing within c.self.invariant.crossed).some in
    let most = claim_count_within c.self.inside.links.items c.self.inside.link_count c.self.inside.places.items c.self.inside.crossings.items c.self.inside.areas.items c.self.inside.firsts.items c.self.inside.owners.items c.args.crossing within in
    let same = c.line_count-number.ensures ∙ ap (λ z. length z.flows) x in
    omega (arith, flows_few y some, most, same, c.self.invariant.few_claims)

pub number_claims-requires-clause-owners_are_all : goal.number_claims-requires-clause-owners_are_all
number_claims-requires-clause-owners_are_all c =
    let within : c.args.crossing < length c.self.inside.crossings.items = omega (arith, ap (λ (s : BuiltSite). length s.crossings) c.self.view_is, c.requires.known) in
    let x = read_at c.self.inside.crossings.items c.args.crossing c.index_mut-changed.result.now no_crossing within c.index_mut-changed.ensures.value in
    let k : ℕ = c.args.crossing in
    let more : Bool = ltb c.claim_count-before.result c.claim_count_with-after.result in
    let line : c.add_line.new.self ≡ with_line (get_or c.self.inside.crossings.items k no_crossing) c.args.line = c.in_ok-add_line.ensures.ok ∙ ap (λ z. with_line z c.args.line) x in
    ap length (c.deref_mut-3.ensures.value ∙ c.push_if.ensures ∙ ap (λ l. cond more (l ++ 0 ∷ []) l) c.reserve.ensures.items)
    ∙ total_flow c.self.inside.links.items c.self.inside.link_count c.self.inside.places.items c.self.inside.crossings.items c.self.inside.areas.items c.self.inside.firsts.items c.self.inside.owners.items
    k c.args.line c.index_mut-changed.result.now c.claim_count-before.result c.claim_count_with-after.result c.self.invariant within x c.claim_count-before.ensures (c.claim_count_with-after.ensures c.args.line c.requires.members)
    ∙ ap (λ z. crossing_claims (map completed (set c.self.inside.crossings.items k z))) (sym line)
    ∙ ap (λ (xs : List BuiltCrossing). crossing_claims (map completed xs)) (sym c.deref.ensures.value)

pub number_claims-requires-clause-few : goal.number_claims-requires-clause-few
number_claims-requires-clause-few c =
    let within : c.args.crossing < length c.self.inside.crossings.items = omega (arith, ap (λ (s : BuiltSite). length s.crossings) c.self.view_is, c.requires.known) in
    let x = read_at c.self.inside.crossings.items c.args.crossing c.index_mut-changed.result.now no_crossing within c.index_mut-changed.ensures.value in
    let k : ℕ = c.args.crossing in
    let more : Bool = ltb c.claim_count-before.result c.claim_count_with-after.result in
    let count = ap length (c.deref_mut-3.ensures.value ∙ c.push_if.ensures ∙ ap (λ l. cond more (l ++ 0 ∷ []) l) c.reserve.ensures.items)
    ∙ total_flow c.self.inside.links.items c.self.inside.link_count c.self.inside.places.items c.self.inside.crossings.items c.self.inside.areas.items c.self.inside.firsts.items c.self.inside.owners.items
    k c.args.line c.index_mut-changed.result.now c.claim_count-before.result c.claim_count_with-after.result c.self.invariant within x c.claim_count-before.ensures (c.claim_count_with-after.ensures c.args.line c.requires.members) in
    let few = subst (λ (s : BuiltSite). crossing_claims (map completed (set s.crossings k (with_line (crossing_at s k) c.args.line))) ≤ 256) (sym c.self.view_is) c.requires.claims in
    omega (arith, count, few)

pub invariant_of-self-2 : goal.invariant_of-self-2
invariant_of-self-2 c =
    let within : c.args.crossing < length c.self.inside.crossings.items = omega (arith, ap (λ (s : BuiltSite). length s.crossings) c.self.view_is, c.requires.known) in
    let x = read_at c.self.inside.crossings.items c.args.crossing c.index_mut-changed.result.now no_crossing within c.index_mut-changed.ensures.value in
    let k : ℕ = c.args.crossing in
    let y : BuiltCrossing = get_or c.self.inside.crossings.items k no_crossing in
    let cs : List BuiltCrossing = set c.self.inside.crossings.items k c.add_line.new.self in
    let line : c.add_line.new.self ≡ with_line y c.args.line = c.in_ok-add_line.ensures.ok ∙ ap (λ z. with_line z c.args.line) x in
    let crossings : cs ≡ set c.self.inside.crossings.items k (with_line y c.args.line) = ap (set c.self.inside.crossings.items k) line in
    let same_long : length c.mark.new.places ≡ length c.self.inside.places.items = omega (arith, ap length c.deref_mut.ensures.value) in
    let firsts : List ℕ = take c.self.inside.firsts.len (c.number_claims.new.firsts ++ drop (length c.number_claims.new.firsts) c.self.inside.firsts.items) in
    let owners : List ℕ = take c.push_if.new.owners.len (c.number_claims.new.owners ++ drop (length c.number_claims.new.owners) c.push_if.new.owners.items) in
    let places_back = written_back c.self.inside.places.len c.mark.new.places (drop (length c.mark.new.places) c.self.inside.places.items) (omega (arith, same_long)) in
    let firsts_back : firsts ≡ c.number_claims.new.firsts = written_back c.self.inside.firsts.len c.number_claims.new.firsts (drop (length c.number_claims.new.firsts) c.self.inside.firsts.items) (omega arith) in
    let owners_back : owners ≡ c.number_claims.new.owners = written_back c.push_if.new.owners.len c.number_claims.new.owners (drop (length c.number_claims.new.owners) c.push_if.new.owners.items) (omega arith) in
    let numbered : AreNumbered (map completed cs) c.number_claims.new.firsts c.number_claims.new.owners = subst (λ (xs : List BuiltCrossing). AreNumbered (map completed xs) c.number_claims.new.firsts c.number_claims.new.owners) c.deref.ensures.value c.number_claims.ensures in
    let few = subst (λ (s : BuiltSite). crossing_claims (map completed (set s.crossings k (with_line (crossing_at s k) c.args.line))) ≤ 256) (sym c.self.view_is) c.requires.claims in
    let owners_few : length c.number_claims.new.owners ≤ 256 = omega (arith, numbered.owners_are_all, ap (λ (xs : List BuiltCrossing). crossing_claims (map completed xs)) crossings, few) in
    let number : c.line_count-number.result ≡ length y.flows = c.line_count-number.ensures ∙ ap (λ z. length z.flows) x in
    subst (λ ps. IsKept c.self.inside.links.items c.self.inside.link_count ps cs c.self.inside.areas.items firsts owners) (sym places_back)
    (subst (λ fs. IsKept c.self.inside.links.items c.self.inside.link_count c.mark.new.places cs c.self.inside.areas.items fs owners) (sym firsts_back)
    (subst (λ os. IsKept c.self.inside.links.items c.self.inside.link_count c.mark.new.places cs c.self.inside.areas.items c.number_claims.new.firsts os) (sym owners_back)
    (kept_flow c.self.inside.links.items c.self.inside.link_count c.self.inside.places.items c.self.inside.crossings.items c.self.inside.areas.items c.self.inside.firsts.items c.self.inside.owners.items
    c.mark.new.places cs c.number_claims.new.firsts c.number_claims.new.owners k c.args.line c.args.members.now c.self.invariant within owners_few (subst (λ m. AreCells m c.args.line) (ap (λ (s : BuiltSite). s.cells) (sym c.self.view_is)) c.requires.line) c.requires.members
    (subst (λ (s : BuiltSite). (d : CellNo) → has_cell c.args.line d ≡ true → (has_cell (crossing_at s k).cells d && not (in_flow (crossing_at s k).flows d)) ≡ true) (sym c.self.view_is) c.requires.free)
    same_long
    (λ j inside.
    c.mark.ensures j (omega (arith, ap length c.deref_mut.ensures.value))
    ∙ ap (λ m. marked (fin.contains c.args.members.now j) k m (places_list (get_or c.deref_mut.result.now j Free))) number
    ∙ ap (λ (ps : List Places). marked (fin.contains c.args.members.now j) k (length y.flows) (places_list (get_or ps j Free))) c.deref_mut.ensures.value)
    crossings numbered)))
