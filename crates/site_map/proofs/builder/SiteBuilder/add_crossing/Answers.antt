use Rattle.std.proofs.Common.{◌≡◌, ℕ, ◌+◌, ◌<◌, true, cond, List, [], ◌∷◌, ◌++◌, length, map, get_or, take, drop, sym, ap, subst, ◌∙◌, arith}
use Rattle.std.specs.Result.{is_ok}
use Rattle.std.specs.FinSet as fin
use Rattle.std.proofs.lemmas.List.{length_push}
use Rattle.fleet_model.specs.Lists.{has_cell}
use Rattle.fleet_base.specs.declared.numbers.CellNo.{CellNo}
use Rattle.site_map.specs.declared.places.Places.{Places}
use Rattle.site_map.specs.declared.places.Places.TheVariants.{Free}
use Rattle.site_map.specs.Crossings.{BuiltCrossing, completed, crossing_claims}
use Rattle.site_map.specs.Built.{BuiltSite, crossings_with}
use Rattle.site_map.specs.Inside.{AreCells, AreNumbered, entered, IsKept, places_list}
use Rattle.site_map.proofs.BuilderLemmas.{crowded, kept_crossing, total_push}
use Rattle.site_map.proofs.CellLemmas.{All_has, written_back}
use Rattle.site_map.proofs.builder.SiteBuilder.add_crossing.Goals as goal

pub enter-requires-clause-room : goal.enter-requires-clause-room
enter-requires-clause-room c = λ k within has.
    let cell : CellNo = record { 0 = k } in
    let there : has_cell c.args.cells cell ≡ true = sym (c.requires.members cell) ∙ has in
    let few : crossings_with c.args.self.now.crossings cell < 2 = All_has (λ d. crossings_with c.args.self.now.crossings d < 2) c.args.cells cell c.requires.room there in
    let same : crossings_with c.self.inside.crossings.items cell ≡ crossings_with c.args.self.now.crossings cell = ap (λ (s : BuiltSite). crossings_with s.crossings cell) c.self.view_is in
    let known : k < length c.self.inside.links.items = omega (arith, ap length c.deref_mut.ensures.value, c.self.invariant.placed) in
    let count = crowded c.self.inside.links.items c.self.inside.link_count c.self.inside.places.items c.self.inside.crossings.items c.self.inside.areas.items c.self.inside.firsts.items c.self.inside.owners.items cell c.self.invariant known in
    subst (λ ps. length (places_list (get_or ps k Free)) < 2) (sym c.deref_mut.ensures.value) (omega (arith, count, few, same))

pub number_claims-requires-clause-owners_are_all : goal.number_claims-requires-clause-owners_are_all
number_claims-requires-clause-owners_are_all c =
    let ok : is_ok c.push.result ≡ true = c.push.ensures.succeeds (omega (arith, c.in_ok-reserve-3.ensures.ok)) in
    let ok3 : is_ok c.push-3.result ≡ true = c.push-3.ensures.succeeds (omega (arith, c.in_ok-reserve-2.ensures.ok)) in
    let owners : c.push-3.new.self.items ≡ c.self.inside.owners.items ++ 0 ∷ [] = c.push-3.ensures.items ∙ ap (λ b. cond b (c.reserve-2.new.self.items ++ 0 ∷ []) c.reserve-2.new.self.items) ok3 ∙ ap (λ l. l ++ 0 ∷ []) c.reserve-2.ensures.items in
    let crossings : c.push.new.self.items ≡ c.self.inside.crossings.items ++ record { cells = c.args.cells; flows = [] } ∷ [] = c.push.ensures.items ∙ ap (λ b. cond b (c.reserve-3.new.self.items ++ c.new-made.result ∷ []) c.reserve-3.new.self.items) ok ∙ ap (λ l. l ++ c.new-made.result ∷ []) c.reserve-3.ensures.items ∙ ap (λ x. c.self.inside.crossings.items ++ x ∷ []) c.new-made.ensures in
    ap length (c.deref_mut-3.ensures.value ∙ owners)
    ∙ length_push c.self.inside.owners.items 0
    ∙ ap (λ n. n + 1) c.self.invariant.numbered.owners_are_all
    ∙ sym (total_push c.self.inside.links.items c.self.inside.link_count c.self.inside.places.items c.self.inside.crossings.items c.self.inside.areas.items c.self.inside.firsts.items c.self.inside.owners.items c.args.cells)
    ∙ ap (λ xs. crossing_claims (map completed xs)) (sym (c.deref.ensures.value ∙ crossings))

pub invariant_of-self-2 : goal.invariant_of-self-2
invariant_of-self-2 c =
    let ok : is_ok c.push.result ≡ true = c.push.ensures.succeeds (omega (arith, c.in_ok-reserve-3.ensures.ok)) in
    let crossings : c.push.new.self.items ≡ c.self.inside.crossings.items ++ record { cells = c.args.cells; flows = [] } ∷ [] = c.push.ensures.items ∙ ap (λ b. cond b (c.reserve-3.new.self.items ++ c.new-made.result ∷ []) c.reserve-3.new.self.items) ok ∙ ap (λ l. l ++ c.new-made.result ∷ []) c.reserve-3.ensures.items ∙ ap (λ x. c.self.inside.crossings.items ++ x ∷ []) c.new-made.ensures in
    let n : ℕ = length c.self.inside.links.items in
    let owners_few : length c.self.inside.owners.items < 256 = omega (arith, c.requires.claims, ap (λ (s : BuiltSite). crossing_claims (map completed s.crossings)) c.self.view_is, c.self.invariant.numbered.owners_are_all) in
    let are : AreCells n c.args.cells = subst (λ m. AreCells m c.args.cells) (ap (λ (s : BuiltSite). s.cells) (sym c.self.view_is)) c.requires.cells in
    let same_long : length c.enter.new.places ≡ length c.self.inside.places.items = omega (arith, ap length c.deref_mut.ensures.value) in
    let firsts : List ℕ = take c.push-2.new.self.len (c.number_claims.new.firsts ++ drop (length c.number_claims.new.firsts) c.push-2.new.self.items) in
    let owners : List ℕ = take c.push-3.new.self.len (c.number_claims.new.owners ++ drop (length c.number_claims.new.owners) c.push-3.new.self.items) in
    let places_back = written_back c.self.inside.places.len c.enter.new.places (drop (length c.enter.new.places) c.self.inside.places.items) (omega (arith, same_long)) in
    let firsts_back : firsts ≡ c.number_claims.new.firsts = written_back c.push-2.new.self.len c.number_claims.new.firsts (drop (length c.number_claims.new.firsts) c.push-2.new.self.items) (omega arith) in
    let owners_back : owners ≡ c.number_claims.new.owners = written_back c.push-3.new.self.len c.number_claims.new.owners (drop (length c.number_claims.new.owners) c.push-3.new.self.items) (omega arith) in
    let long : c.len.result ≡ length c.self.inside.crossings.items = omega (arith, ap length c.reserve-3.ensures.items) in
    subst (λ ps. IsKept c.self.inside.links.items c.self.inside.link_count ps c.push.new.self.items c.self.inside.areas.items firsts owners) (sym places_back)
    (subst (λ fs. IsKept c.self.inside.links.items c.self.inside.link_count c.enter.new.places c.push.new.self.items c.self.inside.areas.items fs owners) (sym firsts_back)
    (subst (λ os. IsKept c.self.inside.links.items c.self.inside.link_count c.enter.new.places c.push.new.self.items c.self.inside.areas.items c.number_claims.new.firsts os) (sym owners_back)
    (kept_crossing c.self.inside.links.items c.self.inside.link_count c.self.inside.places.items c.self.inside.crossings.items c.self.inside.areas.items c.self.inside.firsts.items c.self.inside.owners.items
    c.enter.new.places c.push.new.self.items c.number_claims.new.firsts c.number_claims.new.owners c.args.cells c.args.members c.self.invariant owners_few are c.requires.members same_long
    (λ k within.
    c.enter.ensures k (omega (arith, ap length c.deref_mut.ensures.value))
    ∙ ap (λ m. entered (fin.contains c.args.members k) m (places_list (get_or c.deref_mut.result.now k Free))) long
    ∙ ap (λ (ps : List Places). entered (fin.contains c.args.members k) (length c.self.inside.crossings.items) (places_list (get_or ps k Free))) c.deref_mut.ensures.value)
    crossings
    (subst (λ (xs : List BuiltCrossing). AreNumbered (map completed xs) c.number_claims.new.firsts c.number_claims.new.owners) c.deref.ensures.value c.number_claims.ensures))))
