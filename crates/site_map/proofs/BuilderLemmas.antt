-- What each call of the builder leaves is kept as a site is.
use Rattle.std.proofs.Common.{◌≡◌, ℕ, zero, suc, ◌+◌, ◌<◌, ◌≤◌, true, false, cond, not, ◌&&◌, ◌||◌, eqb, leb, ltb, inl, inr, List, [], ◌∷◌, ◌++◌, length, map, get_or, set, Option, refl, sym, ap, subst, ◌∙◌, arith}
use Rattle.std.proofs.Math.ListN.{get_or-append}
use Rattle.std.specs.List.{list_any, All}
use Rattle.std.specs.Option.{unwrap_or}
use Rattle.std.specs.FinSet as set
use Rattle.std.specs.Ordering.{nat_cmp}
use Rattle.std.proofs.lemmas.Bool.{cases_Bool, cases_eq, cases_lt, ne_eqb, and_parts, not-true, or_from, or_parts, or_right, lt-leb, le-leb, lt-ltb, le-ltb}
use Rattle.std.proofs.lemmas.List.{map-append, length-map, length_push, length-set, get_or-map, get_or-set_other, get_or-set_same}
use Rattle.std.proofs.lemmas.List.Folds.{list_any_none}
use Rattle.std.proofs.lemmas.List.Quantifiers.{all_pairs_push}
use Rattle.std.proofs.lemmas.List.Elements.{All-push, All-nil, All-set, All-weaker, All-get_or}
use Rattle.fleet_model.specs.Lists.{has_cell}
use Rattle.fleet_base.specs.declared.numbers.CellNo.{CellNo}
use Rattle.fleet_base.specs.declared.numbers.Link.{Link}
use Rattle.fleet_base.specs.declared.limits.TheConstants.{MAX_COST}
use Rattle.site_map.specs.declared.places.Places.{Places}
use Rattle.site_map.specs.declared.places.Places.TheVariants.{Free}
use Rattle.site_map.specs.Cells.{with_one_more}
use Rattle.site_map.specs.Crossings.{BuiltCrossing, claim_count_of, completed, crossing_claims, in_flow, IsFlow, with_line}
use Rattle.site_map.specs.Built.{crossings_with, link_total, no_crossing}
use Rattle.site_map.specs.Inside.{AreCells, AreLines, AreLinks, AreNumbered, entered, IsKept, marked, places_from, places_list}
use Rattle.site_map.proofs.CellLemmas.{has_each, list_any_agree_in, read_at}
use Rattle.site_map.proofs.ClaimLemmas.{crossing_claims_front, crossing_claims_more, crossing_claims-append, crossing_claims-set, length-crossings}
use Rattle.site_map.proofs.CrossingLemmas.{claims_step}
use Rattle.site_map.proofs.LinkLemmas.{LinksRise-with_one_more, All-with_one_more, length-with_one_more}
use Rattle.site_map.proofs.SiteLemmas.{flows_few}
use Rattle.site_map.proofs.PlaceLemmas.{length-places, places_none, places_push, places_same, places_marked}

-- what names cells of a site names some of a site with one cell more
pub AreCells-grown : (n : ℕ) (cells : List CellNo) → AreCells n cells → AreCells (n + 1) cells
AreCells-grown n cells are = record {
  rise = are.rise;
  known = All-weaker (λ c. c.0 < n) (λ c. c.0 < n + 1) (λ c h. omega arith) cells are.known;
  some = are.some;
}

pub AreLinks-grown : (n : ℕ) (links : List Link) → AreLinks n links → AreLinks (n + 1) links
AreLinks-grown n links are = record {
  rise = are.rise;
  known = All-weaker (λ l. l.to.0 < n) (λ l. l.to.0 < n + 1) (λ l h. omega arith) links are.known;
  costs = are.costs;
}

pub AreLinks-none : (n : ℕ) → AreLinks n []
AreLinks-none n = record { rise = tt; known = All-nil (λ l. l.to.0 < n); costs = All-nil (λ l. (1 ≤ l.cost) × (l.cost ≤ MAX_COST)) }

-- a cell that the site lacks is none of its cells
pub missing : (n : ℕ) (cells : List CellNo) (c : CellNo) → AreCells n cells → n ≤ c.0 → has_cell cells c ≡ false
missing n cells c are past =
    list_any_none (λ d. eqb d.0 c.0) cells
    (All-weaker (λ d. d.0 < n) (λ d. eqb d.0 c.0 ≡ false) (λ d h. ne_eqb d.0 c.0 (omega arith)) cells are.known)

-- behind the last cell stand no links
pub get_or_blank : (rows : List (List Link)) (c : ℕ) → get_or (rows ++ [] ∷ []) c [] ≡ get_or rows c []
get_or_blank [] zero = refl
get_or_blank [] (suc c) = refl
get_or_blank (row ∷ rows) zero = refl
get_or_blank (row ∷ rows) (suc c) = get_or_blank rows c

-- a cell in no flow isn't in the k-th
pub flow_lacks : (flows : List (List CellNo)) (c : CellNo) (k : ℕ) (d : List CellNo) → k < length flows → in_flow flows c ≡ false → has_cell (get_or flows k d) c ≡ false
flow_lacks [] c k d within out = absurd (omega arith)
flow_lacks (flow ∷ flows) c zero d within out = (or_parts (has_cell flow c) (in_flow flows c) out).0
flow_lacks (flow ∷ flows) c (suc k) d within out = flow_lacks flows c k d (omega arith) (or_parts (has_cell flow c) (in_flow flows c) out).1

-- no lines, and lines of free cells, are flows that are apart
pub AreLines-none : (cells : List CellNo) → AreLines (record { cells = cells; flows = [] })
AreLines-none cells = record { flows = All-nil (IsFlow cells); apart = λ i j d below within. absurd (omega arith) }

pub AreLines-line : (n : ℕ) (x : BuiltCrossing) (line : List CellNo) → AreLines x → AreCells n line → ((c : CellNo) → has_cell line c ≡ true → (has_cell x.cells c && not (in_flow x.flows c)) ≡ true) → AreLines (with_line x line)
AreLines-line n x line lines are free = record {
  flows = All-push (IsFlow x.cells) x.flows line lines.flows (record {
    some = are.some;
    rise = are.rise;
    within = All-weaker (λ c. has_cell line c ≡ true) (λ c. has_cell x.cells c ≡ true) (λ c has. (and_parts (has_cell x.cells c) (not (in_flow x.flows c)) (free c has)).0) line (has_each line);
  });
  apart = all_pairs_push (λ flow other. All (λ c. has_cell flow c ≡ false) other) x.flows line lines.apart
      (λ k d within.
      All-weaker (λ c. has_cell line c ≡ true) (λ c. has_cell (get_or x.flows k d) c ≡ false)
      (λ c has. flow_lacks x.flows c k d within (not-true (in_flow x.flows c) (and_parts (has_cell x.cells c) (not (in_flow x.flows c)) (free c has)).1))
      line (has_each line));
}

-- one more cell has no links
pub link_total_push : (rows : List (List Link)) → link_total (rows ++ [] ∷ []) ≡ link_total rows
link_total_push [] = refl
link_total_push (row ∷ rows) = ap (λ n. length row + n) (link_total_push rows)

link_total-set : (rows : List (List Link)) (i : ℕ) (row : List Link) → i < length rows → link_total (set rows i row) + length (get_or rows i []) ≡ link_total rows + length row
link_total-set [] i row within = absurd (omega arith)
link_total-set (r ∷ rs) zero row within = omega arith
link_total-set (r ∷ rs) (suc i) row within = omega (arith, link_total-set rs i row (omega arith))

-- the tables of a site as one value
module _ (links : List (List Link)) (count : ℕ) (places : List Places) (crossings : List BuiltCrossing) (areas : List (List CellNo)) (firsts owners : List ℕ) where
  found_push : IsKept links count places crossings areas firsts owners → (c : CellNo) → c.0 < length links + 1 → places_list (get_or (places ++ Free ∷ []) c.0 Free) ≡ places_from 0 crossings c
  found_push kept c below =
      elim (cases_lt c.0 (length links)) [
        | inl old ↦ ap places_list (get_or-append places (Free ∷ []) Free c.0 (omega (arith, kept.placed))) ∙ kept.found c old
        | inr new ↦
            let last : c.0 ≡ length places = omega (arith, kept.placed) in
            ap (λ k. places_list (get_or (places ++ Free ∷ []) k Free)) last
            ∙ ap places_list (get_or_last places Free)
            ∙ sym (places_none 0 crossings c (All-weaker (λ x. AreCells (length links) x.cells) (λ x. has_cell x.cells c ≡ false) (λ x are. missing (length links) x.cells c are new) crossings kept.crossed))
      ]
    where
      get_or_last : (ps : List Places) (p : Places) → get_or (ps ++ p ∷ []) (length ps) p ≡ p
      get_or_last [] p = refl
      get_or_last (q ∷ qs) p = get_or_last qs p

  -- a cell is added
  pub kept_cell : (links' : List (List Link)) (places' : List Places) → IsKept links count places crossings areas firsts owners → length links < 1024 → links' ≡ links ++ [] ∷ [] → places' ≡ places ++ Free ∷ [] → IsKept links' count places' crossings areas firsts owners
  kept_cell links' places' kept room more_links more_places =
      let n : ℕ = length links in
      let long : length (links ++ [] ∷ []) ≡ n + 1 = length_push links [] in
      subst (λ ls. IsKept ls count places' crossings areas firsts owners) (sym more_links)
      (subst (λ ps. IsKept (links ++ [] ∷ []) count ps crossings areas firsts owners) (sym more_places)
      (record {
        few_cells = omega (arith, long);
        few_links = kept.few_links;
        few_crossings = kept.few_crossings;
        few_areas = kept.few_areas;
        few_claims = kept.few_claims;
        counted = kept.counted ∙ sym (link_total_push links);
        linked = subst (λ m. All (AreLinks m) (links ++ [] ∷ [])) (sym long) (All-push (AreLinks (n + 1)) links [] (All-weaker (AreLinks n) (AreLinks (n + 1)) (AreLinks-grown n) links kept.linked) (AreLinks-none (n + 1)));
        unlooped = λ c. subst (All (λ l. eqb l.to.0 c ≡ false)) (sym (get_or_blank links c)) (kept.unlooped c);
        crossed = subst (λ m. All (λ x. AreCells m x.cells) crossings) (sym long) (All-weaker (λ x. AreCells n x.cells) (λ x. AreCells (n + 1) x.cells) (λ x are. AreCells-grown n x.cells are) crossings kept.crossed);
        lined = kept.lined;
        gathered = subst (λ m. All (AreCells m) areas) (sym long) (All-weaker (AreCells n) (AreCells (n + 1)) (AreCells-grown n) areas kept.gathered);
        placed = omega (arith, long, length_push places Free, kept.placed);
        found = λ c below. found_push kept c (omega (arith, long));
        numbered = kept.numbered;
      }))

  -- an area is added
  pub kept_area : (areas' : List (List CellNo)) (cells : List CellNo) → IsKept links count places crossings areas firsts owners → length areas < 256 → AreCells (length links) cells → areas' ≡ areas ++ cells ∷ [] → IsKept links count places crossings areas' firsts owners
  kept_area areas' cells kept room are more =
      subst (λ as'. IsKept links count places crossings as' firsts owners) (sym more)
      (record {
        few_cells = kept.few_cells;
        few_links = kept.few_links;
        few_crossings = kept.few_crossings;
        few_areas = omega (arith, length_push areas cells);
        few_claims = kept.few_claims;
        counted = kept.counted;
        linked = kept.linked;
        unlooped = kept.unlooped;
        crossed = kept.crossed;
        lined = kept.lined;
        gathered = All-push (AreCells (length links)) areas cells kept.gathered are;
        placed = kept.placed;
        found = kept.found;
        numbered = kept.numbered;
      })

  -- a link is added
  pub kept_link : (from : ℕ) (link : Link) (row : List Link) → IsKept links count places crossings areas firsts owners → count < 8192 → from < length links → link.to.0 < length links → eqb link.to.0 from ≡ false → 1 ≤ link.cost → link.cost ≤ MAX_COST → list_any (λ l. eqb l.to.0 link.to.0) (get_or links from []) ≡ false → row ≡ with_one_more (get_or links from []) link → IsKept (set links from row) (count + 1) places crossings areas firsts owners
  kept_link from link row kept room from_known to_known other costs cheap new more =
      let old : List Link = get_or links from [] in
      let long : length (set links from (with_one_more old link)) ≡ length links = length-set links from (with_one_more old link) in
      let are : AreLinks (length links) old = All-get_or (AreLinks (length links)) links from [] from_known kept.linked in
      let still : AreLinks (length links) (with_one_more old link) = record {
        rise = LinksRise-with_one_more 0 old link are.rise (omega arith) new;
        known = All-with_one_more (λ l. l.to.0 < length links) old link are.known to_known;
        costs = All-with_one_more (λ l. (1 ≤ l.cost) × (l.cost ≤ MAX_COST)) old link are.costs (costs, cheap);
      } in
      subst (λ r. IsKept (set links from r) (count + 1) places crossings areas firsts owners) (sym more)
      (record {
        few_cells = omega (arith, long, kept.few_cells);
        few_links = omega arith;
        few_crossings = kept.few_crossings;
        few_areas = kept.few_areas;
        few_claims = kept.few_claims;
        counted = omega (arith, kept.counted, link_total-set links from (with_one_more old link) from_known, length-with_one_more old link);
        linked = subst (λ m. All (AreLinks m) (set links from (with_one_more old link))) (sym long) (All-set (AreLinks (length links)) links from (with_one_more old link) still kept.linked);
        unlooped = λ c. elim (cases_eq c from) [
          | inl same ↦ subst (λ d. All (λ l. eqb l.to.0 d ≡ false) (get_or (set links from (with_one_more old link)) d [])) (sym same)
              (subst (All (λ l. eqb l.to.0 from ≡ false)) (sym (get_or-set_same links from (with_one_more old link) [] from_known))
              (All-with_one_more (λ l. eqb l.to.0 from ≡ false) old link (kept.unlooped from) other))
          | inr apart ↦ subst (All (λ l. eqb l.to.0 c ≡ false)) (sym (get_or-set_other links from c (with_one_more old link) [] apart)) (kept.unlooped c)
        ];
        crossed = subst (λ m. All (λ x. AreCells m x.cells) crossings) (sym long) kept.crossed;
        lined = kept.lined;
        gathered = subst (λ m. All (AreCells m) areas) (sym long) kept.gathered;
        placed = kept.placed ∙ sym long;
        found = λ c below. kept.found c (omega (arith, long));
        numbered = kept.numbered;
      })

  -- a crossing is added
  pub kept_crossing : (places' : List Places) (crossings' : List BuiltCrossing) (firsts' owners' : List ℕ) (cells : List CellNo) (members : set.FinSet nat_cmp) → IsKept links count places crossings areas firsts owners → length owners < 256 → AreCells (length links) cells → ((c : CellNo) → set.contains members c.0 ≡ has_cell cells c) → length places' ≡ length places → ((c : ℕ) → c < length places → places_list (get_or places' c Free) ≡ entered (set.contains members c) (length crossings) (places_list (get_or places c Free))) → crossings' ≡ crossings ++ record { cells = cells; flows = [] } ∷ [] → AreNumbered (map completed crossings') firsts' owners' → IsKept links count places' crossings' areas firsts' owners'
  kept_crossing places' crossings' firsts' owners' cells members kept room are is_member same_long enters more numbered =
      let total : crossing_claims (map completed (crossings ++ record { cells = cells; flows = [] } ∷ [])) ≡ length owners + 1 =
      ap crossing_claims (map-append completed crossings (record { cells = cells; flows = [] } ∷ []))
      ∙ crossing_claims-append (map completed crossings) (record { cells = cells; flows = [] } ∷ [])
      ∙ omega (arith, kept.numbered.owners_are_all)
      in
      subst (λ xs. AreNumbered (map completed xs) firsts' owners' → IsKept links count places' xs areas firsts' owners') (sym more)
      (λ all. record {
        few_cells = kept.few_cells;
        few_links = kept.few_links;
        few_crossings = omega (arith, length_push crossings (record { cells = cells; flows = [] }), length-crossings (map completed crossings), length-map crossings completed, kept.numbered.owners_are_all);
        few_areas = kept.few_areas;
        few_claims = omega (arith, total);
        counted = kept.counted;
        linked = kept.linked;
        unlooped = kept.unlooped;
        crossed = All-push (λ x. AreCells (length links) x.cells) crossings (record { cells = cells; flows = [] }) kept.crossed are;
        lined = All-push AreLines crossings (record { cells = cells; flows = [] }) kept.lined (AreLines-none cells);
        gathered = kept.gathered;
        placed = same_long ∙ kept.placed;
        found = λ c below.
            enters c.0 (omega (arith, kept.placed))
            ∙ ap (λ b. entered b (length crossings) (places_list (get_or places c.0 Free))) (is_member c)
            ∙ ap (entered (has_cell cells c) (length crossings)) (kept.found c below)
            ∙ ap (λ k. entered (has_cell cells c) k (places_from 0 crossings c)) (let e : length crossings ≡ 0 + length crossings = omega arith in e)
            ∙ sym (places_push 0 crossings cells c);
        numbered = all;
      }) numbered

  map-set : (xs : List BuiltCrossing) (k : ℕ) (y : BuiltCrossing) → map completed (set xs k y) ≡ set (map completed xs) k (completed y)
  map-set [] k y = refl
  map-set (x ∷ xs) zero y = refl
  map-set (x ∷ xs) (suc k) y = ap (λ zs. completed x ∷ zs) (map-set xs k y)

  -- how many claims there are once a crossing has one more line
  pub claims_with_flow : (k : ℕ) (y : BuiltCrossing) → k < length crossings → crossing_claims (map completed (set crossings k y)) + claim_count_of (completed (get_or crossings k no_crossing)) ≡ crossing_claims (map completed crossings) + claim_count_of (completed y)
  claims_with_flow k y within =
      ap (λ xs. crossing_claims xs + claim_count_of (completed (get_or crossings k no_crossing))) (map-set crossings k y)
      ∙ ap (λ x. crossing_claims (set (map completed crossings) k (completed y)) + claim_count_of x) (sym (get_or-map completed crossings k no_crossing no_crossing within))
      ∙ crossing_claims-set (map completed crossings) k (completed y) (omega (arith, length-map crossings completed))

  -- a flow line is added
  pub kept_flow : (places' : List Places) (crossings' : List BuiltCrossing) (firsts' owners' : List ℕ) (k : ℕ) (line : List CellNo) (members : set.FinSet nat_cmp) → IsKept links count places crossings areas firsts owners → k < length crossings → length owners' ≤ 256 → AreCells (length links) line → ((c : CellNo) → set.contains members c.0 ≡ has_cell line c) → ((c : CellNo) → has_cell line c ≡ true → (has_cell (get_or crossings k no_crossing).cells c && not (in_flow (get_or crossings k no_crossing).flows c)) ≡ true) → length places' ≡ length places → ((c : ℕ) → c < length places → places_list (get_or places' c Free) ≡ marked (set.contains members c) k (length (get_or crossings k no_crossing).flows) (places_list (get_or places c Free))) → crossings' ≡ set crossings k (with_line (get_or crossings k no_crossing) line) → AreNumbered (map completed crossings') firsts' owners' → IsKept links count places' crossings' areas firsts' owners'
  kept_flow places' crossings' firsts' owners' k line members kept within few are is_member free same_long marks more numbered =
      let x : BuiltCrossing = get_or crossings k no_crossing in
      let long : length (set crossings k (with_line x line)) ≡ length crossings = length-set crossings k (with_line x line) in
      subst (λ xs. AreNumbered (map completed xs) firsts' owners' → IsKept links count places' xs areas firsts' owners') (sym more)
      (λ all. record {
        few_cells = kept.few_cells;
        few_links = kept.few_links;
        few_crossings = omega (arith, long, kept.few_crossings);
        few_areas = kept.few_areas;
        few_claims = omega (arith, all.owners_are_all);
        counted = kept.counted;
        linked = kept.linked;
        unlooped = kept.unlooped;
        crossed = All-set (λ y. AreCells (length links) y.cells) crossings k (with_line x line) (All-get_or (λ y. AreCells (length links) y.cells) crossings k no_crossing within kept.crossed) kept.crossed;
        lined = All-set AreLines crossings k (with_line x line) (AreLines-line (length links) x line (All-get_or AreLines crossings k no_crossing within kept.lined) are free) kept.lined;
        gathered = kept.gathered;
        placed = same_long ∙ kept.placed;
        found = λ c below.
            marks c.0 (omega (arith, kept.placed))
            ∙ ap (λ b. marked b k (length x.flows) (places_list (get_or places c.0 Free))) (is_member c)
            ∙ ap (marked (has_cell line c) k (length x.flows)) (kept.found c below)
            ∙ marked_flow k line c within (free c);
        numbered = all;
      }) numbered
    where
      marked_flow : (k : ℕ) (line : List CellNo) (c : CellNo) → k < length crossings → (has_cell line c ≡ true → (has_cell (get_or crossings k no_crossing).cells c && not (in_flow (get_or crossings k no_crossing).flows c)) ≡ true) → marked (has_cell line c) k (length (get_or crossings k no_crossing).flows) (places_from 0 crossings c) ≡ places_from 0 (set crossings k (with_line (get_or crossings k no_crossing) line)) c
      marked_flow k line c within free =
          elim (cases_Bool (has_cell line c)) [
            | inl has ↦
                let parts = and_parts (has_cell (get_or crossings k no_crossing).cells c) (not (in_flow (get_or crossings k no_crossing).flows c)) (free has) in
                ap (λ b. marked b k (length (get_or crossings k no_crossing).flows) (places_from 0 crossings c)) has
                ∙ ap (λ j. marked true j (length (get_or crossings k no_crossing).flows) (places_from 0 crossings c)) (let e : k ≡ 0 + k = omega arith in e)
                ∙ sym (places_marked 0 crossings k line c within has parts.0 (not-true (in_flow (get_or crossings k no_crossing).flows c) parts.1))
            | inr out ↦
                ap (λ b. marked b k (length (get_or crossings k no_crossing).flows) (places_from 0 crossings c)) out
                ∙ sym (places_same 0 crossings k line c within out)
          ]

  -- a cell's crossings are counted by its places
  pub crowded : (c : CellNo) → IsKept links count places crossings areas firsts owners → c.0 < length links → length (places_list (get_or places c.0 Free)) ≡ crossings_with crossings c
  crowded c kept known = ap length (kept.found c known) ∙ length-places 0 crossings c

  pub any_crowded : (cells : List CellNo) → IsKept links count places crossings areas firsts owners → All (λ c. c.0 < length links) cells → list_any (λ c. leb 2 (length (places_list (get_or places c.0 Free)))) cells ≡ list_any (λ c. leb 2 (crossings_with crossings c)) cells
  any_crowded cells kept known =
      list_any_agree_in (λ c. leb 2 (length (places_list (get_or places c.0 Free)))) (λ c. leb 2 (crossings_with crossings c)) cells
      (All-weaker (λ c. c.0 < length links) (λ c. leb 2 (length (places_list (get_or places c.0 Free))) ≡ leb 2 (crossings_with crossings c)) (λ c h. ap (leb 2) (crowded c kept h)) cells known)

  -- the claims with one more crossing
  pub total_push : (cells : List CellNo) → crossing_claims (map completed (crossings ++ record { cells = cells; flows = [] } ∷ [])) ≡ crossing_claims (map completed crossings) + 1
  total_push cells =
      ap crossing_claims (map-append completed crossings (record { cells = cells; flows = [] } ∷ []))
      ∙ crossing_claims-append (map completed crossings) (record { cells = cells; flows = [] } ∷ [])

  -- the owners are as many as the claims, with those that one more line adds
  pub total_flow : (k : ℕ) (line : List CellNo) (x : BuiltCrossing) (before after : ℕ) → IsKept links count places crossings areas firsts owners → k < length crossings → x ≡ get_or crossings k no_crossing → before ≡ claim_count_of (completed x) → after ≡ claim_count_of (completed (with_line x line)) → length (cond (ltb before after) (owners ++ 0 ∷ []) owners) ≡ crossing_claims (map completed (set crossings k (with_line (get_or crossings k no_crossing) line)))
  total_flow k line x before after kept within x_is before_is after_is =
      let y : BuiltCrossing = get_or crossings k no_crossing in
      let some = (All-get_or (λ z. AreCells (length links) z.cells) crossings k no_crossing within kept.crossed).some in
      let step = claims_step y line some in
      let changed = claims_with_flow k (with_line y line) within in
      let before_y = before_is ∙ ap (λ z. claim_count_of (completed z)) x_is in
      let after_y = after_is ∙ ap (λ z. claim_count_of (completed (with_line z line))) x_is in
      elim (cases_lt before after) [
        | inl more ↦
            ap (λ b. length (cond b (owners ++ 0 ∷ []) owners)) (lt-ltb before after more)
            ∙ omega (arith, length_push owners 0, step.1, changed, before_y, after_y, kept.numbered.owners_are_all)
        | inr same ↦
            ap (λ b. length (cond b (owners ++ 0 ∷ []) owners)) (le-ltb before after same)
            ∙ omega (arith, step.0, changed, before_y, after_y, kept.numbered.owners_are_all)
      ]

  -- a crossing is full by its claims alone, since each crossing has one
  pub crossing_full : (cells : List CellNo) → IsKept links count places crossings areas firsts owners → (leb 256 (length crossings) || ltb 256 (crossing_claims (map completed (crossings ++ record { cells = cells; flows = [] } ∷ [])))) ≡ leb 256 (length owners)
  crossing_full cells kept =
      let total : crossing_claims (map completed (crossings ++ record { cells = cells; flows = [] } ∷ [])) ≡ length owners + 1 =
      ap crossing_claims (map-append completed crossings (record { cells = cells; flows = [] } ∷ []))
      ∙ crossing_claims-append (map completed crossings) (record { cells = cells; flows = [] } ∷ [])
      ∙ omega (arith, kept.numbered.owners_are_all)
      in
      let few : length crossings ≤ length owners = omega (arith, length-crossings (map completed crossings), length-map crossings completed, kept.numbered.owners_are_all) in
      ap (λ n. leb 256 (length crossings) || ltb 256 n) total
      ∙ elim (cases_lt (length owners) 256) [
        | inl below ↦
            or_from (leb 256 (length crossings)) (ltb 256 (length owners + 1)) (lt-leb 256 (length crossings) (omega arith)) (le-ltb 256 (length owners + 1) (omega arith))
            ∙ sym (lt-leb 256 (length owners) below)
        | inr full ↦
            or_right (leb 256 (length crossings)) (ltb 256 (length owners + 1)) (lt-ltb 256 (length owners + 1) (omega arith))
            ∙ sym (le-leb 256 (length owners) full)
      ]

  -- a crossing has no more claims than all of them
  pub claim_count_within : (k : ℕ) → k < length crossings → claim_count_of (completed (get_or crossings k no_crossing)) ≤ crossing_claims (map completed crossings)
  claim_count_within k within =
      let known : k < length (map completed crossings) = omega (arith, length-map crossings completed) in
      let more = crossing_claims_more (map completed crossings) k known in
      let front = crossing_claims_front (map completed crossings) (k + 1) in
      let same = ap claim_count_of (get_or-map completed crossings k no_crossing no_crossing within) in
      omega (arith, more, front, same)

  -- the number of a claim in a crossing, behind the cells and the claims of the crossings before, is small
  pub claim_small : IsKept links count places crossings areas firsts owners → (k first flow : ℕ) (x : BuiltCrossing) (line : Option ℕ) → k < length crossings
      → x ≡ get_or crossings k x → first ≡ get_or firsts k first → flow ≡ unwrap_or line (length x.flows)
      → unwrap_or line (length (get_or crossings k no_crossing).flows) ≤ length (get_or crossings k no_crossing).flows → length links + first + flow ≤ 1536
  claim_small kept k first flow x line within at first_at is line_within =
      let flow_is = is ∙ ap (λ (y : BuiltCrossing). unwrap_or line (length y.flows)) (read_at crossings k x no_crossing within at) in
      let few = flows_few (get_or crossings k no_crossing) (All-get_or (λ z. AreCells (length links) z.cells) crossings k no_crossing within kept.crossed).some in
      let most = claim_count_within k within in
      let same = length-map crossings completed in
      let first_is = read_at firsts k first 0 (omega (arith, kept.numbered.firsts_are_all, same, within)) first_at in
      let begun = kept.numbered.begun k (omega (arith, same, within)) in
      let front = crossing_claims_front (map completed crossings) k in
      omega (arith, line_within, flow_is, few, most, first_is, begun, front, kept.few_claims, kept.few_cells)

  -- a crossing with a flow line more has a claim more at most, and all crossings have as many more
  pub claims_with_line : IsKept links count places crossings areas firsts owners → (k : ℕ) (x : BuiltCrossing) (line : List CellNo) → k < length crossings → x ≡ get_or crossings k x
      → (claim_count_of (completed x) ≤ length owners)
      × (claim_count_of (completed (with_line x line)) ≤ claim_count_of (completed x) + 1)
      × (length owners + claim_count_of (completed (with_line x line)) ≡ crossing_claims (map completed (set crossings k (with_line (get_or crossings k no_crossing) line))) + claim_count_of (completed x))
  claims_with_line kept k x line within at =
      let x_is = read_at crossings k x no_crossing within at in
      let some = (All-get_or (λ z. AreCells (length links) z.cells) crossings k no_crossing within kept.crossed).some in
      let most = claim_count_within k within in
      let changed = claims_with_flow k (with_line (get_or crossings k no_crossing) line) within in
      let before = ap (λ y. claim_count_of (completed y)) x_is in
      let after = ap (λ y. claim_count_of (completed (with_line y line))) x_is in
      let step = claims_step (get_or crossings k no_crossing) line some in
      let all = kept.numbered.owners_are_all in
      (omega (arith, most, before, all), omega (arith, step.1, before, after), omega (arith, before, after, changed, all))
