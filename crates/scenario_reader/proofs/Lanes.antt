-- A lane's faults are those of its two links, once there is room for both.
use Rattle.std.proofs.Common.{◌≡◌, ℕ, ◌+◌, ◌≤◌, Bool, true, false, ◌||◌, eqb, leb, ltb, List, [], ◌∷◌, refl, sym, ap, ◌∙◌, subst, arith}
use Rattle.std.specs.List.{list_any}
use Rattle.std.proofs.lemmas.Bool.{lt-leb, le-ltb, eqb-true, eqb-false}
use Rattle.fleet_base.specs.declared.numbers.CellNo.{CellNo}
use Rattle.fleet_base.specs.declared.numbers.Link.{Link}
use Rattle.site_lines.specs.declared.fault.Code.TheVariants.{S13, S15}
use Rattle.site_map.specs.Built.{BuiltSite, link_total, links_at}
use Rattle.site_map.specs.Cells.{with_one_more}
use Rattle.scenario_reader.specs.SiteLines.{has_link, lane_rows, link_rows, linked}
use Rattle.scenario_reader.specs.Tables.{IsFine, IsStop, row}
use Rattle.scenario_reader.specs.declared.stop.Stop.{Stop}
use Rattle.scenario_reader.specs.declared.stop.Stop.TheVariants as stops
use Rattle.scenario_reader.proofs.Links.{other_row}

-- a stop for the first link is one for the lane
first_stop : (full wide same there back : Bool) (stop : Stop) → full ≡ false → wide ≡ false → IsStop (row full S13 ∷ row (same || there) S15 ∷ []) stop → IsStop (row wide S13 ∷ row (same || (there || back)) S15 ∷ []) stop
first_stop full wide same there back stops.NoMemory narrow room is = tt
first_stop false false false false back (stops.Bad code) narrow room is = absurd (cc)
first_stop false false false true back (stops.Bad code) narrow room is = is
first_stop false false true there back (stops.Bad code) narrow room is = is
first_stop true wide same there back (stops.Bad code) narrow room is = absurd (cc)
first_stop false true same there back (stops.Bad code) narrow room is = absurd (cc)

-- a stop for the second link, behind the first
second_stop : (full wide same there turned back : Bool) (stop : Stop) → full ≡ false → wide ≡ false → turned ≡ false → IsStop (row full S13 ∷ row (turned || back) S15 ∷ []) stop → IsStop (row wide S13 ∷ row (same || (there || back)) S15 ∷ []) stop
second_stop full wide same there turned back stops.NoMemory narrow room apart is = tt
second_stop false false false false false false (stops.Bad code) narrow room apart is = absurd (cc)
second_stop false false false false false true (stops.Bad code) narrow room apart is = is
second_stop false false false true false false (stops.Bad code) narrow room apart is = absurd (cc)
second_stop false false false true false true (stops.Bad code) narrow room apart is = is
second_stop false false true there false false (stops.Bad code) narrow room apart is = absurd (cc)
second_stop false false true there false true (stops.Bad code) narrow room apart is = is
second_stop true wide same there turned back (stops.Bad code) narrow room apart is = absurd (cc)
second_stop false true same there turned back (stops.Bad code) narrow room apart is = absurd (cc)
second_stop false false same there true back (stops.Bad code) narrow room apart is = absurd (cc)

-- both links are fine
both_links : (full wide same there turned back : Bool) → wide ≡ false → IsFine (row full S13 ∷ row (same || there) S15 ∷ []) → (back ≡ true → ⊥) → IsFine (row wide S13 ∷ row (same || (there || back)) S15 ∷ [])
both_links false false false false turned false room first second = refl
both_links full wide same there turned true room first second = absurd (second refl)
both_links true wide same there turned back room first second = absurd (cc)
both_links full true same there turned back room first second = absurd (cc)
both_links false wide true there turned back room first second = absurd (cc)
both_links false wide false true turned back room first second = absurd (cc)

-- the ends of a link that is fine differ
pub ends_differ : (full same there : Bool) → IsFine (row full S13 ∷ row (same || there) S15 ∷ []) → same ≡ false
ends_differ full false there fine = refl
ends_differ false true there fine = absurd (cc)
ends_differ true true there fine = absurd (cc)

not_there : (full same there : Bool) → IsFine (row full S13 ∷ row (same || there) S15 ∷ []) → there ≡ true → ⊥
not_there false false true fine is = cc
not_there false false false fine is = cc
not_there false true there fine is = cc
not_there true same there fine is = cc

-- the links back are those from before
pub has_back : (site : BuiltSite) (a b : CellNo) (cost : ℕ) → eqb a.0 b.0 ≡ false → has_link (linked site a b cost) b a ≡ has_link site b a
has_back site a b cost differ =
    ap (λ (ls : List Link). list_any (λ l. eqb l.to.0 a.0) ls) (other_row site.links a.0 b.0 (with_one_more (links_at site a) (record { to = b; cost = cost })) (eqb-false a.0 b.0 differ))

turned_over : (a b : ℕ) → eqb a b ≡ false → eqb b a ≡ false
turned_over a b differ = go (eqb b a) refl
  where
    go : (t : Bool) → eqb b a ≡ t → eqb b a ≡ false
    go false is = is
    go true is = absurd (eqb-false a b differ (sym (eqb-true b a is)))

pub lane_first : (site : BuiltSite) (a b : CellNo) (stop : Stop) → link_total site.links + 2 ≤ 8192 → IsStop (link_rows site a b) stop → IsStop (lane_rows site a b) stop
lane_first site a b stop room is =
    first_stop (leb 8192 (link_total site.links)) (ltb 8192 (link_total site.links + 2)) (eqb a.0 b.0) (has_link site a b) (has_link site b a) stop (lt-leb 8192 (link_total site.links) (omega arith)) (le-ltb 8192 (link_total site.links + 2) room) is

pub lane_second : (site : BuiltSite) (a b : CellNo) (cost : ℕ) (stop : Stop) → link_total site.links + 2 ≤ 8192 → link_total (linked site a b cost).links ≡ link_total site.links + 1 → IsFine (link_rows site a b) → IsStop (link_rows (linked site a b cost) b a) stop → IsStop (lane_rows site a b) stop
lane_second site a b cost stop room more fine is =
    let differ = ends_differ (leb 8192 (link_total site.links)) (eqb a.0 b.0) (has_link site a b) fine in
    second_stop (leb 8192 (link_total (linked site a b cost).links)) (ltb 8192 (link_total site.links + 2)) (eqb a.0 b.0) (has_link site a b) (eqb b.0 a.0) (has_link site b a) stop
    (lt-leb 8192 (link_total (linked site a b cost).links) (omega arith)) (le-ltb 8192 (link_total site.links + 2) room) (turned_over a.0 b.0 differ)
    (subst (λ t. IsStop (row (leb 8192 (link_total (linked site a b cost).links)) S13 ∷ row (eqb b.0 a.0 || t) S15 ∷ []) stop) (has_back site a b cost differ) is)

pub lane_fine : (site : BuiltSite) (a b : CellNo) (cost : ℕ) → link_total site.links + 2 ≤ 8192 → IsFine (link_rows site a b) → IsFine (link_rows (linked site a b cost) b a) → IsFine (lane_rows site a b)
lane_fine site a b cost room fine second =
    let differ = ends_differ (leb 8192 (link_total site.links)) (eqb a.0 b.0) (has_link site a b) fine in
    both_links (leb 8192 (link_total site.links)) (ltb 8192 (link_total site.links + 2)) (eqb a.0 b.0) (has_link site a b) (eqb b.0 a.0) (has_link site b a) (le-ltb 8192 (link_total site.links + 2) room) fine
    (λ back. not_there (leb 8192 (link_total (linked site a b cost).links)) (eqb b.0 a.0) (has_link (linked site a b cost) b a) second (has_back site a b cost differ ∙ back))
