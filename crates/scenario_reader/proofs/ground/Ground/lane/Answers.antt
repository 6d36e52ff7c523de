use Rattle.std.proofs.Common.{◌≡◌, ℕ, ◌≤◌, ◌+◌, List, [], Ok, sym, ap, subst, ◌∙◌, arith}
use Rattle.std.specs.Str.Parse.{digits_value}
use Rattle.fleet_base.specs.declared.numbers.CellNo.{CellNo}
use Rattle.site_map.specs.Built.{BuiltSite, link_total}
use Rattle.scenario_reader.specs.States.{Declared}
use Rattle.scenario_reader.specs.SiteLines.{cell_at, ends_rows, lane_line, lane_rows, link_rows, linked}
use Rattle.scenario_reader.specs.Tables.{word, Fails, IsFine, IsStop}
use Rattle.scenario_reader.specs.declared.stop.Stop.{Stop}
use Rattle.scenario_reader.proofs.Lanes.{lane_first, lane_second, lane_fine}
use Rattle.scenario_reader.proofs.Tables.{first_stops, later_stops, both_fine, handed_on}
use Rattle.scenario_reader.proofs.ground.Ground.lane.Goals as goal

pub returns-in_err-from : goal.returns-in_err-from
returns-in_err-from c = handed_on _ _ _ c.in_err-from.field-0.0 c.from_residual.ensures.1 (subst (λ (d : Declared). Fails c.in_err-from.field-0.0 (lane_line d c.args.words.now)) c.self.view_is
    (first_stops (ends_rows c.self.inside.names c.args.words.now) (lane_rows c.self.inside.builder (cell_at c.self.inside.names (word c.args.words.now 0)) (cell_at c.self.inside.names (word c.args.words.now 1))) _ c.in_err-from.field-0.0 c.in_err-from.ensures.bad))

-- the line is stopped for its lane, whose ends are those that were read
stopped : (d : Declared) (words : List (List ℕ)) (a b : CellNo) (stop : Stop) → a ≡ cell_at d.names (word words 0) → b ≡ cell_at d.names (word words 1) → IsFine (ends_rows d.names words) → IsStop (lane_rows d.site a b) stop → Fails stop (lane_line d words)
stopped d words a b stop from to fine is =
    later_stops (ends_rows d.names words) (lane_rows d.site (cell_at d.names (word words 0)) (cell_at d.names (word words 1))) _ stop fine
    (subst (λ x. IsStop (lane_rows d.site x (cell_at d.names (word words 1))) stop) from (subst (λ y. IsStop (lane_rows d.site a y) stop) to is))

-- the line is taken
taken : (d : Declared) (words : List (List ℕ)) (a b : CellNo) (cost : ℕ) → a ≡ cell_at d.names (word words 0) → b ≡ cell_at d.names (word words 1) → cost ≡ digits_value 10 (word words 2) → IsFine (ends_rows d.names words) → IsFine (lane_rows d.site a b)
    → lane_line d words ≡ Ok (record d { site = linked (linked d.site a b cost) b a cost })
taken d words a b cost from to costs fine is =
    let e : lane_line d words ≡ Ok (record d { site = linked (linked d.site (cell_at d.names (word words 0)) (cell_at d.names (word words 1)) (digits_value 10 (word words 2))) (cell_at d.names (word words 1)) (cell_at d.names (word words 0)) (digits_value 10 (word words 2)) }) =
    both_fine (ends_rows d.names words) (lane_rows d.site (cell_at d.names (word words 0)) (cell_at d.names (word words 1))) _ fine
    (subst (λ x. IsFine (lane_rows d.site x (cell_at d.names (word words 1)))) from (subst (λ y. IsFine (lane_rows d.site a y)) to is)) in
    e ∙ ap (λ (x : CellNo). Ok (record d { site = linked (linked d.site x (cell_at d.names (word words 1)) (digits_value 10 (word words 2))) (cell_at d.names (word words 1)) x (digits_value 10 (word words 2)) })) (sym from)
    ∙ ap (λ (y : CellNo). Ok (record d { site = linked (linked d.site a y (digits_value 10 (word words 2))) y a (digits_value 10 (word words 2)) })) (sym to)
    ∙ ap (λ (n : ℕ). Ok (record d { site = linked (linked d.site a b n) b a n })) (sym costs)

pub returns-in_err-add_link : goal.returns-in_err-add_link
returns-in_err-add_link c =
    let room : link_total c.self.inside.builder.links + 2 ≤ 8192 = omega (arith, c.if-self-gt-MAX_LINKS.false, c.self.invariant.counted) in
    let stop : Stop = c.in_err-add_link.field-0.0 in
    handed_on _ _ _ stop c.from_residual-in_err-add_link.ensures.1 (subst (λ (d : Declared). Fails stop (lane_line d c.args.words.now)) c.self.view_is
    (stopped _ c.args.words.now c.in_ok-from.from c.in_ok-from.to stop c.in_ok-from.ensures.from c.in_ok-from.ensures.to c.in_ok-from.ensures.fine
    (lane_first c.self.inside.builder c.in_ok-from.from c.in_ok-from.to stop room c.in_err-add_link.ensures.bad)))

pub returns-in_err-add_link-2 : goal.returns-in_err-add_link-2
returns-in_err-add_link-2 c =
    let room : link_total c.self.inside.builder.links + 2 ≤ 8192 = omega (arith, c.if-self-gt-MAX_LINKS.false, c.self.invariant.counted) in
    let stop : Stop = c.in_err-add_link-2.field-0.0 in
    let a : CellNo = c.in_ok-from.from in
    let b : CellNo = c.in_ok-from.to in
    let added : c.add_link.new.builder ≡ linked c.self.inside.builder a b c.in_ok-from.cost = c.in_ok-add_link.ensures.added in
    let second : IsStop (link_rows (linked c.self.inside.builder a b c.in_ok-from.cost) b a) stop = subst (λ (s : BuiltSite). IsStop (link_rows s b a) stop) added c.in_err-add_link-2.ensures.bad in
    let more : link_total (linked c.self.inside.builder a b c.in_ok-from.cost).links ≡ link_total c.self.inside.builder.links + 1 = subst (λ (s : BuiltSite). link_total s.links ≡ link_total c.self.inside.builder.links + 1) added c.in_ok-add_link.ensures.one in
    handed_on _ _ _ stop c.from_residual-in_err-add_link-2.ensures.1 (subst (λ (d : Declared). Fails stop (lane_line d c.args.words.now)) c.self.view_is
    (stopped _ c.args.words.now a b stop c.in_ok-from.ensures.from c.in_ok-from.ensures.to c.in_ok-from.ensures.fine
    (lane_second c.self.inside.builder a b c.in_ok-from.cost stop room more c.in_ok-add_link.ensures.fine second)))

pub returns : goal.returns
returns c =
    let room : link_total c.self.inside.builder.links + 2 ≤ 8192 = omega (arith, c.if-self-gt-MAX_LINKS.false, c.self.invariant.counted) in
    let a : CellNo = c.in_ok-from.from in
    let b : CellNo = c.in_ok-from.to in
    let added : c.add_link.new.builder ≡ linked c.self.inside.builder a b c.in_ok-from.cost = c.in_ok-add_link.ensures.added in
    let second : IsFine (link_rows (linked c.self.inside.builder a b c.in_ok-from.cost) b a) = subst (λ (s : BuiltSite). IsFine (link_rows s b a)) added c.in_ok-add_link-2.ensures.fine in
    let last : c.add_link-2.new.builder ≡ linked (linked c.self.inside.builder a b c.in_ok-from.cost) b a c.in_ok-from.cost = c.in_ok-add_link-2.ensures.added ∙ ap (λ (s : BuiltSite). linked s b a c.in_ok-from.cost) added in
    subst (λ (d : Declared). lane_line d c.args.words.now ≡ Ok (record { site = c.add_link-2.new.builder; names = c.self.inside.names; starts = []; missions = [] })) c.self.view_is
    (taken _ c.args.words.now a b c.in_ok-from.cost c.in_ok-from.ensures.from c.in_ok-from.ensures.to c.in_ok-from.ensures.cost c.in_ok-from.ensures.fine
    (lane_fine c.self.inside.builder a b c.in_ok-from.cost room c.in_ok-add_link.ensures.fine second)
    ∙ ap (λ (s : BuiltSite). Ok (record { site = s; names = c.self.inside.names; starts = []; missions = [] })) (sym last))
