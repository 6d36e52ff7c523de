use Rattle.std.proofs.Common.{◌≡◌, ◌<◌, ◌&&◌, true, false, not, length, refl, sym, ap, subst, ◌∙◌, arith}
use Rattle.std.specs.List.{list_all}
use Rattle.std.proofs.lemmas.Bool.{lt-ltb, le-ltb}
use Rattle.fleet_model.specs.Lists.{has_cell}
use Rattle.site_map.specs.Built.{BuiltSite, crossing_at, no_crossing}
use Rattle.site_map.specs.Cells.{are_known, in_order}
use Rattle.site_map.specs.Crossings.{BuiltCrossing, in_flow}
use Rattle.site_map.proofs.CauseLemmas.{flow_cause_is}
use Rattle.site_map.proofs.CellLemmas.{has_cell-in_order, read_at}
use Rattle.site_map.proofs.builder.SiteBuilder.checked_flow.Goals as goal

pub claims_with_line-requires-clause-members : goal.claims_with_line-requires-clause-members
claims_with_line-requires-clause-members c = (c.args.cells.now, c.in-Some.ensures.numbers)

pub returns-then-claims_with_line-clause-refused : goal.returns-then-claims_with_line-clause-refused
returns-then-claims_with_line-clause-refused c =
    let s = c.args.self.now in
    let k = c.args.crossing in
    let cells = c.args.cells.now in
    let count : c.len.result ≡ length c.self.inside.links.items = omega arith in
    let known : are_known s.cells cells ≡ true = subst (λ m. are_known m cells ≡ true) (count ∙ ap (λ (b : BuiltSite). b.cells) c.self.view_is) (sym c.are_known.ensures ∙ c.if-not-are_known.false) in
    let within : k < length s.crossings = subst (λ (b : BuiltSite). k < length b.crossings) c.self.view_is (omega arith) in
    let total = c.claims_with_line.ensures (in_order s.cells cells) (λ d. c.in-Some.ensures.numbers d ∙ sym (has_cell-in_order s.cells cells d known)) in
    flow_cause_is s k cells true _ known within c.in-Some.ensures.distinct (lt-ltb 256 _ (omega (arith, total, c.if-claims_with_line.true))) refl

pub returns-then-not-are_free-clause-refused : goal.returns-then-not-are_free-clause-refused
returns-then-not-are_free-clause-refused c =
    let s = c.args.self.now in
    let k = c.args.crossing in
    let cells = c.args.cells.now in
    let count : c.len.result ≡ length c.self.inside.links.items = omega arith in
    let known : are_known s.cells cells ≡ true = subst (λ m. are_known m cells ≡ true) (count ∙ ap (λ (b : BuiltSite). b.cells) c.self.view_is) (sym c.are_known.ensures ∙ c.if-not-are_known.false) in
    let within : k < length s.crossings = subst (λ (b : BuiltSite). k < length b.crossings) c.self.view_is (omega arith) in
    let total = c.claims_with_line.ensures (in_order s.cells cells) (λ d. c.in-Some.ensures.numbers d ∙ sym (has_cell-in_order s.cells cells d known)) in
    let read = read_at c.self.inside.crossings.items k c.index.result.now no_crossing (omega arith) c.index.ensures ∙ ap (λ (b : BuiltSite). crossing_at b k) c.self.view_is in
    let free = sym c.are_free.ensures ∙ c.if-not-are_free.true in
    flow_cause_is s k cells false false known within c.in-Some.ensures.distinct (le-ltb 256 _ (omega (arith, total, c.if-claims_with_line.false))) (ap (λ (y : BuiltCrossing). list_all (λ d. has_cell y.cells d && not (in_flow y.flows d)) cells) (sym read) ∙ free)

pub returns-clause-accepted : goal.returns-clause-accepted
returns-clause-accepted c =
    let s = c.args.self.now in
    let k = c.args.crossing in
    let cells = c.args.cells.now in
    let count : c.len.result ≡ length c.self.inside.links.items = omega arith in
    let known : are_known s.cells cells ≡ true = subst (λ m. are_known m cells ≡ true) (count ∙ ap (λ (b : BuiltSite). b.cells) c.self.view_is) (sym c.are_known.ensures ∙ c.if-not-are_known.false) in
    let within : k < length s.crossings = subst (λ (b : BuiltSite). k < length b.crossings) c.self.view_is (omega arith) in
    let total = c.claims_with_line.ensures (in_order s.cells cells) (λ d. c.in-Some.ensures.numbers d ∙ sym (has_cell-in_order s.cells cells d known)) in
    let read = read_at c.self.inside.crossings.items k c.index.result.now no_crossing (omega arith) c.index.ensures ∙ ap (λ (b : BuiltSite). crossing_at b k) c.self.view_is in
    let free = sym c.are_free.ensures ∙ c.if-not-are_free.false in
    flow_cause_is s k cells false true known within c.in-Some.ensures.distinct (le-ltb 256 _ (omega (arith, total, c.if-claims_with_line.false))) (ap (λ (y : BuiltCrossing). list_all (λ d. has_cell y.cells d && not (in_flow y.flows d)) cells) (sym read) ∙ free)
