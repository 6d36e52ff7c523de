use Rattle.std.proofs.Common.{◌≡◌, ◌<◌, [], ◌∷◌, List, length, ap, sym, subst, ◌∙◌, refl, arith}
use Rattle.std.specs.List.{filter}
use Rattle.std.specs.Option.{is_some}
use Rattle.std.specs.Prelude.{All}
use Rattle.fleet_base.specs.declared.numbers.CellNo.{CellNo}
use Rattle.fleet_model.specs.States.{State, opening_state}
use Rattle.fleet_model.specs.Good.{IsOpening}
use Rattle.fleet_model.specs.Segments.{marks as all_marks}
use Rattle.fleet_model.specs.Journals.{IsJournal, state_after}
use Rattle.fleet_model.proofs.GoodStates.{opening_good}
use Rattle.site_map.specs.Claims.{site_of}
use Rattle.coordinator.specs.Books.{Book}
use Rattle.coordinator.specs.Kept.{IsStateOf, Shows}
use Rattle.coordinator.proofs.Apart.{opens}
use Rattle.coordinator.proofs.OpeningShown.{above_none, none_owed}
use Rattle.coordinator.proofs.coordinator.Coordinator.new.Goals as goal

pub invariant_of-result : goal.invariant_of-result
invariant_of-result c =
    let site = site_of c.args.site in
    let from = c.in-Ok-Ok-Ok.from in
    let at_is : from.at.items ≡ c.args.starts.now = c.in-Ok-Ok-Ok.ensures'.at in
    let none = sym c.clash.ensures ∙ c.in_default.is in
    let opening : IsOpening site from.at.items from.pending.items from.next.0 c.args.cap =
    subst (λ o. o) (λ j. IsOpening site (sym at_is j) (sym c.in-Ok-Ok-Ok.ensures'.pending j) (sym c.in-Ok-Ok-Ok.ensures'.next j).0 c.args.cap) (opens site c.args.starts.now c.args.cap none)
    in
    let start : State = opening_state site from.at.items from.pending.items from.next.0 c.args.cap in
    let first : Book = record { site = c.args.site; starts = from.at.items; pending = from.pending.items; first = from.next.0; cap = c.args.cap; journal = [] } in
    let shows : Shows c.in-Ok-Ok-Ok.tables start =
    subst (λ o. o) (λ j. Shows c.in-Ok-Ok-Ok.tables (opening_state site (sym at_is j) (sym c.in-Ok-Ok-Ok.ensures'.pending j) (sym c.in-Ok-Ok-Ok.ensures'.next j).0 c.args.cap)) (c.in-Ok-Ok-Ok.ensures.tables c.args.cap)
    in
    let stands : IsStateOf start first = record { site = refl; starts = refl; first = refl; cap = refl; count = refl; good = opening_good site from.at.items from.pending.items from.next.0 c.args.cap opening } in
    let empty = sym c.new.ensures.items in
    let owes_none : length (filter (is_some {T = List CellNo}) from.pending.items) ≡ 0 = ap (λ ps. length (filter is_some ps)) c.in-Ok-Ok-Ok.ensures'.pending ∙ none_owed c.args.starts.now in
    record {
      site = c.in-Ok-Ok-Ok.ensures.site;
      counted = c.in-Ok-Ok-Ok.ensures.counted;
      known = subst (All (λ (a : CellNo). a.0 < c.args.site.cells)) (sym at_is) c.requires.known;
      opening = opening;
      legal = subst (λ es. IsJournal start es) empty tt;
      state = subst (λ es. IsStateOf (state_after start es) (record first { journal = es })) empty stands;
      tables = subst (λ es. Shows c.in-Ok-Ok-Ok.tables (state_after start es)) empty shows;
      marks = c.in-Ok-Ok-Ok.ensures'' ∙ (ap (λ n. record { before = 0; next = n } ∷ []) (sym c.in-Ok-Ok-Ok.ensures'.next) ∙ ap (all_marks start) empty);
      room = omega (arith, c.new.ensures.len, shows.owed, owes_none);
      some = omega (arith, ap length at_is, above_none (length c.args.starts.now) (sym c.if-is_empty.ensures));
      few = omega (arith, ap length at_is, c.requires.few);
      small = c.requires.cap;
    }
