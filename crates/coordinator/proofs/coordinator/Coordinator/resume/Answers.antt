use Rattle.std.proofs.Common.{◌<◌, ◌≤◌, [], ◌∷◌, length, ap, sym, subst, ◌∙◌, refl, arith}
use Rattle.std.specs.Prelude.{All}
use Rattle.std.specs.List.{filter}
use Rattle.std.specs.Option.{is_some}
use Rattle.fleet_base.specs.declared.numbers.CellNo.{CellNo}
use Rattle.fleet_model.specs.States.{State, opening_state}
use Rattle.fleet_model.specs.Good.{IsOpening}
use Rattle.fleet_model.specs.Journals.{IsJournal, state_after}
use Rattle.fleet_model.specs.Segments.{marks as all_marks}
use Rattle.fleet_model.proofs.GoodStates.{opening_good}
use Rattle.site_map.specs.Claims.{site_of}
use Rattle.coordinator.specs.declared.refused.ResumeRefused.TheVariants.{NoMemory}
use Rattle.coordinator.specs.Books.{Book}
use Rattle.coordinator.specs.Kept.{IsStateOf, Shows}
use Rattle.coordinator.specs.Openings.{IsResumeRefusal}
use Rattle.coordinator.proofs.Resumed.{capped_shown, checkpoint_opens, crowded_refusal, fine_is, late_refusal, no_cause, resume_is}
use Rattle.coordinator.proofs.coordinator.Coordinator.resume.Goals as goal

pub returns-in_default-resumed_tables-clause-refused : goal.returns-in_default-resumed_tables-clause-refused
returns-in_default-resumed_tables-clause-refused c =
    let given = c.args.from.now in
    let none = sym c.early_cause.ensures ∙ c.in_default.is in
    subst (λ o. IsResumeRefusal o NoMemory) (sym (resume_is (site_of c.args.site) given.at.items given.pending.items given.next.0 c.args.cap none)) (late_refusal c.args.cap (length (filter is_some given.pending.items)))

pub returns-then-from-tables-clause-refused : goal.returns-then-from-tables-clause-refused
returns-then-from-tables-clause-refused c =
    let site = site_of c.args.site in
    let given = c.args.from.now in
    let shows : Shows c.in-Ok.tables (opening_state site given.at.items given.pending.items given.next.0 0) = c.in-Ok.ensures.tables in
    crowded_refusal site given.at.items given.pending.items given.next.0 c.args.cap (sym c.early_cause.ensures ∙ c.in_default.is) (omega (arith, c.if-from-tables.true, shows.owed))

pub returns-clause-accepted : goal.returns-clause-accepted
returns-clause-accepted c =
    let site = site_of c.args.site in
    let given = c.args.from.now in
    let shows : Shows c.in-Ok.tables (opening_state site given.at.items given.pending.items given.next.0 0) = c.in-Ok.ensures.tables in
    no_cause site given.at.items given.pending.items given.next.0 c.args.cap (sym c.early_cause.ensures ∙ c.in_default.is) (omega (arith, c.if-from-tables.false, shows.owed))

pub invariant_of-result : goal.invariant_of-result
invariant_of-result c =
    let site = site_of c.args.site in
    let given = c.args.from.now in
    let from = c.in-Ok-Ok-Ok.from in
    let same = c.in-Ok-Ok-Ok.ensures in
    let none = sym c.early_cause.ensures ∙ c.in_default.is in
    let fine = fine_is site given.at.items given.pending.items given.next.0 none in
    let shows_given : Shows c.in-Ok.tables (opening_state site given.at.items given.pending.items given.next.0 0) = c.in-Ok.ensures.tables in
    let room : length (filter is_some given.pending.items) ≤ c.args.cap = omega (arith, c.if-from-tables.false, shows_given.owed) in
    let opens : IsOpening site given.at.items given.pending.items given.next.0 c.args.cap =
    checkpoint_opens site given.at.items given.pending.items given.next.0 c.args.cap fine.free fine.number c.requires.places c.requires.few fine.legal room in
    let opening : IsOpening site from.at.items from.pending.items from.next.0 c.args.cap = subst (λ o. o) (λ j. IsOpening site (sym same.at j) (sym same.pending j) (sym same.next j).0 c.args.cap) opens in
    let start : State = opening_state site from.at.items from.pending.items from.next.0 c.args.cap in
    let first : Book = record { site = c.args.site; starts = from.at.items; pending = from.pending.items; first = from.next.0; cap = c.args.cap; journal = [] } in
    let shows : Shows c.in-Ok.tables start =
    subst (λ o. o) (λ j. Shows c.in-Ok.tables (opening_state site (sym same.at j) (sym same.pending j) (sym same.next j).0 c.args.cap)) (capped_shown c.in-Ok.tables site given.at.items given.pending.items given.next.0 c.args.cap shows_given)
    in
    let stands : IsStateOf start first = record { site = refl; starts = refl; first = refl; cap = refl; count = refl; good = opening_good site from.at.items from.pending.items from.next.0 c.args.cap opening } in
    let empty = sym c.in-Ok-Ok-Ok.ensures''.items in
    record {
      site = c.in-Ok.ensures.site;
      counted = c.in-Ok.ensures.counted;
      known = subst (All (λ (a : CellNo). a.0 < c.args.site.cells)) (sym same.at) c.requires.known;
      opening = opening;
      legal = subst (λ es. IsJournal start es) empty tt;
      state = subst (λ es. IsStateOf (state_after start es) (record first { journal = es })) empty stands;
      tables = subst (λ es. Shows c.in-Ok.tables (state_after start es)) empty shows;
      marks = c.in-Ok-Ok-Ok.ensures' ∙ (ap (λ n. record { before = 0; next = n } ∷ []) (sym same.next) ∙ ap (all_marks start) empty);
      room = omega (arith, c.in-Ok-Ok-Ok.ensures''.len, c.in-Ok-Ok-Ok.ensures''.exact);
      some = omega (arith, ap length same.at, fine.some);
      few = omega (arith, ap length same.at, c.requires.few);
      small = c.requires.cap;
    }
