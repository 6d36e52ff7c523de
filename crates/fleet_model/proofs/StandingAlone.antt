-- The segments of a legal journal stand alone.
use Rattle.std.proofs.Common.{◌≡◌, ◌+◌, true, cond, refl, sym, ap, ◌∙◌, subst, List, [], ◌∷◌, ◌++◌, arith}
use Rattle.fleet_base.specs.declared.entries.Entry.{Entry}
use Rattle.fleet_model.specs.Sites.{IsSite}
use Rattle.fleet_model.specs.Plans.{own, unfinished}
use Rattle.fleet_model.specs.States.{State}
use Rattle.fleet_model.specs.Journals.{IsJournal, state_after, turn_at}
use Rattle.fleet_model.specs.Good.{IsGood}
use Rattle.fleet_model.specs.Segments.{ShowsSame, StandAlone, checkpoint_state, inner_marks, mark_at, opens_segment}
use Rattle.fleet_model.proofs.Pasts.{IsPast, past_cell, past_end, past_held, past_unfinished}
use Rattle.fleet_model.proofs.PastTurns.{JournalAlike, journal_alike, state_with}
use Rattle.fleet_model.proofs.Recounts.{JournalShifted, Opened, begun, entry_opens, journal_shifted, recounted, shifted}
use Rattle.fleet_model.proofs.Settled.{settled, settled_good, settled_past, settled_whole}

-- a state whose segment begins where it stands, and in which nothing is unfinished
pub record IsFresh (s : State) : Type 0 where
  pub site : IsSite s.fleet.site
  pub good : IsGood s
  pub base : s.base ≡ s.count
  pub none : unfinished s.fleet ≡ []

-- from such a state entries that open no segment stand alone
pub fresh_alone : (s : State) → IsFresh s → (entries : List Entry) → IsJournal s entries → inner_marks s entries ≡ [] → StandAlone s entries
fresh_alone s fresh entries legal none = record {
  legal = alone.legal;
  whole = alone.whole;
  same = subst (λ n. ShowsSame n then) (sym reaches) record {
    next = refl;
    cell = λ r. sym (past_cell s.fleet later.fleet past r);
    end = λ r. sym (past_end s.fleet later.fleet past r);
    holds = λ r. sym (past_held s.fleet later.fleet past r);
    left = λ r. ap (own r) (sym (past_unfinished s.fleet later.fleet past));
    pending = λ r. refl;
  };
}
  where
    whole : state_with s.fleet (settled s) ≡ s
    whole = settled_whole s fresh.site fresh.good

    alike : JournalAlike s.fleet (settled s) entries
    alike = journal_alike s.fleet (settled s) entries (settled_past s fresh.site fresh.good fresh.none) fresh.site (settled_good s fresh.site fresh.good) (subst IsGood (sym whole) fresh.good) (subst (λ n. IsJournal n entries) (sym whole) legal)

    counted : settled s ≡ shifted s.count s.fleet.first (checkpoint_state s)
    counted = λ i. recounted (checkpoint_state s) s.fleet.first (count_is i) (base_is i)
      where
        count_is : s.count ≡ s.count + 0
        count_is = omega arith

        base_is : s.base ≡ s.count + 0
        base_is = omega (arith, fresh.base)

    alone : JournalShifted s.count s.fleet.first (checkpoint_state s) entries
    alone = journal_shifted s.count s.fleet.first (checkpoint_state s) entries (subst (λ n. IsJournal n entries) counted alike.legal)
        (subst (λ n. inner_marks n entries ≡ []) counted (sym alike.marks ∙ (ap (λ n. inner_marks n entries) whole ∙ none)))

    then : State
    then = state_after (checkpoint_state s) entries

    later : State
    later = shifted s.count s.fleet.first then

    later_is : state_after (settled s) entries ≡ later
    later_is = ap (λ n. state_after n entries) counted ∙ alone.reaches

    past : IsPast s.fleet later.fleet
    past = subst (λ (n : State). IsPast s.fleet n.fleet) later_is alike.past

    reaches : state_after s entries ≡ state_with s.fleet later
    reaches = ap (λ n. state_after n entries) (sym whole) ∙ (alike.reaches ∙ ap (state_with s.fleet) later_is)

-- entries whose first opens a segment, and no other of them, stand alone
pub opened_alone : (s : State) → IsSite s.fleet.site → IsGood s → (entry : Entry) (entries : List Entry) → IsJournal s (entry ∷ entries) → opens_segment s entry ≡ true → inner_marks (turn_at s entry).after entries ≡ [] → StandAlone s (entry ∷ entries)
opened_alone s is_site good entry entries legal opens none =
    let alone = fresh_alone (begun s) fresh (entry ∷ entries) (o.told, subst (λ n. IsJournal n entries) o.same legal.1) marks_none in
    record { legal = alone.legal; whole = alone.whole; same = subst (λ n. ShowsSame n (state_after (checkpoint_state s) (entry ∷ entries))) (ap (λ n. state_after n entries) (sym o.same)) alone.same }
  where
    o : Opened s entry
    o = entry_opens s entry good.base legal.0 opens

    fresh : IsFresh (begun s)
    fresh = record {
      site = is_site;
      good = record {
        plan = good.plan;
        places = good.places;
        routes = good.routes;
        first = good.first;
        numbers = good.numbers;
        base = omega arith;
        room = (let room = good.room in let base = good.base in omega arith);
        total = good.total;
      };
      base = refl;
      none = o.settled;
    }

    marks_none : inner_marks (begun s) (entry ∷ entries) ≡ []
    marks_none = (λ i. cond (o.inside i) (mark_at (begun s) ∷ []) [] ++ inner_marks (sym o.same i) entries) ∙ none
