-- What the state that a legal journal reaches counts: its entries; and the cap stays.
use Rattle.std.proofs.Common.{◌≡◌, ◌+◌, List, [], ◌∷◌, length, ap, ◌∙◌, refl, arith}
use Rattle.fleet_base.specs.declared.entries.Entry.{Entry}
use Rattle.fleet_model.specs.Good.{IsGood}
use Rattle.fleet_model.specs.Journals.{IsJournal, state_after, turn_at}
use Rattle.fleet_model.specs.Sites.{IsSite}
use Rattle.fleet_model.specs.States.{State}
use Rattle.fleet_model.proofs.Changes.{changed_cap, changed_count}
use Rattle.fleet_model.proofs.GoodStates.{accepts_at, turn_good}

-- each entry is counted, and the cap stays
pub journal_counts : (s : State) (journal : List Entry) → IsSite s.fleet.site → IsGood s → IsJournal s journal → ((state_after s journal).count ≡ s.count + length journal) × ((state_after s journal).cap ≡ s.cap)
journal_counts s [] is_site good h = (omega arith, refl)
journal_counts s (entry ∷ entries) is_site good h =
    let a = accepts_at s entry is_site good h.0 in
    let g = turn_good s entry is_site good h.0 in
    let rest = journal_counts (turn_at s entry).after entries g.1 g.0 h.1 in
    let count : (turn_at s entry).after.count ≡ s.count + 1 = ap (λ (t : State). t.count) a.after_is ∙ changed_count s entry.robot.0 a.change in (
      omega (arith, rest.0, count),
      rest.1 ∙ ap (λ (t : State). t.cap) a.after_is ∙ changed_cap s entry.robot.0 a.change,
    )
