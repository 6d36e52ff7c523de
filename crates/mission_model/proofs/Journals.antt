-- Journals with one entry more, and what an entry leaves as it was.
use Rattle.std.proofs.Common.{◌≡◌, ℕ, ◌+◌, ◌≤◌, refl, ap, ◌∙◌, List, [], ◌∷◌, ◌++◌, arith, Some}
use Rattle.fleet_base.specs.declared.entries.Entry.{Entry}
use Rattle.fleet_base.specs.declared.limits.TheConstants.{MAX_COUNT}
use Rattle.fleet_model.specs.Sites.{IsSite}
use Rattle.fleet_model.specs.Plans.{end_of}
use Rattle.fleet_model.specs.States.{State}
use Rattle.fleet_model.specs.Good.{IsGood}
use Rattle.fleet_model.specs.Journals.{turn_at, IsJournal, state_after}
use Rattle.fleet_model.proofs.Changes.{Change, Grew, Kept, Dropped, Cut, Did, changed, changed_count, changed_cap, changed_site, changed_starts}
use Rattle.fleet_model.proofs.Ends.{merged_end}
use Rattle.fleet_model.proofs.Withdraw.{withdrawn_end}
use Rattle.fleet_model.proofs.GoodStates.{accepts_at, journal_good}
use Rattle.fleet_model.proofs.Soundness.{state_after-append}

-- a legal journal with the entry of an accepted call behind it is legal
pub journal_more : (s : State) (journal : List Entry) (entry : Entry) → IsJournal s journal → (turn_at (state_after s journal) entry).entry ≡ Some entry → IsJournal s (journal ++ entry ∷ [])
journal_more s [] entry h told = (told, tt)
journal_more s (x ∷ xs) entry h told = (h.0, journal_more (turn_at s x).after xs entry h.1 told)

-- the last entry of a legal journal is that of an accepted call
pub last_told : (s : State) (journal : List Entry) (entry : Entry) → IsJournal s (journal ++ entry ∷ []) → IsJournal s journal × ((turn_at (state_after s journal) entry).entry ≡ Some entry)
last_told s [] entry h = (tt, h.0)
last_told s (x ∷ xs) entry h = let r = last_told (turn_at s x).after xs entry h.1 in ((h.0, r.0), r.1)

-- the state behind one entry more
pub state_more : (s : State) (journal : List Entry) (entry : Entry) → state_after s (journal ++ entry ∷ []) ≡ (turn_at (state_after s journal) entry).after
state_more s journal entry = state_after-append s journal (entry ∷ [])

-- a change of one robot's leaves the others their ends
changed_end : (s : State) (r : ℕ) (c : Change) (q : ℕ) → IsGood s → (r ≡ q → ⊥) → end_of (changed s r c).fleet q ≡ end_of s.fleet q
changed_end s r (Grew route) q good apart = merged_end s.fleet r route q apart
changed_end s r (Kept route) q good apart = refl
changed_end s r Dropped q good apart = refl
changed_end s r Cut q good apart = withdrawn_end s.fleet r q good.plan apart
changed_end s r (Did e) q good apart = refl

-- an accepted call of another robot leaves a robot its end
pub end_still : (s : State) (entry : Entry) (q : ℕ) → IsSite s.fleet.site → IsGood s → (turn_at s entry).entry ≡ Some entry → (entry.robot.0 ≡ q → ⊥) → end_of (turn_at s entry).after.fleet q ≡ end_of s.fleet q
end_still s entry q is_site good told apart =
    let a = accepts_at s entry is_site good told in
    ap (λ n. end_of n.fleet q) a.after_is ∙ changed_end s entry.robot.0 a.change q good apart

-- what an accepted call does to a state: one call more, which a run may still come to, and the same cap and starts
pub record Counted (s : State) (after : State) : Type 0 where
  pub count : after.count ≡ s.count + 1
  pub cap : after.cap ≡ s.cap
  pub starts : after.fleet.starts ≡ s.fleet.starts
  pub room : s.count + 1 ≤ MAX_COUNT

pub counted : (s : State) (entry : Entry) → IsSite s.fleet.site → IsGood s → (turn_at s entry).entry ≡ Some entry → Counted s (turn_at s entry).after
counted s entry is_site good told =
    let a = accepts_at s entry is_site good told in
    record {
      count = ap (λ n. n.count) a.after_is ∙ changed_count s entry.robot.0 a.change;
      cap = ap (λ n. n.cap) a.after_is ∙ changed_cap s entry.robot.0 a.change;
      starts = ap (λ n. n.fleet.starts) a.after_is ∙ changed_starts s entry.robot.0 a.change;
      room = (let r = a.total in omega arith);
    }

-- a journal keeps the cap and the starts
pub journal_keeps : (s : State) (journal : List Entry) → IsSite s.fleet.site → IsGood s → IsJournal s journal → ((state_after s journal).cap ≡ s.cap) × ((state_after s journal).fleet.starts ≡ s.fleet.starts)
journal_keeps s [] is_site good h = (refl, refl)
journal_keeps s (entry ∷ entries) is_site good h =
    let c = counted s entry is_site good h.0 in
    let g = journal_good s (entry ∷ []) is_site good (h.0, tt) in
    let r = journal_keeps (turn_at s entry).after entries g.1 g.0 h.1 in
    (r.0 ∙ c.cap, r.1 ∙ c.starts)

-- a journal keeps the site
pub journal_site : (s : State) (journal : List Entry) → IsSite s.fleet.site → IsGood s → IsJournal s journal → (state_after s journal).fleet.site ≡ s.fleet.site
journal_site s [] is_site good h = refl
journal_site s (entry ∷ entries) is_site good h =
    let a = accepts_at s entry is_site good h.0 in
    let g = journal_good s (entry ∷ []) is_site good (h.0, tt) in
    journal_site (turn_at s entry).after entries g.1 g.0 h.1 ∙ (ap (λ n. n.fleet.site) a.after_is ∙ changed_site s entry.robot.0 a.change)
