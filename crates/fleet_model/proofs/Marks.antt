-- The marks of a legal journal cut it into segments that stand alone.
use Rattle.std.proofs.Common.{◌≡◌, ℕ, ◌+◌, ◌*◌, ◌<◌, ◌≤◌, Bool, true, false, cond, ◌==◌, refl, sym, ap, ◌∙◌, subst, List, [], ◌∷◌, ◌++◌, length, take, drop, arith, append_assoc, length-append}
use Rattle.std.proofs.lemmas.Bool.{eqb-true, not-false}
use Rattle.std.proofs.lemmas.List.{append-nil}
use Rattle.std.proofs.Math.Seq.{take-append_seam, drop-append_seam}
use Rattle.fleet_base.specs.declared.entries.Entry.{Entry}
use Rattle.fleet_base.specs.declared.limits.TheConstants.{MAX_FIRST}
use Rattle.fleet_base.specs.declared.marks.Mark.{Mark}
use Rattle.fleet_model.specs.Sites.{IsSite}
use Rattle.fleet_model.specs.Plans.{unfinished}
use Rattle.fleet_model.specs.States.{State}
use Rattle.fleet_model.specs.Journals.{IsJournal, state_after, turn_at}
use Rattle.fleet_model.specs.Deferral.{ends}
use Rattle.fleet_model.specs.Good.{IsGood, IsOpening}
use Rattle.fleet_model.specs.Segments.{StandAlone, entries_between, inner_marks, mark_at, marks, opens_segment, segment_end}
use Rattle.fleet_model.proofs.Counts.{journal_counts}
use Rattle.fleet_model.proofs.Changes.{changed_first}
use Rattle.fleet_model.proofs.GoodStates.{accepts_at, journal_good, turn_good}
use Rattle.fleet_model.proofs.Recounts.{Opened, entry_opens, none_marked}
use Rattle.fleet_model.proofs.Settled.{ends_count, ends_free, settled_good}
use Rattle.fleet_model.proofs.Soundness.{journal_parts, state_after-append}
use Rattle.fleet_model.proofs.StandingAlone.{IsFresh, fresh_alone, opened_alone}

-- where an inner mark stands: before an entry that opens a segment, between the marks in front of it and those behind
pub record IsInnerMark (s : State) (entries : List Entry) (earlier : List Mark) (mark : Mark) (later : List Mark) : Type 0 where
  pub front : List Entry
  pub entry : Entry
  pub back : List Entry
  pub splits : entries ≡ front ++ entry ∷ back
  pub at : mark ≡ mark_at (state_after s front)
  pub opens : opens_segment (state_after s front) entry ≡ true
  pub before : inner_marks s front ≡ earlier
  pub behind : inner_marks (turn_at (state_after s front) entry).after back ≡ later

-- a list with something in it isn't empty
not_empty : (earlier : List Mark) (mark : Mark) (later : List Mark) → [] ≡ earlier ++ mark ∷ later → ⊥
not_empty [] mark later h = cc
not_empty (x ∷ xs) mark later h = cc

-- the same with one more entry in front, which opens a segment or doesn't
inner_more : (s : State) (entry : Entry) (entries : List Entry) (mark : Mark) (later : List Mark) → ((earlier : List Mark) → inner_marks (turn_at s entry).after entries ≡ earlier ++ mark ∷ later → IsInnerMark (turn_at s entry).after entries earlier mark later)
    → (b : Bool) → opens_segment s entry ≡ b → (earlier : List Mark) → cond b (mark_at s ∷ []) [] ++ inner_marks (turn_at s entry).after entries ≡ earlier ++ mark ∷ later → IsInnerMark s (entry ∷ entries) earlier mark later
inner_more s entry entries mark later ih false opens earlier h =
    let f = ih earlier h in
    record {
      front = entry ∷ f.front;
      entry = f.entry;
      back = f.back;
      splits = ap (λ es. entry ∷ es) f.splits;
      at = f.at;
      opens = f.opens;
      before = (λ i. cond (opens i) (mark_at s ∷ []) [] ++ inner_marks (turn_at s entry).after f.front) ∙ f.before;
      behind = f.behind;
    }
inner_more s entry entries mark later ih true opens [] h =
    let first : mark_at s ≡ mark = cc in
    let rest : inner_marks (turn_at s entry).after entries ≡ later = cc in
    record { front = []; entry = entry; back = entries; splits = refl; at = sym first; opens = opens; before = refl; behind = rest }
inner_more s entry entries mark later ih true opens (x ∷ xs) h =
    let first : mark_at s ≡ x = cc in
    let rest : inner_marks (turn_at s entry).after entries ≡ xs ++ mark ∷ later = cc in
    let f = ih xs rest in
    record {
      front = entry ∷ f.front;
      entry = f.entry;
      back = f.back;
      splits = ap (λ es. entry ∷ es) f.splits;
      at = f.at;
      opens = f.opens;
      before = (λ i. cond (opens i) (mark_at s ∷ []) [] ++ inner_marks (turn_at s entry).after f.front) ∙ (λ i. first i ∷ f.before i);
      behind = f.behind;
    }

-- each inner mark stands before an entry that opens a segment
pub inner_mark : (s : State) (entries : List Entry) (earlier : List Mark) (mark : Mark) (later : List Mark) → inner_marks s entries ≡ earlier ++ mark ∷ later → IsInnerMark s entries earlier mark later
inner_mark s [] earlier mark later h = absurd (not_empty earlier mark later h)
inner_mark s (entry ∷ entries) earlier mark later h =
    inner_more s entry entries mark later (λ others k. inner_mark (turn_at s entry).after entries others mark later k) (opens_segment s entry) refl earlier h

-- the entries up to the first of these marks, or to the end
record IsCut (s : State) (entries : List Entry) (later : List Mark) : Type 0 where
  first : List Entry
  back : List Entry
  splits : entries ≡ first ++ back
  whole : inner_marks s first ≡ []
  end : (journal : List Entry) → length journal ≡ s.count + length entries → segment_end later journal ≡ s.count + length first

cut : (s : State) → IsSite s.fleet.site → IsGood s → (entries : List Entry) → IsJournal s entries → (later : List Mark) → inner_marks s entries ≡ later → IsCut s entries later
cut s is_site good entries legal [] h = record { first = entries; back = []; splits = sym (append-nil entries); whole = h; end = λ journal l. l }
cut s is_site good entries legal (mark ∷ later) h =
    let f = inner_mark s entries [] mark later h in
    let front = (journal_parts s f.front (f.entry ∷ f.back) (subst (IsJournal s) f.splits legal)).0 in
    record { first = f.front; back = f.entry ∷ f.back; splits = f.splits; whole = f.before; end = λ journal l. ap (λ (x : Mark). x.before) f.at ∙ (journal_counts s f.front is_site good front).0 }

-- the entries between two places of a journal
between : (front segment back : List Entry) → entries_between (length front) (length front + length segment) (front ++ (segment ++ back)) ≡ segment
between front segment back =
    (λ i. drop (length front) (take (sym (length-append front segment) i) (sym (append_assoc front segment back) i)))
    ∙ (ap (drop (length front)) (take-append_seam (front ++ segment) back) ∙ drop-append_seam front segment)

-- a segment that stands alone, at its places
at_places : (opening : State) (journal front segment back : List Entry) (from upto : ℕ) → journal ≡ front ++ (segment ++ back) → from ≡ length front → upto ≡ length front + length segment → StandAlone (state_after opening front) segment
    → StandAlone (state_after opening (take from journal)) (entries_between from upto journal)
at_places opening journal front segment back from upto splits from_is upto_is alone =
    subst (λ es. StandAlone (state_after opening es) (entries_between from upto journal)) (sym front_is)
    (subst (λ es. StandAlone (state_after opening front) es) (sym segment_is) alone)
  where
    front_is : take from journal ≡ front
    front_is = (λ i. take (from_is i) (splits i)) ∙ take-append_seam front (segment ++ back)

    segment_is : entries_between from upto journal ≡ segment
    segment_is = (λ i. entries_between (from_is i) (upto_is i) (splits i)) ∙ between front segment back

module _ (opening : State) (is_site : IsSite opening.fleet.site) (good : IsGood opening) (count : opening.count ≡ 0) (none : unfinished opening.fleet ≡ []) (journal : List Entry) (legal : IsJournal opening journal) where
  -- for each mark of the journal the entries up to the next, or to the end, stand alone
  pub segments_alone : (earlier : List Mark) (mark : Mark) (later : List Mark) → marks opening journal ≡ earlier ++ mark ∷ later
      → StandAlone (state_after opening (take mark.before journal)) (entries_between mark.before (segment_end later journal) journal)
  segments_alone [] mark later h = at_places opening journal [] c.first c.back mark.before (segment_end later journal) c.splits before_is end_is (fresh_alone opening fresh c.first first_legal c.whole)
    where
      at : mark_at opening ≡ mark
      at = cc

      rest : inner_marks opening journal ≡ later
      rest = cc

      c : IsCut opening journal later
      c = cut opening is_site good journal legal later rest

      before_is : mark.before ≡ 0
      before_is = ap (λ (x : Mark). x.before) (sym at) ∙ count

      end_is : segment_end later journal ≡ 0 + length c.first
      end_is = c.end journal (omega (arith, count)) ∙ ap (λ n. n + length c.first) count

      first_legal : IsJournal opening c.first
      first_legal = (journal_parts opening c.first c.back (subst (IsJournal opening) c.splits legal)).0

      fresh : IsFresh opening
      fresh = record { site = is_site; good = good; base = (let low = good.base in omega (arith, count)); none = none }
  segments_alone (x ∷ xs) mark later h = at_places opening journal f.front (f.entry ∷ c.first) c.back mark.before (segment_end later journal) splits before_is end_is (opened_alone s g.1 g.0 f.entry c.first first_legal f.opens c.whole)
    where
      rest : inner_marks opening journal ≡ xs ++ mark ∷ later
      rest = cc

      f : IsInnerMark opening journal xs mark later
      f = inner_mark opening journal xs mark later rest

      s : State
      s = state_after opening f.front

      next : State
      next = (turn_at s f.entry).after

      parts : IsJournal opening f.front × IsJournal s (f.entry ∷ f.back)
      parts = journal_parts opening f.front (f.entry ∷ f.back) (subst (IsJournal opening) f.splits legal)

      g : IsGood s × IsSite s.fleet.site
      g = journal_good opening f.front is_site good parts.0

      g_next : IsGood next × IsSite next.fleet.site
      g_next = turn_good s f.entry g.1 g.0 parts.1.0

      c : IsCut next f.back later
      c = cut next g_next.1 g_next.0 f.back parts.1.1 later f.behind

      splits : journal ≡ f.front ++ ((f.entry ∷ c.first) ++ c.back)
      splits = f.splits ∙ ap (λ es. f.front ++ f.entry ∷ es) c.splits

      count_is : s.count ≡ length f.front
      count_is = (journal_counts opening f.front is_site good parts.0).0 ∙ ap (λ n. n + length f.front) count ∙ omega arith

      next_count : next.count ≡ length f.front + 1
      next_count = (journal_counts s (f.entry ∷ []) g.1 g.0 (parts.1.0, tt)).0 ∙ ap (λ n. n + 1) count_is

      before_is : mark.before ≡ length f.front
      before_is = ap (λ (x : Mark). x.before) f.at ∙ count_is

      whole : length journal ≡ next.count + length f.back
      whole = ap length f.splits ∙ (length-append f.front (f.entry ∷ f.back) ∙ omega (arith, next_count))

      end_is : segment_end later journal ≡ length f.front + length (f.entry ∷ c.first)
      end_is = c.end journal whole ∙ omega (arith, next_count)

      first_legal : IsJournal s (f.entry ∷ c.first)
      first_legal = (parts.1.0, (journal_parts next c.first c.back (subst (IsJournal next) c.splits parts.1.1)).0)

-- what stands at a mark

-- entries that open no segment leave the base
base_stays : (s : State) (entries : List Entry) → inner_marks s entries ≡ [] → (state_after s entries).base ≡ s.base
base_stays s [] h = refl
base_stays s (entry ∷ entries) h =
    let none = none_marked (opens_segment s entry) (mark_at s) (inner_marks (turn_at s entry).after entries) h in
    base_stays (turn_at s entry).after entries none.1 ∙ eqb-true (turn_at s entry).after.base s.base (not-false ((turn_at s entry).after.base == s.base) none.0)

-- one more entry adds a mark where it opens a segment
inner_marks_more : (s : State) (entries : List Entry) (entry : Entry) → inner_marks s (entries ++ entry ∷ []) ≡ inner_marks s entries ++ cond (opens_segment (state_after s entries) entry) (mark_at (state_after s entries) ∷ []) []
inner_marks_more s [] entry = append-nil (cond (opens_segment s entry) (mark_at s ∷ []) [])
inner_marks_more s (x ∷ xs) entry =
    ap (λ ms. cond (opens_segment s x) (mark_at s ∷ []) [] ++ ms) (inner_marks_more (turn_at s x).after xs entry)
    ∙ sym (append_assoc (cond (opens_segment s x) (mark_at s ∷ []) []) (inner_marks (turn_at s x).after xs) _)

pub marks_more : (s : State) (entries : List Entry) (entry : Entry) → marks s (entries ++ entry ∷ []) ≡ marks s entries ++ cond (opens_segment (state_after s entries) entry) (mark_at (state_after s entries) ∷ []) []
marks_more s entries entry = ap (λ ms. mark_at s ∷ ms) (inner_marks_more s entries entry)

-- the state at a mark: nothing is unfinished, and the base is still below
pub record IsAtMark (opening : State) (journal : List Entry) (mark : Mark) (s : State) : Type 0 where
  pub place : state_after opening (take mark.before journal) ≡ s
  pub at : mark ≡ mark_at s
  pub site : IsSite s.fleet.site
  pub good : IsGood s
  pub first : s.fleet.first ≡ opening.fleet.first
  pub none : unfinished s.fleet ≡ []

-- the run's first number stays
first_stays : (s : State) (journal : List Entry) → IsSite s.fleet.site → IsGood s → IsJournal s journal → (state_after s journal).fleet.first ≡ s.fleet.first
first_stays s [] is_site good h = refl
first_stays s (entry ∷ entries) is_site good h =
    let a = accepts_at s entry is_site good h.0 in
    let g = turn_good s entry is_site good h.0 in
    first_stays (turn_at s entry).after entries g.1 g.0 h.1 ∙ (ap (λ (n : State). n.fleet.first) a.after_is ∙ changed_first s entry.robot.0 a.change)

module _ (opening : State) (is_site : IsSite opening.fleet.site) (good : IsGood opening) (count : opening.count ≡ 0) (none : unfinished opening.fleet ≡ []) (journal : List Entry) (legal : IsJournal opening journal) where
  -- the opening state's base is 0 too
  base_zero : opening.base ≡ 0
  base_zero = let low = good.base in omega (arith, count)

  -- an inner mark, with its state and what its entry leaves
  record Inner (earlier : List Mark) (mark : Mark) (later : List Mark) : Type 0 where
    found : IsInnerMark opening journal earlier mark later
    state : IsAtMark opening journal mark (state_after opening found.front)
    opened : Opened (state_after opening found.front) found.entry
    length_front : mark.before ≡ length found.front
    rest : IsJournal (turn_at (state_after opening found.front) found.entry).after found.back

  inner : (earlier : List Mark) (mark : Mark) (later : List Mark) → inner_marks opening journal ≡ earlier ++ mark ∷ later → Inner earlier mark later
  inner earlier mark later h = record {
    found = f;
    state = record {
      place = ap (state_after opening) ((λ i. take (before_is i) (f.splits i)) ∙ take-append_seam f.front (f.entry ∷ f.back));
      at = f.at;
      site = g.1;
      good = g.0;
      first = first_stays opening f.front is_site good parts.0;
      none = opened.settled;
    };
    opened = opened;
    length_front = before_is;
    rest = parts.1.1;
  }
    where
      f : IsInnerMark opening journal earlier mark later
      f = inner_mark opening journal earlier mark later h

      parts : IsJournal opening f.front × IsJournal (state_after opening f.front) (f.entry ∷ f.back)
      parts = journal_parts opening f.front (f.entry ∷ f.back) (subst (IsJournal opening) f.splits legal)

      g : IsGood (state_after opening f.front) × IsSite (state_after opening f.front).fleet.site
      g = journal_good opening f.front is_site good parts.0

      opened : Opened (state_after opening f.front) f.entry
      opened = entry_opens (state_after opening f.front) f.entry g.0.base parts.1.0 f.opens

      before_is : mark.before ≡ length f.front
      before_is = ap (λ (x : Mark). x.before) f.at ∙ ((journal_counts opening f.front is_site good parts.0).0 ∙ ap (λ n. n + length f.front) count ∙ omega arith)

  -- at each mark stands such a state
  pub at_mark : (earlier : List Mark) (mark : Mark) (later : List Mark) → marks opening journal ≡ earlier ++ mark ∷ later → (s : State) × IsAtMark opening journal mark s
  at_mark [] mark later h =
      let at : mark_at opening ≡ mark = cc in
      (opening, record { place = ap (λ n. state_after opening (take n journal)) (ap (λ (x : Mark). x.before) (sym at) ∙ count); at = sym at; site = is_site; good = good; first = refl; none = none })
  at_mark (x ∷ xs) mark later h =
      let rest : inner_marks opening journal ≡ xs ++ mark ∷ later = cc in
      let i = inner xs mark later rest in
      (state_after opening i.found.front, i.state)

  -- a mark but the first has more entries before it than the base of its state, and stands before an entry
  pub mark_inside : (x : Mark) (earlier : List Mark) (mark : Mark) (later : List Mark) → marks opening journal ≡ (x ∷ earlier) ++ mark ∷ later → mark.before < length journal
  mark_inside x earlier mark later h =
      let rest : inner_marks opening journal ≡ earlier ++ mark ∷ later = cc in
      let i = inner earlier mark later rest in
      omega (arith, i.length_front, ap length i.found.splits, length-append i.found.front (i.found.entry ∷ i.found.back))

  -- the base of the last state is that of the last mark
  pub last_mark : (earlier : List Mark) (mark : Mark) → marks opening journal ≡ earlier ++ mark ∷ [] → (state_after opening journal).base ≡ mark.before
  last_mark [] mark h =
      let at : mark_at opening ≡ mark = cc in
      let rest : inner_marks opening journal ≡ [] = cc in
      base_stays opening journal rest ∙ (base_zero ∙ (sym count ∙ ap (λ (x : Mark). x.before) at))
  last_mark (x ∷ xs) mark h =
      let rest : inner_marks opening journal ≡ xs ++ mark ∷ [] = cc in
      let i = inner xs mark [] rest in
      ap (λ (n : State). n.base) (ap (state_after opening) i.found.splits ∙ state_after-append opening i.found.front (i.found.entry ∷ i.found.back))
      ∙ (base_stays (turn_at (state_after opening i.found.front) i.found.entry).after i.found.back i.found.behind ∙ (i.opened.base ∙ sym (ap (λ (x : Mark). x.before) i.found.at)))

-- the marks rise
pub marks_rise : (opening : State) → IsSite opening.fleet.site → IsGood opening → opening.count ≡ 0 → unfinished opening.fleet ≡ [] → (journal : List Entry) → IsJournal opening journal
    → (earlier : List Mark) (mark other : Mark) (later : List Mark) → marks opening journal ≡ earlier ++ mark ∷ other ∷ later → mark.before < other.before
marks_rise opening is_site good count none journal legal [] mark other later h =
    let at : mark_at opening ≡ mark = cc in
    let rest : inner_marks opening journal ≡ other ∷ later = cc in
    let i = inner opening is_site good count none journal legal [] other later rest in
    let front = (journal_parts opening i.found.front (i.found.entry ∷ i.found.back) (subst (IsJournal opening) i.found.splits legal)).0 in
    let base = last_mark opening is_site good count none i.found.front front [] mark (λ j. at j ∷ i.found.before j) in
    omega (arith, base, i.opened.late, ap (λ (x : Mark). x.before) i.found.at)
marks_rise opening is_site good count none journal legal (x ∷ xs) mark other later h =
    let first : mark_at opening ≡ x = cc in
    let rest : inner_marks opening journal ≡ xs ++ mark ∷ other ∷ later = cc in
    let i = inner opening is_site good count none journal legal (xs ++ mark ∷ []) other later (rest ∙ sym (append_assoc xs (mark ∷ []) (other ∷ later))) in
    let front = (journal_parts opening i.found.front (i.found.entry ∷ i.found.back) (subst (IsJournal opening) i.found.splits legal)).0 in
    let base = last_mark opening is_site good count none i.found.front front (x ∷ xs) mark (λ j. first j ∷ i.found.before j) in
    omega (arith, base, i.opened.late, ap (λ (y : Mark). y.before) i.found.at)

-- the numbers that stand at marks keep to their bounds
pub mark_numbers : (opening : State) (journal : List Entry) (mark : Mark) (s : State) → IsAtMark opening journal mark s → (1 ≤ mark.next.0) × (mark.next.0 ≤ opening.fleet.first + 7161 * mark.before)
mark_numbers opening journal mark s at =
    let next : mark.next.0 ≡ s.fleet.next = ap (λ (x : Mark). x.next.0) at.at in
    let before : mark.before ≡ s.count = ap (λ (x : Mark). x.before) at.at in
    (omega (arith, next, at.good.plan.first, at.good.plan.opened), omega (arith, next, before, at.first, at.good.numbers))

-- the checkpoint at a mark may open a run
pub checkpoint_opens : (s : State) → IsSite s.fleet.site → IsGood s → s.fleet.next ≤ MAX_FIRST → IsOpening s.fleet.site (ends s.fleet) s.pending s.fleet.next s.cap
checkpoint_opens s is_site good few = record {
  first = omega (arith, good.plan.first, good.plan.opened);
  bounded = few;
  apart = ends_free s is_site good;
  places = good.places ∙ sym (ends_count s is_site good);
  routes = λ r route pends. let is = (settled_good s is_site good).routes r route pends in record { long = is.long; short = is.short; linked = is.linked; begins = is.begins };
  room = (let room = good.room in let base = good.base in omega arith);
  total = (let total = good.total in omega arith);
}
