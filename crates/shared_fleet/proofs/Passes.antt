-- The list of passes, as it is made and as it comes back.
use Rattle.std.proofs.Common.{◌≡◌, ℕ, zero, suc, ◌+◌, ◌-◌, ◌<◌, ◌≤◌, List, [], ◌∷◌, ◌++◌, length, map, get_or, take, drop, Some, None, refl, ap, sym, subst, ◌∙◌, arith}
use Rattle.std.specs.Prelude.{All}
use Rattle.std.specs.List.{range_with_len, AllByRecursion}
use Rattle.std.proofs.lemmas.List.Elements.{All-from_recursion, recursion_from_All, All-cons, All-head, All-tail}
use Rattle.std.proofs.lemmas.List.FromFn.{length-range_with_len, map-range_with_len_more}
use mathlib.Core.List.{IsPrefix}
use Rattle.fleet_base.specs.declared.entries.Entry.{Entry}
use Rattle.turn_lock.specs.Locks.{Agrees, Known, Lock, Seat, behind, first_seat, known, next_seat}
use Rattle.turn_lock.specs.Locks.{IsOf as IsSeatOf}
use Rattle.turn_lock.proofs.Lists.{prefix_self, behind_self}
use Rattle.shared_fleet.specs.declared.kept.Kept.{Kept}
use Rattle.shared_fleet.specs.Tokens.{ArePasses, IsOf, Shared, Token, fresh_pass, of_robot}
use Rattle.shared_fleet.specs.Resting.{Fits, Rests, note, shared_of, token_of}
use Rattle.shared_fleet.proofs.Through.{maker, same_some, seat_own}

-- the first seat of a lock that was set up, once it has made so many
abbrev pub started : Lock Kept → ℕ → Seat Kept Entry
started l made = record (first_seat l l.opening.fleet.journal) { made = made }

module _ (l : Lock Kept) where
  -- a seat that has seen the opening journal and has no entries fits
  fits_fresh : (s : Seat Kept Entry) → s.number < length l.opening.fleet.starts → s.seen ≡ l.opening.fleet.journal → s.own ≡ [] → (s.number ≡ 0 → s.made + 1 ≡ length l.opening.fleet.starts) → Fits l.opening.fleet s
  fits_fresh s few saw none leads =
      let j = l.opening.fleet.journal in
      record {
        robot = few;
        opens = subst (λ (m : List Entry). IsPrefix j m) (sym saw) (prefix_self j);
        mine = ap (λ (m : List Entry). of_robot s.number (behind j m)) saw ∙ ap (of_robot s.number) (behind_self j) ∙ sym none;
        leads = leads;
      }

  rests_fresh : (s : Seat Kept Entry) → s.opening ≡ Some l.opening → s.taken ≡ None → s.joined ≡ [] → Fits l.opening.fleet s → Rests s
  rests_fresh s of idle alone fits = record { idle = idle; alone = alone; fits = λ k h. let same : l.opening ≡ k = same_some l.opening k (sym of ∙ h) in subst (λ (w : Kept). Fits w.fleet s) same fits }

  next_rests : (made : ℕ) → made + 1 < length l.opening.fleet.starts → Rests (next_seat (started l made))
  next_rests made few = rests_fresh (next_seat (started l made)) refl refl refl (fits_fresh (next_seat (started l made)) few refl refl (λ h. absurd (omega arith)))

  first_rests : (made : ℕ) → made + 1 ≡ length l.opening.fleet.starts → Rests (started l made)
  first_rests made all = rests_fresh (started l made) refl refl refl (fits_fresh (started l made) (omega arith) refl refl (λ h. all))

  abbrev pub fresh : ℕ → Token
  fresh = fresh_pass (shared_of l 0)

  -- the first seat before it makes the seat of robot k
  module _ (k : ℕ) (some : 1 ≤ k) (first : Seat Kept Entry) (is : first ≡ started l (k - 1)) where
    pub has_room : first.made + 1 ≡ k
    has_room = let made : first.made ≡ k - 1 = ap (λ (t : Seat Kept Entry). t.made) is in omega arith

    pub start_own : IsSeatOf l first
    start_own = record { lock_is = ap (λ (t : Seat Kept Entry). t.lock) is; opening_is = ap (λ (t : Seat Kept Entry). t.opening) is }

    pub start_number : first.number ≡ 0
    start_number = ap (λ (t : Seat Kept Entry). t.number) is

    pub made_more : (now : Seat Kept Entry) → now ≡ record first { made = first.made + 1 } → now ≡ started l (k + 1 - 1)
    made_more now e = let same : k - 1 + 1 ≡ k + 1 - 1 = omega arith in e ∙ ap (λ (t : Seat Kept Entry). record t { made = t.made + 1 }) is ∙ ap (λ m. started l m) same

    module _ (seat : Seat Kept Entry) (new : seat ≡ next_seat first) where
      is_next : seat ≡ next_seat (started l (k - 1))
      is_next = new ∙ ap (λ (t : Seat Kept Entry). next_seat t) is

      -- the new seat rests
      pub new_rests : (seen : ℕ) → seen ≡ length l.opening.fleet.journal → k < length l.opening.fleet.starts → Rests seat × (length seat.seen ≡ seen)
      new_rests seen long few =
          let less : k - 1 + 1 < length l.opening.fleet.starts = omega arith in
          (subst (λ (t : Seat Kept Entry). Rests t) (sym is_next) (next_rests (k - 1) less), ap (λ (t : Seat Kept Entry). length t.seen) is_next ∙ sym long)

      -- and its pass is the next one
      pub one_more : (passes now : List Token) → passes ≡ map fresh (range_with_len 1 (k - 1)) → now ≡ passes ++ token_of seat ∷ [] → now ≡ map fresh (range_with_len 1 (k + 1 - 1))
      one_more passes now are e =
          let here : k - 1 + 1 ≡ k = omega arith in
          let place : 1 + (k - 1) ≡ k = omega arith in
          let same : k - 1 + 1 ≡ k + 1 - 1 = omega arith in
          e ∙ ap (λ (t : Seat Kept Entry). passes ++ token_of t ∷ []) is_next
          ∙ ap (λ m. passes ++ fresh m ∷ []) here
          ∙ ap (λ m. m ++ fresh k ∷ []) are
          ∙ sym (map-range_with_len_more fresh 1 (k - 1) k place)
          ∙ ap (λ m. map fresh (range_with_len 1 m)) same

    -- once it has made all others, it rests
    pub last_rests : (seen : ℕ) → seen ≡ length l.opening.fleet.journal → k ≡ length l.opening.fleet.starts → Rests first × (length first.seen ≡ seen)
    last_rests seen long all =
        let made : k - 1 + 1 ≡ length l.opening.fleet.starts = omega arith in
        (subst (λ (t : Seat Kept Entry). Rests t) (sym is) (first_rests (k - 1) made), ap (λ (t : Seat Kept Entry). length t.seen) is ∙ sym long)

  -- and its pass stands in front of the others
  pub all_there : (k : ℕ) (first : Seat Kept Entry) (passes : List Token) → 1 ≤ k → first ≡ started l (k - 1) → passes ≡ map fresh (range_with_len 1 (k - 1)) → token_of first ∷ passes ≡ map fresh (range_with_len 0 k)
  all_there zero first passes some is are = absurd (omega arith)
  all_there (suc n) first passes some is are =
      let one : suc n - 1 ≡ n = omega arith in
      ap (λ (t : Seat Kept Entry). token_of t ∷ passes) is ∙ ap (λ m. fresh 0 ∷ m) (are ∙ ap (λ m. map fresh (range_with_len 1 m)) one)

-- the list that is taken apart: the first element and the rest
pub in_front : (xs rest : List Token) (a : Token) → 0 < length xs → a ≡ get_or xs 0 a → rest ≡ take 0 xs ++ drop 1 xs → xs ≡ a ∷ rest
in_front [] rest a some head tail = absurd (omega arith)
in_front (x ∷ xs) rest a some head tail = ap (λ b. b ∷ xs) (sym head) ∙ ap (λ m. a ∷ m) (sym tail)

length_map : (xs : List Token) → length (map (λ (p : Token). p.robot) xs) ≡ length xs
length_map [] = refl
length_map (x ∷ xs) = ap suc (length_map xs)

-- as many passes as robots
pub as_many : (fleet : Shared) (xs : List Token) → ArePasses fleet xs → length xs ≡ length fleet.opening.starts
as_many fleet xs are = sym (length_map xs) ∙ ap length are.robots ∙ length-range_with_len 0 (length fleet.opening.starts)

first_is_zero : (xs : List ℕ) (a n : ℕ) → a ∷ xs ≡ range_with_len 0 n → a ≡ 0
first_is_zero xs a zero e = cc
first_is_zero xs a (suc n) e = cc

all_at_end : (P : Token → Type 0) (ys rest : List Token) (p : Token) → AllByRecursion P ((ys ++ p ∷ []) ++ rest) → P p
all_at_end P [] rest p all = all.0
all_at_end P (y ∷ ys) rest p all = all_at_end P ys rest p all.1

all_back : (P : Known Entry → Type 0) (ys : List Token) → AllByRecursion P (map note ys) → AllByRecursion (λ y. P (note y)) ys
all_back P [] all = tt
all_back P (y ∷ ys) all = (all.0, all_back P ys all.1)

length_notes : (xs : List Token) → length (map note xs) ≡ length xs
length_notes [] = refl
length_notes (x ∷ xs) = ap suc (length_notes xs)

-- Of a fleet whose passes come back: the pass in front, whose seat takes the others in
module _ (l : Lock Kept) (n : ℕ) (all rest : List Token) (leader : Token) (lead : Seat Kept Entry) (are : ArePasses (shared_of l n) all) (front : all ≡ leader ∷ rest) (shown : token_of lead ≡ leader) (rests : Rests lead) where
  each : All (IsOf (shared_of l n)) (leader ∷ rest)
  each = subst (λ (w : List Token). All (IsOf (shared_of l n)) w) front are.own

  lead_own : IsSeatOf l lead
  lead_own = seat_own l n lead lead (shared_of l n) leader refl shown (All-head (IsOf (shared_of l n)) leader rest each)

  lead_number : lead.number ≡ 0
  lead_number = ap (λ (t : Token). t.robot) shown ∙ first_is_zero (map (λ (p : Token). p.robot) rest) leader.robot (length l.opening.fleet.starts) (ap (λ w. map (λ (p : Token). p.robot) w) (sym front) ∙ are.robots)

  lead_made : lead.made + 1 ≡ length l.opening.fleet.starts
  lead_made = (rests.fits l.opening lead_own.opening_is).leads lead_number

  rest_length : length rest + 1 ≡ length l.opening.fleet.starts
  rest_length = let long : length (leader ∷ rest) ≡ length l.opening.fleet.starts = sym (ap length front) ∙ as_many (shared_of l n) all are in omega arith

  -- the seat in front once it has taken some in
  module _ (first : Seat Kept Entry) (back : List Token) (is : first ≡ record lead { joined = map note back }) where
    pub first_own : IsSeatOf l first
    first_own = record { lock_is = ap (λ (t : Seat Kept Entry). t.lock) is ∙ lead_own.lock_is; opening_is = ap (λ (t : Seat Kept Entry). t.opening) is ∙ lead_own.opening_is }

    pub first_number : first.number ≡ 0
    first_number = ap (λ (t : Seat Kept Entry). t.number) is ∙ lead_number

    pub first_idle : first.taken ≡ None
    first_idle = ap (λ (t : Seat Kept Entry). t.taken) is ∙ rests.idle

    -- the next one that comes back
    module _ (front_ones : List Token) (pass : Token) (seat : Seat Kept Entry) (left : rest ≡ (front_ones ++ pass ∷ []) ++ back) (shows : token_of seat ≡ pass) where
      pub back_own : IsSeatOf l seat
      back_own = seat_own l n seat seat (shared_of l n) pass refl shows
          (all_at_end (IsOf (shared_of l n)) front_ones back pass (recursion_from_All (IsOf (shared_of l n)) ((front_ones ++ pass ∷ []) ++ back) (subst (λ (w : List Token). All (IsOf (shared_of l n)) w) left (All-tail (IsOf (shared_of l n)) leader rest each))))

      pub joined_more : (now : Seat Kept Entry) → now ≡ record first { joined = known seat ∷ first.joined } → now ≡ record lead { joined = map note (pass ∷ back) }
      joined_more now e =
          e ∙ ap (λ (t : Seat Kept Entry). record t { joined = known seat ∷ t.joined }) is
          ∙ ap (λ (p : Token). record lead { joined = note p ∷ map note back }) shows

    -- once all came back
    module _ (none : rest ≡ back) where
      pub all_joined : length first.joined ≡ first.made
      all_joined =
          let joined : length first.joined ≡ length back = ap (λ (t : Seat Kept Entry). length t.joined) is ∙ length_notes back in
          let made : first.made ≡ lead.made = ap (λ (t : Seat Kept Entry). t.made) is in
          let same : length rest ≡ length back = ap length none in
          omega (arith, rest_length, lead_made)

      pub past_all : (k : ℕ) → length l.opening.fleet.starts ≤ k → first.made < k
      past_all k far = let made : first.made ≡ lead.made = ap (λ (t : Seat Kept Entry). t.made) is in omega (arith, lead_made)

      module _ (journal now : List Entry) (own : Agrees maker journal now (known first)) (others : All (λ gone. Agrees maker journal now gone) first.joined) where
        lead_agrees : Agrees maker journal now (note leader)
        lead_agrees = subst (λ (p : Token). Agrees maker journal now (note p)) shown (subst (λ (t : Seat Kept Entry). Agrees maker journal now (known t)) is own)

        pub each_agrees : All (λ p. Agrees maker journal now (note p)) all
        each_agrees =
            let joined : All (λ gone. Agrees maker journal now gone) (map note back) = subst (λ (t : Seat Kept Entry). All (λ gone. Agrees maker journal now gone) t.joined) is others in
            subst (λ (w : List Token). All (λ p. Agrees maker journal now (note p)) w) (sym front)
            (All-cons (λ p. Agrees maker journal now (note p)) leader rest lead_agrees
            (subst (λ (w : List Token). All (λ p. Agrees maker journal now (note p)) w) (sym none)
            (All-from_recursion (λ p. Agrees maker journal now (note p)) back (all_back (λ gone. Agrees maker journal now gone) back (recursion_from_All (λ gone. Agrees maker journal now gone) (map note back) joined)))))
