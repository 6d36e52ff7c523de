-- Each step of the lock keeps its rule.
use Rattle.std.proofs.Common.{◌≡◌, ◌≢◌, ◌⊎◌, inl, inr, ⊎_elim, ℕ, zero, suc, ◌+◌, ◌%◌, ◌^◌, ◌<◌, ◌≤◌, List, [], ◌∷◌, ◌++◌, length, drop, get_or, set, sum_by, Option, Some, refl, ap, sym, subst, ◌∙◌, arith, le_refl, length-set, length-append, mod-eq_of_lt, append-nil}
use Rattle.std.proofs.Math.Nat.{mod-add-mod}
use Rattle.std.proofs.Math.Seq.{drop-append_seam}
use Rattle.std.proofs.lemmas.List.Sums.{sum_by_push}
use mathlib.Core.Logic.{dite}
use mathlib.Core.Option.{some, none, some-injective, some-ne-none}
use mathlib.Core.Option as maybe
use mathlib.Core.List.{IsPrefix}
use native.Mathlib.Decide.{ℕ_discrete}
use lib.ListN.{get_elem?}
use Rattle.atomic_table.specs.Table.{State, step, keeps, takes, gives, stepped, put_back, Allows, Splits, Joins, opening, Final, Seen}
use Rattle.atomic_table.proofs.Lists.{at_set, at_longer, set_here, set_else, set_again, one_turn}
use Rattle.turn_lock.specs.declared.view.View.{View}
use Rattle.turn_lock.specs.declared.view.Stage.{Stage}
use Rattle.turn_lock.specs.declared.view.Stage.TheVariants.{Free, Waits, Has, Spent}
use Rattle.turn_lock.specs.Locks.{Known, behind, entries_of}
use Rattle.turn_lock.specs.Turns.{in_line, has_turn, alive, Knows, Stands, AtHome, Away, Kept, First, Turns, Seated, opened, waiting, having, free, caught_up, raising, parent, child, both, spent, drew, passed, looked, counted, raised, Closes}
use Rattle.turn_lock.proofs.Lists.{sum_set, sum_few, two_of, prefix_self, prefix_trans, behind_self, get_below, at_end, mine_own, mine_other, mine_more}

line_few : {T : Type 0} (st : Stage T) → in_line st ≤ 1
line_few Free = omega arith
line_few Waits = omega arith
line_few (Has x) = omega arith
line_few Spent = omega arith

turn_in_line : {T : Type 0} (st : Stage T) → has_turn st ≡ 1 → in_line st ≡ 1
turn_in_line Free e = absurd (omega arith)
turn_in_line Waits e = absurd (omega arith)
turn_in_line (Has x) e = refl
turn_in_line Spent e = absurd (omega arith)

module _ {T E F : Type 0} (history : T → List E) (maker : E → ℕ) (fixed : T → F) (o : T) where
  abbrev W : Type 0
  W = View T E

  abbrev St : Type 0
  St = State (Option T) W

  abbrev M : Type 0
  M = Seated T E

  abbrev Rule : St → Type 0
  Rule s = Turns history maker fixed o s

  abbrev Homes : Type 0
  Homes = List (maybe.Option (Option T))

  abbrev St' : List E → ℕ → ℕ → ℕ → W → Stage T → Type 0
  St' = Stands history maker fixed o

  abbrev Slot : List E → Homes → List W → Type 0
  Slot log homes views = AtHome history maker fixed o log homes views ⊎ Away history maker fixed o homes views

  least : (log : List E) (served drawn k : ℕ) (v : W) (st : Stage T) → St' log served drawn k v st → in_line st ≡ 1 → (served ≤ v.ticket) × (v.ticket < drawn)
  least log served drawn k v Free s e = absurd (omega arith)
  least log served drawn k v Waits s e = s.1
  least log served drawn k v (Has x) s e = let a : v.ticket ≡ served = s.1.0 in let b : served < drawn = s.1.1 in (omega arith, omega arith)
  least log served drawn k v Spent s e = absurd (omega arith)

  its_turn : (log : List E) (served drawn k : ℕ) (v : W) (st : Stage T) → St' log served drawn k v st → has_turn st ≡ 1 → v.ticket ≡ served
  its_turn log served drawn k v Free s e = absurd (omega arith)
  its_turn log served drawn k v Waits s e = absurd (omega arith)
  its_turn log served drawn k v (Has x) s e = s.1.0
  its_turn log served drawn k v Spent s e = absurd (omega arith)

  knows_on : (log log' : List E) (k : ℕ) (v : W) → IsPrefix log log' → entries_of maker k (behind (history o) log') ≡ entries_of maker k (behind (history o) log) → Knows history maker fixed o log k v → Knows history maker fixed o log' k v
  knows_on log log' k v p q kn = (kn.0, kn.1, prefix_trans v.notes.seen log log' kn.2 p, q ∙ kn.3)

  -- a seat stands as it did where the history goes on without an entry of it
  stays : (log log' : List E) (served served' drawn drawn' k : ℕ) (v : W) → IsPrefix log log' → entries_of maker k (behind (history o) log') ≡ entries_of maker k (behind (history o) log) → drawn ≤ drawn'
      → (st : Stage T) → (in_line st ≡ 1 → served' ≤ v.ticket) → (has_turn st ≡ 1 → (log ≡ log') × (served ≡ served')) → St' log served drawn k v st → St' log' served' drawn' k v st
  stays log log' served served' drawn drawn' k v p q le Free a b s = knows_on log log' k v p q s
  stays log log' served served' drawn drawn' k v p q le Waits a b s = let c : v.ticket < drawn = s.1.1 in (knows_on log log' k v p q s.0, (a refl, omega arith))
  stays log log' served served' drawn drawn' k v p q le (Has x) a b s = let t = b refl in let c : v.ticket ≡ served = s.1.0 in let d : served < drawn = s.1.1 in let e : served ≡ served' = t.1 in
      (knows_on log log' k v p q s.0, (c ∙ e, omega arith, s.1.2 ∙ t.0, s.1.3))
  stays log log' served served' drawn drawn' k v p q le Spent a b s = tt

  -- one seat makes a step
  module _ (s : St) (r : Rule s) (id : ℕ) (v w : W) (at : get_elem? s.views id ≡ some v) (lives : alive v.stage ≡ 1) (lives' : alive w.stage ≡ 1) where
    small : id < suc r.made
    small = let m : ℕ = r.made in let a : length s.views ≡ suc m = r.many in let b = get_below s.views id v at in omega arith

    kept_on : (log' : List E) → IsPrefix r.log log' → ((n : ℕ) → n ≢ id → entries_of maker n (behind (history o) log') ≡ entries_of maker n (behind (history o) r.log))
        → (g : Known E) → Kept history maker fixed o r.log r.made s.views g → Kept history maker fixed o log' r.made (set s.views id w) g
    kept_on log' p others g k =
        let apart : g.number ≢ id = λ e. let z : alive v.stage ≡ 0 = k.3 v (subst (λ (j : ℕ). get_elem? s.views j ≡ some v) (sym e) at) in omega arith in
        (k.0, prefix_trans g.seen r.log log' k.1 p, others g.number apart ∙ k.2, λ u e. ⊎_elim (λ t. absurd (apart t.0)) (λ t. k.3 u t.1) (at_set s.views id g.number w u e))

    first_on : (log' : List E) → IsPrefix r.log log' → ((n : ℕ) → n ≢ id → entries_of maker n (behind (history o) log') ≡ entries_of maker n (behind (history o) r.log))
        → (u : W) → First history maker fixed o r.log r.made s.views u → First history maker fixed o log' r.made (set s.views id w) u
    first_on log' p others u f =
        let m : ℕ = r.made in let gs : ℕ = length u.notes.joined in let a = sum_set (λ (z : W). alive z.stage) s.views id v w at in
        let before : ℕ = sum_by (λ (z : W). alive z.stage) s.views in let after : ℕ = sum_by (λ (z : W). alive z.stage) (set s.views id w) in
        let a' : after + alive v.stage ≡ before + alive w.stage = a in let b : before + gs ≡ suc m = f.2 in
        (f.0, f.1, (let c : after + gs ≡ suc m = omega arith in c), λ i g e. kept_on log' p others g (f.3 i g e))

    moved : (words' : List ℕ) (homes' : Homes) (log' : List E) (drawn' served' : ℕ) → words' ≡ drawn' % 2 ^ 64 ∷ served' % 2 ^ 64 ∷ length log' ∷ []
        → IsPrefix r.log log' → r.drawn ≤ drawn' → drawn' + in_line v.stage + r.served ≡ r.drawn + served' + in_line w.stage
        → ((k : ℕ) (u : W) → k ≢ id → get_elem? s.views k ≡ some u → in_line u.stage ≡ 1 → served' ≤ u.ticket)
        → ((k : ℕ) (u : W) → k ≢ id → get_elem? s.views k ≡ some u → has_turn u.stage ≡ 1 → (r.log ≡ log') × (r.served ≡ served'))
        → ((n : ℕ) → n ≢ id → entries_of maker n (behind (history o) log') ≡ entries_of maker n (behind (history o) r.log))
        → St' log' served' drawn' id w w.stage
        → ((k : ℕ) (u : W) → k ≢ id → get_elem? s.views k ≡ some u → in_line u.stage ≡ 1 → in_line w.stage ≡ 1 → u.ticket ≢ w.ticket)
        → Slot log' homes' (set s.views id w) → w.made ≡ v.made → w.notes.joined ≡ v.notes.joined
        → Rule record { words = words'; homes = homes'; views = set s.views id w }
    moved words' homes' log' drawn' served' is p le line wait turn others mine' apart slot' same_made same_gone =
        let d : ℕ = r.drawn in let e : ℕ = r.served in let before : ℕ = sum_by (λ (z : W). in_line z.stage) s.views in let after : ℕ = sum_by (λ (z : W). in_line z.stage) (set s.views id w) in
        let a : after + in_line v.stage ≡ before + in_line w.stage = sum_set (λ (z : W). in_line z.stage) s.views id v w at in let b : d ≡ e + before = r.line in
        let c : drawn' + in_line v.stage + e ≡ d + served' + in_line w.stage = line in record {
          drawn = drawn';
          served = served';
          made = r.made;
          log = log';
          words = is;
          begins = prefix_trans (history o) r.log log' r.begins p;
          line = let g : drawn' ≡ served' + after = omega arith in g;
          many = length-set s.views id w ∙ r.many;
          few = r.few;
          seats = λ k u got. ⊎_elim (λ t. subst (λ (z : ℕ × W). St' log' served' drawn' z.0 z.1 z.1.stage) (λ i. (sym t.0 i, t.1 i)) mine')
              (λ t. stays r.log log' e served' d drawn' k u p (others k t.0) le u.stage (wait k u t.0 t.1) (turn k u t.0 t.1) (r.seats k u t.1)) (at_set s.views id k w u got);
          tickets = λ j k u y got got' lu ly same. ⊎_elim
              (λ t. ⊎_elim (λ t'. t.0 ∙ sym t'.0) (λ t'. absurd (apart k y t'.0 t'.1 ly (ap (λ (z : W). in_line z.stage) t.1 ∙ lu) (sym same ∙ ap (λ (z : W). z.ticket) (sym t.1)))) (at_set s.views id k w y got'))
              (λ t. ⊎_elim (λ t'. absurd (apart j u t.0 t.1 lu (ap (λ (z : W). in_line z.stage) t'.1 ∙ ly) (same ∙ ap (λ (z : W). z.ticket) (sym t'.1)))) (λ t'. r.tickets j k u y t.1 t'.1 lu ly same) (at_set s.views id k w y got')) (at_set s.views id j w u got);
          slot = slot';
          unmade = λ n more. let m : ℕ = r.made in let near : id < suc m = small in others n (λ same. omega arith) ∙ r.unmade n more;
          first = λ u got. ⊎_elim
              (λ t. let f = r.first v (subst (λ (z : ℕ). get_elem? s.views z ≡ some v) (sym t.0) at) in
              subst (λ (z : W). First history maker fixed o log' r.made (set s.views id w) z) t.1
              (let f' = first_on log' p others v f in
              (same_made ∙ f'.0, lives', ap (λ (z : List (Known E)). sum_by (λ (x : W). alive x.stage) (set s.views id w) + length z) same_gone ∙ f'.2, λ i g there. f'.3 i g (ap (λ (z : List (Known E)). get_elem? z i) (sym same_gone) ∙ there))))
              (λ t. first_on log' p others u (r.first u t.1)) (at_set s.views id 0 w u got);
        }

    -- the slot stays where it was
    slot_on : (log' : List E) → r.log ≡ log' → has_turn w.stage ≡ has_turn v.stage → Slot r.log s.homes s.views → Slot log' s.homes (set s.views id w)
    slot_on log' same turn (inl h) = inl ((h.0.0, h.0.1, h.0.2 ∙ same, h.0.3), λ k u got. ⊎_elim (λ t. ap (λ (z : W). has_turn z.stage) (sym t.1) ∙ turn ∙ h.1 id v at) (λ t. h.1 k u t.1) (at_set s.views id k w u got))
    slot_on log' same turn (inr h) = inr (
      h.0,
      dite (ℕ_discrete h.1.0 id)
          (λ e. let is : v ≡ h.1.1 = some-injective v h.1.1 (sym at ∙ ap (λ (z : ℕ). get_elem? s.views z) (sym e) ∙ h.1.2) in
          (id, w, set_here s.views id w (get_below s.views id v at), turn ∙ ap (λ (z : W). has_turn z.stage) is ∙ h.1.3))
          (λ ne. (h.1.0, h.1.1, set_else s.views id h.1.0 w ne ∙ h.1.2, h.1.3)),
    )

  no_line_no_turn : (st : Stage T) → in_line st ≡ 0 → has_turn st ≡ 0
  no_line_no_turn Free e = refl
  no_line_no_turn Waits e = refl
  no_line_no_turn (Has x) e = absurd (omega arith)
  no_line_no_turn Spent e = refl

  -- a step at which neither the history nor the count of turns changes, and no other seat is like this one
  module _ (s : St) (r : Rule s) (id : ℕ) (v w : W) (at : get_elem? s.views id ≡ some v) (lives : alive v.stage ≡ 1) (lives' : alive w.stage ≡ 1) where
    quiet : (words' : List ℕ) (homes' : Homes) (drawn' : ℕ) → words' ≡ drawn' % 2 ^ 64 ∷ r.served % 2 ^ 64 ∷ length r.log ∷ []
        → r.drawn ≤ drawn' → drawn' + in_line v.stage ≡ r.drawn + in_line w.stage → St' r.log r.served drawn' id w w.stage
        → ((k : ℕ) (u : W) → k ≢ id → get_elem? s.views k ≡ some u → in_line u.stage ≡ 1 → in_line w.stage ≡ 1 → u.ticket ≢ w.ticket)
        → Slot r.log homes' (set s.views id w) → w.made ≡ v.made → w.notes.joined ≡ v.notes.joined
        → Rule record { words = words'; homes = homes'; views = set s.views id w }
    quiet words' homes' drawn' is le line mine' apart slot' same_made same_gone =
        let d : ℕ = r.drawn in let e : ℕ = r.served in let c : drawn' + in_line v.stage ≡ d + in_line w.stage = line in
        moved s r id v w at lives lives' words' homes' r.log drawn' e is (prefix_self r.log) le (let g : drawn' + in_line v.stage + e ≡ d + e + in_line w.stage = omega arith in g)
        (λ k u _ got l. (least r.log e d k u u.stage (r.seats k u got) l).0) (λ _ _ _ _ _. (refl, refl)) (λ _ _. refl) mine' apart slot' same_made same_gone

    -- the seat keeps its ticket
    same_ticket : in_line v.stage ≡ 1 → w.ticket ≡ v.ticket → (k : ℕ) (u : W) → k ≢ id → get_elem? s.views k ≡ some u → in_line u.stage ≡ 1 → in_line w.stage ≡ 1 → u.ticket ≢ w.ticket
    same_ticket l same k u ne got lu _ e = ne (r.tickets k id u v got at lu l (e ∙ same))

  alive_by : {a b : Stage T} → a ≡ b → alive b ≡ 1 → alive a ≡ 1
  alive_by e a = ap alive e ∙ a

  pub draws : (slots id : ℕ) (me : M) → me.0.stage ≡ Free → Allows Rule slots id me 0 (λ n. (n + 1) % 2 ^ 64) (drew (step slots 0 1 0 none) me)
  draws slots id me is s r wide at lt =
      let v : W = me.0 in let d : ℕ = r.drawn in let e : ℕ = r.served in let w : W = waiting v d in let zero_line : in_line v.stage ≡ 0 = ap in_line is in
      let b : d ≡ e + sum_by (λ (z : W). in_line z.stage) s.views = r.line in (
        w,
        keeps,
        tt,
        quiet s r id v w at (alive_by is refl) refl (set s.words 0 ((get_or s.words 0 0 + 1) % 2 ^ 64)) s.homes (d + 1)
            (ap (λ ws. set ws 0 ((get_or ws 0 0 + 1) % 2 ^ 64)) r.words ∙ ap (λ n. n ∷ e % 2 ^ 64 ∷ length r.log ∷ []) (mod-add-mod d (2 ^ 64) 1)) (omega arith) (omega arith)
            (subst (λ st. St' r.log e d id v st) is (r.seats id v at), (omega arith, omega arith)) (λ k u ne got l _ same. let t = least r.log e d k u u.stage (r.seats k u got) l in let below : u.ticket < d = t.1 in omega arith)
            (slot_on s r id v w at (alive_by is refl) refl r.log refl (sym (ap has_turn is)) r.slot) refl refl,
        (d, sym (ap (λ ws. get_or ws 0 0) r.words), refl),
      )

  nothing_moves : (s : St) (r : Rule s) (id i : ℕ) (me : M) → get_elem? s.views id ≡ some me.0 → set s.words i (get_or s.words i 0) ≡ s.words → Rule (stepped s i (get_or s.words i 0) id me.1 me.0 keeps)
  nothing_moves s r id i me at same = subst (λ (z : List ℕ × List W). Rule record { words = z.0; homes = s.homes; views = z.1 }) (λ k. (sym same k, sym (set_again s.views id me.0 at) k)) r

  pub looks : (slots id : ℕ) (me : M) → me.0.stage ≡ Waits → Allows Rule slots id me 1 (λ n. n) (looked history maker fixed (step slots 1 0 0 none) me)
  looks slots id me is s r wide at lt =
      let v : W = me.0 in let d : ℕ = r.drawn in let e : ℕ = r.served in let word : get_or s.words 1 0 ≡ e % 2 ^ 64 = ap (λ ws. get_or ws 1 0) r.words in
      let same_words : set s.words 1 (get_or s.words 1 0) ≡ d % 2 ^ 64 ∷ e % 2 ^ 64 ∷ length r.log ∷ [] = ap (λ ws. set ws 1 (get_or ws 1 0)) r.words in
      let stood : St' r.log e d id v Waits = subst (λ st. St' r.log e d id v st) is (r.seats id v at) in let from : e ≤ v.ticket = stood.1.0 in let below : v.ticket < d = stood.1.1 in
      let m : ℕ = r.made in let count : ℕ = sum_by (λ (z : W). in_line z.stage) s.views in let b : d ≡ e + count = r.line in let few : m < 4294967296 = r.few in
      let bound : count ≤ suc m = subst (λ z. count ≤ z) r.many (sum_few (λ (z : W). in_line z.stage) s.views (λ z. line_few z.stage)) in
      dite (ℕ_discrete (get_or s.words 1 0) (v.ticket % 2 ^ 64))
      (λ hit. let near : e ≡ v.ticket = one_turn e v.ticket (2 ^ 64) from (let g : v.ticket < e + 18446744073709551616 = omega arith in g) (sym word ∙ hit) in
      let zero_turn : has_turn v.stage ≡ 0 = ap has_turn is in
      ⊎_elim
      (λ h. let x : T = h.0.0 in let w : W = having v x in let pre : IsPrefix v.notes.seen r.log = stood.0.2 in (
        w,
        takes 0 (Some x),
        ap (λ hs. get_elem? hs 0) h.0.1,
        quiet s r id v w at (alive_by is refl) refl (set s.words 1 (get_or s.words 1 0)) (set s.homes 0 none) d same_words (le_refl d) (let g : in_line v.stage ≡ 1 = ap in_line is in omega arith)
            (stood.0, (sym near, omega arith, h.0.2, h.0.3)) (same_ticket s r id v w at (alive_by is refl) refl (ap in_line is) refl)
            (inr (ap (λ hs. set hs 0 none) h.0.1, (id, w, set_here s.views id w (get_below s.views id v at), refl))) refl refl,
        (
          λ _. (
            x,
            refl,
            (
              subst (λ l. IsPrefix v.notes.seen l) (sym h.0.2) pre,
              λ o' op. let same : o ≡ o' = some_is (sym stood.0.1 ∙ op) in
                  subst (λ (z : T). IsPrefix (history z) (history x) × (fixed x ≡ fixed z) × (entries_of maker v.number (behind (history z) (history x)) ≡ v.notes.own)) same
                  (subst (λ l. IsPrefix (history o) l) (sym h.0.2) r.begins, h.0.3, ap (λ (z : ℕ × List E). entries_of maker z.0 (behind (history o) z.1)) (λ i. (stood.0.0 i, h.0.2 i)) ∙ stood.0.3),
            ),
          ),
          λ miss. absurd (miss hit),
        ),
      ))
      (λ h. let k : ℕ = h.1.0 in let u : W = h.1.1 in let t = its_turn r.log e d k u u.stage (r.seats k u h.1.2) h.1.3 in
      let same : k ≡ id = r.tickets k id u v h.1.2 at (turn_in_line u.stage h.1.3) (ap in_line is) (t ∙ near) in
      let one : u ≡ v = some-injective u v (sym h.1.2 ∙ ap (λ (z : ℕ). get_elem? s.views z) same ∙ at) in let bad : 1 ≡ 0 = sym h.1.3 ∙ ap (λ (z : W). has_turn z.stage) one ∙ zero_turn in absurd (omega arith)) r.slot)
      (λ miss. (v, keeps, tt, nothing_moves s r id 1 me at (same_words ∙ sym r.words), ((λ hit. absurd (miss hit)), λ _. refl)))
    where
      some_is : {a b : T} → Some a ≡ Some b → a ≡ b
      some_is e = cc e

  pub counts : (slots id : ℕ) (me : M) (x : T) → me.0.stage ≡ Has x → Allows Rule slots id me 2 (λ n. n) (counted history (step slots 2 0 0 none) me)
  counts slots id me x is s r wide at lt =
      let v : W = me.0 in let d : ℕ = r.drawn in let e : ℕ = r.served in let w : W = caught_up v (history x) in
      let stood : St' r.log e d id v (Has x) = subst (λ st. St' r.log e d id v st) is (r.seats id v at) in let hx : history x ≡ r.log = stood.1.2 in
      let same_words : set s.words 2 (get_or s.words 2 0) ≡ d % 2 ^ 64 ∷ e % 2 ^ 64 ∷ length r.log ∷ [] = ap (λ ws. set ws 2 (get_or ws 2 0)) r.words in (
        w,
        keeps,
        tt,
        quiet s r id v w at (alive_by is refl) (alive_by is refl) (set s.words 2 (get_or s.words 2 0)) s.homes d same_words (le_refl d) refl
            (subst (λ st. St' r.log e d id w st) (sym is) ((stood.0.0, stood.0.1, subst (λ l. IsPrefix (history x) l) hx (prefix_self (history x)), stood.0.3), stood.1)) (same_ticket s r id v w at (alive_by is refl) (alive_by is refl) (ap in_line is) refl)
            (slot_on s r id v w at (alive_by is refl) (alive_by is refl) r.log refl refl r.slot) refl refl,
        (x, is, ap (λ ws. get_or ws 2 0) r.words ∙ sym (ap length hx), refl),
      )

  -- no other seat has the turn
  alone : (s : St) (r : Rule s) (id : ℕ) (v : W) → get_elem? s.views id ≡ some v → has_turn v.stage ≡ 1 → (k : ℕ) (u : W) → k ≢ id → get_elem? s.views k ≡ some u → has_turn u.stage ≡ 1 → ⊥
  alone s r id v at h k u ne got h' = ne (r.tickets k id u v got at (turn_in_line u.stage h') (turn_in_line v.stage h)
      (its_turn r.log r.served r.drawn k u u.stage (r.seats k u got) h' ∙ sym (its_turn r.log r.served r.drawn id v v.stage (r.seats id v at) h)))

  out : (s : St) (r : Rule s) (id : ℕ) (v : W) → get_elem? s.views id ≡ some v → has_turn v.stage ≡ 1 → s.homes ≡ none ∷ []
  out s r id v at h = ⊎_elim (λ a. let z : has_turn v.stage ≡ 0 = a.1 id v at in absurd (omega arith)) (λ a. a.0) r.slot

  pub raises : (slots id : ℕ) (me : M) (x y : T) (new : E) → me.0.stage ≡ Has x → me.1 ≡ (0, Some y) ∷ [] → me.0.notes.seen ≡ history x → fixed y ≡ fixed x → history y ≡ history x ++ new ∷ [] → maker new ≡ me.0.number
      → length (history y) < 2 ^ 64 → Allows Rule slots id me 2 (λ n. (n + 1) % 2 ^ 64) (raised history (step slots 2 1 0 none) me)
  raises slots id me x y new is held saw same_fixed more by short s r wide at lt =
      let v : W = me.0 in let d : ℕ = r.drawn in let e : ℕ = r.served in let w : W = raising v y (history y) in
      let stood : St' r.log e d id v (Has x) = subst (λ st. St' r.log e d id v st) is (r.seats id v at) in let hx : history x ≡ r.log = stood.1.2 in
      let grown : history y ≡ r.log ++ new ∷ [] = more ∙ ap (λ l. l ++ new ∷ []) hx in let by_id : maker new ≡ id = by ∙ stood.0.0 in
      let long : length (history y) ≡ length r.log + 1 = ap length grown ∙ length-append r.log (new ∷ []) in
      let split = λ (n : ℕ). ap (λ l. entries_of maker n (behind (history o) l)) grown ∙ mine_more maker n (history o) r.log (new ∷ []) r.begins in
      let line : in_line v.stage ≡ 1 = ap in_line is in let turn : has_turn v.stage ≡ 1 = ap has_turn is in (
        w,
        keeps,
        tt,
        moved s r id v w at (alive_by is refl) refl (set s.words 2 ((get_or s.words 2 0 + 1) % 2 ^ 64)) s.homes (history y) d e
            (ap (λ ws. set ws 2 ((get_or ws 2 0 + 1) % 2 ^ 64)) r.words ∙ ap (λ n. d % 2 ^ 64 ∷ e % 2 ^ 64 ∷ n ∷ []) (ap (λ n. n % 2 ^ 64) (sym long) ∙ mod-eq_of_lt short)) (new ∷ [], sym grown) (le_refl d) (omega arith)
            (λ k u _ got l. (least r.log e d k u u.stage (r.seats k u got) l).0) (λ k u ne got h. absurd (alone s r id v at turn k u ne got h))
            (λ n ne. split n ∙ ap (λ l. entries_of maker n (behind (history o) r.log) ++ l) (mine_other maker n new (λ m. ne (sym m ∙ by_id))) ∙ append-nil (entries_of maker n (behind (history o) r.log))) (
              (
                stood.0.0,
                stood.0.1,
                prefix_self (history y),
                split id ∙ ap (λ l. l ++ entries_of maker id (new ∷ [])) stood.0.3
                    ∙ ap (λ l. v.notes.own ++ l) (mine_own maker id new by_id ∙ sym (ap (λ (z : List E × List E). drop (length z.0) z.1) (λ i. (saw i, more i)) ∙ drop-append_seam (history x) (new ∷ []))),
              ),
              (stood.1.0, stood.1.1, refl, same_fixed ∙ stood.1.3),
            )
            (same_ticket s r id v w at (alive_by is refl) refl line refl) (inr (out s r id v at turn, (id, w, set_here s.views id w (get_below s.views id v at), refl))) refl refl,
        (y, held, refl),
      )

  pub passes : (slots id : ℕ) (me : M) (x y : T) → me.0.stage ≡ Has x → me.1 ≡ (0, Some y) ∷ [] → fixed y ≡ fixed x → history y ≡ history x → Allows Rule slots id me 1 (λ n. (n + 1) % 2 ^ 64) (passed (step slots 1 1 0 none) me)
  passes slots id me x y is held same_fixed same s r wide at lt =
      let v : W = me.0 in let d : ℕ = r.drawn in let e : ℕ = r.served in let w : W = free v in
      let stood : St' r.log e d id v (Has x) = subst (λ st. St' r.log e d id v st) is (r.seats id v at) in let hx : history x ≡ r.log = stood.1.2 in
      let line : in_line v.stage ≡ 1 = ap in_line is in let turn : has_turn v.stage ≡ 1 = ap has_turn is in let now : v.ticket ≡ e = stood.1.0 in (
        w,
        gives,
        tt,
        moved s r id v w at (alive_by is refl) refl (set s.words 1 ((get_or s.words 1 0 + 1) % 2 ^ 64)) (put_back s.homes me.1) r.log d (e + 1)
            (ap (λ ws. set ws 1 ((get_or ws 1 0 + 1) % 2 ^ 64)) r.words ∙ ap (λ n. d % 2 ^ 64 ∷ n ∷ length r.log ∷ []) (mod-add-mod e (2 ^ 64) 1)) (prefix_self r.log) (le_refl d) (omega arith)
            (λ k u ne got l. let from : e ≤ u.ticket = (least r.log e d k u u.stage (r.seats k u got) l).0 in let other : u.ticket ≢ e = λ q. ne (r.tickets k id u v got at l line (q ∙ sym now)) in omega arith)
            (λ k u ne got h. absurd (alone s r id v at turn k u ne got h)) (λ _ _. refl) stood.0 (λ k u _ _ _ z. absurd (omega arith))
            (inl (
              (y, ap (λ c. put_back s.homes c) held ∙ ap (λ hs. set hs 0 (some (Some y))) (out s r id v at turn), same ∙ hx, same_fixed ∙ stood.1.3),
              λ k u got. ⊎_elim (λ t. ap (λ (z : W). has_turn z.stage) (sym t.1)) (λ t. not_one u (alone s r id v at turn k u t.0 t.1)) (at_set s.views id k w u got),
            )) refl refl,
        refl,
      )
    where
      go : (st : Stage T) → (has_turn st ≡ 1 → ⊥) → has_turn st ≡ 0
      go Free n = refl
      go Waits n = refl
      go (Has x) n = absurd (n refl)
      go Spent n = refl

      not_one : (u : W) → (has_turn u.stage ≡ 1 → ⊥) → has_turn u.stage ≡ 0
      not_one u n = go u.stage n

  knows_it : (log : List E) (served drawn k : ℕ) (v : W) (st : Stage T) → alive st ≡ 1 → St' log served drawn k v st → Knows history maker fixed o log k v
  knows_it log served drawn k v Free a s = s
  knows_it log served drawn k v Waits a s = s.0
  knows_it log served drawn k v (Has x) a s = s.0
  knows_it log served drawn k v Spent a s = absurd (omega arith)

  -- what the seats hold of, one by one
  Seats : List E → ℕ → ℕ → List W → Type 0
  Seats log served drawn views = (k : ℕ) (u : W) → get_elem? views k ≡ some u → St' log served drawn k u u.stage

  -- a seat in line was there before, with its ticket
  Old : List W → List W → Type 0
  Old views views' = (k : ℕ) (u : W) → get_elem? views' k ≡ some u → in_line u.stage ≡ 1 → (y : W) × (get_elem? views k ≡ some y) × (in_line y.stage ≡ 1) × (y.ticket ≡ u.ticket)

  tickets_by : (s : St) (r : Rule s) (views' : List W) → Old s.views views' → (j k : ℕ) (v w : W) → get_elem? views' j ≡ some v → get_elem? views' k ≡ some w → in_line v.stage ≡ 1 → in_line w.stage ≡ 1 → v.ticket ≡ w.ticket → j ≡ k
  unfolding Old
  tickets_by s r views' old j k v w a b l m e = let p = old j v a l in let q = old k w b m in r.tickets j k p.0 q.0 p.1 q.1 p.2 q.2 (p.3 ∙ e ∙ sym q.3)

  pub splits : (id : ℕ) (v : W) → v.number ≡ 0 → alive v.stage ≡ 1 → v.made + 1 < 2 ^ 32 → Splits Rule id v (parent v) (child v)
  unfolding Old
  splits id v zeroth lives room s r at =
      let d : ℕ = r.drawn in let e : ℕ = r.served in let m : ℕ = r.made in let kn = knows_it r.log e d id v v.stage lives (r.seats id v at) in let first : 0 ≡ id = sym zeroth ∙ kn.0 in
      let l : W = parent v in let c : W = child v in let vs : List W = set s.views id l in let views' : List W = vs ++ c ∷ [] in
      let f = r.first v (subst (λ (z : ℕ). get_elem? s.views z ≡ some v) (sym first) at) in let made_is : v.made ≡ m = f.0 in
      let wide : length vs ≡ suc m = length-set s.views id l ∙ r.many in
      let count : ℕ = sum_by (λ (z : W). in_line z.stage) s.views in let count' : ℕ = sum_by (λ (z : W). in_line z.stage) vs in
      let a : count' + in_line v.stage ≡ count + in_line v.stage = sum_set (λ (z : W). in_line z.stage) s.views id v l at in
      let live : ℕ = sum_by (λ (z : W). alive z.stage) s.views in let live' : ℕ = sum_by (λ (z : W). alive z.stage) vs in
      let b : live' + alive v.stage ≡ live + alive v.stage = sum_set (λ (z : W). alive z.stage) s.views id v l at in
      let ends : sum_by (λ (z : W). in_line z.stage) views' ≡ count' + 0 = sum_by_push (λ (z : W). in_line z.stage) vs c in
      let ends' : sum_by (λ (z : W). alive z.stage) views' ≡ live' + 1 = sum_by_push (λ (z : W). alive z.stage) vs c in
      let old : Old s.views views' = λ k u got lu. ⊎_elim (λ t. ⊎_elim (λ t'. (v, subst (λ (z : ℕ). get_elem? s.views z ≡ some v) (sym t'.0) at, ap (λ (z : W). in_line z.stage) t'.1 ∙ lu, ap (λ (z : W). z.ticket) t'.1)) (λ t'. (u, t'.1, lu, refl)) (at_set s.views id k l u t.1))
      (λ t. let z : 0 ≡ 1 = ap (λ (z : W). in_line z.stage) t.1 ∙ lu in absurd (omega arith)) (at_end vs c u k got) in record {
        drawn = d;
        served = e;
        made = m + 1;
        log = r.log;
        words = r.words;
        begins = r.begins;
        line = let g : d ≡ e + count = r.line in let h : d ≡ e + sum_by (λ (z : W). in_line z.stage) views' = omega arith in h;
        many = length-append vs (c ∷ []) ∙ (let n : ℕ = length vs in let n' : n ≡ suc m = wide in let h : n + 1 ≡ suc (m + 1) = omega arith in h);
        few = let h : v.made + 1 < 4294967296 = room in let g : m + 1 < 4294967296 = omega arith in g;
        seats = λ k u got. ⊎_elim
            (λ t. ⊎_elim (λ t'. subst (λ (z : ℕ × W). St' r.log e d z.0 z.1 z.1.stage) (λ i. (sym t'.0 i, t'.1 i)) (same_stand r.log e d id v v.stage (r.seats id v at))) (λ t'. r.seats k u t'.1) (at_set s.views id k l u t.1))
            (λ t. subst (λ (z : W). St' r.log e d k z z.stage) t.1
            ((let n : ℕ = length vs in let n' : n ≡ suc m = wide in let h : k ≡ n = t.0 in let g : v.made + 1 ≡ k = omega arith in g), kn.1, kn.2, r.unmade k (let n : ℕ = length vs in let n' : n ≡ suc m = wide in let h : k ≡ n = t.0 in omega arith))) (at_end vs c u k got);
        tickets = tickets_by s r views' old;
        slot = ⊎_elim
            (λ h. inl (h.0, λ k u got. ⊎_elim (λ t. ⊎_elim (λ t'. ap (λ (z : W). has_turn z.stage) (sym t'.1) ∙ h.1 id v at) (λ t'. h.1 k u t'.1) (at_set s.views id k l u t.1)) (λ t. ap (λ (z : W). has_turn z.stage) (sym t.1)) (at_end vs c u k got)))
            (λ h. inr (
              h.0,
              dite (ℕ_discrete h.1.0 id)
                  (λ q. let is : v ≡ h.1.1 = some-injective v h.1.1 (sym at ∙ ap (λ (z : ℕ). get_elem? s.views z) (sym q) ∙ h.1.2) in
                  (id, l, at_longer vs (c ∷ []) id l (set_here s.views id l (get_below s.views id v at)), ap (λ (z : W). has_turn z.stage) is ∙ h.1.3))
                  (λ ne. (h.1.0, h.1.1, at_longer vs (c ∷ []) h.1.0 h.1.1 (set_else s.views id h.1.0 l ne ∙ h.1.2), h.1.3)),
            )) r.slot;
        unmade = λ n more. r.unmade n (omega arith);
        first = λ u got. ⊎_elim
            (λ t. ⊎_elim
            (λ t'. subst (λ (z : W). First history maker fixed o r.log (m + 1) views' z) t'.1 (
              (let g : v.made + 1 ≡ m + 1 = omega arith in g),
              lives,
              (let gs : ℕ = length v.notes.joined in let g : live + gs ≡ suc m = f.2 in let h : sum_by (λ (z : W). alive z.stage) views' + gs ≡ suc (m + 1) = omega arith in h),
              λ i g there. let q = f.3 i g there in
                  let below : 0 < g.number = q.0.0 in let top : g.number ≤ m = q.0.1 in (
                    (below, omega arith),
                    q.1,
                    q.2,
                    λ y got'. ⊎_elim (λ t''. ⊎_elim (λ p. let z : g.number ≡ id = p.0 in let z' : 0 ≡ id = first in absurd (omega arith)) (λ p. q.3 y p.1) (at_set s.views id g.number l y t''.1))
                        (λ t''. let n : ℕ = length vs in let n' : n ≡ suc m = wide in let h : g.number ≡ n = t''.0 in absurd (omega arith)) (at_end vs c y g.number got'),
                  ),
            ))
            (λ t'. absurd (t'.0 first)) (at_set s.views id 0 l u t.1))
            (λ t. let n : ℕ = length vs in let n' : n ≡ suc m = wide in let h : 0 ≡ n = t.0 in absurd (omega arith)) (at_end vs c u 0 got);
      }
    where
      same_stand : (log : List E) (served drawn k : ℕ) (v : W) (st : Stage T) → St' log served drawn k v st → St' log served drawn k (parent v) st
      same_stand log served drawn k v Free z = z
      same_stand log served drawn k v Waits z = z
      same_stand log served drawn k v (Has x) z = z
      same_stand log served drawn k v Spent z = z

  pub joins : (id other : ℕ) (v w : W) → v.number ≡ 0 → alive v.stage ≡ 1 → w.stage ≡ Free → Joins Rule id v other w (both v w) spent
  unfolding Old
  joins id other v w zeroth lives idle s r at apart at' =
      let d : ℕ = r.drawn in let e : ℕ = r.served in let m : ℕ = r.made in let kn = knows_it r.log e d id v v.stage lives (r.seats id v at) in let first : 0 ≡ id = sym zeroth ∙ kn.0 in
      let b : W = both v w in let sp : W = spent in let vs : List W = set s.views id b in let views' : List W = set vs other sp in
      let there : get_elem? s.views other ≡ some w = sym (set_else s.views id other b apart) ∙ at' in let kw = subst (λ st. St' r.log e d other w st) idle (r.seats other w there) in
      let f = r.first v (subst (λ (z : ℕ). get_elem? s.views z ≡ some v) (sym first) at) in let long : length s.views ≡ suc m = r.many in let near : other < length s.views = get_below s.views other w there in
      let count : ℕ = sum_by (λ (z : W). in_line z.stage) s.views in let count1 : ℕ = sum_by (λ (z : W). in_line z.stage) vs in let count2 : ℕ = sum_by (λ (z : W). in_line z.stage) views' in
      let a : count1 + in_line v.stage ≡ count + in_line v.stage = sum_set (λ (z : W). in_line z.stage) s.views id v b at in
      let a' : count2 + in_line w.stage ≡ count1 + 0 = sum_set (λ (z : W). in_line z.stage) vs other w sp at' in let a'' : in_line w.stage ≡ 0 = ap in_line idle in
      let live : ℕ = sum_by (λ (z : W). alive z.stage) s.views in let live1 : ℕ = sum_by (λ (z : W). alive z.stage) vs in let live2 : ℕ = sum_by (λ (z : W). alive z.stage) views' in
      let c : live1 + alive v.stage ≡ live + alive v.stage = sum_set (λ (z : W). alive z.stage) s.views id v b at in
      let c' : live2 + alive w.stage ≡ live1 + 0 = sum_set (λ (z : W). alive z.stage) vs other w sp at' in let c'' : alive w.stage ≡ 1 = ap alive idle in
      let each = λ (k : ℕ) (u : W) (P : Type 0) (got : get_elem? views' k ≡ some u) (f₀ : k ≡ other → sp ≡ u → P) (f₁ : k ≢ other → k ≡ id → b ≡ u → P) (f₂ : k ≢ other → k ≢ id → get_elem? s.views k ≡ some u → P).
      ⊎_elim {C = P} (λ t. f₀ t.0 t.1) (λ t. ⊎_elim {C = P} (λ t'. f₁ t.0 t'.0 t'.1) (λ t'. f₂ t.0 t'.0 t'.1) (at_set s.views id k b u t.1)) (at_set vs other k sp u got) in
      let old : Old s.views views' = λ k u got lu. each k u ((y : W) × (get_elem? s.views k ≡ some y) × (in_line y.stage ≡ 1) × (y.ticket ≡ u.ticket)) got
      (λ _ q. let z : 0 ≡ 1 = ap (λ (z : W). in_line z.stage) q ∙ lu in absurd (omega arith))
      (λ _ q is. (v, subst (λ (z : ℕ). get_elem? s.views z ≡ some v) (sym q) at, ap (λ (z : W). in_line z.stage) is ∙ lu, ap (λ (z : W). z.ticket) is))
      (λ _ _ g. (u, g, lu, refl)) in record {
        drawn = d;
        served = e;
        made = m;
        log = r.log;
        words = r.words;
        begins = r.begins;
        line = let g : d ≡ e + count = r.line in let h : d ≡ e + count2 = omega arith in h;
        many = length-set vs other sp ∙ length-set s.views id b ∙ r.many;
        few = r.few;
        seats = λ k u got. each k u (St' r.log e d k u u.stage) got (λ _ q. subst (λ (z : W). St' r.log e d k z z.stage) q tt)
            (λ _ q is. subst (λ (z : ℕ × W). St' r.log e d z.0 z.1 z.1.stage) (λ i. (sym q i, is i)) (same_stand r.log e d id v w v.stage (r.seats id v at))) (λ _ _ g. r.seats k u g);
        tickets = tickets_by s r views' old;
        slot = ⊎_elim
            (λ h. inl (h.0, λ k u got. each k u (has_turn u.stage ≡ 0) got (λ _ q. ap (λ (z : W). has_turn z.stage) (sym q)) (λ _ _ is. ap (λ (z : W). has_turn z.stage) (sym is) ∙ h.1 id v at) (λ _ _ g. h.1 k u g)))
            (λ h. let not_other : h.1.0 ≢ other = λ q. let is : w ≡ h.1.1 = some-injective w h.1.1 (sym there ∙ ap (λ (z : ℕ). get_elem? s.views z) (sym q) ∙ h.1.2) in
            let z : 0 ≡ 1 = sym (ap has_turn idle) ∙ ap (λ (z : W). has_turn z.stage) is ∙ h.1.3 in absurd (omega arith) in inr (
              h.0,
              dite (ℕ_discrete h.1.0 id)
                  (λ q. let is : v ≡ h.1.1 = some-injective v h.1.1 (sym at ∙ ap (λ (z : ℕ). get_elem? s.views z) (sym q) ∙ h.1.2) in
                  (id, b, set_else vs other id sp (λ z. apart (sym z)) ∙ set_here s.views id b (get_below s.views id v at), ap (λ (z : W). has_turn z.stage) is ∙ h.1.3))
                  (λ ne. (h.1.0, h.1.1, set_else vs other h.1.0 sp not_other ∙ set_else s.views id h.1.0 b ne ∙ h.1.2, h.1.3)),
            )) r.slot;
        unmade = r.unmade;
        first = λ u got. each 0 u (First history maker fixed o r.log m views' u) got (λ q _. absurd (apart (sym q ∙ first)))
            (λ _ _ is. subst (λ (z : W). First history maker fixed o r.log m views' z) is (
              f.0,
              lives,
              (let gs : ℕ = length v.notes.joined in let g : live + gs ≡ suc m = f.2 in let h : live2 + suc gs ≡ suc m = omega arith in h),
              λ i g q. joined_kept (Kept history maker fixed o r.log m views') (record { number = w.number; seen = w.notes.seen; own = w.notes.own }) v.notes.joined i g q
                  (let pos : 0 < w.number = (let z : w.number ≡ other = kw.0 in let z' : 0 ≡ id = first in let ne : other ≢ id = apart in omega arith) in let top : w.number ≤ m = (let z : w.number ≡ other = kw.0 in omega arith) in (
                    (pos, top),
                    kw.2,
                    ap (λ n. entries_of maker n (behind (history o) r.log)) kw.0 ∙ kw.3,
                    λ y got'. ⊎_elim (λ t. ap (λ (z : W). alive z.stage) (sym t.1)) (λ t. absurd (t.0 kw.0)) (at_set vs other w.number sp y got'),
                  ))
                  (λ j there'. let p = f.3 j g there' in (p.0, p.1, p.2, λ y got'. each g.number y (alive y.stage ≡ 0) got' (λ _ z. ap (λ (z : W). alive z.stage) (sym z)) (λ _ z _. let z' : 0 ≡ id = first in let z'' : 0 < g.number = p.0.0 in absurd (omega arith)) (λ _ _ z. p.3 y z))),
            ))
            (λ _ ne _. absurd (ne first));
      }
    where
      same_stand : (log : List E) (served drawn k : ℕ) (v w : W) (st : Stage T) → St' log served drawn k v st → St' log served drawn k (both v w) st
      same_stand log served drawn k v w Free z = z
      same_stand log served drawn k v w Waits z = z
      same_stand log served drawn k v w (Has x) z = z
      same_stand log served drawn k v w Spent z = z

      joined_kept : (P : Known E → Type 0) (h : Known E) (hs : List (Known E)) (i : ℕ) (g : Known E) → get_elem? (h ∷ hs) i ≡ some g → P h → ((j : ℕ) → get_elem? hs j ≡ some g → P g) → P g
      joined_kept P h hs zero g q here more = subst P (some-injective h g q) here
      joined_kept P h hs (suc i) g q here more = more i q

  pub starts : (n : ℕ) → n ≡ length (history o) → Rule (opening (0 ∷ 0 ∷ n ∷ []) (Some o ∷ []) (opened o (history o)))
  starts n is = record {
    drawn = 0;
    served = 0;
    made = 0;
    log = history o;
    words = ap (λ z. 0 ∷ 0 ∷ z ∷ []) is;
    begins = prefix_self (history o);
    line = refl;
    many = refl;
    few = omega arith;
    seats = λ k u got. only k u (λ k u. St' (history o) 0 0 k u u.stage) got (refl, refl, prefix_self (history o), ap (entries_of maker 0) (behind_self (history o)));
    tickets = λ j k v w a b l m e. only j v (λ j v. in_line v.stage ≡ 1 → j ≡ k) a (λ z. absurd (omega arith)) l;
    slot = inl ((o, refl, refl, refl), λ k u got. only k u (λ _ u. has_turn u.stage ≡ 0) got refl);
    unmade = λ n _. ap (entries_of maker n) (behind_self (history o));
    first = λ u got. only 0 u (λ _ u. First history maker fixed o (history o) 0 (opened o (history o) ∷ []) u) got (refl, refl, refl, λ i g e. absurd (some-ne-none g (sym e)));
  }
    where
      only : (k : ℕ) (u : W) (P : ℕ → W → Type 0) → get_elem? (opened o (history o) ∷ []) k ≡ some u → P 0 (opened o (history o)) → P k u
      only zero u P got p = subst (λ (z : W). P 0 z) (some-injective (opened o (history o)) u got) p
      only (suc k) u P got p = absurd (some-ne-none u (sym got))

  pub closes : (ws : List ℕ) (xs : List (Option T)) (id : ℕ) (v : W) → v.stage ≡ Free → v.number ≡ 0 → length v.notes.joined ≡ v.made → Final (Seen Rule id v) ws xs
      → (x : T) × (get_elem? xs 0 ≡ some (Some x)) × Closes history maker fixed o v x
  closes ws xs id v idle zeroth all fin =
      let s : St = fin.0 in let r : Rule s = fin.1.0 in let at : get_elem? s.views id ≡ some v = fin.1.1 in let d : ℕ = r.drawn in let e : ℕ = r.served in let m : ℕ = r.made in
      let kn = subst (λ st. St' r.log e d id v st) idle (r.seats id v at) in let first : 0 ≡ id = sym zeroth ∙ kn.0 in let f = r.first v (subst (λ (z : ℕ). get_elem? s.views z ≡ some v) (sym first) at) in
      let live : ℕ = sum_by (λ (z : W). alive z.stage) s.views in let gs : ℕ = length v.notes.joined in let one : live + gs ≡ suc m = f.2 in let made_is : v.made ≡ m = f.0 in let all' : gs ≡ v.made = all in
      ⊎_elim
      (λ h. let hx : r.log ≡ history h.0.0 = sym h.0.2 in (
        h.0.0,
        fin.4 0 (Some h.0.0) (ap (λ hs. get_elem? hs 0) h.0.1),
        (
          h.0.3,
          subst (λ l. IsPrefix (history o) l) hx r.begins,
          (subst (λ l. IsPrefix v.notes.seen l) hx kn.2, ap (λ (z : ℕ × List E). entries_of maker z.0 (behind (history o) z.1)) (λ i. (first i, sym hx i)) ∙ kn.3),
          (λ i g there. let q = f.3 i g there in (subst (λ l. IsPrefix g.seen l) hx q.1, ap (λ l. entries_of maker g.number (behind (history o) l)) (sym hx) ∙ q.2)),
          (λ n more. ap (λ l. entries_of maker n (behind (history o) l)) (sym hx) ∙ r.unmade n (omega arith)),
        ),
      ))
      (λ h. let k : ℕ = h.1.0 in let u : W = h.1.1 in
      let ne : k ≢ id = λ q. let is : u ≡ v = some-injective u v (sym h.1.2 ∙ ap (λ (z : ℕ). get_elem? s.views z) q ∙ at) in let z : 1 ≡ 0 = sym h.1.3 ∙ ap (λ (z : W). has_turn z.stage) is ∙ ap has_turn idle in absurd (omega arith) in
      let two : alive u.stage + alive v.stage ≤ live = two_of (λ (z : W). alive z.stage) s.views k id u v h.1.2 at ne in let a : alive v.stage ≡ 1 = ap alive idle in let b : alive u.stage ≡ 1 = turn_alive u.stage h.1.3 in
      absurd (omega arith)) r.slot
    where
      turn_alive : (st : Stage T) → has_turn st ≡ 1 → alive st ≡ 1
      turn_alive Free z = refl
      turn_alive Waits z = refl
      turn_alive (Has x) z = refl
      turn_alive Spent z = absurd (omega arith)
