-- The fields of a graph, after each change.
use Rattle.std.proofs.Common.{◌≡◌, ℕ, ◌+◌, ◌-◌, ◌^◌, ◌<◌, ◌≤◌, refl, sym, ap, ◌∙◌, subst, List, [], ◌∷◌, ◌++◌, length, map, get_or, set, drop, replicate, arith, Option, None}
use Rattle.std.proofs.lemmas.List.{map-set, map_push, length-append, get_or-replicate, length-replicate}
use Rattle.std.proofs.lemmas.Option.{none-some}
use Rattle.fleet_base.specs.declared.numbers.ClaimGroup.{ClaimGroup}
use Rattle.fleet_base.specs.declared.numbers.Event.{Event}
use Rattle.fleet_base.specs.declared.numbers.EventNo.{EventNo}
use Rattle.fleet_base.specs.declared.numbers.Kind.{Kind}
use Rattle.fleet_model.specs.Lists.{In}
use Rattle.fleet_model.specs.Plans.{own, numbered}
use Rattle.fleet_model.proofs.Lists.{In-nil}
use Rattle.fleet_model.proofs.Numbered.{length-numbered}
use Rattle.fleet_model.proofs.Numbers.{one_event}
use Rattle.number_queues.specs.Queues.{Queues, queue_of}
use Rattle.slot_chains.specs.Slots.{Slots}
use Rattle.event_graph.specs.declared.reach.Reach.{Reach}
use Rattle.event_graph.specs.Graphs.{IsGraph, IsKnown, AreApart, IsReadyAmong, HasReady, without_number, without_events, tail_of}
use Rattle.event_graph.specs.Reaches.{IsReached}
use Rattle.event_graph.specs.Stores.{events_of, claim_key, AreKeyed, AreNumbered, AreQueued, HasEvent}
use Rattle.event_graph.specs.Stored.{IsStored}
use Rattle.event_graph.proofs.Changes.{finish_good, append_good}
use Rattle.event_graph.proofs.Owns.{number_of, ready_head, queue_finished}
use Rattle.event_graph.proofs.Tails.{tail_good}
use Rattle.event_graph.proofs.Slotted.{emptied, emptied_count, numbered_emptied, slot_In}

-- the chains of slots of which one is emptied
pub chained_emptied : (slots : List (Option Event)) (claims claims' : Slots) (i : ℕ) → claims.keys ≡ map claim_key slots → claims'.keys ≡ set claims.keys i None → claims'.keys ≡ map claim_key (set slots i None)
chained_emptied slots claims claims' i keyed c = c ∙ (ap (λ keys. set keys i None) keyed ∙ sym (map-set claim_key slots i None))

-- those of one slot more
pub chained_pushed : (slots : List (Option Event)) (claims claims' : Slots) (o : Option Event) → claims.keys ≡ map claim_key slots → claims'.keys ≡ claims.keys ++ claim_key o ∷ [] → claims'.keys ≡ map claim_key (slots ++ o ∷ [])
chained_pushed slots claims claims' o keyed c = c ∙ (ap (λ keys. keys ++ claim_key o ∷ []) keyed ∙ sym (map_push claim_key slots o))

-- where a ready event leaves
pub finished : (groups : List ClaimGroup) (reaches : List Reach) (slots : List (Option Event)) (robots robots' : Queues) (claims claims' : Slots) (kept next : ℕ) → IsStored groups reaches slots robots claims kept next → length robots'.queues ≡ length robots.queues → claims'.chains ≡ claims.chains
    → (n : EventNo) (i : ℕ) (e : Event) → HasEvent slots i e → e.no ≡ n → HasReady groups (events_of slots) n → robots'.queues ≡ set robots.queues e.robot.0 (drop 1 (queue_of e.robot.0 robots.queues)) → claims'.keys ≡ set claims.keys i None → IsStored groups reaches (set slots i None) robots' claims' (kept - 1) next
finished groups reaches slots robots robots' claims claims' kept next stored same_robots same_claims n i e has number ready r c = record {
  keyed = record {
    by_robot = subst (λ es. AreQueued es robots'.queues) (sym gone) (queue_finished (events_of slots) stored.graph.ascends e among robots.queues robots'.queues stored.keyed.by_robot (stored.graph.robot e among) head.0 head.1 r);
    by_claim = chained_emptied slots claims claims' i stored.keyed.by_claim c;
  };
  numbered = numbered_emptied slots next stored.numbered i e has;
  claim_count = same_claims ∙ stored.claim_count;
  reached = stored.reached;
  counted = (let a = stored.counted in omega (arith, emptied_count slots 0 stored.graph.ascends i e has));
  graph = subst (λ k. IsGraph k groups (events_of (set slots i None)) next) (sym same_robots)
      (subst (λ es. IsGraph (length robots.queues) groups es next) (sym (emptied slots 0 stored.graph.ascends i e n has (ap (λ (x : EventNo). x.0) number))) (finish_good (length robots.queues) groups (events_of slots) next stored.graph n ready));
}
  where
    among : In e (events_of slots)
    among = slot_In slots i e has

    gone : events_of (set slots i None) ≡ without_number (events_of slots) e.no
    gone = emptied slots 0 stored.graph.ascends i e e.no has refl

    one : ready.0 ≡ e
    one = one_event 0 (events_of slots) stored.graph.ascends ready.2.planned among (ap (λ (x : EventNo). x.0) (ready.1 ∙ sym number))

    head : (rest : List Event) × (own e.robot.0 (events_of slots) ≡ e ∷ rest)
    head = ready_head (events_of slots) stored.graph.ascends e.robot.0 groups e among refl (subst (λ x. IsReadyAmong groups (events_of slots) x) one ready.2)

-- a graph with events more at the end
pub appended : (groups : List ClaimGroup) (reaches : List Reach) (slots : List (Option Event)) (robots : Queues) (claims : Slots) (kept next : ℕ) → IsStored groups reaches slots robots claims kept next
    → (r : ℕ) (ks : List Kind) → length (events_of slots) + length ks < 2 ^ 32 → r < length robots.queues → ((k : Kind) → In k ks → IsKnown (length groups) k) → AreApart groups (events_of slots ++ numbered next r ks)
    → (slots' : List (Option Event)) (robots' : Queues) (claims' : Slots) (kept' next' : ℕ) → AreKeyed slots' robots' claims' → AreNumbered slots' next' → events_of slots' ≡ events_of slots ++ numbered next r ks → length robots'.queues ≡ length robots.queues → claims'.chains ≡ claims.chains → kept' ≡ kept → next' ≡ next + length ks
    → IsStored groups reaches slots' robots' claims' (kept' + length ks) next'
appended groups reaches slots robots claims kept next stored r ks few robot known apart slots' robots' claims' kept' next' keyed numbered' events same_robots same_claims same_kept number = record {
  keyed = keyed;
  numbered = numbered';
  claim_count = same_claims ∙ stored.claim_count;
  reached = stored.reached;
  counted = (let a = stored.counted in let b = length-append (events_of slots) (numbered next r ks) in let c = length-numbered next r ks in let d : length (events_of slots') ≡ length (events_of slots ++ numbered next r ks) = ap length events in omega arith);
  graph = subst (λ n. IsGraph (length robots'.queues) groups (events_of slots') n) (sym number)
      (subst (λ n. IsGraph n groups (events_of slots') (next + length ks)) (sym same_robots)
      (subst (λ es. IsGraph (length robots.queues) groups es (next + length ks)) (sym events) (append_good (length robots.queues) groups (events_of slots) next stored.graph r ks few robot known apart)));
}

-- a graph without a robot's last events
pub cut : (groups : List ClaimGroup) (reaches : List Reach) (slots : List (Option Event)) (robots : Queues) (claims : Slots) (kept next : ℕ) → IsStored groups reaches slots robots claims kept next
    → (r count : ℕ) (slots' : List (Option Event)) (robots' : Queues) (claims' : Slots) (kept' : ℕ) → AreKeyed slots' robots' claims' → AreNumbered slots' next → kept' ≡ length (events_of slots') → length robots'.queues ≡ length robots.queues → claims'.chains ≡ claims.chains → events_of slots' ≡ without_events (events_of slots) (tail_of r count (events_of slots))
    → IsStored groups reaches slots' robots' claims' kept' next
cut groups reaches slots robots claims kept next stored r count slots' robots' claims' kept' keyed numbered' counted same_robots same_claims events = record {
  keyed = keyed;
  numbered = numbered';
  claim_count = same_claims ∙ stored.claim_count;
  reached = stored.reached;
  counted = counted;
  graph = subst (λ n. IsGraph n groups (events_of slots') next) (sym same_robots) (subst (λ es. IsGraph (length robots.queues) groups es next) (sym events) (tail_good (length robots.queues) groups (events_of slots) next r count stored.graph));
}

-- a graph with the same events
pub restored : (groups : List ClaimGroup) (reaches : List Reach) (slots : List (Option Event)) (robots : Queues) (claims : Slots) (kept next : ℕ) → IsStored groups reaches slots robots claims kept next
    → (slots' : List (Option Event)) (robots' : Queues) (claims' : Slots) → AreKeyed slots' robots' claims' → AreNumbered slots' next → events_of slots' ≡ events_of slots → length robots'.queues ≡ length robots.queues → claims'.chains ≡ claims.chains
    → IsStored groups reaches slots' robots' claims' kept next
restored groups reaches slots robots claims kept next stored slots' robots' claims' keyed numbered' events same_robots same_claims = record {
  keyed = keyed;
  numbered = numbered';
  claim_count = same_claims ∙ stored.claim_count;
  reached = stored.reached;
  counted = stored.counted ∙ ap length (sym events);
  graph = subst (λ n. IsGraph n groups (events_of slots') next) (sym same_robots) (subst (λ es. IsGraph (length robots.queues) groups es next) (sym events) stored.graph);
}

-- a graph without events
pub empty_stored : (groups : List ClaimGroup) (reaches : List Reach) (slots : List (Option Event)) (robots : Queues) (claims : Slots) (next count : ℕ) → count ≤ 64 → length groups ≤ 1280 → IsReached groups reaches → slots ≡ [] → robots.queues ≡ replicate count [] → claims.keys ≡ [] → claims.chains ≡ length groups → IsStored groups reaches slots robots claims 0 next
empty_stored groups reaches slots robots claims next count few_robots few_claims reached none r c chains = record {
  keyed = record { by_robot = λ k l. ap (λ qs. queue_of k qs) r ∙ (get_or-replicate count k [] [] (let a = ap length r in omega (arith, length-replicate {A = List ℕ} count [])) ∙ ap (λ xs. map number_of (own k (events_of xs))) (sym none)); by_claim = c ∙ sym (ap (λ xs. map claim_key xs) none) };
  numbered = λ i e h. absurd (none-some e (ap (λ xs. get_or xs i None) (sym none) ∙ h));
  claim_count = chains;
  reached = reached;
  counted = sym (ap (λ xs. length (events_of xs)) none);
  graph = subst (λ xs. IsGraph (length robots.queues) groups (events_of xs) next) (sym none) (record {
    few_robots = (let a = ap length r in omega (arith, length-replicate {A = List ℕ} count []));
    few_claims = few_claims;
    ascends = tt;
    below = λ e m. absurd (In-nil m);
    robot = λ e m. absurd (In-nil m);
    known = λ e m. absurd (In-nil m);
    few_events = omega arith;
    apart = λ f g c d m. absurd (In-nil m);
  });
}
