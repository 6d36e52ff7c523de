-- The scan for the first of a robot's last events that may go.
use Rattle.std.proofs.Common.{◌≡◌, ℕ, ◌+◌, ◌≤◌, Bool, true, false, inl, inr, refl, sym, ap, ◌∙◌, List, length, arith, Some}
use Rattle.std.proofs.lemmas.Bool.{both_ways, cases_lt}
use Rattle.std.proofs.lemmas.Option.{slice_get_within, same_Some}
use Rattle.std.specs.Prelude.{slice_get}
use Rattle.fleet_base.specs.declared.numbers.ClaimGroup.{ClaimGroup}
use Rattle.fleet_base.specs.declared.numbers.Event.{Event}
use Rattle.fleet_model.specs.Lists.{In}
use Rattle.fleet_model.specs.Plans.{own}
use Rattle.fleet_model.proofs.Numbers.{own_In}
use Rattle.event_graph.specs.Graphs.{has_waiting, AtNumber}
use Rattle.merge_op.proofs.Places.{get_In}
use Rattle.merge_op.specs.Rests.{begins_step, IsFirstFree, IsUnawaitedFrom}

-- an event of a robot is one of all events
pub own_at : (r : ℕ) (events : List Event) (place : ℕ) (e : Event) → slice_get (own r events) place ≡ Some e → In e events
own_at r events place e at = (own_In r events (get_In (own r events) place e at)).0

-- what is answered of the number of a robot's event is answered of the event
pub answered : (groups : List ClaimGroup) (r : ℕ) (events : List Event) (place : ℕ) (e : Event) (answer wanted : Bool) → slice_get (own r events) place ≡ Some e
    → AtNumber events e.no (λ f. answer ≡ has_waiting groups events f) → answer ≡ wanted → has_waiting groups events e ≡ wanted
answered groups r events place e answer wanted at is h = sym (is e (own_at r events place e at) refl) ∙ h

module _ (cells : ℕ) (groups : List ClaimGroup) (events mine : List Event) where
  -- how far the scan has come
  pub record IsScanned (bound first : ℕ) : Type 0 where
    pub unawaited : IsUnawaitedFrom groups events mine bound
    pub best : IsFirstFree cells groups events mine bound first

  past_end : (i : ℕ) (e : Event) → length mine ≤ i → slice_get mine i ≡ Some e → ⊥
  past_end i e l h = let w = slice_get_within mine i e h in omega arith

  -- at first nothing is behind
  pub scan_begins : (left : ℕ) → left ≡ length mine → IsScanned left left
  scan_begins left e =
      let none : IsUnawaitedFrom groups events mine left = λ i f l h. absurd (past_end i f (omega arith) h) in
      record {
        unawaited = none;
        best = record { free = record { within = omega arith; begins = λ f h. absurd (past_end left f (omega arith) h); unawaited = none }; first = λ i l free. l };
      }

  module _ (bound place : ℕ) (e : Event) (next : place + 1 ≡ bound) (at : slice_get mine place ≡ Some e) where
    unawaited_on : has_waiting groups events e ≡ false → IsUnawaitedFrom groups events mine bound → IsUnawaitedFrom groups events mine place
    unawaited_on free none i f l h = elim (cases_lt place i) [
      | inl behind ↦ none i f (omega arith) h
      | inr upto ↦ (let same : place ≡ i = omega arith in let k : e ≡ f = same_Some e f (sym at ∙ (ap (slice_get mine) same ∙ h)) in ap (has_waiting groups events) (sym k) ∙ free)
    ]

    -- one more event for which nobody waits, and with which a step begins
    pub scan_rests : (first : ℕ) → has_waiting groups events e ≡ false → begins_step cells e.kind ≡ true → IsScanned bound first → IsScanned place place
    scan_rests first free begins s =
        let none = unawaited_on free s.unawaited in
        record {
          unawaited = none;
          best = record {
            free = record {
              within = (let w = slice_get_within mine place e at in omega arith);
              begins = λ f h. let k : e ≡ f = same_Some e f (sym at ∙ h) in ap (λ (x : Event). begins_step cells x.kind) (sym k) ∙ begins;
              unawaited = none;
            };
            first = λ i l f. l;
          };
        }

    -- one more for which nobody waits
    pub scan_goes_on : (first : ℕ) → has_waiting groups events e ≡ false → begins_step cells e.kind ≡ false → IsScanned bound first → IsScanned place first
    scan_goes_on first free inside s = record {
      unawaited = unawaited_on free s.unawaited;
      best = record {
        free = s.best.free;
        first = λ i l f. elim (cases_lt place i) [
          | inl behind ↦ s.best.first i (omega arith) f
          | inr upto ↦ (let same : place ≡ i = omega arith in absurd (both_ways (begins_step cells e.kind) inside (f.begins e (ap (slice_get mine) (sym same) ∙ at))))
        ];
      };
    }

    -- the next is one for which another waits: no place up to it will do
    pub scan_ends : (first : ℕ) → has_waiting groups events e ≡ true → IsScanned bound first → IsFirstFree cells groups events mine 0 first
    scan_ends first waited s = record {
      free = s.best.free;
      first = λ i l f. elim (cases_lt place i) [
        | inl behind ↦ s.best.first i (omega arith) f
        | inr upto ↦ absurd (both_ways (has_waiting groups events e) (f.unawaited place e upto at) waited)
      ];
    }

  -- nothing is in front
  pub scanned_all : (bound first : ℕ) → bound ≡ 0 → IsScanned bound first → IsFirstFree cells groups events mine 0 first
  scanned_all bound first e s = record { free = s.best.free; first = λ i l f. s.best.first i (omega arith) f }
