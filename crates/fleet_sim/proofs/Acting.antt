-- What a call adds is the entry of the policy act.
use Rattle.std.proofs.Common.{◌≡◌, ℕ, ◌+◌, false, refl, sym, ap, ◌∙◌, subst, [], ◌∷◌, length, arith, Option, Some, None}
use Rattle.std.proofs.lemmas.Bool.{lt-ltb}
use Rattle.std.proofs.lemmas.Bool.Decides.{nat_tests}
use Rattle.std.proofs.lemmas.List.{append-nil, length-append}
use Rattle.std.specs.Prelude.{nat_lt}
use Rattle.std.specs.Option.{is_some, option_and_then, option_to_list}
use Rattle.fleet_base.specs.declared.entries.Entry.{Entry}
use Rattle.fleet_model.specs.States.{State}
use Rattle.fleet_model.specs.Calls.{Call, turn}
use Rattle.mission_model.specs.Policies.{policy_act, policy_entry}
use Rattle.site_map.specs.Built.{BuiltSite}
use Rattle.site_map.specs.declared.goal.Goal.{Goal}
use Rattle.coordinator.specs.Books.{Book, with_entries}
use Rattle.robot_worker.specs.Legs.{leg_cells}
use Rattle.fleet_sim.specs.Drives.{WentOn}

-- the journal grew exactly where a call has an entry
pub grew : (entry : Option Entry) (old new : Book) (before after : ℕ) → before ≡ length old.journal → after ≡ length new.journal → new ≡ with_entries old (option_to_list entry) → nat_lt before after ≡ is_some entry
grew None old new before after b a adds =
    let long : length new.journal ≡ length old.journal = ap (λ (x : Book). length x.journal) adds ∙ ap length (append-nil old.journal) in
    let same : after ≡ before = omega arith in
    ap (nat_lt before) same ∙ not_less before
  where
    not_less : (n : ℕ) → nat_lt n n ≡ false
    not_less n = grind (arith, nat_tests)
grew (Some e) old new before after b a adds =
    let long : length new.journal ≡ length old.journal + 1 = ap (λ (x : Book). length x.journal) adds ∙ length-append old.journal (e ∷ []) in
    lt-ltb before after (omega arith)

-- the entry of the act that was asked for is that of the policy act
pub entry_by : (s : State) (r : ℕ) (site : BuiltSite) (leg : Option Goal) (call : Call) → Some call ≡ policy_act s r (leg_cells site leg) → (turn s r call).entry ≡ policy_entry s r (leg_cells site leg)
entry_by s r site leg call is = ap (option_and_then (λ c. (turn s r c).entry)) is

-- without an act none is made
pub stayed : (s : State) (r : ℕ) (site : BuiltSite) (leg : Option Goal) (book : Book) → None ≡ policy_act s r (leg_cells site leg) → WentOn (policy_entry s r (leg_cells site leg)) book book false
stayed s r site leg book is = subst (λ o. WentOn o book book false) (ap (option_and_then (λ c. (turn s r c).entry)) is) (record { adds = λ i. record book { journal = sym (append-nil book.journal) i }; told = refl })
