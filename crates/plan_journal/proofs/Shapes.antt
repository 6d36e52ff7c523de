-- Lines by how many words they have.
use Rattle.std.proofs.Common.{◌≡◌, ℕ, ◌<◌, ◌≤◌, ◌&&◌, Bool, List, [], ◌∷◌, length, map, get_or, drop, Result, Ok, Err, Bor, cond, refl, sym, ap, arith}
use Rattle.std.specs.List.{list_all}
use Rattle.std.specs.Str.Parse.{digits_value}
use Rattle.fleet_base.specs.declared.entries.Entry.{Entry}
use Rattle.fleet_names.specs.Names.{Named}
use Rattle.site_lines.specs.declared.fault.Code.TheVariants.{J5, J6}
use Rattle.site_lines.specs.declared.fault.Code.{Code}
use Rattle.plan_journal.proofs.Lists.{is_refused, is_told}
use Rattle.plan_journal.specs.declared.lines.LineRefused.{LineRefused}
use Rattle.plan_journal.specs.declared.lines.RouteLine.{RouteLine}
use Rattle.plan_journal.specs.Gives.{GivesLine}
use Rattle.plan_journal.specs.Entries.{judged, rows_of, has_empty, is_plain_number, is_robot, is_cell, robot_in, cell_in, event_in, is_number_to, route_line, deferred_by, deferred_line}

-- the bytes that words lend
abbrev pub lent : List (Bor (List ℕ)) → List (List ℕ)
lent words = map (λ w. w.now) words

pub route_short : (names : Named) (full : Bool) (words : List (Bor (List ℕ))) → length words < 3 → route_line names full (lent words) ≡ Err J5
route_short names full [] few = refl
route_short names full (a ∷ []) few = refl
route_short names full (a ∷ b ∷ []) few = refl
route_short names full (a ∷ b ∷ c ∷ words) few = absurd (omega arith)

pub route_long : (names : Named) (full empty : Bool) (words : List (Bor (List ℕ))) (d : Bor (List ℕ)) (result : Result RouteLine LineRefused) → 3 ≤ length words → empty ≡ has_empty (lent words)
    → GivesLine (λ line. line) result
    (judged (rows_of empty (is_plain_number (get_or words 1 d).now) (is_robot names (get_or words 0 d).now && list_all (is_cell names) (lent (drop 2 words))) full)
    (record { robot = robot_in names (get_or words 0 d).now; first = event_in (get_or words 1 d).now; route = map (cell_in names) (lent (drop 2 words)) }))
    → GivesLine (λ line. line) result (route_line names full (lent words))
route_long names full empty [] d result many is gives = absurd (omega arith)
route_long names full empty (a ∷ []) d result many is gives = absurd (omega arith)
route_long names full empty (a ∷ b ∷ []) d result many is gives = absurd (omega arith)
route_long names full empty (a ∷ b ∷ c ∷ words) d result many is gives = rw is at gives

pub deferred_short : (names : Named) (full : Bool) (words : List (Bor (List ℕ))) → length words < 2 → deferred_line names full (lent words) ≡ Err J5
deferred_short names full [] few = refl
deferred_short names full (a ∷ []) few = refl
deferred_short names full (a ∷ b ∷ words) few = absurd (omega arith)

pub deferred_refused : (names : Named) (full : Bool) (words : List (Bor (List ℕ))) (d : Bor (List ℕ)) (k : ℕ) (told : Code) → 2 ≤ length words
    → (let r : Result ℕ Code = Err told in r ≡ cond (is_number_to 64 (get_or words 1 d).now) (Ok k) (Err J6)) → deferred_line names full (lent words) ≡ Err told
deferred_refused names full [] d k told many is = absurd (omega arith)
deferred_refused names full (a ∷ []) d k told many is = absurd (omega arith)
deferred_refused names full (a ∷ b ∷ words) d k told many is = let refused = is_refused (is_number_to 64 b.now) k told J6 is in rw refused.0 (ap (λ (e : Code). Err e) (sym refused.1))

pub deferred_long : (names : Named) (full empty : Bool) (words : List (Bor (List ℕ))) (d : Bor (List ℕ)) (k : ℕ) (result : Result Entry LineRefused) → 2 ≤ length words → empty ≡ has_empty (lent words)
    → (let r : Result ℕ Code = Ok k in r ≡ cond (is_number_to 64 (get_or words 1 d).now) (Ok (digits_value 10 (get_or words 1 d).now)) (Err J6))
    → GivesLine (λ entry. entry) result (deferred_by names full empty (get_or words 0 d).now k (lent (drop 2 words)))
    → GivesLine (λ entry. entry) result (deferred_line names full (lent words))
deferred_long names full empty [] d k result many is count gives = absurd (omega arith)
deferred_long names full empty (a ∷ []) d k result many is count gives = absurd (omega arith)
deferred_long names full empty (a ∷ b ∷ words) d k result many is count gives =
    let told = is_told (is_number_to 64 b.now) (digits_value 10 b.now) k J6 count in
    rw (told.0, ← is, ← told.1) gives
