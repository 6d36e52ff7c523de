-- How a backlog is told from another: each part as numbers, pairs and lists.
use Rattle.std.specs.Prelude.{ℕ, Bool, List, Option, refl}
use Rattle.std.specs.Coded.{Coded, code_by, coded×, coded_ℕ, coded_bool, coded_list, coded_option}
use Rattle.std.specs.Ordering.{nat_cmp}
use Rattle.std.specs.FinSet as set
use Rattle.fleet_base.specs.declared.numbers.CellNo.{CellNo}
use Rattle.fleet_base.specs.declared.numbers.ClaimGroup.{ClaimGroup}
use Rattle.fleet_base.specs.declared.numbers.ClaimNo.{ClaimNo}
use Rattle.deferral.specs.declared.pending.Pending.{Pending}
use Rattle.deferral.specs.Backlogs.{Backlog}
use Rattle.deferral.specs.Tallies.{Marks}

-- a cell is its number
abbrev pub cell_code : Coded CellNo
cell_code = code_by ℕ coded_ℕ (λ c. c.0) (λ n. record { 0 = n }) (λ _. refl)

-- a claim is its number
abbrev pub claim_code : Coded ClaimNo
claim_code = code_by ℕ coded_ℕ (λ c. c.0) (λ n. record { 0 = n }) (λ _. refl)

-- a group is the pair of its fields
abbrev pub group_code : Coded ClaimGroup
group_code = code_by (ℕ × Bool) (coded× coded_ℕ coded_bool) (λ g. (g.group, g.alone)) (λ p. record { group = p.0; alone = p.1 }) (λ _. refl)

-- a pending route is the pair of its fields
abbrev pub pending_code : Coded Pending
pending_code = code_by (List CellNo × set.FinSet nat_cmp) (coded× (coded_list cell_code) (set.code coded_ℕ)) (λ p. (p.route, p.needs)) (λ p. record { route = p.0; needs = p.1 }) (λ _. refl)

-- a backlog is the pairs of its fields
abbrev pub backlog_code : Coded Backlog
backlog_code =
    code_by (List ClaimGroup × (List (Option Pending) × List (List ClaimNo)))
    (coded× (coded_list group_code) (coded× (coded_list (coded_option pending_code)) (coded_list (coded_list claim_code))))
    (λ b. (b.groups, (b.pending, b.ends))) (λ p. record { groups = p.0; pending = p.1.0; ends = p.1.1 }) (λ _. refl)

-- two lists of words are their pair
abbrev pub marks_code : Coded Marks
marks_code = code_by (List ℕ × List ℕ) (coded× (coded_list coded_ℕ) (coded_list coded_ℕ)) (λ m. (m.needed, m.kept)) (λ p. record { needed = p.0; kept = p.1 }) (λ _. refl)
