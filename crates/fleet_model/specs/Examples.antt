-- Words for small runs: robots, cells, the sites of two examples, calls, answers, and what a state shows.
use Rattle.std.specs.Prelude.{ℕ, ◌+◌, ◌-◌, Bool, true, ◌&&◌, ◌==◌, List, [], ◌∷◌, ◌++◌, map, length, replicate, Option, None, Ok, Err}
use Rattle.std.specs.List.{range_with_len, flat_map, list_any}
use Rattle.fleet_base.specs.Lists.{robots_of}
use Rattle.fleet_base.specs.declared.answers.Block.{Block}
use Rattle.fleet_base.specs.declared.answers.Proposed.TheVariants as proposed
use Rattle.fleet_base.specs.declared.answers.ReportRefused.TheVariants as report_refused
use Rattle.fleet_base.specs.declared.answers.RetryRefused.TheVariants as retry_refused
use Rattle.fleet_base.specs.declared.entries.Act.{Act}
use Rattle.fleet_base.specs.declared.entries.Entry.{Entry}
use Rattle.fleet_base.specs.declared.marks.Mark.{Mark}
use Rattle.fleet_base.specs.declared.numbers.CellNo.{CellNo}
use Rattle.fleet_base.specs.declared.numbers.ClaimGroup.{ClaimGroup}
use Rattle.fleet_base.specs.declared.numbers.ClaimNo.{ClaimNo}
use Rattle.fleet_base.specs.declared.numbers.Event.{Event}
use Rattle.fleet_base.specs.declared.numbers.EventNo.{EventNo}
use Rattle.fleet_base.specs.declared.numbers.Kind.TheVariants.{Acquire, Move, Release}
use Rattle.fleet_base.specs.declared.numbers.Link.{Link}
use Rattle.fleet_base.specs.declared.numbers.RobotNo.{RobotNo}
use Rattle.fleet_base.specs.declared.numbers.Span.{Span}
use Rattle.fleet_model.specs.Lists.{numbers_below, has_cell}
use Rattle.fleet_model.specs.Sites.{Site}
use Rattle.fleet_model.specs.Replays.{opening, replay, held_claims}
use Rattle.fleet_model.specs.Plans.{unfinished, awaited, cell_of}
use Rattle.fleet_model.specs.Routes.{least_route}
use Rattle.fleet_model.specs.States.{State, opening_state, start_state}
use Rattle.fleet_model.specs.Calls.{Call, Propose, Retry, Cancel, Withdraw, Replan, Report, LookAt, Answer, Proposes, Retries, Cancels, Withdraws, Replans, Reports}

-- Numbers.

-- the first robot
abbrev pub r1 : ℕ
r1 = 0

-- the second robot
abbrev pub r2 : ℕ
r2 = 1

-- the third robot
abbrev pub r3 : ℕ
r3 = 2

-- the cells a b c d e of the junction and of the bypass, and their claims
abbrev pub a : ℕ
a = 0

abbrev pub b : ℕ
b = 1

abbrev pub c : ℕ
c = 2

abbrev pub d : ℕ
d = 3

abbrev pub e : ℕ
e = 4

-- the robot of this number
abbrev pub robot : ℕ → RobotNo
robot n = record { 0 = n }

-- the cell of this number
abbrev pub cell : ℕ → CellNo
cell n = record { 0 = n }

-- the cells of these numbers
abbrev pub cells : List ℕ → List CellNo
cells ns = map cell ns

-- the claim of this number
abbrev pub claim : ℕ → ClaimNo
claim n = record { 0 = n }

-- the claims of these numbers
abbrev pub claims : List ℕ → List ClaimNo
claims ns = map claim ns

-- the event of this number
abbrev pub event : ℕ → EventNo
event n = record { 0 = n }

-- the events from the first to the last
abbrev pub span : ℕ → ℕ → Span
span first last = record { first = event first; last = event last }

-- the mark with so many entries before it, and this next number
abbrev pub mark : ℕ → ℕ → Mark
mark before next = record { before = before; next = event next }

-- Sites.

-- a link to cell n of this cost
abbrev pub to : ℕ → ℕ → Link
to n cost = record { to = cell n; cost = cost }

-- n claims, each alone in a group of its own
abbrev pub alone : ℕ → List ClaimGroup
alone n = map (λ k. record { group = k; alone = true }) (numbers_below n)

-- each of n cells with its own claim
abbrev pub own_claims : ℕ → List (List ClaimNo)
own_claims n = map (λ k. claim k ∷ []) (numbers_below n)

-- the junction: cells a b c d; lanes of cost 1 between a and b, b and c, d and b
abbrev pub junction : Site
junction = record {
  links = (to b 1 ∷ []) ∷ (to a 1 ∷ to c 1 ∷ to d 1 ∷ []) ∷ (to b 1 ∷ []) ∷ (to b 1 ∷ []) ∷ [];
  footprints = own_claims 4;
  groups = alone 4;
}

-- the bypass: cells a b c d e; lanes of cost 1 between a and b, b and c, c and d, and of cost 2 between b and e, e and d
abbrev pub bypass : Site
bypass = record {
  links = (to b 1 ∷ []) ∷ (to a 1 ∷ to c 1 ∷ to e 2 ∷ []) ∷ (to b 1 ∷ to d 1 ∷ []) ∷ (to c 1 ∷ to e 2 ∷ []) ∷ (to b 2 ∷ to d 2 ∷ []) ∷ [];
  footprints = own_claims 5;
  groups = alone 5;
}

-- the bypass without the lanes of e
abbrev pub closed_bypass : Site
closed_bypass = record {
  links = (to b 1 ∷ []) ∷ (to a 1 ∷ to c 1 ∷ []) ∷ (to b 1 ∷ to d 1 ∷ []) ∷ (to c 1 ∷ []) ∷ [] ∷ [];
  footprints = own_claims 5;
  groups = alone 5;
}

-- the claim of the tunnel's crossing
abbrev pub inside : ℕ
inside = 5

-- the tunnel: the closed bypass with a crossing of b and c
abbrev pub tunnel : Site
tunnel = record {
  links = closed_bypass.links;
  footprints = (claim a ∷ []) ∷ (claim b ∷ claim inside ∷ []) ∷ (claim c ∷ claim inside ∷ []) ∷ (claim d ∷ []) ∷ (claim e ∷ []) ∷ [];
  groups = alone 6;
}

-- the square: cells a b c d; links of cost 1 from a to b, a to c, b to d and c to d, and of cost 3 from a to d
abbrev pub square : Site
square = record {
  links = (to b 1 ∷ to c 1 ∷ to d 3 ∷ []) ∷ (to d 1 ∷ []) ∷ (to d 1 ∷ []) ∷ [] ∷ [];
  footprints = own_claims 4;
  groups = alone 4;
}

-- robots in these cells of a site, with a cap of a million
abbrev pub fleet_on : Site → List ℕ → State
fleet_on site starts = start_state site (cells starts) 1000000

-- the least route from a cell to a cell past these cells
abbrev pub route_past : List ℕ → Site → ℕ → ℕ → Option (List CellNo)
route_past avoided site from goal = least_route site (has_cell (cells (goal ∷ []))) (has_cell (cells avoided)) (cell from)

-- the relation of the first number of each pair to the second
abbrev pub relates : List (ℕ × ℕ) → ℕ → ℕ → Bool
relates pairs r q = list_any (λ p. (p.0 == r) && (p.1 == q)) pairs

-- Calls.

-- robot r proposes the route through these cells
abbrev pub proposes : ℕ → List ℕ → ℕ × Call
proposes r route = (r, Propose (cells route))

-- robot r retries its pending route
abbrev pub retries : ℕ → ℕ × Call
retries r = (r, Retry)

-- robot r cancels its pending route
abbrev pub cancels : ℕ → ℕ × Call
cancels r = (r, Cancel)

-- robot r withdraws
abbrev pub withdraws : ℕ → ℕ × Call
withdraws r = (r, Withdraw)

-- robot r replans to a cell
abbrev pub replans : ℕ → ℕ → ℕ × Call
replans r goal = (r, Replan (cells (goal ∷ [])))

-- robot r reports event n
abbrev pub reports : ℕ → ℕ → ℕ × Call
reports r n = (r, Report (event n))

-- robot r reports the events from the first to the last
abbrev pub reports_all : ℕ → ℕ → ℕ → List (ℕ × Call)
reports_all r first last = map (reports r) (range_with_len first (last + 1 - first))

-- robot r looks
abbrev pub looks : ℕ → ℕ × Call
looks r = (r, LookAt)

-- Answers.

-- a blocker: the claim, the robot at whose end it is kept, and the cycle
abbrev pub block : ℕ → ℕ → List ℕ → Block
block c by cycle = record { claim = claim c; by = robot by; cycle = robots_of cycle }

-- the proposal is merged, as the events from the first to the last
abbrev pub merged_as : ℕ → ℕ → Answer
merged_as first last = Proposes (Ok (proposed.Merged (span first last)))

-- the proposal is deferred
abbrev pub deferred_by : ℕ → ℕ → List ℕ → Answer
deferred_by c by cycle = Proposes (Ok (proposed.Deferred (block c by cycle)))

-- the retry merges the pending route, as the events from the first to the last
abbrev pub retried_as : ℕ → ℕ → Answer
retried_as first last = Retries (Ok (span first last))

-- the retry finds the pending route blocked
abbrev pub still_deferred : ℕ → ℕ → List ℕ → Answer
still_deferred c by cycle = Retries (Err (retry_refused.StillDeferred (block c by cycle)))

-- the pending route is dropped
abbrev pub canceled : Answer
canceled = Cancels (Ok tt)

-- so many events are taken back, and the robot's end is then this cell
abbrev pub withdrawn_to : ℕ → ℕ → Answer
withdrawn_to removed end = Withdraws (Ok (record { removed = removed; end = cell end }))

-- the detour is merged, as the events from the first to the last
abbrev pub replanned_as : ℕ → ℕ → Answer
replanned_as first last = Replans (Ok (span first last))

-- the report is accepted
abbrev pub reported : Answer
reported = Reports (Ok tt)

-- n reports are accepted
abbrev pub reported_times : ℕ → List Answer
reported_times n = replicate n reported

-- the report comes too early: the event waits for event n
abbrev pub too_early : ℕ → Answer
too_early n = Reports (Err (report_refused.Early (event n)))

-- Events and entries.

-- event n: robot r acquires a claim
abbrev pub acquires : ℕ → ℕ → ℕ → Event
acquires n r c = record { no = event n; robot = robot r; kind = Acquire (claim c) }

-- event n: robot r moves from a cell to a cell
abbrev pub moves : ℕ → ℕ → ℕ → ℕ → Event
moves n r from to = record { no = event n; robot = robot r; kind = Move (cell from) (cell to) }

-- event n: robot r releases a claim
abbrev pub releases : ℕ → ℕ → ℕ → Event
releases n r c = record { no = event n; robot = robot r; kind = Release (claim c) }

-- an entry of robot r
abbrev pub entry : ℕ → Act → Entry
entry r act = record { robot = robot r; act = act }

-- What a state shows.

-- the cell that each robot is in
abbrev pub places : State → List CellNo
places s = map (cell_of s.fleet) (numbers_below (length s.fleet.starts))

-- the claims that robot r holds
abbrev pub holds : State → ℕ → List ClaimNo
holds s r = held_claims s.fleet.site (replay (opening s.fleet.site s.fleet.starts) s.fleet.finished r)

-- each unfinished event that waits, with each release that it waits for
abbrev pub waits : State → List (ℕ × ℕ)
waits s = flat_map (λ e. map (λ f. (e.no.0, f.no.0)) (awaited s.fleet e)) (unfinished s.fleet)

-- Runs.

-- the junction with r1 in a and r2 in d
abbrev pub two_at_junction : State
two_at_junction = fleet_on junction (a ∷ d ∷ [])

-- r1 proposes from a by b to c, and then r2 from d to b
abbrev pub both_by_b : List (ℕ × Call)
both_by_b = proposes r1 (a ∷ b ∷ c ∷ []) ∷ proposes r2 (d ∷ b ∷ []) ∷ []

-- then r1 drives to c, and r2 acquires b
abbrev pub b_taken_over : List (ℕ × Call)
b_taken_over = both_by_b ++ reports_all r1 1 6 ++ reports r2 7 ∷ []

-- r1 in a and r2 in c propose to b; then r1 proposes back to a, and r2 retries
abbrev pub there_and_back : List (ℕ × Call)
there_and_back = proposes r1 (a ∷ b ∷ []) ∷ proposes r2 (c ∷ b ∷ []) ∷ proposes r1 (b ∷ a ∷ []) ∷ retries r2 ∷ []

-- r1 in a drives by b and back, twice; r2 in c then proposes to b
abbrev pub twice_through_b : List (ℕ × Call)
twice_through_b = proposes r1 (a ∷ b ∷ a ∷ []) ∷ proposes r1 (a ∷ b ∷ a ∷ []) ∷ proposes r2 (c ∷ b ∷ []) ∷ []

-- r1 in a is kept from b by r2, which then drives to c
abbrev pub b_leaving : List (ℕ × Call)
b_leaving = proposes r1 (a ∷ b ∷ []) ∷ proposes r2 (b ∷ c ∷ []) ∷ []

-- the bypass with r1 in a, r2 in b and r3 in d
abbrev pub three_at_bypass : State
three_at_bypass = fleet_on bypass (a ∷ b ∷ d ∷ [])

-- r1 and r2 propose to each other's cells; r3 drives to c
abbrev pub face_to_face : List (ℕ × Call)
face_to_face = proposes r1 (a ∷ b ∷ []) ∷ proposes r2 (b ∷ a ∷ []) ∷ proposes r3 (d ∷ c ∷ []) ∷ reports_all r3 1 3

-- then r1 and r2 retry, r1 proposes once more and r3 cancels
abbrev pub no_way_out : List (ℕ × Call)
no_way_out = retries r1 ∷ retries r2 ∷ proposes r1 (a ∷ b ∷ []) ∷ cancels r3 ∷ []

-- r1 in b proposes by c to d, and r2 in c by b to a
abbrev pub past_each_other : List (ℕ × Call)
past_each_other = proposes r1 (b ∷ c ∷ d ∷ []) ∷ proposes r2 (c ∷ b ∷ a ∷ []) ∷ []

-- then r1 replans, to b where it is and to d, and r2 retries
abbrev pub by_the_detour : List (ℕ × Call)
by_the_detour = past_each_other ++ replans r1 b ∷ replans r1 d ∷ retries r2 ∷ []

-- the junction with r1 alone, in a
abbrev pub one_at_junction : State
one_at_junction = fleet_on junction (a ∷ [])

-- r1 in b drives back to a
abbrev pub home_again : List (ℕ × Call)
home_again = proposes r1 (b ∷ a ∷ []) ∷ reports_all r1 4 6

-- r1 drives from a to b and back to a
abbrev pub there_and_home : List (ℕ × Call)
there_and_home = proposes r1 (a ∷ b ∷ []) ∷ reports_all r1 1 3 ++ home_again

-- r1 stands in b, with no pending route; the next number is 4, and the cap 4
abbrev pub at_checkpoint : State
at_checkpoint = opening_state junction (cells (b ∷ [])) (None ∷ []) 4 4

-- r1 proposes from a by b to c, acquires b and withdraws
abbrev pub step_begun : List (ℕ × Call)
step_begun = proposes r1 (a ∷ b ∷ c ∷ []) ∷ reports r1 1 ∷ withdraws r1 ∷ []
