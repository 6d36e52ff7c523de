-- What requests ask for, and what answers say.
use Rattle.fleet_model.specs.Calls as call
use Rattle.fleet_model.specs.Calls.{Call}
use Rattle.site_map.specs.Built.{BuiltSite}
use Rattle.site_map.specs.Goals.{goal_cells, IsGoal}
use Rattle.fleet_calls.specs.declared.answer.Answer.{Answer}
use Rattle.fleet_calls.specs.declared.answer.Answer.TheVariants as answer
use Rattle.fleet_calls.specs.declared.request.Request.{Request}
use Rattle.fleet_calls.specs.declared.request.Request.TheVariants.{Propose, Retry, Cancel, Withdraw, Replan, Report, Look}

-- the call that a request is, on a site
abbrev pub call_of : BuiltSite → Request → Call
call_of site (Propose cells) = call.Propose cells
call_of site Retry = call.Retry
call_of site Cancel = call.Cancel
call_of site Withdraw = call.Withdraw
call_of site (Replan goal) = call.Replan (goal_cells site goal)
call_of site (Report event) = call.Report event
call_of site Look = call.LookAt

-- the goal of a request that has one is one of the site
abbrev pub HasGoal : BuiltSite → Request → Type 0
HasGoal site (Propose cells) = Unit {0}
HasGoal site Retry = Unit {0}
HasGoal site Cancel = Unit {0}
HasGoal site Withdraw = Unit {0}
HasGoal site (Replan goal) = IsGoal site goal
HasGoal site (Report event) = Unit {0}
HasGoal site Look = Unit {0}

-- the answer that a call gives
abbrev pub answer_of : Answer → call.Answer
answer_of (answer.Propose result) = call.Proposes result
answer_of (answer.Retry result) = call.Retries result
answer_of (answer.Cancel result) = call.Cancels result
answer_of (answer.Withdraw result) = call.Withdraws result
answer_of (answer.Replan result) = call.Replans result
answer_of (answer.Report result) = call.Reports result
answer_of (answer.Look result) = call.Looks result
