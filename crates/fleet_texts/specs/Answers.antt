-- The lines of answers, without their line feeds.
use Rattle.std.specs.Prelude.{ℕ, List, [], ◌∷◌, ◌++◌, codes, Option, Some, None, Ok, Err}
use Rattle.std.specs.Fmt.{decimal}
use Rattle.fleet_base.specs.declared.answers.CancelRefused.{CancelRefused}
use Rattle.fleet_base.specs.declared.answers.CancelRefused.TheVariants as cancel
use Rattle.fleet_base.specs.declared.answers.EventLook.{EventLook}
use Rattle.fleet_base.specs.declared.answers.EventLook.TheVariants as event_look
use Rattle.fleet_base.specs.declared.answers.Look.{Look}
use Rattle.fleet_base.specs.declared.answers.PendingLook.{PendingLook}
use Rattle.fleet_base.specs.declared.answers.PendingLook.TheVariants as pending_look
use Rattle.fleet_base.specs.declared.answers.ProposeRefused.{ProposeRefused}
use Rattle.fleet_base.specs.declared.answers.ProposeRefused.TheVariants as propose
use Rattle.fleet_base.specs.declared.answers.Proposed.{Proposed}
use Rattle.fleet_base.specs.declared.answers.Proposed.TheVariants.{Merged, Deferred}
use Rattle.fleet_base.specs.declared.answers.ReplanRefused.{ReplanRefused}
use Rattle.fleet_base.specs.declared.answers.ReplanRefused.TheVariants as replan
use Rattle.fleet_base.specs.declared.answers.ReportRefused.{ReportRefused}
use Rattle.fleet_base.specs.declared.answers.ReportRefused.TheVariants as report
use Rattle.fleet_base.specs.declared.answers.RetryRefused.{RetryRefused}
use Rattle.fleet_base.specs.declared.answers.RetryRefused.TheVariants as retry
use Rattle.fleet_base.specs.declared.answers.WithdrawRefused.{WithdrawRefused}
use Rattle.fleet_base.specs.declared.answers.WithdrawRefused.TheVariants as withdraw
use Rattle.fleet_base.specs.declared.answers.Withdrawn.{Withdrawn}
use Rattle.fleet_base.specs.declared.numbers.EventNo.{EventNo}
use Rattle.fleet_base.specs.declared.numbers.Span.{Span}
use Rattle.fleet_model.specs.Calls.{Answer, Proposes, Retries, Cancels, Withdraws, Replans, Reports, Looks}
use Rattle.fleet_names.specs.Names.{Named}
use Rattle.site_map.specs.Built.{BuiltSite}
use Rattle.fleet_texts.specs.Words.{spaced, cell_text, kind_words, block_words}

-- the numbers of a merged route's events
abbrev pub span_text : Span → List ℕ
span_text span = spaced (codes "merged" ∷ decimal span.first.0 ∷ decimal span.last.0 ∷ [])

-- what became of a proposed route
abbrev pub proposed_text : Named → BuiltSite → Proposed → List ℕ
proposed_text names site (Merged span) = span_text span
proposed_text names site (Deferred block) = spaced (codes "deferred" ∷ block_words names site block)

-- why a proposal is refused
abbrev pub propose_refused_text : Named → ProposeRefused → List ℕ
propose_refused_text names propose.UnknownRobot = codes "refused robot"
propose_refused_text names propose.HasPending = codes "refused pending"
propose_refused_text names propose.Short = codes "refused short"
propose_refused_text names propose.TooLong = codes "refused long"
propose_refused_text names (propose.UnknownCell at) = spaced (codes "refused cell" ∷ decimal at ∷ [])
propose_refused_text names (propose.NoLink at) = spaced (codes "refused no link" ∷ decimal at ∷ [])
propose_refused_text names (propose.BadStart end) = spaced (codes "refused start" ∷ cell_text names end ∷ [])
propose_refused_text names propose.Full = codes "refused full"
propose_refused_text names propose.NoMemory = codes "refused memory"

-- why a retry is refused
abbrev pub retry_refused_text : Named → BuiltSite → RetryRefused → List ℕ
retry_refused_text names site retry.UnknownRobot = codes "refused robot"
retry_refused_text names site retry.NoPending = codes "refused no pending"
retry_refused_text names site (retry.StillDeferred block) = spaced (codes "still" ∷ block_words names site block)
retry_refused_text names site retry.Full = codes "refused full"
retry_refused_text names site retry.NoMemory = codes "refused memory"

-- why a cancel is refused
abbrev pub cancel_refused_text : CancelRefused → List ℕ
cancel_refused_text cancel.UnknownRobot = codes "refused robot"
cancel_refused_text cancel.NoPending = codes "refused no pending"

-- how many events were removed, and the new end
abbrev pub withdrawn_text : Named → Withdrawn → List ℕ
withdrawn_text names withdrawn = spaced (codes "withdrawn" ∷ decimal withdrawn.removed ∷ cell_text names withdrawn.end ∷ [])

-- why a withdrawal is refused
abbrev pub withdraw_refused_text : WithdrawRefused → List ℕ
withdraw_refused_text withdraw.UnknownRobot = codes "refused robot"
withdraw_refused_text withdraw.Nothing = codes "refused nothing"

-- why a replan is refused
abbrev pub replan_refused_text : ReplanRefused → List ℕ
replan_refused_text replan.UnknownRobot = codes "refused robot"
replan_refused_text replan.NoPending = codes "refused no pending"
replan_refused_text replan.AtGoal = codes "refused at goal"
replan_refused_text replan.NoDetour = codes "refused no detour"
replan_refused_text replan.Full = codes "refused full"
replan_refused_text replan.NoMemory = codes "refused memory"

-- the number of the robot's next event, if it has one
abbrev pub next_text : Option EventNo → List ℕ
next_text None = codes "none"
next_text (Some event) = decimal event.0

-- why a report is refused
abbrev pub report_refused_text : ReportRefused → List ℕ
report_refused_text report.UnknownRobot = codes "refused robot"
report_refused_text (report.NotNext next) = spaced (codes "refused next" ∷ next_text next ∷ [])
report_refused_text (report.Early on) = spaced (codes "refused early" ∷ decimal on.0 ∷ [])

-- the robot's next event, with its kind where it is ready, else with what it waits for
abbrev pub event_look_words : Named → BuiltSite → EventLook → List (List ℕ)
event_look_words names site event_look.Nothing = codes "none" ∷ []
event_look_words names site (event_look.Ready event kind) = codes "ready" ∷ decimal event.0 ∷ kind_words names site kind
event_look_words names site (event_look.Waits event on) = codes "waits" ∷ decimal event.0 ∷ codes "on" ∷ decimal on.0 ∷ []

-- the robot's pending route, with what blocks it
abbrev pub pending_look_words : Named → BuiltSite → PendingLook → List (List ℕ)
pending_look_words names site pending_look.Nothing = codes "none" ∷ []
pending_look_words names site pending_look.Free = codes "free" ∷ []
pending_look_words names site (pending_look.Blocked block) = codes "blocked" ∷ block_words names site block

-- where the robot is, its end, and how many events it has left
abbrev pub standing_words : Named → Look → List (List ℕ)
standing_words names look = codes "look at" ∷ cell_text names look.at ∷ codes "end" ∷ cell_text names look.end ∷ codes "left" ∷ decimal look.left ∷ []

-- what a look shows
abbrev pub look_words : Named → BuiltSite → Look → List (List ℕ)
look_words names site look = standing_words names look ++ codes "next" ∷ event_look_words names site look.event ++ codes "pending" ∷ pending_look_words names site look.pending

-- the same as a line
unfoldable pub look_text : Named → BuiltSite → Look → List ℕ
look_text names site look = spaced (look_words names site look)

-- the line of an answer
abbrev pub answer_text : Named → BuiltSite → Answer → List ℕ
answer_text names site (Proposes (Ok proposed)) = proposed_text names site proposed
answer_text names site (Proposes (Err refused)) = propose_refused_text names refused
answer_text names site (Retries (Ok span)) = span_text span
answer_text names site (Retries (Err refused)) = retry_refused_text names site refused
answer_text names site (Cancels (Ok nothing)) = codes "canceled"
answer_text names site (Cancels (Err refused)) = cancel_refused_text refused
answer_text names site (Withdraws (Ok withdrawn)) = withdrawn_text names withdrawn
answer_text names site (Withdraws (Err refused)) = withdraw_refused_text refused
answer_text names site (Replans (Ok span)) = span_text span
answer_text names site (Replans (Err refused)) = replan_refused_text refused
answer_text names site (Reports (Ok nothing)) = codes "reported"
answer_text names site (Reports (Err refused)) = report_refused_text refused
answer_text names site (Looks (Ok look)) = look_text names site look
answer_text names site (Looks (Err unknown)) = codes "refused robot"
