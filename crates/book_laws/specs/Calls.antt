-- What a call of a coordinator answers, and the book that it leaves, as its contract tells.
use Rattle.std.specs.Prelude.{◌≡◌, ℕ, Bool, List, Result}
use Rattle.fleet_base.specs.declared.answers.ProposeRefused.{ProposeRefused}
use Rattle.fleet_base.specs.declared.answers.ProposeRefused.TheVariants as propose_refused
use Rattle.fleet_base.specs.declared.answers.Proposed.{Proposed}
use Rattle.fleet_base.specs.declared.answers.ReplanRefused.{ReplanRefused}
use Rattle.fleet_base.specs.declared.answers.ReportRefused.{ReportRefused}
use Rattle.fleet_base.specs.declared.answers.RetryRefused.{RetryRefused}
use Rattle.fleet_base.specs.declared.answers.RetryRefused.TheVariants as retry_refused
use Rattle.fleet_base.specs.declared.numbers.CellNo.{CellNo}
use Rattle.fleet_base.specs.declared.numbers.EventNo.{EventNo}
use Rattle.fleet_base.specs.declared.numbers.Span.{Span}
use Rattle.fleet_model.specs.Calls.{propose, replan, report, retry}
use Rattle.coordinator.specs.Books.{Book, IsAnswer, book_after, state_of}
use Rattle.coordinator.specs.Replans.{IsReplanAnswer}

-- robot r's `propose` of these cells is answered so, and leaves this book
pub record AnswersPropose (book : Book) (r : ℕ) (cells : List CellNo) (told : Result Proposed ProposeRefused) (after : Book) : Type 0 where
  pub answer : IsAnswer propose_refused.NoMemory told (propose (state_of book) r cells).answer
  pub book_is : after ≡ book_after told (propose (state_of book) r cells).entry book

-- robot r's `retry` is answered so, and leaves this book
pub record AnswersRetry (book : Book) (r : ℕ) (told : Result Span RetryRefused) (after : Book) : Type 0 where
  pub answer : IsAnswer retry_refused.NoMemory told (retry (state_of book) r).answer
  pub book_is : after ≡ book_after told (retry (state_of book) r).entry book

-- robot r's `replan` to this goal is answered so, and leaves this book
pub record AnswersReplan (book : Book) (r : ℕ) (goal : CellNo → Bool) (told : Result Span ReplanRefused) (after : Book) : Type 0 where
  pub answer : IsReplanAnswer told (replan (state_of book) r goal).answer
  pub book_is : after ≡ book_after told (replan (state_of book) r goal).entry book

-- robot r's `report` of this event is answered so, and leaves this book
pub record AnswersReport (book : Book) (r : ℕ) (event : EventNo) (told : Result (Unit {0}) ReportRefused) (after : Book) : Type 0 where
  pub answer : told ≡ (report (state_of book) r event).answer
  pub book_is : after ≡ book_after told (report (state_of book) r event).entry book
