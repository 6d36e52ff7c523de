-- The first bad line of a scenario that something else may follow.
use Rattle.std.proofs.Common.{◌≡◌, ℕ, List, Ok, Err, Result, ap}
use Rattle.scenario_reader.specs.Reading.{front_done, front_of, front_step}
use Rattle.scenario_reader.specs.States.{AtHeader}
use Rattle.scenario_reader.specs.Tables.{mapped}
use Rattle.site_lines.specs.declared.fault.At.{At}
use Rattle.site_lines.specs.Lines.{lines_of}
use Rattle.site_lines.specs.Readings.{read_from}
use Rattle.site_lines.proofs.Readings.{first_fault}
use Rattle.run_base.specs.Openings.{IsBadFront}

-- what is mapped fails where it did
mapped_err : {S T : Type 0} (f : S → T) (r : Result S At) (at : At) → mapped f r ≡ Err at → r ≡ Err at
mapped_err f (Ok s) at is = absurd (cc)
mapped_err f (Err e) at is = let same : e ≡ at = cc in ap (λ a. Err a) same

-- a refusal names it
pub bad_front : (input : List ℕ) (at : At) → front_of input ≡ Err at → IsBadFront input at
unfolding front_of
bad_front input at is = first_fault front_step front_done 1 (AtHeader, 0) (lines_of input) at (mapped_err _ (read_from front_step front_done 1 (AtHeader, 0) (lines_of input)) at is)
