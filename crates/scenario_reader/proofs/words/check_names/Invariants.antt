use Rattle.std.proofs.Common.{◌≡◌, ◌-◌, ◌≤◌, ◌&&◌, length}
use Rattle.std.specs.List.{list_all}
use Rattle.fleet_names.specs.Names.{is_name}
use Rattle.scenario_reader.proofs.words.check_names.Given as goal

abbrev pub invariant-loop-word : goal.invariant-loop-word
invariant-loop-word l = record {
  fewer : length l.words ≤ length l.initial.words;
  missing : l.missing ≡ l.least - (length l.initial.words - length l.words);
  names : (l.are_names && list_all is_name l.words) ≡ list_all is_name l.initial.words;
}

abbrev pub decreases-loop-word : goal.decreases-loop-word
decreases-loop-word l = length l.words
