-- What holds of every replay that is taken: its journal is legal and sound, and the state that is printed is the one that it reaches.
use Rattle.std.specs.Prelude.{◌≡◌, ℕ, List}
use Rattle.run_base.specs.Openings.{reached_text}
use Rattle.run_base.specs.Sound.{IsSoundRun}
use Rattle.fleet_replay.specs.Replay.{ReplayValue}

-- the run is sound, and the text is that of the state that it reaches
pub record ReplaysSoundly (replay : ReplayValue) (text : List ℕ) : Type 0 where
  pub run : IsSoundRun replay.scenario replay.entries
  pub printed : text ≡ reached_text replay.scenario replay.entries
