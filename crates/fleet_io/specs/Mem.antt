-- What the sources and sinks in memory show.
use Rattle.std.specs.Prelude.{ℕ, ◌==◌, Bool, true, false, List, length, min}
use Rattle.std.specs.Prelude.{Some, None}
use Rattle.std.specs.List.{list_any}
use Rattle.std.specs.declared.option.Option.{Option}
use Rattle.fleet_io.specs.Causes.{next_count}

-- bytes left or written, the most of a call, the calls that are to fail, and how many calls and faults there were
pub record Held : Type 0 where
  pub bytes : List ℕ
  pub most : ℕ
  pub failing : List ℕ
  pub calls : ℕ
  pub faults : ℕ

-- bytes that are left, and the most that a call gives
pub record Supply : Type 0 where
  pub bytes : List ℕ
  pub most : ℕ

-- the bytes written, where they are told, and the most that a call takes
pub record Store : Type 0 where
  pub told : Option (List ℕ)
  pub most : ℕ

-- before the first call
abbrev pub held_at_first : List ℕ → ℕ → List ℕ → Held
held_at_first bytes most failing = record { bytes = bytes; most = most; failing = failing; calls = 0; faults = 0 }

-- how many bytes a read gives: the most that is left, goes into one call and fits the room
abbrev pub count_given : List ℕ → ℕ → ℕ → ℕ
count_given bytes most room = min (min (length bytes) most) room

-- whether the next call is among those that are to fail
abbrev pub is_to_fail : Held → Bool
is_to_fail h = list_any (λ n. n == next_count h.calls) h.failing

-- after a call that did not fail, which left these bytes
abbrev pub with_bytes : Held → List ℕ → Held
with_bytes h bytes = record h { bytes = bytes; calls = next_count h.calls }

-- after a call that failed
abbrev pub with_fault : Held → Held
with_fault h = record h { calls = next_count h.calls; faults = next_count h.faults }

-- the bytes written, or nothing once a piece was not kept
abbrev pub told_if : Bool → List ℕ → Option (List ℕ)
told_if true bytes = Some bytes
told_if false bytes = None
