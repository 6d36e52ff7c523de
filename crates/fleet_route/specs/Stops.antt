-- What a function gives that may lack memory, beside what is due.
use Rattle.std.specs.Prelude.{◌≡◌, Ok, Err, Result}
use Rattle.scenario_reader.specs.declared.stop.ReadRefused.{ReadRefused}
use Rattle.scenario_reader.specs.declared.stop.ReadRefused.TheVariants as read
use Rattle.fleet_route.specs.declared.refused.Refusal.{Refusal}
use Rattle.fleet_route.specs.declared.refused.Refusal.TheVariants.{Line}
use Rattle.fleet_route.specs.declared.refused.Untold.{Untold}
use Rattle.fleet_route.specs.declared.refused.Untold.TheVariants.{NoMemory, Refused}

-- a refusal of the reader of scenarios
abbrev pub of_scenario : ReadRefused → Untold
of_scenario (read.Bad at) = Refused (Line at)
of_scenario read.NoMemory = NoMemory

-- a refusal that is answered is the one that is due
abbrev pub Fails : {Y : Type 0} → Untold → Result Y Refusal → Type 0
Fails (Refused refusal) due = due ≡ Err refusal
Fails NoMemory due = Unit {0}

-- what is answered, seen by `view`, is what is due, unless memory ran out
abbrev pub Gives : {X Y : Type 0} → (X → Y) → Result X Untold → Result Y Refusal → Type 0
Gives view (Ok x) due = due ≡ Ok (view x)
Gives view (Err untold) due = Fails untold due
