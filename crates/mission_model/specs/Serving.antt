-- Entries that leave a robot its plan, or add to it.
use Rattle.std.specs.Prelude.{◌≡◌, ℕ, List, [], ◌∷◌}
use Rattle.fleet_base.specs.declared.entries.Act.{Act}
use Rattle.fleet_base.specs.declared.entries.Act.TheVariants.{Withdrawn}
use Rattle.fleet_base.specs.declared.entries.Entry.{Entry}

-- the act takes no event back
abbrev pub KeepsEvents : Act → Type 0
KeepsEvents (Withdrawn removed end) = ⊥
KeepsEvents _ = Unit {0}

-- no entry of these is of robot r
abbrev pub AreOthers : ℕ → List Entry → Type 0
AreOthers r [] = Unit {0}
AreOthers r (entry ∷ entries) = (entry.robot.0 ≡ r → ⊥) × AreOthers r entries
