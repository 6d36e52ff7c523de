-- The places of a list of held claims.
use Rattle.std.specs.Prelude.{◌≤◌, take}
use Rattle.fleet_base.specs.declared.held.Held.TheInside.{Inside}
use Rattle.fleet_base.specs.Lists.{RiseFrom}

-- the used places hold claims that ascend
pub record IsFilled (held : Inside) : Type 0 where
  pub ascending : RiseFrom 0 (take held.count held.places)
  pub short : held.count ≤ 6
