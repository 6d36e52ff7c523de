-- How a backlog is kept.
use Rattle.std.specs.Prelude.{◌≡◌, ℕ, ◌<◌, ◌≤◌, length}
use Rattle.claim_reach.specs.Reaches.{AreReaches}
use Rattle.deferral.specs.declared.deferrals.Deferrals.TheInside.{Inside}
use Rattle.deferral.specs.Backlogs.{Backlog, pending_of, end_claims, is_needed, is_kept}
use Rattle.deferral.specs.Tallies.{is_marked}

-- the backlog that is kept
abbrev pub shown : Inside → Backlog
shown d = record { groups = d.groups.items; pending = d.pending.items; ends = d.ends.items }

-- there is an end for each robot, and all is within the limits; each claim has its reach, and the sets of the robots that need it and of those whose ends keep it
pub record IsKept (d : Inside) : Type 0 where
  pub claims : length d.groups.items ≤ 1280
  pub robots : length d.pending.items ≤ 64
  pub ends : length d.ends.items ≡ length d.pending.items
  pub reaches : AreReaches d.groups.items d.reaches.items
  pub needed_claims : length d.tally.needed ≡ length d.groups.items
  pub kept_claims : length d.tally.kept ≡ length d.groups.items
  pub needed : (c r : ℕ) → c < length d.groups.items → is_marked d.tally.needed c r ≡ is_needed (pending_of (shown d) r) c
  pub kept : (c q : ℕ) → c < length d.groups.items → is_marked d.tally.kept c q ≡ is_kept d.groups.items (end_claims (shown d) q) c
