use Rattle.std.proofs.Common.{◌≡◌, take}
use Rattle.site_map.proofs.link_list.copy_links.Given as goal

abbrev pub invariant-loop-row : goal.invariant-loop-row
invariant-loop-row l = l.copies.items ≡ take l.row-index l.rows
