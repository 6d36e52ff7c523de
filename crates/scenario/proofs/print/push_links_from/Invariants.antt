use Rattle.std.proofs.Common.{◌≡◌, ◌++◌, drop}
use Rattle.std.specs.Prelude.{flat_map}
use Rattle.scenario.specs.Canonical.{link_text, links_text}
use Rattle.scenario.proofs.print.push_links_from.Given as goal

abbrev pub invariant-loop-link : goal.invariant-loop-link
invariant-loop-link l = l.text.items ++ flat_map (link_text l.names l.from.0) (drop l.link-index l.link-items) ≡ l.initial.text.items ++ links_text l.names l.site l.from.0
