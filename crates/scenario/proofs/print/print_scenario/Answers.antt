use Rattle.scenario.proofs.Wholes.{whole_text}
use Rattle.scenario.proofs.print.print_scenario.Goals as goal

pub returns : goal.returns
returns c =
    whole_text c.args.scenario.now c.names-names.result.now c.site-site.result.now c.starts.result.now c.missions.result.now
    c.new-text.result.items c.push_header.new.text.items c.push_cells.new.text.items c.push_crossings.new.text.items c.push_areas.new.text.items c.push_links.new.text.items c.push_robots.new.text.items c.push_missions.new.text.items c.push_bare.new.text.items
    c.names-names.ensures.is c.site-site.ensures c.starts.ensures.is c.missions.ensures.is
    c.new-text.ensures.items c.in_ok-push_header.ensures c.in_ok-push_cells.ensures c.in_ok-push_crossings.ensures c.in_ok-push_areas.ensures c.in_ok-push_links.ensures c.in_ok-push_robots.ensures c.in_ok-push_missions.ensures c.in_ok-push_bare.ensures
