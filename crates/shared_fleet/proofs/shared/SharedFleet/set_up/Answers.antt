use Rattle.std.proofs.Common.{rules, ◌≡◌, length, map, ap, sym, subst, ◌∙◌}
use Rattle.std.specs.Prelude.{List}
use Rattle.std.specs.List.{range_with_len}
use Rattle.shared_fleet.specs.Tokens.{ArePasses, Token, fresh_pass}
use Rattle.shared_fleet.specs.Resting.{shared_of}
use Rattle.shared_fleet.proofs.Lists.{fresh_are}
use Rattle.shared_fleet.proofs.shared.SharedFleet.set_up.Goals as goal

pub returns-in-Ok-set_up-clause-passes : goal.returns-in-Ok-set_up-clause-passes
returns-in-Ok-set_up-clause-passes c =
    let lock = c.in-Ok-set_up.lock in
    let many : c.robots-robots.result ≡ length lock.opening.fleet.starts = search rules in
    c.hand_out-passes.ensures ∙ ap (λ n. map (fresh_pass (shared_of lock 0)) (range_with_len 0 n)) many

pub returns-in-Ok-set_up-clause-all : goal.returns-in-Ok-set_up-clause-all
returns-in-Ok-set_up-clause-all c =
    let lock = c.in-Ok-set_up.lock in
    let fleet = shared_of lock c.book.inside.opened in
    let many : c.robots-robots.result ≡ length lock.opening.fleet.starts = search rules in
    subst (λ (w : List Token). ArePasses fleet w) (sym (c.hand_out-passes.ensures ∙ ap (λ n. map (fresh_pass (shared_of lock 0)) (range_with_len 0 n)) many)) (fresh_are fleet)
