use Rattle.std.proofs.Common.{rules, subst, sym, ◌≡◌, ◌∷◌, [], Some, length}
use Rattle.atomic_table.specs.Table.{opening}
use Rattle.turn_lock.specs.Turns.{Turns, opened}
use Rattle.turn_lock.proofs.Keeps.{starts}
use Rattle.turn_lock.proofs.lock.TurnLock.set_up.Goals as goal

pub new-requires : goal.new-requires
new-requires g c =
    let h = g.T.Counted.history in let kv = c.of-key.result.value in let n = c.count-count.result in
    let items : c.push.new.self.items ≡ Some kv ∷ [] = search rules in
    let long : n ≡ length (h kv) = search rules in
    subst (λ z. Turns h g.T.Counted.maker g.T.Counted.fixed kv (opening (0 ∷ 0 ∷ n ∷ []) z (opened kv (h kv)))) (sym items) (starts h g.T.Counted.maker g.T.Counted.fixed kv n long)
