use Rattle.std.proofs.Common.{◌<◌, sym, ap, subst, ◌∙◌, length, arith}
use Rattle.std.specs.List.{insert, Contains}
use Rattle.fleet_base.specs.Lists.{count_below, placed}
use Rattle.fleet_base.proofs.ClaimLemmas.{insert-count_below, AreKept-placed, on_ok}
use Rattle.fleet_base.proofs.claims.Claims.put.Goals as goal

pub returns : goal.returns
returns c =
    let room : length c.self.inside.claims.items < 3 = subst (λ l. length l < 3) (sym c.self.view_is) c.requires.room in
    on_ok c.insert-there_is_room.result _ (c.insert-there_is_room.ensures.succeeds (omega (arith, c.self.invariant.inline))) c.insert-there_is_room.ensures.ok
    ∙ ap (λ i. insert c.self.inside.claims.items i c.args.claim) (c.place_among-place.ensures.counted ∙ ap (λ l. count_below l c.args.claim) c.as_slice.ensures)
    ∙ insert-count_below c.self.inside.claims.items c.args.claim
    ∙ ap (λ l. placed l c.args.claim) c.self.view_is

pub invariant_of-self : goal.invariant_of-self
invariant_of-self c =
    let room : length c.self.inside.claims.items < 3 = subst (λ l. length l < 3) (sym c.self.view_is) c.requires.room in
    AreKept-placed c.self.inside.claims c.insert-there_is_room.new.self c.args.claim c.self.invariant
    (λ h. c.requires.missing (subst (λ l. Contains l c.args.claim) c.self.view_is h)) room
    (returns c ∙ ap (λ l. placed l c.args.claim) (sym c.self.view_is)) (c.insert-there_is_room.ensures.had_room (omega (arith, c.self.invariant.inline)))
