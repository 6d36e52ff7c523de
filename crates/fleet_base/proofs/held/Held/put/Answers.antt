use Rattle.std.proofs.Common.{◌≡◌, ◌<◌, sym, ap, subst, ◌∙◌, length, take, arith}
use Rattle.std.specs.List.{insert}
use Rattle.std.proofs.lemmas.List.{length-take-le}
use Rattle.fleet_base.specs.Lists.{placed, RiseFrom}
use Rattle.fleet_base.proofs.ClaimLemmas.{insert-count_below, RiseFrom-placed, take-rotated}
use Rattle.fleet_base.proofs.held.Held.put.Goals as goal

pub returns : goal.returns
returns c =
    let used : length (take c.self.inside.count c.self.inside.places) ≡ c.self.inside.count = length-take-le c.self.inside.count c.self.inside.places (omega arith) in
    let room : length (take c.self.inside.count c.self.inside.places) < 6 = subst (λ l. length l < 6) (sym c.self.view_is) c.requires.room in
    take-rotated c.self.inside.places c.rotate_right.new.self c.self.inside.count c.place_among-place.result c.args.claim (omega arith) (omega arith) c.rotate_right.ensures.after
    ∙ ap (λ i. insert (take c.self.inside.count c.self.inside.places) i c.args.claim) c.place_among-place.ensures.counted
    ∙ insert-count_below (take c.self.inside.count c.self.inside.places) c.args.claim
    ∙ ap (λ l. placed l c.args.claim) c.self.view_is

pub invariant_of-self : goal.invariant_of-self
invariant_of-self c =
    let used : length (take c.self.inside.count c.self.inside.places) ≡ c.self.inside.count = length-take-le c.self.inside.count c.self.inside.places (omega arith) in
    let room : length (take c.self.inside.count c.self.inside.places) < 6 = subst (λ l. length l < 6) (sym c.self.view_is) c.requires.room in
    record {
      ascending = subst (RiseFrom 0) (sym (returns c)) (RiseFrom-placed 0 c.args.self.now c.args.claim (subst (RiseFrom 0) c.self.view_is c.self.invariant.ascending) (omega arith) c.requires.missing);
      short = omega arith;
    }
