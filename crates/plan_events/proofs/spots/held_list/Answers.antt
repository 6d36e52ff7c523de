use Rattle.std.proofs.Common.{◌≡◌, ℕ, true, false, cond, sym, ap, ◌∙◌, [], ◌∷◌, ◌++◌, append-nil, map, arith}
use Rattle.std.proofs.lemmas.List.FromFn.{filter_of_map_range_with_len_more}
use Rattle.std.specs.List.{filter}
use Rattle.fleet_base.specs.declared.numbers.ClaimNo.{ClaimNo}
use Rattle.fleet_model.specs.Lists.{numbers_below}
use Rattle.plan_events.specs.Spots.{shown}
use Rattle.plan_events.proofs.spots.held_list.Goals as goal
use Rattle.plan_events.proofs.spots.held_list.Goals.{then-contains+in_ok-push, else-contains}

pub loop-number-preserved : goal.loop-number-preserved
loop-number-preserved c =
    let number = c.loop-number.number in
    let claim : ℕ → ClaimNo = λ n. record { 0 = n } in
    let holds = (shown c.args.spot.now).holds in
    let so_far = filter holds (map claim (numbers_below number)) in
    let more = filter_of_map_range_with_len_more holds claim 0 number number (omega arith) in
    elim c.if-contains.branch [
      | then-contains+in_ok-push w ↦
          let there : holds (claim number) ≡ true = sym c.contains.ensures.found ∙ w.if-contains.true in
          let pushed : c.if-contains.claims.items ≡ c.loop-number.claims.items ++ claim number ∷ [] = ap (λ v. v.items) w.claims-is ∙ w.in_ok-push.ensures.items in
          pushed ∙ (ap (λ cs. cs ++ claim number ∷ []) c.loop-number.invariant ∙ (ap (λ b. so_far ++ cond b (claim number ∷ []) []) (sym there) ∙ sym more))
      | else-contains w ↦
          let free : holds (claim number) ≡ false = sym c.contains.ensures.found ∙ w.if-contains.false in
          ap (λ v. v.items) w.claims-is ∙ (c.loop-number.invariant ∙ (sym (append-nil so_far) ∙ (ap (λ b. so_far ++ cond b (claim number ∷ []) []) (sym free) ∙ sym more)))
    ]
