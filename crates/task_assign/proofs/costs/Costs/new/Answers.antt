use Rattle.std.proofs.Common.{◌≡◌, ◌+◌, ◌*◌, ℕ, List, get_or, length, replicate, ap, ◌∙◌}
use Rattle.std.proofs.lemmas.List.{length-replicate}
use Rattle.task_assign.proofs.Zeros.{zero_at, zeros_square}
use Rattle.task_assign.proofs.costs.Costs.new.Goals as goal

pub invariant_of-result : goal.invariant_of-result
invariant_of-result c =
    let zeros : c.in_ok-vec.field-0.items ≡ replicate 4096 0 = c.in_ok-vec.ensures.items_if_clones_equal (λ y h. h) in
    let long : length c.in_ok-vec.field-0.items ≡ 4096 = ap length zeros ∙ length-replicate {A = ℕ} 4096 0 in
    zeros_square c.args.size c.in_ok-vec.field-0.items c.requires.some c.requires.few long (λ i. ap (λ (xs : List ℕ). get_or xs i 0) zeros ∙ zero_at 4096 i)

pub returns-clause-zero : goal.returns-clause-zero
returns-clause-zero c =
    let zeros : c.in_ok-vec.field-0.items ≡ replicate 4096 0 = c.in_ok-vec.ensures.items_if_clones_equal (λ y h. h) in
    λ i j. ap (λ (xs : List ℕ). get_or xs (64 * i + j) 0) zeros ∙ zero_at 4096 (64 * i + j)
