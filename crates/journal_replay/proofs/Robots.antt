-- Lists that have the same at each place are the same.
use Rattle.std.proofs.Common.{◌≡◌, ℕ, ◌<◌, List, length, sym, ap, ◌∙◌}
use Rattle.std.specs.Prelude.{slice_get}
use Rattle.std.specs.Option.{unwrap_or}
use Rattle.std.proofs.lemmas.List.{same_lists}
use Rattle.std.proofs.lemmas.Option.{unwrap_or-slice_get}

pub same_by_places : {X : Type 0} (xs ys : List X) → length xs ≡ length ys → ((k : ℕ) → k < length xs → slice_get xs k ≡ slice_get ys k) → xs ≡ ys
same_by_places xs ys len each = same_lists xs ys len (λ k d within. sym (unwrap_or-slice_get xs k d) ∙ ap (λ o. unwrap_or o d) (each k within) ∙ unwrap_or-slice_get ys k d)
