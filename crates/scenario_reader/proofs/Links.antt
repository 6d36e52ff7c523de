-- How many links a site has after each change.
use Rattle.std.proofs.Common.{◌≡◌, ◌≢◌, ℕ, zero, suc, ◌+◌, ◌<◌, List, [], ◌∷◌, length, get_or, set, refl, ap, arith}
use Rattle.fleet_base.specs.declared.numbers.Link.{Link}
use Rattle.site_map.specs.Built.{link_total}
use Rattle.site_map.specs.Cells.{with_one_more}
use Rattle.site_map.proofs.LinkLemmas.{length-with_one_more}

-- one more link
pub link_total-link : (rows : List (List Link)) (i : ℕ) (link : Link) → i < length rows → link_total (set rows i (with_one_more (get_or rows i []) link)) ≡ link_total rows + 1
link_total-link [] i link within = absurd (omega arith)
link_total-link (row ∷ rows) zero link within = omega (arith, length-with_one_more row link)
link_total-link (row ∷ rows) (suc i) link within = omega (arith, link_total-link rows i link (omega arith))

-- the links from another cell stay
pub other_row : (rows : List (List Link)) (i j : ℕ) (row : List Link) → i ≢ j → get_or (set rows i row) j [] ≡ get_or rows j []
other_row [] i j row differ = refl
other_row (x ∷ xs) zero zero row differ = absurd (differ refl)
other_row (x ∷ xs) zero (suc j) row differ = refl
other_row (x ∷ xs) (suc i) zero row differ = refl
other_row (x ∷ xs) (suc i) (suc j) row differ = other_row xs i j row (λ same. differ (ap suc same))
