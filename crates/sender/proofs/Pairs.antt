-- The bytes of two blocks, taken in pairs with their place.
use Rattle.std.proofs.Common.{◌≡◌, ℕ, ◌+◌, ◌<◌, List, length, get_or, ap, ◌∙◌, arith}
use Rattle.std.proofs.lemmas.Grind.{get_or_default_zero}
use Rattle.std.proofs.lemmas.List.FromFn.{get_or-enumerate_from, length-enumerate_from}
use Rattle.std.proofs.lemmas.Slice.Zip.{get_or-zip, length-zip}
use Rattle.std.specs.List.{enumerate_from, zip}

pub pairs_length : (xs ys : List ℕ) → length ys ≡ length xs → length (enumerate_from 0 (zip xs ys)) ≡ length xs
pairs_length xs ys same = length-enumerate_from 0 (zip xs ys) ∙ length-zip xs ys ∙ omega arith

pub pair_at : (xs ys : List ℕ) (i j x y : ℕ) → length ys ≡ length xs →
    (i < length (enumerate_from 0 (zip xs ys))) × ((j, (x, y)) ≡ get_or (enumerate_from 0 (zip xs ys)) i (j, (x, y))) →
    (i < length xs) × (j ≡ i) × (x ≡ get_or xs i 0) × (y ≡ get_or ys i 0)
pair_at xs ys i j x y same (below, is) =
    let inside : i < length xs = omega (arith, pairs_length xs ys same) in
    let zipped : i < length (zip xs ys) = omega (arith, length-enumerate_from 0 (zip xs ys)) in
    let there = is ∙ get_or-enumerate_from 0 (zip xs ys) i (j, (x, y)) zipped ∙ ap (λ (p : ℕ × ℕ). (0 + i, p)) (get_or-zip xs ys i (x, y) inside (omega arith)) in
    (inside, ap (λ (p : ℕ × (ℕ × ℕ)). p.0) there ∙ omega arith, ap (λ (p : ℕ × (ℕ × ℕ)). p.1.0) there ∙ get_or_default_zero xs i x inside, ap (λ (p : ℕ × (ℕ × ℕ)). p.1.1) there ∙ get_or_default_zero ys i y (omega arith))
