-- Lists of steps, cut in two.
use Rattle.std.proofs.Common.{◌≡◌, ◌⊎◌, List, [], ◌∷◌, ◌++◌, refl, ap, inl, inr}
use Rattle.transfer.specs.declared.steps.Step.{Step}

-- No list with an element is empty.
pub not_empty : (b a : List Step) (y : Step) → [] ≡ b ++ y ∷ a → ⊥
not_empty [] a y e = cc
not_empty (z ∷ b) a y e = cc

-- A list that ends in x, cut at y: y is the end, or stands before it.
pub cut_end : (ss b a : List Step) (x y : Step) → ss ++ x ∷ [] ≡ b ++ y ∷ a → ((b ≡ ss) × (y ≡ x)) ⊎ ((a : List Step) × (ss ≡ b ++ y ∷ a))
cut_end [] [] a x y e = inl (refl, cc)
cut_end [] (z ∷ b) a x y e = let t : [] ≡ b ++ y ∷ a = cc in absurd (not_empty b a y t)
cut_end (s ∷ ss) [] a x y e = let h : s ≡ y = cc in inr (ss, ap (λ t. t ∷ ss) h)
cut_end (s ∷ ss) (z ∷ b) a x y e =
    let h : s ≡ z = cc in
    let t : ss ++ x ∷ [] ≡ b ++ y ∷ a = cc in
    elim (cut_end ss b a x y t) [
      | inl p ↦ let i = p.0 in let q : z ∷ b ≡ s ∷ ss = cc in inl (q, p.1)
      | inr p ↦ let i = p.1 in let q : s ∷ ss ≡ z ∷ (b ++ y ∷ p.0) = cc in inr (p.0, q)
    ]

-- A list cut twice: at one place, or at one before the other.
pub cut_twice : (b b' r r' : List Step) (y y' : Step) → b ++ y ∷ r ≡ b' ++ y' ∷ r' →
    (b ≡ b') ⊎ (((a : List Step) × (b' ≡ b ++ y ∷ a)) ⊎ ((a : List Step) × (b ≡ b' ++ y' ∷ a)))
cut_twice [] [] r r' y y' e = inl refl
cut_twice [] (z ∷ b') r r' y y' e = let h : z ≡ y = cc in inr (inl (b', ap (λ t. t ∷ b') h))
cut_twice (z ∷ b) [] r r' y y' e = let h : z ≡ y' = cc in inr (inr (b, ap (λ t. t ∷ b) h))
cut_twice (z ∷ b) (z' ∷ b') r r' y y' e =
    let h : z ≡ z' = cc in
    let t : b ++ y ∷ r ≡ b' ++ y' ∷ r' = cc in
    elim (cut_twice b b' r r' y y' t) [
      | inl p ↦ let q : z ∷ b ≡ z' ∷ b' = cc in inl q
      | inr (inl p) ↦ let i = p.1 in let q : z' ∷ b' ≡ z ∷ (b ++ y ∷ p.0) = cc in inr (inl (p.0, q))
      | inr (inr p) ↦ let i = p.1 in let q : z ∷ b ≡ z' ∷ (b' ++ y' ∷ p.0) = cc in inr (inr (p.0, q))
    ]
