-- The blocks of a sender's memory, and their coded blocks.
use Rattle.std.proofs.Common.{◌≡◌, ℕ, ◌+◌, ◌*◌, ◌<◌, ◌≤◌, true, false, ◌⊎◌, List, [], length, get_or, drop, sym, ◌∙◌, subst, inl, inr, arith, length-drop, length-take, get_or-drop, get_or-take}
use Rattle.std.proofs.lemmas.Bool.{cases_Bool}
use Rattle.std.proofs.lemmas.Bool.Decides.{nat_tests}
use Rattle.codewords.proofs.Coding.{one_block}
use Rattle.codewords.specs.Blocks.{BlockOf}
use Rattle.layout.specs.Places.{is_block}
use Rattle.sender.specs.Memory.{block_at, index_of}

pub block_length : (m : List ℕ) (p c : ℕ) → length m ≡ 298320 → p ≤ 677 → c ≤ 1 → length (block_at m p c) ≡ 219
block_length m p c size hp hc = simp (length-take, length-drop) (omega arith)

block_byte : (m : List ℕ) (p c i : ℕ) → ((k : ℕ) → get_or m k 0 < 256) → i < 219 → get_or (block_at m p c) i 0 < 256
block_byte m p c i bytes h =
    let at = 219 * index_of p c in
    subst (λ b. b < 256) (sym (get_or-take 219 (drop at m) i 0 h ∙ get_or-drop at m i 0)) (bytes (at + i))

-- Each has one.
pub coded_block : (m : List ℕ) → length m ≡ 298320 → ((k : ℕ) → get_or m k 0 < 256) → (p c : ℕ) →
    (v : List ℕ) × (p ≤ 677 → c ≤ 1 → BlockOf (block_at m p c) v)
coded_block m size bytes p c = go (cases_Bool (is_block p c))
  where
    go : (is_block p c ≡ true) ⊎ (is_block p c ≡ false) → (v : List ℕ) × (p ≤ 677 → c ≤ 1 → BlockOf (block_at m p c) v)
    go (inl e) =
        let one = one_block (block_at m p c) (block_length m p c size (grind (arith, nat_tests)) (grind (arith, nat_tests))) (λ i h. block_byte m p c i bytes h) in
        (one.0, λ _ _. one.1)
    go (inr e) = ([], λ hp hc. let z : ◌≡◌ {A = ℕ} 0 1 = grind (arith, nat_tests) in absurd (omega arith))
