-- Words by their bits, and the pair of bytes in which a word stands.
use Rattle.std.proofs.Common.{◌≡◌, ℕ, zero, suc, ◌+◌, ◌-◌, ◌*◌, ◌/◌, ◌%◌, ◌^◌, ◌<◌, ◌≤◌, ◌≢◌, ◌⊎◌, min, max, List, get_or, sym, ap, ◌∙◌, inl, inr, ⊎_elim, pow-suc, arith}
use Rattle.std.proofs.lemmas.Nat.{and_le_r, pow_pos, shl_whole, shr-shr}
use Rattle.std.proofs.lemmas.Nat.Bits.{bit_at-suc, bit_at-zero, bit_at_above, bit_at_and, bit_at_cat_high, bit_at_cat_low, bit_at_not, bit_at_ones, bit_at_or, same_from_bits_below}
use Rattle.std.proofs.lemmas.Bool.{cases_lt}
use Rattle.std.specs.Int.{bit_at, bit_not, w16}
use Rattle.std.specs.Int.RustNames.{bit_and, bit_or}
use Rattle.strip.specs.Packed.{bit, number, word_at}

pub number_below : (n : ℕ) (xs : List ℕ) (k : ℕ) → number xs k n < 2 ^ n
unfolding number bit
number_below zero xs k = omega arith
number_below (suc n) xs k = omega (arith, pow-suc 2 n, number_below n xs (k + 1))

pub number_bit : (n : ℕ) (xs : List ℕ) (k i : ℕ) → i < n → bit_at (number xs k n) i ≡ bit xs (k + i)
unfolding number bit
number_bit zero xs k i h = absurd (omega arith)
number_bit (suc n) xs k zero h = let z : k ≡ k + 0 = omega arith in omega (arith, ap (bit xs) z)
number_bit (suc n) xs k (suc i) h =
    let m : k + 1 + i ≡ k + suc i = omega arith in
    let half : (bit xs k + 2 * number xs (k + 1) n) / 2 ≡ number xs (k + 1) n = omega arith in
    bit_at-suc (bit xs k + 2 * number xs (k + 1) n) i ∙ ap (λ x. bit_at x i) half ∙ number_bit n xs (k + 1) i (omega arith) ∙ ap (bit xs) m

-- A number is told by its bits.
number_is : (n : ℕ) (xs : List ℕ) (k v : ℕ) → v < 2 ^ n → ((i : ℕ) → i < n → bit xs (k + i) ≡ bit_at v i) → number xs k n ≡ v
number_is n xs k v h b =
    same_from_bits_below n (number xs k n) v (number_below n xs k) h (λ i l. number_bit n xs k i l ∙ b i l)

-- The sixteen bits of two bytes that stand together are those of one number.
pair_bit : (xs : List ℕ) (q pair : ℕ) → pair % 256 ≡ get_or xs q 0 → pair / 256 ≡ get_or xs (q + 1) 0 → (r : ℕ) → r < 16 →
    bit xs (8 * q + r) ≡ bit_at pair r
unfolding bit
pair_bit xs q pair first second r h = go (cases_lt r 8)
  where
    split : pair ≡ pair / 256 * 2 ^ 8 + pair % 256
    split = omega arith

    go : (r < 8) ⊎ (8 ≤ r) → bit xs (8 * q + r) ≡ bit_at pair r
    go (inl c) =
        let e : (8 * q + r) / 8 ≡ q = omega arith in
        let f : (8 * q + r) % 8 ≡ r = omega arith in
        rw (e, f) (ap (λ x. bit_at x r) (sym first) ∙ sym (ap (λ x. bit_at x r) split ∙ bit_at_cat_low (pair / 256) 8 (pair % 256) r c))
    go (inr c) =
        let e : (8 * q + r) / 8 ≡ q + 1 = omega arith in
        let f : (8 * q + r) % 8 ≡ r - 8 = omega arith in
        rw (e, f) (ap (λ x. bit_at x (r - 8)) (sym second) ∙ sym (ap (λ x. bit_at x r) split ∙ bit_at_cat_high (pair / 256) 8 (pair % 256) r (omega arith) c))

-- Word p begins at bit 10 p, which is bit shift_of p of byte byte_of p.
abbrev byte_of : ℕ → ℕ
byte_of p = p + p / 4

abbrev shift_of : ℕ → ℕ
shift_of p = p % 4 * 2

-- A word is told by its bits in the pair.
pub word_is : (xs : List ℕ) (p pair v : ℕ) → pair % 256 ≡ get_or xs (byte_of p) 0 → pair / 256 ≡ get_or xs (byte_of p + 1) 0 → v < 1024 →
    ((i : ℕ) → i < 10 → bit_at pair (shift_of p + i) ≡ bit_at v i) → word_at xs p ≡ v
word_is xs p pair v first second narrow word = number_is 10 xs (10 * p) v narrow each
  where
    each : (i : ℕ) → i < 10 → bit xs (10 * p + i) ≡ bit_at v i
    each i h =
        let e : 10 * p + i ≡ 8 * byte_of p + (shift_of p + i) = omega arith in
        ap (bit xs) e ∙ pair_bit xs (byte_of p) pair first second (shift_of p + i) (omega arith) ∙ word i h

pub word_in_pair : (xs : List ℕ) (p pair : ℕ) → pair % 256 ≡ get_or xs (byte_of p) 0 → pair / 256 ≡ get_or xs (byte_of p + 1) 0 →
    word_at xs p ≡ bit_and (pair / 2 ^ shift_of p) 1023
word_in_pair xs p pair first second =
    word_is xs p pair (bit_and (pair / 2 ^ shift_of p) 1023) first second (omega (arith, and_le_r (pair / 2 ^ shift_of p) 1023))
    (λ i h. omega (arith, bit_at_and (pair / 2 ^ shift_of p) 1023 i, bit_at_ones 10 i h, ap (λ x. x % 2) (shr-shr pair (shift_of p) i)))

-- A pair with v in the ten bits from s on.
module _ (pair s v : ℕ) (inside : s ≤ 6) (narrow : v < 1024) where
  abbrev joined : ℕ
  joined = bit_or (bit_and pair (bit_not w16 (1023 * 2 ^ s % 65536))) (v * 2 ^ s % 65536)

  whole : (n : ℕ) → n < 1024 → n * 2 ^ s % 65536 ≡ n * 2 ^ s + 0
  whole n h = omega (arith, shl_whole n 10 s 16 h (omega arith))

  shifted_low : (n i : ℕ) → n < 1024 → i < s → bit_at (n * 2 ^ s % 65536) i ≡ 0
  shifted_low n i h l = ap (λ x. bit_at x i) (whole n h) ∙ bit_at_cat_low n s 0 i l ∙ bit_at-zero i

  shifted_high : (n i : ℕ) → n < 1024 → s ≤ i → bit_at (n * 2 ^ s % 65536) i ≡ bit_at n (i - s)
  shifted_high n i h l = ap (λ x. bit_at x i) (whole n h) ∙ bit_at_cat_high n s 0 i (pow_pos s) l

  joined_bit : (i : ℕ) → i < 16 → bit_at joined i ≡ max (min (bit_at pair i) (1 - bit_at (1023 * 2 ^ s % 65536) i)) (bit_at (v * 2 ^ s % 65536) i)
  joined_bit i h =
      let mask = 1023 * 2 ^ s % 65536 in
      omega (arith, bit_at_or (bit_and pair (bit_not w16 mask)) (v * 2 ^ s % 65536) i, bit_at_and pair (bit_not w16 mask) i, bit_at_not w16 mask i (omega arith) h)

  pub joined_below : (i : ℕ) → i < s → bit_at joined i ≡ bit_at pair i
  joined_below i h = omega (arith, joined_bit i (omega arith), shifted_low 1023 i (omega arith) h, shifted_low v i narrow h)

  pub joined_word : (i : ℕ) → i < 10 → bit_at joined (s + i) ≡ bit_at v i
  joined_word i h =
      let e : s + i - s ≡ i = omega arith in
      omega (arith, joined_bit (s + i) (omega arith), shifted_high 1023 (s + i) (omega arith) (omega arith), shifted_high v (s + i) narrow (omega arith), ap (bit_at 1023) e, ap (bit_at v) e, bit_at_ones 10 i h)

  pub joined_above : (i : ℕ) → s + 10 ≤ i → i < 16 → bit_at joined i ≡ bit_at pair i
  joined_above i a h =
      let l : 10 ≤ i - s = omega arith in
      omega (arith, joined_bit i h, shifted_high 1023 i (omega arith) (omega arith), shifted_high v i narrow (omega arith), bit_at_above 1023 10 (i - s) (omega arith) l, bit_at_above v 10 (i - s) narrow l)

-- The two bytes of word p are set, and the number that they make differs at most in the word.
module _ (xs ys : List ℕ) (p old new : ℕ)
    (old_first : old % 256 ≡ get_or xs (byte_of p) 0) (old_second : old / 256 ≡ get_or xs (byte_of p + 1) 0)
    (new_first : new % 256 ≡ get_or ys (byte_of p) 0) (new_second : new / 256 ≡ get_or ys (byte_of p + 1) 0)
    (rest : (k : ℕ) → k ≢ byte_of p → k ≢ byte_of p + 1 → get_or ys k 0 ≡ get_or xs k 0)
    (below : (i : ℕ) → i < shift_of p → bit_at new i ≡ bit_at old i) (above : (i : ℕ) → shift_of p + 10 ≤ i → i < 16 → bit_at new i ≡ bit_at old i) where
  elsewhere : (k : ℕ) → k / 8 ≢ byte_of p → k / 8 ≢ byte_of p + 1 → bit ys k ≡ bit xs k
  unfolding bit
  elsewhere k a b = rw (rest (k / 8) a b)

  beside : (r : ℕ) → r < 16 → bit_at new r ≡ bit_at old r → bit ys (8 * byte_of p + r) ≡ bit xs (8 * byte_of p + r)
  beside r h e = pair_bit ys (byte_of p) new new_first new_second r h ∙ e ∙ sym (pair_bit xs (byte_of p) old old_first old_second r h)

  put_bit : (k : ℕ) → (k < 10 * p) ⊎ (10 * p + 10 ≤ k) → bit ys k ≡ bit xs k
  put_bit k out = go (cases_lt (k / 8) (byte_of p)) (cases_lt (byte_of p + 1) (k / 8))
    where
      go : (k / 8 < byte_of p) ⊎ (byte_of p ≤ k / 8) → (byte_of p + 1 < k / 8) ⊎ (k / 8 ≤ byte_of p + 1) → bit ys k ≡ bit xs k
      go (inl a) b = elsewhere k (omega arith) (omega arith)
      go (inr a) (inl b) = elsewhere k (omega arith) (omega arith)
      go (inr a) (inr b) =
          let r = k - 8 * byte_of p in
          let e : 8 * byte_of p + r ≡ k = omega arith in
          let same : bit_at new r ≡ bit_at old r = ⊎_elim (λ h. below r (omega arith)) (λ h. above r (omega arith) (omega arith)) out in
          sym (ap (bit ys) e) ∙ beside r (omega arith) same ∙ ap (bit xs) e

  pub put_others : (k : ℕ) → k ≢ p → word_at ys k ≡ word_at xs k
  put_others k other = number_is 10 ys (10 * k) (word_at xs k) (number_below 10 xs (10 * k)) each
    where
      each : (i : ℕ) → i < 10 → bit ys (10 * k + i) ≡ bit_at (word_at xs k) i
      each i h =
          let aside : (10 * k + i < 10 * p) ⊎ (10 * p + 10 ≤ 10 * k + i) = ⊎_elim (λ a. inl (omega arith)) (λ a. inr (omega arith)) (cases_lt k p) in
          put_bit (10 * k + i) aside ∙ sym (number_bit 10 xs (10 * k) i h)
