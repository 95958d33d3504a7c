-- Identities over a field of characteristic 2.
use mathlib.Core.Path.{◌≡◌, sym, ◌∙◌, ap}
use native.Mathlib.Decide.{ℕ_discrete}
use Rattle.galois.specs.Field.{Arithmetic, Laws}

module _ {F : Type 0} (K : Arithmetic F) (laws : Laws K) where
  open K use {zero as 𝟘, one as 𝟙, plus as ◌+◌, times as ◌*◌}

  infixl 60 ◌+◌
  infixl 70 ◌*◌
  -- the field's own laws, as lemmas that a ruleset can list
  pub plus_comm : (a b : F) → a + b ≡ b + a
  plus_comm = laws.plus_comm

  pub plus_assoc : (a b c : F) → a + b + c ≡ a + (b + c)
  plus_assoc = laws.plus_assoc

  pub plus_zero : (a : F) → a + 𝟘 ≡ a
  plus_zero a = laws.plus_comm a 𝟘 ∙ laws.zero_plus a

  pub plus_self : (a : F) → a + a ≡ 𝟘
  plus_self = laws.plus_self

  pub times_comm : (a b : F) → a * b ≡ b * a
  times_comm = laws.times_comm

  pub times_assoc : (a b c : F) → a * b * c ≡ a * (b * c)
  times_assoc = laws.times_assoc

  pub times_one : (a : F) → a * 𝟙 ≡ a
  times_one a = laws.times_comm a 𝟙 ∙ laws.one_times a

  pub times_plus : (a b c : F) → a * (b + c) ≡ a * b + a * c
  times_plus = laws.times_plus

  -- what follows from them
  pub zero_plus : (a : F) → 𝟘 + a ≡ a
  zero_plus a = plus_comm 𝟘 a ∙ plus_zero a

  pub plus_left_comm : (a b c : F) → a + (b + c) ≡ b + (a + c)
  plus_left_comm a b c = sym (plus_assoc a b c) ∙ ap (λ x. x + c) (plus_comm a b) ∙ plus_assoc b a c

  pub plus_self_left : (a b : F) → a + (a + b) ≡ b
  plus_self_left a b = sym (plus_assoc a a b) ∙ ap (λ x. x + b) (plus_self a) ∙ zero_plus b

  pub times_left_comm : (a b c : F) → a * (b * c) ≡ b * (a * c)
  times_left_comm a b c = sym (times_assoc a b c) ∙ ap (λ x. x * c) (times_comm a b) ∙ times_assoc b a c

  pub one_times : (a : F) → 𝟙 * a ≡ a
  one_times a = times_comm 𝟙 a ∙ times_one a

  pub plus_times : (a b c : F) → (a + b) * c ≡ a * c + b * c
  plus_times a b c = cc (times_comm (a + b) c, times_plus c a b, times_comm c a, times_comm c b)

  pub times_zero : (a : F) → a * 𝟘 ≡ 𝟘
  times_zero a = ap (λ x. a * x) (sym (plus_self 𝟘)) ∙ times_plus a 𝟘 𝟘 ∙ plus_self (a * 𝟘)

  pub zero_times : (a : F) → 𝟘 * a ≡ 𝟘
  zero_times a = times_comm 𝟘 a ∙ times_zero a

  pub ruleset ring = (zero_plus, plus_zero, plus_self, plus_self_left, plus_comm, plus_assoc, plus_left_comm, times_zero, zero_times, times_one, one_times, times_plus, plus_times, times_comm, times_assoc, times_left_comm)

  -- elements can be compared, by their numbers
  pub same : (a b : F) → Dec (a ≡ b)
  same a b = elim (ℕ_discrete (K.number a) (K.number b)) [ yes e ↦ yes (laws.same_number a b e) | no ne ↦ no (λ e. ne (ap K.number e)) ]

  -- what can be cancelled
  pub plus_cancel : (a b : F) → a + b ≡ 𝟘 → a ≡ b
  plus_cancel a b e = simp ring at (ap (λ x. x + b) e)

  pub plus_both : (a b c : F) → a + c ≡ b + c → a ≡ b
  plus_both a b c e = simp ring at (ap (λ x. x + c) e)

  pub plus_left : (a b c : F) → c + a ≡ c + b → a ≡ b
  plus_left a b c e = simp ring at (ap (λ x. c + x) e)

  pub times_both : (a b c : F) → ¬ (c ≡ 𝟘) → a * c ≡ b * c → a ≡ b
  times_both a b c nz e = let i = laws.invertible c nz in simp (times_assoc, i.1, ring) at (ap (λ x. x * i.0) e)

  pub times_nonzero : (a b : F) → ¬ (a ≡ 𝟘) → ¬ (b ≡ 𝟘) → ¬ (a * b ≡ 𝟘)
  times_nonzero a b na nb e = na (times_both a 𝟘 b nb (e ∙ sym (zero_times b)))
