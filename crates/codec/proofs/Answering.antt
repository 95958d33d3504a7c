-- From what one attempt did to what mending means: only one coded word is within two, and only one record names its places.
use Rattle.std.proofs.Common.{◌≡◌, ℕ, zero, suc, ◌<◌, ◌≤◌, List, [], ◌∷◌, length, take, Some, None, Option, sym, refl, ap, ◌∙◌, arith}
use mathlib.Core.HLevel.{is_prop→PathP}
use denote.Struct.Props.{props}
use Rattle.galois.specs.Field.{Arithmetic, Laws}
use Rattle.reed_solomon.specs.Code.{differing}
use Rattle.reed_solomon.proofs.Distance.{one_within_two}
use Rattle.codec.specs.declared.record.MendRecord.{MendRecord, agree-type}
use Rattle.codec.specs.Mend.{places, WithinTwo, Mended, MendedOneWay}
use Rattle.codec.specs.Steps.{Attempt}

no_record : (r : Option MendRecord) (m : MendRecord) → r ≡ None → r ≡ Some m → ⊥
no_record r m p q = let z : ◌≡◌ {A = ℕ} 0 1 = cc in omega arith

pub mended : {F : Type 0} (K : Arithmetic F) → Laws K → (w w' : List F) (r : Option MendRecord) → Attempt K w w' r → Mended K w w' r
mended K laws w w' None o = record {
  mends = λ v near. absurd (o.1 v near);
  sound = λ m e. absurd (no_record None m refl e);
  refuses = λ none. (refl, o.0);
}
mended K laws w w' (Some m) o = record {
  mends = λ v near.
      let only : w' ≡ v = one_within_two K laws (length w) near.long near.short w' v w o.0.coded near.coded refl o.0.close near.close in
      (only, (m, refl, o.1 ∙ ap (λ u. differing K.number u w) only));
  sound = λ _ _. o.0;
  refuses = λ none. absurd (none w' o.0);
}

-- records with the same numbers are the same
same_record : (m n : MendRecord) → m.count ≡ n.count → m.first ≡ n.first → m.second ≡ n.second → m ≡ n
same_record m n c f s =
    λ i. record { count = c i; first = f i; second = s i; agree = is_prop→PathP (λ i. agree-type (c i) (f i) (s i)) (λ i. hlevel props) m.agree n.agree i }

-- the places that a count takes of two
two_places : (c d a b x y : ℕ) → c ≤ 2 → d ≤ 2 → (c ≡ 0 → a ≡ 255) → (c < 2 → b ≡ 255) → (d ≡ 0 → x ≡ 255) → (d < 2 → y ≡ 255) →
    take c (a ∷ b ∷ []) ≡ take d (x ∷ y ∷ []) → (c ≡ d) × (a ≡ x) × (b ≡ y)
two_places zero zero a b x y hc hd ca cb dx dy e = (refl, ca refl ∙ sym (dx refl), cb (omega arith) ∙ sym (dy (omega arith)))
two_places zero (suc zero) a b x y hc hd ca cb dx dy e = absurd (omega (arith, ap length e))
two_places zero (suc (suc zero)) a b x y hc hd ca cb dx dy e = absurd (omega (arith, ap length e))
two_places zero (suc (suc (suc d))) a b x y hc hd ca cb dx dy e = absurd (omega arith)
two_places (suc zero) zero a b x y hc hd ca cb dx dy e = absurd (omega (arith, ap length e))
two_places (suc zero) (suc zero) a b x y hc hd ca cb dx dy e = (refl, cc, cb (omega arith) ∙ sym (dy (omega arith)))
two_places (suc zero) (suc (suc zero)) a b x y hc hd ca cb dx dy e = absurd (omega (arith, ap length e))
two_places (suc zero) (suc (suc (suc d))) a b x y hc hd ca cb dx dy e = absurd (omega arith)
two_places (suc (suc zero)) zero a b x y hc hd ca cb dx dy e = absurd (omega (arith, ap length e))
two_places (suc (suc zero)) (suc zero) a b x y hc hd ca cb dx dy e = absurd (omega (arith, ap length e))
two_places (suc (suc zero)) (suc (suc zero)) a b x y hc hd ca cb dx dy e = (refl, cc, cc)
two_places (suc (suc zero)) (suc (suc (suc d))) a b x y hc hd ca cb dx dy e = absurd (omega arith)
two_places (suc (suc (suc c))) d a b x y hc hd ca cb dx dy e = absurd (omega arith)

pub same_places : (m n : MendRecord) → places m ≡ places n → m ≡ n
same_places m n e =
    let t = two_places m.count n.count m.first m.second n.first n.second m.agree.0 n.agree.0
    m.agree.1 m.agree.2 n.agree.1 n.agree.2 e in
    same_record m n t.0 t.1 t.2

pub mended_one_way : {F : Type 0} → MendedOneWay F
mended_one_way K w u v None s a b =
    let none : (x : List _) → WithinTwo K w x → ⊥ = λ x near. let o = (a.mends x near).1 in no_record None o.0 refl o.1 in
    ((a.refuses none).1 ∙ sym (b.refuses none).1, sym (b.refuses none).0)
mended_one_way K w u v (Some m) s a b =
    let near = a.sound m refl in
    let o = (a.mends u near).1 in
    let p = b.mends u near in
    (sym p.0, o.1 ∙ ap Some (same_places o.0 p.1.0 (o.2 ∙ sym p.1.2)) ∙ sym p.1.1)
