-- The gathered bytes of a block.
use Rattle.std.proofs.Common.{◌≡◌, ℕ, ◌<◌, List, length, get_or, arith}
use Rattle.std.proofs.lemmas.List.FromFn.{fill_by_all, get_or-map-range_with_len, length-map-range_with_len}
use Rattle.layout.specs.Places.{stream_place}
use Rattle.receiver.specs.Memory.{gathered}

pub gathered_length : (m : List ℕ) (p c : ℕ) → length (gathered m p c) ≡ 224
unfolding gathered
gathered_length m p c = length-map-range_with_len (λ j. get_or m (stream_place p c j) 0) 0 224

pub gathered_byte : (m : List ℕ) (p c j : ℕ) → j < 224 → get_or (gathered m p c) j 0 ≡ get_or m (stream_place p c j) 0
unfolding gathered
gathered_byte m p c j h = get_or-map-range_with_len (λ i. get_or m (stream_place p c i) 0) 0 224 j j 0 h (omega arith)

pub gathered_all : (m : List ℕ) (p c : ℕ) (b : List ℕ) → length b ≡ 224 → ((k : ℕ) → k < 224 → get_or b k 0 ≡ get_or m (stream_place p c k) 0) →
    b ≡ gathered m p c
unfolding gathered
gathered_all m p c b size h = fill_by_all (λ k. get_or m (stream_place p c k) 0) b 224 0 size h
