-- A place in the stream tells its packet, channel and byte.
use Rattle.std.proofs.Common.{◌≡◌, ℕ, ◌-◌, ◌/◌, ◌%◌, ◌≤◌, sym, ap, ◌∙◌, arith}
use Rattle.layout.specs.Places.{stream_place, StreamCovered}

packet_of : (p c j : ℕ) → c ≤ 1 → j ≤ 223 → stream_place p c j / 448 ≡ p
packet_of p c j hc hj = omega arith

channel_of : (p c j : ℕ) → c ≤ 1 → 1 - stream_place p c j % 2 ≡ c
channel_of p c j hc = omega arith

byte_of : (p c j : ℕ) → c ≤ 1 → j ≤ 223 → stream_place p c j % 448 / 2 ≡ j
byte_of p c j hc hj = omega arith

pub stream_covered : StreamCovered
stream_covered = record {
  once = λ p c j p' c' j' hc hc' hj hj' e. (
    sym (packet_of p c j hc hj) ∙ ap (λ q. q / 448) e ∙ packet_of p' c' j' hc' hj',
    sym (channel_of p c j hc) ∙ ap (λ q. 1 - q % 2) e ∙ channel_of p' c' j' hc',
    sym (byte_of p c j hc hj) ∙ ap (λ q. q % 448 / 2) e ∙ byte_of p' c' j' hc' hj',
  );
  each = λ q h. (q / 448, 1 - q % 2, q % 448 / 2, omega arith, omega arith, omega arith, omega arith);
}
