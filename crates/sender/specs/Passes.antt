-- What stands on a carrier while a field is being written, pass by pass.
use Rattle.std.specs.Prelude.{ℕ, ◌+◌, ◌-◌, ◌*◌, cond, ◌&&◌, ◌||◌, ◌==◌, nat_le, nat_lt}
use Rattle.carriers.specs.Meaning.{Meaning}
use Rattle.layout.specs.Mapped.{Blocks, mark_word, stream_byte}
use Rattle.layout.specs.Words.{sent_word}

-- One word is set.
abbrev pub with_word : ℕ → ℕ → ℕ → Meaning → Meaning
with_word line word value c = record {
  first = c.first;
  end = c.end;
  word = λ l w. cond (l == line && w == word) value (c.word l w);
}

-- The first q bytes of the stream stand at their places.
abbrev pub with_stream : Blocks → ℕ → Meaning → Meaning
with_stream coded q c = record {
  first = c.first;
  end = c.end;
  word = λ l w.
      let place = 1436 * l + (w - 2) in
      cond (nat_le 2 w && (nat_lt w 1438 && nat_lt place q)) (sent_word (stream_byte coded place)) (c.word l w);
}

-- The first n lines have their words 0, 1, 1438 and 1439.
abbrev pub with_edges : ℕ → Meaning → Meaning
with_edges n c = record {
  first = c.first;
  end = c.end;
  word = λ l w.
      cond (nat_lt l n && (nat_lt w 2 || (nat_le 1438 w && nat_lt w 1440))) (cond (w == 0) 0x248 (cond (w == 1) (mark_word l) 0x200)) (c.word l w);
}

-- The last line is filled from word 750 on and before word k.
abbrev pub with_filling : ℕ → Meaning → Meaning
with_filling k c = record {
  first = c.first;
  end = c.end;
  word = λ l w. cond (l == 211 && (nat_le 750 w && nat_lt w k)) 0x200 (c.word l w);
}
