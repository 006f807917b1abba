-- Words of a list of bits, moved.
use Rattle.std.specs.Prelude.{ℕ, ◌+◌, ◌-◌, ◌*◌, false, List}
use Rattle.model.specs.Bounded.{write_run}
use Rattle.model.specs.Memory.{word_bits}
use Rattle.model.specs.Bitmaps.{bit_at, with_bit}

-- the bits of the n words from word `to` on become those of the n words from word `from` on, and those go off
abbrev pub moved_words : ℕ → ℕ → ℕ → List ℕ → List ℕ
moved_words to from n ws =
    write_run with_bit (from * word_bits) (n * word_bits) (λ i. false)
    (write_run with_bit (to * word_bits) (n * word_bits) (λ i. bit_at ws (i - to * word_bits + from * word_bits)) ws)
