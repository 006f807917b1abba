-- The whole words are a run of bits; where bits are left, the run goes on in one word more.
use Rattle.std.proofs.Common.{ℕ, Bool, ◌≡◌, ◌+◌, ◌-◌, ◌*◌, ◌/◌, ◌%◌, ◌^◌, ◌≤◌, List, length, replicate, cond, ◌∙◌, ap, arith, rules}
use borrow.Rule.Slice.PartMut.{mid_of, put_mid}
use Rattle.model.specs.Bounded.{write_run}
use Rattle.model.specs.Memory.{word_bits, put_words}
use Rattle.model.specs.Bitmaps.{with_bit}
use Rattle.zeroing.proofs.Runs.{part_filled}
use Rattle.bitmap_range.proofs.Bits.{Fit}
use Rattle.bitmap_range.proofs.Ranges.{fill_bits, run_into_word}
use Rattle.bitmap_range.proofs.put_from_word.Goals as goal

-- n whole words from word `first` on are filled
filled : (on : Bool) (first n : ℕ) {v : ℕ} (ws : List ℕ) {ys : List ℕ} → Fit ws → first + n ≤ length ws → v ≡ cond on (2 ^ word_bits - 1) 0 →
    ys ≡ replicate (length (mid_of first ((first + n) - first) ws)) v → put_mid first ((first + n) - first) ws ys ≡ write_run with_bit (first * word_bits) (n * word_bits) (λ i. on) ws
filled on first n {v} ws f h e g = part_filled first n v ws h g ∙ ap (λ w. put_words first n (λ i. w) ws) e ∙ fill_bits on first n ws h f

pub returns-then-rest-eq0 : goal.returns-then-rest-eq0
returns-then-rest-eq0 c =
    let a = c.args in
    let whole = filled a.on a.first (a.n / 64) a.ws.now (λ x. search rules) (omega arith) c.all_bits.ensures (c.fill.ensures.after (search rules)) in
    let e : a.n / 64 * 64 ≡ a.n = omega arith in
    rw e at whole

pub returns : goal.returns
returns c =
    let a = c.args in
    let whole = filled a.on a.first (a.n / 64) a.ws.now (λ x. search rules) (omega arith) c.all_bits.ensures (c.fill.ensures.after (search rules)) in
    let e : a.n / 64 * 64 + a.n % 64 ≡ a.n = omega arith in
    rw (c.put_bits.ensures, whole)
    (run_into_word (a.first * 64) (a.n / 64 * 64) (a.first + a.n / 64) 0 (a.n % 64) a.on a.ws.now (omega arith) (omega arith) (omega arith) (omega arith)
    ∙ ap (λ m. write_run with_bit (a.first * 64) m (λ i. a.on) a.ws.now) e)
