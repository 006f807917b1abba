-- Parts of a list of words as the library's methods of slices leave them and read them: words that are copied, and words that are counted.
use Rattle.std.proofs.Common.{ℕ, ◌+◌, ◌-◌, ◌*◌, ◌<◌, ◌≤◌, Bool, true, false, cond, List, ◌≡◌, refl, sym, ◌∙◌, ap, arith, length, get_or, take, drop, length-take, length-drop}
use Rattle.std.specs.List.{CopiedTo, SameBelow, SameFrom}
use Rattle.std.proofs.lemmas.List.{get_or-take, get_or-drop}
use lib.Count.{ones, ones-le}
use lib.Dec.{ltb}
use lib.Seq.{ext_get_or}
use borrow.Author.Tests.{ltb-true, ltb-false}
use Rattle.model.specs.Bounded.{count_below}
use Rattle.model.specs.Memory.{put_words}
use Rattle.model.specs.Bitmaps.{bit_at}
use Rattle.model.proofs.Bounded.{count_bound, within, within_low, within_yes, within_high}
use Rattle.model.proofs.Words.{words_at_lem, words_length}
use Rattle.bitmap_range.proofs.Bits.{Fit, count_word}

-- n words from word `from` on, copied to those from word `to` on
pub copied : (ws : List ℕ) {ys : List ℕ} (to from n : ℕ) {k : ℕ} → k ≡ n → to + n ≤ length ws → length ys ≡ length ws →
    CopiedTo ws ys from to k × SameBelow ws ys to × SameFrom ws ys (to + k) → ys ≡ put_words to n (λ i. get_or ws (i - to + from) 0) ws
copied ws {ys} to from n e h l c = ext_get_or 0 ys _ (l ∙ sym (words_length (length ws) to n value ws h refl)) (λ x m. at x ∙ sym (words_at_lem (length ws) to n value ws h refl x))
  where
    value : ℕ → ℕ
    value i = get_or ws (i - to + from) 0

    at : (x : ℕ) → get_or ys x 0 ≡ cond (within to n x) (value x) (get_or ws x 0)
    at x = go (ltb x to) refl (ltb x (to + n)) refl
      where
        go : (p : Bool) → ltb x to ≡ p → (q : Bool) → ltb x (to + n) ≡ q → get_or ys x 0 ≡ cond (within to n x) (value x) (get_or ws x 0)
        go true f q g = rw (within_low to n x (ltb-true x to f)) (c.1 x 0 (ltb-true x to f))
        go false f true g =
            let m : to ≤ x = ltb-false x to f in
            let u : from + (x - to) ≡ x - to + from = omega arith in
            rw (within_yes to n x m (ltb-true x (to + n) g)) (c.0 x 0 m (omega (arith, ltb-true x (to + n) g)) ∙ ap (λ i. get_or ws i 0) u)
        go false f false g = rw (within_high to n x (ltb-false x (to + n) g)) (c.2 x 0 (omega (arith, ltb-false x (to + n) g)))

-- a part has as many words as it is long
pub part_length : (ws : List ℕ) (first n : ℕ) → first + n ≤ length ws → length (take ((first + n) - first) (drop first ws)) ≡ n
part_length ws first n h = simp (length-take, length-drop) (omega arith)

-- one word more of those that are counted, and what keeps the sum small
pub record Counted (ws : List ℕ) (first i total w : ℕ) : Type 0 where
  pub sum : total + ones w ≡ count_below ((i + 1) * 64) (λ j. bit_at ws (first * 64 + j))
  pub small : total ≤ i * 64
  pub word : ones w ≤ 64

pub counted : (ws : List ℕ) (first n i : ℕ) {total : ℕ} → Fit ws → i < n → total ≡ count_below (i * 64) (λ j. bit_at ws (first * 64 + j)) →
    Counted ws first i total (get_or (take n (drop first ws)) i 0)
counted ws first n i {total} f h e =
    let w : get_or (take n (drop first ws)) i 0 ≡ get_or ws (first + i) 0 = get_or-take n (drop first ws) i 0 h ∙ get_or-drop first ws i 0 in
    record {
      sum = rw (w, e) (sym (count_word ws first i f));
      small = rw e (count_bound (i * 64) _);
      word = rw w (ones-le 64 (get_or ws (first + i) 0) (f (first + i)));
    }
