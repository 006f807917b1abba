-- The search for the lowest free element: where elements start, the mask of these bits in a word, and what the search answers.
use Prim.Native.Nat.{ℕ, suc, ◌+◌, ◌-◌, ◌*◌, ◌/◌, ◌%◌, ◌^◌, ◌<◌, ◌≤◌}
use mathlib.Core.Bool.{Bool, true, false, cond, not, ◌&&◌, and-true, and-false}
use mathlib.Core.List.{List}
use mathlib.Core.Path.{◌≡◌, refl, sym, ◌∙◌, ap}
use native.Mathlib.Nat.{div-add-mod', mod-eq_of_lt, zero-mod, add-mod-mod, add-mul-mod_self_right, mul-add-mod_self_right, mul-mod_left, suc-mul, le-div_iff_mul-le, zero-add}
use native.Mathlib.Omega.{arith}
use lib.Bits.{bit_and}
use lib.Count.{count_trailing_zeros}
use lib.Dec.{eqb, leb, ltb}
use lib.ListN.{get_or}
use borrow.Author.Tests.{ltb-true, ltb-false, leb-true, leb-false, le-leb, lt-leb, ne_eqb, eqb-true}
use Rattle.model.specs.Bitmaps.{bit_of, bit_at}
use Rattle.std.specs.Prelude.{None as nothing}
use Rattle.std.specs.Bool.{then_some}
use Rattle.bitmap.specs.Search.{found}
use Rattle.bitmap.specs.Starts.{Starts}
use Rattle.bitmap.proofs.Found.{found_first, found_nothing}
use Rattle.model.proofs.Bitmaps.{bit_shifted}
use Rattle.bitmap.proofs.Scan.{WordOf, None, Passed, word_at, word_not, word_and, scan_word, whole_word, both}

-- whole elements further on the offset is the same
pub same_offset : (size off n : ℕ) → off < size → (off + n * size) % size ≡ off
same_offset size off n h = rw add-mul-mod_self_right (mod-eq_of_lt h)

-- where an element starts `off` bits after bit m, and none between, the others start whole elements after that
pub starts_from : (size m off j : ℕ) → off < size → (m + off) % size ≡ 0 → eqb ((m + j) % size) 0 ≡ (leb off j && eqb ((j - off) % size) 0)
starts_from size m off j h s = go (leb off j) refl
  where
    go : (b : Bool) → leb off j ≡ b → eqb ((m + j) % size) 0 ≡ (b && eqb ((j - off) % size) 0)
    go true p =
        let e : m + j ≡ (j - off) + (m + off) / size * size = omega (arith, div-add-mod' (m + off) size, leb-true off j p) in
        rw (e, add-mul-mod_self_right)
    go false p = ne_eqb ((m + j) % size) 0 none
      where
        none : (m + j) % size ≡ 0 → ⊥
        none z =
            let l : j < off = leb-false off j p in
            let e : m + off ≡ (m + j) / size * size + (off - j) = omega (arith, div-add-mod' (m + j) size) in
            omega (arith, s, ap (λ x. x % size) e ∙ mul-add-mod_self_right ((m + j) / size) size (off - j) ∙ mod-eq_of_lt {n = off - j} {m = size} (omega arith))

-- of the elements from bit `first` on one starts in word number `at`, at its bit `off`, and none below that
pub record StartAt (first size at off : ℕ) : Type 0 where
  pub begun : first ≤ at * 64
  pub near : off < size
  pub within : off < 64
  pub start : (at * 64 - first + off) % size ≡ 0

pub start_first : (first size : ℕ) → first % 64 ≡ 0 → 0 < size → StartAt first size (first / 64) 0
start_first first size a h =
    let e : first / 64 * 64 - first + 0 ≡ 0 = omega arith in
    record { begun = omega arith; near = h; within = omega arith; start = rw e (zero-mod size) }

-- the next word in which one starts, r bits after the word at hand
module _ {first size at off : ℕ} (p : StartAt first size at off) (r : ℕ) (l : r < size) (o : (r + 64) % size ≡ off) where
  next_start : ((at + 1) * 64 - first + r) % size ≡ 0
  next_start =
      let e : (at + 1) * 64 - first + r ≡ (at * 64 - first) + (r + 64) = omega (arith, p.begun) in
      rw (e, ← add-mod-mod (at * 64 - first) (r + 64) size, o) p.start

  pub start_next : StartAt first size (at + (1 + r / 64)) (r % 64)
  start_next =
      let e : (at + (1 + r / 64)) * 64 - first + r % 64 ≡ (at + 1) * 64 - first + r = omega (arith, p.begun) in
      record { begun = omega (arith, p.begun); near = omega arith; within = omega arith; start = rw e next_start }

  none_between : (i : ℕ) → (at + 1) * 64 ≤ i → i < (at + (1 + r / 64)) * 64 → eqb ((i - first) % size) 0 ≡ false
  none_between i a b =
      let m = (at + 1) * 64 - first in
      let j = i - (at + 1) * 64 in
      let e : i - first ≡ m + j = omega (arith, p.begun) in
      rw (e, starts_from size m r j l next_start, lt-leb r j (omega arith))

-- an element starts at bit b
abbrev starting : ℕ → ℕ → ℕ → Bool
starting first size b = leb first b && eqb ((b - first) % size) 0

-- .. and is free
abbrev pub free_start : List ℕ → ℕ → ℕ → ℕ → Bool
free_start ws first size b = not (bit_at ws b) && starting first size b

pub none_before : (ws : List ℕ) (first size : ℕ) → None (free_start ws first size) (first / 64 * 64)
none_before ws first size i l = rw (lt-leb first i (omega arith)) (and-false (not (bit_at ws i)))

pub scan_free : (ws : List ℕ) {first size at off starts : ℕ} → Starts size starts → StartAt first size at off → get_or ws at 0 < 2 ^ 64 →
    None (free_start ws first size) (at * 64) → Passed (free_start ws first size) at (count_trailing_zeros 64 (bit_and ((2 ^ 64 - 1) - get_or ws at 0) (starts * 2 ^ off % 2 ^ 64)))
scan_free ws {first} {size} {at} {off} {starts} s p h n =
    scan_word (free_start ws first size) at _ (word_and at (λ b. not (bit_at ws b)) (starting first size) _ _ (word_not at (bit_at ws) _ h (word_at ws at)) masked) n
  where
    masked : WordOf at (starting first size) (starts * 2 ^ off % 2 ^ 64)
    masked j l =
        let e : at * 64 + j - first ≡ (at * 64 - first) + j = omega (arith, p.begun) in
        rw (bit_shifted starts 64 off j l, le-leb first (at * 64 + j) (omega (arith, p.begun)), e, starts_from size (at * 64 - first) off j p.near p.start)
        (go (leb off j))
      where
        go : (b : Bool) → cond b (bit_of starts (j - off)) 0 ≡ cond (b && eqb ((j - off) % size) 0) 1 0
        go true = s.bit (j - off) (omega arith)
        go false = refl

pub none_next : (ws : List ℕ) {first size at off z : ℕ} (r : ℕ) → StartAt first size at off → r < size → (r + 64) % size ≡ off →
    Passed (free_start ws first size) at z → 64 ≤ z → None (free_start ws first size) ((at + (1 + r / 64)) * 64)
none_next ws {first} {size} {at} r p l o s w i b = go (ltb i ((at + 1) * 64)) refl
  where
    go : (c : Bool) → ltb i ((at + 1) * 64) ≡ c → free_start ws first size i ≡ false
    go true e = whole_word s w i (ltb-true i ((at + 1) * 64) e)
    go false e = rw (none_between p r l o i (ltb-false i ((at + 1) * 64) e) b, and-false (leb first i)) (and-false (not (bit_at ws i)))

module _ (ws : List ℕ) (first size count : ℕ) (h : 0 < size) where
  -- element k is free
  abbrev free_element : ℕ → Bool
  free_element k = not (bit_at ws (first + k * size))

  start : (k : ℕ) → starting first size (first + k * size) ≡ true
  start k =
      let e : first + k * size - first ≡ k * size = omega arith in
      rw (le-leb first (first + k * size) (omega arith), e, mul-mod_left k size)

  -- none is that starts below bit b
  module _ (b : ℕ) (n : None (free_start ws first size) b) where
    before : (k : ℕ) → k < (b - first) / size → free_element k ≡ false
    before k m =
        let d : suc k * size ≤ b - first = (le-div_iff_mul-le h).0 (omega arith) in
        sym (and-true (free_element k)) ∙ (rw (start k) at (n (first + k * size) (omega (arith, suc-mul k size))))

    none_below : count ≤ (b - first) / size → nothing ≡ found 0 count free_element
    none_below l = found_nothing 0 count free_element (record { within = omega arith; before = λ k m. before k (omega arith); holds = λ m. absurd (omega arith) })

    pub none_free : first + count * size ≤ b → nothing ≡ found 0 count free_element
    none_free l = none_below ((le-div_iff_mul-le h).1 (omega arith))

    some_free : first ≤ b → free_start ws first size b ≡ true → then_some (ltb ((b - first) / size) count) ((b - first) / size) ≡ found 0 count free_element
    some_free l f = go (ltb ((b - first) / size) count) refl
      where
        q : ℕ
        q = (b - first) / size

        free : free_element q ≡ true
        free =
            let t = both (not (bit_at ws b)) (starting first size b) f in
            let z = eqb-true ((b - first) % size) 0 (both (leb first b) (eqb ((b - first) % size) 0) t.1).1 in
            let e : first + q * size ≡ b = omega (arith, div-add-mod' (b - first) size) in
            rw e t.0

        go : (c : Bool) → ltb q count ≡ c → then_some c q ≡ found 0 count free_element
        go true p = rw (zero-add q) at (found_first 0 count free_element q (record { within = omega (arith, ltb-true q count p); before = before; holds = λ m. free }) (ltb-true q count p))
        go false p = none_below (ltb-false q count p)

  pub found_free : {at off z : ℕ} → StartAt first size at off → Passed (free_start ws first size) at z → z < 64 →
      (let q = (at * 64 + z - first) / size in then_some (ltb q count) q ≡ found 0 count free_element)
  found_free {at} {off} {z} r p l = some_free (at * 64 + z) p.none (omega (arith, r.begun)) (p.holds l)
