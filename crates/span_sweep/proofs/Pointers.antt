-- The pointer bits of a span while the sweep clears those of its freed elements, element by element: up to word `at` they are the definition's.
use Prim.Native.Nat.{ℕ, ◌+◌, ◌-◌, ◌*◌, ◌%◌, ◌<◌, ◌≤◌}
use mathlib.Core.Bool.{Bool, true, false, not, cond, ◌&&◌, and-false}
use mathlib.Core.List.{List}
use mathlib.Core.Logic.{⊎_elim}
use mathlib.Core.Path.{◌≡◌, refl, sym, ◌∙◌, ap}
use native.Mathlib.Omega.{arith}
use lib.Dec.{T, eqb}
use lib.ListN.{length}
use borrow.Author.Tests.{eqb-true, eqb-false, not-false}
use Rattle.model.specs.Memory.{page_words, word_bits, pointer_part}
use Rattle.model.specs.Classes.{element_words_of}
use Rattle.model.specs.Bounded.{first_below, write_run}
use Rattle.model.specs.Bitmaps.{Part, bit_at, with_bit, bit_in, put_bit, put_bits, place, allocated, marked, gray, pointer}
use Rattle.model.specs.Spans.{page_count, is_scan, element_words, element_number, span_of}
use Rattle.model.proofs.Tests.{is_true, of_true, of_false, and_iff, clash}
use Rattle.model.proofs.Bounded.{First, within, within_true, within_high, first_props, run_none}
use Rattle.model.proofs.Bitmaps.{Four, same_part, bit_in_lem, part_run, run_length_lem}
use Rattle.model.proofs.Spans.{start_in, start_range, start_same, elements_apart, at_home, fits, whole}
use Rattle.model.specs.Facts.{bit}
use Rattle.model.specs.Lent.{Bitmaps}
use Rattle.page_table.specs.declared.Span.{Span}
use Rattle.bitmap_range.proofs.Runs.{run_append, writes_cong}
use Rattle.bitmap_range.proofs.Bits.{Fit, bits_ext, bits_at, bits_length, bits_fit}
use Rattle.bitmap_range.proofs.Parts.{place_from, part_as_bits, part_constant}
use Rattle.std.specs.Prelude.{Some, None}
use Rattle.bitmap_search.specs.Freed.{is_freed, next_freed}
use Rattle.bitmap_search.proofs.Next.{next_some, next_none}
use Rattle.span_sweep.specs.Needs.{Sweepable, SpanRead, cleared_bits}

-- a run of bits of a part that are as they were
pub run_same : (n : ℕ) (q : Part) (w k : ℕ) (g : ℕ → Bool) (b : List ℕ) → w + k ≤ n → Four n b → Fit b → ((x : ℕ) → w ≤ x → x < w + k → g x ≡ bit_in n q b x) →
    put_bits n q w k g b ≡ b
run_same n q w k g b h f fit e =
    part_as_bits n q w k g b
    ∙ bits_ext (write_run with_bit (place n q w) k value b) b (bits_length (place n q w) k value b room) (bits_fit (place n q w) k value b room fit) fit
    (λ i l. bits_at (place n q w) k value b room i ∙ go i (within (place n q w) k i) refl)
  where
    value : ℕ → Bool
    value i = g (i - place n q 0)

    room : place n q w + k ≤ word_bits * length b
    room = inside q
      where
        inside : (r : Part) → place n r w + k ≤ word_bits * length b
        inside allocated = omega arith
        inside marked = omega arith
        inside gray = omega arith
        inside pointer = omega arith

    go : (i : ℕ) (c : Bool) → within (place n q w) k i ≡ c → cond c (value i) (bit_at b i) ≡ bit_at b i
    go i true p =
        let l = within_true (place n q w) k i p in
        let x = i - place n q 0 in
        let z : place n q x ≡ i = place_from n q x ∙ omega (arith, place_from n q w) in
        e x (omega (arith, place_from n q w)) (omega (arith, place_from n q w)) ∙ bit_in_lem n q b x (omega (arith, place_from n q w)) ∙ ap (bit_at b) z
    go i false p = refl

pub run_fit : (n : ℕ) (q : Part) (w k : ℕ) (g : ℕ → Bool) (b : List ℕ) → place n q w + k ≤ word_bits * length b → Fit b → Fit (put_bits n q w k g b)
run_fit n q w k g b h f = rw (part_as_bits n q w k g b) (bits_fit (place n q w) k (λ i. g (i - place n q 0)) b h f)

-- a pointer bit stays where the element that it lies in is marked
abbrev pub stays : ℕ → List ℕ → List ℕ → ℕ → ℕ → Bool
stays p t b s w = bit p pointer b w && bit p marked b (start_in t s w)

-- the bitmaps once that is so below word `at` of the span at page s
abbrev pub up_to : ℕ → List ℕ → List ℕ → ℕ → ℕ → List ℕ
up_to p t b s at = put_bits (page_words * p) pointer (page_words * s) (at - page_words * s) (stays p t b s) b

-- .. where no element that starts before that word reaches past it
pub record Cleared (p : ℕ) (t b : List ℕ) (s q : ℕ) (now : List ℕ) : Type 0 where
  pub low : page_words * s ≤ q
  pub high : q ≤ page_words * (s + page_count t s)
  pub is : now ≡ up_to p t b s q
  pub bound : (w : ℕ) → q ≤ w → w < page_words * (s + page_count t s) → q ≤ start_in t s w

-- .. or where the next freed element starts, if one does
pub record Next (p : ℕ) (t b : List ℕ) (s at : ℕ) (now : List ℕ) : Type 0 where
  pub low : page_words * s ≤ at
  pub high : at ≤ page_words * (s + page_count t s)
  pub is : now ≡ up_to p t b s at
  pub freed : at < page_words * (s + page_count t s) → is_freed p b at ≡ true

pub cleared_length : {p : ℕ} {t b : List ℕ} {s q : ℕ} {now : List ℕ} → Cleared p t b s q now → length now ≡ length b
cleared_length {p} {t} {b} {s} {q} C = rw C.is (run_length_lem (page_words * p) pointer (page_words * s) (q - page_words * s) (stays p t b s) b)

module _ (p : ℕ) (t b : List ℕ) (s : ℕ) (S : Sweepable p t b s) (fit : Fit b) where
  inside : page_words * (s + page_count t s) ≤ page_words * p
  inside = omega (arith, S.consistent.spans.inside s S.starts)

  four : Four (page_words * p) b
  four = omega (arith, S.consistent.bits)

  -- the words of the span
  home : (w : ℕ) → page_words * s ≤ w → w < page_words * (s + page_count t s) → span_of t w ≡ s
  home w l m = (at_home S.consistent.spans s w S.starts l m).1

  -- a freed element: it is whole, and not marked
  module _ (at : ℕ) (low : page_words * s ≤ at) (high : at < page_words * (s + page_count t s)) (freed : is_freed p b at ≡ true) where
    pub freed_start : start_in t s at ≡ at
    freed_start =
        let a = ((and_iff (bit p allocated b at) (not (bit p marked b at))).0 (is_true _ freed)).0 in
        rw (home at low high) at (S.consistent.rules.element at a).first

    pub freed_whole : at + element_words t s ≤ page_words * (s + page_count t s)
    freed_whole =
        let a = ((and_iff (bit p allocated b at) (not (bit p marked b at))).0 (is_true _ freed)).0 in
        rw (home at low high) at (whole S.consistent.spans at (S.consistent.rules.element at a)).0

    pub freed_clear : (w : ℕ) → at ≤ w → w < at + element_words t s → stays p t b s w ≡ false
    freed_clear w l m =
        let u = ((and_iff (bit p allocated b at) (not (bit p marked b at))).0 (is_true _ freed)).1 in
        rw (start_same t s at w freed_start l m, of_false (bit p marked b at) u) (and-false (bit p pointer b w))

    -- no element that starts before its end reaches past it
    pub next_bound : (w : ℕ) → at + element_words t s ≤ w → w < page_words * (s + page_count t s) → at + element_words t s ≤ start_in t s w
    next_bound w l m = go (eqb at (start_in t s w)) refl
      where
        r : (page_words * s ≤ start_in t s w) × (start_in t s w ≤ w) × (w < start_in t s w + element_words t s)
        r = start_range t s w (omega arith) (fits S.consistent.spans s S.starts).words

        go : (c : Bool) → eqb at (start_in t s w) ≡ c → at + element_words t s ≤ start_in t s w
        go true e = absurd (omega (arith, r.2, eqb-true at (start_in t s w) e))
        go false e =
            ⊎_elim (λ x. x) (λ x. absurd (omega (arith, r.2))) (elements_apart t s (element_number t s w) at freed_start (eqb-false at (start_in t s w) e))

  -- pointer bits between freed elements stay
  kept_between : (q at : ℕ) → page_words * s ≤ q → at ≤ page_words * (s + page_count t s) → ((w : ℕ) → q ≤ w → w < page_words * (s + page_count t s) → q ≤ start_in t s w) →
      ((w : ℕ) → q ≤ w → w < at → is_freed p b w ≡ false) → (w : ℕ) → q ≤ w → w < at → stays p t b s w ≡ bit p pointer b w
  kept_between q at l h bound none w i j = go (bit p pointer b w) refl
    where
      e : ℕ
      e = start_in t s w

      marks : T (bit p allocated b (start_in t s w)) → is_freed p b (start_in t s w) ≡ false → bit p marked b (start_in t s w) ≡ true
      marks a f = not-false (bit p marked b (start_in t s w)) (rw (of_true (bit p allocated b (start_in t s w)) a) at f)

      go : (c : Bool) → bit p pointer b w ≡ c → (c && bit p marked b (start_in t s w)) ≡ c
      go false x = refl
      go true x =
          let a = rw (home w (omega arith) (omega arith)) at (S.consistent.rules.pointers w (is_true _ x)).2 in
          let r = start_range t s w (omega arith) (fits S.consistent.spans s S.starts).words in
          marks a (none (start_in t s w) (bound w i (omega arith)) (omega (arith, r.1)))

  -- the bitmaps below one more word
  run_on : (q at : ℕ) → page_words * s ≤ q → q ≤ at → at ≤ page_words * (s + page_count t s) →
      up_to p t b s at ≡ put_bits (page_words * p) pointer q (at - q) (stays p t b s) (up_to p t b s q)
  run_on q at l m h =
      let e : at - page_words * s ≡ (q - page_words * s) + (at - q) = omega arith in
      let f : page_words * s + (q - page_words * s) ≡ q = omega arith in
      rw e (run_append (put_bit (page_words * p) pointer) (page_words * s) (q - page_words * s) (at - q) (stays p t b s) b ∙ rw f)

  module _ (q : ℕ) (l : page_words * s ≤ q) (h : q ≤ page_words * (s + page_count t s)) where
    up_four : Four (page_words * p) (up_to p t b s q)
    up_four = rw (run_length_lem (page_words * p) pointer (page_words * s) (q - page_words * s) (stays p t b s) b) four

    up_bit : (r : Part) (w : ℕ) → bit p r (up_to p t b s q) w ≡ cond (same_part r pointer && within (page_words * s) (q - page_words * s) w) (stays p t b s w) (bit p r b w)
    up_bit r w = part_run (page_words * p) pointer (page_words * s) (q - page_words * s) (stays p t b s) b (omega (arith, inside)) four r w

    up_freed : (w : ℕ) → is_freed p (up_to p t b s q) w ≡ is_freed p b w
    up_freed w = rw (up_bit allocated w, up_bit marked w)

    up_fit : Fit (up_to p t b s q)
    up_fit = run_fit (page_words * p) pointer (page_words * s) (q - page_words * s) (stays p t b s) b (omega (arith, inside, S.consistent.bits)) fit

  -- on to the next freed element
  on_to_next : (q at : ℕ) (now : List ℕ) → Cleared p t b s q now → at ≡ q + first_below (page_words * (s + page_count t s) - q) (λ k. is_freed p now (q + k)) → Next p t b s at now
  on_to_next q at now C e = record { low = omega (arith, l); high = omega (arith, h, F.within); is = C.is ∙ sym same; freed = next }
    where
      l : page_words * s ≤ q
      l = C.low

      h : q ≤ page_words * (s + page_count t s)
      h = C.high

      F : First (page_words * (s + page_count t s) - q) (λ k. is_freed p now (q + k)) (first_below (page_words * (s + page_count t s) - q) (λ k. is_freed p now (q + k)))
      F = first_props (page_words * (s + page_count t s) - q) (λ k. is_freed p now (q + k))

      as_before : (w : ℕ) → is_freed p b w ≡ is_freed p now w
      as_before w = sym (up_freed q l h w) ∙ ap (λ x. is_freed p x w) (sym C.is)

      none : (w : ℕ) → q ≤ w → w < at → is_freed p b w ≡ false
      none w i j =
          let z : q + (w - q) ≡ w = omega arith in
          as_before w ∙ (rw z at (F.before (w - q) (omega (arith, e))))

      next : at < page_words * (s + page_count t s) → is_freed p b at ≡ true
      next i = as_before at ∙ ap (is_freed p now) e ∙ F.holds (omega (arith, e))

      same : up_to p t b s at ≡ up_to p t b s q
      same =
          run_on q at l (omega (arith, e)) (omega (arith, e, F.within))
          ∙ run_same (page_words * p) pointer q (at - q) (stays p t b s) (up_to p t b s q) (omega (arith, e, F.within, inside)) (up_four q l h) (up_fit q l h)
          (λ x i j. kept_between q at l (omega (arith, e, F.within)) C.bound none x i (omega (arith, e)) ∙ sym (up_bit q l h pointer x ∙ rw (within_high (page_words * s) (q - page_words * s) x (omega arith))))

  begun : Cleared p t b s (page_words * s) b
  begun =
      let z : page_words * s - page_words * s ≡ 0 = omega arith in
      let u : up_to p t b s (page_words * s) ≡ b = rw z (run_none (put_bit (page_words * p) pointer) (page_words * s) (stays p t b s) b) in
      record { low = omega arith; high = omega arith; is = sym u; bound = λ w l m. (start_range t s w l (fits S.consistent.spans s S.starts).words).0 }

  -- the freed element's pointer bits go, and the search goes on behind it
  cleared_on : (at : ℕ) (now then : List ℕ) → Next p t b s at now → at < page_words * (s + page_count t s) →
      then ≡ write_run with_bit (pointer_part * (page_words * p) + at) (element_words t s) (λ i. false) now → Cleared p t b s (at + element_words t s) then
  cleared_on at now then N h e =
      let freed = N.freed h in
      let end = freed_whole at N.low h freed in
      let z : at + element_words t s - at ≡ element_words t s = omega arith in
      let u : then ≡ up_to p t b s (at + element_words t s) =
      rw (e, N.is) (sym (run_on at (at + element_words t s) N.low (omega arith) end
      ∙ rw z (writes_cong (put_bit (page_words * p) pointer) at (element_words t s) (stays p t b s) (λ w. false) (up_to p t b s at) (λ w l m. freed_clear at N.low h freed w l m)
      ∙ part_constant (page_words * p) pointer at (element_words t s) false (up_to p t b s at)))) in
      record { low = omega (arith, N.low); high = end; is = u; bound = next_bound at N.low h freed }

  -- no element of a noscan span has pointer bits
  pub noscan_same : is_scan t s ≡ false → b ≡ cleared_bits p t b s
  noscan_same e =
      sym (run_same (page_words * p) pointer (page_words * s) (page_words * page_count t s) (stays p t b s) b (omega (arith, inside)) four fit (λ w l m. go w l (omega arith) (bit p pointer b w) refl))
    where
      go : (w : ℕ) → page_words * s ≤ w → w < page_words * (s + page_count t s) → (c : Bool) → bit p pointer b w ≡ c → (c && bit p marked b (start_in t s w)) ≡ c
      go w l m false x = refl
      go w l m true x = clash (is_scan t s) (of_true (is_scan t s) (rw (home w l m) at (S.consistent.rules.pointers w (is_true _ x)).1)) e

-- The same laws over the words of an element, the span's first word and its end as the code has them.
pub record Measured (p : ℕ) (t b : List ℕ) (s size end : ℕ) : Type 0 where
  pub sweepable : Sweepable p t b s
  pub words : size ≡ element_words t s
  pub reach : end ≡ page_words * (s + page_count t s)

-- .. of a span that was read
pub measured : {p : ℕ} {t b : List ℕ} (span : Span) → SpanRead p t b span → {size end : ℕ} → size ≡ element_words_of span.class span.pages →
    end ≡ page_words * (span.start.0 + span.pages) → Measured p t b span.start.0 size end
measured span R e f = record { sweepable = R.sweepable; words = rw (R.reads.class, R.reads.pages) at e; reach = rw R.reads.pages at f }

-- what a turn of the loop asks: of the bitmaps and the span's end before the search, and of the freed element at `at` after it
pub record Asked (p size end q : ℕ) (now : List ℕ) : Type 0 where
  pub tables : Bitmaps p now
  pub some : 0 < size
  pub begun : q ≤ end
  pub inside : end ≤ page_words * p
  pub aligned : end % word_bits ≡ 0

pub record Turn (p size end q at : ℕ) (now : List ℕ) : Type 0 where
  pub asked : Asked p size end q now
  pub on : q ≤ at
  pub whole : at + size ≤ end

module _ {p : ℕ} {t b : List ℕ} {s size end : ℕ} (fit : Fit b) (M : Measured p t b s size end) where
  pub loop_begun : (first : ℕ) → first ≡ page_words * s → Cleared p t b s first b
  loop_begun first f = rw f (begun p t b s M.sweepable fit)

  module _ {q : ℕ} {now : List ℕ} (C : Cleared p t b s q now) where
    pub loop_asked : Asked p size end q now
    loop_asked =
        let S = M.sweepable in
        record {
          tables = record { few = S.consistent.few; bits = cleared_length C ∙ S.consistent.bits };
          some = rw M.words (fits S.consistent.spans s S.starts).words;
          begun = omega (arith, M.reach, C.high);
          inside = omega (arith, M.reach, S.consistent.spans.inside s S.starts);
          aligned = omega (arith, M.reach);
        }

    pub loop_end : None ≡ next_freed p now q end → now ≡ cleared_bits p t b s
    loop_end e =
        let h = C.high in
        let f : first_below (page_words * (s + page_count t s) - q) (λ k. is_freed p now (q + k)) ≡ page_words * (s + page_count t s) - q =
        rw M.reach at (next_none p now q end e) in
        let N = on_to_next p t b s M.sweepable fit q (page_words * (s + page_count t s)) now C (omega (arith, f)) in
        let z : page_words * (s + page_count t s) - page_words * s ≡ page_words * page_count t s = omega arith in
        rw z at N.is

    module _ {at : ℕ} (e : Some at ≡ next_freed p now q end) where
      there : (at ≡ q + first_below (end - q) (λ k. is_freed p now (q + k))) × (first_below (end - q) (λ k. is_freed p now (q + k)) < end - q)
      there = next_some p now q end e

      next : Next p t b s at now
      next = on_to_next p t b s M.sweepable fit q at now C (rw M.reach at there.0)

      below : at < page_words * (s + page_count t s)
      below = omega (arith, there, M.reach)

      pub loop_turn : Turn p size end q at now
      loop_turn = record { asked = loop_asked; on = omega (arith, there); whole = omega (arith, M.words, M.reach, freed_whole p t b s M.sweepable fit at next.low below (next.freed below)) }

      pub loop_next : {then : List ℕ} → then ≡ write_run with_bit (pointer_part * (page_words * p) + at) size (λ i. false) now → Cleared p t b s (at + size) then
      loop_next {then} f = rw M.words (cleared_on p t b s M.sweepable fit at now then next below (rw M.words at f))
