-- The sweep of one span: its bitmaps, and what the two counts of bits say of its elements.
use Prim.Native.Nat.{ℕ, suc, ◌+◌, ◌-◌, ◌*◌, ◌<◌, ◌≤◌}
use mathlib.Core.Bool.{Bool, true, false, not, ◌&&◌}
use mathlib.Core.List.{List}
use mathlib.Core.Logic.{◌≢◌}
use mathlib.Core.Path.{◌≡◌, refl, sym, ◌∙◌, ap}
use native.Mathlib.Nat.{suc-mul, mul-le-mul_right}
use native.Mathlib.Omega.{arith}
use lib.Dec.{T, eqb}
use borrow.Author.Tests.{eq-eqb, ne_eqb}
use Rattle.model.specs.Bounded.{count_below, write_run}
use Rattle.model.specs.Memory.{lent, page_words, word_bits, page_blocks, marked_part}
use Rattle.model.specs.Bitmaps.{Part, bit_at, with_bit, allocated, marked}
use Rattle.model.specs.Spans.{page_count, element_words, elements, element_start, element_number, kind_at, put_page, put_pages, span_page, free_page}
use Rattle.model.specs.Cycle.{freed_count, nothing_left, swept_table, swept_bits}
use Rattle.model.proofs.Tests.{is_true}
use Rattle.model.proofs.Spans.{start_in, start_is, at_home, fits}
use Rattle.model.specs.Facts.{bit}
use Rattle.bitmap_range.proofs.Parts.{swept_parts, part_count}
use Rattle.bitmap_range.specs.Moved.{moved_words}
use Rattle.page_table.specs.declared.Span.{Span}
use Rattle.span_sweep.specs.Needs.{Sweepable, SpanRead, SweepsSpan, cleared_bits}
use Rattle.span_sweep.proofs.Counts.{count_elements, count_split, none_counted}
use Rattle.span_sweep.proofs.Bounds.{bounds}
use Rattle.span_sweep.proofs.Pointers.{stays}

module _ (p : ℕ) (t b : List ℕ) (s : ℕ) (S : Sweepable p t b s) where
  -- pointer bits of freed elements went, then words of marks were moved, from word `marks` on to word `first` on
  pub swept_words : (first marks : ℕ) → first ≡ page_blocks * s → marks ≡ marked_part * (page_blocks * p) + first → (c : List ℕ) {then : List ℕ} {n : ℕ} → n ≡ page_count t s → c ≡ cleared_bits p t b s →
      then ≡ write_run with_bit (marks * word_bits) (page_blocks * n * word_bits) (λ i. false)
      (write_run with_bit (first * word_bits) (page_blocks * n * word_bits) (λ i. bit_at c (i - first * word_bits + marks * word_bits)) c) →
      (a roots : List ℕ) → then ≡ swept_bits (lent p a t b roots) s
  unfolding swept_bits
  swept_words first marks h m c k e f a roots =
      (rw (k, m, h) at f) ∙ rw e (sym (swept_parts (page_words * p) (page_words * s) (page_words * page_count t s) (stays p t b s) b (omega (arith, bounds S)) (omega (arith, S.consistent.bits)) (page_blocks * s) (marked_part * (page_blocks * p) + page_blocks * s) (page_blocks * page_count t s) (omega arith) (omega arith) (omega arith)))

  -- the bits of a part that stand at allocated elements alone, counted over the span's words
  module _ (q : Part) (only : (w : ℕ) → T (bit p q b w) → T (bit p allocated b w)) where
    start : (w : ℕ) → page_words * s ≤ w → w < page_words * (s + page_count t s) → bit p q b w ≡ true → (start_in t s w ≡ w) × (element_number t s w < elements t s)
    start w l m e =
        let E = S.consistent.rules.element w (only w (is_true _ e)) in
        let h = (at_home S.consistent.spans s w S.starts l m).1 in
        (rw h at E.first, rw h at E.lies.number)

    inner : (k j : ℕ) → k < elements t s → 0 < j → j < element_words t s → bit p q b (page_words * s + (k * element_words t s + j)) ≡ false
    inner k j l h i = go (bit p q b (page_words * s + (k * element_words t s + j))) refl
      where
        last : (suc k) * element_words t s ≤ elements t s * element_words t s
        last = mul-le-mul_right (element_words t s) l

        go : (c : Bool) → bit p q b (page_words * s + (k * element_words t s + j)) ≡ c → c ≡ false
        go false e = refl
        go true e =
            let w = page_words * s + (k * element_words t s + j) in
            let room : w < page_words * (s + page_count t s) = omega (arith, rw (suc-mul k (element_words t s)) at last, (fits S.consistent.spans s S.starts).inside) in
            let x = (start w (omega arith) room e).0 in
            let y = start_is t s k w (omega arith) (omega arith) in
            absurd (omega (arith, x, y))

    behind : (i : ℕ) → elements t s * element_words t s ≤ i → i < page_words * page_count t s → bit p q b (page_words * s + i) ≡ false
    behind i l h = go (bit p q b (page_words * s + i)) refl
      where
        go : (c : Bool) → bit p q b (page_words * s + i) ≡ c → c ≡ false
        go false e = refl
        go true e =
            let x = start (page_words * s + i) (omega arith) (omega arith) e in
            let n = element_number t s (page_words * s + i) in
            absurd (omega (arith, x.0, rw (suc-mul n (element_words t s)) at (mul-le-mul_right (element_words t s) x.1), (fits S.consistent.spans s S.starts).words))

    pub part_counted : count_below (page_words * page_count t s) (λ j. bit p q b (page_words * s + j)) ≡ count_below (elements t s) (λ k. bit p q b (element_start t s k))
    part_counted =
        count_elements (page_words * page_count t s) (element_words t s) (elements t s) (λ j. bit p q b (page_words * s + j)) (fits S.consistent.spans s S.starts).words
        (fits S.consistent.spans s S.starts).inside inner behind

  -- what two counts of the bits of the span's words say
  pub record SpanCounts (all kept : ℕ) : Type 0 where
    pub less : kept ≤ all
    pub freed : (a roots : List ℕ) → all - kept ≡ freed_count (lent p a t b roots) s
    pub left : (a roots : List ℕ) → nothing_left (lent p a t b roots) s ≡ eqb kept 0

  pub counted : (all kept n first marks : ℕ) → n ≡ page_count t s → first ≡ page_blocks * s → marks ≡ marked_part * (page_blocks * p) + first →
      all ≡ count_below (page_blocks * n * word_bits) (λ k. bit_at b (first * word_bits + k)) →
      kept ≡ count_below (page_blocks * n * word_bits) (λ k. bit_at b (marks * word_bits + k)) → SpanCounts all kept
  unfolding freed_count nothing_left
  counted all kept n first marks c h m e f = record { less = omega (arith, x, y, z); freed = λ a roots. omega (arith, x, y, z); left = λ a roots. none_counted (elements t s) (λ k. bit p marked b (element_start t s k)) ∙ ap (λ n. eqb n 0) (sym y) }
    where
      words : page_blocks * n * word_bits ≡ page_words * page_count t s
      words = omega (arith, c)

      x : all ≡ count_below (elements t s) (λ k. bit p allocated b (element_start t s k))
      x = let here : first * word_bits ≡ page_words * s = omega (arith, h) in
          (rw (words, here) at e) ∙ sym (part_count (page_words * p) allocated (page_words * s) (page_words * page_count t s) b (omega (arith, bounds S))) ∙ part_counted allocated (λ w a. a)

      y : kept ≡ count_below (elements t s) (λ k. bit p marked b (element_start t s k))
      y = let here : marks * word_bits ≡ marked_part * (page_words * p) + page_words * s = omega (arith, h, m) in
          (rw (words, here) at f) ∙ sym (part_count (page_words * p) marked (page_words * s) (page_words * page_count t s) b (omega (arith, bounds S))) ∙ part_counted marked S.consistent.rules.marks

      z : count_below (elements t s) (λ k. bit p allocated b (element_start t s k)) ≡
          count_below (elements t s) (λ k. bit p allocated b (element_start t s k) && not (bit p marked b (element_start t s k))) + count_below (elements t s) (λ k. bit p marked b (element_start t s k))
      z = count_split (elements t s) (λ k. bit p allocated b (element_start t s k)) (λ k. bit p marked b (element_start t s k)) (λ k l. S.consistent.rules.marks (element_start t s k))

  -- nothing is left: the pages become free
  pub span_freed : {all kept n : ℕ} {table bits : List ℕ} → SpanCounts all kept → kept ≡ 0 → n ≡ page_count t s → table ≡ put_pages s n (λ g. free_page) t →
      ((a roots : List ℕ) → bits ≡ swept_bits (lent p a t b roots) s) → (a roots : List ℕ) → SweepsSpan (lent p a t b roots) s (record { freed = all - kept; returned = n }) table bits
  unfolding swept_table
  span_freed {all} {kept} {n} {table} {bits} C e i f g a roots =
      let z : nothing_left (lent p a t b roots) s ≡ true = C.left a roots ∙ eq-eqb kept 0 e in
      record { freed = C.freed a roots; returned = rw z i; table = rw z (f ∙ rw i); bits = g a roots }

  -- something is left: the span becomes swept
  pub span_kept : {all kept : ℕ} {table bits : List ℕ} → SpanCounts all kept → kept ≢ 0 → table ≡ put_page s (span_page s (page_count t s) (kind_at t s) s) t →
      ((a roots : List ℕ) → bits ≡ swept_bits (lent p a t b roots) s) → (a roots : List ℕ) → SweepsSpan (lent p a t b roots) s (record { freed = all - kept; returned = 0 }) table bits
  unfolding swept_table
  span_kept {all} {kept} {table} {bits} C d f g a roots =
      let z : nothing_left (lent p a t b roots) s ≡ false = C.left a roots ∙ ne_eqb kept 0 d in
      record { freed = C.freed a roots; returned = rw z; table = rw z f; bits = g a roots }

-- The same of a span as it is read, by what the counts answer, what is left once it is cleared, and what is left of that once the marks are moved.
module _ {p : ℕ} {t b : List ℕ} {span : Span} (R : SpanRead p t b span) {first marks all kept : ℕ} (f : first ≡ page_blocks * span.start.0) (m : marks ≡ marked_part * (page_blocks * p) + first)
    (e : all ≡ count_below (page_blocks * span.pages * word_bits) (λ k. bit_at b (first * word_bits + k)))
    (g : kept ≡ count_below (page_blocks * span.pages * word_bits) (λ k. bit_at b (marks * word_bits + k))) where
  pub counts : SpanCounts p t b span.start.0 R.sweepable all kept
  counts = counted p t b span.start.0 R.sweepable all kept span.pages first marks R.reads.pages f m e g

  module _ {c bits : List ℕ} (cleared : c ≡ cleared_bits p t b span.start.0) (moved : bits ≡ moved_words first marks (page_blocks * span.pages) c) where
    swept : (a roots : List ℕ) → bits ≡ swept_bits (lent p a t b roots) span.start.0
    swept = swept_words p t b span.start.0 R.sweepable first marks f m c R.reads.pages cleared moved

    pub sweep_frees : {table : List ℕ} → kept ≡ 0 → table ≡ put_pages span.start.0 span.pages (λ g. free_page) t →
        (a roots : List ℕ) → SweepsSpan (lent p a t b roots) span.start.0 (record { freed = all - kept; returned = span.pages }) table bits
    sweep_frees {table} z h = span_freed p t b span.start.0 R.sweepable counts z R.reads.pages h swept

    pub sweep_keeps : {table : List ℕ} → kept ≢ 0 → table ≡ put_page span.start.0 (span_page span.start.0 (page_count t span.start.0) (kind_at t span.start.0) span.start.0) t →
        (a roots : List ℕ) → SweepsSpan (lent p a t b roots) span.start.0 (record { freed = all - kept; returned = 0 }) table bits
    sweep_keeps {table} d h = span_kept p t b span.start.0 R.sweepable counts d h swept
