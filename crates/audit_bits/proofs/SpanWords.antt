-- Where word o of a span stands, by its offset and the words of an element alone; and with that: the rules of the span at each of its words are
-- what the audit says of them.
use Prim.Native.Nat.{ℕ, zero, suc, ◌+◌, ◌-◌, ◌*◌, ◌/◌, ◌%◌, ◌<◌, ◌≤◌}
use mathlib.Core.Bool.{Bool, true, false, not, ◌&&◌}
use mathlib.Core.List.{List}
use mathlib.Core.Logic.{◌≢◌, ◌⊎◌, inl, inr}
use mathlib.Core.Path.{◌≡◌, refl, sym, ◌∙◌}
use native.Mathlib.Omega.{arith}
use native.Mathlib.Nat.{div-add-mod', div-lt_iff_lt-mul, zero-mod, mod-lt, mod-eq_of_lt, mul-add-mod_self_right}
use lib.Dec.{T, eqb, ltb}
use borrow.Author.Tests.{eqb-true, eqb-false, ne_eqb, eq-eqb}
use Rattle.model.specs.Memory.{page_words, first_word, off, mark, sweep}
use Rattle.model.specs.Bitmaps.{allocated, marked, gray, pointer}
use Rattle.model.specs.Spans.{owner, page_count, is_scan, is_unswept, span_of, element_of, element_number, element_words, elements}
use Rattle.model.proofs.Tests.{and_iff, or_iff, eqb_iff, ltb_iff, of_true}
use Rattle.model.proofs.Rules.{tests}
use Rattle.model.specs.Facts.{Spans, IsSpan, InElement, Element, bit, scan_at, unswept_at}
use Rattle.model.proofs.Spans.{at_home, fits}
use Rattle.audit_bits.specs.Rules.{bare, keeps, marks_stand, allowed_in, word_rule}
use Rattle.audit_bits.proofs.Words.{WordBits}

-- the rules for word o of the span at page s
abbrev pub rule_at : ℕ → ℕ → List ℕ → List ℕ → ℕ → ℕ → Bool
rule_at P phase t b s =
    word_rule P b (first_word s) (element_words t s) (elements t s * element_words t s) (allowed_in phase (is_scan t s) (is_unswept t s))

-- the word before one that is not an element's first lies in the same element
before_mod : (o n r : ℕ) → 0 < n → o % n ≡ suc r → (o - 1) % n ≡ r
before_mod o n r h e =
    let m = mod-lt o h in
    let d : o - 1 ≡ o / n * n + r = omega (arith, div-add-mod' o n) in
    rw (d, mul-add-mod_self_right (o / n) n r) (mod-eq_of_lt {n = r} {m = n} (omega arith))

-- the rules of a word, as facts
record Kept (a m g q start inside marks grays scan follows : Bool) : Type 0 where
  starts : T a → T start
  marked : T m → T a × T marks
  grayed : T g → T m × T grays
  lies : T q → T inside × T scan
  head : T a → T scan → T q
  first : T q → T start → T a
  next : T q → T (not start) → T follows

module _ {a m g q start inside marks grays scan follows : Bool} where
  keeps_facts : T (keeps a m g q start inside marks grays scan follows) → Kept a m g q start inside marks grays scan follows
  unfolding keeps
  keeps_facts t =
      let k = simp tests at t in
      record {
        starts = k.0.0.0;
        marked = k.0.0.1;
        grayed = k.0.1;
        lies = k.1.0.0.0;
        head = λ x y. k.1.0.0.1 (x, y);
        first = λ x y. (k.1.0.1 (x, y)).0;
        next = λ x y. k.1.1 (x, y);
      }

  facts_keeps : Kept a m g q start inside marks grays scan follows → T (keeps a m g q start inside marks grays scan follows)
  unfolding keeps
  facts_keeps k =
      simp tests (((k.starts, k.marked), k.grayed), (((k.lies, λ x. k.head x.0 x.1), λ x. (k.first x.0 x.1, (k.lies x.0).1)), λ x. k.next x.0 x.1))

-- where marks may stand
marks_facts : (phase : ℕ) (u : Bool) → T (marks_stand phase u) → (phase ≢ off) × (phase ≡ sweep → T u)
marks_facts phase u t = go ((or_iff (eqb phase mark) (eqb phase sweep && u)).0 t)
  where
    go : (T (eqb phase mark) ⊎ T (eqb phase sweep && u)) → (phase ≢ off) × (phase ≡ sweep → T u)
    go (inl x) = let e : phase ≡ mark = (eqb_iff phase mark).0 x in (omega arith, λ z. absurd (omega arith))
    go (inr x) = let y = (and_iff (eqb phase sweep) u).0 x in let e : phase ≡ sweep = (eqb_iff phase sweep).0 y.0 in (omega arith, λ z. y.1)

facts_marks : (phase : ℕ) (u : Bool) → phase ≤ sweep → phase ≢ off → (phase ≡ sweep → T u) → T (marks_stand phase u)
facts_marks phase u l d f = (or_iff (eqb phase mark) (eqb phase sweep && u)).1 (go (eqb phase sweep) refl)
  where
    go : (c : Bool) → eqb phase sweep ≡ c → T (eqb phase mark) ⊎ T (c && u)
    go true e = inr (f (eqb-true phase sweep e))
    go false e = inl ((eqb_iff phase mark).1 (omega (arith, eqb-false phase sweep e)))

module _ {P : ℕ} {t : List ℕ} (F : Spans P t) (s : ℕ) (i : IsSpan t s) where
  -- word o of the span
  module _ (o : ℕ) (l : o < page_words * page_count t s) where
    abbrev w : ℕ
    w = page_words * s + o

    here : (owner t (w / page_words) ≡ s + 1) × (span_of t w ≡ s)
    here = at_home F s w i (omega arith) (omega arith)

    number : element_number t s w ≡ o / element_words t s
    unfolding element_number
    number = let e : w - page_words * s ≡ o = omega arith in rw e

    -- the element around it
    around : element_of t w ≡ page_words * s + o / element_words t s * element_words t s
    around = rw (here.1, number)

    within : o < elements t s * element_words t s → InElement t w
    within h = record { used = omega (arith, here.0); number = rw (here.1, number) ((div-lt_iff_lt-mul (fits F s i).words).1 h) }

    within_held : InElement t w → o < elements t s * element_words t s
    within_held E = (div-lt_iff_lt-mul (fits F s i).words).0 (rw (here.1, number) at E.number)

    first_word_lem : o % element_words t s ≡ 0 → element_of t w ≡ w
    first_word_lem z = around ∙ omega (arith, div-add-mod' o (element_words t s))

    first_mod : element_of t w ≡ w → o % element_words t s ≡ 0
    first_mod e = omega (arith, div-add-mod' o (element_words t s), around)

  module _ (phase : ℕ) (b : List ℕ) where
    abbrev alloc : ℕ → Bool
    alloc o = bit P allocated b (page_words * s + o)

    abbrev point : ℕ → Bool
    point o = bit P pointer b (page_words * s + o)

    -- every word of the span keeps its rules
    module _ (K : (o : ℕ) → o < page_words * page_count t s → T (rule_at P phase t b s o)) where
      kept : (o : ℕ) → o < page_words * page_count t s →
          Kept (bit P allocated b (page_words * s + o)) (bit P marked b (page_words * s + o)) (bit P gray b (page_words * s + o)) (bit P pointer b (page_words * s + o))
          (eqb (o % element_words t s) 0 && ltb o (elements t s * element_words t s)) (ltb o (elements t s * element_words t s))
          (marks_stand phase (is_unswept t s)) (eqb phase mark && is_scan t s) (is_scan t s) (ltb 0 o && bit P pointer b (page_words * s + (o - 1)))
      kept o l = keeps_facts (K o l)

      -- a pointer that is not at an element's start follows another
      follower : (o : ℕ) → o < page_words * page_count t s → o % element_words t s ≢ 0 → T (point o) → (0 < o) × T (point (o - 1))
      follower o l d q =
          let x = (and_iff (ltb 0 o) (point (o - 1))).0 ((kept o l).next q (rw (ne_eqb (o % element_words t s) 0 d) tt)) in
          ((ltb_iff 0 o).0 x.0, x.1)

      -- .. so the start of its element is allocated
      owned : (r o : ℕ) → o < page_words * page_count t s → o % element_words t s ≡ r → T (point o) → T (alloc (o - r))
      owned zero o l e q =
          let z : o - 0 ≡ o = omega arith in
          rw z ((kept o l).first q ((and_iff (eqb (o % element_words t s) 0) (ltb o (elements t s * element_words t s))).1 ((eqb_iff (o % element_words t s) 0).1 e, ((kept o l).lies q).0)))
      owned (suc r) o l e q =
          let x = follower o l (omega arith) q in
          let z : o - 1 - r ≡ o - suc r = omega arith in
          rw z at (owned r (o - 1) (omega arith) (before_mod o (element_words t s) r (fits F s i).words e) x.1)

      pub span_words : (o : ℕ) → o < page_words * page_count t s → WordBits P phase t b (page_words * s + o)
      span_words o l = record { element = element; marks = marks; grays = grays; pointers = pointers; head = head; unbroken = unbroken }
        where
          scan_at_lem : T (is_scan t s) → T (scan_at t (page_words * s + o))
          scan_at_lem x = rw (here o l).1 x

          element : T (alloc o) → Element t (page_words * s + o)
          element a =
              let x = (and_iff (eqb (o % element_words t s) 0) (ltb o (elements t s * element_words t s))).0 ((kept o l).starts a) in
              record { lies = within o l ((ltb_iff _ _).0 x.1); first = first_word_lem o l ((eqb_iff _ _).0 x.0) }

          marks : T (bit P marked b (page_words * s + o)) → T (alloc o) × (phase ≢ off) × (phase ≡ sweep → T (unswept_at t (page_words * s + o)))
          marks m =
              let x = (kept o l).marked m in
              let y = marks_facts phase (is_unswept t s) x.1 in
              (x.0, y.0, λ e. rw (here o l).1 (y.1 e))

          grays : T (bit P gray b (page_words * s + o)) → T (bit P marked b (page_words * s + o)) × T (scan_at t (page_words * s + o)) × (phase ≡ mark)
          grays g =
              let x = (kept o l).grayed g in
              let y = (and_iff (eqb phase mark) (is_scan t s)).0 x.1 in
              (x.0, scan_at_lem y.1, (eqb_iff phase mark).0 y.0)

          pointers : T (point o) → InElement t (page_words * s + o) × T (scan_at t (page_words * s + o)) × T (bit P allocated b (element_of t (page_words * s + o)))
          pointers q =
              let x = (kept o l).lies q in
              let e : element_of t (page_words * s + o) ≡ page_words * s + (o - o % element_words t s) = around o l ∙ omega (arith, div-add-mod' o (element_words t s)) in
              (within o l ((ltb_iff _ _).0 x.0), scan_at_lem x.1, rw e (owned (o % element_words t s) o l refl q))

          head : T (alloc o) → T (scan_at t (page_words * s + o)) → T (point o)
          head a x = (kept o l).head a (rw (here o l).1 at x)

          unbroken : T (point o) → element_of t (page_words * s + o) ≢ page_words * s + o → T (bit P pointer b (page_words * s + o - 1))
          unbroken q d =
              let x = follower o l (λ z. d (first_word_lem o l z)) q in
              let e : page_words * s + o - 1 ≡ page_words * s + (o - 1) = omega (arith, x.0) in
              rw e x.1

    -- and back, word by word
    pub words_span : phase ≤ sweep → (o : ℕ) → o < page_words * page_count t s → WordBits P phase t b (page_words * s + o) → T (rule_at P phase t b s o)
    words_span legal o l W = facts_keeps (record { starts = starts; marked = marking; grayed = grayed; lies = lies; head = head; first = first; next = next })
      where
        scan_of : T (scan_at t (page_words * s + o)) → T (is_scan t s)
        scan_of x = rw (here o l).1 at x

        starts : T (alloc o) → T (eqb (o % element_words t s) 0 && ltb o (elements t s * element_words t s))
        starts a =
            let E = W.element a in
            (and_iff (eqb (o % element_words t s) 0) (ltb o (elements t s * element_words t s))).1 ((eqb_iff _ _).1 (first_mod o l E.first), (ltb_iff _ _).1 (within_held o l E.lies))

        marking : T (bit P marked b (page_words * s + o)) → T (alloc o) × T (marks_stand phase (is_unswept t s))
        marking m = let x = W.marks m in (x.0, facts_marks phase (is_unswept t s) legal x.1 (λ e. rw (here o l).1 at (x.2 e)))

        grayed : T (bit P gray b (page_words * s + o)) → T (bit P marked b (page_words * s + o)) × T (eqb phase mark && is_scan t s)
        grayed g = let x = W.grays g in (x.0, (and_iff (eqb phase mark) (is_scan t s)).1 ((eqb_iff phase mark).1 x.2, scan_of x.1))

        lies : T (point o) → T (ltb o (elements t s * element_words t s)) × T (is_scan t s)
        lies q = let x = W.pointers q in ((ltb_iff _ _).1 (within_held o l x.0), scan_of x.1)

        head : T (alloc o) → T (is_scan t s) → T (point o)
        head a x = W.head a (rw (here o l).1 x)

        first : T (point o) → T (eqb (o % element_words t s) 0 && ltb o (elements t s * element_words t s)) → T (alloc o)
        first q x =
            let z = (eqb_iff (o % element_words t s) 0).0 ((and_iff (eqb (o % element_words t s) 0) (ltb o (elements t s * element_words t s))).0 x).0 in
            rw (first_word_lem o l z) at (W.pointers q).2

        next : T (point o) → T (not (eqb (o % element_words t s) 0 && ltb o (elements t s * element_words t s))) → T (ltb 0 o && point (o - 1))
        next q x = (and_iff (ltb 0 o) (point (o - 1))).1 ((ltb_iff 0 o).1 some, rw e at (W.unbroken q (λ z. inner (first_mod o l z))))
          where
            inner : o % element_words t s ≢ 0
            inner z = absurd (rw (eq-eqb (o % element_words t s) 0 z, of_true (ltb o (elements t s * element_words t s)) (lies q).0) at x)

            some : 0 < o
            some = go o refl
              where
                go : (k : ℕ) → k ≡ o → 0 < o
                go zero z = absurd (inner (rw (sym z) (zero-mod (element_words t s))))
                go (suc k) z = omega arith

            e : page_words * s + o - 1 ≡ page_words * s + (o - 1)
            e = omega (arith, some)

-- a free page
not_on : (c : Bool) → T (not c) → T c → ⊥
not_on true n y = n
not_on false n y = y

none : (c : Bool) → (T c → ⊥) → T (not c)
none true f = f tt
none false f = tt

module _ {P phase : ℕ} {t b : List ℕ} where
  pub bare_word : (w : ℕ) → T (bare P b w) → WordBits P phase t b w
  unfolding bare
  bare_word w x =
      let y = simp tests at x in
      record {
        element = λ a. absurd (not_on (bit P allocated b w) y.0.0.0 a);
        marks = λ m. absurd (not_on (bit P marked b w) y.0.0.1 m);
        grays = λ g. absurd (not_on (bit P gray b w) y.0.1 g);
        pointers = λ q. absurd (not_on (bit P pointer b w) y.1 q);
        head = λ a. absurd (not_on (bit P allocated b w) y.0.0.0 a);
        unbroken = λ q. absurd (not_on (bit P pointer b w) y.1 q);
      }

  pub word_bare : (w : ℕ) → owner t (w / page_words) ≡ 0 → WordBits P phase t b w → T (bare P b w)
  unfolding bare
  word_bare w e W = simp tests (((none (bit P allocated b w) alloc, none (bit P marked b w) mark), none (bit P gray b w) grayed), none (bit P pointer b w) point)
    where
      alloc : T (bit P allocated b w) → ⊥
      alloc a = omega (arith, (W.element a).lies.used)

      mark : T (bit P marked b w) → ⊥
      mark m = alloc (W.marks m).0

      grayed : T (bit P gray b w) → ⊥
      grayed g = mark (W.grays g).0

      point : T (bit P pointer b w) → ⊥
      point q = omega (arith, (W.pointers q).0.used)
