-- An element is allotted: the bits, the words and the facts of the audit afterwards. The page table may just have got the element's span.
use Prim.Native.Nat.{ℕ, ◌+◌, ◌-◌, ◌*◌, ◌/◌, ◌<◌, ◌≤◌}
use mathlib.Core.List.{List}
use mathlib.Core.Bool.{Bool, true, false, cond, ◌&&◌, and-false, true≢false}
use mathlib.Core.Logic.{◌⊎◌, inl, inr, ◌≢◌}
use mathlib.Core.Path.{◌≡◌, refl, sym, ◌∙◌}
use native.Mathlib.Omega.{arith}
use lib.ListN.{get_or, set, length-set}
use lib.Dec.{T, eqb, ltb, eqb→eq, ltb→lt}
use borrow.Author.Tests.{lt-ltb, lt-leb, eq-eqb, ne_eqb, eqb-true, eqb-false}
use Rattle.model.proofs.Named.{refers_over, address_refers}
use Rattle.model.specs.Memory.{Heap, lent, put_words, slot_at, address_of, phase, stack_count, slot_count, first_global, first_state, globals_state_at, phase_at, page_words, unswept_flag, off, mark, sweep, closed}
use Rattle.model.specs.Bitmaps.{Part, allocated, marked, gray, pointer, is}
use Rattle.model.specs.Spans.{owner, page_count, kind_entry, element_words, element_start, span_of, element_of, kept}
use Rattle.model.specs.Allocate.{new_bits}
use Rattle.model.proofs.Tests.{of_true, is_true, clash, and_iff}
use Rattle.model.proofs.Bounded.{within, within_yes, within_true}
use Rattle.model.proofs.Words.{set_at, words_at_lem, words_length}
use Rattle.model.proofs.Bitmaps.{same_part}
use Rattle.model.specs.Facts.{Spans, IsSpan, InElement, Element, Sized, Audited, Bits, Phases, References, Reference, States, Occupied, bit, scan_at, unswept_at, kept_at}
use Rattle.model.proofs.Spans.{span_of_lem, in_span, spans_apart, elements_apart, element_fits, element_word, element_at, fits, whole}
use Rattle.model.proofs.Effects.{new_length, new_at}
use Rattle.keeps.proofs.Tables.{Chosen}

-- the heap after the element of n words at word w was allotted, with p pointers, into slot i of stack s
abbrev pub allotted : (s i w n p : ℕ) → Heap → Heap
allotted s i w n p h = lent h.pages (put_words w n (λ v. 0) h.arena) h.table (new_bits h w p) (set h.roots (slot_at s i) (address_of w))

cond_split : (c x : Bool) → T (cond c true x) → T c ⊎ T x
cond_split true x t = inl tt
cond_split false x t = inr t

cond_more : (c x : Bool) → T x → T (cond c true x)
cond_more true x t = tt
cond_more false x t = t

cond_hit : (c x : Bool) → T c → T (cond c true x)
cond_hit true x t = tt
cond_hit false x t = absurd t

-- element k of the span at page r
module _ {P : ℕ} {t b : List ℕ} (F : Spans P t) (C : Bits P t b) {r k p : ℕ} (S : Chosen P t b r k p) where
  pub ends : (0 < element_words t r) × (element_start t r k + element_words t r ≤ page_words * P)
  ends = ((fits F r S.span).words, omega (arith, element_fits F r k S.span S.number, F.inside r S.span))

  pub here : (v : ℕ) → element_start t r k ≤ v → v < element_start t r k + element_words t r →
      (owner t (v / page_words) ≡ r + 1) × (span_of t v ≡ r) × (element_of t v ≡ element_start t r k)
  here v x y = let e = element_word F r k v S.span S.number x y in (e.0, e.1, e.3)

  -- no allocated element shares a word with the free one
  pub clear : (v : ℕ) → T (bit P allocated b v) → (v + element_words t (span_of t v) ≤ element_start t r k) ⊎ (element_start t r k + element_words t r ≤ v)
  clear v a = go (eqb (span_of t v) r) refl
    where
      E : Element t v
      E = C.element v a

      far : ((span_of t v + page_count t (span_of t v) ≤ r) ⊎ (r + page_count t r ≤ span_of t v)) →
          (v + element_words t (span_of t v) ≤ element_start t r k) ⊎ (element_start t r k + element_words t r ≤ v)
      far (inl x) = inl (omega (arith, whole F v E))
      far (inr x) = inr (omega (arith, element_fits F r k S.span S.number, in_span F v E.lies.used))

      other : v ≢ element_start t r k
      other e = clash (bit P allocated b v) (of_true _ a) (rw e S.free)

      go : (c : Bool) → eqb (span_of t v) r ≡ c → (v + element_words t (span_of t v) ≤ element_start t r k) ⊎ (element_start t r k + element_words t r ≤ v)
      go true e = let q = eqb-true (span_of t v) r e in rw q (elements_apart t r k v (rw q at E.first) other)
      go false e = far (spans_apart F (span_of t v) r (span_of_lem F v E.lies.used) S.span (eqb-false (span_of t v) r e))

  -- no pointer bit stands in the free element
  pub bare : (v : ℕ) → element_start t r k ≤ v → v < element_start t r k + element_words t r → bit P pointer b v ≡ false
  bare v x y = go (bit P pointer b v) refl
    where
      go : (c : Bool) → bit P pointer b v ≡ c → c ≡ false
      go true e = absurd (true≢false (sym (of_true _ (rw (here v x y).2 at (C.pointers v (is_true _ e)).2)) ∙ S.free))
      go false e = refl

-- the facts after it
module _ {h : Heap} (Z : Sized h) (F : Spans h.pages h.table) (C : Bits h.pages h.table h.bits) {r k p : ℕ}
    (S : Chosen h.pages h.table h.bits r k p)
    (s i : ℕ) (hs : s < stack_count) (hi : i < slot_count) where
  abbrev P : ℕ
  P = h.pages

  abbrev t : List ℕ
  t = h.table

  abbrev n : ℕ
  n = element_words h.table r

  abbrev w : ℕ
  w = element_start h.table r k

  abbrev b' : List ℕ
  b' = new_bits h (element_start h.table r k) p

  abbrev after : Heap
  after = allotted s i (element_start h.table r k) (element_words h.table r) p h

  at : (q : Part) (v : ℕ) → bit P q b' v ≡
      cond (eqb (phase h) mark && (same_part q marked && eqb v w)) true
      (cond (same_part q pointer && within w p v) true (cond (same_part q allocated && eqb v w) true (is q h v)))
  at = new_at h w p Z (omega (arith, ends F C S)) (omega (arith, ends F C S, S.pointers))

  pub allotted_a : (v : ℕ) → bit h.pages allocated (new_bits h (element_start h.table r k) p) v ≡ cond (eqb v (element_start h.table r k)) true (is allocated h v)
  allotted_a v = rw (at allocated v, and-false (eqb (phase h) mark))

  pub allotted_m : (v : ℕ) → bit h.pages marked (new_bits h (element_start h.table r k) p) v ≡ cond (eqb (phase h) mark && eqb v (element_start h.table r k))
      true (is marked h v)
  allotted_m v = at marked v

  pub allotted_g : (v : ℕ) → bit h.pages gray (new_bits h (element_start h.table r k) p) v ≡ is gray h v
  allotted_g v = rw (at gray v, and-false (eqb (phase h) mark))

  pub allotted_p : (v : ℕ) → bit h.pages pointer (new_bits h (element_start h.table r k) p) v ≡ cond (within (element_start h.table r k) p v) true (is pointer h v)
  allotted_p v = rw (at pointer v, and-false (eqb (phase h) mark))

  pub allotted_word : (x : ℕ) → get_or (put_words (element_start h.table r k) (element_words h.table r) (λ v. 0) h.arena) x 0 ≡ cond
      (within (element_start h.table r k) (element_words h.table r) x) 0 (get_or h.arena x 0)
  allotted_word = words_at_lem (page_words * P) w n (λ v. 0) h.arena (ends F C S).1 Z.arena

  on : T (bit P allocated b' w)
  on = rw (allotted_a w) (cond_hit (eqb w w) (is allocated h w) (is_true _ (eq-eqb w w refl)))

  more_a : (v : ℕ) → T (is allocated h v) → T (bit P allocated b' v)
  more_a v a = rw (allotted_a v) (cond_more (eqb v w) (is allocated h v) a)

  more_p : (v : ℕ) → T (is pointer h v) → T (bit P pointer b' v)
  more_p v a = rw (allotted_p v) (cond_more (within w p v) (is pointer h v) a)

  new_p : (v : ℕ) → w ≤ v → v < w + p → T (bit P pointer b' v)
  new_p v a c = rw (allotted_p v, within_yes w p v a c) tt

  was_a : (v : ℕ) → T (bit P allocated b' v) → (v ≡ w) ⊎ T (is allocated h v)
  was_a v a = go (cond_split (eqb v w) (is allocated h v) (rw (allotted_a v) at a))
    where
      go : (T (eqb v w) ⊎ T (is allocated h v)) → (v ≡ w) ⊎ T (is allocated h v)
      go (inl e) = inl (eqb→eq v w e)
      go (inr x) = inr x

  was_p : (v : ℕ) → T (bit P pointer b' v) → ((w ≤ v) × (v < w + p)) ⊎ T (is pointer h v)
  was_p v a = go (cond_split (within w p v) (is pointer h v) (rw (allotted_p v) at a))
    where
      go : (T (within w p v) ⊎ T (is pointer h v)) → ((w ≤ v) × (v < w + p)) ⊎ T (is pointer h v)
      go (inl e) = inl (within_true w p v (of_true _ e))
      go (inr x) = inr x

  -- the new element's words
  mine : (v : ℕ) → w ≤ v → v < w + n → (owner t (v / page_words) ≡ r + 1) × (span_of t v ≡ r) × (element_of t v ≡ w)
  mine = here F C S

  start_w : (w ≤ w) × (w < w + n)
  start_w = (omega arith, omega (arith, ends F C S))

  my_scan : (v : ℕ) → w ≤ v → v < w + n → scan_at t v ≡ ltb 0 p
  my_scan v a c = rw (mine v a c).1 S.scan

  new_element : Element t w
  new_element = element_at F r k S.span S.number

  allotted_bits : Bits P t b'
  allotted_bits = record {
    element = λ v a. elem v (was_a v a);
    marks = λ v m. marks v (cond_split (eqb (phase h) mark && eqb v w) (is marked h v) (rw (allotted_m v) at m));
    grays = λ v g. let f = C.grays v (rw (allotted_g v) at g) in (rw (allotted_m v) (cond_more (eqb (phase h) mark && eqb v w) (is marked h v) f.0), f.1);
    pointers = λ v q. ptrs v (was_p v q);
    head = λ v a c. heads v c (was_a v a);
    unbroken = λ v q l. runs v l (was_p v q);
  }
    where
      elem : (v : ℕ) → ((v ≡ w) ⊎ T (is allocated h v)) → Element t v
      elem v (inl e) = rw e new_element
      elem v (inr a) = C.element v a

      marks : (v : ℕ) → (T (eqb (phase h) mark && eqb v w) ⊎ T (is marked h v)) → T (bit P allocated b' v)
      marks v (inl e) = rw (eqb→eq v w ((and_iff (eqb (phase h) mark) (eqb v w)).0 e).1) on
      marks v (inr m) = more_a v (C.marks v m)

      ptrs : (v : ℕ) → (((w ≤ v) × (v < w + p)) ⊎ T (is pointer h v)) → InElement t v × T (scan_at t v) × T (bit P allocated b' (element_of t v))
      ptrs v (inl c) =
          let l : v < w + n = omega (arith, S.pointers) in
          let z : w + (v - w) ≡ v = omega arith in (
            rw z at (Rattle.model.proofs.Spans.own_word F w (v - w) new_element (rw (mine w start_w.0 start_w.1).1 (omega arith))).2,
            rw (my_scan v c.0 l) (is_true _ (lt-ltb 0 p (omega arith))),
            rw (mine v c.0 l).2 on,
          )
      ptrs v (inr q) = let f = C.pointers v q in (f.0, f.1, more_a (element_of t v) f.2)

      heads : (v : ℕ) → T (scan_at t v) → ((v ≡ w) ⊎ T (is allocated h v)) → T (bit P pointer b' v)
      heads v c (inl e) = rw e (new_p w (omega arith) (omega (arith, ltb→lt 0 p (rw (my_scan w start_w.0 start_w.1) at (rw e at c)))))
      heads v c (inr a) = more_p v (C.head v a c)

      runs : (v : ℕ) → element_of t v ≢ v → (((w ≤ v) × (v < w + p)) ⊎ T (is pointer h v)) → T (bit P pointer b' (v - 1))
      runs v d (inl c) = let e = (mine v c.0 (omega (arith, S.pointers))).2 in let x : v ≢ w = λ y. d (e ∙ sym y) in new_p (v - 1) (omega arith) (omega arith)
      runs v d (inr q) = more_p (v - 1) (C.unbroken v q d)

  allotted_phases : Phases P (phase h) t h.bits → Phases P (phase h) t b'
  allotted_phases Q = record {
    none = λ e v. rw (allotted_m v, other off e (omega arith)) (Q.none e v);
    swept = Q.swept;
    plain = λ d v. rw (allotted_g v) (Q.plain d v);
    unswept = λ e v m. Q.unswept e v (rw (allotted_m v, other sweep e (omega arith)) at m);
  }
    where
      other : (x : ℕ) → phase h ≡ x → x ≢ mark → eqb (phase h) mark ≡ false
      other x e d = ne_eqb (phase h) mark (λ q. d (sym e ∙ q))

  -- what was kept is kept; a kept element is the new one or was kept
  kept_more : (v : ℕ) → T (kept h v) → T (kept_at P t b' v)
  kept_more v = go (unswept_at t v)
    where
      go : (c : Bool) → T (cond c (is marked h v) (is allocated h v)) → T (cond c (bit P marked b' v) (bit P allocated b' v))
      go true m = rw (allotted_m v) (cond_more (eqb (phase h) mark && eqb v w) (is marked h v) m)
      go false a = more_a v a

  kept_was : (v : ℕ) → v ≢ w → T (kept_at P t b' v) → T (kept h v)
  kept_was v d = go (unswept_at t v)
    where
      go : (c : Bool) → T (cond c (bit P marked b' v) (bit P allocated b' v)) → T (cond c (is marked h v) (is allocated h v))
      go true m = rw (allotted_m v, ne_eqb v w d, and-false (eqb (phase h) mark)) at m
      go false a = rw (allotted_a v, ne_eqb v w d) at a

  refers_more : (a : ℕ) → Reference P t h.bits a → Reference P t b' a
  refers_more = refers_over P t t h.bits b' kept_more

  -- the new element is kept
  new_kept : T (kept_at P t b' w)
  new_kept = rw ((mine w start_w.0 start_w.1).1, lt-leb unswept_flag (kind_entry t r) S.swept) on

  roots_at : (x : ℕ) → get_or after.roots x 0 ≡ cond (eqb x (slot_count * s + i)) (address_of w) (get_or h.roots x 0)
  roots_at x = set_at h.roots (slot_count * s + i) (address_of w) (omega (arith, Z.roots)) x

  allotted_references : References h → References after
  allotted_references H = record {
    root = λ x l. rw (roots_at x) (root x l (eqb x (slot_count * s + i)));
    content = λ v q kp. ptr v (was_p v q) kp;
  }
    where
      root : (x : ℕ) → x < first_state → (c : Bool) → Reference P t b' (cond c (address_of w) (get_or h.roots x 0))
      root x l true = address_refers P t b' w new_kept
      root x l false = refers_more (get_or h.roots x 0) (H.root x l)

      ptr : (v : ℕ) → (((w ≤ v) × (v < w + p)) ⊎ T (is pointer h v)) → T (kept_at P t b' (element_of t v)) → Reference P t b' (get_or after.arena v 0)
      ptr v (inl c) kp = inl (rw (allotted_word v, within_yes w n v c.0 (omega (arith, S.pointers))))
      ptr v (inr q) kp = rw (allotted_word v) (go (within w n v))
        where
          go : (c : Bool) → Reference P t b' (cond c 0 (get_or h.arena v 0))
          go true = inl refl
          go false = refers_more (get_or h.arena v 0)
              (H.content v q (kept_was (element_of t v) (λ x. true≢false (sym (of_true _ (rw x at (C.pointers v q).2)) ∙ S.free)) kp))

  allotted_states : get_or h.roots (first_state + s) 0 ≢ closed → States h.roots → States after.roots
  allotted_states o G = record {
    phase = rw (rest phase_at (omega arith)) G.phase;
    legal = λ x l. rw (rest (first_state + x) (omega arith), rest phase_at (omega arith)) (G.legal x l);
    globals = rw (rest globals_state_at (omega arith), rest phase_at (omega arith)) G.globals;
    closed = λ x j l m e. let e' = rw (rest (first_state + x) (omega arith)) at e in
        rw (roots_at (slot_count * x + j), ne_eqb (slot_count * x + j) (slot_count * s + i) (λ y. other x j m e' (omega arith))) (G.closed x j l m e');
  }
    where
      rest : (x : ℕ) → first_global ≤ x → get_or after.roots x 0 ≡ get_or h.roots x 0
      rest x l = rw (roots_at x, ne_eqb x (slot_count * s + i) (omega arith))

      other : (x j : ℕ) → j < slot_count → get_or h.roots (first_state + x) 0 ≡ closed → x ≢ s
      other x j l e q = o (rw q at e)

  allotted_occupied : ((x : ℕ) → IsSpan t x → x ≢ r → (v : ℕ) × T (is allocated h v) × (span_of t v ≡ x)) → Occupied P t b'
  allotted_occupied G x e = go (eqb x r) refl
    where
      go : (c : Bool) → eqb x r ≡ c → (v : ℕ) × T (bit P allocated b' v) × (span_of t v ≡ x)
      go true q = (w, on, (mine w start_w.0 start_w.1).1 ∙ sym (eqb-true x r q))
      go false q = let f = G x e (eqb-false x r q) in (f.0, more_a f.0 f.1, f.2)

  pub allotted_kept : Phases h.pages (phase h) h.table h.bits → References h → States h.roots → get_or h.roots (first_state + s) 0 ≢ closed →
      ((x : ℕ) → IsSpan h.table x → x ≢ r → (v : ℕ) × T (is allocated h v) × (span_of h.table v ≡ x)) →
      Audited (allotted s i (element_start h.table r k) (element_words h.table r) p h)
  allotted_kept Q H G o N = record {
    sized = record {
      low = Z.low;
      high = Z.high;
      arena = words_length (page_words * P) w n (λ v. 0) h.arena (ends F C S).1 Z.arena;
      table = Z.table;
      bits = new_length h w p Z (omega (arith, ends F C S)) (omega (arith, ends F C S, S.pointers)) ∙ Z.bits;
      roots = length-set h.roots (slot_count * s + i) (address_of w) ∙ Z.roots;
    };
    spans = F;
    bits = allotted_bits;
    phases = rw same (allotted_phases Q);
    references = allotted_references H;
    states = allotted_states o G;
    occupied = allotted_occupied N;
  }
    where
      same : get_or (set h.roots (slot_count * s + i) (address_of w)) phase_at 0 ≡ get_or h.roots phase_at 0
      same = rw (roots_at phase_at, ne_eqb phase_at (slot_count * s + i) (omega arith))
