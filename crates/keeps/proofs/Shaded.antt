-- Calls that shade keep the audit: one shading in the mark phase, many, a store with its barrier, scans, and mark steps. In the mark phase no span
-- is unswept, so kept means allocated, and shading changes no kept element.
use Prim.Native.Nat.{ℕ, zero, suc, ◌+◌, ◌-◌, ◌*◌, ◌<◌, ◌≤◌}
use mathlib.Core.List.{List}
use mathlib.Core.Bool.{Bool, true, false, not, cond, ◌&&◌, ◌||◌, or-true, true≢false}
use mathlib.Core.Logic.{◌⊎◌, inl, inr, ◌≢◌}
use mathlib.Core.Path.{◌≡◌, refl, sym, ◌∙◌}
use native.Mathlib.Omega.{arith}
use lib.ListN.{get_or, set, length-set}
use lib.Dec.{T, eqb, eqb→eq}
use borrow.Author.Tests.{eq-eqb, eqb-true, eqb-false}
use Rattle.model.specs.Memory.{Heap, with_arena, with_bits, set_root, slot, global, word, phase, state_at, global_at, stack_count, slot_count, global_count, first_global, first_state, globals_state_at, page_words, mark, closed}
use Rattle.model.specs.Bitmaps.{Part, allocated, marked, gray, pointer, is, put_bit}
use Rattle.model.specs.Spans.{element_of, span_of, kept, pointer_count, element_words, record_of}
use Rattle.model.specs.Shading.{shade, shade_all, barrier}
use Rattle.model.specs.Cycle.{scan, scan_record}
use Rattle.model.proofs.Tests.{is_true, of_true, and_iff, or_iff}
use Rattle.model.proofs.Words.{set_at}
use Rattle.model.proofs.Bitmaps.{same_part, part_at, part_length, bit_inside}
use Rattle.model.specs.Facts.{Audited, bit, scan_at, unswept_at, kept_at}
use Rattle.model.proofs.Facts.{four, not_unswept, pointer_word, no_pointer}
use Rattle.model.proofs.Named.{There, kept_element, reference_there, refers_over}
use Rattle.model.proofs.Shading.{shade_length, shade_marked, shade_gray, shade_other}
use Rattle.keeps.proofs.Roots.{Refers, global_kept, scanned_kept, globals_kept}

-- one value shaded in the mark phase
module _ {h : Heap} (F : Audited h) (one : phase h ≡ mark) (v : ℕ) (r : Refers h v) where
  abbrev t : List ℕ
  t = h.table

  abbrev P : ℕ
  P = h.pages

  abbrev b' : List ℕ
  b' = shade h.pages h.table v h.bits

  there : There P t v
  there = reference_there F.bits v r

  a_same : (w : ℕ) → bit P allocated b' w ≡ is allocated h w
  a_same = shade_other P t v h.bits there (four h F.sized) allocated refl refl

  p_same : (w : ℕ) → bit P pointer b' w ≡ is pointer h w
  p_same = shade_other P t v h.bits there (four h F.sized) pointer refl refl

  on_time : (w : ℕ) → unswept_at t w ≡ false
  on_time w = not_unswept F.spans F.phases (λ e. absurd (omega arith)) (span_of t w)

  kept_same : (w : ℕ) → kept_at P t b' w ≡ kept h w
  kept_same w = rw (on_time w) (a_same w)

  -- the shaded record is allocated
  target : v ≢ 0 → T (is allocated h (record_of t v))
  target d = (kept_element F.bits v d r).0

  pub shade_refers : (x : ℕ) → Refers h x → Refers (with_bits (shade h.pages h.table v h.bits) h) x
  shade_refers = refers_over P t t h.bits b' (λ w k. rw (kept_same w) k)

  m_is : (w : ℕ) → bit P marked b' w ≡ cond (eqb v 0) (is marked h w) (is marked h w || eqb w (record_of t v))
  m_is = shade_marked P t v h.bits there (four h F.sized)

  g_is : (w : ℕ) → bit P gray b' w ≡ cond (eqb v 0) (is gray h w) (is gray h w || (eqb w (record_of t v) && (not (is marked h w) && scan_at t w)))
  g_is = shade_gray P t v h.bits there (four h F.sized)

  more_m : (w : ℕ) → T (is marked h w) → T (bit P marked b' w)
  more_m w m = rw (m_is w) (go (eqb v 0))
    where
      go : (z : Bool) → T (cond z (is marked h w) (is marked h w || eqb w (record_of t v)))
      go true = m
      go false = (or_iff (is marked h w) (eqb w (record_of t v))).1 (inl m)

  pub shade_kept : Audited (with_bits (shade h.pages h.table v h.bits) h)
  shade_kept = record {
    sized = record {
      low = F.sized.low;
      high = F.sized.high;
      arena = F.sized.arena;
      table = F.sized.table;
      bits = shade_length P t v h.bits there (four h F.sized) ∙ F.sized.bits;
      roots = F.sized.roots;
    };
    spans = F.spans;
    bits = record {
      element = λ w x. F.bits.element w (rw (a_same w) at x);
      marks = λ w x. rw (a_same w) (marks w (eqb v 0) refl (rw (m_is w) at x));
      grays = λ w x. grays w (eqb v 0) refl (rw (g_is w) at x);
      pointers = λ w x. let f = F.bits.pointers w (rw (p_same w) at x) in (f.0, f.1, rw (a_same (element_of t w)) f.2);
      head = λ w x c. rw (p_same w) (F.bits.head w (rw (a_same w) at x) c);
      unbroken = λ w x l. rw (p_same (w - 1)) (F.bits.unbroken w (rw (p_same w) at x) l);
    };
    phases = record {
      none = λ e. absurd (omega arith);
      swept = F.phases.swept;
      plain = λ d. absurd (d one);
      unswept = λ e. absurd (omega arith);
    };
    references = record {
      root = λ x l. shade_refers (get_or h.roots x 0) (F.references.root x l);
      content = λ w x kp. shade_refers (get_or h.arena w 0) (F.references.content w (rw (p_same w) at x) (rw (kept_same (element_of t w)) at kp));
    };
    states = F.states;
    occupied = λ s e. let f = F.occupied s e in (f.0, rw (a_same f.0) f.1, f.2);
  }
    where
      marks : (w : ℕ) (z : Bool) → eqb v 0 ≡ z → T (cond z (is marked h w) (is marked h w || eqb w (record_of t v))) → T (is allocated h w)
      marks w true e x = F.bits.marks w x
      marks w false e x = go ((or_iff (is marked h w) (eqb w (record_of t v))).0 x)
        where
          go : (T (is marked h w) ⊎ T (eqb w (record_of t v))) → T (is allocated h w)
          go (inl m) = F.bits.marks w m
          go (inr q) = rw (eqb→eq w (record_of t v) q) (target (eqb-false v 0 e))

      hit : (w : ℕ) → eqb v 0 ≡ false → w ≡ record_of t v → T (bit P marked b' w)
      hit w e q = rw (m_is w, e, q, eq-eqb (record_of t v) (record_of t v) refl) (is_true _ (or-true (is marked h (record_of t v))))

      grays : (w : ℕ) (z : Bool) → eqb v 0 ≡ z → T (cond z (is gray h w) (is gray h w || (eqb w (record_of t v) && (not (is marked h w) && scan_at t w)))) →
          T (bit P marked b' w) × T (scan_at t w)
      grays w true e x = let f = F.bits.grays w x in (more_m w f.0, f.1)
      grays w false e x = go ((or_iff (is gray h w) (eqb w (record_of t v) && (not (is marked h w) && scan_at t w))).0 x)
        where
          go : (T (is gray h w) ⊎ T (eqb w (record_of t v) && (not (is marked h w) && scan_at t w))) → T (bit P marked b' w) × T (scan_at t w)
          go (inl g) = let f = F.bits.grays w g in (more_m w f.0, f.1)
          go (inr q) =
              let y = (and_iff (eqb w (record_of t v)) (not (is marked h w) && scan_at t w)).0 q in
              (hit w e (eqb→eq w (record_of t v) y.0), ((and_iff (not (is marked h w)) (scan_at t w)).0 y.1).1)

-- a word of the arena is set: the value is a reference, if a pointer stands there
pub arena_kept : {h : Heap} → Audited h → (w v : ℕ) → w < page_words * h.pages → (T (is pointer h w) → Refers h v) → Audited (with_arena (set h.arena w v) h)
arena_kept {h} F w v l r = record {
  sized = record {
    low = F.sized.low;
    high = F.sized.high;
    arena = length-set h.arena w v ∙ F.sized.arena;
    table = F.sized.table;
    bits = F.sized.bits;
    roots = F.sized.roots;
  };
  spans = F.spans;
  bits = F.bits;
  phases = F.phases;
  references = record {
    root = F.references.root;
    content = λ x p kp. rw (set_at h.arena w v (omega (arith, F.sized.arena)) x) (go x p kp (eqb x w) refl);
  };
  states = F.states;
  occupied = F.occupied;
}
  where
    go : (x : ℕ) → T (is pointer h x) → T (kept h (element_of h.table x)) → (b : Bool) → eqb x w ≡ b → Refers h (cond b v (get_or h.arena x 0))
    go x p kp true e = r (rw (eqb-true x w e) at p)
    go x p kp false e = F.references.content x p kp

-- the barrier: the bitmaps with the old and the new value shaded keep the audit, and what refers
pub barrier_kept : {h : Heap} → Audited h → (old new : ℕ) → Refers h old → Refers h new →
    Audited (with_bits (barrier h old new) h) × ((x : ℕ) → Refers h x → Refers (with_bits (barrier h old new) h) x)
unfolding barrier
barrier_kept {h} F old new ro rn = go (eqb (phase h) mark) refl
  where
    go : (b : Bool) → eqb (phase h) mark ≡ b →
        let m = cond b (shade h.pages h.table new (shade h.pages h.table old h.bits)) h.bits in
        Audited (with_bits m h) × ((x : ℕ) → Refers h x → Refers (with_bits m h) x)
    go true e =
        let one = eqb-true (phase h) mark e in
        let F₁ = shade_kept F one old ro in
        let r₁ = shade_refers F one old ro new rn in
        (shade_kept F₁ one new r₁, λ x y. shade_refers F₁ one new r₁ x (shade_refers F one old ro x y))
    go false e = (F, λ x y. y)

-- a store to a record, and to a global
pub store_kept : {h : Heap} → Audited h → (w v : ℕ) → w < page_words * h.pages → Refers h v → Refers h (word h w) →
    Audited (with_arena (set h.arena w v) (with_bits (barrier h (word h w) v) h))
store_kept {h} F w v l rv ro = let x = barrier_kept F (word h w) v ro rv in arena_kept x.0 w v l (λ _. x.1 v rv)

pub store_global_kept : {h : Heap} → Audited h → (g v : ℕ) → g < global_count → Refers h v → Audited (set_root (global_at g) v (with_bits (barrier h (global h g) v) h))
store_global_kept {h} F g v hg rv = let x = barrier_kept F (global h g) v (F.references.root (first_global + g) (omega arith)) rv in global_kept x.0 g v hg (x.1 v rv)

-- many values shaded, all of them references
pub all_kept : {h : Heap} → Audited h → phase h ≡ mark → (value : ℕ → ℕ) (n : ℕ) → ((k : ℕ) → k < n → Refers h (value k)) →
    Audited (with_bits (shade_all h.pages h.table n value h.bits) h) ×
    ((x : ℕ) → Refers h x → Refers (with_bits (shade_all h.pages h.table n value h.bits) h) x)
unfolding shade_all Rattle.model.specs.Bounded.fold_below
all_kept F one value zero r = (F, λ x y. y)
all_kept {h} F one value (suc n) r =
    let f = all_kept F one value n (λ k l. r k (omega arith)) in
    let q = f.1 (value n) (r n (omega arith)) in
    (shade_kept f.0 one (value n) q, λ x y. shade_refers f.0 one (value n) q x (f.1 x y))

-- a stack is scanned, and the globals
pub scan_stack_kept : {h : Heap} → Audited h → phase h ≡ mark → (s : ℕ) → s < stack_count → get_or h.roots (first_state + s) 0 ≢ closed → Audited (scan slot_count (slot h s) (state_at s) h)
scan_stack_kept {h} F one s hs o = scanned_kept (all_kept F one (slot h s) slot_count (λ i l. F.references.root (slot_count * s + i) (omega arith))).0 s hs o

pub scan_globals_kept : {h : Heap} → Audited h → phase h ≡ mark → Audited (scan global_count (global h) globals_state_at h)
scan_globals_kept {h} F one = globals_kept (all_kept F one (global h) global_count (λ i l. F.references.root (first_global + i) (omega arith))).0

-- a gray bit is cleared
pub ungray_kept : {h : Heap} → Audited h →
    (w : ℕ) → w < page_words * h.pages → Audited (with_bits (put_bit (page_words * h.pages) gray w false h.bits) h) ×
    ((x : ℕ) → Refers h x → Refers (with_bits (put_bit (page_words * h.pages) gray w false h.bits) h) x)
ungray_kept {h} F w l = (
  record {
    sized = record {
      low = F.sized.low;
      high = F.sized.high;
      arena = F.sized.arena;
      table = F.sized.table;
      bits = part_length (page_words * h.pages) gray w false h.bits ∙ F.sized.bits;
      roots = F.sized.roots;
    };
    spans = F.spans;
    bits = record {
      element = λ v x. F.bits.element v (rw (same allocated refl v) at x);
      marks = λ v x. rw (same allocated refl v) (F.bits.marks v (rw (same marked refl v) at x));
      grays = λ v x. let f = F.bits.grays v (less v x) in (rw (same marked refl v) f.0, f.1);
      pointers = λ v x. let f = F.bits.pointers v (rw (same pointer refl v) at x) in (f.0, f.1, rw (same allocated refl (element_of h.table v)) f.2);
      head = λ v x c. rw (same pointer refl v) (F.bits.head v (rw (same allocated refl v) at x) c);
      unbroken = λ v x m. rw (same pointer refl (v - 1)) (F.bits.unbroken v (rw (same pointer refl v) at x) m);
    };
    phases = record {
      none = λ e v. rw (same marked refl v) (F.phases.none e v);
      swept = F.phases.swept;
      plain = λ d v. none v (bit h.pages gray b v) refl d;
      unswept = λ e v x. F.phases.unswept e v (rw (same marked refl v) at x);
    };
    references = record {
      root = λ x m. ref (get_or h.roots x 0) (F.references.root x m);
      content = λ v x kp. ref (get_or h.arena v 0) (F.references.content v (rw (same pointer refl v) at x) (rw (kept_is (element_of h.table v)) at kp));
    };
    states = F.states;
    occupied = λ s e. let f = F.occupied s e in (f.0, rw (same allocated refl f.0) f.1, f.2);
  },
  ref,
)
  where
    b : List ℕ
    b = put_bit (page_words * h.pages) gray w false h.bits

    same : (q : Part) → same_part q gray ≡ false → (v : ℕ) → bit h.pages q b v ≡ is q h v
    same q e v = rw (part_at (page_words * h.pages) q gray w false h.bits l (four h F.sized) v, e)

    less : (v : ℕ) → T (bit h.pages gray b v) → T (is gray h v)
    less v x = go (eqb v w) (rw (part_at (page_words * h.pages) gray gray w false h.bits l (four h F.sized) v) at x)
      where
        go : (c : Bool) → T (cond c false (is gray h v)) → T (is gray h v)
        go true x = absurd x
        go false x = x

    none : (v : ℕ) (c : Bool) → bit h.pages gray b v ≡ c → phase h ≢ mark → c ≡ false
    none v true x d = absurd (true≢false (sym (of_true _ (less v (is_true _ x))) ∙ F.phases.plain d v))
    none v false x d = refl

    kept_is : (v : ℕ) → kept_at h.pages h.table b v ≡ kept h v
    kept_is v = rw (same allocated refl v, same marked refl v)

    ref : (x : ℕ) → Refers h x → Refers (with_bits (put_bit (page_words * h.pages) gray w false h.bits) h) x
    ref = refers_over h.pages h.table h.table h.bits b (λ v k. rw (kept_is v) k)

-- a mark step on the gray record at word w
pub mark_kept : {h : Heap} → Audited h → phase h ≡ mark → (w : ℕ) → T (is gray h w) → Audited (with_bits (scan_record w h) h)
unfolding scan_record
mark_kept {h} F one w g =
    let a = F.bits.marks w (F.bits.grays w g).0 in
    let kp : T (kept h w) = rw (not_unswept F.spans F.phases (λ e. absurd (omega arith)) (span_of h.table w)) a in
    let u = ungray_kept F w (bit_inside (page_words * h.pages) gray h.bits w g) in
    (all_kept u.0 one (λ f. word h (w + f)) (pointer_count h w) (λ f l. u.1 (word h (w + f)) (pointer_word F w a kp f l).1)).0

-- a number word is set
pub put_kept : {h : Heap} → Audited h → (w f v : ℕ) → T (is allocated h w) → pointer_count h w ≤ f → f < element_words h.table (span_of h.table w) →
    Audited (with_arena (set h.arena (w + f) v) h)
put_kept {h} F w f v a l m =
    let E = F.bits.element w a in
    let i = Rattle.model.proofs.Spans.whole F.spans w E in
    arena_kept F (w + f) v (omega arith) (λ x. absurd (true≢false (sym (of_true _ x) ∙ no_pointer F.spans F.bits w E f l m)))
