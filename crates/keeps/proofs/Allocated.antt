-- Where a record goes: the element or the pages that the allocation finds suit it (`choice`), and to take them keeps the audit.
use Prim.Native.Nat.{ℕ, ◌+◌, ◌-◌, ◌/◌, ◌%◌, ◌<◌, ◌≤◌}
use mathlib.Core.List.{List}
use mathlib.Core.Bool.{Bool, true, false, not, cond, ◌||◌}
use mathlib.Core.Logic.{◌⊎◌, inl, inr, ◌≢◌}
use mathlib.Core.Path.{◌≡◌, refl, sym, ◌∙◌}
use native.Mathlib.Omega.{arith}
use lib.ListN.{get_or}
use lib.Dec.{T, eqb, ltb, ltb→lt, leb→le}
use borrow.Author.Tests.{ltb-true, eqb-true, not-true}
use Rattle.model.specs.Bounded.{first_below}
use Rattle.model.specs.Memory.{Heap, with_table, phase, state, first_word, stack_count, slot_count, page_words, unswept_flag, closed, sweep}
use Rattle.model.specs.Bitmaps.{allocated, is}
use Rattle.model.specs.Classes.{class_of, kind_of, pages_for, element_words_of}
use Rattle.model.specs.Spans.{owner, kind_entry, is_free, element_words, elements, element_start, span_of, element_of, put_pages, span_page}
use Rattle.model.specs.Allocate.{free_element, has_room, span_with_room, run_length, is_run, is_shortest, best_run, room_for, new_word, new_table}
use Rattle.model.proofs.Tests.{is_true, and_iff}
use Rattle.model.proofs.Bounded.{first_props}
use Rattle.model.proofs.Classes.{Takes}
use Rattle.model.proofs.Table.{pages_length}
use Rattle.model.specs.Facts.{Spans, IsSpan, Sized, Audited, Bits, Phases, References, Reference, bit, scan_at, unswept_at, kept_at}
use Rattle.model.proofs.Effects.{room_is, room_words}
use Rattle.model.proofs.Named.{kept_allocated_lem, refers_over}
use Rattle.keeps.proofs.Tables.{Chosen, Vacant, like_scan, like_words, like_element, carve_spans, carve_bits, carve_like, carve_unswept, carve_chosen, which, new_entry, used_same}
use Rattle.keeps.proofs.Allotted.{allotted, allotted_kept}

-- the element of n words at word w, in page table u, suits a record of p pointers; the words allocated before see no change
pub record Choice (h : Heap) (u : List ℕ) (w n p : ℕ) : Type 0 where
  pub span : ℕ
  pub number : ℕ
  pub sized : Sized (with_table u h)
  pub spans : Spans h.pages u
  pub bits : Bits h.pages u h.bits
  pub chosen : Chosen h.pages u h.bits span number p
  pub word : element_start u span number ≡ w
  pub words : element_words u span ≡ n
  pub phases : Phases h.pages (phase h) u h.bits
  pub references : References (with_table u h)
  pub occupied : (x : ℕ) → IsSpan u x → x ≢ span → (v : ℕ) × T (is allocated h v) × (span_of u v ≡ x)
  pub used : (v : ℕ) → T (is allocated h v) → owner u (v / page_words) ≡ owner h.table (v / page_words)
  pub scans : (v : ℕ) → T (is allocated h v) → scan_at u v ≡ scan_at h.table v
  pub long : (v : ℕ) → T (is allocated h v) → element_words u (span_of u v) ≡ element_words h.table (span_of h.table v)
  pub flags : (v : ℕ) → T (is allocated h v) → unswept_at u v ≡ unswept_at h.table v

-- to take it keeps the audit
pub chosen_kept : {h : Heap} {u : List ℕ} {w n p : ℕ} → Audited h → Choice h u w n p → (s i : ℕ) → s < stack_count → i < slot_count → state h s ≢ closed →
    Audited (allotted s i w n p (with_table u h))
chosen_kept {h} {u} {w} {n} {p} F C s i hs hi o =
    rw (C.word, C.words) at (allotted_kept {h = with_table u h} C.sized C.spans C.bits C.chosen s i hs hi C.phases C.references F.states o C.occupied)

-- a free element of a span that is there
pub old_choice : {h : Heap} → Audited h → {r k p : ℕ} → Chosen h.pages h.table h.bits r k p →
    Choice h h.table (element_start h.table r k) (element_words h.table r) p
old_choice {h} F {r} {k} S = record {
  span = r;
  number = k;
  sized = F.sized;
  spans = F.spans;
  bits = F.bits;
  chosen = S;
  word = refl;
  words = refl;
  phases = F.phases;
  references = F.references;
  occupied = λ x e d. F.occupied x e;
  used = λ v a. refl;
  scans = λ v a. refl;
  long = λ v a. refl;
  flags = λ v a. refl;
}

-- two tables that agree on the allocated words keep the same elements
kept_same : {P : ℕ} {b : List ℕ} (t u : List ℕ) → Bits P t b → ((v : ℕ) → T (bit P allocated b v) → unswept_at u v ≡ unswept_at t v) →
    (v : ℕ) → T (kept_at P t b v) → T (kept_at P u b v)
kept_same t u C A v kp = rw (A v (kept_allocated_lem C v kp)) kp

-- the first element of a new span in free pages
module _ {h : Heap} (F : Audited h) {r n kind : ℕ} (Q : Vacant h.pages h.table r n kind) where
  abbrev t : List ℕ
  t = h.table

  abbrev u : List ℕ
  u = put_pages r n (span_page r n kind) h.table

  bits_u : Bits h.pages u h.bits
  bits_u = carve_bits F.sized.table F.spans Q F.bits

  flags : (v : ℕ) → T (is allocated h v) → unswept_at u v ≡ unswept_at t v
  flags v a = carve_unswept F.sized.table F.spans Q v (F.bits.element v a).lies.used

  phases_u : Phases h.pages (phase h) u h.bits
  phases_u = record {
    none = F.phases.none;
    swept = λ d x e. swept d x (which F.sized.table F.spans Q x e);
    plain = F.phases.plain;
    unswept = λ e v m. rw (flags v (F.bits.marks v m)) (F.phases.unswept e v m);
  }
    where
      swept : phase h ≢ sweep → (x : ℕ) → ((x ≡ r) ⊎ IsSpan t x) → kind_entry u x < unswept_flag
      swept d x (inl e) = rw (e, (new_entry F.sized.table F.spans Q).1) Q.swept
      swept d x (inr e) = rw (used_same F.sized.table F.spans Q x (omega arith)).2 (F.phases.swept d x e)

  refers : (a : ℕ) → Reference h.pages t h.bits a → Reference h.pages u h.bits a
  refers = refers_over h.pages t u h.bits h.bits (kept_same t u F.bits flags)

  references_u : References (with_table u h)
  references_u = record {
    root = λ x l. refers (get_or h.roots x 0) (F.references.root x l);
    content = λ v q kp. refers (get_or h.arena v 0) (F.references.content v q
        (kept_same u t bits_u (λ x a. sym (flags x a)) (element_of t v)
        (rw (like_element (carve_like F.sized.table F.spans Q v (F.bits.pointers v q).0.used)) at kp)));
  }

  occupied_u : (x : ℕ) → IsSpan u x → x ≢ r → (v : ℕ) × T (is allocated h v) × (span_of u v ≡ x)
  occupied_u x e d = go (which F.sized.table F.spans Q x e)
    where
      go : ((x ≡ r) ⊎ IsSpan t x) → (v : ℕ) × T (is allocated h v) × (span_of u v ≡ x)
      go (inl p) = absurd (d p)
      go (inr p) = let f = F.occupied x p in (f.0, f.1, (carve_like F.sized.table F.spans Q f.0 (F.bits.element f.0 f.1).lies.used).at ∙ f.2)

  pub new_choice : (p : ℕ) → eqb (kind % unswept_flag % 2) 0 ≡ ltb 0 p → p ≤ element_words_of (kind % unswept_flag / 2) n →
      Choice h (put_pages r n (span_page r n kind) h.table) (first_word r) (element_words_of (kind % unswept_flag / 2) n) p
  new_choice p sc l = record {
    span = r;
    number = 0;
    sized = record {
      low = F.sized.low;
      high = F.sized.high;
      arena = F.sized.arena;
      table = pages_length h.pages r n (span_page r n kind) h.table Q.inside F.sized.table;
      bits = F.sized.bits;
      roots = F.sized.roots;
    };
    spans = carve_spans F.sized.table F.spans Q;
    bits = bits_u;
    chosen = carve_chosen F.sized.table F.spans Q F.bits p sc l;
    word = omega arith;
    words = rw ((new_entry F.sized.table F.spans Q).0, (new_entry F.sized.table F.spans Q).1);
    phases = phases_u;
    references = references_u;
    occupied = occupied_u;
    used = λ v a. (like v a).page;
    scans = λ v a. like_scan (like v a);
    long = λ v a. like_words (like v a);
    flags = flags;
  }
    where
      like : (v : ℕ) → T (is allocated h v) → Rattle.keeps.proofs.Tables.Like t u v
      like v a = carve_like F.sized.table F.spans Q v (F.bits.element v a).lies.used

-- "the swept span of this kind with the lowest start page that has a free element"
found : {h : Heap} → Audited h → (size p : ℕ) → Takes size p → (r : ℕ) → T (has_room h (kind_of size p) r) →
    Chosen h.pages h.table h.bits r (free_element h r) p × (element_words_of (class_of size) (pages_for size) ≡ element_words h.table r)
found {h} F size p K r ok =
    let x = room_is h (kind_of size p) r ok in
    let span = x.0 in
    let e = x.1 in
    let w = room_words F size p K r span e x.2 in (
      record {
        span = span;
        swept = rw e (omega (arith, K.kind));
        scan = rw e (let z : kind_of size p % unswept_flag % 2 ≡ kind_of size p % 2 = omega (arith, K.kind) in rw z K.scan);
        number = x.2;
        pointers = rw (← w) K.pointers;
        free = free r x.2;
      },
      w,
    )
  where
    free : (r : ℕ) → free_element h r < elements h.table r → is allocated h (element_start h.table r (free_element h r)) ≡ false
    free r l = unfold free_element in not-true _ ((first_props (elements h.table r) (λ k. not (is allocated h (element_start h.table r k)))).holds l)

-- "the shortest maximal run of free pages with at least n": its pages are free
run_free : (P : ℕ) (t : List ℕ) (g : ℕ) → (run_length P t g ≤ P - g) × ((k : ℕ) → k < run_length P t g → owner t (g + k) ≡ 0)
unfolding run_length
run_free P t g =
    let f = first_props (P - g) (λ k. not (is_free t (g + k))) in
    (f.within, λ k l. eqb-true (owner t (g + k)) 0 (borrow.Author.Tests.not-false (is_free t (g + k)) (f.before k l)))

run_of : (P : ℕ) (t : List ℕ) (n r : ℕ) → T (is_shortest P t n r) → n ≤ run_length P t r
unfolding is_shortest is_run
run_of P t n r ok = let x = simp and_iff at ok in leb→le n (run_length P t r) x.0.1

vacant : (h : Heap) (size p : ℕ) → Takes size p → (r : ℕ) → r < h.pages → T (is_shortest h.pages h.table (pages_for size) r) →
    Vacant h.pages h.table r (pages_for size) (kind_of size p)
vacant h size p K r l ok =
    let x = run_of h.pages h.table (pages_for size) r ok in
    let R = run_free h.pages h.table r in
    let c : kind_of size p % unswept_flag / 2 ≡ class_of size = omega (arith, K.kind, K.class) in
    record {
      inside = omega (arith, R.0);
      free = λ g a b. let z : r + (g - r) ≡ g = omega arith in rw z at (R.1 (g - r) (omega arith));
      swept = omega (arith, K.kind);
      entry = record {
        flag = omega (arith, K.kind);
        kind = omega (arith, K.kind);
        large = λ z. K.pages.0 (sym c ∙ z);
        small = λ z. rw c (K.pages.1 (λ y. z (c ∙ y)));
      };
    }

-- where the record goes
pub choice : {h : Heap} → Audited h → (size p : ℕ) → Takes size p → T (room_for h (kind_of size p) (pages_for size)) →
    Choice h (new_table h (kind_of size p) (pages_for size)) (new_word h (kind_of size p) (pages_for size)) (element_words_of (class_of size) (pages_for size)) p
unfolding new_table new_word span_with_room best_run
choice {h} F size p K ok = go (ltb r h.pages) refl ok
  where
    r : ℕ
    r = first_below h.pages (has_room h (kind_of size p))

    q : ℕ
    q = first_below h.pages (is_shortest h.pages h.table (pages_for size))

    c : kind_of size p % unswept_flag / 2 ≡ class_of size
    c = omega (arith, K.kind, K.class)

    even : kind_of size p % unswept_flag % 2 ≡ kind_of size p % 2
    even = omega (arith, K.kind)

    go : (b : Bool) → ltb r h.pages ≡ b → T (b || ltb q h.pages) →
        Choice h (cond b h.table (put_pages q (pages_for size) (span_page q (pages_for size) (kind_of size p)) h.table))
        (cond b (element_start h.table r (free_element h r)) (first_word q)) (element_words_of (class_of size) (pages_for size)) p
    go true e _ =
        let f = found F size p K r (is_true _ ((first_props h.pages (has_room h (kind_of size p))).holds (ltb-true r h.pages e))) in
        rw f.1 (old_choice F f.0)
    go false e m =
        let l = ltb→lt q h.pages m in
        let Q = vacant h size p K q l (is_true _ ((first_props h.pages (is_shortest h.pages h.table (pages_for size))).holds l)) in
        rw c at (new_choice F Q p (rw even K.scan) (rw c K.pointers))
