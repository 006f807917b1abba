-- The audit's test and the facts that it stands for: `audit_facts` from the test to `Audited`, `facts_audit` back. Between them stand the facts of
-- one page, one word, one stack, as the test says them.
use Prim.Native.Nat.{ℕ, ◌+◌, ◌-◌, ◌*◌, ◌/◌, ◌%◌, ◌<◌, ◌≤◌}
use mathlib.Core.Bool.{Bool, true, false, ◌&&◌, true≢false}
use mathlib.Core.List.{List}
use mathlib.Core.Logic.Iff
use mathlib.Core.Logic.{◌⊎◌, inl, inr, ◌≢◌, ◌↔◌}
use mathlib.Core.Path.{◌≡◌, refl, sym, ◌∙◌}
use native.Mathlib.Omega.{arith}
use lib.ListN.{length, get_or-eq_default}
use lib.Dec.{T, eqb, ltb}
use borrow.Author.Tests.{ltb-true, ltb-false, eqb-true, eqb-false}
use Rattle.model.specs.Bounded.{some_below}
use Rattle.model.specs.Memory.{Heap, good_buffers, words, state, globals_state, phase, root, word, slot, word_of, address_of, stack_count, slot_count, first_state, root_words, page_words, max_pages, entry_numbers, bitmap_words, unswept_flag, off, mark, sweep, closed, open_state, gray_state}
use Rattle.model.specs.Classes.{class_pages, kinds, fewest_large, most_large}
use Rattle.model.specs.Bitmaps.{Part, allocated, marked, gray, pointer, is}
use Rattle.model.specs.Spans.{owner, page_count, kind_entry, kind_at, class_at, span_of, element_of, element_number, elements, element_start, kept, record_of}
use Rattle.model.specs.Audit.{good_kind, good_first, good_page, good_word, good_stack, good_states, is_reference, audit}
use Rattle.model.proofs.Tests.{of_true, and_iff, or_iff, eqb_iff, leb_iff}
use Rattle.model.proofs.Bounded.{some_iff}
use Rattle.model.proofs.Bitmaps.{bit_inside}
use Rattle.model.proofs.Rules.{tests, else_iff}
use Rattle.model.specs.Facts.{Spans, IsSpan, GoodEntry, Sized, Reference, Audited}
use Rattle.model.proofs.Spans.{element_word, entry_fits, fits}

-- the buffers' lengths

pub sized_iff : (h : Heap) → T (good_buffers h) ↔ (((((1 ≤ h.pages) × (h.pages ≤ max_pages)) × (length h.arena ≡ page_words * h.pages)) × (length h.table ≡ entry_numbers * h.pages)) × (length h.bits ≡ bitmap_words * h.pages)) × (length h.roots ≡ root_words)
unfolding good_buffers
sized_iff h = simp tests Iff.rfl

pub sized : (h : Heap) → T (good_buffers h) → Sized h
sized h t = let x = (sized_iff h).0 t in
    record { low = x.0.0.0.0.0; high = x.0.0.0.0.1; arena = x.0.0.0.1; table = x.0.0.1; bits = x.0.1; roots = x.1 }

pub sized_good : (h : Heap) → Sized h → T (good_buffers h)
sized_good h Z = (sized_iff h).1 (((((Z.low, Z.high), Z.arena), Z.table), Z.bits), Z.roots)

-- one page

entry_iff : (t : List ℕ) (s : ℕ) → T (good_kind t s) ↔ ((kind_entry t s < unswept_flag + unswept_flag) × (kind_at t s < kinds)) × ((class_at t s ≡ 0 → (fewest_large ≤ page_count t s) × (page_count t s ≤ most_large)) × (class_at t s ≢ 0 → page_count t s ≡ class_pages (class_at t s)))
unfolding good_kind
entry_iff t s = simp tests Iff.rfl

abbrev FirstFacts : Heap → ℕ → Type 0
FirstFacts h s =
    let t = h.table in
    (((T (good_kind t s) × (s + page_count t s ≤ h.pages))
    × ((k : ℕ) → k < page_count t s - 1 → ((owner t (s + 1 + k) ≡ s + 1) × (page_count t (s + 1 + k) ≡ 0)) × (kind_entry t (s + 1 + k) ≡ 0)))
    × (unswept_flag ≤ kind_entry t s → phase h ≡ sweep)) × T (some_below (elements t s) (λ k. is allocated h (element_start t s k)))

first_iff : (h : Heap) (s : ℕ) → T (good_first h s) ↔ FirstFacts h s
unfolding good_first
first_iff h s = simp tests Iff.rfl

abbrev PageFacts : Heap → ℕ → Type 0
PageFacts h g =
    let t = h.table in
    let s = owner t g - 1 in
    (owner t g ≡ 0 → (page_count t g ≡ 0) × (kind_entry t g ≡ 0))
    × (owner t g ≢ 0 → (owner t g ≡ g + 1 → T (good_first h g))
    × (owner t g ≢ g + 1 → (((s < g) × (owner t s ≡ s + 1)) × (g < s + page_count t s)) × (((owner t g ≡ s + 1) × (page_count t g ≡ 0)) × (kind_entry t g ≡ 0))))

page_iff : (h : Heap) (g : ℕ) → T (good_page h g) ↔ PageFacts h g
unfolding good_page
page_iff h g = simp tests Iff.rfl

-- one word

abbrev WordFacts : Heap → ℕ → Type 0
WordFacts h w =
    let t = h.table in
    let s = span_of t w in
    ((((T (is allocated h w) → ((owner t (w / page_words) ≢ 0) × (element_number t s w < elements t s)) × (element_of t w ≡ w))
    × (T (is marked h w) → (T (is allocated h w) × (phase h ≢ off)) × (phase h ≡ sweep → unswept_flag ≤ kind_entry t s)))
    × (T (is gray h w) → (T (is marked h w) × (kind_at t s % 2 ≡ 0)) × (phase h ≡ mark)))
    × ((T (is allocated h w) × (kind_at t s % 2 ≡ 0) → T (is pointer h w))
    × (T (is pointer h w) → ((((owner t (w / page_words) ≢ 0) × (element_number t s w < elements t s)) × (kind_at t s % 2 ≡ 0)) × T (is allocated h (element_of t w))) × (element_of t w ≢ w → T (is pointer h (w - 1))))))
    × (T (is pointer h w) × T (kept h (element_of t w)) → T (is_reference h (word h w)))

word_iff : (h : Heap) (w : ℕ) → T (good_word h w) ↔ WordFacts h w
unfolding good_word
word_iff h w = simp (tests, else_iff) Iff.rfl

-- one stack, the states, one reference

stack_iff : (h : Heap) (s : ℕ) → T (good_stack h s) ↔ ((state h s ≤ gray_state) × (state h s ≡ gray_state → phase h ≡ mark)) × (state h s ≡ closed → (i : ℕ) → i < slot_count → slot h s i ≡ 0)
unfolding good_stack
stack_iff h s = simp tests Iff.rfl

states_iff : (h : Heap) → T (good_states h) ↔ (((phase h ≤ sweep) × (open_state ≤ globals_state h)) × (globals_state h ≤ gray_state)) × (globals_state h ≡ gray_state → phase h ≡ mark)
unfolding good_states
states_iff h = simp tests Iff.rfl

pub reference_iff : (h : Heap) (v : ℕ) → T (is_reference h v) ↔ Reference h.pages h.table h.bits v
unfolding is_reference
reference_iff h v = (λ x. to ((or_iff (eqb v 0) (eqb v (address_of (word_of v)) && kept h (record_of h.table v))).0 x), λ x. (or_iff (eqb v 0) (eqb v (address_of (word_of v)) && kept h (record_of h.table v))).1 (back x))
  where
    to : (T (eqb v 0) ⊎ T (eqb v (address_of (word_of v)) && kept h (record_of h.table v))) → Reference h.pages h.table h.bits v
    to (inl e) = inl ((eqb_iff v 0).0 e)
    to (inr e) = let f = (and_iff (eqb v (address_of (word_of v))) (kept h (record_of h.table v))).0 e in inr ((eqb_iff v (address_of (word_of v))).0 f.0, f.1)

    back : Reference h.pages h.table h.bits v → T (eqb v 0) ⊎ T (eqb v (address_of (word_of v)) && kept h (record_of h.table v))
    back (inl e) = inl ((eqb_iff v 0).1 e)
    back (inr f) = inr ((and_iff (eqb v (address_of (word_of v))) (kept h (record_of h.table v))).1 ((eqb_iff v (address_of (word_of v))).1 f.0, f.1))

-- the whole

audit_iff : (h : Heap) → T (audit h) ↔
    (((T (good_states h) × ((s : ℕ) → s < stack_count → T (good_stack h s))) × ((g : ℕ) → g < h.pages → T (good_page h g)))
    × ((w : ℕ) → w < words h → T (good_word h w))) × ((i : ℕ) → i < first_state → T (is_reference h (root h i)))
unfolding audit
audit_iff h = simp tests Iff.rfl

-- a page past the end reads as free
past : (P : ℕ) (t : List ℕ) → length t ≡ entry_numbers * P → (g : ℕ) → P ≤ g → (owner t g ≡ 0) × (page_count t g ≡ 0) × (kind_entry t g ≡ 0)
unfolding owner page_count kind_entry
past P t z g l = (get_or-eq_default t 0 (omega arith), get_or-eq_default t 0 (omega arith), get_or-eq_default t 0 (omega arith))

-- so that the facts of a page hold of every page
every_page : (h : Heap) → Sized h → ((g : ℕ) → g < h.pages → T (good_page h g)) → (g : ℕ) → PageFacts h g
every_page h Z f g = go (ltb g h.pages) refl
  where
    go : (b : Bool) → ltb g h.pages ≡ b → PageFacts h g
    go true e = (page_iff h g).0 (f g (ltb-true g h.pages e))
    go false e = let o = past h.pages h.table Z.table g (ltb-false g h.pages e) in ((λ _. (o.1, o.2)), (λ d. absurd (d o.0)))

-- the page table
module _ (h : Heap) (page : (g : ℕ) → PageFacts h g) where
  first_page : (s : ℕ) → IsSpan h.table s → FirstFacts h s
  first_page s e = (first_iff h s).0 (((page s).1 (omega arith)).0 e)

  entry_of : (s : ℕ) → IsSpan h.table s → GoodEntry (kind_entry h.table s) (page_count h.table s)
  entry_of s e = let x = (entry_iff h.table s).0 (first_page s e).0.0.0.0 in record { flag = x.0.0; kind = x.0.1; large = x.1.0; small = x.1.1 }

  spans_of : Spans h.pages h.table
  spans_of = record {
    whose = λ g u. whose g u (eqb (owner t g) (g + 1)) refl;
    body = λ s g e a b. body s g e a b (eqb g s) refl;
    inside = λ s e. (first_page s e).0.0.0.1;
    rest = λ g d. rest g d (eqb (owner t g) 0) refl;
    entry = entry_of;
  }
    where
      t : List ℕ
      t = h.table

      whose : (g : ℕ) → 0 < owner h.table g → (b : Bool) → eqb (owner h.table g) (g + 1) ≡ b →
          let u = h.table in (owner u (owner u g - 1) ≡ owner u g - 1 + 1) × (owner u g - 1 ≤ g) × (g < owner u g - 1 + page_count u (owner u g - 1))
      whose g u true e =
          let i = eqb-true (owner h.table g) (g + 1) e in
          let z : owner h.table g - 1 ≡ g = omega arith in
          rw z (i, omega arith, omega (arith, (entry_fits (kind_entry h.table g) (page_count h.table g) (entry_of g i)).pages))
      whose g u false e = let f = ((page g).1 (omega arith)).1 (eqb-false (owner h.table g) (g + 1) e) in (f.0.0.1, omega (arith, f.0.0.0), f.0.1)

      body : (s g : ℕ) → IsSpan h.table s → s ≤ g → g < s + page_count h.table s → (b : Bool) → eqb g s ≡ b → owner h.table g ≡ s + 1
      body s g e a b true p = rw (eqb-true g s p) e
      body s g e a b false p =
          let z : s + 1 + (g - (s + 1)) ≡ g = omega (arith, eqb-false g s p) in
          rw z at ((first_page s e).0.0.1 (g - (s + 1)) (omega (arith, eqb-false g s p))).0.0

      rest : (g : ℕ) → owner h.table g ≢ g + 1 → (b : Bool) → eqb (owner h.table g) 0 ≡ b → (page_count h.table g ≡ 0) × (kind_entry h.table g ≡ 0)
      rest g d true e = (page g).0 (eqb-true (owner h.table g) 0 e)
      rest g d false e = let f = (((page g).1 (eqb-false (owner h.table g) 0 e)).1 d).1 in (f.0.1, f.1)

-- from the test to the facts
pub audit_facts : (h : Heap) → Sized h → T (audit h) → Audited h
audit_facts h Z ok = record {
  sized = Z;
  spans = F;
  bits = record {
    element = λ w a. let f = (at allocated w a).0.0.0.0 a in record { lies = record { used = omega (arith, f.0.0); number = f.0.1 }; first = f.1 };
    marks = λ w a. ((at marked w a).0.0.0.1 a).0.0;
    grays = λ w a. let f = (at gray w a).0.0.1 a in (f.0.0, (eqb_iff _ 0).1 f.0.1);
    pointers = λ w a. let f = (at pointer w a).0.1.1 a in (record { used = omega (arith, f.0.0.0.0); number = f.0.0.0.1 }, (eqb_iff _ 0).1 f.0.0.1, f.0.1);
    head = λ w a s. (at allocated w a).0.1.0 (a, (eqb_iff _ 0).0 s);
    unbroken = λ w a. ((at pointer w a).0.1.1 a).1;
  };
  phases = record {
    none = λ e w. off (is marked h w) (λ a. ((at marked w a).0.0.0.1 a).0.1 e);
    swept = λ d s e. low (kind_entry h.table s) (λ l. d ((first_page h pages s e).0.1 l));
    plain = λ d w. off (is gray h w) (λ a. d ((at gray w a).0.0.1 a).1);
    unswept = λ e w a. (leb_iff unswept_flag _).1 (((at marked w a).0.0.0.1 a).1 e);
  };
  references = record {
    root = λ i l. (reference_iff h (root h i)).0 (x.1 i l);
    content = λ w a kp. (reference_iff h (word h w)).0 ((at pointer w a).1 (a, kp));
  };
  states = record {
    phase = g.0.0.0;
    legal = λ s l. let f = (stack_iff h s).0 (x.0.0.0.1 s l) in (f.0.0, f.0.1);
    globals = (g.0.0.1, g.0.1, g.1);
    closed = λ s i l m e. ((stack_iff h s).0 (x.0.0.0.1 s l)).1 e i m;
  };
  occupied = some;
}
  where
    x : (((T (good_states h) × ((s : ℕ) → s < stack_count → T (good_stack h s))) × ((g : ℕ) → g < h.pages → T (good_page h g)))
        × ((w : ℕ) → w < words h → T (good_word h w))) × ((i : ℕ) → i < first_state → T (is_reference h (root h i)))
    x = (audit_iff h).0 ok

    pages : (g : ℕ) → PageFacts h g
    pages = every_page h Z x.0.0.1

    g : (((phase h ≤ sweep) × (open_state ≤ globals_state h)) × (globals_state h ≤ gray_state)) × (globals_state h ≡ gray_state → phase h ≡ mark)
    g = (states_iff h).0 x.0.0.0.0

    at : (q : Part) (w : ℕ) → T (is q h w) → WordFacts h w
    at q w a = (word_iff h w).0 (x.0.1 w (bit_inside (words h) q h.bits w a))

    F : Spans h.pages h.table
    F = spans_of h pages

    off : (b : Bool) → (T b → ⊥) → b ≡ false
    off true f = absurd (f tt)
    off false f = refl

    low : (k : ℕ) → (unswept_flag ≤ k → ⊥) → k < unswept_flag
    low k f = go (ltb k unswept_flag) refl
      where
        go : (b : Bool) → ltb k unswept_flag ≡ b → k < unswept_flag
        go true e = ltb-true k unswept_flag e
        go false e = absurd (f (ltb-false k unswept_flag e))

    some : (s : ℕ) → IsSpan h.table s → (w : ℕ) × T (is allocated h w) × (span_of h.table w ≡ s)
    some s e =
        let k = (some_iff (elements h.table s) (λ k. is allocated h (element_start h.table s k))).0 (first_page h pages s e).1 in
        (element_start h.table s k.0, k.2, (element_word F s k.0 (element_start h.table s k.0) e k.1 (omega arith) (omega (arith, (fits F s e).words))).1)

-- .. and back
pub facts_audit : (h : Heap) → Audited h → T (audit h)
facts_audit h F = (audit_iff h).1 (
  (
    (
      (
        (states_iff h).1 (((F.states.phase, F.states.globals.0), F.states.globals.1), F.states.globals.2),
        λ s l. (stack_iff h s).1 (((F.states.legal s l).0, (F.states.legal s l).1), λ e i m. F.states.closed s i l m e),
      ),
      λ g l. (page_iff h g).1 (page g),
    ),
    λ w l. (word_iff h w).1 (at w),
  ),
  λ i l. (reference_iff h (root h i)).1 (F.references.root i l),
)
  where
    t : List ℕ
    t = h.table

    some : (s : ℕ) → IsSpan h.table s → T (some_below (elements h.table s) (λ k. is allocated h (element_start h.table s k)))
    some s e =
        let f = F.occupied s e in
        let E = F.bits.element f.0 f.1 in
        let n : element_number h.table s f.0 < elements h.table s = rw f.2 at E.lies.number in
        let z : element_start h.table s (element_number h.table s f.0) ≡ f.0 = rw f.2 at E.first in
        (some_iff (elements h.table s) (λ k. is allocated h (element_start h.table s k))).1 (element_number h.table s f.0, n, rw z f.1)

    unswept : (s : ℕ) → IsSpan h.table s → unswept_flag ≤ kind_entry h.table s → phase h ≡ sweep
    unswept s e l = go (eqb (phase h) sweep) refl
      where
        go : (b : Bool) → eqb (phase h) sweep ≡ b → phase h ≡ sweep
        go true p = eqb-true (phase h) sweep p
        go false p = absurd (omega (arith, F.phases.swept (eqb-false (phase h) sweep p) s e))

    first : (s : ℕ) → IsSpan h.table s → FirstFacts h s
    first s e =
        let G = F.spans.entry s e in (
          (
            (
              ((entry_iff h.table s).1 ((G.flag, G.kind), (G.large, G.small)), F.spans.inside s e),
              λ k l. let b = F.spans.body s (s + 1 + k) e (omega arith) (omega arith) in let r = F.spans.rest (s + 1 + k) (omega arith) in ((b, r.0), r.1),
            ),
            unswept s e,
          ),
          some s e,
        )

    page : (g : ℕ) → PageFacts h g
    page g = (
      (λ z. F.spans.rest g (omega arith)),
      (λ d. (
        (λ e. (first_iff h g).1 (first g e)),
        (λ n. let f = F.spans.whose g (omega arith) in let r = F.spans.rest g n in (((omega arith, f.0), f.2), ((omega arith, r.0), r.1))),
      )),
    )

    at : (w : ℕ) → WordFacts h w
    at w = (
      (
        (
          (
            (λ a. let f = F.bits.element w a in ((omega (arith, f.lies.used), f.lies.number), f.first)),
            (λ a. ((F.bits.marks w a, λ e. true≢false (sym (of_true _ a) ∙ F.phases.none e w)), λ e. (leb_iff unswept_flag _).0 (F.phases.unswept e w a))),
          ),
          (λ a. let f = F.bits.grays w a in ((f.0, (eqb_iff _ 0).0 f.1), inked w a)),
        ),
        (
          (λ a. F.bits.head w a.0 ((eqb_iff _ 0).1 a.1)),
          (λ a. let f = F.bits.pointers w a in ((((omega (arith, f.0.used), f.0.number), (eqb_iff _ 0).0 f.1), f.2), F.bits.unbroken w a)),
        ),
      ),
      (λ a. (reference_iff h (word h w)).1 (F.references.content w a.0 a.1)),
    )
      where
        inked : (w : ℕ) → T (is gray h w) → phase h ≡ mark
        inked w a = go (eqb (phase h) mark) refl
          where
            go : (b : Bool) → eqb (phase h) mark ≡ b → phase h ≡ mark
            go true e = eqb-true (phase h) mark e
            go false e = absurd (true≢false (sym (of_true _ a) ∙ F.phases.plain (eqb-false (phase h) mark e) w))
