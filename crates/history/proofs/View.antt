-- The four buffers seen as the theory's heap of functions: arena words, bits and slots by number. What each call that changes the roots, the arena
-- or the colours does to the buffers is, seen so, what the theory's call does.
use Prim.Native.Nat.{ℕ, ◌+◌, ◌*◌, ◌/◌, ◌<◌, ◌≤◌}
use mathlib.Core.List.{List}
use mathlib.Core.Bool.{Bool, true, false, not, cond, ◌&&◌, and-false}
use mathlib.Core.Logic.{◌≢◌}
use mathlib.Core.Path.{◌≡◌, refl, ap, sym, ◌∙◌, fun_ext}
use native.Mathlib.Omega.{arith}
use lib.ListN.{get_or, set, length}
use lib.Dec.{eqb, ltb}
use borrow.Author.Tests.{ltb-true, ltb-false, lt-ltb, eq-eqb, ne_eqb, eqb-true, eqb-false}
use Rattle.marking.specs.Updates.{update, update2}
use Rattle.marking.proofs.Updates.{update_is, update2_is}
use Rattle.marking.specs.WordHeap.{Phase, marking, ColourBits, Elements, heap_assign, heap_put, heap_start, heap_end_cycle, WordHeap}
use Rattle.model.specs.Bounded.{first_below}
use Rattle.model.specs.Memory.{Heap, with_arena, with_roots, set_root, slot_at, stack_count, slot_count, global_count, first_global, first_state, globals_state_at, phase_at, root_words, page_words, off, mark, closed, gray_state}
use Rattle.model.specs.Bitmaps.{allocated, marked, gray, pointer, is}
use Rattle.model.specs.Spans.{is_free, element_words, span_of}
use Rattle.model.proofs.Tests.{eqb_shift}
use Rattle.model.proofs.Words.{set_at}
use Rattle.model.specs.Facts.{Audited, bit, scan_at, unswept_at}
use Rattle.keeps.proofs.Roots.{root_at, root_other, started, started_at, started_low, started_state}

abbrev pub phase_of : ℕ → Phase
phase_of n = cond (eqb n off) Phase.off (cond (eqb n mark) Phase.mark Phase.sweep)

-- the span of word w is there and unswept
unfoldable pub late_at : List ℕ → ℕ → Bool
late_at t w = not (is_free t (w / page_words)) && unswept_at t w

unfoldable pub words_at : List ℕ → ℕ → ℕ
words_at t w = element_words t (span_of t w)

unfoldable pub scans_at : List ℕ → ℕ → Bool
scans_at t w = scan_at t w

-- the pointer words from w on, of at most n
unfoldable pub run_from : (ℕ → Bool) → ℕ → ℕ → ℕ
run_from p w n = first_below n (λ f. not (p (w + f)))

abbrev pub elements_in : List ℕ → (ℕ → Bool) → Elements
elements_in t p = record { scan = scans_at t; pointers = λ w. run_from p w (words_at t w); words = words_at t }

abbrev pub colours_of : (P : ℕ) → List ℕ → List ℕ → ColourBits
colours_of P b r = record {
  marked = bit P marked b;
  gray = bit P gray b;
  gray_globals = eqb (get_or r globals_state_at 0) gray_state;
  gray_stack = λ s. ltb s stack_count && eqb (get_or r (first_state + s) 0) gray_state;
}

abbrev pub slots_of : List ℕ → ℕ → ℕ → ℕ
slots_of r = λ s i. cond (ltb s stack_count && ltb i slot_count) (get_or r (slot_count * s + i) 0) 0

abbrev pub globals_of : List ℕ → ℕ → ℕ
globals_of r = λ g. cond (ltb g global_count) (get_or r (first_global + g) 0) 0

-- a test of the stacks' states
abbrev pub states : (ℕ → Bool) → List ℕ → ℕ → Bool
states f r = λ s. ltb s stack_count && f (get_or r (first_state + s) 0)

unfoldable pub view : Heap → WordHeap
view h = record {
  arena = λ w. get_or h.arena w 0;
  allocated = is allocated h;
  elements = elements_in h.table (is pointer h);
  unswept = late_at h.table;
  bits = colours_of h.pages h.bits h.roots;
  slots = slots_of h.roots;
  globals = globals_of h.roots;
  opened = states (λ x. not (eqb x closed)) h.roots;
  phase = phase_of (get_or h.roots phase_at 0);
}

-- equal parts make equal heaps
pub colours_eq : {B C : ColourBits} → B.marked ≡ C.marked → B.gray ≡ C.gray → B.gray_globals ≡ C.gray_globals → B.gray_stack ≡ C.gray_stack → B ≡ C
colours_eq a b c d = λ i. record { marked = a i; gray = b i; gray_globals = c i; gray_stack = d i }

pub heap_eq : {H K : WordHeap} → H.arena ≡ K.arena → H.allocated ≡ K.allocated → H.elements ≡ K.elements → H.unswept ≡ K.unswept → H.bits ≡ K.bits →
    H.slots ≡ K.slots → H.globals ≡ K.globals → H.opened ≡ K.opened → H.phase ≡ K.phase → H ≡ K
heap_eq a b c d e f g h j = λ i. record { arena = a i; allocated = b i; elements = c i; unswept = d i; bits = e i; slots = f i; globals = g i; opened = h i; phase = j i }

pub marking_is : (n : ℕ) → marking (phase_of n) ≡ eqb n mark
marking_is n = go (eqb n off) refl (eqb n mark) refl
  where
    go : (a : Bool) → eqb n off ≡ a → (b : Bool) → eqb n mark ≡ b → marking (cond a Phase.off (cond b Phase.mark Phase.sweep)) ≡ b
    go true e true f = absurd (omega (arith, eqb-true n off e, eqb-true n mark f))
    go true e false f = refl
    go false e true f = refl
    go false e false f = refl

-- the parts of the roots, where they are the same
pub slots_same : (l k : List ℕ) → ((x : ℕ) → x < first_global → get_or l x 0 ≡ get_or k x 0) → slots_of l ≡ slots_of k
slots_same l k f = fun_ext (λ t. fun_ext (λ i. go t i (ltb t stack_count) refl (ltb i slot_count) refl))
  where
    go : (t i : ℕ) (p : Bool) → ltb t stack_count ≡ p → (q : Bool) → ltb i slot_count ≡ q → cond (p && q) (get_or l (slot_count * t + i) 0) 0 ≡ cond (p && q) (get_or k (slot_count * t + i) 0) 0
    go t i true e true g = f (slot_count * t + i) (omega (arith, ltb-true t stack_count e, ltb-true i slot_count g))
    go t i true e false g = refl
    go t i false e q g = refl

pub globals_same : (l k : List ℕ) → ((x : ℕ) → first_global ≤ x → x < first_state → get_or l x 0 ≡ get_or k x 0) → globals_of l ≡ globals_of k
globals_same l k f = fun_ext (λ g. go g (ltb g global_count) refl)
  where
    go : (g : ℕ) (p : Bool) → ltb g global_count ≡ p → cond p (get_or l (first_global + g) 0) 0 ≡ cond p (get_or k (first_global + g) 0) 0
    go g true e = f (first_global + g) (omega arith) (omega (arith, ltb-true g global_count e))
    go g false e = refl

pub states_same : (t : ℕ → Bool) (l k : List ℕ) → ((x : ℕ) → first_state ≤ x → x < globals_state_at → get_or l x 0 ≡ get_or k x 0) → states t l ≡ states t k
states_same t l k f = fun_ext (λ s. go s (ltb s stack_count) refl)
  where
    go : (s : ℕ) (p : Bool) → ltb s stack_count ≡ p → (p && t (get_or l (first_state + s) 0)) ≡ (p && t (get_or k (first_state + s) 0))
    go s true e = ap t (f (first_state + s) (omega arith) (omega (arith, ltb-true s stack_count e)))
    go s false e = refl

-- .. after one state became v
pub state_set : (f : ℕ → Bool) (l : List ℕ) (s v : ℕ) (b : Bool) → length l ≡ root_words → s < stack_count → f v ≡ b → states f (set l (first_state + s) v) ≡ update (states f l) s b
state_set f l s v b z h e = fun_ext (λ t. rw (set_at l (first_state + s) v (omega arith) (first_state + t), eqb_shift first_state t s, update_is (states f l) s b t) (go t (eqb t s) refl))
  where
    go : (t : ℕ) (c : Bool) → eqb t s ≡ c → (ltb t stack_count && f (cond c v (get_or l (first_state + t) 0))) ≡ cond c b (ltb t stack_count && f (get_or l (first_state + t) 0))
    go t true p = rw (eqb-true t s p, lt-ltb s stack_count h, e)
    go t false p = refl

-- .. after one slot became v
pair : (t j s i : ℕ) → j < slot_count → i < slot_count → eqb (slot_count * t + j) (slot_count * s + i) ≡ (eqb t s && eqb j i)
pair t j s i h k = go (eqb t s) refl (eqb j i) refl
  where
    go : (a : Bool) → eqb t s ≡ a → (b : Bool) → eqb j i ≡ b → eqb (slot_count * t + j) (slot_count * s + i) ≡ (a && b)
    go true p true q = eq-eqb (slot_count * t + j) (slot_count * s + i) (omega (arith, eqb-true t s p, eqb-true j i q))
    go true p false q = ne_eqb (slot_count * t + j) (slot_count * s + i) (λ x. eqb-false j i q (omega (arith, eqb-true t s p)))
    go false p b q = ne_eqb (slot_count * t + j) (slot_count * s + i) (λ x. eqb-false t s p (omega arith))

pub slot_set : (r : List ℕ) (s i v : ℕ) → length r ≡ root_words → s < stack_count → i < slot_count → slots_of (set r (slot_count * s + i) v) ≡ update2 (slots_of r) s i v
slot_set r s i v z h k =
    fun_ext (λ t. fun_ext (λ j. rw (set_at r (slot_count * s + i) v (omega arith) (slot_count * t + j), update2_is (slots_of r) s i v t j) (go t j (ltb t stack_count) refl (ltb j slot_count) refl)))
  where
    go : (t j : ℕ) (a : Bool) → ltb t stack_count ≡ a → (b : Bool) → ltb j slot_count ≡ b →
        cond (a && b) (cond (eqb (slot_count * t + j) (slot_count * s + i)) v (get_or r (slot_count * t + j) 0)) 0 ≡ cond (eqb t s && eqb j i) v (cond (a && b) (get_or r (slot_count * t + j) 0) 0)
    go t j true p true q = rw (pair t j s i (ltb-true j slot_count q) k)
    go t j true p false q = rw (ne_eqb j i (λ x. absurd (omega (arith, ltb-false j slot_count q))), and-false (eqb t s))
    go t j false p b q = rw (ne_eqb t s (λ x. absurd (omega (arith, ltb-false t stack_count p))))

-- a slot is set
pub slot_view : {h : Heap} → Audited h → (s i v : ℕ) → s < stack_count → i < slot_count → view (set_root (slot_at s i) v h) ≡ heap_assign s i v (view h)
unfolding view heap_assign
slot_view {h} F s i v l k = heap_eq refl refl refl refl
    (colours_eq refl refl (rw (rest globals_state_at (omega arith))) (fun_ext (λ t. rw (rest (first_state + t) (omega arith)))))
    (slot_set h.roots s i v F.sized.roots l k)
    (fun_ext (λ g. rw (rest (first_global + g) (omega arith))))
    (fun_ext (λ t. rw (rest (first_state + t) (omega arith))))
    (ap phase_of (rest phase_at (omega arith)))
  where
    rest : (x : ℕ) → first_global ≤ x → get_or (set h.roots (slot_count * s + i) v) x 0 ≡ get_or h.roots x 0
    rest x a = root_other F (slot_count * s + i) v (omega arith) x (omega arith)

-- a number is put
pub put_view : {h : Heap} → Audited h → (w v : ℕ) → w < page_words * h.pages → view (with_arena (set h.arena w v) h) ≡ heap_put w v (view h)
unfolding view heap_put
put_view {h} F w v l = heap_eq (arena_set h F w v l) refl refl refl refl refl refl refl refl
  where
    arena_set : (h : Heap) → Audited h → (w v : ℕ) → w < page_words * h.pages → (λ (x : ℕ). get_or (set h.arena w v) x 0) ≡ update (λ (x : ℕ). get_or h.arena x 0) w v
    arena_set h F w v l = fun_ext (λ x. set_at h.arena w v (omega (arith, F.sized.arena)) x ∙ sym (update_is (λ (x : ℕ). get_or h.arena x 0) w v x))

-- the end of a cycle
pub end_view : {h : Heap} → Audited h → view (set_root phase_at off h) ≡ heap_end_cycle (view h)
unfolding view heap_end_cycle
end_view {h} F = heap_eq refl refl refl refl
    (colours_eq refl refl (rw (rest globals_state_at (omega arith))) (states_same (λ x. eqb x gray_state) (set h.roots phase_at off) h.roots (λ x b c. rest x (omega arith))))
    (slots_same (set h.roots phase_at off) h.roots (λ x l. rest x (omega arith)))
    (globals_same (set h.roots phase_at off) h.roots (λ x b c. rest x (omega arith)))
    (states_same (λ x. not (eqb x closed)) (set h.roots phase_at off) h.roots (λ x b c. rest x (omega arith)))
    (ap phase_of (root_at F phase_at off (omega arith) phase_at))
  where
    rest : (x : ℕ) → x ≢ phase_at → get_or (set h.roots phase_at off) x 0 ≡ get_or h.roots x 0
    rest = root_other F phase_at off (omega arith)

-- start
pub start_view : {h : Heap} → Audited h → view (with_roots (started h) h) ≡ heap_start (view h)
unfolding view heap_start
start_view {h} F = heap_eq refl refl refl refl
    (colours_eq refl refl (rw (started_at F globals_state_at)) (fun_ext (λ t. gray' t (ltb t stack_count) refl)))
    (slots_same (started h) h.roots (λ x l. started_low F x (omega arith)))
    (globals_same (started h) h.roots (λ x l k. started_low F x (omega arith)))
    (fun_ext (λ t. op t (ltb t stack_count) refl))
    (rw (started_at F phase_at))
  where
    two : (b : Bool) → eqb (cond b 0 2) 2 ≡ not b
    two true = refl
    two false = refl

    nil : (b : Bool) → not (eqb (cond b 0 2) 0) ≡ not b
    nil true = refl
    nil false = refl

    gray' : (t : ℕ) (p : Bool) → ltb t stack_count ≡ p → (p && eqb (get_or (started h) (first_state + t) 0) gray_state) ≡ (p && not (eqb (get_or h.roots (first_state + t) 0) closed))
    gray' t true e = rw (started_state F t (ltb-true t stack_count e)) (two (eqb (get_or h.roots (first_state + t) 0) closed))
    gray' t false e = refl

    op : (t : ℕ) (p : Bool) → ltb t stack_count ≡ p → (p && not (eqb (get_or (started h) (first_state + t) 0) closed)) ≡ (p && not (eqb (get_or h.roots (first_state + t) 0) closed))
    op t true e = rw (started_state F t (ltb-true t stack_count e)) (nil (eqb (get_or h.roots (first_state + t) 0) closed))
    op t false e = refl
