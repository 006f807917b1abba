-- The calls that shade or empty a stack, seen as the theory's: open and close, stores with their barrier, scans, and mark steps.
use Prim.Native.Nat.{ℕ, zero, suc, ◌+◌, ◌*◌, ◌<◌, ◌≤◌}
use mathlib.Core.List.{List}
use mathlib.Core.Bool.{Bool, true, false, not, cond, ◌&&◌}
use mathlib.Core.Logic.{◌≢◌}
use mathlib.Core.Path.{◌≡◌, refl, ap, sym, ◌∙◌, fun_ext}
use native.Mathlib.Omega.{arith}
use lib.ListN.{get_or, set, length}
use lib.Dec.{eqb, ltb}
use borrow.Author.Tests.{ltb-true, ltb-false, lt-ltb, ne_eqb, eqb-true, eqb-false}
use Rattle.marking.specs.Updates.{update}
use Rattle.marking.proofs.Updates.{update_is}
use Rattle.marking.specs.WordHeap.{marking, ColourBits, shade_bits, shade_all_bits, heap_store, heap_store_global, heap_reset_stack, heap_scan_stack, heap_scan_globals, heap_mark_step, stack_scanned}
use Rattle.model.specs.Memory.{Heap, with_arena, with_bits, set_root, put_words, global_at, state_at, slot, global, word, phase, stack_count, slot_count, global_count, first_global, first_state, globals_state_at, phase_at, root_words, page_words, mark, closed, open_state, gray_state}
use Rattle.model.specs.Bitmaps.{Part, allocated, marked, gray, pointer, is, put_bit}
use Rattle.model.specs.Spans.{pointer_count, record_of}
use Rattle.model.specs.Shading.{shade, shade_all, barrier}
use Rattle.model.specs.Records.{emptied}
use Rattle.model.specs.Cycle.{scan, scan_record}
use Rattle.model.proofs.Tests.{eqb_shift}
use Rattle.model.proofs.Bounded.{within, within_yes, within_low, within_high}
use Rattle.model.proofs.Words.{set_at, words_at_lem, words_length}
use Rattle.model.proofs.Bitmaps.{Four, same_part, part_at, part_length}
use Rattle.model.specs.Facts.{Audited, bit}
use Rattle.model.proofs.Facts.{four}
use Rattle.model.proofs.Named.{There}
use Rattle.model.proofs.Shading.{shade_length, shade_marked, shade_gray, shade_other, all_four, all_other, all_suc, all_zero_lem}
use Rattle.keeps.proofs.Roots.{root_at, root_other, emptied_at}
use Rattle.history.proofs.View.{view, phase_of, scans_at, words_at, run_from, elements_in, colours_of, slots_of, globals_of, states, colours_eq, heap_eq, marking_is, slots_same, globals_same, states_same, state_set}

-- a stack is emptied, and open afterwards (n is 1) or closed (n is 0)
pub emptied_view : {h : Heap} → Audited h → (s n : ℕ) (b : Bool) → s < stack_count → eqb n 2 ≡ false → not (eqb n 0) ≡ b → view (emptied h s n) ≡ heap_reset_stack s b (view h)
unfolding view emptied heap_reset_stack
emptied_view {h} F s n b l e2 e0 = heap_eq refl refl refl refl
    (colours_eq refl refl (rw (rest globals_state_at (omega arith) (omega arith))) (state_set (λ x. eqb x gray_state) mid s n false size l e2 ∙ ap (λ f. update f s false) (old (λ x. eqb x gray_state))))
    (fun_ext (λ t. fun_ext (λ i. rw (update_is (slots_of h.roots) s (λ i. 0) t) (slots t i (ltb t stack_count) refl (ltb i slot_count) refl))))
    (fun_ext (λ g. globs g (ltb g global_count) refl))
    (state_set (λ x. not (eqb x closed)) mid s n b size l e0 ∙ ap (λ f. update f s b) (old (λ x. not (eqb x closed))))
    (ap phase_of (rest phase_at (omega arith) (omega arith)))
  where
    mid : List ℕ
    mid = put_words (slot_count * s + 0) slot_count (λ i. 0) h.roots

    size : length mid ≡ root_words
    size = words_length root_words (slot_count * s + 0) slot_count (λ i. 0) h.roots (omega arith) F.sized.roots

    middle : (x : ℕ) → get_or mid x 0 ≡ cond (within (slot_count * s + 0) slot_count x) 0 (get_or h.roots x 0)
    middle = words_at_lem root_words (slot_count * s + 0) slot_count (λ i. 0) h.roots (omega arith) F.sized.roots

    at : (x : ℕ) → get_or (set mid (first_state + s) n) x 0 ≡ cond (eqb x (first_state + s)) n (cond (within (slot_count * s + 0) slot_count x) 0 (get_or h.roots x 0))
    at = emptied_at F s n l

    rest : (x : ℕ) → first_global ≤ x → x ≢ first_state + s → get_or (set mid (first_state + s) n) x 0 ≡ get_or h.roots x 0
    rest x a d = rw (at x, ne_eqb x (first_state + s) d, within_high (slot_count * s + 0) slot_count x (omega arith))

    old : (f : ℕ → Bool) → states f mid ≡ states f h.roots
    old f = fun_ext (λ t. rw (middle (first_state + t), within_high (slot_count * s + 0) slot_count (first_state + t) (omega arith)))

    slots : (t i : ℕ) (p : Bool) → ltb t stack_count ≡ p → (q : Bool) → ltb i slot_count ≡ q →
        cond (p && q) (get_or (set mid (first_state + s) n) (slot_count * t + i) 0) 0 ≡
        (cond {A = ℕ → ℕ} (eqb t s) (λ (i : ℕ). 0) (λ (i : ℕ). cond (p && ltb i slot_count) (get_or h.roots (slot_count * t + i) 0) 0)) i
    slots t i true e true f = rw (at (slot_count * t + i), ne_eqb (slot_count * t + i) (first_state + s) (omega (arith, ltb-true t stack_count e, ltb-true i slot_count f))) (in_stack (eqb t s) refl)
      where
        in_stack : (c : Bool) → eqb t s ≡ c → cond (within (slot_count * s + 0) slot_count (slot_count * t + i)) 0 (get_or h.roots (slot_count * t + i) 0) ≡
            (cond {A = ℕ → ℕ} c (λ (i : ℕ). 0) (λ (i : ℕ). cond (ltb i slot_count) (get_or h.roots (slot_count * t + i) 0) 0)) i
        in_stack true g = rw (within_yes (slot_count * s + 0) slot_count (slot_count * t + i) (omega (arith, eqb-true t s g)) (omega (arith, eqb-true t s g, ltb-true i slot_count f)))
        in_stack false g = rw (f, off' (ltb t s) refl)
          where
            off' : (c : Bool) → ltb t s ≡ c → within (slot_count * s + 0) slot_count (slot_count * t + i) ≡ false
            off' true k = within_low (slot_count * s + 0) slot_count (slot_count * t + i) (omega (arith, ltb-true t s k, ltb-true i slot_count f))
            off' false k = within_high (slot_count * s + 0) slot_count (slot_count * t + i) (omega (arith, ltb-false t s k, eqb-false t s g))
    slots t i true e false f = none (eqb t s)
      where
        none : (c : Bool) → 0 ≡ (cond {A = ℕ → ℕ} c (λ (i : ℕ). 0) (λ (i : ℕ). cond (ltb i slot_count) (get_or h.roots (slot_count * t + i) 0) 0)) i
        none true = refl
        none false = rw f
    slots t i false e q f = none (eqb t s)
      where
        none : (c : Bool) → 0 ≡ (cond {A = ℕ → ℕ} c (λ (i : ℕ). 0) (λ (i : ℕ). 0)) i
        none true = refl
        none false = refl

    globs : (g : ℕ) (p : Bool) → ltb g global_count ≡ p → cond p (get_or (set mid (first_state + s) n) (first_global + g) 0) 0 ≡ cond p (get_or h.roots (first_global + g) 0) 0
    globs g true e = rest (first_global + g) (omega arith) (omega (arith, ltb-true g global_count e))
    globs g false e = refl

-- one value shaded
pub shade_view : (P : ℕ) (t : List ℕ) (v : ℕ) (b : List ℕ) → There P t v → Four (page_words * P) b →
    (r : List ℕ) → colours_of P (shade P t v b) r ≡ shade_bits (scans_at t) (record_of t) v (colours_of P b r)
unfolding shade_bits scans_at
shade_view P t v b h f r = colours_eq (fun_ext (shade_marked P t v b h f)) (fun_ext (shade_gray P t v b h f)) refl refl

-- many values shaded
pub all_view : (P : ℕ) (t : List ℕ) (value : ℕ → ℕ) (b : List ℕ) → Four (page_words * P) b → (n : ℕ) → ((k : ℕ) → k < n → There P t (value k)) → (r : List ℕ) →
    colours_of P (shade_all P t n value b) r ≡ shade_all_bits (scans_at t) (record_of t) value n (colours_of P b r)
unfolding shade_all_bits
all_view P t value b f zero h r = rw (all_zero_lem P t value b)
all_view P t value b f (suc n) h r =
    rw (all_suc P t n value b) (shade_view P t (value n) (shade_all P t n value b) (h n (omega arith)) (all_four P t value b f n (λ k l. h k (omega arith))) r
    ∙ ap (shade_bits (scans_at t) (record_of t) (value n)) (all_view P t value b f n (λ k l. h k (omega arith)) r))

-- the barrier: the colours, and what it leaves alone
module _ {h : Heap} (F : Audited h) (old new : ℕ) (ho : There h.pages h.table old) (hn : There h.pages h.table new) where
  abbrev P : ℕ
  P = h.pages

  abbrev first : List ℕ
  first = shade h.pages h.table old h.bits

  four' : Four (page_words * h.pages) first
  four' = rw (shade_length P h.table old h.bits ho (four h F.sized)) (four h F.sized)

  pub barrier_other : (q : Part) → same_part q marked ≡ false → same_part q gray ≡ false → bit h.pages q (barrier h old new) ≡ is q h
  unfolding barrier
  barrier_other q x y = go (eqb (phase h) mark)
    where
      go : (b : Bool) → bit P q (cond b (shade P h.table new first) h.bits) ≡ is q h
      go true = fun_ext (λ v. shade_other P h.table new first hn four' q x y v ∙ shade_other P h.table old h.bits ho (four h F.sized) q x y v)
      go false = refl

  pub barrier_view : (r : List ℕ) → colours_of h.pages h.bits r ≡ colours_of h.pages h.bits h.roots → colours_of h.pages (barrier h old new) r ≡
      cond (marking (phase_of (phase h))) (shade_bits (scans_at h.table) (record_of h.table) new (shade_bits (scans_at h.table) (record_of h.table) old (colours_of h.pages h.bits h.roots)))
      (colours_of h.pages h.bits h.roots)
  unfolding barrier
  barrier_view r same = rw (marking_is (phase h)) (go (eqb (phase h) mark))
    where
      go : (b : Bool) → colours_of P (cond b (shade P h.table new first) h.bits) r ≡
          cond b (shade_bits (scans_at h.table) (record_of h.table) new (shade_bits (scans_at h.table) (record_of h.table) old (colours_of P h.bits h.roots))) (colours_of P h.bits h.roots)
      go true = shade_view P h.table new first hn four' r ∙
          ap (shade_bits (scans_at h.table) (record_of h.table) new) (shade_view P h.table old h.bits ho (four h F.sized) r ∙
          ap (shade_bits (scans_at h.table) (record_of h.table) old) same)
      go false = same

-- store to a record
pub store_view : {h : Heap} → Audited h → (w v : ℕ) → w < page_words * h.pages → There h.pages h.table v → There h.pages h.table (word h w) →
    view (with_arena (set h.arena w v) (with_bits (barrier h (word h w) v) h)) ≡ heap_store w v (view h)
unfolding view heap_store
store_view {h} F w v l k o = heap_eq
    (fun_ext (λ x. set_at h.arena w v (omega (arith, F.sized.arena)) x ∙ sym (update_is (λ (x : ℕ). get_or h.arena x 0) w v x)))
    (barrier_other F (word h w) v o k allocated refl refl) (ap (elements_in h.table) (barrier_other F (word h w) v o k pointer refl refl))
    refl (barrier_view F (word h w) v o k h.roots refl) refl refl refl refl

-- store to a global
pub store_global_view : {h : Heap} → Audited h → (g v : ℕ) → g < global_count → There h.pages h.table v → There h.pages h.table (global h g) →
    view (set_root (global_at g) v (with_bits (barrier h (global h g) v) h)) ≡ heap_store_global g v (view h)
unfolding view heap_store_global
store_global_view {h} F g v l k o = heap_eq refl
    (barrier_other F (global h g) v o k allocated refl refl) (ap (elements_in h.table) (barrier_other F (global h g) v o k pointer refl refl))
    refl (rw (lt-ltb g global_count l) (barrier_view F (global h g) v o k r same))
    (slots_same r h.roots (λ x b. rest x (omega arith)))
    (fun_ext (λ x. rw (
      set_at h.roots (first_global + g) v (omega (arith, F.sized.roots)) (first_global + x),
      eqb_shift first_global x g,
      update_is (globals_of h.roots) g v x,
    ) (glob x (eqb x g) refl)))
    (states_same (λ x. not (eqb x closed)) r h.roots (λ x b c. rest x (omega arith)))
    (ap phase_of (rest phase_at (omega arith)))
  where
    r : List ℕ
    r = set h.roots (first_global + g) v

    rest : (x : ℕ) → x ≢ first_global + g → get_or r x 0 ≡ get_or h.roots x 0
    rest = root_other F (first_global + g) v (omega arith)

    same : colours_of h.pages h.bits r ≡ colours_of h.pages h.bits h.roots
    same = colours_eq refl refl (rw (rest globals_state_at (omega arith))) (states_same (λ x. eqb x gray_state) r h.roots (λ x b c. rest x (omega arith)))

    glob : (x : ℕ) (b : Bool) → eqb x g ≡ b → cond (ltb x global_count) (cond b v (get_or h.roots (first_global + x) 0)) 0 ≡ cond b v (cond (ltb x global_count) (get_or h.roots (first_global + x) 0) 0)
    glob x true e = rw (eqb-true x g e, lt-ltb g global_count l)
    glob x false e = refl

-- shadings of equal values
all_cong : (sc : ℕ → Bool) (names : ℕ → ℕ) (g k : ℕ → ℕ) (n : ℕ) (B : ColourBits) → ((i : ℕ) → i < n → g i ≡ k i) → shade_all_bits sc names g n B ≡ shade_all_bits sc names k n B
unfolding shade_all_bits
all_cong sc names g k zero B f = refl
all_cong sc names g k (suc n) B f = rw (f n (omega arith), all_cong sc names g k n B (λ i l. f i (omega arith)))

update_id : {X : Type 0} (f : ℕ → X) (s : ℕ) (v : X) → f s ≡ v → update f s v ≡ f
update_id f s v e = fun_ext (λ x. rw (update_is f s v x) (go x (eqb x s) refl))
  where
    go : (x : ℕ) (b : Bool) → eqb x s ≡ b → cond b v (f x) ≡ f x
    go x true p = rw (eqb-true x s p) (sym e)
    go x false p = refl

-- scan a stack
pub scan_stack_view : {h : Heap} → Audited h → (s : ℕ) → s < stack_count → eqb (get_or h.roots (first_state + s) 0) closed ≡ false → ((i : ℕ) → i < slot_count → There h.pages h.table (slot h s i)) →
    view (scan slot_count (slot h s) (state_at s) h) ≡ heap_scan_stack s (view h)
unfolding view heap_scan_stack
scan_stack_view {h} F s l op th = heap_eq refl (fun_ext (λ v. all_other P t (slot h s) h.bits f slot_count th allocated refl refl v))
    (ap (elements_in t) (fun_ext (λ v. all_other P t (slot h s) h.bits f slot_count th pointer refl refl v))) refl
    (flagged ∙ ap (stack_scanned s) (all_view P t (slot h s) h.bits f slot_count th h.roots ∙
    all_cong (scans_at t) (record_of t) (slot h s) (slots_of h.roots s) slot_count (colours_of P h.bits h.roots) (λ i b. rw (lt-ltb s stack_count l, lt-ltb i slot_count b))))
    (slots_same r h.roots (λ x b. rest x (omega arith)))
    (globals_same r h.roots (λ x b c. rest x (omega arith)))
    (state_set (λ x. not (eqb x closed)) h.roots s open_state true F.sized.roots l refl ∙ update_id (states (λ x. not (eqb x closed)) h.roots) s true (rw (lt-ltb s stack_count l, op)))
    (ap phase_of (rest phase_at (omega arith)))
  where
    P : ℕ
    P = h.pages

    t : List ℕ
    t = h.table

    f : Four (page_words * h.pages) h.bits
    f = four h F.sized

    r : List ℕ
    r = set h.roots (first_state + s) open_state

    rest : (x : ℕ) → x ≢ first_state + s → get_or r x 0 ≡ get_or h.roots x 0
    rest = root_other F (first_state + s) open_state (omega arith)

    flagged : colours_of P (shade_all P t slot_count (slot h s) h.bits) r ≡ stack_scanned s (colours_of P (shade_all P t slot_count (slot h s) h.bits) h.roots)
    flagged = colours_eq refl refl (rw (rest globals_state_at (omega arith))) (state_set (λ x. eqb x gray_state) h.roots s open_state false F.sized.roots l refl)

-- scan the globals
abbrev flags : Bool → (ℕ → Bool) → ColourBits → ColourBits
flags a b B = record { marked = B.marked; gray = B.gray; gray_globals = a; gray_stack = b }

pub scan_globals_view : {h : Heap} → Audited h → ((i : ℕ) → i < global_count → There h.pages h.table (global h i)) → view (scan global_count (global h) globals_state_at h) ≡ heap_scan_globals global_count (view h)
unfolding view heap_scan_globals
scan_globals_view {h} F th = heap_eq refl (fun_ext (λ v. all_other P t (global h) h.bits f global_count th allocated refl refl v))
    (ap (elements_in t) (fun_ext (λ v. all_other P t (global h) h.bits f global_count th pointer refl refl v))) refl
    (all_view P t (global h) h.bits f global_count th r ∙ ap (shade_all_bits (scans_at t) (record_of t) (global h) global_count) flagged
    ∙ all_cong (scans_at t) (record_of t) (global h) (globals_of h.roots) global_count (flags false (states (λ x. eqb x gray_state) h.roots) (colours_of P h.bits h.roots))
    (λ i b. rw (lt-ltb i global_count b)))
    (slots_same r h.roots (λ x b. rest x (omega arith)))
    (globals_same r h.roots (λ x b c. rest x (omega arith)))
    (states_same (λ x. not (eqb x closed)) r h.roots (λ x b c. rest x (omega arith)))
    (ap phase_of (rest phase_at (omega arith)))
  where
    P : ℕ
    P = h.pages

    t : List ℕ
    t = h.table

    f : Four (page_words * h.pages) h.bits
    f = four h F.sized

    r : List ℕ
    r = set h.roots globals_state_at open_state

    rest : (x : ℕ) → x ≢ globals_state_at → get_or r x 0 ≡ get_or h.roots x 0
    rest = root_other F globals_state_at open_state (omega arith)

    flagged : colours_of P h.bits r ≡ flags false (states (λ x. eqb x gray_state) h.roots) (colours_of P h.bits h.roots)
    flagged = colours_eq refl refl (rw (root_at F globals_state_at open_state (omega arith) globals_state_at)) (states_same (λ x. eqb x gray_state) r h.roots (λ x b c. rest x (omega arith)))

-- a mark step
pub mark_view : {h : Heap} → Audited h → (w : ℕ) → w < page_words * h.pages → ((f : ℕ) → f < pointer_count h w → There h.pages h.table (word h (w + f))) →
    view (with_bits (scan_record w h) h) ≡ heap_mark_step w ((view h).elements.pointers w) (view h)
unfolding view scan_record heap_mark_step run_from words_at
mark_view {h} F w l th = heap_eq refl (fun_ext (λ v. all_other P t g b f n th allocated refl refl v ∙ out allocated refl v))
    (ap (elements_in t) (fun_ext (λ v. all_other P t g b f n th pointer refl refl v ∙ out pointer refl v))) refl
    (all_view P t g b f n th h.roots ∙ ap (shade_all_bits (scans_at t) (record_of t) g n) (colours_eq (fun_ext (λ v. out marked refl v)) gray' refl refl))
    refl refl refl refl
  where
    P : ℕ
    P = h.pages

    t : List ℕ
    t = h.table

    g : ℕ → ℕ
    g = λ f. word h (w + f)

    b : List ℕ
    b = put_bit (page_words * h.pages) gray w false h.bits

    n : ℕ
    n = pointer_count h w

    f : Four (page_words * h.pages) b
    f = rw (part_length (page_words * h.pages) gray w false h.bits) (four h F.sized)

    out : (q : Part) → same_part q gray ≡ false → (v : ℕ) → bit P q b v ≡ is q h v
    out q e v = rw (part_at (page_words * h.pages) q gray w false h.bits l (four h F.sized) v, e)

    gray' : bit P gray b ≡ update (is gray h) w false
    gray' = fun_ext (λ v. rw (part_at (page_words * h.pages) gray gray w false h.bits l (four h F.sized) v, update_is (is gray h) w false v))
