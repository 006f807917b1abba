-- NO ROOM, in the words of request [2] (model's specs/Room.antt), of every allocation on a heap that passes the audit: 9 is given exactly when after the
-- sweeps no swept span of the kind has a free element and no run of pages is long enough; every span is swept then; and no other refusal changes a
-- word.
use Prim.Native.Nat.{ℕ, zero, suc, ◌+◌, ◌-◌, ◌/◌, ◌<◌, ◌≤◌}
use mathlib.Core.Bool.{Bool, true, false, not, cond, ◌||◌, or-true, true≢false}
use mathlib.Core.List.{List}
use mathlib.Core.Logic.{inl, inr, ◌≢◌}
use mathlib.Core.Path.{◌≡◌, refl, ap, sym, ◌∙◌, subst}
use native.Mathlib.Omega.{arith}
use lib.ListN.{get_or, set}
use lib.Dec.{T, eqb, leb, ltb, leb→le}
use borrow.Author.Tests.{eqb-true, eqb-false, eq-eqb, ne_eqb, ltb-true, ltb-false, le-leb, leb-true, leb-false, not-true, not-false}
use Rattle.model.specs.Bounded.{first_below, all_below, ◌implies◌, ◌≤?◌}
use Rattle.model.specs.Memory.{Heap, phase, phase_at, slot_at, address_of, stack_count, slot_count, unswept_flag, state, closed, word_bytes}
use Rattle.model.specs.Answers.{refusal, ◌given◌, ◌or_else◌, no_room, bad_stack, bad_slot, bad_size}
use Rattle.model.specs.Bitmaps.{is, allocated}
use Rattle.model.specs.Classes.{kind_of, pages_for, max_size}
use Rattle.model.specs.Spans.{kind_entry, kind_at, is_free, elements, element_start}
use Rattle.model.specs.Checks.{slot_refusal}
use Rattle.model.specs.Allocate.{free_element, has_room, span_with_room, run_length, is_run, is_shortest, best_run, element_free, pages_free, room_for, room_refusal, new_word, of_kind, any_span, is_next, next_unswept, swept_until, last_of, room_sweeps, swept_for_room, allocate_refusal, place_record, allocate}
use Rattle.model.specs.Facts.{IsSpan, Audited}
use Rattle.model.specs.Lent.{AllSwept}
use Rattle.model.specs.Room.{Sweeps, none, more, NoElementFree, NoPagesFree, NoRoom}
use Rattle.model.specs.declared.Answer.TheVariants.{Refused, Value}
use Rattle.model.proofs.Tests.{is_true, of_true, and_iff}
use Rattle.model.proofs.Bounded.{first_props, some_fails}
use Rattle.model.proofs.Rules.{tests}
use Rattle.model.proofs.Spans.{fits}
use Rattle.model.proofs.Classes.{takes}
use Rattle.model.proofs.Sweeps.{until_sweeps, room_sweeps_lem, before_sweeps, last_roots}
use Rattle.keeps.proofs.Roots.{root_other}
use Rattle.model.proofs.Checks.{allocate_passed}
use Rattle.keeps.proofs.SweptTable.{unswept_less}
use Rattle.keeps.proofs.Swept.{span_kept, sweeps_kept}
use Rattle.keeps.proofs.Unswept.{Ended, until_ends, two_loops}
use Rattle.keeps.proofs.Beside.{room_here, room_other, kind_beside, as_test}

no_test : (b : Bool) → (T b → ⊥) → b ≡ false
no_test true f = absurd (f tt)
no_test false f = refl

-- THE KIND'S SPANS ARE ALL SWEPT: sweeps of others make no room in them
abbrev pub KindSwept : Heap → ℕ → Type 0
KindSwept h kind = (x : ℕ) → IsSpan h.table x → unswept_flag ≤ kind_entry h.table x → kind_at h.table x ≢ kind

-- none that passes a test is unswept
passed_over : {h : Heap} → Audited h → (test : Heap → ℕ → Bool) → h.pages ≤ next_unswept test h → (x : ℕ) → IsSpan h.table x →
    unswept_flag ≤ kind_entry h.table x → T (test h x) → ⊥
unfolding next_unswept
passed_over {h} F test l x i k d =
    true≢false (sym (of_true _ (as_test h.table x (test h x) i k d))
    ∙ (first_props h.pages (is_next test h)).before x (omega (arith, F.spans.inside x i, fits F.spans x i)))

pub kind_swept : {h : Heap} → Audited h → (kind : ℕ) → h.pages ≤ next_unswept (of_kind kind) h → KindSwept h kind
kind_swept {h} F kind l x i k e = passed_over F (of_kind kind) l x i k (is_true _ (eq-eqb (kind_at h.table x) kind e))

pub full_stays : {h : Heap} {gs : List Heap} (kind : ℕ) → Sweeps h gs → Audited h → element_free kind h ≡ false → KindSwept h kind → element_free kind (last_of h gs) ≡ false
unfolding last_of
full_stays kind none F e n = e
full_stays {h} kind (more s i u x) F e n =
    full_stays kind x (span_kept F s i u) (room_here F s i u kind e ∙ no_test _ (room_other F s i u kind (n s i u)))
    (λ y j k. rw (kind_beside F s i u y j k) (let w = unswept_less F s i y j k in n y w.0 w.1))

-- what is found after all sweeps is what was found after those of the kind
pub found_same : {h : Heap} → Audited h → (kind n : ℕ) → element_free kind (last_of h (room_sweeps kind n h)) ≡ element_free kind (swept_until (element_free kind) (of_kind kind) h)
found_same {h} F kind n = rw (two_loops kind n h) (go (element_free kind k) refl (until_ends (element_free kind) (of_kind kind) F))
  where
    k : Heap
    k = swept_until (element_free kind) (of_kind kind) h

    K : Audited (swept_until (element_free kind) (of_kind kind) h)
    K = sweeps_kept (until_sweeps h.pages (element_free kind) (of_kind kind) h) F

    go : (b : Bool) → element_free kind k ≡ b → Ended (element_free kind) (of_kind kind) k → element_free kind (cond b k (swept_until (pages_free n) any_span k)) ≡ b
    go true e x = e
    go false e (inl x) = absurd (true≢false (sym (of_true _ x) ∙ e))
    go false e (inr x) = full_stays kind (until_sweeps k.pages (pages_free n) any_span k) K e (kind_swept K kind x)

-- "no swept span of the kind has a free element"
pub element_words_lem : (h : Heap) → Audited h → (kind : ℕ) → element_free kind h ≡ false → NoElementFree h kind
unfolding span_with_room free_element
element_words_lem h F kind e s i k j l =
    is_true _ (not-false (is allocated h (element_start h.table s j)) ((first_props (elements h.table s) free).before j (full (ltb (free_element h s) (elements h.table s)) refl)))
  where
    free : ℕ → Bool
    free k = not (is allocated h (element_start h.table s k))

    full : (b : Bool) → ltb (free_element h s) (elements h.table s) ≡ b → j < free_element h s
    full true p =
        let x : T (has_room h kind s) = simp tests ((i, k), ltb-true (free_element h s) (elements h.table s) p) in
        absurd (true≢false (sym (of_true _ x) ∙ (first_props h.pages (has_room h kind)).before s
        (omega (arith, ltb-false (span_with_room h kind) h.pages e, F.spans.inside s i, fits F.spans s i))))
    full false p = omega (arith, ltb-false (free_element h s) (elements h.table s) p)

element_due : (h : Heap) (kind : ℕ) → NoElementFree h kind → element_free kind h ≡ false
unfolding span_with_room free_element
element_due h kind f = no_test _ (λ x.
    let s = span_with_room h kind in
    let y = simp tests at (is_true (has_room h kind s) ((first_props h.pages (has_room h kind)).holds (ltb-true s h.pages (of_true _ x)))) in
    let k = free_element h s in
    let a = (first_props (elements h.table s) (λ k. not (is allocated h (element_start h.table s k)))).holds y.1 in
    true≢false (sym (of_true (is allocated h (element_start h.table s k)) (f s y.0.0 y.0.1 k y.1)) ∙ not-true (is allocated h (element_start h.table s k)) a))

-- "no run of pages is long enough": n free pages in a row lie in a run of them, and of the runs that are long enough one is the shortest
module _ (P : ℕ) (t : List ℕ) (n : ℕ) where
  run_at : (g : ℕ) → 0 < n → g + n ≤ P → (eqb g 0 || not (is_free t (g - 1))) ≡ true → ((k : ℕ) → k < n → is_free t (g + k) ≡ true) → is_run P t n g ≡ true
  unfolding is_run run_length
  run_at g m l e f = rw (first, e) (le-leb n (run_length P t g) (long (leb n (run_length P t g)) refl))
    where
      first : is_free t g ≡ true
      first = let z : g + 0 ≡ g = omega arith in rw z at (f 0 m)

      long : (b : Bool) → leb n (run_length P t g) ≡ b → n ≤ run_length P t g
      long true p = leb-true n (run_length P t g) p
      long false p =
          let x = leb-false n (run_length P t g) p in
          let y = (first_props (P - g) (λ k. not (is_free t (g + k)))).holds (omega arith) in
          absurd (true≢false (sym (f (run_length P t g) x) ∙ not-true _ y))

  -- down from page g to the first page of its run
  run_from_lem : (g : ℕ) → 0 < n → g + n ≤ P → ((k : ℕ) → k < n → is_free t (g + k) ≡ true) → (r : ℕ) × (r < P) × (is_run P t n r ≡ true)
  run_from_lem zero m l f = (0, omega arith, run_at 0 m l refl f)
  run_from_lem (suc g) m l f = go (is_free t g) refl (run_from_lem g m (omega arith))
    where
      lower : is_free t g ≡ true → (k : ℕ) → k < n → is_free t (g + k) ≡ true
      lower e zero x = let z : g + 0 ≡ g = omega arith in rw z e
      lower e (suc k) x = let z : g + suc k ≡ suc g + k = omega arith in rw z (f k (omega arith))

      go : (b : Bool) → is_free t g ≡ b → (((k : ℕ) → k < n → is_free t (g + k) ≡ true) → (r : ℕ) × (r < P) × (is_run P t n r ≡ true)) →
          (r : ℕ) × (r < P) × (is_run P t n r ≡ true)
      go true e rest = rest (lower e)
      go false e rest = (suc g, omega arith, run_at (suc g) m l (let z : suc g - 1 ≡ g = omega arith in rw (z, e) (or-true (eqb (suc g) 0))) f)

  abbrev Shortest : Type 0
  Shortest = (k : ℕ) × (k < P) × (is_shortest P t n k ≡ true)

  -- a run that is long enough is no longer than any, or another is shorter
  shorter : (r : ℕ) → r < P → is_run P t n r ≡ true → ((k : ℕ) → k < P → is_run P t n k ≡ true → run_length P t k < run_length P t r → Shortest) → Shortest
  unfolding is_shortest ◌implies◌
  shorter r l e rest = go (all_below P (λ k. is_run P t n k implies run_length P t r ≤? run_length P t k)) refl
    where
      next : (k : ℕ) → k < P → (a : Bool) → is_run P t n k ≡ a → (a implies run_length P t r ≤? run_length P t k) ≡ false → Shortest
      next k x true y q = rest k x y (leb-false (run_length P t r) (run_length P t k) q)
      next k x false y q = absurd (true≢false q)

      go : (c : Bool) → all_below P (λ k. is_run P t n k implies run_length P t r ≤? run_length P t k) ≡ c → Shortest
      go true p = (r, l, rw (e, p))
      go false p = let x = some_fails P (λ k. is_run P t n k implies run_length P t r ≤? run_length P t k) p in next x.0 x.1 (is_run P t n x.0) refl x.2

  -- .. and so on down, at most m times
  shortest_from : (m r : ℕ) → r < P → is_run P t n r ≡ true → run_length P t r ≤ m → Shortest
  shortest_from zero r l e b = shorter r l e (λ k x y z. absurd (omega arith))
  shortest_from (suc m) r l e b = shorter r l e (λ k x y z. shortest_from m k x y (omega arith))

  pub best_there : (g : ℕ) → 0 < n → g + n ≤ P → ((k : ℕ) → k < n → is_free t (g + k) ≡ true) → best_run P t n < P
  unfolding best_run
  best_there g m l f = let r = run_from_lem g m l f in go (shortest_from (run_length P t r.0) r.0 r.1 r.2 (omega arith)) (ltb (best_run P t n) P) refl
    where
      go : (k : ℕ) × (k < P) × (is_shortest P t n k ≡ true) → (b : Bool) → ltb (best_run P t n) P ≡ b → best_run P t n < P
      go x true e = ltb-true (best_run P t n) P e
      go x false e = absurd (true≢false (sym x.2 ∙ (first_props P (is_shortest P t n)).before x.0 (omega (arith, x.1, ltb-false (best_run P t n) P e))))

-- .. both ways
pages_words : (h : Heap) (n : ℕ) → 0 < n → pages_free n h ≡ false → NoPagesFree h n
pages_words h n m e g l = go (ltb k n) refl
  where
    used : ℕ → Bool
    used k = not (is_free h.table (g + k))

    k : ℕ
    k = first_below n used

    go : (b : Bool) → ltb (first_below n used) n ≡ b → (k : ℕ) × (k < n) × T (not (is_free h.table (g + k)))
    go true p = (k, ltb-true k n p, is_true _ ((first_props n used).holds (ltb-true k n p)))
    go false p = absurd (omega (
      arith,
      ltb-false (best_run h.pages h.table n) h.pages e,
      best_there h.pages h.table n g m l (λ j x. not-false (is_free h.table (g + j)) ((first_props n used).before j (omega (arith, ltb-false k n p)))),
    ))

pages_due : (h : Heap) (n : ℕ) → NoPagesFree h n → pages_free n h ≡ false
unfolding best_run is_shortest is_run run_length
pages_due h n f = no_test _ (λ x.
    let r = best_run h.pages h.table n in
    let y = simp and_iff at (is_true (is_shortest h.pages h.table n r) ((first_props h.pages (is_shortest h.pages h.table n)).holds (ltb-true r h.pages (of_true _ x)))) in
    let l = leb→le n (run_length h.pages h.table r) y.0.1 in
    let free = first_props (h.pages - r) (λ k. not (is_free h.table (r + k))) in
    let z = f r (omega (arith, free.within, ltb-true r h.pages (of_true _ x))) in
    true≢false (sym (of_true _ z.2) ∙ free.before z.0 (omega (arith, z.1))))

-- no refusal that is tested before the sweeps is 9
before_not : (h : Heap) (s i size p : ℕ) → allocate_refusal h s i size p ≢ no_room
unfolding allocate_refusal slot_refusal ◌given◌ ◌or_else◌
before_not h s i size p =
    go (leb stack_count s || eqb (state h s) closed) (leb slot_count i) (eqb size 0 || ltb max_size size || ltb (size / word_bytes) p)
  where
    go : (a b c : Bool) →
        let slot = cond (eqb (cond a bad_stack 0) 0) (cond b bad_slot 0) (cond a bad_stack 0) in cond (eqb slot 0) (cond c bad_size 0) slot ≢ no_room
    go true b c = omega arith
    go false true c = omega arith
    go false false true = omega arith
    go false false false = omega arith

-- what an allocation comes to after its sweeps: refused, or not
after_sweeps : (h : Heap) (s i size p : ℕ) → allocate_refusal h s i size p ≡ 0 → let g = swept_for_room h size p in
    (refusal (allocate h s i size p).answer ≡ room_refusal g (kind_of size p) (pages_for size)) ×
    (room_refusal g (kind_of size p) (pages_for size) ≢ 0 → (allocate h s i size p).heap ≡ g)
unfolding allocate place_record
after_sweeps h s i size p e = rw e (go (eqb (room_refusal g kind n) 0) refl, λ d. rw (ne_eqb (room_refusal g kind n) 0 d))
  where
    kind : ℕ
    kind = kind_of size p

    n : ℕ
    n = pages_for size

    g : Heap
    g = swept_for_room h size p

    go : (b : Bool) → eqb (room_refusal g kind n) 0 ≡ b → refusal (cond b (Value (address_of (new_word g kind n))) (Refused (room_refusal g kind n))) ≡ room_refusal g kind n
    go true q = sym (eqb-true (room_refusal g kind n) 0 q)
    go false q = refl

room_given : (h : Heap) (kind n : ℕ) → room_refusal h kind n ≡ cond (room_for h kind n) 0 no_room
unfolding room_refusal ◌given◌
room_given h kind n = go (room_for h kind n)
  where
    go : (b : Bool) → cond (not b) no_room 0 ≡ cond b 0 no_room
    go true = refl
    go false = refl

-- what the sweeps leave passes the audit
room_kept : {h : Heap} → Audited h → (kind n : ℕ) → Audited (last_of h (room_sweeps kind n h))
room_kept {h} F kind n = sweeps_kept (room_sweeps_lem kind n h) F

-- neither they nor the record's place change the phase
phase_stays : {h : Heap} → Audited h → (s i size p : ℕ) → allocate_refusal h s i size p ≡ 0 → phase (allocate h s i size p).heap ≡ phase h
unfolding allocate place_record
phase_stays {h} F s i size p e = rw e (go (eqb (room_refusal g (kind_of size p) (pages_for size)) 0))
  where
    g : Heap
    g = swept_for_room h size p

    S : Sweeps h (room_sweeps (kind_of size p) (pages_for size) h)
    S = room_sweeps_lem (kind_of size p) (pages_for size) h

    same : get_or (swept_for_room h size p).roots phase_at 0 ≡ phase h
    same = rw (last_roots S)

    go : (b : Bool) → get_or (cond b (set g.roots (slot_at s i) (address_of (new_word g (kind_of size p) (pages_for size)))) g.roots) phase_at 0 ≡ phase h
    go true =
        let A = allocate_passed h s i size p e in
        root_other (room_kept F (kind_of size p) (pages_for size)) (slot_at s i) _ (omega (arith, A.stack.below, A.slot)) phase_at (omega (arith, A.stack.below, A.slot)) ∙ same
    go false = same

-- where nothing fits, neither has room, and every span is swept
module _ {h : Heap} (F : Audited h) (kind n : ℕ) (e : room_for (last_of h (room_sweeps kind n h)) kind n ≡ false) where
  abbrev g : Heap
  g = last_of h (room_sweeps kind n h)

  pub neither : (element_free kind (last_of h (room_sweeps kind n h)) ≡ false) × (pages_free n (last_of h (room_sweeps kind n h)) ≡ false)
  neither = go (element_free kind g) (pages_free n g) e
    where
      go : (a b : Bool) → (a || b) ≡ false → (a ≡ false) × (b ≡ false)
      go true b p = absurd (true≢false p)
      go false true p = absurd (true≢false p)
      go false false p = (refl, refl)

  pub all_swept : AllSwept (last_of h (room_sweeps kind n h)).table
  all_swept s i = go (leb unswept_flag (kind_entry g.table s)) refl
    where
      k : Heap
      k = swept_until (element_free kind) (of_kind kind) h

      K : Audited (swept_until (element_free kind) (of_kind kind) h)
      K = sweeps_kept (until_sweeps h.pages (element_free kind) (of_kind kind) h) F

      -- the sweeps for pages were made, and have ended without
      last : g ≡ swept_until (pages_free n) any_span k
      last = two_loops kind n h ∙ ap (λ b. cond b k (swept_until (pages_free n) any_span k)) (sym (found_same F kind n) ∙ neither.0)

      ended : g.pages ≤ next_unswept any_span g
      ended = over (subst (Ended (pages_free n) any_span) (sym last) (until_ends (pages_free n) any_span K))
        where
          over : Ended (pages_free n) any_span g → g.pages ≤ next_unswept any_span g
          over (inl x) = absurd (true≢false (sym (of_true _ x) ∙ neither.1))
          over (inr x) = x

      go : (b : Bool) → leb unswept_flag (kind_entry g.table s) ≡ b → kind_entry g.table s < unswept_flag
      go true q = absurd (passed_over (room_kept F kind n) any_span ended s i (leb-true unswept_flag (kind_entry g.table s) q) tt)
      go false q = leb-false unswept_flag (kind_entry g.table s) q

-- THE LAW
pub no_room_lem : {h : Heap} → Audited h → (s i size p : ℕ) → NoRoom h s i size p
no_room_lem {h} F s i size p = go (eqb (allocate_refusal h s i size p) 0) refl
  where
    kind : ℕ
    kind = kind_of size p

    n : ℕ
    n = pages_for size

    g : Heap
    g = swept_for_room h size p

    go : (a : Bool) → eqb (allocate_refusal h s i size p) 0 ≡ a → NoRoom h s i size p
    go false q =
        let d = eqb-false (allocate_refusal h s i size p) 0 q in
        let b = before_sweeps h s i size p d in
        record {
          given = λ x. absurd (before_not h s i size p (sym b.0 ∙ x));
          due = λ e _ _. absurd (d e);
          leaves = λ x. absurd (before_not h s i size p (sym b.0 ∙ x));
          swept = λ x. absurd (before_not h s i size p (sym b.0 ∙ x));
          others = λ _ _. b.1;
          stays = ap phase b.1;
        }
    go true q = after (room_for g kind n) refl
      where
        e : allocate_refusal h s i size p ≡ 0
        e = eqb-true (allocate_refusal h s i size p) 0 q

        after : (b : Bool) → room_for g kind n ≡ b → NoRoom h s i size p
        after true m =
            let z : refusal (allocate h s i size p).answer ≡ 0 = (after_sweeps h s i size p e).0 ∙ room_given g kind n ∙ ap (λ b. cond b 0 no_room) m in
            record {
              given = λ x. absurd (omega arith);
              due = λ _ f k. absurd (true≢false (sym m ∙ rw (element_due g kind f, pages_due g n k)));
              leaves = λ x. absurd (omega arith);
              swept = λ x. absurd (omega arith);
              others = λ d _. absurd (d z);
              stays = phase_stays F s i size p e;
            }
        after false m =
            let r : room_refusal g kind n ≡ no_room = room_given g kind n ∙ ap (λ b. cond b 0 no_room) m in
            let x = after_sweeps h s i size p e in
            let A = allocate_passed h s i size p e in
            let T = takes size p A.some A.limit A.pointers in
            let N = neither F kind n m in
            let q : (allocate h s i size p).heap ≡ g = x.1 (omega arith) in
            record {
              given = λ _. rw q (e, element_words_lem g (room_kept F kind n) kind N.0, pages_words g n T.fits.pages N.1);
              due = λ _ _ _. x.0 ∙ r;
              leaves = λ _. rw q (all_swept F kind n m);
              swept = λ _. q;
              others = λ _ d. absurd (d (x.0 ∙ r));
              stays = phase_stays F s i size p e;
            }
