-- The search for room: what each way out of it has found, and how the chain of refusals goes on.
use Prim.Native.Nat.{ℕ, ◌<◌}
use mathlib.Core.Bool.{Bool, true, false, not, true≢false}
use mathlib.Core.List.{List}
use mathlib.Core.Logic.{inl}
use mathlib.Core.Path.{◌≡◌, refl, ap, sym, ◌∙◌}
use native.Mathlib.Omega.{arith}
use lib.Dec.{eqb}
use borrow.Author.Tests.{lt-ltb, le-ltb, eq-eqb}
use Rattle.model.specs.Memory.{Heap, phase, sweep, first_word}
use Rattle.model.specs.Answers.{◌given◌, ◌or_else◌}
use Rattle.model.specs.Classes.{pages_for}
use Rattle.model.specs.Checks.{slot_refusal, size_refusal}
use Rattle.model.specs.Spans.{kind_entry, elements}
use Rattle.model.specs.Allocate.{free_element, has_room, span_with_room, best_run, element_free, pages_free, of_kind, any_span, room_refusal, new_word, last_of, room_sweeps, allocate_refusal, allocate_sweeps}
use Rattle.model.specs.Facts.{IsSpan, Audited}
use Rattle.model.specs.Lent.{AllSwept, Told}
use Rattle.model.proofs.Tests.{is_true}
use Rattle.model.proofs.Bounded.{first_props}
use Rattle.model.proofs.Rules.{tests}
use Rattle.model.proofs.Checks.{passes}
use Rattle.model.proofs.Classes.{size_fits}
use Rattle.model.proofs.Sweeps.{until_sweeps}
use Rattle.keeps.proofs.Swept.{sweeps_kept}
use Rattle.keeps.proofs.Unswept.{loop_ends, loop_none, two_loops}
use Rattle.keeps.proofs.Room.{found_same}
use Rattle.classes.specs.Shape.{Shaped}
use Rattle.classes.specs.declared.Shape.{Shape}
use Rattle.element_search.specs.Free.{FreeOf}
use Rattle.page_runs.specs.Found.{FoundPage}
use Rattle.units.specs.declared.Page.{Page}
use Rattle.units.specs.declared.Word.{Word}
use Rattle.std.specs.Prelude.{Option, Some, None, Result, Ok, Err, IfOk, IsErrAnd}
use Rattle.model.specs.Refusals.{number_of}
use Rattle.model.proofs.Refusals.{number_tested, refusal_first, none_first}
use Rattle.model.specs.declared.Refusal.{Refusal}
use Rattle.model.specs.declared.Refusal.TheVariants.{NoRoom}
use Rattle.room_sweeps.specs.Needs.{KindDone, PagesDone}
use Rattle.record_room.specs.Needs.{Found, PlaceOf, PlaceFor}
use Rattle.record_room.specs.declared.RecordPlace.{RecordPlace}

-- the span that the search finds: it is one, of the kind, and has a free element
pub record Suits (h : Heap) (kind s : ℕ) : Type 0 where
  pub span : IsSpan h.table s
  pub same : kind_entry h.table s ≡ kind
  pub free : free_element h s < elements h.table s

pub span_found : (h : Heap) (kind : ℕ) → span_with_room h kind < h.pages → Suits h kind (span_with_room h kind)
unfolding span_with_room
span_found h kind l =
    let x = simp tests at (is_true _ ((first_props h.pages (has_room h kind)).holds l)) in
    record { span = x.0.0; same = x.0.1; free = x.1 }

-- ELEMENTS: one is free, or no span is unswept
module _ {h : Heap} (kind : ℕ) where
  pub free_at_once : {word : Word} → FreeOf h kind (Some word) → KindDone kind h h (Some word)
  free_at_once X = record { heap = sym (loop_ends (element_free kind) (of_kind kind) h (inl (is_true _ X.0))); free = X }

  pub none_to_sweep : FreeOf h kind None → AllSwept h.table → KindDone kind h h None
  none_to_sweep X A = record { heap = sym (loop_none (element_free kind) (of_kind kind) h A); free = X }

-- PAGES: a run is long enough, or no span is unswept
module _ (h : Heap) (n : ℕ) where
  pub run_at_once : {page : Page} → FoundPage h.pages (best_run h.pages h.table n) (Some page) → PagesDone n h h (Some page)
  run_at_once X = record { heap = sym (loop_ends (pages_free n) any_span h (inl (is_true _ (lt-ltb _ _ X.1)))); run = X }

  pub none_to_return : FoundPage h.pages (best_run h.pages h.table n) None → AllSwept h.table → PagesDone n h h None
  none_to_return X A = record { heap = sym (loop_none (pages_free n) any_span h A); run = X }

-- outside the sweep phase no span is unswept
pub told : {h : Heap} → Audited h → {b : Bool} → b ≡ not (eqb (phase h) sweep) → Told b h.table
told {h} F e z = F.phases.swept (λ p. true≢false (sym z ∙ e ∙ ap not (eq-eqb (phase h) sweep p)))

-- what the sweeps for an element leave passes the audit
pub element_kept : {h k : Heap} (kind : ℕ) {x : Option Word} → Audited h → KindDone kind h k x → Audited k
element_kept {h} kind F D = rw D.heap (sweeps_kept (until_sweeps h.pages (element_free kind) (of_kind kind) h) F)

-- THE WAYS OUT. What the search for a record of a kind has found on the heap h', the last of the sweeps for it
abbrev pub Finds : Heap → ℕ → ℕ → Result RecordPlace Refusal → Heap → Type 0
Finds h kind n r h' = let g = last_of h (room_sweeps kind n h) in Found g (room_refusal g kind n) kind n r h'.table h'.bits

-- by the heap k that the sweeps for an element left
module _ {h k : Heap} (F : Audited h) (kind n : ℕ) where
  -- with a free element it is the last heap
  pub found_old : {word : Word} → KindDone kind h k (Some word) → (place : RecordPlace) → place.word.0 ≡ word.0 → place.fresh ≡ false → Finds h kind n (Ok place) k
  unfolding room_refusal new_word ◌given◌
  found_old D place w f =
      let o = D.free.0 in
      let q : last_of h (room_sweeps kind n h) ≡ k = two_loops kind n h ∙ rw (← D.heap, o) in
      rw q (record { number = rw o; place = record { word = rw o (w ∙ D.free.1); fresh = rw (o, f) }; table = refl; bits = refl })

  -- without one that of the sweeps for pages is, k', with their best run
  module _ (D : KindDone kind h k None) {k' : Heap} {r : Option Page} (E : PagesDone n k k' r) where
    last : last_of h (room_sweeps kind n h) ≡ k'
    last = two_loops kind n h ∙ rw (← D.heap, D.free) (sym E.heap)

    full : element_free kind k' ≡ false
    full = ap (element_free kind) (sym last) ∙ found_same F kind n ∙ rw (← D.heap) D.free

    pub found_new : {page : Page} → FoundPage k'.pages (best_run k'.pages k'.table n) (Some page) → (place : RecordPlace) → place.word.0 ≡ first_word page.0 →
        place.fresh ≡ true → Finds h kind n (Ok place) k'
    unfolding room_refusal new_word ◌given◌
    found_new X place w f =
        rw last (record {
          number = rw (full, lt-ltb (best_run k'.pages k'.table n) k'.pages X.1);
          place = record { word = rw (full, ← X.0) w; fresh = rw (full, f) };
          table = refl;
          bits = refl;
        })

    pub found_none : FoundPage k'.pages (best_run k'.pages k'.table n) None → Finds h kind n (Err NoRoom) k'
    unfolding room_refusal ◌given◌
    found_none X = rw last (record { number = rw (full, le-ltb (best_run k'.pages k'.table n) k'.pages (omega arith)); place = tt; table = refl; bits = refl })

-- THE CHAIN OF REFUSALS: that of the slot or the size, handed on before any sweep
module _ (h : Heap) (s i size q : ℕ) where
  refused_before : (x : Result RecordPlace Refusal) (r : Refusal) → IsErrAnd x (λ e. e ≡ r) → number_of r ≡ allocate_refusal h s i size q → PlaceFor s i size q h h x
  unfolding allocate_sweeps last_of ◌or_else◌
  refused_before (Ok place) r f z = absurd f
  refused_before (Err e) r f z =
      let n : eqb (allocate_refusal h s i size q) 0 ≡ false = rw z at (number_tested r) in
      rw f (record { found = rw n (record { number = z; place = tt; table = refl; bits = refl }); shaped = tt })

  pub slot_refused : (x : Result RecordPlace Refusal) (r : Refusal) → IsErrAnd x (λ e. e ≡ r) → number_of r ≡ slot_refusal h s i → PlaceFor s i size q h h x
  unfolding allocate_refusal
  slot_refused x r f e = refused_before x r f (rw (← e) (sym (refusal_first r (size_refusal size q))))

  module _ (z : 0 ≡ slot_refusal h s i) where
    passed : allocate_refusal h s i size q ≡ size_refusal size q
    unfolding allocate_refusal
    passed = rw (← z) (none_first (size_refusal size q))

    pub size_refused : (x : Result RecordPlace Refusal) (r : Refusal) → IsErrAnd x (λ e. e ≡ r) → number_of r ≡ size_refusal size q → PlaceFor s i size q h h x
    size_refused x r f e = refused_before x r f (e ∙ sym passed)

    pub not_refused : 0 ≡ size_refusal size q → {h' : Heap} {shape : Shape} → Shaped size q shape → (r : Result RecordPlace Refusal) → PlaceOf shape h h' r →
        PlaceFor s i size q h h' r
    unfolding allocate_sweeps ◌or_else◌
    not_refused d {h'} {shape} S r P =
        let n : allocate_refusal h s i size q ≡ 0 = passed ∙ sym d in
        record { found = rw n (rw (S.kind, S.pages) at P.found); shaped = shaped r P.same }
      where
        shaped : (r : Result RecordPlace Refusal) → IfOk r (λ place. place.shape ≡ shape) → IfOk r (λ place. Shaped size q place.shape)
        shaped (Ok place) e = rw e S
        shaped (Err x) e = tt

-- a size that passed has pages
pub size_pages : (size q : ℕ) → 0 ≡ size_refusal size q → 0 < pages_for size
size_pages size q e = let x = simp passes at (sym e) in (size_fits size x.0.1).pages

-- what is said of a page table and bitmaps, of those that are left in their place
pub left_in : (Q : List ℕ → List ℕ → Type 0) {t t' b b' : List ℕ} → t' ≡ t → b' ≡ b → Q t b → Q t' b'
left_in Q e f q = rw (e, f) q
