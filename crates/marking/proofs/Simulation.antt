-- Each call but the allocation on a heap that represents a state is the abstract call on that state.
use mathlib.Core.Path.{◌≡◌, refl, sym, ◌∙◌}
use mathlib.Core.Bool.{Bool, true, false, not, cond}
use mathlib.Core.Logic.{◌⊎◌, inl, inr}
use Prim.Native.Nat.{ℕ, ◌+◌, ◌≤◌, ◌<◌}
use native.Mathlib.Omega.{arith}
use lib.Dec.{T, eqb, eqb→eq}
use borrow.Author.Tests.{ne_eqb}
use Rattle.marking.specs.Updates.{update, update2}
use Rattle.model.proofs.Tests.{of_true, of_false, is_true}
use Rattle.marking.proofs.Updates.{update_same, update_other, test, cond_case, differ, update_is}
use Rattle.model.specs.Memory.{slot_count}
use Rattle.marking.proofs.Graph.{set_slot, set_field, empty_stack}
use Rattle.marking.proofs.Colours.{Marked, shade, shade_all, ungray, set_gray_stack, shade_grows}
use Rattle.marking.specs.Event.{Source}
use Rattle.marking.proofs.Operations.{State, graph_source, idle, assign, store, reset_stack, start, finish, end_cycle, scan_stack, scan_globals, mark_step, sweep_step, perform, mark_at}
use Rattle.marking.specs.WordHeap.{off, mark, sweep, marking, ColourBits, Elements, WordHeap, LegalColours, Alike, barrier_bits, shade_bits, shade_all_bits, heap_assign, heap_store, heap_store_global, heap_put, heap_reset_stack, heap_start, heap_scan_stack, heap_scan_globals, heap_mark_step, heap_finish, heap_sweep, heap_end_cycle, named}
use Rattle.marking.proofs.Safety.{Invariant}
use Rattle.marking.proofs.Represents.{Layout, address, Live, SameColours, Represents, same_place, shade_colours, shade_all_colours, assign_words, store_words, store_global_words, put_words_lem, empty_stack_words}

-- nil, or a record that is there
pub nil_or_live : {S : State} → Invariant S → (x : ℕ) → T (S.kept x) → (x ≡ 0) ⊎ Live S.allocated x
nil_or_live {S} I x k = go (test (eqb x 0))
  where
    go : (T (eqb x 0) ⊎ T (not (eqb x 0))) → (x ≡ 0) ⊎ Live S.allocated x
    go (inl e) = inl (eqb→eq x 0 e)
    go (inr e) = inr (omega (arith, differ x 0 e), I.kept_allocated x k)

same_flag : {X : Type 0} (h k : ℕ → X) (i : ℕ) (v : X) → ((x : ℕ) → h x ≡ k x) → (x : ℕ) → update h i v x ≡ update k i v x
same_flag h k i v e x = rw (update_is h i v x, update_is k i v x, e x)

module _ {H : WordHeap} {Y : Layout} {numbers : ℕ → ℕ → ℕ} {S : State} (A : LegalColours H) (I : Invariant S) (Z : Represents H Y numbers S) where
  pub represents_assign : (t i : ℕ) (v : Source) →
      Represents (heap_assign t i (address Y (graph_source S.graph t v)) H) Y numbers (perform (assign t i v) S)
  unfolding heap_assign perform set_slot
  represents_assign t i v = record {
    placed = Z.placed;
    words = assign_words S.graph Z.placed Z.words t i (graph_source S.graph t v);
    colours = Z.colours;
    kept = Z.kept;
    opened = Z.opened;
    phase = Z.phase;
  }

  -- in the mark phase every record is kept, whatever its mark
  kept_any : T (marking S.phase) → (B : ColourBits) (x : ℕ) → Live S.allocated x →
      S.kept x ≡ cond (H.unswept (Y.at x)) (B.marked (Y.at x)) true
  kept_any m B x l = rw (e) (rw (e) at (Z.kept x l))
    where
      e : H.unswept (Y.at x) ≡ false
      e = A.mark_swept (rw Z.phase m) (Y.at x)

  kept_barrier : (o a x : ℕ) → Live S.allocated x → S.kept x ≡ cond (H.unswept (Y.at x)) ((barrier_bits H o a).marked (Y.at x)) true
  kept_barrier o a x l = rw Z.phase (go (marking S.phase) refl)
    where
      go : (b : Bool) → marking S.phase ≡ b →
          S.kept x ≡ cond (H.unswept (Y.at x)) ((cond b (shade_bits H.elements.scan (named H.elements) a (shade_bits H.elements.scan (named H.elements) o H.bits)) H.bits).marked (Y.at x)) true
      go true e = kept_any (is_true (marking S.phase) e)
          (shade_bits H.elements.scan (named H.elements) a (shade_bits H.elements.scan (named H.elements) o H.bits)) x l
      go false e = Z.kept x l

  colours_barrier : (x f v : ℕ) → T (S.kept x) → T (S.kept v) → (m : T (marking S.phase)) →
      SameColours Y S.allocated (shade_bits H.elements.scan (named H.elements) (address Y v) (shade_bits H.elements.scan (named H.elements) (address Y (S.graph.field x f)) H.bits)) (shade S.graph v (shade S.graph (S.graph.field x f) S.colours))
  colours_barrier x f v k n m =
      shade_colours S.graph Z.placed v (nil_or_live I v n) (shade_grows S.graph (S.graph.field x f) S.colours 0 (I.tricolour m).nil)
      (shade_colours S.graph Z.placed (S.graph.field x f) (nil_or_live I (S.graph.field x f) (I.kept_closed.step x f k)) (I.tricolour m).nil (Z.colours m))

  pub represents_store : (t x f v : ℕ) → Live S.allocated x → f < S.graph.pointers x → T (S.kept x) → T (S.kept v) →
      Represents (heap_store (Y.at x + f) (address Y v) H) Y numbers (perform (store t x f v) S)
  unfolding heap_store perform set_field
  represents_store t x f v l h k n = record {
    placed = Z.placed;
    words = store_words S.graph Z.placed Z.words x f v l h;
    colours = λ m. rw (Z.phase, of_true (marking S.phase) m, Z.words.pointer x f l h) (colours_barrier x f v k n m);
    kept = kept_barrier (H.arena (Y.at x + f)) (address Y v);
    opened = Z.opened;
    phase = Z.phase;
  }

  pub represents_store_global : (t g v : ℕ) → T (S.kept v) →
      Represents (heap_store_global g (address Y v) H) Y numbers (perform (store t 0 g v) S)
  unfolding heap_store_global perform set_field
  represents_store_global t g v n = record {
    placed = Z.placed;
    words = store_global_words S.graph Z.placed Z.words g v;
    colours = λ m. rw (Z.phase, of_true (marking S.phase) m, Z.words.global g) (colours_barrier 0 g v I.kept_closed.nil n m);
    kept = kept_barrier (H.globals g) (address Y v);
    opened = Z.opened;
    phase = Z.phase;
  }

  pub represents_put : (x f n : ℕ) → Live S.allocated x → S.graph.pointers x ≤ f → f < Y.words x →
      Represents (heap_put (Y.at x + f) n H) Y (update2 numbers x f n) (perform idle S)
  unfolding heap_put perform
  represents_put x f n l h s = record {
    placed = Z.placed;
    words = put_words_lem S.graph Z.placed Z.words x f n l h s;
    colours = Z.colours;
    kept = Z.kept;
    opened = Z.opened;
    phase = Z.phase;
  }

  pub represents_reset_stack : (t : ℕ) (b : Bool) → Represents (heap_reset_stack t b H) Y numbers (perform (reset_stack t b) S)
  unfolding heap_reset_stack perform empty_stack set_gray_stack
  represents_reset_stack t b = record {
    placed = Z.placed;
    words = empty_stack_words S.graph Z.placed Z.words t b;
    colours = λ m. record {
      marked = (Z.colours m).marked;
      gray = (Z.colours m).gray;
      gray_globals = (Z.colours m).gray_globals;
      gray_stack = same_flag H.bits.gray_stack S.colours.gray_stack t false (Z.colours m).gray_stack;
    };
    kept = Z.kept;
    opened = same_flag H.opened S.graph.opened t b Z.opened;
    phase = Z.phase;
  }

  pub represents_start : S.phase ≡ off → Represents (heap_start H) Y numbers (perform start S)
  unfolding heap_start perform
  represents_start p = record {
    placed = Z.placed;
    words = Z.words;
    colours = λ m. record {
      marked = λ x l. rw (ne_eqb x 0 (omega arith)) (A.off_unmarked (rw Z.phase p) (Y.at x));
      gray = λ x l. rw (ne_eqb x 0 (omega arith)) (go (Y.at x) (test (H.bits.gray (Y.at x))));
      gray_globals = refl;
      gray_stack = Z.opened;
    };
    kept = Z.kept;
    opened = Z.opened;
    phase = refl;
  }
    where
      go : (w : ℕ) → (T (H.bits.gray w) ⊎ T (not (H.bits.gray w))) → H.bits.gray w ≡ false
      go w (inl t) = absurd (rw (A.off_unmarked (rw Z.phase p) w) at (A.gray_marked w t))
      go w (inr t) = of_false (H.bits.gray w) t

  pub represents_finish : (unswept : ℕ → Bool) → ((x : ℕ) → Live S.allocated x → unswept (Y.at x) ≡ true) → S.phase ≡ mark →
      Represents (heap_finish unswept H) Y numbers (perform finish S)
  unfolding heap_finish perform
  represents_finish unswept h p = record {
    placed = Z.placed;
    words = Z.words;
    colours = λ m. absurd m;
    kept = λ x l. rw (h x l) (sym ((Z.colours (rw p tt)).marked x l));
    opened = Z.opened;
    phase = refl;
  }

  pub represents_end_cycle : Represents (heap_end_cycle H) Y numbers (perform end_cycle S)
  unfolding heap_end_cycle perform
  represents_end_cycle = record {
    placed = Z.placed;
    words = Z.words;
    colours = λ m. absurd m;
    kept = Z.kept;
    opened = Z.opened;
    phase = refl;
  }

  pub represents_scan_stack : (t : ℕ) → S.phase ≡ mark → Represents (heap_scan_stack t H) Y numbers (perform (scan_stack t) S)
  unfolding heap_scan_stack perform set_gray_stack
  represents_scan_stack t p = record {
    placed = Z.placed;
    words = Z.words;
    colours = λ m. record {
      marked = (shaded m).marked;
      gray = (shaded m).gray;
      gray_globals = (shaded m).gray_globals;
      gray_stack = same_flag _ _ t false (shaded m).gray_stack;
    };
    kept = kept_any (rw p tt) (shade_all_bits H.elements.scan (named H.elements) (H.slots t) slot_count H.bits);
    opened = Z.opened;
    phase = Z.phase;
  }
    where
      shaded : T (marking S.phase) →
          SameColours Y S.allocated (shade_all_bits H.elements.scan (named H.elements) (H.slots t) slot_count H.bits) (shade_all S.graph (S.graph.slot t) slot_count S.colours)
      shaded m = shade_all_colours S.graph Z.placed (H.slots t) (S.graph.slot t) slot_count (λ i _. Z.words.slot t i)
          (λ i. nil_or_live I (S.graph.slot t i) (I.kept_closed.root t i)) (I.tricolour m).nil (Z.colours m)

  pub represents_scan_globals : S.phase ≡ mark → Represents (heap_scan_globals (S.graph.pointers 0) H) Y numbers (perform scan_globals S)
  unfolding heap_scan_globals perform mark_at ungray
  represents_scan_globals p = record {
    placed = Z.placed;
    words = Z.words;
    colours = λ m. shade_all_colours S.graph Z.placed H.globals (S.graph.field 0) (S.graph.pointers 0)
        (λ g _. Z.words.global g)
        (λ g. nil_or_live I (S.graph.field 0 g) (I.kept_closed.step 0 g I.kept_closed.nil)) (I.tricolour m).nil (record {
          marked = (Z.colours m).marked;
          gray = λ x l. rw (update_other S.colours.gray 0 false x (omega arith)) ((Z.colours m).gray x l);
          gray_globals = rw (update_same S.colours.gray 0 false);
          gray_stack = (Z.colours m).gray_stack;
        });
    kept = kept_any (rw p tt)
        (shade_all_bits H.elements.scan (named H.elements) H.globals (S.graph.pointers 0) (record { marked = H.bits.marked; gray = H.bits.gray; gray_globals = false; gray_stack = H.bits.gray_stack }));
    opened = Z.opened;
    phase = Z.phase;
  }

  pub represents_mark_step : (x : ℕ) → Live S.allocated x → Marked S.colours x → S.phase ≡ mark →
      Represents (heap_mark_step (Y.at x) (S.graph.pointers x) H) Y numbers (perform (mark_step x) S)
  unfolding heap_mark_step perform mark_at ungray
  represents_mark_step x l d p = record {
    placed = Z.placed;
    words = Z.words;
    colours = λ m. shade_all_colours S.graph Z.placed (λ f. H.arena (Y.at x + f)) (S.graph.field x) (S.graph.pointers x)
        (λ f h. Z.words.pointer x f l h)
        (λ f. nil_or_live I (S.graph.field x f) (I.kept_closed.step x f ((I.tricolour m).marked_kept x d))) (I.tricolour m).nil (record {
          marked = (Z.colours m).marked;
          gray = λ y k. rw
              (update_is H.bits.gray (Y.at x) false (Y.at y), update_is S.colours.gray x false y, same_place S.graph Z.placed y x k l, (Z.colours m).gray y k);
          gray_globals = rw (update_other S.colours.gray x false 0 (omega arith)) (Z.colours m).gray_globals;
          gray_stack = (Z.colours m).gray_stack;
        });
    kept = kept_any (rw p tt)
        (shade_all_bits H.elements.scan (named H.elements) (λ f. H.arena (Y.at x + f)) (S.graph.pointers x) (record { marked = H.bits.marked; gray = update H.bits.gray (Y.at x) false; gray_globals = H.bits.gray_globals; gray_stack = H.bits.gray_stack }));
    opened = Z.opened;
    phase = Z.phase;
  }

  module _ (q : ℕ → Bool) (E : Elements) (c : (x : ℕ) → Live S.allocated x → T (q (Y.at x)) → H.unswept (Y.at x) ≡ true) where
    pub still_allocated : (x : ℕ) → T (cond (q (Y.at x)) (S.kept x) (S.allocated x)) → T (S.allocated x)
    still_allocated x = cond_case (λ (b : Bool). T b → T (S.allocated x)) (q (Y.at x)) (S.kept x) (S.allocated x)
        (λ _ k. I.kept_allocated x k) (λ a. a)

    pub swept_bit : (x : ℕ) → Live S.allocated x →
        cond (q (Y.at x)) (H.bits.marked (Y.at x)) (H.allocated (Y.at x)) ≡ cond (q (Y.at x)) (S.kept x) (S.allocated x)
    swept_bit x l = go (q (Y.at x)) refl
      where
        go : (b : Bool) → q (Y.at x) ≡ b →
            cond b (H.bits.marked (Y.at x)) (H.allocated (Y.at x)) ≡ cond b (S.kept x) (S.allocated x)
        go true e = sym (rw (c x l (is_true (q (Y.at x)) e)) at (Z.kept x l))
        go false e = rw (of_true (S.allocated x) l.1) (of_true (H.allocated (Y.at x)) (Z.placed.on x l))

    was_on : (w : ℕ) → T (cond (q w) (H.bits.marked w) (H.allocated w)) → T (H.allocated w)
    was_on w = cond_case (λ (b : Bool). T b → T (H.allocated w)) (q w) (H.bits.marked w) (H.allocated w) (λ _ m. A.marked_allocated w m)
        (λ a. a)

    found : (w : ℕ) → T (cond (q w) (H.bits.marked w) (H.allocated w)) → ((x : ℕ) × Live S.allocated x × (Y.at x ≡ w)) →
        (x : ℕ) × Live (λ (x : ℕ). cond (q (Y.at x)) (S.kept x) (S.allocated x)) x × (Y.at x ≡ w)
    found w t r = (r.0, (r.1.0, rw (swept_bit r.0 r.1) at (rw (← r.2) at t)), r.2)

    kept_swept : (x : ℕ) → Live (λ (x : ℕ). cond (q (Y.at x)) (S.kept x) (S.allocated x)) x →
        S.kept x ≡ cond (cond (q (Y.at x)) false (H.unswept (Y.at x))) (cond (q (Y.at x)) false (H.bits.marked (Y.at x))) true
    kept_swept x l = go (q (Y.at x)) l.1
      where
        go : (b : Bool) → T (cond b (S.kept x) (S.allocated x)) →
            S.kept x ≡ cond (cond b false (H.unswept (Y.at x))) (cond b false (H.bits.marked (Y.at x))) true
        go true k = of_true (S.kept x) k
        go false a = Z.kept x (l.0, a)

    pub represents_sweep_step : ((x : ℕ) → Live S.allocated x → T (cond (q (Y.at x)) (S.kept x) (S.allocated x)) → Alike E H.elements (Y.at x)) →
        S.phase ≡ sweep →
        Represents (heap_sweep q E H) Y numbers (perform (sweep_step (λ x. q (Y.at x))) S)
    unfolding heap_sweep perform
    represents_sweep_step d p = record {
      placed = record {
        on = λ x l. rw (swept_bit x (l.0, still_allocated x l.1)) l.1;
        only = λ w t. found w t (Z.placed.only w (was_on w t));
        apart = λ x y l k. Z.placed.apart x y (l.0, still_allocated x l.1) (k.0, still_allocated y k.1);
        fits = λ x l. Z.placed.fits x (l.0, still_allocated x l.1);
        scan = λ x l. (d x (l.0, still_allocated x l.1) l.1).0 ∙ Z.placed.scan x (l.0, still_allocated x l.1);
        pointers = λ x l. (d x (l.0, still_allocated x l.1) l.1).1 ∙ Z.placed.pointers x (l.0, still_allocated x l.1);
        words = λ x l. (d x (l.0, still_allocated x l.1) l.1).2 ∙ Z.placed.words x (l.0, still_allocated x l.1);
      };
      words = record {
        slot = Z.words.slot;
        global = Z.words.global;
        pointer = λ x f l. Z.words.pointer x f (l.0, still_allocated x l.1);
        number = λ x f l. Z.words.number x f (l.0, still_allocated x l.1);
      };
      colours = λ m. absurd (rw p at m);
      kept = kept_swept;
      opened = Z.opened;
      phase = Z.phase;
    }
