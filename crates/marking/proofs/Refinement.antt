-- Every call on a heap of words and bits is a call of the abstract heap and of the ledger, so that the agreement between the heap and
-- the ledger goes on.
use mathlib.Core.Path.{◌≡◌, refl, sym, subst, ◌∙◌}
use mathlib.Core.Bool.{Bool, true, false, not, cond}
use mathlib.Core.Logic.{◌⊎◌, inl, inr, ◌≢◌}
use Prim.Native.Nat.{ℕ, suc, ◌+◌, ◌≤◌, ◌<◌}
use native.Mathlib.Omega.{arith}
use lib.Dec.{T, eqb, ltb, eqb→eq}
use Rattle.marking.specs.Updates.{update}
use Rattle.model.proofs.Tests.{of_true, is_true}
use Rattle.marking.proofs.Updates.{update_other, update_is, added_only, test, differ}
use Rattle.model.specs.Memory.{slot_count, global_count, address_of}
use Rattle.marking.proofs.Graph.{set_slot, set_field, empty_stack, birth}
use Rattle.marking.proofs.Operations
use Rattle.marking.proofs.Operations.{State, graph_source, Operation, Held, Allowed, perform, mark_at, operation_effect}
use Rattle.marking.specs.WordHeap.{Phase, off, mark, sweep, marking, WordHeap, LegalColours, Elements, Alike, record_in, heap_source, HasSource, heap_assign, heap_store, heap_store_global, heap_put, heap_reset_stack, heap_start, heap_scan_stack, heap_scan_globals, heap_mark_step, heap_finish, heap_sweep, heap_end_cycle, heap_allocate}
use Rattle.marking.proofs.Safety.{perform_keeps}
use Rattle.marking.proofs.Represents.{Layout, address, Live, Represents, address_nil, word_address, starts_elsewhere}
use Rattle.marking.proofs.Simulation
use Rattle.marking.proofs.Simulation.{nil_or_live}
use Rattle.marking.proofs.Birth.{place_record, represents_allocate}
use Rattle.marking.specs.Event.{Source, Event, effect}
use Rattle.marking.specs.Ledger.{Ledger, source, feed, empty, with_slot, with_stack, with_pointer, with_global, with_number, with_record}
use Rattle.marking.specs.Trace.{Step, Fresh, nothing, setup, reset_stack, assign, store, store_global, put, allocate, get, start, scan_stack, rescan_stack, scan_globals, rescan_globals, mark_step, finish, sweep_step, end_cycle}
use Rattle.marking.proofs.Agreement.{Describes, LastThere, Agrees, no_layout, no_live, fresh_represents, empty_describes, describes_slot, describes_field, describes_global, describes_number, describes_stack, describes_birth}

-- the heap H and the ledger L are as the call c leaves the state S
pub record Becomes (c : Operation) (H : WordHeap) (L : Ledger) (S : State) : Type 0 where
  pub layout : Layout
  pub allowed : Allowed c S
  pub represents : Represents H layout L.number (perform c S)
  pub describes : Describes L layout (perform c S).graph
  pub last : LastThere layout (perform c S).graph (perform c S).allocated

-- the call of the abstract heap that a step with event e is
pub record AbstractStep (e : Event) (H : WordHeap) (L : Ledger) (S : State) : Type 0 where
  pub call : Operation
  pub effect : operation_effect call ≡ effect e
  pub becomes : Becomes call H L S

module _ {H : WordHeap} {L : Ledger} {S : State} {Y : Layout} (R : Agrees H L S Y) where
  pub slot_record : (s j : ℕ) → 0 < H.slots s j →
      Live S.allocated (S.graph.slot s j) × (record_in H s j ≡ Y.at (S.graph.slot s j))
  slot_record s j h = go (nil_or_live R.invariant (S.graph.slot s j) (R.invariant.kept_closed.root s j))
    where
      go : ((S.graph.slot s j ≡ 0) ⊎ Live S.allocated (S.graph.slot s j)) →
          Live S.allocated (S.graph.slot s j) × (record_in H s j ≡ Y.at (S.graph.slot s j))
      go (inl e) = absurd (omega (arith, rw (e, address_nil Y) at (R.represents.words.slot s j)))
      go (inr l) = (l, rw (R.represents.words.slot s j) (word_address Y (S.graph.slot s j) l.0))

  opened_too : (s : ℕ) → T (H.opened s) → T (S.graph.opened s)
  opened_too s o = rw (R.represents.opened s) at o

  -- what a source holds: in the heap, in the graph, and in the ledger
  sources : (s : ℕ) (v : Source) → HasSource H s v →
      (heap_source H s v ≡ address Y (graph_source S.graph s v)) × (graph_source S.graph s v ≡ source L s v)
  sources s Source.nil t = (sym (address_nil Y), refl)
  sources s (Source.slot j) t = (R.represents.words.slot s j, R.describes.slot s j)
  sources s (Source.pointer j f) t =
      let r = slot_record s j t.0 in
      let b = rw (r.1, R.represents.placed.pointers (S.graph.slot s j) r.0) at t.1 in
      (rw (heap_source, r.1) (R.represents.words.pointer (S.graph.slot s j) f r.0 b), rw (source, ← (R.describes.slot s j)) (R.describes.pointer (S.graph.slot s j) f r.0.0))
  sources s (Source.global g) t = (R.represents.words.global g, R.describes.global g)

  pub step_assign : (s i : ℕ) (v : Source) → LegalColours H → T (H.opened s) → i < slot_count → HasSource H s v →
      Becomes (Operations.assign s i v) (heap_assign s i (heap_source H s v) H) (with_slot s i (source L s v) L) S
  unfolding perform set_slot with_slot
  step_assign s i v A o h t = rw ((sources s v t).0, ← (sources s v t).1) (record {
    layout = Y;
    allowed = (h, opened_too s o);
    represents = Simulation.represents_assign A R.invariant R.represents s i v;
    describes = describes_slot R.describes s i (graph_source S.graph s v);
    last = R.last;
  })

  step_store_at : (s x f v : ℕ) → LegalColours H → Held S.graph s x → Held S.graph s v → Live S.allocated x → f < S.graph.pointers x →
      T (S.kept x) → T (S.kept v) →
      Becomes (Operations.store s x f v) (heap_store (Y.at x + f) (address Y v) H) (with_pointer x f v L) S
  unfolding perform set_field with_pointer
  step_store_at s x f v A hx hv l b kx kv = record {
    layout = Y;
    allowed = (hx, hv, b);
    represents = Simulation.represents_store A R.invariant R.represents s x f v l b kx kv;
    describes = describes_field R.describes x f v l.0;
    last = R.last;
  }

  pub step_store : (s j f k : ℕ) → LegalColours H → 0 < H.slots s j → f < H.elements.pointers (record_in H s j) →
      Becomes (Operations.store s (S.graph.slot s j) f (S.graph.slot s k)) (heap_store (record_in H s j + f) (H.slots s k) H) (with_pointer (L.slot s j) f (L.slot s k) L) S
  step_store s j f k A z b =
      let r = slot_record s j z in
      let b' = rw (r.1, R.represents.placed.pointers (S.graph.slot s j) r.0) at b in
      rw (← (R.describes.slot s j), ← (R.describes.slot s k), r.1, R.represents.words.slot s k)
      (step_store_at s (S.graph.slot s j) f (S.graph.slot s k) A (Operations.slot j) (Operations.slot k) r.0 b' (R.invariant.kept_closed.root s j) (R.invariant.kept_closed.root s k))

  step_put_at : (x f v : ℕ) → LegalColours H → Live S.allocated x → S.graph.pointers x ≤ f → f < Y.words x →
      Becomes Operations.idle (heap_put (Y.at x + f) v H) (with_number x f v L) S
  unfolding perform with_number
  step_put_at x f v A l b c = record {
    layout = Y;
    allowed = tt;
    represents = Simulation.represents_put A R.invariant R.represents x f v l b c;
    describes = describes_number R.describes x f v;
    last = R.last;
  }

  pub step_put : (s j f v : ℕ) → LegalColours H → 0 < H.slots s j → H.elements.pointers (record_in H s j) ≤ f →
      f < H.elements.words (record_in H s j) →
      Becomes Operations.idle (heap_put (record_in H s j + f) v H) (with_number (L.slot s j) f v L) S
  step_put s j f v A z b c =
      let r = slot_record s j z in
      let b' = rw (r.1, R.represents.placed.pointers (S.graph.slot s j) r.0) at b in
      let c' = rw (r.1, R.represents.placed.words (S.graph.slot s j) r.0) at c in
      rw (← (R.describes.slot s j), r.1) (step_put_at (S.graph.slot s j) f v A r.0 b' c')

  pub step_store_global : (s g i : ℕ) → LegalColours H → g < global_count →
      Becomes (Operations.store s 0 g (S.graph.slot s i)) (heap_store_global g (H.slots s i) H) (with_global g (L.slot s i) L) S
  unfolding perform set_field with_global
  step_store_global s g i A h = rw (← (R.describes.slot s i), R.represents.words.slot s i) go
    where
      go : Becomes (Operations.store s 0 g (S.graph.slot s i)) (heap_store_global g (address Y (S.graph.slot s i)) H) (with_global g (S.graph.slot s i) L) S
      go = record {
        layout = Y;
        allowed = (Operations.nil, Operations.slot i, rw R.describes.globals h);
        represents = Simulation.represents_store_global A R.invariant R.represents s g (S.graph.slot s i)
            (R.invariant.kept_closed.root s i);
        describes = describes_global R.describes g (S.graph.slot s i);
        last = R.last;
      }

  pub step_reset_stack : (s : ℕ) (b : Bool) → LegalColours H → Becomes (Operations.reset_stack s b) (heap_reset_stack s b H) (with_stack s b L) S
  unfolding perform empty_stack with_stack
  step_reset_stack s b A = record {
    layout = Y;
    allowed = tt;
    represents = Simulation.represents_reset_stack A R.invariant R.represents s b;
    describes = describes_stack R.describes s b;
    last = R.last;
  }

  pub phased : {p : Phase} → H.phase ≡ p → S.phase ≡ p
  phased e = sym R.represents.phase ∙ e

  pub step_start : LegalColours H → H.phase ≡ off → Becomes Operations.start (heap_start H) L S
  unfolding perform
  step_start A p = record {
    layout = Y;
    allowed = phased p;
    represents = Simulation.represents_start A R.invariant R.represents (phased p);
    describes = R.describes;
    last = R.last;
  }

  pub step_scan_stack : (s : ℕ) → LegalColours H → H.phase ≡ mark → Becomes (Operations.scan_stack s) (heap_scan_stack s H) L S
  unfolding perform
  step_scan_stack s A p = record {
    layout = Y;
    allowed = phased p;
    represents = Simulation.represents_scan_stack A R.invariant R.represents s (phased p);
    describes = R.describes;
    last = R.last;
  }

  is_marking : H.phase ≡ mark → T (marking S.phase)
  is_marking p = rw (phased p) tt

  pub step_scan_globals : LegalColours H → H.phase ≡ mark → Becomes Operations.scan_globals (heap_scan_globals global_count H) L S
  unfolding perform mark_at
  step_scan_globals A p = rw (← R.describes.globals) go
    where
      go : Becomes Operations.scan_globals (heap_scan_globals (S.graph.pointers 0) H) L S
      go = record {
        layout = Y;
        allowed = phased p;
        represents = Simulation.represents_scan_globals A R.invariant R.represents (phased p);
        describes = R.describes;
        last = R.last;
      }

  step_mark_step_at : (x : ℕ) → LegalColours H → H.phase ≡ mark → Live S.allocated x → T (S.colours.gray x) →
      Becomes (Operations.mark_step x) (heap_mark_step (Y.at x) (S.graph.pointers x) H) L S
  unfolding perform mark_at
  step_mark_step_at x A p l g = record {
    layout = Y;
    allowed = (phased p, l.0, g);
    represents = Simulation.represents_mark_step A R.invariant R.represents x l
        ((R.invariant.tricolour (is_marking p)).gray_marked x g) (phased p);
    describes = R.describes;
    last = R.last;
  }

  pub step_mark_step : (w : ℕ) → LegalColours H → H.phase ≡ mark → T (H.bits.gray w) →
      (x : ℕ) × Becomes (Operations.mark_step x) (heap_mark_step w (H.elements.pointers w) H) L S
  step_mark_step w A p g = go (R.represents.placed.only w (A.marked_allocated w (A.gray_marked w g)))
    where
      go : (x : ℕ) × Live S.allocated x × (Y.at x ≡ w) →
          (x : ℕ) × Becomes (Operations.mark_step x) (heap_mark_step w (H.elements.pointers w) H) L S
      go r =
          let m = rw (← r.2, (R.represents.colours (is_marking p)).gray r.0 r.1) at g in
          (r.0, rw (← r.2, R.represents.placed.pointers r.0 r.1) (step_mark_step_at r.0 A p r.1 m))

  pub step_finish : (unswept : ℕ → Bool) → LegalColours H → H.phase ≡ mark → ((w : ℕ) → T (not (H.bits.gray w))) →
      T (not H.bits.gray_globals) → ((t : ℕ) → T (not (H.bits.gray_stack t))) →
      ((w : ℕ) → T (H.allocated w) → unswept w ≡ true) → Becomes Operations.finish (heap_finish unswept H) L S
  unfolding perform
  step_finish unswept A p g gg gs h = record {
    layout = Y;
    allowed = (phased p, (λ x m. no_gray x (nil_or_live R.invariant x ((R.invariant.tricolour (is_marking p)).marked_kept x m))), (λ t. rw ((R.represents.colours (is_marking p)).gray_stack t) at (gs t)));
    represents = Simulation.represents_finish A R.invariant R.represents unswept (λ x l. h (Y.at x) (R.represents.placed.on x l))
        (phased p);
    describes = R.describes;
    last = R.last;
  }
    where
      no_gray : (x : ℕ) → ((x ≡ 0) ⊎ Live S.allocated x) → T (not (S.colours.gray x))
      no_gray x (inl e) = rw e (rw (R.represents.colours (is_marking p)).gray_globals at gg)
      no_gray x (inr l) = rw ((R.represents.colours (is_marking p)).gray x l) at (g (Y.at x))

  pub step_sweep_step : (q : ℕ → Bool) (E : Elements) → LegalColours H → H.phase ≡ sweep →
      ((w : ℕ) → T (H.allocated w) → T (q w) → H.unswept w ≡ true) →
      ((w : ℕ) → T (cond (q w) (H.bits.marked w) (H.allocated w)) → Alike E H.elements w) → Becomes (Operations.sweep_step (λ x. q (Y.at x))) (heap_sweep q E H) L S
  unfolding perform
  step_sweep_step q E A p d c = record {
    layout = Y;
    allowed = phased p;
    represents = Simulation.represents_sweep_step A R.invariant R.represents q E d'
        (λ x l t. c (Y.at x) (rw (Simulation.swept_bit A R.invariant R.represents q E d' x l) t)) (phased p);
    describes = R.describes;
    last = λ x y l. R.last x y (l.0, Simulation.still_allocated A R.invariant R.represents q E d' x l.1);
  }
    where
      d' : (x : ℕ) → Live S.allocated x → T (q (Y.at x)) → H.unswept (Y.at x) ≡ true
      d' x l = d (Y.at x) (R.represents.placed.on x l)

  pub end_cycle_allowed : H.phase ≡ sweep → ((w : ℕ) → T (H.allocated w) → H.unswept w ≡ false) → Allowed Operations.end_cycle S
  end_cycle_allowed p h = (phased p, λ x a. go x a (test (eqb x 0)))
    where
      go : (x : ℕ) → T (S.allocated x) → (T (eqb x 0) ⊎ T (not (eqb x 0))) → T (S.kept x)
      go x a (inl e) = rw (eqb→eq x 0 e) R.invariant.kept_closed.nil
      go x a (inr e) = let l : Live S.allocated x = (omega (arith, differ x 0 e), a) in
          is_true (S.kept x) (rw (h (Y.at x) (R.represents.placed.on x l)) at (R.represents.kept x l))

  pub step_end_cycle : LegalColours H → H.phase ≡ sweep → ((w : ℕ) → T (H.allocated w) → H.unswept w ≡ false) →
      Becomes Operations.end_cycle (heap_end_cycle H) L S
  unfolding perform
  step_end_cycle A p h = record {
    layout = Y;
    allowed = end_cycle_allowed p h;
    represents = Simulation.represents_end_cycle A R.invariant R.represents;
    describes = R.describes;
    last = R.last;
  }

  describes_allocate : (s i p n w : ℕ) →
      Describes (with_slot s i (suc L.count) (with_record p n (address_of w) L)) (place_record S.graph.born w n Y) (set_slot s i S.graph.born (birth p S.graph))
  describes_allocate s i p n w = subst
      (λ (k : ℕ). Describes (with_slot s i k (with_record p n (address_of w) L)) (place_record S.graph.born w n Y) (set_slot s i S.graph.born (birth p S.graph)))
      R.describes.born (describes_slot (describes_birth R.describes p n w R.invariant.shape) s i S.graph.born)

  last_new : (w n : ℕ) → ((x : ℕ) → Live S.allocated x → Y.at x ≢ w) → (x y : ℕ) →
      Live (update S.allocated S.graph.born true) x → x < y → y < suc S.graph.born →
      (place_record S.graph.born w n Y).at y ≢ (place_record S.graph.born w n Y).at x
  unfolding place_record
  last_new w n d x y l h k = go (added_only S.allocated S.graph.born x l.1) (test (eqb y S.graph.born))
    where
      go : ((x ≡ S.graph.born) ⊎ T (S.allocated x)) → (T (eqb y S.graph.born) ⊎ T (not (eqb y S.graph.born))) →
          update Y.at S.graph.born w y ≢ update Y.at S.graph.born w x
      go (inl e) _ = absurd (omega arith)
      go (inr a) (inl e) = rw
          (update_is Y.at S.graph.born w y, of_true (eqb y S.graph.born) e, update_other Y.at S.graph.born w x (omega (arith, R.invariant.allocated_born x a)))
          (λ q. d x (l.0, a) (sym q))
      go (inr a) (inr e) = rw
          (update_other Y.at S.graph.born w y (differ y S.graph.born e), update_other Y.at S.graph.born w x (omega (arith, R.invariant.allocated_born x a)))
          (R.last x y (l.0, a) h (omega (arith, differ y S.graph.born e)))

  pub step_allocate : (s i p n w : ℕ) (arena : ℕ → ℕ) (E : Elements) (unswept : ℕ → Bool) → LegalColours H → T (H.opened s) → i < slot_count →
      ((v : ℕ) → T (H.allocated v) → (v + H.elements.words v ≤ w) ⊎ (w + n ≤ v)) → (p ≤ n) × (0 < n) →
      ((k : ℕ) → k < n → arena (w + k) ≡ 0) → ((v : ℕ) → ((v < w) ⊎ (w + n ≤ v)) → arena v ≡ H.arena v) →
      (E.scan w ≡ ltb 0 p) × (E.pointers w ≡ p) × (E.words w ≡ n) → ((v : ℕ) → T (H.allocated v) → Alike E H.elements v) →
      unswept w ≡ false → ((v : ℕ) → T (H.allocated v) → unswept v ≡ H.unswept v) →
      Becomes (Operations.allocate s i p) (heap_allocate s i w arena E unswept H) (with_slot s i (suc L.count) (with_record p n (address_of w) L)) S
  unfolding perform set_slot birth with_slot with_record
  step_allocate s i p n w arena E unswept A o h free big zeroed alone element others fresh unswepts = record {
    layout = place_record S.graph.born w n Y;
    allowed = (h, opened_too s o);
    represents = rw (← R.describes.born)
        (represents_allocate A R.invariant R.represents s i w n p arena E unswept free' big zeroed alone element
        (λ x l. others (Y.at x) (R.represents.placed.on x l)) fresh (λ x l. unswepts (Y.at x) (R.represents.placed.on x l)));
    describes = describes_allocate s i p n w;
    last = last_new w n (λ x l. starts_elsewhere R.represents.placed w n x big.1 l (free' x l));
  }
    where
      free' : (x : ℕ) → Live S.allocated x → (Y.at x + Y.words x ≤ w) ⊎ (w + n ≤ Y.at x)
      free' x l = rw (← (R.represents.placed.words x l)) (free (Y.at x) (R.represents.placed.on x l))

  pub step_idle : Becomes Operations.idle H L S
  unfolding perform
  step_idle = record { layout = Y; allowed = tt; represents = R.represents; describes = R.describes; last = R.last }

  pub step_setup : {H' : WordHeap} → Fresh H' → Becomes Operations.setup H' empty S
  unfolding perform empty
  step_setup {H'} F = record { layout = no_layout; allowed = tt; represents = fresh_represents H' F; describes = empty_describes; last = λ x y l. no_live x l }

  -- EVERY CALL on the heap is a call of the abstract heap and of the ledger
  pub abstract_step : {e : Event} {H' : WordHeap} → Step H e H' → AbstractStep e H' (feed e L) S
  unfolding feed
  abstract_step nothing = record { call = Operations.idle; effect = refl; becomes = step_idle }
  abstract_step (setup H' F) = record { call = Operations.setup; effect = refl; becomes = step_setup F }
  abstract_step (reset_stack s b A) = record { call = Operations.reset_stack s b; effect = refl; becomes = step_reset_stack s b A }
  abstract_step (assign s i v A o h t) = record { call = Operations.assign s i v; effect = refl; becomes = step_assign s i v A o h t }
  abstract_step (store s j f k A z b) = record { call = _; effect = refl; becomes = step_store s j f k A z b }
  abstract_step (store_global s g i A h) = record { call = _; effect = refl; becomes = step_store_global s g i A h }
  abstract_step (put s j f v A z b c) = record { call = Operations.idle; effect = refl; becomes = step_put s j f v A z b c }
  abstract_step (allocate s i p n w ar E u A o h a b c d e f g j) = record { call = Operations.allocate s i p; effect = refl; becomes = step_allocate s i p n w ar E u A o h a b c d e f g j }
  abstract_step (get s j f z b c) = record { call = Operations.idle; effect = refl; becomes = step_idle }
  abstract_step (start A p) = record { call = Operations.start; effect = refl; becomes = step_start A p }
  abstract_step (scan_stack s A p) = record { call = Operations.scan_stack s; effect = refl; becomes = step_scan_stack s A p }
  abstract_step (rescan_stack s p g) = record { call = Operations.idle; effect = refl; becomes = step_idle }
  abstract_step (scan_globals A p) = record { call = Operations.scan_globals; effect = refl; becomes = step_scan_globals A p }
  abstract_step (rescan_globals p g) = record { call = Operations.idle; effect = refl; becomes = step_idle }
  abstract_step (mark_step w A p g) = let r = step_mark_step w A p g in record { call = Operations.mark_step r.0; effect = refl; becomes = r.1 }
  abstract_step (finish u A p g gg gs h) = record { call = Operations.finish; effect = refl; becomes = step_finish u A p g gg gs h }
  abstract_step (sweep_step q E A p d c) = record { call = _; effect = refl; becomes = step_sweep_step q E A p d c }
  abstract_step (end_cycle A p h) = record { call = Operations.end_cycle; effect = refl; becomes = step_end_cycle A p h }

  -- the agreement goes on
  pub agree : {c : Operation} {H' : WordHeap} {L' : Ledger} (B : Becomes c H' L' S) → Agrees H' L' (perform c S) B.layout
  agree {c} B = record { invariant = perform_keeps c S B.allowed R.invariant; represents = B.represents; describes = B.describes; last = B.last }

  pub after : {e : Event} {H' : WordHeap} (s : Step H e H') →
      Agrees H' (feed e L) (perform (abstract_step s).call S) (abstract_step s).becomes.layout
  after s = agree (abstract_step s).becomes
