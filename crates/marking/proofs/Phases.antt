-- The phases of a cycle: a start leads to the mark phase, a cycle ends from the sweep phase, and of the calls in a cycle only a finish leads from the
-- one to the other. So every cycle that ends has a finish between its start and its end.
use mathlib.Core.Path.{◌≡◌, refl}
use mathlib.Core.Logic.{◌⊎◌, inl, inr}
use mathlib.Core.List.{List, [], ◌∷◌, ◌++◌}
use lib.Dec.{T}
use Rattle.marking.specs.Effect.{in_cycle, in_marking}
use Rattle.marking.specs.WordHeap.{mark, sweep, WordHeap, heap_assign, heap_store, heap_store_global, heap_put, heap_reset_stack, heap_start, heap_scan_stack, heap_scan_globals, heap_mark_step, heap_allocate}
use Rattle.marking.proofs.Safety.{is_mark}
use Rattle.marking.specs.Event.{Event, effect, Each}
use Rattle.marking.specs.Event
use Rattle.marking.specs.Trace.{Step, nothing, setup, reset_stack, assign, store, store_global, put, allocate, get, start, scan_stack, rescan_stack, scan_globals, rescan_globals, mark_step, finish, sweep_step, end_cycle, Steps, ready, more}

pub start_marks : {H H' : WordHeap} → Step H Event.start H' → H'.phase ≡ mark
unfolding heap_start
start_marks (start A p) = refl

pub end_swept : {H H' : WordHeap} → Step H Event.end_cycle H' → H.phase ≡ sweep
end_swept (end_cycle A p h) = p

-- a call of a cycle in its mark phase stays in it, or is the finish
pub marking_goes : {H H' : WordHeap} {e : Event} → Step H e H' → H.phase ≡ mark → T (in_cycle (effect e)) →
    (T (in_marking (effect e)) × (H'.phase ≡ mark)) ⊎ (e ≡ Event.finish)
unfolding heap_assign heap_store heap_store_global heap_put heap_reset_stack heap_scan_stack heap_scan_globals heap_mark_step heap_allocate
marking_goes nothing p w = inl (tt, p)
marking_goes (setup H' F) p w = absurd w
marking_goes (reset_stack s b A) p w = inl (tt, p)
marking_goes (assign s i v A o h t) p w = inl (tt, p)
marking_goes (store s j f k A z b) p w = inl (tt, p)
marking_goes (store_global s g i A h) p w = inl (tt, p)
marking_goes (put s j f v A z b c) p w = inl (tt, p)
marking_goes (allocate s i c n v ar E u A o h a b d k m f g j) p w = inl (tt, p)
marking_goes (get s j f z b c) p w = inl (tt, p)
marking_goes (start A q) p w = absurd (rw q at (is_mark p))
marking_goes (scan_stack s A q) p w = inl (tt, p)
marking_goes (rescan_stack s q g) p w = inl (tt, p)
marking_goes (scan_globals A q) p w = inl (tt, p)
marking_goes (rescan_globals q g) p w = inl (tt, p)
marking_goes (mark_step v A q g) p w = inl (tt, p)
marking_goes (finish u A q g gg gs h) p w = inr refl
marking_goes (sweep_step q E A r d c) p w = absurd (rw r at (is_mark p))
marking_goes (end_cycle A q h) p w = absurd w

-- the calls es of a cycle that lead from its mark phase to its sweep phase: a mark phase, the finish, and a rest
pub record HasFinish (H : WordHeap) (es : List Event) (H' : WordHeap) : Type 0 where
  pub marking : List Event
  pub rest : List Event
  pub list : es ≡ marking ++ (Event.finish ∷ rest)
  pub in_marking : Each in_marking marking
  pub in_cycle : Each in_cycle rest
  -- the heaps before and after the finish
  pub before : WordHeap
  pub after : WordHeap
  pub marks : Steps H marking before
  pub finishes : Step before Event.finish after
  pub goes : Steps after rest H'

pub has_finish : {H H' : WordHeap} {es : List Event} → Steps H es H' → Each in_cycle es → H.phase ≡ mark → H'.phase ≡ sweep → HasFinish H es H'
unfolding Each
has_finish ready w p q = absurd (rw q at (is_mark p))
has_finish {H} {H'} (more {H₁ = H₁} {e = e} {es = es} s ss) w p q = go (marking_goes s p w.0) s (λ k. has_finish ss w.1 k q)
  where
    go : (T (in_marking (effect e)) × (H₁.phase ≡ mark)) ⊎ (e ≡ Event.finish) → Step H e H₁ → (H₁.phase ≡ mark → HasFinish H₁ es H') →
        HasFinish H (e ∷ es) H'
    go (inl r) s later = let F = later r.1 in record {
      marking = e ∷ F.marking;
      rest = F.rest;
      list = rw F.list;
      in_marking = (r.0, F.in_marking);
      in_cycle = F.in_cycle;
      before = F.before;
      after = F.after;
      marks = more s F.marks;
      finishes = F.finishes;
      goes = F.goes;
    }
    go (inr f) s later = record {
      marking = [];
      rest = es;
      list = rw f;
      in_marking = tt;
      in_cycle = w.1;
      before = H;
      after = H₁;
      marks = ready;
      finishes = rw f at s;
      goes = ss;
    }
