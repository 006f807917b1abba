-- The calls of a cycle, accepted or refused, on a heap that passes the audit.
use Prim.Native.Nat.{ℕ, ◌+◌, ◌/◌, ◌<◌}
use mathlib.Core.Bool.{Bool, true, false, not, cond, ◌&&◌, and-false}
use mathlib.Core.Logic.{◌≢◌}
use mathlib.Core.Path.{◌≡◌, refl}
use native.Mathlib.Omega.{arith}
use lib.Dec.{T, eqb, ltb}
use borrow.Author.Tests.{ltb-true, ltb-false, ne_eqb}
use Rattle.marking.proofs.Operations.{State}
use Rattle.marking.proofs.Represents.{Layout}
use Rattle.marking.specs.Event
use Rattle.marking.specs.Ledger.{Ledger}
use Rattle.marking.specs.Trace.{Step}
use Rattle.marking.specs.Trace
use Rattle.marking.proofs.Agreement.{Agrees}
use Rattle.marking.proofs.Refinement
use Rattle.model.specs.Memory.{Heap, choose, with_bits, with_roots, set_root, slot, global, state, globals_state, phase, word, words, address_of, state_at, stack_count, slot_count, global_count, globals_state_at, phase_at, page_words, unswept_flag, closed, gray_state, off, mark, sweep}
use Rattle.model.specs.Bitmaps.{gray, is}
use Rattle.model.specs.Spans.{owner, page_count, kind_entry, is_free, span_of, kept}
use Rattle.model.specs.Answers.{◌or_else◌}
use Rattle.model.specs.Checks.{phase_refusal, open_refusal}
use Rattle.model.specs.Shading.{shade_count}
use Rattle.model.specs.Cycle.{start, scan_stack, scan_globals, mark_step, finish, sweep_step, first_gray, first_unswept, scan, scan_record, finish_refusal, freed_count, nothing_left, swept_span}
use Rattle.model.specs.declared.Call.TheVariants.{Start, ScanGlobals, MarkStep, Finish, SweepStep, ScanStack}
use Rattle.model.specs.Facts.{IsSpan, Audited, References}
use Rattle.model.specs.declared.Answer.TheVariants.{Done, Value, Swept}
use Rattle.model.proofs.Named.{reference_there}
use Rattle.model.proofs.Facts.{not_unswept, swept_all, pointer_word}
use Rattle.model.proofs.Checks.{passes, or_else_iff, OpenStack, open_passed, NothingGray, finish_passed}
use Rattle.keeps.proofs.Roots.{started}
use Rattle.keeps.proofs.Finished.{finished, unswept_table, finish_spans, finish_bits}
use Rattle.keeps.proofs.Calls.{gray_found, unswept_found, none_unswept, slot_refers, global_refers}
use Rattle.history.proofs.Finished.{finish_view, finish_late, agreed_references}
use Rattle.history.proofs.View.{view, late_at, end_view, start_view}
use Rattle.history.proofs.ViewShaded.{scan_stack_view, scan_globals_view, mark_view}
use Rattle.history.proofs.ViewAllotted.{swept_step}
use Rattle.history.proofs.Steps.{Happens, by_refusal, audit_view, see_phase}

-- what the view says of gray
not_gray : (h : Heap) (s : ℕ) → eqb (state h s) gray_state ≡ false → T (not ((view h).bits.gray_stack s))
unfolding view
not_gray h s e = rw (e, and-false (ltb s stack_count)) tt

stacks_not_gray : (h : Heap) (s : ℕ) → (s < stack_count → state h s ≢ gray_state) → T (not ((view h).bits.gray_stack s))
unfolding view
stacks_not_gray h s f = go (ltb s stack_count) refl
  where
    go : (b : Bool) → ltb s stack_count ≡ b → T (not (b && eqb (state h s) gray_state))
    go true e = rw (ne_eqb (state h s) gray_state (f (ltb-true s stack_count e))) tt
    go false e = tt

globals_not_gray : (h : Heap) → eqb (globals_state h) gray_state ≡ false → T (not (view h).bits.gray_globals)
unfolding view
globals_not_gray h e = rw e tt

see_gray : (h : Heap) (w : ℕ) → T (is gray h w) → T ((view h).bits.gray w)
unfolding view
see_gray h w g = g

see_not_gray : (h : Heap) (w : ℕ) → is gray h w ≡ false → T (not ((view h).bits.gray w))
unfolding view
see_not_gray h w e = rw e tt

-- .. of the pages of an allocated word
see_used : {h : Heap} → Audited h → (w : ℕ) → T ((view h).allocated w) → 0 < owner h.table (w / page_words)
unfolding view
see_used F w a = (F.bits.element w a).lies.used

see_swept : {h : Heap} → Audited h → ((s : ℕ) → IsSpan h.table s → kind_entry h.table s < unswept_flag) → (w : ℕ) → (view h).unswept w ≡ false
unfolding view late_at
see_swept {h} F n w = rw (swept_all F.spans n (span_of h.table w)) (and-false (not (is_free h.table (w / page_words))))

-- the calls of a cycle, on a heap that passes the audit
module _ {h : Heap} (F : Audited h) where
  pub start_happens : let o = start h in Happens h Start o.answer o.heap
  unfolding start
  start_happens = by_refusal h Start (phase_refusal h off) Done (with_roots (started h) h) refl (λ e.
      record { step = rw (start_view F) (Trace.Step.start (audit_view F) (see_phase h (simp passes at e))); said = tt })

  -- a scan that finds the state scanned leaves all as it is
  pub scan_stack_happens : (s : ℕ) → let o = scan_stack h s in Happens h (ScanStack s) o.answer o.heap
  unfolding scan_stack
  scan_stack_happens s =
      by_refusal h (ScanStack s) (phase_refusal h mark or_else open_refusal h s) (Value (cond (eqb (state h s) gray_state) count 0))
      (choose (eqb (state h s) gray_state) (scan slot_count (slot h s) (state_at s) h) h) refl
      (λ e. let x = (or_else_iff (phase_refusal h mark) (open_refusal h s)).0 e in go (simp passes at x.0) (open_passed h s x.1) (eqb (state h s) gray_state) refl)
    where
      count : ℕ
      count = shade_count h.pages h.table slot_count (slot h s) h.bits

      go : phase h ≡ mark → OpenStack h s → (b : Bool) → eqb (state h s) gray_state ≡ b →
          Happens h (ScanStack s) (Value (cond b count 0)) (choose b (scan slot_count (slot h s) (state_at s) h) h)
      go one o true e = record {
        step = rw (scan_stack_view F s o.below (ne_eqb (state h s) closed o.is_open)
            (λ i l. reference_there F.bits (slot h s i) (slot_refers F s i o.below l)))
            (Trace.Step.scan_stack s (audit_view F) (see_phase h one));
        said = tt;
      }
      go one o false e = record { step = Trace.Step.rescan_stack s (see_phase h one) (not_gray h s e); said = tt }

  pub scan_globals_happens : let o = scan_globals h in Happens h ScanGlobals o.answer o.heap
  unfolding scan_globals
  scan_globals_happens =
      by_refusal h ScanGlobals (phase_refusal h mark) (Value (cond (eqb (globals_state h) gray_state) count 0))
      (choose (eqb (globals_state h) gray_state) (scan global_count (global h) globals_state_at h) h) refl
      (λ e. go (simp passes at e) (eqb (globals_state h) gray_state) refl)
    where
      count : ℕ
      count = shade_count h.pages h.table global_count (global h) h.bits

      go : phase h ≡ mark → (b : Bool) → eqb (globals_state h) gray_state ≡ b → Happens h ScanGlobals (Value (cond b count 0)) (choose b (scan global_count (global h) globals_state_at h) h)
      go one true e = record {
        step = rw (scan_globals_view F (λ i l. reference_there F.bits (global h i) (global_refers F i l)))
            (Trace.Step.scan_globals (audit_view F) (see_phase h one));
        said = tt;
      }
      go one false e = record { step = Trace.Step.rescan_globals (see_phase h one) (globals_not_gray h e); said = tt }

  pub mark_step_happens : let o = mark_step h in Happens h MarkStep o.answer o.heap
  unfolding mark_step
  mark_step_happens =
      by_refusal h MarkStep (phase_refusal h mark) (Value (cond (ltb (first_gray h) (words h)) (address_of (first_gray h)) 0))
      (choose (ltb (first_gray h) (words h)) (with_bits (scan_record (first_gray h) h) h) h) refl
      (λ e. go (simp passes at e) (ltb (first_gray h) (words h)) refl)
    where
      go : phase h ≡ mark → (b : Bool) → ltb (first_gray h) (words h) ≡ b →
          Happens h MarkStep (Value (cond b (address_of (first_gray h)) 0)) (choose b (with_bits (scan_record (first_gray h) h) h) h)
      go one true e =
          let w = first_gray h in
          let g = gray_found h (ltb-true (first_gray h) (words h) e) in
          let a = F.bits.marks w (F.bits.grays w g).0 in
          let kp : T (kept h w) = rw (not_unswept F.spans F.phases (λ q. absurd (omega arith)) (span_of h.table w)) a in
          let z : eqb (address_of w) 0 ≡ false = ne_eqb (address_of w) 0 (omega arith) in
          record {
            step = rw (z, mark_view F w (ltb-true w (words h) e) (λ f l. reference_there F.bits (word h (w + f)) (pointer_word F w a kp f l).1))
                (Trace.Step.mark_step w (audit_view F) (see_phase h one) (see_gray h w g));
            said = rw z tt;
          }
      go one false e = record { step = Trace.Step.nothing; said = tt }

  pub sweep_step_happens : let o = sweep_step h in Happens h SweepStep o.answer o.heap
  unfolding sweep_step
  sweep_step_happens =
      by_refusal h SweepStep (phase_refusal h sweep)
      (cond (ltb s h.pages) (Swept (s + 1) (freed_count h s) (cond (nothing_left h s) (page_count h.table s) 0)) (Swept 0 0 0))
      (choose (ltb s h.pages) (swept_span s h) (set_root phase_at off h)) refl
      (λ e. go (simp passes at e) (ltb s h.pages) refl)
    where
      s : ℕ
      s = first_unswept h.pages h.table

      go : phase h ≡ sweep → (b : Bool) → ltb s h.pages ≡ b →
          Happens h SweepStep (cond b (Swept (s + 1) (freed_count h s) (cond (nothing_left h s) (page_count h.table s) 0)) (Swept 0 0 0))
          (choose b (swept_span s h) (set_root phase_at off h))
      go two true e =
          let x = unswept_found h.pages h.table (ltb-true s h.pages e) in
          let z : eqb (s + 1) 0 ≡ false = ne_eqb (s + 1) 0 (omega arith) in
          record { step = rw z (swept_step F s x.0 x.1 (audit_view F) two); said = rw z tt }
      go two false e =
          let n = none_unswept F (ltb-false s h.pages e) in
          record {
            step = rw (end_view F) (Trace.Step.end_cycle (audit_view F) (see_phase h two) (λ w a. see_swept F n w));
            said = tt;
          }

  finish_step : NothingGray h → Step (view h) Event.finish (view (finished h))
  finish_step N = rw (finish_view F) (Trace.Step.finish (late_at (unswept_table h)) (audit_view F) (see_phase h N.phase)
      (λ w. see_not_gray h w (N.records w)) (globals_not_gray h (ne_eqb (globals_state h) gray_state N.globals))
      (λ s. stacks_not_gray h s (N.stacks s)) (λ w a. finish_late F w (see_used F w a)))

  pub finish_happens : let o = finish h in Happens h Finish o.answer o.heap
  unfolding finish
  finish_happens = by_refusal h Finish (finish_refusal h) Done (finished h) refl (λ e. record { step = finish_step (finish_passed h e); said = tt })

  -- what finish needs besides the audit: the references of what it leaves, on a heap that agrees with the theory's invariant
  pub finish_refers : {L : Ledger} {S : State} {Y : Layout} → Agrees (view h) L S Y → finish_refusal h ≡ 0 → References (finished h)
  finish_refers R e = let N = finish_passed h e in
      agreed_references (finished h) (finish_spans F N.phase) (finish_bits F) (Refinement.after R (finish_step N))
