-- A sweep step: the span that is found can be swept; the outcome, where there is none and where it is swept.
use Prim.Native.Nat.{ℕ, ◌+◌, ◌<◌, ◌≤◌}
use mathlib.Core.List.{List}
use mathlib.Core.Path.{◌≡◌}
use lib.ListN.{set}
use borrow.Author.Tests.{le-ltb, lt-ltb}
use Rattle.model.specs.Memory.{Heap, lent, phase_at, off, sweep}
use Rattle.model.specs.Answers.{Meets}
use Rattle.model.specs.Checks.{phase_refusal}
use Rattle.model.specs.Cycle.{first_unswept, sweep_step}
use Rattle.model.specs.declared.Answer.TheVariants.{Swept}
use Rattle.model.proofs.Outcomes.{meets}
use Rattle.model.specs.Facts.{Audited}
use Rattle.model.proofs.Lent.{audited_consistent}
use Rattle.page_table.specs.Span.{Reads}
use Rattle.page_table.specs.declared.Span.{Span}
use Rattle.page_entries.proofs.Search.{unswept_at_lem}
use Rattle.span_sweep.specs.Needs.{SpanRead, SweepsSpan}
use Rattle.span_sweep.specs.declared.SpanSwept.{SpanSwept}
use Rattle.span_sweep.proofs.Bounds.{span_read}

-- the first unswept span of audited buffers can be swept
pub readable : {p : ℕ} {a t b r : List ℕ} {span : Span} → Audited (lent p a t b r) → (first_unswept p t < p) × Reads t (first_unswept p t) span → SpanRead p t b span
readable {p} {a} {t} {b} {r} {span} A F = span_read span (record { consistent = audited_consistent A; starts = (unswept_at_lem p t F.0).0 }) F.1

module _ (h : Heap) (m : 0 ≡ phase_refusal h sweep) where
  pub step_ended : h.pages ≤ first_unswept h.pages h.table → Meets (sweep_step h) (Swept 0 0 0) h.arena h.table h.bits (set h.roots phase_at off)
  unfolding sweep_step
  step_ended l = meets {p = h.pages} (rw (← m, le-ltb (first_unswept h.pages h.table) h.pages l))

  pub step_swept : {span : Span} → (first_unswept h.pages h.table < h.pages) × Reads h.table (first_unswept h.pages h.table) span → {x : SpanSwept} {t b : List ℕ} → SweepsSpan h span.start.0 x t b →
      Meets (sweep_step h) (Swept (span.start.0 + 1) x.freed x.returned) h.arena t b h.roots
  unfolding sweep_step
  step_swept F S =
      let R = rw F.1.start at S in
      meets {p = h.pages} (rw (F.1.start, R.freed, R.returned, R.table, R.bits, ← m, lt-ltb (first_unswept h.pages h.table) h.pages F.0))
