-- Finish: the page table with every span unswept, and the facts of the audit afterwards. The references of what a finish leaves do not follow from the
-- audit before it (a marked record may point to one that is not): they are what finish needs besides.
use Prim.Native.Nat.{ℕ, ◌+◌, ◌-◌, ◌*◌, ◌/◌, ◌%◌, ◌<◌, ◌≤◌}
use mathlib.Core.List.{List}
use mathlib.Core.Bool.{Bool, true, false, cond}
use mathlib.Core.Logic.{◌⊎◌, inl, inr, ◌≢◌}
use mathlib.Core.Path.{◌≡◌, refl, ◌∙◌}
use native.Mathlib.Omega.{arith}
use lib.ListN.{get_or, set, length-set, get_or-eq_default}
use lib.Dec.{eqb}
use borrow.Author.Tests.{le-leb, eq-eqb, ne_eqb}
use Rattle.model.specs.Memory.{Heap, with_table, set_root, phase, page_words, unswept_flag, slot_count, first_state, globals_state_at, phase_at, mark, sweep}
use Rattle.model.specs.Spans.{owner, page_count, kind_entry, span_of, put_pages}
use Rattle.model.specs.Cycle.{unswept_page}
use Rattle.model.specs.Facts.{Spans, GoodEntry, Audited, Bits, References, unswept_at}
use Rattle.model.proofs.Tests.{is_true, cond_same}
use Rattle.model.proofs.Bounded.{within, within_false}
use Rattle.model.proofs.Table.{pages_length, pages_owner, pages_count, pages_kind}
use Rattle.model.proofs.Spans.{span_of_lem}
use Rattle.model.proofs.Checks.{NothingGray}
use Rattle.keeps.proofs.Roots.{root_at, root_other}
use Rattle.keeps.proofs.Tables.{SamePage, Like, like, bits_like}

-- the table after a finish
abbrev pub unswept_table : Heap → List ℕ
unswept_table h = put_pages 0 h.pages (unswept_page h.table) h.table

-- the heap after a finish
abbrev pub finished : Heap → Heap
finished h = set_root phase_at sweep (with_table (unswept_table h) h)

module _ {h : Heap} (F : Audited h) where
  abbrev t : List ℕ
  t = h.table

  abbrev u : List ℕ
  u = put_pages 0 h.pages (unswept_page h.table) h.table

  past : (x : ℕ) → h.pages ≤ x → owner t x ≡ 0
  unfolding owner
  past x l = get_or-eq_default t 0 (omega (arith, F.sized.table))

  pub finish_at : (x : ℕ) → (owner (unswept_table h) x ≡ owner h.table x) × (page_count (unswept_table h) x ≡ page_count h.table x)
      × (kind_entry (unswept_table h) x ≡ kind_entry h.table x + cond (eqb (owner h.table x) (x + 1)) unswept_flag 0)
  finish_at x = (
    rw (pages_owner h.pages 0 h.pages (unswept_page t) t (omega arith) F.sized.table x) (cond_same (within 0 h.pages x) (owner t x)),
    rw (pages_count h.pages 0 h.pages (unswept_page t) t (omega arith) F.sized.table x) (cond_same (within 0 h.pages x) (page_count t x)),
    rw (pages_kind h.pages 0 h.pages (unswept_page t) t (omega arith) F.sized.table x) (go (within 0 h.pages x) refl),
  )
    where
      go : (b : Bool) → within 0 h.pages x ≡ b →
          cond b (kind_entry t x + cond (eqb (owner t x) (x + 1)) unswept_flag 0) (kind_entry t x) ≡ kind_entry t x + cond (eqb (owner t x) (x + 1)) unswept_flag 0
      go true e = refl
      go false e = rw (ne_eqb (owner t x) (x + 1) (far (within_false 0 h.pages x e))) (omega arith)
        where
          far : ((x < 0) ⊎ (0 + h.pages ≤ x)) → owner t x ≢ x + 1
          far (inl l) = absurd (omega arith)
          far (inr l) = omega (arith, past x (omega arith))

  finish_same : (x : ℕ) → SamePage t u x
  finish_same x = let f = finish_at x in (f.0, f.1, rw f.2 (go (eqb (owner t x) (x + 1))))
    where
      go : (b : Bool) → (kind_entry t x + cond b unswept_flag 0) % unswept_flag ≡ kind_entry t x % unswept_flag
      go true = omega arith
      go false = omega arith

  pub finish_like : (w : ℕ) → Like h.table (unswept_table h) w
  finish_like w = like t u w (finish_same (w / page_words)) (finish_same (span_of t w))

  pub finish_unswept : (w : ℕ) → 0 < owner h.table (w / page_words) → unswept_at (unswept_table h) w ≡ true
  finish_unswept w k = rw ((finish_at (w / page_words)).0, (finish_at (span_of t w)).2, eq-eqb (owner t (span_of t w)) (span_of t w + 1) (span_of_lem F.spans w k))
      (le-leb unswept_flag (kind_entry t (span_of t w) + unswept_flag) (omega arith))

  pub finish_spans : phase h ≡ mark → Spans h.pages (unswept_table h)
  finish_spans one = record {
    whose = λ g x. rw ((finish_at g).0, (finish_at (owner t g - 1)).0, (finish_at (owner t g - 1)).1) (F.spans.whose g (rw (finish_at g).0 at x));
    body = λ s g e a b. rw (finish_at g).0 (F.spans.body s g (rw (finish_at s).0 at e) a (rw (finish_at s).1 at b));
    inside = λ s e. rw (finish_at s).1 (F.spans.inside s (rw (finish_at s).0 at e));
    rest = λ g d. let d' = rw (finish_at g).0 at d in let f = F.spans.rest g d' in
        ((finish_at g).1 ∙ f.0, rw ((finish_at g).2, ne_eqb (owner t g) (g + 1) d') (omega (arith, f.1)));
    entry = λ s e. let e' = rw (finish_at s).0 at e in
        rw ((finish_at s).1, (finish_at s).2, eq-eqb (owner t s) (s + 1) e')
        (entry (kind_entry t s) (page_count t s) (F.phases.swept (λ x. absurd (omega arith)) s e') (F.spans.entry s e'));
  }
    where
      entry : (k c : ℕ) → k < unswept_flag → GoodEntry k c → GoodEntry (k + unswept_flag) c
      entry k c l G =
          let y : (k + unswept_flag) % unswept_flag ≡ k % unswept_flag = omega arith in
          record { flag = omega arith; kind = rw y G.kind; large = λ w. G.large (rw y at w); small = λ w. rw y (G.small (rw y at w)) }

  pub finish_bits : Bits h.pages (unswept_table h) h.bits
  finish_bits = bits_like (λ w _. finish_like w) F.bits

  -- finish keeps the audit, if the references of the result are right
  pub finish_kept : NothingGray h → References (finished h) → Audited (finished h)
  finish_kept N R = record {
    sized = record {
      low = F.sized.low;
      high = F.sized.high;
      arena = F.sized.arena;
      table = pages_length h.pages 0 h.pages (unswept_page t) t (omega arith) F.sized.table;
      bits = F.sized.bits;
      roots = length-set h.roots phase_at sweep ∙ F.sized.roots;
    };
    spans = finish_spans N.phase;
    bits = finish_bits;
    phases = rw now (record {
      none = λ e. absurd (omega arith);
      swept = λ d. absurd (d refl);
      plain = λ d w. N.records w;
      unswept = λ e w x. is_true _ (finish_unswept w (F.bits.element w (F.bits.marks w x)).lies.used);
    });
    references = R;
    states = record {
      phase = rw now (omega arith);
      legal = λ s l. rw (rest (first_state + s) (omega arith)) ((F.states.legal s l).0, λ e. absurd (N.stacks s l e));
      globals = rw (rest globals_state_at (omega arith)) (F.states.globals.0, F.states.globals.1, λ e. absurd (N.globals e));
      closed = λ s i l m e. rw (rest (slot_count * s + i) (omega arith)) (F.states.closed s i l m (rw (rest (first_state + s) (omega arith)) at e));
    };
    occupied = λ s e. let f = F.occupied s (rw (finish_at s).0 at e) in (f.0, f.1, (finish_like f.0).at ∙ f.2);
  }
    where
      now : get_or (set h.roots phase_at sweep) phase_at 0 ≡ sweep
      now = root_at F phase_at sweep (omega arith) phase_at

      rest : (x : ℕ) → x ≢ phase_at → get_or (set h.roots phase_at sweep) x 0 ≡ get_or h.roots x 0
      rest = root_other F phase_at sweep (omega arith)
