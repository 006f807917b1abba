-- Calls that change the roots alone keep the audit: a slot or a global set, a stack opened or closed, a stack scanned, start, and the end of a cycle.
use Prim.Native.Nat.{ℕ, ◌+◌, ◌*◌, ◌<◌, ◌≤◌}
use mathlib.Core.List.{List}
use mathlib.Core.Bool.{Bool, true, false, cond, true≢false}
use mathlib.Core.Logic.{inl, ◌≢◌}
use mathlib.Core.Path.{◌≡◌, refl, ap, sym, ◌∙◌}
use native.Mathlib.Omega.{arith}
use lib.ListN.{get_or, set, length, length-set}
use lib.Dec.{eqb}
use borrow.Author.Tests.{eq-eqb, ne_eqb, eqb-true, eqb-false}
use Rattle.model.specs.Memory.{Heap, with_roots, set_root, put_words, slot_at, global_at, state_at, stack_count, slot_count, global_count, first_global, first_state, globals_state_at, phase_at, root_words, unswept_flag, off, mark, sweep, closed, open_state, gray_state}
use Rattle.model.specs.Bitmaps.{is, marked}
use Rattle.model.specs.Spans.{kind_entry}
use Rattle.model.specs.Records.{emptied}
use Rattle.model.proofs.Tests.{of_true, is_true}
use Rattle.model.proofs.Bounded.{within, within_yes, within_low, within_high}
use Rattle.model.proofs.Words.{set_at, words_at_lem, words_length}
use Rattle.model.specs.Facts.{IsSpan, Audited, Phases, States, Reference}
use Rattle.model.proofs.Facts.{swept_all}

-- nil or the address of a kept element of a heap
abbrev pub Refers : Heap → ℕ → Type 0
Refers h v = Reference h.pages h.table h.bits v

pub roots_kept : {h : Heap} → Audited h → (l : List ℕ) → length l ≡ root_words → Phases h.pages (get_or l phase_at 0) h.table h.bits → States l →
    ((x : ℕ) → x < first_state → Refers h (get_or l x 0)) → Audited (with_roots l h)
roots_kept F l z Q S r = record {
  sized = record { low = F.sized.low; high = F.sized.high; arena = F.sized.arena; table = F.sized.table; bits = F.sized.bits; roots = z };
  spans = F.spans;
  bits = F.bits;
  phases = Q;
  references = record { root = r; content = F.references.content };
  states = S;
  occupied = F.occupied;
}

-- one word of the roots after another was set
pub root_at : {h : Heap} → Audited h → (i v : ℕ) → i < root_words → (x : ℕ) → get_or (set h.roots i v) x 0 ≡ cond (eqb x i) v (get_or h.roots x 0)
root_at {h} F i v l x = set_at h.roots i v (omega (arith, F.sized.roots)) x

pub root_other : {h : Heap} → Audited h → (i v : ℕ) → i < root_words → (x : ℕ) → x ≢ i → get_or (set h.roots i v) x 0 ≡ get_or h.roots x 0
root_other {h} F i v l x d = rw (root_at F i v l x, ne_eqb x i d)

-- a slot of an open stack is set (copy, clear, load, load of a global)
pub slot_kept : {h : Heap} → Audited h → (s i v : ℕ) → s < stack_count → i < slot_count → get_or h.roots (first_state + s) 0 ≢ closed → Refers h v → Audited (set_root (slot_at s i) v h)
slot_kept {h} F s i v hs hi o r =
    roots_kept F (set h.roots (slot_count * s + i) v) (length-set h.roots (slot_count * s + i) v ∙ F.sized.roots) (rw (rest phase_at (omega arith)) F.phases)
    (record {
      phase = rw (rest phase_at (omega arith)) F.states.phase;
      legal = λ x l. rw (rest (first_state + x) (omega arith), rest phase_at (omega arith)) (F.states.legal x l);
      globals = rw (rest globals_state_at (omega arith), rest phase_at (omega arith)) F.states.globals;
      closed = λ x j l m e. let e' = rw (rest (first_state + x) (omega arith)) at e in
          rw (at (slot_count * x + j), ne_eqb (slot_count * x + j) (slot_count * s + i) (λ y. o (ap (λ k. get_or h.roots (first_state + k) 0) (stack x j m y) ∙ e'))) (F.states.closed x j l m e');
    })
    (λ x l. rw (at x) (go x l (eqb x (slot_count * s + i))))
  where
    at : (x : ℕ) → get_or (set h.roots (slot_count * s + i) v) x 0 ≡ cond (eqb x (slot_count * s + i)) v (get_or h.roots x 0)
    at = root_at F (slot_count * s + i) v (omega arith)

    rest : (x : ℕ) → first_global ≤ x → get_or (set h.roots (slot_count * s + i) v) x 0 ≡ get_or h.roots x 0
    rest x l = root_other F (slot_count * s + i) v (omega arith) x (omega arith)

    stack : (x j : ℕ) → j < slot_count → slot_count * x + j ≡ slot_count * s + i → s ≡ x
    stack x j l e = omega arith

    go : (x : ℕ) → x < first_state → (b : Bool) → Refers h (cond b v (get_or h.roots x 0))
    go x l true = r
    go x l false = F.references.root x l

-- the roots after a stack was emptied, its state n (0 or 1)
module _ {h : Heap} (F : Audited h) (s n : ℕ) (hs : s < stack_count) where
  abbrev mid : List ℕ
  mid = put_words (slot_count * s + 0) slot_count (λ i. 0) h.roots

  mid_length : length mid ≡ root_words
  mid_length = words_length root_words (slot_count * s + 0) slot_count (λ i. 0) h.roots (omega arith) F.sized.roots

  pub emptied_length : length (set (put_words (slot_count * s + 0) slot_count (λ i. 0) h.roots) (first_state + s) n) ≡ root_words
  emptied_length = length-set mid (first_state + s) n ∙ mid_length

  pub emptied_at : (x : ℕ) → get_or (set (put_words (slot_count * s + 0) slot_count (λ i. 0) h.roots) (first_state + s) n) x 0 ≡ cond (eqb x (first_state + s)) n
      (cond (within (slot_count * s + 0) slot_count x) 0 (get_or h.roots x 0))
  emptied_at x = rw (set_at mid (first_state + s) n (omega (arith, mid_length)) x, words_at_lem root_words (slot_count * s + 0) slot_count (λ i. 0) h.roots (omega arith) F.sized.roots x)

-- open and close
pub emptied_kept : {h : Heap} → Audited h → (s n : ℕ) → s < stack_count → n ≤ 1 → Audited (emptied h s n)
unfolding emptied
emptied_kept {h} F s n hs hn =
    roots_kept F r (emptied_length F s n hs) (rw (high phase_at (omega arith)) F.phases)
    (record {
      phase = rw (high phase_at (omega arith)) F.states.phase;
      legal = λ x l. rw (state x, high phase_at (omega arith)) (legal x l (eqb x s));
      globals = rw (high globals_state_at (omega arith), high phase_at (omega arith)) F.states.globals;
      closed = λ x j l m e. rw (low (slot_count * x + j) (omega arith)) (nil_there x j l m (rw (state x) at e) (within (slot_count * s + 0) slot_count (slot_count * x + j)) refl);
    })
    (λ x l. rw (low x l) (root x l (within (slot_count * s + 0) slot_count x)))
  where
    r : List ℕ
    r = set (put_words (slot_count * s + 0) slot_count (λ i. 0) h.roots) (first_state + s) n

    at : (x : ℕ) → get_or r x 0 ≡ cond (eqb x (first_state + s)) n (cond (within (slot_count * s + 0) slot_count x) 0 (get_or h.roots x 0))
    at = emptied_at F s n hs

    low : (x : ℕ) → x < first_state → get_or r x 0 ≡ cond (within (slot_count * s + 0) slot_count x) 0 (get_or h.roots x 0)
    low x l = rw (at x, ne_eqb x (first_state + s) (omega arith))

    high : (x : ℕ) → globals_state_at ≤ x → get_or r x 0 ≡ get_or h.roots x 0
    high x l = rw (at x, ne_eqb x (first_state + s) (omega arith), within_high (slot_count * s + 0) slot_count x (omega arith))

    shift : (x : ℕ) → eqb (first_state + x) (first_state + s) ≡ eqb x s
    shift x = go (eqb x s) refl
      where
        go : (c : Bool) → eqb x s ≡ c → eqb (first_state + x) (first_state + s) ≡ c
        go true e = eq-eqb (first_state + x) (first_state + s) (omega (arith, eqb-true x s e))
        go false e = ne_eqb (first_state + x) (first_state + s) (λ p. eqb-false x s e (omega arith))

    state : (x : ℕ) → get_or r (first_state + x) 0 ≡ cond (eqb x s) n (get_or h.roots (first_state + x) 0)
    state x = rw (at (first_state + x), shift x, within_high (slot_count * s + 0) slot_count (first_state + x) (omega arith))

    legal : (x : ℕ) → x < stack_count → (c : Bool) → (cond c n (get_or h.roots (first_state + x) 0) ≤ gray_state) × (cond c n (get_or h.roots (first_state + x) 0) ≡ gray_state → get_or h.roots phase_at 0 ≡ mark)
    legal x l true = (omega arith, λ e. absurd (omega arith))
    legal x l false = F.states.legal x l

    nil_there : (x j : ℕ) → x < stack_count → j < slot_count → cond (eqb x s) n (get_or h.roots (first_state + x) 0) ≡ closed → (c : Bool) → within (slot_count * s + 0) slot_count (slot_count * x + j) ≡ c →
        cond c 0 (get_or h.roots (slot_count * x + j) 0) ≡ 0
    nil_there x j l m e true q = refl
    nil_there x j l m e false q = F.states.closed x j l m
        (rw (ne_eqb x s (λ y. true≢false (sym (within_yes (slot_count * s + 0) slot_count (slot_count * x + j) (omega arith) (omega arith)) ∙ q))) at e)

    root : (x : ℕ) → x < first_state → (c : Bool) → Refers h (cond c 0 (get_or h.roots x 0))
    root x l true = inl refl
    root x l false = F.references.root x l

-- a global is set
pub global_kept : {h : Heap} → Audited h → (g v : ℕ) → g < global_count → Refers h v → Audited (set_root (global_at g) v h)
global_kept {h} F g v hg r =
    roots_kept F (set h.roots (first_global + g) v) (length-set h.roots (first_global + g) v ∙ F.sized.roots) (rw (rest phase_at (omega arith)) F.phases)
    (record {
      phase = rw (rest phase_at (omega arith)) F.states.phase;
      legal = λ x l. rw (rest (first_state + x) (omega arith), rest phase_at (omega arith)) (F.states.legal x l);
      globals = rw (rest globals_state_at (omega arith), rest phase_at (omega arith)) F.states.globals;
      closed = λ x j l m e. rw (rest (slot_count * x + j) (omega arith)) (F.states.closed x j l m (rw (rest (first_state + x) (omega arith)) at e));
    })
    (λ x l. rw (root_at F (first_global + g) v (omega arith) x) (go x l (eqb x (first_global + g))))
  where
    rest : (x : ℕ) → x ≢ first_global + g → get_or (set h.roots (first_global + g) v) x 0 ≡ get_or h.roots x 0
    rest = root_other F (first_global + g) v (omega arith)

    go : (x : ℕ) → x < first_state → (b : Bool) → Refers h (cond b v (get_or h.roots x 0))
    go x l true = r
    go x l false = F.references.root x l

-- the state of an open stack becomes 1
pub scanned_kept : {h : Heap} → Audited h → (s : ℕ) → s < stack_count → get_or h.roots (first_state + s) 0 ≢ closed → Audited (set_root (state_at s) open_state h)
scanned_kept {h} F s hs o =
    roots_kept F (set h.roots (first_state + s) open_state) (length-set h.roots (first_state + s) open_state ∙ F.sized.roots) (rw (rest phase_at (omega arith)) F.phases)
    (record {
      phase = rw (rest phase_at (omega arith)) F.states.phase;
      legal = λ x l. rw (at (first_state + x), rest phase_at (omega arith)) (legal x l (eqb (first_state + x) (first_state + s)));
      globals = rw (rest globals_state_at (omega arith), rest phase_at (omega arith)) F.states.globals;
      closed = λ x j l m e. rw (rest (slot_count * x + j) (omega arith)) (F.states.closed x j l m (nil_there x (eqb (first_state + x) (first_state + s)) (rw (at (first_state + x)) at e)));
    })
    (λ x l. rw (rest x (omega arith)) (F.references.root x l))
  where
    at : (x : ℕ) → get_or (set h.roots (first_state + s) open_state) x 0 ≡ cond (eqb x (first_state + s)) open_state (get_or h.roots x 0)
    at = root_at F (first_state + s) open_state (omega arith)

    rest : (x : ℕ) → x ≢ first_state + s → get_or (set h.roots (first_state + s) open_state) x 0 ≡ get_or h.roots x 0
    rest = root_other F (first_state + s) open_state (omega arith)

    legal : (x : ℕ) → x < stack_count → (c : Bool) → (cond c open_state (get_or h.roots (first_state + x) 0) ≤ gray_state) × (cond c open_state (get_or h.roots (first_state + x) 0) ≡ gray_state → get_or h.roots phase_at 0 ≡ mark)
    legal x l true = (omega arith, λ e. absurd (omega arith))
    legal x l false = F.states.legal x l

    nil_there : (x : ℕ) (c : Bool) → cond c open_state (get_or h.roots (first_state + x) 0) ≡ closed → get_or h.roots (first_state + x) 0 ≡ closed
    nil_there x true e = absurd (omega arith)
    nil_there x false e = e

-- the globals' state becomes 1
pub globals_kept : {h : Heap} → Audited h → Audited (set_root globals_state_at open_state h)
globals_kept {h} F =
    roots_kept F (set h.roots globals_state_at open_state) (length-set h.roots globals_state_at open_state ∙ F.sized.roots) (rw (rest phase_at (omega arith)) F.phases)
    (record {
      phase = rw (rest phase_at (omega arith)) F.states.phase;
      legal = λ x l. rw (rest (first_state + x) (omega arith), rest phase_at (omega arith)) (F.states.legal x l);
      globals = rw (at globals_state_at) (omega arith, omega arith, λ e. absurd (omega arith));
      closed = λ x j l m e. rw (rest (slot_count * x + j) (omega arith)) (F.states.closed x j l m (rw (rest (first_state + x) (omega arith)) at e));
    })
    (λ x l. rw (rest x (omega arith)) (F.references.root x l))
  where
    at : (x : ℕ) → get_or (set h.roots globals_state_at open_state) x 0 ≡ cond (eqb x globals_state_at) open_state (get_or h.roots x 0)
    at = root_at F globals_state_at open_state (omega arith)

    rest : (x : ℕ) → x ≢ globals_state_at → get_or (set h.roots globals_state_at open_state) x 0 ≡ get_or h.roots x 0
    rest = root_other F globals_state_at open_state (omega arith)

-- the roots after a start
abbrev pub grayed : Heap → List ℕ
grayed h = put_words first_state stack_count (λ i. cond (eqb (get_or h.roots i 0) closed) closed gray_state) h.roots

abbrev pub started : Heap → List ℕ
started h = set (set (grayed h) globals_state_at gray_state) phase_at mark

module _ {h : Heap} (F : Audited h) where
  gray_length : length (grayed h) ≡ root_words
  gray_length = words_length root_words first_state stack_count (λ i. cond (eqb (get_or h.roots i 0) closed) closed gray_state) h.roots (omega arith) F.sized.roots

  pub started_length : length (started h) ≡ root_words
  started_length = simp length-set gray_length

  pub started_at : (x : ℕ) → get_or (started h) x 0 ≡ cond (eqb x phase_at) mark
      (cond (eqb x globals_state_at) gray_state (cond (within first_state stack_count x) (cond (eqb (get_or h.roots x 0) closed) closed gray_state) (get_or h.roots x 0)))
  started_at x = rw (
    set_at (set (grayed h) globals_state_at gray_state) phase_at mark (simp length-set (omega (arith, gray_length))) x,
    set_at (grayed h) globals_state_at gray_state (omega (arith, gray_length)) x,
    words_at_lem root_words first_state stack_count (λ i. cond (eqb (get_or h.roots i 0) closed) closed gray_state) h.roots (omega arith) F.sized.roots x,
  )

  pub started_low : (x : ℕ) → x < first_state → get_or (started h) x 0 ≡ get_or h.roots x 0
  started_low x l = rw (started_at x, ne_eqb x phase_at (omega arith), ne_eqb x globals_state_at (omega arith), within_low first_state stack_count x l)

  pub started_state : (s : ℕ) → s < stack_count → get_or (started h) (first_state + s) 0 ≡ cond (eqb (get_or h.roots (first_state + s) 0) closed) closed gray_state
  started_state s l = rw (
    started_at (first_state + s),
    ne_eqb (first_state + s) phase_at (omega arith),
    ne_eqb (first_state + s) globals_state_at (omega arith),
    within_yes first_state stack_count (first_state + s) (omega arith) (omega arith),
  )

  pub started_kept : get_or h.roots phase_at 0 ≡ off → Audited (with_roots (started h) h)
  started_kept nil =
      roots_kept F (started h) started_length (rw (started_at phase_at) (record {
        none = λ e. absurd (omega arith);
        swept = λ d. F.phases.swept (λ e. absurd (omega arith));
        plain = λ d. absurd (d refl);
        unswept = λ e. absurd (omega arith);
      }))
      (record {
        phase = rw (started_at phase_at) (omega arith);
        legal = λ x l. rw (started_state x l) (legal (eqb (get_or h.roots (first_state + x) 0) closed), λ e. started_at phase_at);
        globals = rw (started_at globals_state_at) (omega arith, omega arith, λ e. started_at phase_at);
        closed = λ x j l m e. rw (started_low (slot_count * x + j) (omega arith))
            (F.states.closed x j l m (nil_there x (eqb (get_or h.roots (first_state + x) 0) closed) refl (rw (started_state x l) at e)));
      })
      (λ x l. rw (started_low x l) (F.references.root x l))
    where
      legal : (b : Bool) → cond b 0 2 ≤ 2
      legal true = omega arith
      legal false = omega arith

      nil_there : (x : ℕ) (b : Bool) → eqb (get_or h.roots (first_state + x) 0) closed ≡ b → cond {A = ℕ} b closed gray_state ≡ closed → get_or h.roots (first_state + x) 0 ≡ closed
      nil_there x true e z = eqb-true (get_or h.roots (first_state + x) 0) closed e
      nil_there x false e z = absurd (omega arith)

-- the end of a cycle: nothing is unswept
pub ended_kept : {h : Heap} → Audited h → get_or h.roots phase_at 0 ≡ sweep → ((s : ℕ) → IsSpan h.table s → kind_entry h.table s < unswept_flag) → Audited (set_root phase_at off h)
ended_kept {h} F two swept =
    roots_kept F (set h.roots phase_at off) (length-set h.roots phase_at off ∙ F.sized.roots) (rw now (record {
      none = λ e v. unmarked v (is marked h v) refl;
      swept = λ d. swept;
      plain = λ d. F.phases.plain (λ e. absurd (omega arith));
      unswept = λ e. absurd (omega arith);
    }))
    (record {
      phase = rw now (omega arith);
      legal = λ x l. rw (rest (first_state + x) (omega arith), now) ((F.states.legal x l).0, λ e. absurd (omega (arith, (F.states.legal x l).1 e)));
      globals = rw (rest globals_state_at (omega arith), now) (F.states.globals.0, F.states.globals.1, λ e. absurd (omega (arith, F.states.globals.2 e)));
      closed = λ x j l m e. rw (rest (slot_count * x + j) (omega arith)) (F.states.closed x j l m (rw (rest (first_state + x) (omega arith)) at e));
    })
    (λ x l. rw (rest x (omega arith)) (F.references.root x l))
  where
    now : get_or (set h.roots phase_at off) phase_at 0 ≡ off
    now = root_at F phase_at off (omega arith) phase_at

    rest : (x : ℕ) → x ≢ phase_at → get_or (set h.roots phase_at off) x 0 ≡ get_or h.roots x 0
    rest = root_other F phase_at off (omega arith)

    unmarked : (v : ℕ) (b : Bool) → is marked h v ≡ b → b ≡ false
    unmarked v true x = absurd (true≢false (sym (of_true _ (F.phases.unswept two v (is_true _ x))) ∙
        swept_all F.spans swept (Rattle.model.specs.Spans.span_of h.table v)))
    unmarked v false x = refl
