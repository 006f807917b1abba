-- A loop that sweeps the unswept spans that pass a test until a goal is met, page by page: where it has come to, how it goes on and how it ends. For
-- any goal and test; a test may not turn from no to yes where another span is swept.
use Prim.Native.Nat.{ℕ, ◌+◌, ◌<◌, ◌≤◌}
use mathlib.Core.Bool.{Bool, true, false, cond, true≢false}
use mathlib.Core.List.{List}
use mathlib.Core.Logic.{inl, inr}
use mathlib.Core.Path.{◌≡◌, refl, sym, ◌∙◌, subst}
use native.Mathlib.Omega.{arith}
use lib.Dec.{T, eqb}
use borrow.Author.Tests.{eqb-true, eqb-false}
use Rattle.model.specs.Memory.{Heap, lent, unswept_flag}
use Rattle.model.specs.Spans.{kind_entry}
use Rattle.model.specs.Cycle.{swept_table, swept_bits, swept_span}
use Rattle.model.specs.Allocate.{is_next, next_unswept, swept_until}
use Rattle.model.specs.Facts.{IsSpan, Audited}
use Rattle.model.proofs.Tests.{is_true}
use Rattle.model.proofs.Bounded.{first_props, first_is}
use Rattle.keeps.proofs.Swept.{span_kept}
use Rattle.keeps.proofs.Unswept.{loop_ends, loop_goes}
use Rattle.keeps.proofs.Beside.{next_above, as_facts}
use Rattle.room_sweeps.specs.Needs.{LentAudited, SweptIf}

-- a test says no more of the spans that are left where the span at page s is swept
abbrev pub Steady : (Heap → ℕ → Bool) → Type 0
Steady test = (h : Heap) → Audited h → (s : ℕ) → IsSpan h.table s → unswept_flag ≤ kind_entry h.table s → (x : ℕ) →
    IsSpan (swept_table h s) x → unswept_flag ≤ kind_entry (swept_table h s) x → T (test (swept_span s h) x) → T (test h x)

-- before page s: the goal is not met, no span that passes the test is unswept there, and what is left to do is what was to do at the beginning
pub record Under (goal : Heap → Bool) (test : Heap → ℕ → Bool) (p : ℕ) (t₀ b₀ t b : List ℕ) (s : ℕ) : Type 0 where
  pub kept : (a o : List ℕ) → Audited (lent p a t₀ b₀ o) → Audited (lent p a t b o)
  pub same : (a o : List ℕ) → Audited (lent p a t₀ b₀ o) → swept_until goal test (lent p a t₀ b₀ o) ≡ swept_until goal test (lent p a t b o)
  pub unmet : (a o : List ℕ) → Audited (lent p a t₀ b₀ o) → goal (lent p a t b o) ≡ false
  pub passed : (a o : List ℕ) → Audited (lent p a t₀ b₀ o) → s ≤ next_unswept test (lent p a t b o)

pub begun : (goal : Heap → Bool) (test : Heap → ℕ → Bool) {p : ℕ} {t b : List ℕ} → ((a o : List ℕ) → goal (lent p a t b o) ≡ false) → Under goal test p t b t b 0
begun goal test e = record { kept = λ a o F. F; same = λ a o F. refl; unmet = λ a o _. e a o; passed = λ a o _. omega arith }

-- at page s: the next span is there, or further on
module _ (test : Heap → ℕ → Bool) (h : Heap) (s : ℕ) (l : s ≤ next_unswept test h) (m : s < h.pages) where
  at_next : is_next test h s ≡ true → next_unswept test h ≡ s
  unfolding next_unswept
  at_next e = first_is h.pages (is_next test h) s (record {
    within = omega arith;
    before = λ k x. (first_props h.pages (is_next test h)).before k (omega arith);
    holds = λ _. e;
  })

  past_it : is_next test h s ≡ false → s + 1 ≤ next_unswept test h
  unfolding next_unswept
  past_it e = go (eqb s (next_unswept test h)) refl
    where
      go : (b : Bool) → eqb s (next_unswept test h) ≡ b → s + 1 ≤ next_unswept test h
      go true q =
          let z = eqb-true s (next_unswept test h) q in
          absurd (true≢false (sym (rw (← z) at ((first_props h.pages (is_next test h)).holds (omega arith))) ∙ e))
      go false q = omega (arith, eqb-false s (next_unswept test h) q)

-- what was audited is
module _ {goal : Heap → Bool} {test : Heap → ℕ → Bool} {p : ℕ} {t₀ b₀ t b : List ℕ} {s : ℕ} (U : Under goal test p t₀ b₀ t b s) where
  pub still : LentAudited p t₀ b₀ → LentAudited p t b
  still S = (S.0, S.1, U.kept S.0 S.1 S.2)

  -- all pages are passed: what is left is h
  pub ends_none : p ≤ s → (a o : List ℕ) → Audited (lent p a t₀ b₀ o) → lent p a t b o ≡ swept_until goal test (lent p a t₀ b₀ o)
  ends_none l a o F₀ = sym (U.same a o F₀ ∙ loop_ends goal test (lent p a t b o) (inr (omega (arith, U.passed a o F₀))))

  -- a turn that sweeps, and how the loop goes on from what it leaves
  pub record Turned (a o : List ℕ) : Type 0 where
    pub span : IsSpan t s
    pub unswept : unswept_flag ≤ kind_entry t s
    pub first : next_unswept test (lent p a t b o) ≡ s
    pub audited : Audited (swept_span s (lent p a t b o))
    pub goes : swept_until goal test (lent p a t₀ b₀ o) ≡ swept_until goal test (swept_span s (lent p a t b o))

  pub turned : s < p → (a o : List ℕ) → Audited (lent p a t₀ b₀ o) → is_next test (lent p a t b o) s ≡ true → Turned a o
  turned l a o F₀ e =
      let h = lent p a t b o in
      let F = U.kept a o F₀ in
      let f = at_next test h s (U.passed a o F₀) l e in
      let u = as_facts t s (test h s) (is_true _ e) in
      record {
        span = u.0;
        unswept = u.1;
        first = f;
        audited = span_kept F s u.0 u.1;
        goes = U.same a o F₀ ∙ subst (λ (x : ℕ). swept_until goal test h ≡ swept_until goal test (swept_span x h)) f (loop_goes goal test F (U.unmet a o F₀) (rw f l));
      }

  -- it meets the goal
  pub ends_met : s < p → (a o : List ℕ) → Audited (lent p a t₀ b₀ o) → is_next test (lent p a t b o) s ≡ true → T (goal (swept_span s (lent p a t b o))) →
      swept_span s (lent p a t b o) ≡ swept_until goal test (lent p a t₀ b₀ o)
  ends_met l a o F₀ e g = sym ((turned l a o F₀ e).goes ∙ loop_ends goal test (swept_span s (lent p a t b o)) (inl g))

  -- one turn more that does not
  pub goes_on : Steady test → s < p → {t' b' : List ℕ} → ((a o : List ℕ) → Audited (lent p a t b o) → SweptIf (is_next test (lent p a t b o) s) (lent p a t b o) s t' b') →
      ((a o : List ℕ) → Audited (lent p a t₀ b₀ o) → goal (lent p a t' b' o) ≡ false) → Under goal test p t₀ b₀ t' b' (s + 1)
  goes_on Y l {t'} {b'} X g = record {
    kept = λ a o F₀. (one a o F₀).0;
    same = λ a o F₀. (one a o F₀).1;
    unmet = g;
    passed = λ a o F₀. (one a o F₀).2;
  }
    where
      After : List ℕ → List ℕ → Heap → Type 0
      After a o h' = Audited h' × (swept_until goal test (lent p a t₀ b₀ o) ≡ swept_until goal test h') × (s + 1 ≤ next_unswept test h')

      one : (a o : List ℕ) → Audited (lent p a t₀ b₀ o) → After a o (lent p a t' b' o)
      one a o F₀ = let Y₁ = X a o (U.kept a o F₀) in rw (Y₁.table, Y₁.bits) (go (is_next test h s) refl)
        where
          h : Heap
          h = lent p a t b o

          go : (c : Bool) → is_next test h s ≡ c → After a o (lent p a (cond c (swept_table h s) t) (cond c (swept_bits h s) b) o)
          go true e =
              let F = U.kept a o F₀ in
              let W = turned l a o F₀ e in
              let n = next_above F test (rw W.first l) (subst (λ (x : ℕ). (y : ℕ) → IsSpan (swept_table h x) y → unswept_flag ≤ kind_entry (swept_table h x) y →
              T (test (swept_span x h) y) → T (test h y)) (sym W.first) (Y h F s W.span W.unswept)) in
              (W.audited, W.goes, let above : s < next_unswept test (swept_span s h) = rw W.first at n in omega arith)
          go false e = (U.kept a o F₀, U.same a o F₀, past_it test h s (U.passed a o F₀) l e)
