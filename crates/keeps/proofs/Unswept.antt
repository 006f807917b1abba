-- How many spans are unswept: a sweep leaves one less. So the sweeps that make room for an allocation come to their end, within as many as there are
-- pages; where no span is unswept there are none. The laws of the loop that sweeps are here too, as a program makes it.
use Prim.Native.Nat.{ℕ, zero, suc, ◌+◌, ◌<◌, ◌≤◌}
use mathlib.Core.Bool.{Bool, true, false, not, cond, ◌&&◌, ◌||◌, or-true}
use mathlib.Core.List.{List, [], ◌∷◌, ◌++◌}
use mathlib.Core.Logic.{◌⊎◌, inl, inr}
use mathlib.Core.Path.{◌≡◌, refl, ap, sym, ◌∙◌}
use native.Mathlib.Omega.{arith}
use lib.Dec.{T, eqb, leb}
use borrow.Author.Tests.{eqb-true, eqb-false, leb-true, leb-false, le-leb, lt-leb}
use Rattle.model.specs.Bounded.{count_below}
use Rattle.model.specs.Memory.{Heap, unswept_flag}
use Rattle.model.specs.Spans.{kind_entry, starts_span, is_unswept}
use Rattle.model.specs.Cycle.{swept_table, swept_span}
use Rattle.model.specs.Allocate.{element_free, pages_free, of_kind, any_span, next_unswept, sweep_at_most, sweep_until, swept_until, last_of, kind_sweeps, page_sweeps, room_sweeps}
use Rattle.model.specs.Facts.{IsSpan, Audited}
use Rattle.model.specs.Lent.{AllSwept}
use Rattle.model.proofs.Tests.{of_true, is_true}
use Rattle.model.proofs.Bounded.{count_bound}
use Rattle.model.proofs.Rules.{tests}
use Rattle.model.proofs.Sweeps.{next_unswept_lem}
use Rattle.keeps.proofs.SweptTable.{unswept_less}
use Rattle.keeps.proofs.Swept.{span_kept}

count_less : (n : ℕ) (p q : ℕ → Bool) → ((x : ℕ) → x < n → T (p x) → T (q x)) → count_below n p ≤ count_below n q
unfolding count_below
count_less zero p q f = omega arith
count_less (suc n) p q f = omega (arith, count_less n p q (λ x l. f x (omega arith)), one (p n) (q n) (f n (omega arith)))
  where
    one : (a b : Bool) → (T a → T b) → cond a 1 0 ≤ cond b 1 0
    one true true g = omega arith
    one true false g = absurd (g tt)
    one false b g = omega arith

count_fewer : (n : ℕ) (p q : ℕ → Bool) (s : ℕ) → s < n → T (q s) → T (not (p s)) → ((x : ℕ) → x < n → T (p x) → T (q x)) → count_below n p < count_below n q
unfolding count_below
count_fewer zero p q s l a b f = absurd (omega arith)
count_fewer (suc n) p q s l a b f = go (eqb s n) refl (λ k. count_fewer n p q s k a b (λ x m. f x (omega arith)))
  where
    one : (a b : Bool) → (T a → T b) → cond a 1 0 ≤ cond b 1 0
    one true true g = omega arith
    one true false g = absurd (g tt)
    one false b g = omega arith

    lone : (a b : Bool) → T b → T (not a) → (◌≡◌ {A = ℕ} (cond a 1 0) 0) × (◌≡◌ {A = ℕ} (cond b 1 0) 1)
    lone true b t u = absurd u
    lone false true t u = (refl, refl)
    lone false false t u = absurd t

    go : (c : Bool) → eqb s n ≡ c → (s < n → count_below n p < count_below n q) → count_below n p + cond (p n) 1 0 < count_below n q + cond (q n) 1 0
    go true e ih = let z = eqb-true s n e in omega (arith, count_less n p q (λ x m. f x (omega arith)), lone (p n) (q n) (rw z at a) (rw z at b))
    go false e ih = omega (arith, ih (omega (arith, eqb-false s n e)), one (p n) (q n) (f n (omega arith)))

-- how many spans are unswept
abbrev pub unswept_spans : Heap → ℕ
unswept_spans h = count_below h.pages (λ s. starts_span h.table s && is_unswept h.table s)

-- one unswept span less
pub fewer : {h : Heap} → Audited h → (s : ℕ) → s < h.pages → IsSpan h.table s → unswept_flag ≤ kind_entry h.table s →
    unswept_spans (swept_span s h) < unswept_spans h
fewer {h} F s l i k =
    count_fewer h.pages (λ x. starts_span (swept_table h s) x && is_unswept (swept_table h s) x) (λ x. starts_span h.table x && is_unswept h.table x) s l
    (simp tests (i, k)) (no (starts_span (swept_table h s) s && is_unswept (swept_table h s) s) (λ t. let y = simp tests at t in (unswept_less F s i s y.0 y.1).2 refl))
    (λ x _ t. let y = simp tests at t in let z = unswept_less F s i x y.0 y.1 in simp tests (z.0, z.1))
  where
    no : (b : Bool) → (T b → ⊥) → T (not b)
    no true f = absurd (f tt)
    no false f = tt

-- where no span is unswept nothing is swept
next_none : (h : Heap) → AllSwept h.table → (test : Heap → ℕ → Bool) → leb h.pages (next_unswept test h) ≡ true
next_none h A test = go (leb h.pages (next_unswept test h)) refl
  where
    go : (b : Bool) → leb h.pages (next_unswept test h) ≡ b → b ≡ true
    go true e = refl
    go false e = let u = next_unswept_lem test h (leb-false h.pages (next_unswept test h) e) in
        absurd (omega (arith, A (next_unswept test h) u.0))

-- sweeps come to their end, within as many as there are unswept spans: the goal is met, or no span that passes the test is unswept
abbrev pub Ended : (Heap → Bool) → (Heap → ℕ → Bool) → Heap → Type 0
Ended goal test g = T (goal g) ⊎ (g.pages ≤ next_unswept test g)

one_less : {h : Heap} → Audited h → (test : Heap → ℕ → Bool) → next_unswept test h < h.pages →
    Audited (swept_span (next_unswept test h) h) × (unswept_spans (swept_span (next_unswept test h) h) < unswept_spans h)
one_less {h} F test l =
    let s = next_unswept test h in
    let u = next_unswept_lem test h l in
    (span_kept F s u.0 u.1, fewer F s l u.0 u.1)

module _ (goal : Heap → Bool) (test : Heap → ℕ → Bool) where
  spent : (n : ℕ) (h : Heap) → Audited h → unswept_spans h ≤ n → Ended goal test (last_of h (sweep_at_most n goal test h))
  unfolding sweep_at_most last_of
  spent zero h F l = go (leb h.pages (next_unswept test h)) refl
    where
      go : (b : Bool) → leb h.pages (next_unswept test h) ≡ b → Ended goal test h
      go true e = inr (leb-true h.pages (next_unswept test h) e)
      go false e = absurd (omega (arith, (one_less F test (leb-false h.pages (next_unswept test h) e)).1))
  spent (suc n) h F l = go (goal h) refl (leb h.pages s) refl (λ A m. spent n (swept_span s h) A m)
    where
      s : ℕ
      s = next_unswept test h

      go : (a : Bool) → goal h ≡ a → (b : Bool) → leb h.pages (next_unswept test h) ≡ b →
          (Audited (swept_span s h) → unswept_spans (swept_span s h) ≤ n → Ended goal test (last_of (swept_span s h) (sweep_at_most n goal test (swept_span s h)))) →
          Ended goal test (last_of h (cond (a || b) [] (swept_span s h ∷ sweep_at_most n goal test (swept_span s h))))
      go true e b p rest = inl (is_true (goal h) e)
      go false e true p rest = inr (leb-true h.pages (next_unswept test h) p)
      go false e false p rest = let x = one_less F test (leb-false h.pages (next_unswept test h) p) in rest x.0 (omega (arith, x.1))

  few : (h : Heap) → unswept_spans h ≤ h.pages
  few h = count_bound h.pages (λ s. starts_span h.table s && is_unswept h.table s)

  pub until_ends : {h : Heap} → Audited h → Ended goal test (swept_until goal test h)
  until_ends {h} F = spent h.pages h F (few h)

  -- THE LOOP, as a program makes it: the heap that the sweeps leave is h where they have ended, and else that of the heap with the next span swept.
  -- How many sweeps are allowed is not seen: P are enough.
  until_stop : (n : ℕ) (h : Heap) → Ended goal test h → sweep_at_most n goal test h ≡ []
  unfolding sweep_at_most
  until_stop zero h e = refl
  until_stop (suc n) h (inl t) = rw (of_true (goal h) t)
  until_stop (suc n) h (inr l) = rw (le-leb h.pages (next_unswept test h) l, or-true (goal h))

  enough : (n m : ℕ) (h : Heap) → Audited h → unswept_spans h ≤ n → unswept_spans h ≤ m → sweep_at_most n goal test h ≡ sweep_at_most m goal test h
  unfolding sweep_at_most last_of
  enough zero m h F l k = sym (until_stop m h (spent zero h F l))
  enough (suc n) zero h F l k = until_stop (suc n) h (spent zero h F k)
  enough (suc n) (suc m) h F l k = go (goal h) (leb h.pages s) refl (λ A a b. enough n m (swept_span s h) A a b)
    where
      s : ℕ
      s = next_unswept test h

      go : (a b : Bool) → leb h.pages (next_unswept test h) ≡ b →
          (Audited (swept_span s h) → unswept_spans (swept_span s h) ≤ n → unswept_spans (swept_span s h) ≤ m →
          sweep_at_most n goal test (swept_span s h) ≡ sweep_at_most m goal test (swept_span s h)) →
          cond (a || b) [] (swept_span s h ∷ sweep_at_most n goal test (swept_span s h)) ≡ cond (a || b) [] (swept_span s h ∷ sweep_at_most m goal test (swept_span s h))
      go true b p rest = refl
      go false true p rest = refl
      go false false p rest =
          let x = one_less F test (leb-false h.pages (next_unswept test h) p) in
          ap (λ (gs : List Heap). swept_span s h ∷ gs) (rest x.0 (omega (arith, x.1)) (omega (arith, x.1)))

  pub loop_ends : (h : Heap) → Ended goal test h → swept_until goal test h ≡ h
  unfolding last_of
  loop_ends h e = rw (until_stop h.pages h e)

  pub loop_goes : {h : Heap} → Audited h → goal h ≡ false → next_unswept test h < h.pages →
      swept_until goal test h ≡ swept_until goal test (swept_span (next_unswept test h) h)
  loop_goes {h} F g l = ap (last_of h) (enough h.pages (suc h.pages) h F (few h) (omega (arith, few h))) ∙ once
    where
      once : last_of h (sweep_at_most (suc h.pages) goal test h) ≡ swept_until goal test (swept_span (next_unswept test h) h)
      once = unfold sweep_at_most last_of in rw (g, lt-leb h.pages (next_unswept test h) l)

  pub loop_none : (h : Heap) → AllSwept h.table → swept_until goal test h ≡ h
  loop_none h A = loop_ends h (inr (leb-true h.pages (next_unswept test h) (next_none h A test)))

-- the sweeps for room are two loops, of which the second is made where the first has found none
last_join : (h : Heap) (gs ks : List Heap) → last_of h (gs ++ ks) ≡ last_of (last_of h gs) ks
unfolding last_of
last_join h [] ks = refl
last_join h (g ∷ gs) ks = last_join g gs ks

last_cond : (b : Bool) (h : Heap) (gs : List Heap) → last_of h (cond b [] gs) ≡ cond b h (last_of h gs)
unfolding last_of
last_cond true h gs = refl
last_cond false h gs = refl

pub two_loops : (kind n : ℕ) (h : Heap) → let k = swept_until (element_free kind) (of_kind kind) h in
    last_of h (room_sweeps kind n h) ≡ cond (element_free kind k) k (swept_until (pages_free n) any_span k)
unfolding room_sweeps kind_sweeps page_sweeps
two_loops kind n h =
    let k = swept_until (element_free kind) (of_kind kind) h in
    last_join h (sweep_until (element_free kind) (of_kind kind) h) (cond (element_free kind k) [] (sweep_until (pages_free n) any_span k))
    ∙ last_cond (element_free kind k) k (sweep_until (pages_free n) any_span k)
