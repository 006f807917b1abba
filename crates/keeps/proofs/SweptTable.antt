-- The span at page s swept, and the page table: the span's pages are free, or its flag is gone; every other page stays as it was. The
-- table then passes the audit.
use Prim.Native.Nat.{ℕ, ◌+◌, ◌-◌, ◌*◌, ◌/◌, ◌%◌, ◌<◌, ◌≤◌}
use mathlib.Core.List.{List}
use mathlib.Core.Bool.{Bool, true, false, cond, true≢false}
use mathlib.Core.Logic.{◌⊎◌, inl, inr, ◌≢◌}
use mathlib.Core.Path.{◌≡◌, refl, ap, sym, ◌∙◌}
use native.Mathlib.Omega.{arith}
use lib.ListN.{length}
use lib.Dec.{eqb}
use borrow.Author.Tests.{eq-eqb, ne_eqb, eqb-true, eqb-false}
use Rattle.model.specs.Memory.{Heap, page_words, entry_numbers, unswept_flag}
use Rattle.model.specs.Spans.{owner, page_count, kind_entry, put_page, put_pages, span_page, free_page}
use Rattle.model.specs.Cycle.{swept_table, nothing_left}
use Rattle.model.proofs.Bounded.{within, within_yes, within_low, within_high, within_true, within_false}
use Rattle.model.proofs.Table.{page_length, owner_put, count_put, kind_put, pages_length, pages_owner, pages_count, pages_kind}
use Rattle.model.specs.Facts.{Spans, IsSpan, GoodEntry, Audited}
use Rattle.model.proofs.Spans.{fits}
use Rattle.keeps.proofs.Tables.{SamePage}

-- a choice of two places outside a run
pub within_no : (b n x : ℕ) → ((x < b) ⊎ (b + n ≤ x)) → within b n x ≡ false
within_no b n x (inl h) = within_low b n x h
within_no b n x (inr h) = within_high b n x h

-- the words of the pages s to s + n - 1
pub scaled : (s n w : ℕ) → within (page_words * s) (page_words * n) w ≡ within s n (w / page_words)
scaled s n w = go (within s n (w / page_words)) refl
  where
    outer : ((w / page_words < s) ⊎ (s + n ≤ w / page_words)) → within (page_words * s) (page_words * n) w ≡ false
    outer (inl h) = within_low (page_words * s) (page_words * n) w (omega arith)
    outer (inr h) = within_high (page_words * s) (page_words * n) w (omega arith)

    go : (b : Bool) → within s n (w / page_words) ≡ b → within (page_words * s) (page_words * n) w ≡ b
    go true e = let f = within_true s n (w / page_words) e in within_yes (page_words * s) (page_words * n) w (omega arith) (omega arith)
    go false e = outer (within_false s n (w / page_words) e)

module _ {h : Heap} (F : Audited h) (s : ℕ) (span : IsSpan h.table s) where
  abbrev P : ℕ
  P = h.pages

  abbrev t : List ℕ
  t = h.table

  abbrev u : List ℕ
  u = swept_table h s

  abbrev n : ℕ
  n = page_count h.table s

  pub inside : s + page_count h.table s ≤ h.pages
  inside = F.spans.inside s span

  pub low : s < h.pages
  low = omega (arith, inside, fits F.spans s span)

  pub own : within s (page_count h.table s) s ≡ true
  own = within_yes s n s (omega arith) (omega (arith, fits F.spans s span))

  -- the table: pages outside the span stay; the span's pages are free, or only the flag is gone
  pub outside : (x : ℕ) → within s (page_count h.table s) x ≡ false → (owner u x ≡ owner t x) × (page_count u x ≡ page_count t x) × (kind_entry u x ≡ kind_entry t x)
  unfolding swept_table
  outside x e = go (nothing_left h s)
    where
      y : Rattle.model.specs.Spans.Entry
      y = span_page s n (kind_entry t s % unswept_flag) s

      d : eqb x s ≡ false
      d = ne_eqb x s (λ p. true≢false (rw (p, own) at e))

      go : (b : Bool) → let v = cond b (put_pages s n (λ g. free_page) t) (put_page s y t) in
          (owner v x ≡ owner t x) × (page_count v x ≡ page_count t x) × (kind_entry v x ≡ kind_entry t x)
      go true = (
        rw (pages_owner P s n (λ g. free_page) t inside F.sized.table x, e),
        rw (pages_count P s n (λ g. free_page) t inside F.sized.table x, e),
        rw (pages_kind P s n (λ g. free_page) t inside F.sized.table x, e),
      )
      go false = (rw (owner_put P s y t low F.sized.table x, d), rw (count_put P s y t low F.sized.table x, d), rw (kind_put P s y t low F.sized.table x, d))

  pub gone : nothing_left h s ≡ true → (x : ℕ) → within s (page_count h.table s) x ≡ true → (owner u x ≡ 0) × (page_count u x ≡ 0) × (kind_entry u x ≡ 0)
  unfolding swept_table
  gone b x e = rw b (
    rw (pages_owner P s n (λ g. free_page) t inside F.sized.table x, e),
    rw (pages_count P s n (λ g. free_page) t inside F.sized.table x, e),
    rw (pages_kind P s n (λ g. free_page) t inside F.sized.table x, e),
  )

  pub stays : nothing_left h s ≡ false → (x : ℕ) →
      (owner u x ≡ owner t x) × (page_count u x ≡ page_count t x) × (kind_entry u x ≡ cond (eqb x s) (kind_entry t s % unswept_flag) (kind_entry t x))
  unfolding swept_table
  stays b x = rw b (
    rw (owner_put P s y t low F.sized.table x) (at_s (owner t) (s + 1) span),
    rw (count_put P s y t low F.sized.table x, same) (at_s (page_count t) (page_count t s) refl),
    rw (kind_put P s y t low F.sized.table x, same),
  )
    where
      y : Rattle.model.specs.Spans.Entry
      y = span_page s n (kind_entry t s % unswept_flag) s

      same : eqb s s ≡ true
      same = eq-eqb s s refl

      at_s : (f : ℕ → ℕ) (v : ℕ) → f s ≡ v → cond (eqb x s) v (f x) ≡ f x
      at_s f v e = go (eqb x s) refl
        where
          go : (b : Bool) → eqb x s ≡ b → cond b v (f x) ≡ f x
          go true p = rw (eqb-true x s p) (sym e)
          go false p = refl

  -- a page outside the span, or any if an element is left, is the same but for the flag
  pub same_out : (x : ℕ) → within s (page_count h.table s) x ≡ false → SamePage t u x
  same_out x e = let f = outside x e in (f.0, f.1, rw f.2)

  pub same_left : nothing_left h s ≡ false → (x : ℕ) → SamePage t u x
  same_left b x = let f = stays b x in (f.0, f.1, rw f.2 (go (eqb x s) refl))
    where
      go : (c : Bool) → eqb x s ≡ c → cond c (kind_entry t s % unswept_flag) (kind_entry t x) % unswept_flag ≡ kind_entry t x % unswept_flag
      go true e = rw (eqb-true x s e) (omega arith)
      go false e = refl

  -- the start page of a used page outside lies outside
  pub page_out : (x : ℕ) → 0 < owner t x → within s (page_count h.table s) x ≡ false → within s (page_count h.table s) (owner t x - 1) ≡ false
  page_out x v e = go (within s n (owner t x - 1)) refl
    where
      go : (b : Bool) → within s n (owner t x - 1) ≡ b → b ≡ false
      go true p =
          let f = within_true s n (owner t x - 1) p in
          let w = F.spans.whose x v in
          let r = F.spans.body s (owner t x - 1) span f.0 f.1 in
          let z : owner t x - 1 ≡ s = omega arith in
          absurd (true≢false (rw (within_yes s n x (omega arith) (omega (arith, rw z at w.2))) at e))
      go false p = refl

  -- an unswept span of the result was one, and is another
  pub unswept_less : (x : ℕ) → IsSpan (swept_table h s) x → unswept_flag ≤ kind_entry (swept_table h s) x → IsSpan h.table x × (unswept_flag ≤ kind_entry h.table x) × (x ≢ s)
  unswept_less x i k = go (within s n x) refl (nothing_left h s) refl (eqb x s) refl
    where
      go : (b : Bool) → within s n x ≡ b → (c : Bool) → nothing_left h s ≡ c → (d : Bool) → eqb x s ≡ d → IsSpan t x × (unswept_flag ≤ kind_entry t x) × (x ≢ s)
      go true e true f d g = absurd (omega (arith, gone f x e))
      go true e false f true g = absurd (omega (arith, rw ((stays f x).2, g) at k))
      go true e false f false g =
          let r = within_true s n x e in
          absurd (eqb-false x s g (omega (arith, F.spans.body s x span r.0 r.1, (stays f x).0)))
      go false e c f d g = let o = outside x e in (sym o.0 ∙ i, rw o.2 at k, λ y. true≢false (sym own ∙ ap (within s n) (sym y) ∙ e))

  spans_left : nothing_left h s ≡ false → Spans P u
  spans_left b = record {
    whose = λ x v. let w = rw (stays b x).0 at v in rw ((stays b x).0, (stays b (owner t x - 1)).0, (stays b (owner t x - 1)).1) (F.spans.whose x w);
    body = λ r x e v c. rw (stays b x).0 (F.spans.body r x (rw (stays b r).0 at e) v (rw (stays b r).1 at c));
    inside = λ r e. rw (stays b r).1 (F.spans.inside r (rw (stays b r).0 at e));
    rest = λ x d. let d' = rw (stays b x).0 at d in
        let f = F.spans.rest x d' in
        rw ((stays b x).1, (stays b x).2, ne_eqb x s (λ p. d' (ap (owner t) p ∙ span ∙ ap (λ i. i + 1) (sym p)))) f;
    entry = λ r e. let e' = rw (stays b r).0 at e in rw ((stays b r).1, (stays b r).2) (entry r (eqb r s) refl (F.spans.entry r e'));
  }
    where
      entry : (r : ℕ) (c : Bool) → eqb r s ≡ c → GoodEntry (kind_entry t r) (page_count t r) → GoodEntry (cond c (kind_entry t s % unswept_flag) (kind_entry t r)) (page_count t r)
      entry r true e G =
          let z = eqb-true r s e in
          let G' : GoodEntry (kind_entry t s) (page_count t s) = rw z at G in
          let y : kind_entry t s % unswept_flag % unswept_flag ≡ kind_entry t s % unswept_flag = omega arith in
          rw z (record { flag = omega arith; kind = rw y G'.kind; large = λ w. G'.large (rw y at w); small = λ w. rw y (G'.small (rw y at w)) })
      entry r false e G = G

  spans_gone : nothing_left h s ≡ true → Spans P u
  spans_gone b = record {
    whose = λ x v. whose x (used x v);
    body = λ r x e v c. body r x v c (old r e);
    inside = λ r e. let o = old r e in rw (outside r o.1).1 (F.spans.inside r o.0);
    rest = λ x d. rest x d (within s n x) refl;
    entry = λ r e. let o = old r e in rw ((outside r o.1).1, (outside r o.1).2) (F.spans.entry r o.0);
  }
    where
      used : (x : ℕ) → 0 < owner u x → (0 < owner t x) × (within s n x ≡ false)
      used x v = go (within s n x) refl
        where
          go : (c : Bool) → within s n x ≡ c → (0 < owner t x) × (within s n x ≡ false)
          go true e = absurd (omega (arith, gone b x e))
          go false e = (rw (outside x e).0 at v, e)

      old : (r : ℕ) → IsSpan u r → IsSpan t r × (within s n r ≡ false)
      old r e = let o = used r (omega arith) in (sym (outside r o.1).0 ∙ e, o.1)

      whose : (x : ℕ) → (0 < owner t x) × (within s n x ≡ false) → IsSpan u (owner u x - 1) × (owner u x - 1 ≤ x) × (x < owner u x - 1 + page_count u (owner u x - 1))
      whose x o = let y = page_out x o.0 o.1 in rw ((outside x o.1).0, (outside (owner t x - 1) y).0, (outside (owner t x - 1) y).1) (F.spans.whose x o.0)

      body : (r x : ℕ) → r ≤ x → x < r + page_count u r → IsSpan t r × (within s n r ≡ false) → owner u x ≡ r + 1
      body r x v c o = go (within s n x) refl
        where
          f : owner t x ≡ r + 1
          f = F.spans.body r x o.0 v (rw (outside r o.1).1 at c)

          go : (d : Bool) → within s n x ≡ d → owner u x ≡ r + 1
          go true e =
              let i = within_true s n x e in
              let z : r ≡ s = omega (arith, f, F.spans.body s x span i.0 i.1) in
              absurd (true≢false (sym own ∙ ap (within s n) (sym z) ∙ o.1))
          go false e = (outside x e).0 ∙ f

      rest : (x : ℕ) → owner u x ≢ x + 1 → (d : Bool) → within s n x ≡ d → (page_count u x ≡ 0) × (kind_entry u x ≡ 0)
      rest x d true e = let g = gone b x e in (g.1, g.2)
      rest x d false e = let o = outside x e in rw (o.1, o.2) (F.spans.rest x (rw o.0 at d))

  pub swept_spans : Spans P u
  swept_spans = go (nothing_left h s) refl
    where
      go : (b : Bool) → nothing_left h s ≡ b → Spans P u
      go true e = spans_gone e
      go false e = spans_left e

  pub table_length : length u ≡ entry_numbers * h.pages
  unfolding swept_table
  table_length = go (nothing_left h s)
    where
      go : (b : Bool) → length (cond b (put_pages s n (λ g. free_page) t) (put_page s (span_page s n (kind_entry t s % unswept_flag) s) t)) ≡ entry_numbers * h.pages
      go true = pages_length P s n (λ g. free_page) t inside F.sized.table
      go false = page_length P s (span_page s n (kind_entry t s % unswept_flag) s) t low F.sized.table
