-- The bytes of a block one after the other: what is true once some are passed, and what a line feed, a full line and the block's end come to.
use Prim.Native.Nat.{ℕ, ◌+◌, ◌-◌, ◌<◌, ◌≤◌, min}
use mathlib.Core.Bool.{Bool, true, false, cond, true≢false}
use mathlib.Core.List.{List}
use mathlib.Core.Logic.{◌≢◌, ⊎_elim}
use mathlib.Core.Path.{◌≡◌, refl, sym, ◌∙◌}
use native.Mathlib.Nat.{eq-or-lt_of_le}
use native.Mathlib.Omega.{arith}
use lib.Dec.{eqb, ltb}
use lib.ListN.{length, get_or, set, length-set}
use borrow.Author.Tests.{eq-eqb, ne_eqb, eqb-true, ltb-true, ltb-false, lt-ltb, le-ltb}
use Rattle.model.specs.Memory.{put_words}
use Rattle.model.proofs.Bounded.{First, first_is, first_props, run_none, run_step}
use Rattle.trace_read.specs.Lines.{longest_line}
use Rattle.trace_split.specs.declared.Taken.{Taken}
use Rattle.trace_split.specs.declared.Taken.TheVariants.{Line, Part, TooLong}
use Rattle.trace_split.specs.Split.{UnderWay, Short, line_feed, before_feed, taken, joined}

module _ (line : List ℕ) (used : ℕ) (block : List ℕ) (from : ℕ) where
  -- the byte of the block that comes to place x of the line
  abbrev byte : ℕ → ℕ
  byte x = get_or block (from + (x - used)) 0

  -- the bytes from `from` up to i are passed: none is a line feed, and the line has them, up to its place `at`
  pub record Copied (l : List ℕ) (at i : ℕ) : Type 0 where
    pub begun : from ≤ i
    pub inside : i ≤ length block
    pub counted : at ≡ used + (i - from)
    pub room : at ≤ longest_line
    pub size : length l ≡ longest_line
    pub none : (k : ℕ) → k < i - from → eqb (get_or block (from + k) 0) line_feed ≡ false
    pub bytes : l ≡ put_words used (i - from) byte line

  pub none_copied : UnderWay line used block from → Copied line used from
  none_copied F =
      let z : from - from ≡ 0 = omega arith in
      record {
        begun = omega arith;
        inside = F.place;
        counted = omega arith;
        room = F.room;
        size = F.size;
        none = λ k l. absurd (omega arith);
        bytes = rw z (sym (run_none (λ i v l. set l i v) used byte line));
      }

  module _ {l : List ℕ} {at i : ℕ} (P : Copied l at i) where
    -- one byte more
    pub one_more : i < length block → get_or block i 0 ≢ line_feed → at ≢ longest_line → Copied (set l at (get_or block i 0)) (at + 1) (i + 1)
    one_more h d e = record {
      begun = omega (arith, P.begun);
      inside = omega arith;
      counted = omega (arith, P.counted, P.begun);
      room = omega (arith, P.room, e);
      size = rw length-set P.size;
      none = λ k m. ⊎_elim (λ q. last k q) (λ q. P.none k q) (eq-or-lt_of_le (omega (arith, P.begun)));
      bytes = next;
    }
      where
        last : (k : ℕ) → k ≡ i - from → eqb (get_or block (from + k) 0) line_feed ≡ false
        last k q =
            let x : from + k ≡ i = omega (arith, P.begun) in
            rw x (ne_eqb (get_or block i 0) line_feed d)

        next : set l at (get_or block i 0) ≡ put_words used ((i + 1) - from) byte line
        next =
            let n : (i + 1) - from ≡ (i - from) + 1 = omega (arith, P.begun) in
            let x : from + (used + (i - from) - used) ≡ i = omega (arith, P.begun) in
            rw (n, run_step (λ i v l. set l i v) used (i - from) byte line, x, ← P.bytes, ← P.counted)

    -- where the next line feed is, or the block's end
    feed_here : (i < length block → get_or block i 0 ≡ line_feed) → before_feed block from ≡ i - from
    unfolding before_feed
    feed_here f = first_is (length block - from) (λ k. eqb (get_or block (from + k) 0) line_feed) (i - from) (record {
      within = omega (arith, P.inside);
      before = P.none;
      holds = λ m. let x : from + (i - from) ≡ i = omega (arith, P.begun) in rw x (eq-eqb (get_or block i 0) line_feed (f (omega arith)));
    })

    -- the line has the bytes passed
    has_joined : min (before_feed block from) (longest_line - used) ≡ i - from → l ≡ joined line used block from
    unfolding joined
    has_joined e = rw e P.bytes

    pub line_ends : i < length block → get_or block i 0 ≡ line_feed → (Line at (i + 1) ≡ taken used block from) × (l ≡ joined line used block from)
    unfolding taken
    line_ends h f =
        let e = feed_here (λ _. f) in
        let x : from + (i - from) ≡ i = omega (arith, P.begun) in (
          rw (e, le-ltb longest_line (used + (i - from)) (omega (arith, P.counted, P.room)), lt-ltb (i - from) (length block - from) (omega (arith, P.begun)), x, ← P.counted),
          has_joined (omega (arith, e, P.counted, P.room)),
        )

    pub block_ends : length block ≤ i → (Part at ≡ taken used block from) × (l ≡ joined line used block from)
    unfolding taken
    block_ends h =
        let e = feed_here (λ m. absurd (omega arith)) in (
          rw (e, le-ltb longest_line (used + (i - from)) (omega (arith, P.counted, P.room)), le-ltb (i - from) (length block - from) (omega arith), ← P.counted),
          has_joined (omega (arith, e, P.counted, P.room)),
        )

    pub too_long : i < length block → get_or block i 0 ≢ line_feed → at ≡ longest_line → (TooLong ≡ taken used block from) × (l ≡ joined line used block from)
    unfolding taken
    too_long h d e =
        (rw (lt-ltb longest_line (used + before_feed block from) (omega (arith, further, P.counted))), has_joined (omega (arith, further, P.counted)))
      where
        F : First (length block - from) (λ k. eqb (get_or block (from + k) 0) line_feed) (before_feed block from)
        F = unfold before_feed in first_props (length block - from) (λ k. eqb (get_or block (from + k) 0) line_feed)

        -- no line feed up to the byte at i
        no_feed : before_feed block from ≤ i - from → ⊥
        no_feed m =
            let t = F.holds (omega (arith, P.begun)) in
            ⊎_elim (λ q. d (let x : from + before_feed block from ≡ i = omega (arith, P.begun) in eqb-true (get_or block i 0) line_feed (rw x at t)))
            (λ q. true≢false (sym t ∙ P.none (before_feed block from) q)) (eq-or-lt_of_le m)

        further : i - from < before_feed block from
        further = go (ltb (i - from) (before_feed block from)) refl
          where
            go : (b : Bool) → ltb (i - from) (before_feed block from) ≡ b → i - from < before_feed block from
            go true q = ltb-true (i - from) (before_feed block from) q
            go false q = absurd (no_feed (ltb-false (i - from) (before_feed block from) q))

-- what is taken has room, and behind a line the block goes on
module _ (used : ℕ) (block : List ℕ) (from : ℕ) where
  abbrev bytes : ℕ
  bytes = before_feed block from

  pub short : Short (taken used block from)
  unfolding taken
  short = go (ltb longest_line (used + bytes)) refl (ltb bytes (length block - from))
    where
      go : (b : Bool) → ltb longest_line (used + bytes) ≡ b → (c : Bool) → Short (cond b TooLong (cond c (Line (used + bytes) (from + bytes + 1)) (Part (used + bytes))))
      go true e c = tt
      go false e true = ltb-false longest_line (used + bytes) e
      go false e false = ltb-false longest_line (used + bytes) e

  goes_on : {n next : ℕ} → taken used block from ≡ Line n next → (from < next) × (next ≤ length block)
  unfolding taken
  goes_on {n} {next} = go (ltb longest_line (used + bytes)) (ltb bytes (length block - from)) refl
    where
      go : (b c : Bool) → ltb bytes (length block - from) ≡ c → cond b TooLong (cond c (Line (used + bytes) (from + bytes + 1)) (Part (used + bytes))) ≡ Line n next →
          (from < next) × (next ≤ length block)
      go true c q e = let z : ◌≡◌ {A = ℕ} 0 1 = cc in absurd (omega arith)
      go false false q e = let z : ◌≡◌ {A = ℕ} 0 1 = cc in absurd (omega arith)
      go false true q e = let x : from + bytes + 1 ≡ next = cc in (omega arith, omega (arith, ltb-true bytes (length block - from) q))

  pub line_taken : {r : Taken} {n next : ℕ} → r ≡ taken used block from → r ≡ Line n next → (n ≤ longest_line) × (from < next) × (next ≤ length block)
  line_taken e f = let g = goes_on (sym e ∙ f) in (rw (sym e ∙ f) at short, g.0, g.1)
