-- The way over the pages: what the tests of a free page and of a span say, and the steps together.
use Prim.Native.Nat.{ℕ, ◌+◌, ◌-◌, ◌*◌, ◌/◌, ◌<◌, ◌≤◌}
use mathlib.Core.Bool.{Bool, true, false}
use mathlib.Core.List.{List}
use mathlib.Core.Logic.{◌↔◌}
use mathlib.Core.Path.{◌≡◌, refl, ◌∙◌, ap}
use native.Mathlib.Omega.{arith}
use lib.Dec.{T, eqb, ltb}
use borrow.Author.Tests.{ltb-true, ltb-false, eqb-true, eqb-false, ne_eqb}
use Rattle.std.specs.Prelude.{Option, Some, None, if◌then◌else◌}
use Rattle.std.specs.Option.{is_some}
use Rattle.bitmap.specs.Search.{found}
use Rattle.model.specs.Memory.{page_words, word_bits, page_blocks, mark, sweep}
use Rattle.model.specs.Bounded.{all_below, first_below}
use Rattle.model.specs.Bitmaps.{Part, bit_at, allocated, marked, gray, pointer}
use Rattle.model.specs.Spans.{owner, page_count}
use Rattle.model.proofs.Tests.{is_true, of_true, clash}
use Rattle.model.proofs.Bitmaps.{bit_in_lem, bit_inside}
use Rattle.model.proofs.Bounded.{all_iff, first_props}
use Rattle.model.specs.Facts.{Spans, IsSpan, bit, Bits, Phases}
use Rattle.model.proofs.Spans.{at_home, in_span, fits}
use Rattle.page_table.specs.Span.{Reads}
use Rattle.page_table.specs.declared.Span.{Span}
use Rattle.audit_bits.specs.Needs.{Phased, SpanFits}
use Rattle.audit_bits.specs.Rules.{bare, span_rule, KeepsRules}
use Rattle.audit_bits.specs.Words.{GoodBits, SetBetween}
use Rattle.audit_pages.proofs.Stretches.{stretch, Edge, next, spans_more}
use Rattle.audit_bits.proofs.Words.{WordBits, GoodWords, GoodStretch, Used}
use Rattle.audit_bits.proofs.SpanWords.{rule_at, span_words, words_span, bare_word, word_bare}

-- the span at page s, as its entry describes it: it lies in the arena, its elements in it, and its rules are those of its words
module _ {t : List ℕ} {s : ℕ} {r : Span} (R : Reads t s r) where
  pub read_fits : {P : ℕ} → Spans P t → IsSpan t s → SpanFits P r
  read_fits F i =
      let f = fits F s i in
      record {
        inside = rw (R.start, R.pages) (F.inside s i);
        short = rw R.pages f.short;
        class = rw R.class (omega (arith, (F.entry s i).kind));
        words = rw (R.class, R.pages) f.words;
        held = rw (R.class, R.pages) f.inside;
      }

  read_rule : (P phase : ℕ) (b : List ℕ) → all_below (word_bits * (page_blocks * r.pages)) (span_rule phase P b r) ≡ all_below (word_bits * (page_blocks * page_count t s)) (rule_at P phase t b s)
  read_rule P phase b = rw (R.start, R.class, R.pages, R.scan, R.unswept)

-- the tests of a free page, and of a span, say what the audit says of their words
module _ {P phase : ℕ} {t b : List ℕ} where
  pub free_words : (g : ℕ) → owner t g ≡ 0 → (r : Bool) → r ≡ all_below page_words (λ o. bare P b (page_words * g + o)) → T r ↔ GoodWords P phase t b (page_words * g) (page_words * (g + stretch t g))
  free_words g e r p = rw (p, e) (there, back)
    where
      there : T (all_below page_words (λ o. bare P b (page_words * g + o))) → GoodWords P phase t b (page_words * g) (page_words * (g + 1))
      there x w a l =
          let z : page_words * g + (w - page_words * g) ≡ w = omega arith in
          bare_word w (rw z at ((all_iff page_words (λ o. bare P b (page_words * g + o))).0 x (w - page_words * g) (omega arith)))

      back : GoodWords P phase t b (page_words * g) (page_words * (g + 1)) → T (all_below page_words (λ o. bare P b (page_words * g + o)))
      back W = (all_iff page_words (λ o. bare P b (page_words * g + o))).1 (λ o l. let z : (page_words * g + o) / page_words ≡ g = omega arith in word_bare (page_words * g + o) (ap (owner t) z ∙ e) (W (page_words * g + o) (omega arith) (omega arith)))

  pub span_good : {g : ℕ} {x : Span} → Reads t g x → Spans P t → phase ≤ sweep → IsSpan t g → (r : Bool) → r ≡ all_below (word_bits * (page_blocks * x.pages)) (span_rule phase P b x) →
      T r ↔ GoodWords P phase t b (page_words * g) (page_words * (g + stretch t g))
  span_good {g} R F legal i r p = rw (p, read_rule R P phase b, ne_eqb (owner t g) 0 (omega arith)) (there, back)
    where
      there : T (all_below (word_bits * (page_blocks * page_count t g)) (rule_at P phase t b g)) → GoodWords P phase t b (page_words * g) (page_words * (g + page_count t g))
      there x w a l =
          let z : page_words * g + (w - page_words * g) ≡ w = omega arith in
          rw z at (span_words F g i phase b (λ o m. (all_iff (word_bits * (page_blocks * page_count t g)) (rule_at P phase t b g)).0 x o (omega arith)) (w - page_words * g) (omega arith))

      back : GoodWords P phase t b (page_words * g) (page_words * (g + page_count t g)) → T (all_below (word_bits * (page_blocks * page_count t g)) (rule_at P phase t b g))
      back W =
          (all_iff (word_bits * (page_blocks * page_count t g)) (rule_at P phase t b g)).1 (λ o l. words_span F g i phase b legal o (omega arith) (W (page_words * g + o) (omega arith) (omega arith)))

  -- one stretch more
  pub good_more : (g n : ℕ) → GoodWords P phase t b 0 (page_words * g) → GoodWords P phase t b (page_words * g) (page_words * (g + n)) → GoodWords P phase t b 0 (page_words * (g + n))
  good_more g n A B w a l = go (ltb w (page_words * g)) refl
    where
      go : (c : Bool) → ltb w (page_words * g) ≡ c → WordBits P phase t b w
      go true p = A w a (ltb-true w (page_words * g) p)
      go false p = B w (ltb-false w (page_words * g) p) l

  -- the words of the whole arena
  pub words_facts : Spans P t → Phased phase t → GoodWords P phase t b 0 (page_words * P) → ((s : ℕ) → s < P → Used P t b s) → GoodBits P phase t b
  words_facts F H A U = record {
    rules = record {
      element = λ w x. (good w allocated x).element x;
      marks = λ w x. ((good w marked x).marks x).0;
      grays = λ w x. let y = (good w gray x).grays x in (y.0, y.1);
      pointers = λ w x. (good w pointer x).pointers x;
      head = λ w x. (good w allocated x).head x;
      unbroken = λ w x. (good w pointer x).unbroken x;
    };
    phases = record {
      none = λ e w. off marked w (λ x. ((good w marked x).marks x).1 e);
      swept = H.swept;
      plain = λ d w. off gray w (λ x. d ((good w gray x).grays x).2);
      unswept = λ e w x. ((good w marked x).marks x).2 e;
    };
    occupied = λ s i. U s (omega (arith, F.inside s i, (fits F s i).pages)) i;
  }
    where
      good : (w : ℕ) (q : Part) → T (bit P q b w) → WordBits P phase t b w
      good w q x = A w (omega arith) (bit_inside (page_words * P) q b w x)

      off : (q : Part) (w : ℕ) → (T (bit P q b w) → ⊥) → bit P q b w ≡ false
      off q w f = go (bit P q b w) refl
        where
          go : (c : Bool) → bit P q b w ≡ c → c ≡ false
          go true e = absurd (f (is_true _ e))
          go false e = refl

  pub facts_words : Bits P t b → Phases P phase t b → (w : ℕ) → WordBits P phase t b w
  facts_words B H w = record {
    element = B.element w;
    marks = λ x. (B.marks w x, λ e. clash (bit P marked b w) (of_true _ x) (H.none e w), λ e. H.unswept e w x);
    grays = λ x. let y = B.grays w x in (y.0, y.1, lit x);
    pointers = B.pointers w;
    head = B.head w;
    unbroken = B.unbroken w;
  }
    where
      lit : T (bit P gray b w) → phase ≡ mark
      lit x = go (eqb phase mark) refl
        where
          go : (c : Bool) → eqb phase mark ≡ c → phase ≡ mark
          go true e = eqb-true phase mark e
          go false e = clash (bit P gray b w) (of_true _ x) (H.plain (eqb-false phase mark e) w)

-- a span has an allocated word where one of its own words is
module _ {P : ℕ} {t : List ℕ} (F : Spans P t) (b : List ℕ) where
  pub set_used : (g : ℕ) → IsSpan t g → SetBetween b (page_words * g) (page_words * (g + page_count t g)) → Used P t b g
  set_used g i (w, l, m, x) _ =
      (w, is_true _ (bit_in_lem (page_words * P) allocated b w (omega (arith, F.inside g i)) ∙ of_true _ x), (at_home F g w i l m).1)

  pub used_set : {phase : ℕ} → ((w : ℕ) → WordBits P phase t b w) → (g : ℕ) → IsSpan t g → Used P t b g → SetBetween b (page_words * g) (page_words * (g + page_count t g))
  used_set A g i U =
      let u = U i in
      let w = u.0 in
      let h = rw u.2 at (in_span F w ((A w).element u.1).lies.used) in
      (w, h.0, h.1, rw (← bit_in_lem (page_words * P) allocated b w (bit_inside (page_words * P) allocated b w u.1)) u.1)

-- a search for the first set bit finds one
set_first : (b : List ℕ) (from to : ℕ) → from ≤ to → T (is_some (found from (to - from) (λ k. bit_at b (from + k)))) ↔ SetBetween b from to
set_first b from to l = go (ltb first n) refl
  where
    n : ℕ
    n = to - from

    first : ℕ
    first = first_below n (λ k. bit_at b (from + k))

    go : (c : Bool) → ltb first n ≡ c → T (is_some (if c then Some (from + first) else None)) ↔ SetBetween b from to
    go true p =
        let m = ltb-true first n p in
        (λ _. (from + first, omega arith, omega arith, is_true _ ((first_props n (λ k. bit_at b (from + k))).holds m)), λ _. tt)
    go false p = (
      λ x. absurd x,
      λ (w, i, m, x).
          let z : from + (w - from) ≡ w = omega arith in
          clash (bit_at b w) (of_true _ x) (rw z at ((first_props n (λ k. bit_at b (from + k))).before (w - from) (omega (arith, ltb-false first n p)))),
    )

pub set_found : (b : List ℕ) (from to first last : ℕ) (r : Option ℕ) (u : Bool) → first ≡ from → last ≡ to → from ≤ to →
    r ≡ found first (last - first) (λ k. bit_at b (first + k)) → u ≡ is_some r → T u ↔ SetBetween b from to
set_found b from to first last r u p q l e f = rw (f, e, p, q) (set_first b from to l)

-- a free page without bits is as it should be, and a span that keeps its rules; and back
pub free_stretch : {P phase : ℕ} {t b : List ℕ} {g : ℕ} → owner t g ≡ 0 → GoodWords P phase t b (page_words * g) (page_words * (g + stretch t g)) → GoodStretch P phase t b g
free_stretch e W = record { words = W; used = λ i. absurd (omega arith) }

module _ {P phase : ℕ} {t b : List ℕ} {g : ℕ} {x : Span} (R : Reads t g x) (F : Spans P t) (legal : phase ≤ sweep) (i : IsSpan t g) where
  pub kept_stretch : KeepsRules phase P b x → GoodStretch P phase t b g
  kept_stretch K = record { words = (span_good R F legal i _ refl).0 K.0; used = set_used F b g i (rw (R.start, R.pages) at K.1) }

  pub stretch_kept : ((w : ℕ) → WordBits P phase t b w) → Used P t b g → KeepsRules phase P b x
  stretch_kept A U = ((span_good R F legal i _ refl).1 (λ w _ _. A w), rw (R.start, R.pages) (used_set F b A g i U))

-- what is known where the pass has come to page g: a span or a free page begins there, or g is the end; the words before it have the bits that the
-- audit allows, and each span before it has an allocated word
abbrev pub Passed : ℕ → ℕ → List ℕ → List ℕ → ℕ → Type 0
Passed P phase t b g = (g ≤ P) × Edge t g × GoodWords P phase t b 0 (page_words * g) × ((s : ℕ) → s < g → Used P t b s)

pub onward : {P phase : ℕ} {t b : List ℕ} {g : ℕ} → Spans P t → g < P → Passed P phase t b g → (n : ℕ) → n ≡ stretch t g → GoodStretch P phase t b g → Passed P phase t b (g + n)
onward {P} {phase} {t} {b} {g} F l (fit, edge, words, used) n e G =
    let N = next F g l edge in
    rw e (N.inside, N.edge, good_more g _ words G.words, spans_more F _ g edge used G.used)
