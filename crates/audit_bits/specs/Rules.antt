-- The audit's rules about the bits of one arena word: `keeps`, from its bits and from what is known of its place. `block_rule` knows the place
-- from the masks of its block, `word_rule` from the span.
use Rattle.std.specs.Prelude.{ℕ, ◌+◌, ◌-◌, ◌*◌, ◌%◌, Bool, ◌&&◌, ◌||◌, not, cond, List, T, ◌==◌}
use Rattle.model.specs.Bounded.{◌<?◌, ◌≤?◌, ◌implies◌, all_below}
use Rattle.model.specs.Memory.{first_word, word_bits, page_blocks, mark, sweep}
use Rattle.model.specs.Bitmaps.{allocated, marked, gray, pointer}
use Rattle.model.specs.Classes.{element_words_of, elements_of}
use Rattle.model.specs.Facts.{bit}
use Rattle.page_table.specs.declared.Span.{Span}
use Rattle.audit_blocks.specs.Block.{on}
use Rattle.audit_bits.specs.declared.Allowed.{Allowed}
use Rattle.audit_bits.specs.Words.{SetBetween}

-- word w has no bit in any part
unfoldable pub bare : ℕ → List ℕ → ℕ → Bool
bare P b w = not (bit P allocated b w) && not (bit P marked b w) && not (bit P gray b w) && not (bit P pointer b w)

-- a word's bits are a, m, g and q; an element starts there, or it lies inside one; marks, gray bits and pointers may stand in its span; the word
-- before it holds a pointer
unfoldable pub keeps : Bool → Bool → Bool → Bool → Bool → Bool → Bool → Bool → Bool → Bool → Bool
keeps a m g q start inside marks grays scan follows =
    ((a implies start) && (m implies (a && marks)) && (g implies (m && grays)))
    && ((q implies (inside && scan)) && (a && scan implies q) && (q && start implies (a && scan)) && (q && not start implies follows))

-- word j of block `at`: elements start `off` words after its first and on, by the mask `starts`, and end `left` words after it; `before` has the
-- pointer bit of the word before the block
abbrev pub block_rule : ℕ → List ℕ → ℕ → ℕ → ℕ → ℕ → ℕ → Allowed → ℕ → Bool
block_rule P b at starts off left before allowed j =
    keeps (bit P allocated b (word_bits * at + j)) (bit P marked b (word_bits * at + j)) (bit P gray b (word_bits * at + j)) (bit P pointer b (word_bits * at + j))
    ((off ≤? j && on starts (j - off)) && j <? left) (j <? left) allowed.marks allowed.grays allowed.pointers
    (cond (j == 0) (on before 0) (bit P pointer b (word_bits * at + (j - 1))))

-- word o of a span that begins at word v, whose elements have `size` words each and `held` together
abbrev pub word_rule : ℕ → List ℕ → ℕ → ℕ → ℕ → Allowed → ℕ → Bool
word_rule P b v size held allowed o =
    keeps (bit P allocated b (v + o)) (bit P marked b (v + o)) (bit P gray b (v + o)) (bit P pointer b (v + o))
    (o % size == 0 && o <? held) (o <? held) allowed.marks allowed.grays allowed.pointers (0 <? o && bit P pointer b (v + (o - 1)))

-- marks may stand in a span: "none in phase off, only in unswept spans in phase sweep"
abbrev pub marks_stand : ℕ → Bool → Bool
marks_stand phase unswept = phase == mark || (phase == sweep && unswept)

-- what may stand in a span
abbrev pub allowed_in : ℕ → Bool → Bool → Allowed
allowed_in phase scan unswept = record { marks = marks_stand phase unswept; grays = phase == mark && scan; pointers = scan }

-- the rules for word o of a span, as its first page's entry describes it
abbrev pub span_rule : ℕ → ℕ → List ℕ → Span → ℕ → Bool
span_rule phase P b r =
    word_rule P b (first_word r.start.0) (element_words_of r.class r.pages) (elements_of r.class * element_words_of r.class r.pages)
    (allowed_in phase r.scan r.unswept)

-- all words of a span keep them, and it has an allocated element: allocated bits stand at the words' own numbers
abbrev pub KeepsRules : ℕ → ℕ → List ℕ → Span → Type 0
KeepsRules phase P b r =
    T (all_below (word_bits * (page_blocks * r.pages)) (span_rule phase P b r)) × SetBetween b (first_word r.start.0) (first_word (r.start.0 + r.pages))
