-- What the functions require of the phase and of a span's shape, beside the buffers.
use Rattle.std.specs.Prelude.{ℕ, ◌+◌, ◌*◌, ◌<◌, ◌≤◌, List, ◌≢◌}
use Rattle.model.specs.Memory.{page_words, sweep}
use Rattle.model.specs.Classes.{rows, most_large, element_words_of, elements_of}
use Rattle.model.specs.Lent.{AllSwept}
use Rattle.page_table.specs.declared.Span.{Span}

-- a legal phase, with unswept spans only in phase sweep
pub record Phased (phase : ℕ) (t : List ℕ) : Type 0 where
  pub legal : phase ≤ sweep
  pub swept : phase ≢ sweep → AllSwept t

-- a span lies in an arena of P pages, and its elements have words
pub record SpanInside (P : ℕ) (r : Span) (size : ℕ) : Type 0 where
  pub some : 0 < size
  pub inside : r.start.0 + r.pages ≤ P

-- .. its kind has a class, and its elements fit into it
pub record SpanFits (P : ℕ) (r : Span) : Type 0 where
  pub inside : r.start.0 + r.pages ≤ P
  pub short : r.pages ≤ most_large
  pub class : r.class ≤ rows
  pub words : 0 < element_words_of r.class r.pages
  pub held : elements_of r.class * element_words_of r.class r.pages ≤ page_words * r.pages
