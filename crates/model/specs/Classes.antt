-- Size classes.
use Rattle.std.specs.Prelude.{ℕ, ◌+◌, ◌-◌, ◌*◌, ◌/◌, List, [], ◌∷◌, get_or, ◌==◌, if◌then◌else◌}
use Rattle.model.specs.Bounded.{◌<?◌, ◌≤?◌, first_below}
use Rattle.model.specs.Memory.{page_bytes, page_words, word_bytes}
use Rattle.model.specs.declared.ClassRow.{ClassRow}

infix 68 ◌per◌
-- one row: element bytes, span bytes
abbrev pub ◌per◌ : ℕ → ℕ → ClassRow
e per s = record { element = e; span = s }

-- "The 66 rows give element bytes and span bytes", classes 1 to 66
abbrev pub rows : ℕ
rows = 66

unfoldable pub class_rows : List ClassRow
class_rows =
    8 per 8192 ∷ 16 per 8192 ∷ 32 per 8192 ∷ 48 per 8192 ∷ 64 per 8192 ∷ 80 per 8192
    ∷ 96 per 8192 ∷ 112 per 8192 ∷ 128 per 8192 ∷ 144 per 8192 ∷ 160 per 8192 ∷ 176 per 8192
    ∷ 192 per 8192 ∷ 208 per 8192 ∷ 224 per 8192 ∷ 240 per 8192 ∷ 256 per 8192 ∷ 288 per 8192
    ∷ 320 per 8192 ∷ 352 per 8192 ∷ 384 per 8192 ∷ 416 per 8192 ∷ 448 per 8192 ∷ 480 per 8192
    ∷ 512 per 8192 ∷ 576 per 8192 ∷ 640 per 8192 ∷ 704 per 8192 ∷ 768 per 8192 ∷ 896 per 8192
    ∷ 1024 per 8192 ∷ 1152 per 8192 ∷ 1280 per 8192 ∷ 1408 per 16384 ∷ 1536 per 8192 ∷ 1792 per 16384
    ∷ 2048 per 8192 ∷ 2304 per 16384 ∷ 2688 per 8192 ∷ 3072 per 24576 ∷ 3200 per 16384 ∷ 3456 per 24576
    ∷ 4096 per 8192 ∷ 4864 per 24576 ∷ 5376 per 16384 ∷ 6144 per 24576 ∷ 6528 per 32768 ∷ 6784 per 40960
    ∷ 6912 per 49152 ∷ 8192 per 8192 ∷ 9472 per 57344 ∷ 9728 per 49152 ∷ 10240 per 40960 ∷ 10880 per 32768
    ∷ 12288 per 24576 ∷ 13568 per 40960 ∷ 14336 per 57344 ∷ 16384 per 16384 ∷ 18432 per 73728 ∷ 19072 per 57344
    ∷ 20480 per 40960 ∷ 21760 per 65536 ∷ 24576 per 24576 ∷ 27264 per 81920 ∷ 28672 per 57344 ∷ 32768 per 32768 ∷ []

-- the element bytes and the span bytes of class c, 1 to 66
unfoldable pub element_bytes : ℕ → ℕ
element_bytes c = (get_or class_rows (c - 1) (0 per 0)).element

unfoldable pub span_bytes : ℕ → ℕ
span_bytes c = (get_or class_rows (c - 1) (0 per 0)).span

-- "A record of size 1 to 32,768"
abbrev pub max_small : ℕ
max_small = 32768

-- "size 0 or above 1,048,576" is refused
abbrev pub max_size : ℕ
max_size = 1048576

-- "takes the lowest-numbered class whose element is at least that large ... Above 32,768 the class is 0"
unfoldable pub class_of : ℕ → ℕ
class_of size =
    if max_small <? size then 0 else first_below rows (λ k. size ≤? element_bytes (k + 1)) + 1

-- "objects are span bytes divided by element bytes, rounded down"; class 0: "one element"
unfoldable pub elements_of : ℕ → ℕ
elements_of c = if c == 0 then 1 else span_bytes c / element_bytes c

-- the words of an element of class c in a span of n pages; class 0: "one element of all of them"
unfoldable pub element_words_of : ℕ → ℕ → ℕ
element_words_of c n = if c == 0 then page_words * n else element_bytes c / word_bytes

-- the pages of a span of class c, 1 or more
unfoldable pub class_pages : ℕ → ℕ
class_pages c = span_bytes c / page_bytes

-- the fewest and the most pages of a span of class 0
abbrev pub fewest_large : ℕ
fewest_large = 5

abbrev pub most_large : ℕ
most_large = 128

-- the pages of a new span for a size; class 0: "the size rounded up to whole pages"
unfoldable pub pages_for : ℕ → ℕ
pages_for size = if class_of size == 0 then (size + (page_bytes - 1)) / page_bytes else class_pages (class_of size)

-- "134 decides (67 classes, scan and noscan)"
abbrev pub kinds : ℕ
kinds = 134

-- "A record with p leading pointer words is scan if p is 1 or more, noscan if p is 0. Kind = 2 × class, plus 1 for noscan."
unfoldable pub kind_of : ℕ → ℕ → ℕ
kind_of size p = 2 * class_of size + (if p == 0 then 1 else 0)
