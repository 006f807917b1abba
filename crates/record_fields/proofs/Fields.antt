-- The fields of a record in audited buffers: its pointer words end where the first pointer bit is off, and no pointer bit stands behind it in the
-- element. So one bit tells what a field is.
use Prim.Native.Nat.{ℕ, ◌+◌, ◌*◌, ◌<◌, ◌≤◌}
use mathlib.Core.Bool.{Bool, true, false, not, or-true}
use mathlib.Core.List.{List}
use mathlib.Core.Logic.{◌≢◌}
use mathlib.Core.Path.{◌≡◌, refl, sym, ◌∙◌}
use native.Mathlib.Omega.{arith}
use lib.Dec.{ltb}
use lib.ListN.{get_or}
use borrow.Author.Tests.{ltb-true, ltb-false, lt-ltb, le-ltb, lt-leb, le-leb, not-false}
use Rattle.model.specs.Bounded.{first_below}
use Rattle.model.specs.Memory.{Heap, lent, word_of, first_state, page_words, nil, pointer_part}
use Rattle.model.specs.Answers.{◌given◌}
use Rattle.model.specs.Bitmaps.{bit_in, bit_at, pointer}
use Rattle.model.specs.Classes.{element_words_of}
use Rattle.model.specs.Spans.{span_of, element_words}
use Rattle.model.specs.Facts.{Audited, Element, bit}
use Rattle.model.specs.Lent.{Consistent}
use Rattle.model.proofs.Tests.{clash}
use Rattle.model.proofs.Bounded.{first_props}
use Rattle.model.proofs.Spans.{whole}
use Rattle.model.proofs.Facts.{no_pointer}
use Rattle.model.proofs.Named.{kept_element}
use Rattle.model.proofs.Lent.{audited_consistent}
use Rattle.std.specs.Prelude.{Ok, Err}
use Rattle.model.specs.declared.Refusal.TheVariants.{BadField}
use Rattle.units.specs.declared.Word.{Word}
use Rattle.page_table.specs.declared.Span.{Span}
use Rattle.page_table.specs.Span.{Reads}
use Rattle.record_fields.specs.Fields.{TellsOf}
use Rattle.record_fields.specs.declared.Field.TheVariants.{Pointer, Number}

-- the bit of a word of the arena
in_arena : (n : ℕ) (b : List ℕ) (w : ℕ) → w < n → bit_in n pointer b w ≡ bit_at b (pointer_part * n + w)
unfolding bit_in
in_arena n b w l = rw (lt-ltb w n l)

-- how many pointer words the record at word w has
abbrev pointer_words : ℕ → List ℕ → List ℕ → ℕ → ℕ
pointer_words p t b w = first_below (element_words t (span_of t w)) (λ k. not (bit p pointer b (w + k)))

module _ {p : ℕ} {t b : List ℕ} {w : ℕ} (R : Consistent p t b × Element t w) where
  -- its element lies in the arena
  pub fits : w + element_words t (span_of t w) ≤ page_words * p
  fits = (whole R.0.spans w R.1).1

  on : (f : ℕ) → f < element_words t (span_of t w) → bit p pointer b (w + f) ≡ true → f < pointer_words p t b w
  on f l e = go (ltb f (pointer_words p t b w)) refl
    where
      go : (c : Bool) → ltb f (pointer_words p t b w) ≡ c → f < pointer_words p t b w
      go true q = ltb-true f (pointer_words p t b w) q
      go false q = clash _ e (no_pointer R.0.spans R.0.rules w R.1 f (ltb-false f (pointer_words p t b w) q) l)

  off : (f : ℕ) → bit p pointer b (w + f) ≡ false → pointer_words p t b w ≤ f
  off f e = go (ltb f (pointer_words p t b w)) refl
    where
      go : (c : Bool) → ltb f (pointer_words p t b w) ≡ c → pointer_words p t b w ≤ f
      go true q = clash _ (not-false _ ((first_props (element_words t (span_of t w)) (λ k. not (bit p pointer b (w + k)))).before f (ltb-true f (pointer_words p t b w) q))) e
      go false q = ltb-false f (pointer_words p t b w) q

  -- n is the words of its element, from the entry of its span that was read
  module _ {x : Span} (S : Reads t (span_of t w) x) {n : ℕ} (e : n ≡ element_words_of x.class x.pages) (f : ℕ) where
    words_read : n ≡ element_words t (span_of t w)
    words_read = e ∙ rw (S.class, S.pages)

    pub inside : f < n → w + f < page_words * p
    inside l = omega (arith, words_read, fits)

    -- what field f is: none of the element, or what its pointer bit says
    module _ (a r : List ℕ) where
      pub no_field : n ≤ f → TellsOf (lent p a t b r) w f (Err BadField)
      unfolding ◌given◌
      no_field l =
          let m : element_words t (span_of t w) ≤ f = rw words_read at l in
          let k : pointer_words p t b w ≤ f = omega (arith, (first_props (element_words t (span_of t w)) (λ k. not (bit p pointer b (w + k)))).within) in
          (rw (le-leb (pointer_words p t b w) f k), rw (le-leb (element_words t (span_of t w)) f m, or-true (ltb f (pointer_words p t b w))))

      module _ (l : f < n) where
        within : f < element_words t (span_of t w)
        within = rw words_read at l

        in_part : {m : Bool} → m ≡ bit_at b (pointer_part * (page_words * p) + (w + f)) → bit p pointer b (w + f) ≡ m
        in_part x = in_arena (page_words * p) b (w + f) (inside l) ∙ sym x

        pub pointer_there : true ≡ bit_at b (pointer_part * (page_words * p) + (w + f)) → (v : Word) → v.0 ≡ w + f → TellsOf (lent p a t b r) w f (Ok (Pointer v))
        unfolding ◌given◌
        pointer_there x v q = let k = on f within (in_part x) in (rw (lt-leb (pointer_words p t b w) f k), rw (lt-ltb f (pointer_words p t b w) k), q)

        pub number_there : false ≡ bit_at b (pointer_part * (page_words * p) + (w + f)) → (v : Word) → v.0 ≡ w + f → TellsOf (lent p a t b r) w f (Ok (Number v))
        unfolding ◌given◌
        number_there x v q =
            let k = off f (in_part x) in
            (rw (le-leb (pointer_words p t b w) f k), rw (le-ltb f (pointer_words p t b w) k, lt-leb (element_words t (span_of t w)) f within), q)

-- a slot or global that is not nil names a record
pub slot_record : {h : Heap} → Audited h → (i : ℕ) → i < first_state → get_or h.roots i 0 ≢ nil → Consistent h.pages h.table h.bits × Element h.table (word_of (get_or h.roots i 0))
slot_record {h} A i l d = let v = get_or h.roots i 0 in (audited_consistent A, A.bits.element (word_of v) (kept_element A.bits v d (A.references.root i l)).0)
