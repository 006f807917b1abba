-- What a call on a field finds in audited buffers, and what it leaves: where the field lies, which values are references, and the call's outcome, by
-- where its words stand.
use Prim.Native.Nat.{ℕ, ◌+◌, ◌*◌, ◌<◌}
use mathlib.Core.Bool.{not}
use mathlib.Core.List.{List}
use mathlib.Core.Path.{◌≡◌}
use native.Mathlib.Omega.{arith}
use lib.ListN.{get_or, set}
use Rattle.std.specs.Prelude.{Result}
use Rattle.std.specs.Result.{IsErrAnd}
use Rattle.std.proofs.lemmas.Result.{err_from_is_err_and}
use Rattle.model.specs.Memory.{Heap, slot, slot_at, word, page_words, stack_count, slot_count, first_state}
use Rattle.model.specs.Answers.{Meets}
use Rattle.model.specs.declared.Answer.TheVariants.{Done, Value}
use Rattle.model.specs.declared.Refusal.{Refusal}
use Rattle.model.specs.Refusals.{number_of}
use Rattle.model.specs.Spans.{element_words, span_of, is_pointer}
use Rattle.model.specs.Checks.{pointer_refusal, number_refusal, record_at}
use Rattle.model.specs.Shading.{barrier}
use Rattle.model.specs.Records.{load, store, put, get}
use Rattle.model.specs.Facts.{Audited}
use Rattle.model.proofs.Bounded.{first_props}
use Rattle.model.proofs.Checks.{pointer_passed, number_passed}
use Rattle.model.proofs.Named.{kept_element}
use Rattle.model.proofs.Facts.{pointer_word}
use Rattle.model.proofs.Lent.{audited_tables}
use Rattle.model.proofs.Outcomes.{not_refused}
use Rattle.units.specs.declared.Word.{Word}
use Rattle.shading.specs.Needs.{Stored}
use Rattle.shading.proofs.References.{reference_named}
use Rattle.record_fields.proofs.Fields.{fits, slot_record}
use Rattle.call_records.specs.Words.{Found}

-- a refusal that a `?` hands on
pub not_found : {n : ℕ} (at : ℕ) (x : Result Word Refusal) (r : Refusal) → IsErrAnd x (λ e. e ≡ r) → number_of r ≡ n → Found n at x
not_found at x r q e = let p = err_from_is_err_and x q in rw (p.1, p.2) e

-- a pointer word, by its refusal: where it stands; what may be shaded, and what the calls leave, with slot i at root k
module _ {h : Heap} (A : Audited h) (s i j f : ℕ) {w : ℕ} (z : pointer_refusal h s i j f ≡ 0) (e : w ≡ record_at h s j + f) where
  in_slots : slot_at s j < first_state
  in_slots = let P = pointer_passed h s i j f z in omega (arith, P.stack.below, P.slot)

  pub pointer_within : (s < stack_count) × (i < slot_count) × (w < page_words * h.pages)
  pointer_within =
      let P = pointer_passed h s i j f z in
      let m = fits (slot_record A (slot_at s j) in_slots P.named) in
      let l = (first_props (element_words h.table (span_of h.table (record_at h s j))) (λ k. not (is_pointer h (record_at h s j + k)))).within in
      (P.stack.below, P.other, omega (arith, e, P.field))

  module _ {k : ℕ} (g : k ≡ slot_at s i) where
    pub pointer_stored : Stored h.pages h.table h.bits h.roots (word h w) (get_or h.roots k 0)
    pointer_stored =
        let P = pointer_passed h s i j f z in
        let r = kept_element A.bits (slot h s j) P.named (A.references.root (slot_at s j) in_slots) in
        let old = (pointer_word A (record_at h s j) r.0 r.1 f P.field).1 in
        let new = A.references.root (slot_at s i) (omega (arith, P.stack.below, P.other)) in
        rw (e, g) (record {
          tables = audited_tables A;
          roots = A.sized.roots;
          old_named = reference_named A.spans A.bits (word h (record_at h s j + f)) old;
          new_named = reference_named A.spans A.bits (slot h s i) new;
        })

    pub loaded : Meets (load h s i j f) (Value (word h w)) h.arena h.table h.bits (set h.roots k (word h w))
    unfolding load
    loaded = rw (e, g) (not_refused _ h _ _ z)

    pub stored : {b : List ℕ} → b ≡ barrier h (word h w) (get_or h.roots k 0) → Meets (store h s j f i) Done (set h.arena w (get_or h.roots k 0)) h.table b h.roots
    unfolding store
    stored q = rw (q, e, g) (not_refused _ h _ _ z)

-- a number likewise
module _ (h : Heap) (s j f : ℕ) {w : ℕ} (z : number_refusal h s j f ≡ 0) (e : w ≡ record_at h s j + f) where
  pub number_within : Audited h → w < page_words * h.pages
  number_within A =
      let P = number_passed h s j f z in
      let m = fits (slot_record A (slot_at s j) (omega (arith, P.stack.below, P.slot)) P.named) in
      omega (arith, e, P.high)

  pub put_there : (v : ℕ) → Meets (put h s j f v) Done (set h.arena w v) h.table h.bits h.roots
  unfolding put
  put_there v = rw e (not_refused _ h _ _ z)

  pub got : Meets (get h s j f) (Value (word h w)) h.arena h.table h.bits h.roots
  unfolding get
  got = rw e (not_refused _ h _ _ z)

-- two roots that are references, as the barrier asks
pub roots_stored : {h : Heap} → Audited h → (x y : ℕ) → x < first_state → y < first_state → Stored h.pages h.table h.bits h.roots (get_or h.roots x 0) (get_or h.roots y 0)
roots_stored {h} A x y k l =
    record {
      tables = audited_tables A;
      roots = A.sized.roots;
      old_named = reference_named A.spans A.bits (get_or h.roots x 0) (A.references.root x k);
      new_named = reference_named A.spans A.bits (get_or h.roots y 0) (A.references.root y l);
    }
