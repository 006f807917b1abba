-- What may be shaded: in audited buffers every reference. And a part of a list, lent as a slice: when its values may be shaded, and what shading them leaves.
use Prim.Native.Nat.{ℕ, zero, suc, ◌+◌, ◌/◌, ◌<◌, ◌≤◌}
use mathlib.Core.List.{List}
use mathlib.Core.Logic.{◌≢◌}
use mathlib.Core.Path.{◌≡◌, sym, ◌∙◌}
use native.Mathlib.Omega.{arith}
use lib.ListN.{length, get_or}
use Rattle.std.specs.List.{between}
use Rattle.std.proofs.lemmas.List.Edits.{length-between, get_or-between}
use Rattle.model.specs.Memory.{word_of, page_words, nil}
use Rattle.model.specs.Shading.{is_white, shade_all, shade_count}
use Rattle.model.specs.Facts.{Spans, Bits, Reference}
use Rattle.model.specs.Lent.{Tables}
use Rattle.model.proofs.Bounded.{count_cong}
use Rattle.model.proofs.Named.{kept_element}
use Rattle.model.proofs.Shading.{all_zero_lem, all_suc}
use Rattle.shading.specs.Needs.{NamesRecord, ShadableSlice, ShadesAll}

-- a reference that is not nil names a record
pub reference_named : {p : ℕ} {t b : List ℕ} → Spans p t → Bits p t b → (v : ℕ) → Reference p t b v → v ≢ 0 → NamesRecord p t v
reference_named F C v r d =
    let n = kept_element C v d r in
    let s = F.whose (word_of v / page_words) (C.element (word_of v) n.0).lies.used in
    record { word = n.2; span = omega (arith, s.1, n.2) }

-- the values of a list from i on, up to j
pub part_shadable : {p : ℕ} {t b : List ℕ} → Tables p t b → (ws : List ℕ) (i j : ℕ) → j ≤ length ws → ((k : ℕ) → i ≤ k → k < j → get_or ws k 0 ≢ nil → NamesRecord p t (get_or ws k 0)) → ShadableSlice p t b (between i j ws)
part_shadable T ws i j l each =
    record {
      tables = T;
      each = λ k h d.
          let m : i + k < j = omega (arith, length-between ws i j l) in
          let e : get_or (between i j ws) k 0 ≡ get_or ws (i + k) 0 = get_or-between ws i j k 0 m in
          rw e (each (i + k) (omega arith) m (rw e at d));
    }

-- values that agree are shaded alike
alike : (p : ℕ) (t b : List ℕ) (n : ℕ) (u v : ℕ → ℕ) → ((k : ℕ) → k < n → u k ≡ v k) → shade_all p t n u b ≡ shade_all p t n v b
alike p t b zero u v e = all_zero_lem p t u b ∙ sym (all_zero_lem p t v b)
alike p t b (suc n) u v e = rw (all_suc p t n u b, all_suc p t n v b, alike p t b n u v (λ k l. e k (omega arith)), e n (omega arith))

-- .. and counted alike
counted : (p : ℕ) (t b : List ℕ) (n : ℕ) (u v : ℕ → ℕ) → ((k : ℕ) → k < n → u k ≡ v k) → shade_count p t n u b ≡ shade_count p t n v b
unfolding shade_count
counted p t b n u v e = count_cong n (λ i. is_white p t (u i) (shade_all p t i u b)) (λ i. is_white p t (v i) (shade_all p t i v b)) (λ i l. rw (e i l, alike p t b i u v (λ k h. e k (omega arith))))

pub part_shaded : {p : ℕ} {t b : List ℕ} {r : ℕ} {x : List ℕ} → (ws : List ℕ) (i n j : ℕ) → i + n ≡ j → j ≤ length ws → ShadesAll p t (length (between i j ws)) (λ k. get_or (between i j ws) k 0) b r x → ShadesAll p t n (λ k. get_or ws (i + k) 0) b r x
part_shaded {p} {t} {b} ws i n j e l S =
    let m : length (between i j ws) ≡ n = omega (arith, length-between ws i j l) in
    let f : (k : ℕ) → k < n → get_or (between i j ws) k 0 ≡ get_or ws (i + k) 0 = λ k h. get_or-between ws i j k 0 (omega arith) in
    let u : ℕ → ℕ = λ k. get_or (between i j ws) k 0 in
    let v : ℕ → ℕ = λ k. get_or ws (i + k) 0 in
    record { count = S.count ∙ rw m (counted p t b n u v f); bits = S.bits ∙ rw m (alike p t b n u v f) }
