-- An allocation on a heap that represents a state is the birth of a record in that state.
use mathlib.Core.Path.{◌≡◌, refl, sym, ◌∙◌}
use mathlib.Core.Bool.{Bool, true, false, not, cond}
use mathlib.Core.Logic.{◌⊎◌, inl, inr, ◌≢◌}
use Prim.Native.Nat.{ℕ, ◌+◌, ◌≤◌, ◌<◌}
use native.Mathlib.Omega.{arith}
use lib.Dec.{T, ltb}
use Rattle.marking.specs.Updates.{update, update2}
use Rattle.model.proofs.Tests.{of_true, of_false}
use Rattle.marking.proofs.Updates.{update_same, update_other, added_old, added_only, added_new, test, update2_map}
use Rattle.marking.proofs.Graph.{set_slot, birth}
use Rattle.marking.proofs.Colours.{TriColour, blacken}
use Rattle.marking.proofs.Operations.{State, allocate, perform}
use Rattle.marking.specs.WordHeap.{marking, Elements, WordHeap, LegalColours, Alike, heap_allocate}
use Rattle.marking.proofs.Safety.{Invariant}
use Rattle.model.specs.Memory.{address_of}
use Rattle.marking.proofs.Represents.{Layout, address, Live, Placed, SameColours, SameWords, Represents, address_nil, address_live, starts_elsewhere}

unfoldable pub place_record : ℕ → ℕ → ℕ → Layout → Layout
place_record x w n Y = record { at = update Y.at x w; words = update Y.words x n }

-- The new record has the words w to w + n - 1, which no record has; they are 0 then, and other words stay. The elements are then E and the
-- unswept words `unswept`: the new record's span is swept, and of other records they say what was said.
module _ {H : WordHeap} {Y : Layout} {numbers : ℕ → ℕ → ℕ} {S : State} (A : LegalColours H) (I : Invariant S) (Z : Represents H Y numbers S)
    (t i w n p : ℕ) (arena : ℕ → ℕ) (E : Elements) (unswept : ℕ → Bool)
    (free : (x : ℕ) → Live S.allocated x → (Y.at x + Y.words x ≤ w) ⊎ (w + n ≤ Y.at x))
    (big : (p ≤ n) × (0 < n))
    (zeroed : (k : ℕ) → k < n → arena (w + k) ≡ 0)
    (alone : (v : ℕ) → ((v < w) ⊎ (w + n ≤ v)) → arena v ≡ H.arena v)
    (element : (E.scan w ≡ ltb 0 p) × (E.pointers w ≡ p) × (E.words w ≡ n))
    (others : (x : ℕ) → Live S.allocated x → Alike E H.elements (Y.at x))
    (fresh : unswept w ≡ false)
    (unswepts : (x : ℕ) → Live S.allocated x → unswept (Y.at x) ≡ H.unswept (Y.at x)) where
  off_b : (x : ℕ) → Live S.allocated x → x ≢ S.graph.born
  off_b x l = omega (arith, I.allocated_born x l.1)

  split : (x : ℕ) → Live (update S.allocated S.graph.born true) x → (x ≡ S.graph.born) ⊎ Live S.allocated x
  split x l = go (added_only S.allocated S.graph.born x l.1)
    where
      go : ((x ≡ S.graph.born) ⊎ T (S.allocated x)) → (x ≡ S.graph.born) ⊎ Live S.allocated x
      go (inl e) = inl e
      go (inr a) = inr (l.0, a)

  at_new : (place_record S.graph.born w n Y).at S.graph.born ≡ w
  unfolding place_record
  at_new = update_same Y.at S.graph.born w

  size_new : (place_record S.graph.born w n Y).words S.graph.born ≡ n
  unfolding place_record
  size_new = update_same Y.words S.graph.born n

  at_old : (x : ℕ) → x ≢ S.graph.born → (place_record S.graph.born w n Y).at x ≡ Y.at x
  unfolding place_record
  at_old x d = update_other Y.at S.graph.born w x d

  size_old : (x : ℕ) → x ≢ S.graph.born → (place_record S.graph.born w n Y).words x ≡ Y.words x
  unfolding place_record
  size_old x d = update_other Y.words S.graph.born n x d

  address_old : (x : ℕ) → x < S.graph.born → address (place_record S.graph.born w n Y) x ≡ address Y x
  unfolding address
  address_old x h = rw (at_old x (omega arith))

  address_new : address (place_record S.graph.born w n Y) S.graph.born ≡ address_of w
  address_new = rw (address_live (place_record S.graph.born w n Y) S.graph.born I.born_closed.nil, at_new)

  new_placed : Placed (update H.allocated w true) E (place_record S.graph.born w n Y) (update S.graph.pointers S.graph.born p) (update S.allocated S.graph.born true)
  new_placed = record {
    on = λ x l. on x (split x l);
    only = λ v a. only v (added_only H.allocated w v a);
    apart = λ x y l k d. apart x y d (split x l) (split y k);
    fits = λ x l. fits x (split x l);
    scan = λ x l. scan x (split x l);
    pointers = λ x l. pointers x (split x l);
    words = λ x l. words x (split x l);
  }
    where
      Y' : Layout
      Y' = place_record S.graph.born w n Y

      on : (x : ℕ) → ((x ≡ S.graph.born) ⊎ Live S.allocated x) → T (update H.allocated w true (Y'.at x))
      on x (inl e) = rw (e, at_new) (added_new H.allocated w)
      on x (inr k) = rw (at_old x (off_b x k)) (added_old H.allocated w (Y.at x) (Z.placed.on x k))

      only : (v : ℕ) → ((v ≡ w) ⊎ T (H.allocated v)) → (x : ℕ) × Live (update S.allocated S.graph.born true) x × (Y'.at x ≡ v)
      only v (inl e) = (S.graph.born, (I.born_closed.nil, added_new S.allocated S.graph.born), at_new ∙ sym e)
      only v (inr a) = let r = Z.placed.only v a in (r.0, (r.1.0, added_old S.allocated S.graph.born r.0 r.1.1), at_old r.0 (off_b r.0 r.1) ∙ r.2)

      swap : {X Y : Type 0} → X ⊎ Y → Y ⊎ X
      swap (inl a) = inr a
      swap (inr a) = inl a

      apart : (x y : ℕ) → x ≢ y → ((x ≡ S.graph.born) ⊎ Live S.allocated x) → ((y ≡ S.graph.born) ⊎ Live S.allocated y) →
          (Y'.at x + Y'.words x ≤ Y'.at y) ⊎ (Y'.at y + Y'.words y ≤ Y'.at x)
      apart x y d (inl e) (inl f) = absurd (d (e ∙ sym f))
      apart x y d (inl e) (inr k) = rw (e, at_new, size_new, at_old y (off_b y k), size_old y (off_b y k)) (swap (free y k))
      apart x y d (inr k) (inl e) = rw (e, at_new, size_new, at_old x (off_b x k), size_old x (off_b x k)) (free x k)
      apart x y d (inr k) (inr l) = rw (at_old x (off_b x k), size_old x (off_b x k), at_old y (off_b y l), size_old y (off_b y l))
          (Z.placed.apart x y k l d)

      fits : (x : ℕ) → ((x ≡ S.graph.born) ⊎ Live S.allocated x) →
          (update S.graph.pointers S.graph.born p x ≤ Y'.words x) × (0 < Y'.words x)
      fits x (inl e) = rw (e, size_new, update_same S.graph.pointers S.graph.born p) big
      fits x (inr k) = rw (size_old x (off_b x k), update_other S.graph.pointers S.graph.born p x (off_b x k)) (Z.placed.fits x k)

      scan : (x : ℕ) → ((x ≡ S.graph.born) ⊎ Live S.allocated x) →
          E.scan (Y'.at x) ≡ ltb 0 (update S.graph.pointers S.graph.born p x)
      scan x (inl e) = rw (e, at_new, update_same S.graph.pointers S.graph.born p) element.0
      scan x (inr k) = rw (at_old x (off_b x k), update_other S.graph.pointers S.graph.born p x (off_b x k))
          ((others x k).0 ∙ Z.placed.scan x k)

      pointers : (x : ℕ) → ((x ≡ S.graph.born) ⊎ Live S.allocated x) →
          E.pointers (Y'.at x) ≡ update S.graph.pointers S.graph.born p x
      pointers x (inl e) = rw (e, at_new, update_same S.graph.pointers S.graph.born p) element.1
      pointers x (inr k) = rw (at_old x (off_b x k), update_other S.graph.pointers S.graph.born p x (off_b x k))
          ((others x k).1 ∙ Z.placed.pointers x k)

      words : (x : ℕ) → ((x ≡ S.graph.born) ⊎ Live S.allocated x) → E.words (Y'.at x) ≡ Y'.words x
      words x (inl e) = rw (e, at_new, size_new) element.2
      words x (inr k) = rw (at_old x (off_b x k), size_old x (off_b x k)) ((others x k).2 ∙ Z.placed.words x k)

  fld_nil : (f : ℕ) → S.graph.field S.graph.born f ≡ 0
  fld_nil f = I.shape.past_pointers S.graph.born f (rw (I.shape.unborn S.graph.born (omega arith)) (omega arith))

  outside : (x f : ℕ) → f < Y.words x → ((Y.at x + Y.words x ≤ w) ⊎ (w + n ≤ Y.at x)) → arena (Y.at x + f) ≡ H.arena (Y.at x + f)
  outside x f h (inl u) = alone (Y.at x + f) (inl (omega arith))
  outside x f h (inr u) = alone (Y.at x + f) (inr (omega arith))

  new_words : SameWords arena (update2 H.slots t i (address_of w)) H.globals (place_record S.graph.born w n Y) (update numbers S.graph.born (λ k. 0))
      (set_slot t i S.graph.born (birth p S.graph)) (update S.allocated S.graph.born true)
  unfolding set_slot birth
  new_words = record {
    slot = λ u j. rw (← address_new)
        (update2_map (address Y') H.slots S.graph.slot t i S.graph.born u j (Z.words.slot u j ∙ sym (address_old (S.graph.slot u j) (I.born_closed.root u j))));
    global = λ g. Z.words.global g ∙ sym (address_old (S.graph.field 0 g) (I.born_closed.step 0 g I.born_closed.nil));
    pointer = λ x f l h. pointer x f h (split x l);
    number = λ x f l h s. number x f h s (split x l);
  }
    where
      Y' : Layout
      Y' = place_record S.graph.born w n Y

      pointer : (x f : ℕ) → f < update S.graph.pointers S.graph.born p x → ((x ≡ S.graph.born) ⊎ Live S.allocated x) →
          arena (Y'.at x + f) ≡ address Y' (S.graph.field x f)
      pointer x f h (inl e) = rw (e, at_new, fld_nil f, address_nil Y')
          (zeroed f (omega (arith, rw (e, update_same S.graph.pointers S.graph.born p) at h)))
      pointer x f h (inr k) = let h' = rw (update_other S.graph.pointers S.graph.born p x (off_b x k)) at h in
          rw (at_old x (off_b x k), address_old (S.graph.field x f) (I.born_closed.step x f (I.allocated_born x k.1)), outside x f (omega (arith, Z.placed.fits x k)) (free x k)) (Z.words.pointer x f k h')

      number : (x f : ℕ) → update S.graph.pointers S.graph.born p x ≤ f → f < Y'.words x →
          ((x ≡ S.graph.born) ⊎ Live S.allocated x) → arena (Y'.at x + f) ≡ update numbers S.graph.born (λ (k : ℕ). 0) x f
      number x f h s (inl e) = rw (e, at_new, update_same numbers S.graph.born (λ (k : ℕ). 0))
          (zeroed f (omega (arith, rw (e, size_new) at s)))
      number x f h s (inr k) =
          let h' = rw (update_other S.graph.pointers S.graph.born p x (off_b x k)) at h in
          let s' = rw (size_old x (off_b x k)) at s in
          rw (at_old x (off_b x k), update_other numbers S.graph.born (λ (k : ℕ). 0) x (off_b x k), outside x f s' (free x k)) (Z.words.number x f k h' s')

  not_w : (x : ℕ) → Live S.allocated x → Y.at x ≢ w
  not_w x l = starts_elsewhere Z.placed w n x big.1 l (free x l)

  marked_old : (b : Bool) (x : ℕ) → Live S.allocated x →
      (cond b (update H.bits.marked w true) H.bits.marked) (Y.at x) ≡ H.bits.marked (Y.at x)
  marked_old true x l = update_other H.bits.marked w true (Y.at x) (not_w x l)
  marked_old false x l = refl

  no_gray : H.bits.gray w ≡ false
  no_gray = go (test (H.bits.gray w))
    where
      bad : ((x : ℕ) × Live S.allocated x × (Y.at x ≡ w)) → ⊥
      bad r = not_w r.0 r.1 r.2

      go : (T (H.bits.gray w) ⊎ T (not (H.bits.gray w))) → H.bits.gray w ≡ false
      go (inl t) = absurd (bad (Z.placed.only w (A.marked_allocated w (A.gray_marked w t))))
      go (inr t) = of_false (H.bits.gray w) t

  new_colours : T (marking S.phase) → SameColours (place_record S.graph.born w n Y) (update S.allocated S.graph.born true)
      (record { marked = update H.bits.marked w true; gray = H.bits.gray; gray_globals = H.bits.gray_globals; gray_stack = H.bits.gray_stack })
      (blacken S.graph.born S.colours)
  unfolding blacken
  new_colours m = record {
    marked = λ x l. marks x (split x l);
    gray = λ x l. grays x (split x l);
    gray_globals = (Z.colours m).gray_globals;
    gray_stack = (Z.colours m).gray_stack;
  }
    where
      Y' : Layout
      Y' = place_record S.graph.born w n Y

      K : TriColour S.graph S.kept S.colours
      K = I.tricolour m

      white : (T (S.colours.gray S.graph.born) ⊎ T (not (S.colours.gray S.graph.born))) →
          S.colours.gray S.graph.born ≡ false
      white (inl g) = absurd
          (omega (arith, I.allocated_born S.graph.born (I.kept_allocated S.graph.born (K.marked_kept S.graph.born (K.gray_marked S.graph.born g)))))
      white (inr g) = of_false (S.colours.gray S.graph.born) g

      marks : (x : ℕ) → ((x ≡ S.graph.born) ⊎ Live S.allocated x) →
          update H.bits.marked w true (Y'.at x) ≡ update S.colours.marked S.graph.born true x
      marks x (inl e) = rw (e, at_new, update_same H.bits.marked w true, update_same S.colours.marked S.graph.born true)
      marks x (inr k) = rw
          (at_old x (off_b x k), update_other S.colours.marked S.graph.born true x (off_b x k), marked_old true x k)
          ((Z.colours m).marked x k)

      grays : (x : ℕ) → ((x ≡ S.graph.born) ⊎ Live S.allocated x) → H.bits.gray (Y'.at x) ≡ S.colours.gray x
      grays x (inl e) = rw (e, at_new, no_gray, white (test (S.colours.gray S.graph.born)))
      grays x (inr k) = rw (at_old x (off_b x k)) ((Z.colours m).gray x k)

  new_kept : (x : ℕ) → ((x ≡ S.graph.born) ⊎ Live S.allocated x) → update S.kept S.graph.born true x ≡
      cond (unswept ((place_record S.graph.born w n Y).at x)) ((cond (marking H.phase) (update H.bits.marked w true) H.bits.marked) ((place_record S.graph.born w n Y).at x)) true
  new_kept x (inl e) = rw (e, at_new, fresh, update_same S.kept S.graph.born true)
  new_kept x (inr k) = rw
      (at_old x (off_b x k), update_other S.kept S.graph.born true x (off_b x k), unswepts x k, marked_old (marking H.phase) x k)
      (Z.kept x k)

  pub represents_allocate : Represents (heap_allocate t i w arena E unswept H) (place_record S.graph.born w n Y) (update numbers S.graph.born (λ k. 0)) (perform (allocate t i p) S)
  unfolding heap_allocate perform set_slot birth
  represents_allocate = record {
    placed = new_placed;
    words = new_words;
    colours = λ m. rw (Z.phase, of_true (marking S.phase) m) (new_colours m);
    kept = λ x l. new_kept x (split x l);
    opened = Z.opened;
    phase = Z.phase;
  }
