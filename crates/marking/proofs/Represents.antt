-- When a heap of words and bits represents an abstract state: a layout says where each record lies; the allocated bits stand at
-- the records and nowhere else, no two overlap, words hold addresses of what the fields hold, and bits and colours agree.
use mathlib.Core.Path.{◌≡◌, refl}
use mathlib.Core.Bool.{or-false, and-false, Bool, true, false, not, cond, ◌&&◌}
use mathlib.Core.Logic.{◌⊎◌, inl, inr, ◌≢◌}
use Prim.Native.Nat.{ℕ, zero, suc, ◌+◌, ◌≤◌, ◌<◌}
use native.Mathlib.Omega.{arith}
use lib.Dec.{T, eqb, ltb, eqb→eq}
use borrow.Author.Tests.{ne_eqb, eq-eqb}
use Rattle.marking.specs.Updates.{update, update2}
use Rattle.model.proofs.Tests.{of_true, of_false}
use Rattle.marking.proofs.Updates.{test, differ, update_is, update2_is, update2_map, cond_map}
use Rattle.marking.proofs.Graph.{Graph, set_slot, set_field, empty_stack}
use Rattle.marking.proofs.Colours.{Colours, Marked, shade, shade_all, shade_all_grows}
use Rattle.marking.proofs.Operations.{State}
use Rattle.marking.specs.WordHeap.{marking, ColourBits, Elements, WordHeap, shade_bits, shade_all_bits, named}
use Rattle.model.specs.Memory.{address_of, word_of}

-- where each record lies: its first word, and how many it has
pub record Layout : Type 0 where
  pub at : ℕ → ℕ
  pub words : ℕ → ℕ

-- the address of a record; nil is 0
unfoldable pub address : Layout → ℕ → ℕ
address Y x = cond (eqb x 0) 0 (address_of (Y.at x))

-- a record that is allocated
abbrev pub Live : (ℕ → Bool) → ℕ → Type 0
Live allocated x = (0 < x) × T (allocated x)

-- the allocated bits stand at the records; these do not overlap; and the page table and pointer bits say what they are
pub record Placed (allocatedBit : ℕ → Bool) (E : Elements) (Y : Layout) (pointersOf : ℕ → ℕ) (allocated : ℕ → Bool) : Type 0 where
  pub on : (x : ℕ) → Live allocated x → T (allocatedBit (Y.at x))
  pub only : (w : ℕ) → T (allocatedBit w) → (x : ℕ) × Live allocated x × (Y.at x ≡ w)
  pub apart : (x y : ℕ) → Live allocated x → Live allocated y → x ≢ y → (Y.at x + Y.words x ≤ Y.at y) ⊎ (Y.at y + Y.words y ≤ Y.at x)
  pub fits : (x : ℕ) → Live allocated x → (pointersOf x ≤ Y.words x) × (0 < Y.words x)
  pub scan : (x : ℕ) → Live allocated x → E.scan (Y.at x) ≡ ltb 0 (pointersOf x)
  pub pointers : (x : ℕ) → Live allocated x → E.pointers (Y.at x) ≡ pointersOf x
  pub words : (x : ℕ) → Live allocated x → E.words (Y.at x) ≡ Y.words x

-- a record that lies before or after a stretch of n words does not start where it starts
pub starts_elsewhere : {a : ℕ → Bool} {E : Elements} {Y : Layout} {pointersOf : ℕ → ℕ} {allocated : ℕ → Bool} → Placed a E Y pointersOf allocated →
    (w n x : ℕ) → 0 < n → Live allocated x → ((Y.at x + Y.words x ≤ w) ⊎ (w + n ≤ Y.at x)) → Y.at x ≢ w
starts_elsewhere P w n x b l (inl h) = omega (arith, P.fits x l)
starts_elsewhere P w n x b l (inr h) = omega arith

pub record SameColours (Y : Layout) (allocated : ℕ → Bool) (B : ColourBits) (C : Colours) : Type 0 where
  pub marked : (x : ℕ) → Live allocated x → B.marked (Y.at x) ≡ C.marked x
  pub gray : (x : ℕ) → Live allocated x → B.gray (Y.at x) ≡ C.gray x
  pub gray_globals : B.gray_globals ≡ C.gray 0
  pub gray_stack : (t : ℕ) → B.gray_stack t ≡ C.gray_stack t

-- slots, globals and pointer words hold the addresses of what the graph has there; the other words hold the numbers of the ledger
pub record SameWords (arena : ℕ → ℕ) (slots : ℕ → ℕ → ℕ) (globals : ℕ → ℕ) (Y : Layout) (numbers : ℕ → ℕ → ℕ) (G : Graph) (allocated : ℕ → Bool) : Type 0 where
  pub slot : (t i : ℕ) → slots t i ≡ address Y (G.slot t i)
  pub global : (g : ℕ) → globals g ≡ address Y (G.field 0 g)
  pub pointer : (x f : ℕ) → Live allocated x → f < G.pointers x → arena (Y.at x + f) ≡ address Y (G.field x f)
  pub number : (x f : ℕ) → Live allocated x → G.pointers x ≤ f → f < Y.words x → arena (Y.at x + f) ≡ numbers x f

-- A record is kept unless its span is unswept and it is not marked. Outside the mark phase the colours do not matter
pub record Represents (H : WordHeap) (Y : Layout) (numbers : ℕ → ℕ → ℕ) (S : State) : Type 0 where
  pub placed : Placed H.allocated H.elements Y S.graph.pointers S.allocated
  pub words : SameWords H.arena H.slots H.globals Y numbers S.graph S.allocated
  pub colours : T (marking S.phase) → SameColours Y S.allocated H.bits S.colours
  pub kept : (x : ℕ) → Live S.allocated x → S.kept x ≡ cond (H.unswept (Y.at x)) (H.bits.marked (Y.at x)) true
  pub opened : (t : ℕ) → H.opened t ≡ S.graph.opened t
  pub phase : H.phase ≡ S.phase

pub address_nil : (Y : Layout) → address Y 0 ≡ 0
unfolding address
address_nil Y = refl

pub address_live : (Y : Layout) (x : ℕ) → 0 < x → address Y x ≡ address_of (Y.at x)
unfolding address
address_live Y x p = rw (ne_eqb x 0 (omega arith))

pub word_address : (Y : Layout) (x : ℕ) → 0 < x → word_of (address Y x) ≡ Y.at x
word_address Y x p = rw (address_live Y x p) (omega arith)

module _ {allocatedBit allocated : ℕ → Bool} {E : Elements} {Y : Layout} (G : Graph) (P : Placed allocatedBit E Y G.pointers allocated) where
  pub same_place : (x y : ℕ) → Live allocated x → Live allocated y → eqb (Y.at x) (Y.at y) ≡ eqb x y
  same_place x y l k = go (test (eqb x y))
    where
      no_share : x ≢ y → ((Y.at x + Y.words x ≤ Y.at y) ⊎ (Y.at y + Y.words y ≤ Y.at x)) → Y.at x ≢ Y.at y
      no_share d (inl h) = omega (arith, P.fits x l)
      no_share d (inr h) = omega (arith, P.fits y k)

      go : (T (eqb x y) ⊎ T (not (eqb x y))) → eqb (Y.at x) (Y.at y) ≡ eqb x y
      go (inl e) = rw (eqb→eq x y e, eq-eqb (Y.at y) (Y.at y) refl, eq-eqb y y refl)
      go (inr e) = rw (ne_eqb x y (differ x y e), ne_eqb (Y.at x) (Y.at y) (no_share (differ x y e) (P.apart x y l k (differ x y e))))

  pub shade_colours : {B : ColourBits} {C : Colours} (x : ℕ) → ((x ≡ 0) ⊎ Live allocated x) → Marked C 0 → SameColours Y allocated B C →
      SameColours Y allocated (shade_bits E.scan (named E) (address Y x) B) (shade G x C)
  unfolding shade_bits shade
  shade_colours {B} {C} x (inl e) z Q = record {
    marked = λ y l. simp (e, address_nil, ne_eqb y 0 (omega arith), or-false, Q.marked y l);
    gray = λ y l. simp (e, address_nil, ne_eqb y 0 (omega arith), or-false, Q.gray y l);
    gray_globals = simp (e, of_true (C.marked 0) z, or-false, Q.gray_globals);
    gray_stack = Q.gray_stack;
  }
  shade_colours {B} {C} x (inr lx) z Q = record {
    marked = λ y l. simp (some, word_address Y x lx.0, same_place y x l lx, Q.marked y l);
    gray = λ y l. simp (some, word_address Y x lx.0, same_place y x l lx, Q.marked y l, Q.gray y l, P.scan y l);
    gray_globals = simp (ne_eqb 0 x (omega arith), or-false, Q.gray_globals);
    gray_stack = Q.gray_stack;
  }
    where
      some : eqb (address Y x) 0 ≡ false
      some = ne_eqb (address Y x) 0 (omega (arith, address_live Y x lx.0))

  -- many shadings: a f is the address of g f
  pub shade_all_colours : {B : ColourBits} {C : Colours} (a g : ℕ → ℕ) (n : ℕ) → ((f : ℕ) → f < n → a f ≡ address Y (g f)) →
      ((f : ℕ) → (g f ≡ 0) ⊎ Live allocated (g f)) →
      Marked C 0 → SameColours Y allocated B C → SameColours Y allocated (shade_all_bits E.scan (named E) a n B) (shade_all G g n C)
  unfolding shade_all_bits shade_all
  shade_all_colours a g zero h k z Q = Q
  shade_all_colours {B} {C} a g (suc n) h k z Q =
      rw (h n (omega arith)) (shade_colours (g n) (k n) (shade_all_grows G g n C 0 z) (shade_all_colours a g n (λ f l. h f (omega arith)) k z Q))

module _ {allocatedBit allocated : ℕ → Bool} {E : Elements} {Y : Layout} (G : Graph) (P : Placed allocatedBit E Y G.pointers allocated) where
  -- two words of records are one only if the record and the field are
  pub same_word : (x f y g : ℕ) → Live allocated x → Live allocated y → f < Y.words x → g < Y.words y →
      eqb (Y.at x + f) (Y.at y + g) ≡ (eqb x y && eqb f g)
  same_word x f y g l k u v = go (test (eqb x y))
    where
      no_share : ((Y.at x + Y.words x ≤ Y.at y) ⊎ (Y.at y + Y.words y ≤ Y.at x)) → Y.at x + f ≢ Y.at y + g
      no_share (inl h) = omega arith
      no_share (inr h) = omega arith

      shift : (a : ℕ) → (T (eqb f g) ⊎ T (not (eqb f g))) → eqb (a + f) (a + g) ≡ eqb f g
      shift a (inl e) = rw (eqb→eq f g e, eq-eqb (a + g) (a + g) refl, eq-eqb g g refl)
      shift a (inr e) = rw (ne_eqb f g (differ f g e), ne_eqb (a + f) (a + g) (omega (arith, differ f g e)))

      go : (T (eqb x y) ⊎ T (not (eqb x y))) → eqb (Y.at x + f) (Y.at y + g) ≡ (eqb x y && eqb f g)
      go (inl e) = rw (eqb→eq x y e, eq-eqb y y refl) (shift (Y.at y) (test (eqb f g)))
      go (inr e) = rw (ne_eqb x y (differ x y e), ne_eqb (Y.at x + f) (Y.at y + g) (no_share (P.apart x y l k (differ x y e))))

  module _ {arena : ℕ → ℕ} {slots : ℕ → ℕ → ℕ} {globals : ℕ → ℕ} {numbers : ℕ → ℕ → ℕ} (W : SameWords arena slots globals Y numbers G allocated) where
    pub assign_words : (t i v : ℕ) → SameWords arena (update2 slots t i (address Y v)) globals Y numbers (set_slot t i v G) allocated
    unfolding set_slot
    assign_words t i v = record {
      slot = λ u j. update2_map (address Y) slots G.slot t i v u j (W.slot u j);
      global = W.global;
      pointer = W.pointer;
      number = W.number;
    }

    pub store_words : (x f v : ℕ) → Live allocated x → f < G.pointers x →
        SameWords (update arena (Y.at x + f) (address Y v)) slots globals Y numbers (set_field x f v G) allocated
    unfolding set_field
    store_words x f v l h = record {
      slot = W.slot;
      global = λ g. rw (update2_is G.field x f v 0 g, ne_eqb 0 x (omega arith)) (W.global g);
      pointer = λ y g k u. rw (
        update_is arena (Y.at x + f) (address Y v) (Y.at y + g),
        update2_is G.field x f v y g,
        same_word y g x f k l (omega (arith, P.fits y k)) (omega (arith, P.fits x l)),
        W.pointer y g k u,
      ) (cond_map (address Y) (eqb y x && eqb g f) v (G.field y g));
      number = λ y g k u s. rw (
        update_is arena (Y.at x + f) (address Y v) (Y.at y + g),
        same_word y g x f k l s (omega (arith, P.fits x l)),
        other y g u,
      ) (W.number y g k u s);
    }
      where
        other : (y g : ℕ) → G.pointers y ≤ g → (eqb y x && eqb g f) ≡ false
        other y g u = go (test (eqb y x))
          where
            go : (T (eqb y x) ⊎ T (not (eqb y x))) → (eqb y x && eqb g f) ≡ false
            go (inl e) = let u' : G.pointers x ≤ g = rw (eqb→eq y x e) at u in rw (ne_eqb g f (omega arith)) (and-false (eqb y x))
            go (inr e) = rw (of_false (eqb y x) e)

    pub store_global_words : (g v : ℕ) → SameWords arena slots (update globals g (address Y v)) Y numbers (set_field 0 g v G) allocated
    unfolding set_field
    store_global_words g v = record {
      slot = W.slot;
      global = λ k. rw (update_is globals g (address Y v) k, update2_is G.field 0 g v 0 k, W.global k)
          (cond_map (address Y) (eqb k g) v (G.field 0 k));
      pointer = λ y f l h. rw (update2_is G.field 0 g v y f, ne_eqb y 0 (omega arith)) (W.pointer y f l h);
      number = W.number;
    }

    pub put_words_lem : (x f n : ℕ) → Live allocated x → G.pointers x ≤ f → f < Y.words x →
        SameWords (update arena (Y.at x + f) n) slots globals Y (update2 numbers x f n) G allocated
    put_words_lem x f n l h s = record {
      slot = W.slot;
      global = W.global;
      pointer = λ y g k u. rw
          (update_is arena (Y.at x + f) n (Y.at y + g), same_word y g x f k l (omega (arith, P.fits y k)) s, other y g u)
          (W.pointer y g k u);
      number = λ y g k u v. rw
          (update_is arena (Y.at x + f) n (Y.at y + g), update2_is numbers x f n y g, same_word y g x f k l v s, W.number y g k u v);
    }
      where
        other : (y g : ℕ) → g < G.pointers y → (eqb y x && eqb g f) ≡ false
        other y g u = go (test (eqb y x))
          where
            go : (T (eqb y x) ⊎ T (not (eqb y x))) → (eqb y x && eqb g f) ≡ false
            go (inl e) = let u' : g < G.pointers x = rw (eqb→eq y x e) at u in rw (ne_eqb g f (omega arith)) (and-false (eqb y x))
            go (inr e) = rw (of_false (eqb y x) e)

    pub empty_stack_words : (t : ℕ) (b : Bool) → SameWords arena (update slots t (λ i. 0)) globals Y numbers (empty_stack t b G) allocated
    unfolding empty_stack
    empty_stack_words t b = record {
      slot = λ u j. rw (update_is slots t (λ i. 0) u, update_is G.slot t (λ i. 0) u) (go u j (eqb u t));
      global = W.global;
      pointer = W.pointer;
      number = W.number;
    }
      where
        go : (u j : ℕ) (b : Bool) → (cond b (λ (i : ℕ). 0) (slots u)) j ≡ address Y ((cond b (λ (i : ℕ). 0) (G.slot u)) j)
        go u j true = rw (address_nil Y)
        go u j false = W.slot u j
