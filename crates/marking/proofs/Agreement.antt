-- What holds between a heap of words and bits and the ledger: some abstract state stands between them, which the heap represents and
-- the ledger describes. Here is that relation, how the ledger's changes follow the graph's, and that a setup establishes it.
use mathlib.Core.Path.{◌≡◌, refl}
use mathlib.Core.Bool.{Bool, true, false, not, cond}
use mathlib.Core.Logic.{◌⊎◌, inl, inr, ◌≢◌}
use Prim.Native.Nat.{ℕ, suc, ◌<◌}
use native.Mathlib.Omega.{arith}
use lib.Dec.{T, eqb, eqb→eq}
use borrow.Author.Tests.{ne_eqb}
use Rattle.marking.specs.Updates.{update}
use Rattle.model.proofs.Tests.{of_true, of_false}
use Rattle.marking.proofs.Updates.{update_other, update_is, update2_is, test, differ}
use Rattle.model.specs.Memory.{global_count, address_of}
use Rattle.marking.proofs.Graph.{Graph, Shape, set_slot, set_field, empty_stack, birth}
use Rattle.marking.proofs.Operations.{State, initial}
use Rattle.marking.proofs.Safety.{Invariant, initial_keeps}
use Rattle.marking.specs.WordHeap.{WordHeap}
use Rattle.marking.proofs.Represents.{Layout, address, Live, Represents}
use Rattle.marking.proofs.Birth.{place_record}
use Rattle.marking.specs.Ledger.{Ledger, empty, with_slot, with_stack, with_pointer, with_global, with_number, with_record}
use Rattle.marking.specs.Trace.{Fresh}

-- the ledger has what the graph has, and the addresses that the layout gives
pub record Describes (L : Ledger) (Y : Layout) (G : Graph) : Type 0 where
  pub opened : (t : ℕ) → G.opened t ≡ L.opened t
  pub slot : (t i : ℕ) → G.slot t i ≡ L.slot t i
  pub global : (g : ℕ) → G.field 0 g ≡ L.global g
  pub born : G.born ≡ suc L.count
  pub pointers : (x : ℕ) → 0 < x → G.pointers x ≡ L.pointers x
  pub globals : G.pointers 0 ≡ global_count
  pub pointer : (x f : ℕ) → 0 < x → G.field x f ≡ L.pointer x f
  pub address : (x : ℕ) → 0 < x → x < G.born → L.address x ≡ address_of (Y.at x)
  pub words : (x : ℕ) → L.words x ≡ Y.words x

-- an allocated record is the last born at its place
abbrev pub LastThere : Layout → Graph → (ℕ → Bool) → Type 0
LastThere Y G there = (x y : ℕ) → Live there x → x < y → y < G.born → Y.at y ≢ Y.at x

-- THE AGREEMENT: the heap represents the state S, and the ledger describes it
pub record Agrees (H : WordHeap) (L : Ledger) (S : State) (Y : Layout) : Type 0 where
  pub invariant : Invariant S
  pub represents : Represents H Y L.number S
  pub describes : Describes L Y S.graph
  pub last : LastThere Y S.graph S.allocated

-- a change of the ledger and the change of the graph
module _ {L : Ledger} {Y : Layout} {G : Graph} (Q : Describes L Y G) where
  pub describes_slot : (s i v : ℕ) → Describes (with_slot s i v L) Y (set_slot s i v G)
  unfolding with_slot set_slot
  describes_slot s i v = record {
    opened = Q.opened;
    slot = λ t j. rw (update2_is G.slot s i v t j, update2_is L.slot s i v t j, Q.slot t j);
    global = Q.global;
    born = Q.born;
    pointers = Q.pointers;
    globals = Q.globals;
    pointer = Q.pointer;
    address = Q.address;
    words = Q.words;
  }

  pub describes_field : (x f v : ℕ) → 0 < x → Describes (with_pointer x f v L) Y (set_field x f v G)
  unfolding with_pointer set_field
  describes_field x f v h = record {
    opened = Q.opened;
    slot = Q.slot;
    global = λ g. rw (update2_is G.field x f v 0 g, ne_eqb 0 x (omega arith)) (Q.global g);
    born = Q.born;
    pointers = Q.pointers;
    globals = Q.globals;
    pointer = λ y g k. rw (update2_is G.field x f v y g, update2_is L.pointer x f v y g, Q.pointer y g k);
    address = Q.address;
    words = Q.words;
  }

  pub describes_global : (g v : ℕ) → Describes (with_global g v L) Y (set_field 0 g v G)
  unfolding with_global set_field
  describes_global g v = record {
    opened = Q.opened;
    slot = Q.slot;
    global = λ k. rw (update2_is G.field 0 g v 0 k, update_is L.global g v k, Q.global k);
    born = Q.born;
    pointers = Q.pointers;
    globals = Q.globals;
    pointer = λ y f k. rw (update2_is G.field 0 g v y f, ne_eqb y 0 (omega arith)) (Q.pointer y f k);
    address = Q.address;
    words = Q.words;
  }

  pub describes_number : (x f v : ℕ) → Describes (with_number x f v L) Y G
  unfolding with_number
  describes_number x f v = record {
    opened = Q.opened;
    slot = Q.slot;
    global = Q.global;
    born = Q.born;
    pointers = Q.pointers;
    globals = Q.globals;
    pointer = Q.pointer;
    address = Q.address;
    words = Q.words;
  }

  pub describes_stack : (s : ℕ) (b : Bool) → Describes (with_stack s b L) Y (empty_stack s b G)
  unfolding with_stack empty_stack
  describes_stack s b = record {
    opened = λ t. rw (update_is G.opened s b t, update_is L.opened s b t, Q.opened t);
    slot = λ t j. rw (update_is G.slot s (λ i. 0) t, update_is L.slot s (λ i. 0) t) (go t j (eqb t s));
    global = Q.global;
    born = Q.born;
    pointers = Q.pointers;
    globals = Q.globals;
    pointer = Q.pointer;
    address = Q.address;
    words = Q.words;
  }
    where
      go : (t j : ℕ) (b : Bool) → (cond b (λ (i : ℕ). 0) (G.slot t)) j ≡ (cond b (λ (i : ℕ). 0) (L.slot t)) j
      go t j true = refl
      go t j false = Q.slot t j

  pub describes_birth : (p n w : ℕ) → Shape G → Describes (with_record p n (address_of w) L) (place_record G.born w n Y) (birth p G)
  unfolding with_record birth place_record
  describes_birth p n w Sh = record {
    opened = Q.opened;
    slot = Q.slot;
    global = Q.global;
    born = rw Q.born;
    pointers = λ x h. rw (update_is G.pointers G.born p x, update_is L.pointers (suc L.count) p x, Q.born, Q.pointers x h);
    globals = rw (update_other G.pointers G.born p 0 (omega (arith, Q.born))) Q.globals;
    pointer = λ x f h. rw (update_is L.pointer (suc L.count) (λ f. 0) x, ← Q.born) (go x f h (test (eqb x G.born)));
    address = λ x h k. place x h k (test (eqb x G.born));
    words = λ x. rw (update_is L.words (suc L.count) n x, update_is Y.words G.born n x, Q.born, Q.words x);
  }
    where
      go : (x f : ℕ) → 0 < x → (T (eqb x G.born) ⊎ T (not (eqb x G.born))) →
          G.field x f ≡ (cond (eqb x G.born) (λ (f : ℕ). 0) (L.pointer x)) f
      go x f h (inl e) = rw (of_true (eqb x G.born) e)
          (Sh.past_pointers x f (rw (Sh.unborn x (omega (arith, eqb→eq x G.born e))) (omega arith)))
      go x f h (inr e) = rw (of_false (eqb x G.born) e) (Q.pointer x f h)

      place : (x : ℕ) → 0 < x → x < suc G.born → (T (eqb x G.born) ⊎ T (not (eqb x G.born))) →
          update L.address (suc L.count) (address_of w) x ≡ address_of (update Y.at G.born w x)
      place x h k (inl e) = rw
          (update_is L.address (suc L.count) (address_of w) x, update_is Y.at G.born w x, ← Q.born, of_true (eqb x G.born) e)
      place x h k (inr e) = rw
          (update_is L.address (suc L.count) (address_of w) x, update_is Y.at G.born w x, ← Q.born, of_false (eqb x G.born) e)
          (Q.address x h (omega (arith, differ x G.born e)))

-- a setup
pub no_layout : Layout
no_layout = record { at = λ x. 0; words = λ x. 0 }

pub no_live : {A : Type 0} (x : ℕ) → Live initial.allocated x → A
no_live x l = absurd (omega (arith, eqb→eq x 0 l.1))

pub fresh_represents : (H : WordHeap) → Fresh H → Represents H no_layout (λ x f. 0) initial
unfolding no_layout address
fresh_represents H F = record {
  placed = record {
    on = λ x l. no_live x l;
    only = λ w t. absurd (rw (F.allocated w) at t);
    apart = λ x y l. no_live x l;
    fits = λ x l. no_live x l;
    scan = λ x l. no_live x l;
    pointers = λ x l. no_live x l;
    words = λ x l. no_live x l;
  };
  words = record { slot = F.slots; global = F.globals; pointer = λ x f l. no_live x l; number = λ x f l. no_live x l };
  colours = λ m. absurd m;
  kept = λ x l. no_live x l;
  opened = F.opened;
  phase = F.phase;
}

pub empty_describes : Describes empty no_layout initial.graph
unfolding empty no_layout
empty_describes = record {
  opened = λ t. refl;
  slot = λ t i. refl;
  global = λ g. refl;
  born = refl;
  pointers = λ x h. rw (ne_eqb x 0 (omega arith));
  globals = refl;
  pointer = λ x f h. refl;
  address = λ x h k. absurd (omega arith);
  words = λ x. refl;
}

pub fresh_agrees : (H : WordHeap) → Fresh H → Agrees H empty initial no_layout
unfolding empty
fresh_agrees H F = record { invariant = initial_keeps; represents = fresh_represents H F; describes = empty_describes; last = λ x y l. no_live x l }
