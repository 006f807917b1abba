-- THE EXACT FREED SET. In ledger terms alone: from a start on, a scan adds all that the scanned slots or globals reach, a store all that the
-- old and the new value reach, a birth the record that is born. What has been added by the finish survives the cycle; every other record
-- that is allocated then is freed, wherever the mark steps fall. The record `Exact`, at the end, says so; proofs/Exact.antt proves it. Read Claim before it.
use Rattle.std.specs.Prelude.{◌≡◌, Bool, ◌&&◌, ◌⊎◌, List, [], ◌∷◌, ℕ, suc, ◌≤◌, ◌<◌, T}
use Rattle.marking.specs.Effect.{in_cycle, in_marking}
use Rattle.marking.specs.WordHeap.{WordHeap}
use Rattle.model.specs.Memory.{word_of}
use Rattle.marking.specs.Event.{Event, reset_stack, assign, store, store_global, put, allocate, writes, get, scan_stack, scan_globals, acts, Each}
use Rattle.marking.specs.Event
use Rattle.marking.specs.Ledger.{Ledger, feed, feed_all}
use Rattle.marking.specs.Trace.{Step, Steps}
use Rattle.marking.specs.Claim.{is_allocated, freed_to_end}

-- the record v, and what its pointer words reach
pub data From (L : Ledger) (v : ℕ) : ℕ → Type 0 where
  itself : 0 < v → From L v v
  field : {x : ℕ} → From L v x → (f : ℕ) → f < L.pointers x → 0 < L.pointer x f → From L v (L.pointer x f)

-- the records that a call in the mark phase saves
abbrev pub Saves : Event → Ledger → ℕ → Type 0
Saves (writes (reset_stack s b)) L x = ⊥
Saves (writes (assign s i v)) L x = ⊥
Saves (writes (store s j f k)) L x = From L (L.pointer (L.slot s j) f) x ⊎ From L (L.slot s k) x
Saves (writes (store_global s g i)) L x = From L (L.global g) x ⊎ From L (L.slot s i) x
Saves (writes (put s j f v)) L x = ⊥
Saves (writes (allocate s i p n a)) L x = x ≡ suc L.count
Saves (get s j f) L x = ⊥
-- a scan, a scan of what is scanned already too: such a stack's slots hold only what is saved by the finish anyway
Saves (scan_stack s) L x = (i : ℕ) × From L (L.slot s i) x
Saves scan_globals L x = (g : ℕ) × From L (L.global g) x
Saves (acts c) L x = ⊥

-- those of K and what a list of calls saves
unfoldable pub SavedBy : List Event → Ledger → (ℕ → Type 0) → ℕ → Type 0
SavedBy [] L K x = K x
SavedBy (e ∷ es) L K x = SavedBy es (feed e L) (λ y. K y ⊎ Saves e L y) x

-- what the calls from a start on have saved, where L is the ledger at the start
abbrev pub Saved : List Event → Ledger → ℕ → Type 0
Saved es L x = SavedBy es L (λ y. ⊥) x

-- is the record x marked
abbrev pub is_marked : Ledger → WordHeap → ℕ → Bool
is_marked L H x = is_allocated L H x && H.bits.marked (word_of (L.address x))

-- THE CLAIM of the cycles that may start at a heap H that a list of calls has left, where L is the ledger: at an accepted finish the marked
-- records are exactly those saved, and if the cycle ends, a record that is allocated at its finish is freed once if it was not saved and
-- not at all if it was
pub record Exact (H : WordHeap) (L : Ledger) : Type 0 where
  pub marked : {H₁ H₂ H₃ : WordHeap} {es : List Event} → Step H Event.start H₁ → Steps H₁ es H₂ → Each in_marking es → Step H₂ Event.finish H₃ →
      (x : ℕ) → 0 < x → x ≤ (feed_all es L).count → (T (is_marked (feed_all es L) H₂ x) → Saved es L x) × (Saved es L x → T (is_marked (feed_all es L) H₂ x))
  pub freed : {H₁ H₂ H₃ H₄ H₅ : WordHeap} {es fs : List Event} → Step H Event.start H₁ → Steps H₁ es H₂ → Each in_marking es →
      Step H₂ Event.finish H₃ →
      (ss : Steps H₃ fs H₄) → Each in_cycle fs → Step H₄ Event.end_cycle H₅ →
      (x : ℕ) → 0 < x → x ≤ (feed_all es L).count → T (is_allocated (feed_all es L) H₂ x) →
      (¬ (Saved es L x) → freed_to_end x (feed_all es L) ss H₅ ≡ 1) × (Saved es L x → freed_to_end x (feed_all es L) ss H₅ ≡ 0)
