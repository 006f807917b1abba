-- The sweeps that make room for an allocation: each sweeps one unswept span, and P, the arena and the roots stay as they were.
use Prim.Native.Nat.{ℕ, zero, suc, ◌<◌, ◌≤◌}
use mathlib.Core.Bool.{Bool, true, false, cond, ◌||◌}
use mathlib.Core.List.{List, [], ◌∷◌, ◌++◌}
use mathlib.Core.Logic.{◌≢◌}
use mathlib.Core.Path.{◌≡◌, refl}
use lib.Dec.{eqb, leb}
use borrow.Author.Tests.{ne_eqb, leb-false}
use Rattle.model.specs.Memory.{Heap, lent, unswept_flag}
use Rattle.model.specs.Answers.{refusal}
use Rattle.model.specs.Classes.{kind_of, pages_for}
use Rattle.model.specs.Spans.{kind_entry}
use Rattle.model.specs.Cycle.{swept_span}
use Rattle.model.specs.Allocate.{element_free, pages_free, any_span, next_unswept, sweep_at_most, sweep_until, last_of, kind_sweeps, page_sweeps, room_sweeps, allocate_refusal, allocate_sweeps, place_record, allocate}
use Rattle.model.specs.Facts.{IsSpan}
use Rattle.model.specs.Room.{Sweeps, none, more}
use Rattle.model.proofs.Tests.{is_true}
use Rattle.model.proofs.Bounded.{first_props}
use Rattle.model.proofs.Rules.{tests}
use Rattle.model.proofs.Checks.{Allocates}

-- the span that is swept next is unswept
pub next_unswept_lem : (test : Heap → ℕ → Bool) (h : Heap) → next_unswept test h < h.pages →
    IsSpan h.table (next_unswept test h) × (unswept_flag ≤ kind_entry h.table (next_unswept test h))
unfolding next_unswept
next_unswept_lem test h l =
    let x = simp tests at (is_true _ ((first_props h.pages _).holds l)) in
    (x.0.0, x.0.1)

pub until_sweeps : (n : ℕ) (goal : Heap → Bool) (test : Heap → ℕ → Bool) (h : Heap) → Sweeps h (sweep_at_most n goal test h)
unfolding sweep_at_most
until_sweeps zero goal test h = none
until_sweeps (suc n) goal test h = go (goal h) (leb h.pages (next_unswept test h)) refl (until_sweeps n goal test (swept_span (next_unswept test h) h))
  where
    s : ℕ
    s = next_unswept test h

    go : (a b : Bool) → leb h.pages s ≡ b → Sweeps (swept_span s h) (sweep_at_most n goal test (swept_span s h)) →
        Sweeps h (cond (a || b) [] (swept_span s h ∷ sweep_at_most n goal test (swept_span s h)))
    go true b e x = none
    go false true e x = none
    go false false e x = let u = next_unswept_lem test h (leb-false h.pages s e) in more s u.0 u.1 x

-- some sweeps and then others
pub join : {h : Heap} {gs ks : List Heap} → Sweeps h gs → Sweeps (last_of h gs) ks → Sweeps h (gs ++ ks)
unfolding last_of
join none y = y
join (more s i u x) y = more s i u (join x y)

pub kind_sweeps_lem : (kind : ℕ) (h : Heap) → Sweeps h (kind_sweeps kind h)
unfolding kind_sweeps
kind_sweeps_lem kind h = until_sweeps h.pages _ _ h

pub page_sweeps_lem : (kind n : ℕ) (h : Heap) → Sweeps h (page_sweeps kind n h)
unfolding page_sweeps
page_sweeps_lem kind n h = go (element_free kind h)
  where
    go : (b : Bool) → Sweeps h (cond b [] (sweep_until (pages_free n) any_span h))
    go true = none
    go false = until_sweeps h.pages _ _ h

pub room_sweeps_lem : (kind n : ℕ) (h : Heap) → Sweeps h (room_sweeps kind n h)
unfolding room_sweeps
room_sweeps_lem kind n h = join (kind_sweeps_lem kind h) (page_sweeps_lem kind n (last_of h (kind_sweeps kind h)))

pub allocate_sweeps_lem : (h : Heap) (s i size p : ℕ) → Sweeps h (allocate_sweeps h s i size p)
unfolding allocate_sweeps
allocate_sweeps_lem h s i size p = go (eqb (allocate_refusal h s i size p) 0)
  where
    go : (b : Bool) → Sweeps h (cond b (room_sweeps (kind_of size p) (pages_for size) h) [])
    go true = room_sweeps_lem (kind_of size p) (pages_for size) h
    go false = none

-- what sweeps leave alone
pub last_pages : {h : Heap} {gs : List Heap} → Sweeps h gs → (last_of h gs).pages ≡ h.pages
unfolding last_of
last_pages none = refl
last_pages (more s i u x) = last_pages x

pub last_arena : {h : Heap} {gs : List Heap} → Sweeps h gs → (last_of h gs).arena ≡ h.arena
unfolding last_of
last_arena none = refl
last_arena (more s i u x) = last_arena x

pub last_roots : {h : Heap} {gs : List Heap} → Sweeps h gs → (last_of h gs).roots ≡ h.roots
unfolding last_of
last_roots none = refl
last_roots (more s i u x) = last_roots x

-- .. so that what they leave is known by the page table and the bitmaps
pub last_is : {h : Heap} {gs : List Heap} {t b : List ℕ} → Sweeps h gs → t ≡ (last_of h gs).table → b ≡ (last_of h gs).bits →
    lent h.pages h.arena t b h.roots ≡ last_of h gs
last_is {h} {gs} {t} {b} S e f = go (last_of h gs) (last_pages S) (last_arena S) (last_roots S) e f
  where
    go : (g : Heap) → g.pages ≡ h.pages → g.arena ≡ h.arena → g.roots ≡ h.roots → t ≡ g.table → b ≡ g.bits →
        lent h.pages h.arena t b h.roots ≡ g
    go g p a r e f = rw (e, f, ← p, ← a, ← r)

-- .. and so an allocation that could be made before them still can
pub still_allocates : {h : Heap} {gs : List Heap} {s i size p : ℕ} → Sweeps h gs → Allocates h s i size p → Allocates (last_of h gs) s i size p
still_allocates S x = record {
  stack = record { below = x.stack.below; is_open = rw (last_roots S) x.stack.is_open };
  slot = x.slot;
  some = x.some;
  limit = x.limit;
  pointers = x.pointers;
}

-- an allocation that is refused before any sweep leaves all as it was
pub before_sweeps : (h : Heap) (s i size p : ℕ) → allocate_refusal h s i size p ≢ 0 →
    (refusal (allocate h s i size p).answer ≡ allocate_refusal h s i size p) × ((allocate h s i size p).heap ≡ h)
unfolding allocate place_record
before_sweeps h s i size p d =
    rw (ne_eqb (allocate_refusal h s i size p) 0 d, last_pages (room_sweeps_lem (kind_of size p) (pages_for size) h)) (refl, refl)
