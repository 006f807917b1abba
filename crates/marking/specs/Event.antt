-- A call as an event: all that the ledger (Ledger) and a cycle (Effect, to be read first) see of it. "The ledger is fed each call's arguments and, of
-- its answer, only whether it was refused and the address that an allocation gave." For cycles and work the events also tell a mark step that answered
-- 0, and a sweep step that answered 0, 0, 0, from the others.
--
-- The calls fall into few kinds, and what is said of events goes by the kind. `event_of` of the crate history (specs/Ledger.antt there) says of what
-- kind each call is.
use Rattle.std.specs.Prelude.{Bool, List, [], ◌∷◌, ℕ, T}
use Rattle.marking.specs.Effect.{Effect, none, setsUp, starts, works, finishes, sweeps, ends}

-- what a call puts in a slot: nil (clear), or what slot j (copy), pointer word f of the record in slot j (load) or global g (load a global) holds
pub data Source : Type 0 where
  nil : Source
  slot : (j : ℕ) → Source
  pointer : (j f : ℕ) → Source
  global : (g : ℕ) → Source

-- what a call writes. reset_stack: stack s is opened (b true) or closed. assign: slot i becomes what v holds. store: pointer word f of the record in
-- slot j becomes slot k. store_global: global g becomes slot i. put: word f of the record in slot j becomes the number v. allocate: a record of p
-- pointer words and n words in all is born at the address a, and slot i names it
pub data Write : Type 0 where
  reset_stack : (s : ℕ) (b : Bool) → Write
  assign : (s i : ℕ) (v : Source) → Write
  store : (s j f k : ℕ) → Write
  store_global : (s g i : ℕ) → Write
  put : (s j f v : ℕ) → Write
  allocate : (s i p n a : ℕ) → Write

-- an accepted call that writes, an accepted get, an accepted scan; or any other call, of which only what it does to a cycle is seen
pub data Event : Type 0 where
  writes : Write → Event
  get : (s j f : ℕ) → Event
  scan_stack : (s : ℕ) → Event
  scan_globals : Event
  acts : Effect → Event

abbrev pub effect : Event → Effect
effect (writes w) = none
effect (get s j f) = none
effect (scan_stack s) = none
effect scan_globals = none
effect (acts c) = c

-- the other calls by name. nothing: a refused call, the audit, and a mark step that finds no gray record; mark_step: one that finds one
abbrev pub nothing : Event
nothing = acts none

abbrev pub setup : Event
setup = acts setsUp

abbrev pub start : Event
start = acts starts

abbrev pub mark_step : Event
mark_step = acts works

abbrev pub finish : Event
finish = acts finishes

abbrev pub sweep_step : Event
sweep_step = acts sweeps

abbrev pub end_cycle : Event
end_cycle = acts ends

-- every event of a list has an effect that passes a test
unfoldable pub Each : (Effect → Bool) → List Event → Type 0
Each test [] = Unit {0}
Each test (e ∷ es) = T (test (effect e)) × Each test es
