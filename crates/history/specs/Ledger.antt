-- The ledger of demand 3, fed by calls: "The ledger is fed each call's arguments and, of its answer, only whether it was refused and the address
-- that an allocation gave." For cycles and work the events also tell a mark step that answered 0, and a sweep step that answered 0, 0, 0, from the
-- others; to the ledger both are the same. Events, and the ledger that they are fed to, are those of the crate marking (specs/Event.antt and
-- Ledger.antt there).
use Rattle.std.specs.Prelude.{ℕ, Bool, true, false, cond, ◌&&◌, get_or, eqb}
use Rattle.marking.specs.Event.{Source, Write, Event}
use Rattle.marking.specs.Event
use Rattle.model.specs.Memory.{Heap, lent}
use Rattle.model.specs.Answers.{numbers, accepted}
use Rattle.model.specs.Classes.{class_of, pages_for, element_words_of}
use Rattle.model.specs.declared.Call.{Call}
use Rattle.model.specs.declared.Call.TheVariants.{Setup, Audit, Start, ScanGlobals, MarkStep, Finish, SweepStep, Open, Close, ScanStack, Clear, Copy, Get, LoadGlobal, StoreGlobal, Allocate, Load, Store, Put}
use Rattle.model.specs.declared.Answer.{Answer}

-- the first value of an answer, and whether its values are 0, 0, 0
abbrev pub first_value : Answer → ℕ
first_value a = get_or (numbers a) 1 0

abbrev pub all_zero : Answer → Bool
all_zero a = eqb (first_value a) 0 && eqb (get_or (numbers a) 2 0) 0 && eqb (get_or (numbers a) 3 0) 0

-- the words "of the element that the size takes"
abbrev pub words_of : ℕ → ℕ
words_of size = element_words_of (class_of size) (pages_for size)

-- the event of an accepted call: what the ledger is fed, and of a mark step or sweep step whether it answered 0
abbrev pub event_of : Call → Answer → Event
event_of Setup a = Event.setup
event_of Audit a = Event.nothing
event_of (Open s) a = Event.writes (Write.reset_stack s true)
event_of (Close s) a = Event.writes (Write.reset_stack s false)
event_of (Allocate s i size p) a = Event.writes (Write.allocate s i p (words_of size) (first_value a))
event_of (Copy s i j) a = Event.writes (Write.assign s i (Source.slot j))
event_of (Clear s i) a = Event.writes (Write.assign s i Source.nil)
event_of (Load s i j f) a = Event.writes (Write.assign s i (Source.pointer j f))
event_of (Store s j f k) a = Event.writes (Write.store s j f k)
event_of (Put s j f v) a = Event.writes (Write.put s j f v)
event_of (Get s j f) a = Event.get s j f
event_of (LoadGlobal s i g) a = Event.writes (Write.assign s i (Source.global g))
event_of (StoreGlobal s g i) a = Event.writes (Write.store_global s g i)
event_of Start a = Event.start
event_of (ScanStack s) a = Event.scan_stack s
event_of ScanGlobals a = Event.scan_globals
event_of MarkStep a = cond (eqb (first_value a) 0) Event.nothing Event.mark_step
event_of Finish a = Event.finish
event_of SweepStep a = cond (all_zero a) Event.end_cycle Event.sweep_step

abbrev pub event : Call → Answer → Event
event c a = cond (accepted a) (event_of c a) Event.nothing

-- the four buffers as a heap of P pages
abbrev pub on_pages : ℕ → Heap → Heap
on_pages P h = lent P h.arena h.table h.bits h.roots
