-- The calls with their numbers, what each does with the memory that it is lent, and lists of calls.
use Rattle.std.specs.Prelude.{ℕ, Bool, true, false, not, List, [], ◌∷◌, ◌==◌, if◌then◌else◌}
use Rattle.model.specs.Memory.{Heap, lent}
use Rattle.model.specs.Answers.{Outcome, outcome, damaged, ◌given◌, ◌or_else◌}
use Rattle.model.specs.Checks.{buffers_refusal}
use Rattle.model.specs.Audit.{audit}
use Rattle.model.specs.Allocate.{allocate, allocate_sweeps}
use Rattle.model.specs.Records.{setup, open_stack, close_stack, copy, clear, load, store, put, get, load_global, store_global}
use Rattle.model.specs.Cycle.{start, scan_stack, scan_globals, mark_step, finish, sweep_step}
use Rattle.model.specs.declared.Answer.{Answer}
use Rattle.model.specs.declared.Answer.TheVariants.{Done}
use Rattle.model.specs.declared.Call.{Call}
use Rattle.model.specs.declared.Call.TheVariants.{Setup, Audit, Open, Close, Allocate, Copy, Clear, Load, Store, Put, Get, LoadGlobal, StoreGlobal, Start, ScanStack, ScanGlobals, MarkStep, Finish, SweepStep}

-- "Every call after setup asks the audit first."; "(not asked by setup)"
abbrev pub asks_audit : Call → Bool
asks_audit Setup = false
asks_audit Audit = true
asks_audit (Open s) = true
asks_audit (Close s) = true
asks_audit (Allocate s i size p) = true
asks_audit (Copy s i j) = true
asks_audit (Clear s i) = true
asks_audit (Load s i j f) = true
asks_audit (Store s j f k) = true
asks_audit (Put s j f v) = true
asks_audit (Get s j f) = true
asks_audit (LoadGlobal s i g) = true
asks_audit (StoreGlobal s g i) = true
asks_audit Start = true
asks_audit (ScanStack s) = true
asks_audit ScanGlobals = true
asks_audit MarkStep = true
asks_audit Finish = true
asks_audit SweepStep = true

-- 1, then 12: "the audit below says no"
unfoldable pub entry : Heap → ℕ
entry h = buffers_refusal h or_else damaged given not (audit h)

-- the refusal that is tested before all that a call does: 1, and for a call that asks the audit 12 after it
abbrev pub entry_refusal : Heap → Call → ℕ
entry_refusal h c = if asks_audit c then entry h else buffers_refusal h

-- what a call does with a heap that has passed its entry. "The audit is also a call: refusal 1, refusal 12 for no, or accepted with 0.": past the entry
-- nothing is left to do
abbrev pub does : Heap → Call → Outcome
does h Setup = setup h
does h Audit = record { answer = Done; heap = h }
does h (Open s) = open_stack h s
does h (Close s) = close_stack h s
does h (Allocate s i size p) = allocate h s i size p
does h (Copy s i j) = copy h s i j
does h (Clear s i) = clear h s i
does h (Load s i j f) = load h s i j f
does h (Store s j f k) = store h s j f k
does h (Put s j f v) = put h s j f v
does h (Get s j f) = get h s j f
does h (LoadGlobal s i g) = load_global h s i g
does h (StoreGlobal s g i) = store_global h s g i
does h Start = start h
does h (ScanStack s) = scan_stack h s
does h ScanGlobals = scan_globals h
does h MarkStep = mark_step h
does h Finish = finish h
does h SweepStep = sweep_step h

-- a call on the heap that it is lent: its entry, then what it does
abbrev pub run : Heap → Call → Outcome
run h c = outcome (entry_refusal h c) h (does h c).answer (does h c).heap

-- a call as it is made: P and what is asked
pub record Request : Type 0 where
  pub pages : ℕ
  pub call : Call

-- one call on the four buffers
abbrev pub step : Heap → Request → Outcome
step h r = run (lent r.pages h.arena h.table h.bits h.roots) r.call

-- A call goes by stages: each sweep inside it leaves a heap, and then the call leaves the heap at its end. The heaps after the sweeps inside a call,
-- in order: an allocation's, once its entry has let it in; a sweep step is a call of its own. What demand 3 counts as freed reads these heaps; each is
-- the one before it with one unswept span swept (crate history, Beyond), and an allocation goes on from the last of them.
unfoldable pub sweeps_in : Heap → Call → List Heap
sweeps_in h Setup = []
sweeps_in h Audit = []
sweeps_in h (Open s) = []
sweeps_in h (Close s) = []
sweeps_in h (Allocate s i size p) = if entry h == 0 then allocate_sweeps h s i size p else []
sweeps_in h (Copy s i j) = []
sweeps_in h (Clear s i) = []
sweeps_in h (Load s i j f) = []
sweeps_in h (Store s j f k) = []
sweeps_in h (Put s j f v) = []
sweeps_in h (Get s j f) = []
sweeps_in h (LoadGlobal s i g) = []
sweeps_in h (StoreGlobal s g i) = []
sweeps_in h Start = []
sweeps_in h (ScanStack s) = []
sweeps_in h ScanGlobals = []
sweeps_in h MarkStep = []
sweeps_in h Finish = []
sweeps_in h SweepStep = []

-- .. of a call as it is made
abbrev pub sweeps_of : Heap → Request → List Heap
sweeps_of h r = sweeps_in (lent r.pages h.arena h.table h.bits h.roots) r.call

-- a list of calls, each on the buffers as the last one left them: the answers
unfoldable pub answers : Heap → List Request → List Answer
answers h [] = []
answers h (r ∷ rs) =
    let o = step h r in
    o.answer ∷ answers o.heap rs

-- .. and the heap at the end
unfoldable pub after : Heap → List Request → Heap
after h [] = h
after h (r ∷ rs) = after (step h r).heap rs
