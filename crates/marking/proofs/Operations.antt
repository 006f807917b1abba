-- The calls on the abstract heap: what each may assume and what it does. A load, store or scan of the globals is a load, store or
-- marking at node 0.
use mathlib.Core.Path.{◌≡◌}
use mathlib.Core.Bool.{Bool, true, false, not, cond}
use mathlib.Core.List.{List, [], ◌∷◌}
use Prim.Native.Nat.{ℕ, ◌+◌, ◌<◌}
use lib.Dec.{T, eqb}
use Rattle.marking.specs.Updates.{update}
use Rattle.marking.specs.WordHeap.{Phase, off, mark, sweep, marking}
use Rattle.marking.specs.Effect.{Effect, none, setsUp, starts, works, finishes, sweeps, ends, turned_off}
use Rattle.marking.specs.Event.{Source}
use Rattle.model.specs.Memory.{slot_count, global_count}
use Rattle.marking.proofs.Graph.{Graph, set_slot, set_field, empty_stack, birth}
use Rattle.marking.proofs.Colours.{Colours, Marked, shade, shade_all, ungray, set_gray_stack, blacken}

-- The abstract heap. A record is kept unless the sweep will free it: a finish keeps what is marked, and in any other phase all that is
-- allocated is kept.
pub record State : Type 0 where
  pub graph : Graph
  pub colours : Colours
  pub phase : Phase
  pub allocated : ℕ → Bool
  pub kept : ℕ → Bool

-- what a stack holds: nil (which is the globals too), or what is in a slot
pub data Held (G : Graph) (t : ℕ) : ℕ → Type 0 where
  nil : Held G t 0
  slot : (j : ℕ) → Held G t (G.slot t j)

-- what a source of stack t holds
abbrev pub graph_source : Graph → ℕ → Source → ℕ
graph_source G t Source.nil = 0
graph_source G t (Source.slot j) = G.slot t j
graph_source G t (Source.pointer j f) = G.field (G.slot t j) f
graph_source G t (Source.global g) = G.field 0 g

-- idle: a call that changes nothing here. assign: slot i of stack t becomes what v holds. store: field f of node x becomes v. reset_stack: stack t is opened (b
-- true) or closed. allocate: a record of p pointer fields is born into a slot. sweep_step: the records of q are swept
pub data Operation : Type 0 where
  idle setup : Operation
  assign : (t i : ℕ) (v : Source) → Operation
  store : (t x f v : ℕ) → Operation
  reset_stack : (t : ℕ) (b : Bool) → Operation
  allocate : (t i p : ℕ) → Operation
  start finish end_cycle scan_globals : Operation
  scan_stack : (t : ℕ) → Operation
  mark_step : (x : ℕ) → Operation
  sweep_step : (q : ℕ → Bool) → Operation

-- what a call may assume
abbrev pub Allowed : Operation → State → Type 0
Allowed idle S = Unit {0}
Allowed setup S = Unit {0}
Allowed (assign t i v) S = (i < slot_count) × T (S.graph.opened t)
Allowed (store t x f v) S = Held S.graph t x × Held S.graph t v × (f < S.graph.pointers x)
Allowed (reset_stack t b) S = Unit {0}
Allowed (allocate t i p) S = (i < slot_count) × T (S.graph.opened t)
Allowed start S = S.phase ≡ off
Allowed finish S = (S.phase ≡ mark) × ((x : ℕ) → Marked S.colours x → T (not (S.colours.gray x))) ×
    ((t : ℕ) → T (not (S.colours.gray_stack t)))
Allowed end_cycle S = (S.phase ≡ sweep) × ((x : ℕ) → T (S.allocated x) → T (S.kept x))
Allowed (scan_stack t) S = S.phase ≡ mark
Allowed scan_globals S = S.phase ≡ mark
Allowed (mark_step x) S = (S.phase ≡ mark) × (0 < x) × T (S.colours.gray x)
Allowed (sweep_step q) S = S.phase ≡ sweep

-- the colours outside the mark phase
abbrev pub uncoloured : Colours
uncoloured = record { marked = λ x. eqb x 0; gray = λ x. eqb x 0; gray_stack = λ t. false }

-- after a setup
abbrev pub initial : State
initial = record {
  graph = record { born = 1; pointers = λ x. cond (eqb x 0) global_count 0; field = λ x f. 0; slot = λ t i. 0; opened = λ t. false };
  colours = uncoloured;
  phase = off;
  allocated = λ x. eqb x 0;
  kept = λ x. eqb x 0;
}

-- parts changed
abbrev pub with_graph : Graph → State → State
with_graph G S = record { graph = G; colours = S.colours; phase = S.phase; allocated = S.allocated; kept = S.kept }

abbrev pub recoloured : Phase → Colours → State → State
recoloured p C S = record { graph = S.graph; colours = C; phase = p; allocated = S.allocated; kept = S.kept }

-- in the mark phase a store shades the old value, then the new
abbrev pub barrier : State → ℕ → ℕ → Colours
barrier S o v = cond (marking S.phase) (shade S.graph v (shade S.graph o S.colours)) S.colours

-- in the mark phase a record is born black
abbrev pub birth_colours : State → Colours
birth_colours S = cond (marking S.phase) (blacken S.graph.born S.colours) S.colours

-- the slots of stack t are shaded, and it is gray no more
abbrev pub scan_colours : State → ℕ → Colours
scan_colours S t = set_gray_stack t false (shade_all S.graph (S.graph.slot t) slot_count S.colours)

-- the fields of node x are shaded, and it is gray no more
unfoldable pub mark_at : ℕ → State → State
mark_at x S = recoloured S.phase (shade_all S.graph (S.graph.field x) (S.graph.pointers x) (ungray x S.colours)) S

-- what a call does
unfoldable pub perform : Operation → State → State
perform idle S = S
perform setup S = initial
perform (assign t i v) S = with_graph (set_slot t i (graph_source S.graph t v) S.graph) S
perform (store t x f v) S = with_graph (set_field x f v S.graph) (recoloured S.phase (barrier S (S.graph.field x f) v) S)
perform (reset_stack t b) S = with_graph (empty_stack t b S.graph) (recoloured S.phase (set_gray_stack t false S.colours) S)
perform (allocate t i p) S = record {
  graph = set_slot t i S.graph.born (birth p S.graph);
  colours = birth_colours S;
  phase = S.phase;
  allocated = update S.allocated S.graph.born true;
  kept = update S.kept S.graph.born true;
}
perform start S = recoloured mark (record { marked = λ x. eqb x 0; gray = λ x. eqb x 0; gray_stack = S.graph.opened }) S
perform finish S = record { graph = S.graph; colours = uncoloured; phase = sweep; allocated = S.allocated; kept = S.colours.marked }
perform end_cycle S = recoloured off S.colours S
perform (scan_stack t) S = recoloured S.phase (scan_colours S t) S
perform scan_globals S = mark_at 0 S
perform (mark_step x) S = mark_at x S
perform (sweep_step q) S = record {
  graph = S.graph;
  colours = S.colours;
  phase = S.phase;
  allocated = λ x. cond (q x) (S.kept x) (S.allocated x);
  kept = S.kept;
}

-- a list of calls
unfoldable pub perform_all : List Operation → State → State
perform_all [] S = S
perform_all (c ∷ cs) S = perform_all cs (perform c S)

unfoldable pub AllAllowed : List Operation → State → Type 0
AllAllowed [] S = Unit {0}
AllAllowed (c ∷ cs) S = Allowed c S × AllAllowed cs (perform c S)

-- what a call does to a cycle
abbrev pub operation_effect : Operation → Effect
operation_effect idle = none
operation_effect setup = setsUp
operation_effect (assign t i v) = none
operation_effect (store t x f v) = none
operation_effect (reset_stack t b) = none
operation_effect (allocate t i p) = none
operation_effect start = starts
operation_effect finish = finishes
operation_effect end_cycle = ends
operation_effect (scan_stack t) = none
operation_effect scan_globals = none
operation_effect (mark_step x) = works
operation_effect (sweep_step q) = sweeps

-- every call of a list has an effect that passes a test
unfoldable pub EachOperation : (Effect → Bool) → List Operation → Type 0
EachOperation test [] = Unit {0}
EachOperation test (c ∷ cs) = T (test (operation_effect c)) × EachOperation test cs

-- how often a call frees the record x, and how often a list does
abbrev pub freed_by : ℕ → Operation → State → ℕ
freed_by x c S = turned_off (operation_effect c) (S.allocated x) ((perform c S).allocated x)

unfoldable pub freed_by_all : ℕ → List Operation → State → ℕ
freed_by_all x [] S = 0
freed_by_all x (c ∷ cs) S = freed_by x c S + freed_by_all x cs (perform c S)
