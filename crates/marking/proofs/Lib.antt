-- How the statements of specs/ are proved: EveryList.every_list is the theorem, from Correct, Exact and Advance.
--
-- An abstract state (Graph, Colours, Operations), in which a record is the number of its birth, has an invariant that every operation keeps (Safety),
-- so that what can be reached is kept; Cycle counts what a cycle frees, Work and Progress what marking has done and has left to do. A heap that
-- represents such a state (Represents) goes on doing so call by call (Simulation, Birth), and with the ledger (Agreement, Refinement). Phases says that
-- every cycle has a finish between its start and its end.
--
-- What a changed call has to supply again is its line in Operations.perform with Safety.perform_keeps and Cycle.cycle_keeps, its represents_.. in
-- Simulation, and its step_.. in Refinement. A call that sets a slot from elsewhere is a constructor of Event.Source: it needs a row of source,
-- heap_source and HasSource (specs/), of Operations.graph_source, Safety.source_closed and source_scanned, and of Refinement.sources.
--
-- Letters: H a heap of words, L a ledger, S a state, G a graph, C colours, B colour bits, E elements, Y a layout, I the invariant, R an agreement.
pub mod Updates
pub mod Effects
pub mod Count
pub mod Closure
pub mod Graph
pub mod Colours
pub mod Operations
pub mod Safety
pub mod Phases
pub mod Cycle
pub mod Work
pub mod Progress
pub mod Represents
pub mod Simulation
pub mod Birth
pub mod Agreement
pub mod Refinement
pub mod Matches
pub mod Freed
pub mod Correct
pub mod Saving
pub mod Exact
pub mod Advance
pub mod EveryList
pub mod Allocated
