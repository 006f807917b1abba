-- How demand 3 is proved of the definitions. A reader of the claim needs specs/ alone.
--
-- The view of the four buffers as the theory's heap of functions, and each call seen as the theory's: View, ViewShaded, ViewAllotted, Finished, Fresh.
--
-- A call comes to a step of the theory (Steps, RecordCalls, CycleCalls) and keeps the audit (crate keeps). Stages: the sweeps inside a call, and the
-- call, as steps; where a list of stages is cut; every cycle has a finish. Runs: a request with a P of its own, and the sweeps inside it. Refused: which
-- words a refused call leaves alone. Lists, Progress (a cycle can be brought to its end), Theorem (demand_3), Implementations (of programs that meet the
-- contracts).
--
-- What a changed call has to supply again: its .._view and its .._happens; a new call besides its clause of `event_of` (specs/Ledger.antt) and of
-- `called` (Runs), and its step in the theory.
pub mod View
pub mod ViewShaded
pub mod Finished
pub mod Fresh
pub mod ViewAllotted
pub mod Steps
pub mod RecordCalls
pub mod CycleCalls
pub mod Stages
pub mod Runs
pub mod Refused
pub mod Lists
pub mod Progress
pub mod Theorem
pub mod Implementations
