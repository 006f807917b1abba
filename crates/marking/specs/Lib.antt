-- What a collected heap owes to the ledger of its calls, of a heap of words and bits given as functions, with no buffer and no code. Read in this
-- order: Effect (what a call does to a cycle), Event (a call as the ledger and a cycle see it), Ledger (what the calls say of the records), WordHeap
-- (words and bits, and what each call does to them), Trace (lists of calls), and the statements: Claim (`Correct`: demand 3, and the bound on a
-- cycle's work), Survivors (`Exact`: which records a cycle frees), Advance (`Advancing`: each step of a cycle lowers what is left to do), and EveryList,
-- which says of which lists they hold. Updates and Count are small words that they use. Limits, addresses and the counting of numbers are those of the
-- crate model (specs/Memory.antt and Bounded.antt there). The proofs are in proofs/. What stands in quotation marks is the scope document's.
--
-- Letters: H a heap of words, L a ledger, e an event; s or t a stack, i, j, k its slots, g a global, x or y a record, f a word of a record, w or v a
-- word of the arena, a an address.
pub mod Updates
pub mod Effect
pub mod Event
pub mod Count
pub mod Ledger
pub mod WordHeap
pub mod Trace
pub mod Claim
pub mod Survivors
pub mod Advance
pub mod EveryList
