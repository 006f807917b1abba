-- The definitions of the scope document, in its order, each under the sentence that it renders. Read Memory first (buffers, limits, offsets,
-- addresses), then Answers, Classes, Spans, Checks, Allocate, Shading, Records, Cycle, Audit and Calls, whose `run` is what a call does with
-- the memory that it is lent. Bounded and Bitmaps have the small words that all of them use: look there when one stops you. Facts says the audit again as
-- facts; Refusals has the refusals as the code's enum; Room says in the words of request [2] when there is no room; Lent and Promises are what functions require and promise of the buffers that they are lent; Cases is the table of proved cases.
pub mod Bounded
pub mod Memory
pub mod Bitmaps
pub mod Answers
pub mod Classes
pub mod Spans
pub mod Checks
pub mod Allocate
pub mod Shading
pub mod Records
pub mod Refusals
pub mod Cycle
pub mod Audit
pub mod Facts
pub mod Lent
pub mod Room
pub mod Calls
pub mod Promises
pub mod Cases
