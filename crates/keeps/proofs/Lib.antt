-- Every call keeps the audit, as facts of the definitions of `model` (specs/Facts.antt there) and of nothing else: no theory of marking, no code.
-- Calls has the law, `keeps`, for every call on any audited heap; finish alone needs something besides. Below it:
--
-- Roots (slots, stacks, globals, states), Shaded (stores, scans, mark steps, puts), Tables (page tables that say the same; a new span),
-- Allotted and Allocated (an element is allotted; which one), SweptTable and Swept (a span is swept), Unswept (sweeps come to their
-- end), Beside and Room (what a sweep leaves of the room elsewhere; no room), Fresh (setup), Finished (finish), Refusals (no call's own refusal is 12).
--
-- A changed call supplies its ..-kept again, a new one besides its ..-keeps and its line of `does_keeps`.
pub mod Refusals
pub mod Roots
pub mod Shaded
pub mod Tables
pub mod Allotted
pub mod Allocated
pub mod SweptTable
pub mod Swept
pub mod Unswept
pub mod Beside
pub mod Room
pub mod Fresh
pub mod Finished
pub mod Calls
