-- Demand 3 over the definitions of model: Ledger (calls as the ledger sees them), Demand (the claim), Beyond (what is claimed besides), Implementation
-- (what that says of a program whose calls meet their contracts).
pub mod Ledger
pub mod Demand
pub mod Beyond
pub mod Implementation
