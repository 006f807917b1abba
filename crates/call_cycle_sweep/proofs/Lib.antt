pub mod SweepStep
