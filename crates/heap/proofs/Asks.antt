-- Which calls ask the audit: each but setup.
use mathlib.Core.Bool.{true}
use mathlib.Core.Path.{◌≡◌, refl}
use Rattle.model.specs.Calls.{asks_audit}
use Rattle.model.specs.declared.Call.{Call}
use Rattle.model.specs.declared.Call.TheVariants.{Setup, Audit, Open, Close, Allocate, Copy, Clear, Load, Store, Put, Get, LoadGlobal, StoreGlobal, Start, ScanStack, ScanGlobals, MarkStep, Finish, SweepStep}

pub asks : (c : Call) → (c ≡ Setup → ⊥) → asks_audit c ≡ true
asks Setup other = absurd (other refl)
asks Audit other = refl
asks (Open s) other = refl
asks (Close s) other = refl
asks (Allocate s i size p) other = refl
asks (Copy s i j) other = refl
asks (Clear s i) other = refl
asks (Load s i j f) other = refl
asks (Store s j f k) other = refl
asks (Put s j f v) other = refl
asks (Get s j f) other = refl
asks (LoadGlobal s i g) other = refl
asks (StoreGlobal s g i) other = refl
asks Start other = refl
asks (ScanStack s) other = refl
asks ScanGlobals other = refl
asks MarkStep other = refl
asks Finish other = refl
asks SweepStep other = refl
