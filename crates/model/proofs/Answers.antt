-- What a function's answer says, where its contract is `T answer ↔ fact`, after a test `if !answer`.
use mathlib.Core.Bool.{Bool, true, false, true≢false}
use mathlib.Core.Logic.{◌↔◌}
use mathlib.Core.Path.{◌≡◌, sym}
use lib.Dec.{T}

pub yes : {A : Type 0} (b : Bool) → T b ↔ A → b ≡ true → A
yes true f e = f.0 tt
yes false f e = absurd (true≢false (sym e))

pub no : {A : Type 0} (b : Bool) → T b ↔ A → b ≡ false → A → ⊥
no true f e x = true≢false e
no false f e x = f.1 x
