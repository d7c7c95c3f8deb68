-- Arrays that begin with a list.
use Rattle.std.specs.Prelude.{List, ◌++◌, ℕ, ◌-◌, length, replicate}

-- an array of n entries: the list, and d behind it
unfoldable pub pad : {A : Type 0} → ℕ → A → List A → List A
pad n d l = l ++ replicate (n - length l) d
