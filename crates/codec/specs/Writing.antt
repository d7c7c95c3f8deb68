-- What code that writes bytes into a lent buffer leaves there.
use Rattle.std.specs.Prelude.{◌≡◌, List, ◌++◌, ℕ, ◌+◌, length, take, drop}

-- d with bs written over it from place i on
unfoldable pub put : List ℕ → ℕ → List ℕ → List ℕ
put d i bs = take i d ++ (bs ++ drop (i + length bs) d)

-- e is that
pub record Wrote (d : List ℕ) (i : ℕ) (bs e : List ℕ) : Type 0 where
  pub is : e ≡ put d i bs
