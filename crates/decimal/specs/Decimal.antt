-- Decimal numbers: one digit or more and nothing else, no sign and no blank; leading zeros are fine.
use Rattle.std.specs.Prelude.{Bool, cond, List, [], ◌∷◌, ℕ, ◌+◌, ◌-◌, ◌*◌}
use Rattle.std.proofs.Math.Option.{Option, none, some}
use Rattle.semantics.specs.Bytes.{every, within}

-- the bytes of 0 to 9
unfoldable pub is_digit : ℕ → Bool
is_digit b = within 48 57 b

-- the number that the digits stand for, after digits that stand for n
unfoldable pub value_from : ℕ → List ℕ → ℕ
value_from n [] = n
value_from n (b ∷ s) = value_from (n * 10 + (b - 48)) s

unfoldable pub decimal_in : List ℕ → Option ℕ
decimal_in [] = none
decimal_in (b ∷ s) = cond (every is_digit (b ∷ s)) (some (value_from 0 (b ∷ s))) none
