-- Arguments by hand.
use mathlib.Core.Path.{◌≡◌, refl}
use mathlib.Core.List.{[], ◌∷◌}
use mathlib.Core.Option.{none, some}
use Rattle.semantics.specs.Bytes.{every, within}
use Rattle.decimal.specs.Decimal.{is_digit, value_from, decimal_in}

-- 0042
zeros-first : decimal_in (48 ∷ 48 ∷ 52 ∷ 50 ∷ []) ≡ some 42
unfolding is_digit value_from decimal_in every within
zeros-first = refl

-- 90
nine-first : decimal_in (57 ∷ 48 ∷ []) ≡ some 90
unfolding is_digit value_from decimal_in every within
nine-first = refl

-- +1
signed : decimal_in (43 ∷ 49 ∷ []) ≡ none
unfolding is_digit value_from decimal_in every within
signed = refl

-- 1 and a blank
blank-last : decimal_in (49 ∷ 32 ∷ []) ≡ none
unfolding is_digit value_from decimal_in every within
blank-last = refl

empty : decimal_in [] ≡ none
unfolding decimal_in
empty = refl
