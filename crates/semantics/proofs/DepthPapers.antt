-- K10: the depth of 12, for every edition and number of variables.
use mathlib.Core.Path.{◌≡◌, refl}
use mathlib.Core.List.{[], ◌∷◌, ◌++◌}
use mathlib.Core.Option.{none, some}
use Prim.Native.Nat.{ℕ, zero, suc}
use lib.ListN.{replicate}
use Rattle.semantics.specs.Editions.{Edition}
use Rattle.semantics.specs.Expressions.{Truth, opposite, always, truth_in}
use Rattle.semantics.proofs.Computes.{semantics}

-- so many nots over true
abbrev nots : ℕ → Truth
nots zero = always
nots (suc n) = opposite (nots n)

pub K10-taken : (ed : Edition) (v : ℕ) → truth_in ed v (replicate 15 0x2a ++ (0x2f ∷ [])) ≡ some (nots 15)
unfolding semantics
K10-taken ed v = refl

pub K10-none : (ed : Edition) (v : ℕ) → truth_in ed v (replicate 16 0x2a ++ (0x2f ∷ [])) ≡ none
unfolding semantics
K10-none ed v = refl
