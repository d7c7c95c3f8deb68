-- Papers of document 02, item 3: which variables equations drive, whatever their rates, 0 among them.
use mathlib.Core.Path.{◌≡◌, refl}
use mathlib.Core.Bool.{Bool, true, false}
use mathlib.Core.List.{List, [], ◌∷◌}
use Prim.Native.Nat.{ℕ}
use lib.IntN.{ℤ}
use Rattle.semantics.specs.Sections.{Mode, steady, choice}
use Rattle.semantics.specs.Plant.{is_driven_in}
use Rattle.semantics.proofs.Computes.{semantics}

-- a mode with this rate of variable 1, and one without a rate
abbrev rated : ℤ → Mode
rated z = record { rates = record { driven = 1; rate = z } ∷ []; switches = [] }

abbrev unrated : Mode
unrated = record { rates = []; switches = [] }

-- by a CASE of two modes with this initial one
abbrev driven_in : ℕ → Mode → Mode → ℕ → Bool
driven_in m a b v = is_driven_in (choice (record { initial = m; modes = a ∷ b ∷ [] }) ∷ []) v

-- a rate in one mode drives, be it the initial one or not; of no other variable
pub other-mode-drives : (z : ℤ) → (driven_in 0 unrated (rated z) 1 ≡ true) × (driven_in 1 (rated z) unrated 1 ≡ true)
unfolding semantics
other-mode-drives z = (refl, refl)

pub initial-mode-drives : (z : ℤ) → (driven_in 0 (rated z) unrated 1 ≡ true) × (driven_in 1 unrated (rated z) 1 ≡ true) × (driven_in 0 (rated z) (rated z) 0 ≡ false)
unfolding semantics
initial-mode-drives z = (refl, refl, refl)

-- an equation of kind 1 drives the variable that it names, and no other
pub steady-drives : (z : ℤ) → (is_driven_in (steady (record { driven = 1; rate = z }) ∷ []) 1 ≡ true) × (is_driven_in (steady (record { driven = 1; rate = z }) ∷ []) 0 ≡ false)
unfolding semantics
steady-drives z = (refl, refl)

-- a switch drives nothing, whatever its truth names
pub switch-drives-nothing : (t : List ℕ) (v : ℕ) → is_driven_in (choice (record { initial = 0; modes = record { rates = []; switches = record { target = 0; truth = t } ∷ [] } ∷ [] }) ∷ []) v ≡ false
unfolding semantics
switch-drives-nothing t v = refl

-- each of several equations drives
pub second-equation-drives : (y z : ℤ) → is_driven_in (steady (record { driven = 0; rate = y }) ∷ steady (record { driven = 1; rate = z }) ∷ []) 1 ≡ true
unfolding semantics
second-equation-drives y z = refl
