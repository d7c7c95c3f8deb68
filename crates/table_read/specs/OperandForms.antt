-- The operands of a table's actions, node by node.
use Rattle.std.specs.Prelude.{◌≡◌, Bool, true, List, ℕ, length}
use Rattle.std.proofs.Math.Option.{Option, none, some}
use Rattle.semantics.specs.Editions.{Edition}
use Rattle.semantics.specs.Sections.{Selector}
use Rattle.semantics.specs.Plant.{Plant, selectors}
use Rattle.semantics.specs.Run.{Action}
use Rattle.semantics.specs.TableFile.{NodeAction, actions_in}
use Rattle.semantics.specs.Tables.{operand_fits, operands_fit}
use Rattle.plant.specs.ModeCounts.{ModesAt}

-- 18: "or operand wrong (.. 11 and 12 judge operands)", of a node that may have no action
unfoldable pub fits_here : Edition → ℕ → List Selector → Option Action → Bool
fits_here ed variables cs none = true
fits_here ed variables cs (some a) = operand_fits ed variables cs a

-- r is what 18 says of the operands in the action section s, for a plant of so many variables and selectors with these mode counts
abbrev pub AllFit : Edition → List ℕ → ℕ → ℕ → List ℕ → Bool → Type 0
AllFit ed s variables cases counts r =
    (p : Plant) → variables ≡ length p.variables → ModesAt counts cases (selectors p) → (l : List NodeAction) → actions_in ed s ≡ some l → r ≡ operands_fit ed p l
