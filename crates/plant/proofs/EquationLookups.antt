-- The mode that stands at a place.
use mathlib.Core.Path.{◌≡◌, refl}
use mathlib.Core.List.{List}
use Prim.Native.Nat.{ℕ}
use Rattle.semantics.specs.Sections.{read_mode}
use Rattle.plant.specs.Equations.{Stands, mode_at}

pub mode-is : (s : List ℕ) (q : ℕ) (t : Stands read_mode s q) → mode_at s q ≡ t.value
unfolding mode_at
mode-is s q t = rw (t.got, mode_at) refl
