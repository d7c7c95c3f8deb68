-- Places in a section as places in the file.
use mathlib.Core.Path.{◌≡◌, refl, ◌∙◌}
use Prim.Native.Nat.{ℕ, ◌+◌, ◌^◌, ◌<◌}
use native.Mathlib.Omega.{arith}
use borrow.Author.Tests.{le-leb, lt-leb}
use Rattle.std.specs.Prelude.{Option, Some, None, SomeIff, unwrap_or}
use Rattle.program.specs.Filled.{shifted_by}

shift-over : (by p : ℕ) → 0xffff_ffff_ffff_ffff < p + by → 0 ≡ shifted_by by p
unfolding shifted_by
shift-over by p h = rw (lt-leb (p + by) 0xffff_ffff_ffff_ffff h) refl

pub shift-place : (by p : ℕ) → p + by < 2 ^ 64 → p + by ≡ shifted_by by p
unfolding shifted_by
shift-place by p h = rw (le-leb (p + by) 0xffff_ffff_ffff_ffff (omega arith)) refl

-- a checked sum, or 0
pub shifted : (by p : ℕ) (r : Option ℕ) → SomeIff r (p + by < 2 ^ 64) (p + by) → unwrap_or r 0 ≡ shifted_by by p
shifted by p None h = shift-over by p (omega arith)
shifted by p (Some q) h = h.1 ∙ shift-place by p h.0
