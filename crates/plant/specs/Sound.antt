-- What is known of an equation section that 6 lets pass.
use Rattle.std.specs.Prelude.{◌≡◌, List, ℕ, ◌≤◌, length, drop}
use Rattle.std.proofs.Math.Option.{Option, some}
use Rattle.semantics.specs.Bytes.{Reader, read}

-- there is something
pub record There {A : Type 0} (o : Option A) : Type 0 where
  pub value : A
  pub is : o ≡ some value

-- r reads something at place p of s
pub record Sound {A : Type 0} (r : Reader A) (s : List ℕ) (p : ℕ) : Type 0 where
  pub value : A
  pub end : List ℕ
  pub got : r (drop p s) ≡ read value end
  pub inside : p ≤ length s
