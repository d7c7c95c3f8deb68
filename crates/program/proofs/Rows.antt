-- An entry of a row is one of the whole array.
use mathlib.Core.Path.{◌≡◌, sym}
use mathlib.Core.List.{List}
use Prim.Native.Nat.{ℕ, ◌+◌}
use lib.ListN.{get_or, drop}
use lib.Seq as Seq

pub row_at : {A : Type 0} (k : ℕ) (xs : List A) (n : ℕ) (d : A) → get_or xs (k + n) d ≡ get_or (drop k xs) n d
row_at k xs n d = sym (Seq.get_or-drop k xs n d)
