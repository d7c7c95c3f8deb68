-- What an answer that is a place, or none, says.
use mathlib.Core.Path.{◌≡◌}
use mathlib.Core.Bool.{Bool, true, false}
use mathlib.Core.List.{List}
use Prim.Native.Nat.{ℕ}
use lib.ListN.{drop}
use Rattle.std.specs.Prelude.{Some, None}
use Rattle.semantics.specs.Bytes.{Reader, broken, read}
use Rattle.codec.specs.Reading.{Took}
use Rattle.table_read.specs.Ends.{anything, Ends, ends_at, ends_none, EndsWith, good_at, good_none}

module _ {A : Type 0} {r : Reader A} {s : List ℕ} {p : ℕ} where
  pub ended : {q : ℕ} → Ends r s p (Some q) → Took r anything s p q tt
  ended (ends_at t) = t

  pub not-ended : Ends r s p None → r (drop p s) ≡ broken
  not-ended (ends_none h) = h

module _ {A : Type 0} {r : Reader A} {good : A → Bool} {s : List ℕ} {p : ℕ} where
  pub found : {q : ℕ} → EndsWith r good s p (Some q) → Took r (λ a (x : Unit {0}). good a ≡ true) s p q tt
  found (good_at t) = t

  pub not_found : EndsWith r good s p None → (a : A) (e : List ℕ) → r (drop p s) ≡ read a e → good a ≡ false
  not_found (good_none h) = h
