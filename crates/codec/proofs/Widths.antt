-- A number of a width that is known: for the arms of a match on the edition.
use mathlib.Core.Path.{◌≡◌, sym, ap, subst}
use mathlib.Core.List.{List, [], ◌∷◌}
use Prim.Native.Nat.{ℕ, ◌+◌, ◌<◌}
use native.Mathlib.Omega.{arith}
use lib.ListN.{get_or}
use Rattle.semantics.specs.Bytes.{be2, Width, one_byte, two_bytes, out, out2}
use Rattle.semantics.specs.Editions.{capacity}
use Rattle.codec.specs.Numbers.{number_at}

module _ {w : Width} (q : w ≡ one_byte) where
  pub number-one : (s : List ℕ) (p : ℕ) → get_or s p 0 ≡ number_at w s p
  unfolding number_at
  number-one s p = sym (ap (λ z. number_at z s p) q)

  pub fits-one : (n : ℕ) → n < capacity w → n < 256
  fits-one n h = subst (λ z. n < capacity z) q h

  pub out-one : (n : ℕ) → n ∷ [] ≡ out w n
  unfolding out
  out-one n = sym (ap (λ z. out z n) q)

-- of bytes
pub number_small : (w : Width) (s : List ℕ) (p : ℕ) → ((i : ℕ) → get_or s i 0 < 256) → number_at w s p < 65536
unfolding number_at be2
number_small one_byte s p h = omega (arith, h p)
number_small two_bytes s p h = omega (arith, h p, h (p + 1))

module _ {w : Width} (q : w ≡ two_bytes) where
  pub number-two : (s : List ℕ) (p : ℕ) → be2 (get_or s p 0) (get_or s (p + 1) 0) ≡ number_at w s p
  unfolding number_at
  number-two s p = sym (ap (λ z. number_at z s p) q)

  pub fits-two : (n : ℕ) → n < capacity w → n < 65536
  fits-two n h = subst (λ z. n < capacity z) q h

  pub out-two : (n : ℕ) → out2 n ≡ out w n
  unfolding out
  out-two n = sym (ap (λ z. out z n) q)
