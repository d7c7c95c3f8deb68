-- Readers that take a fixed number of bytes.
use mathlib.Core.Path.{◌≡◌, ap}
use mathlib.Core.List.{List, []}
use Prim.Native.Nat.{ℕ, zero, suc, ◌+◌, ◌*◌}
use native.Mathlib.Nat.{zero-mul, suc-mul}
use native.Mathlib.Omega.{arith}
use lib.ListN.{length}
use Rattle.semantics.specs.Bytes.{be4, signed, Reader, read, ◌>>=◌, give, byte, nat4, int4, times}
use Rattle.semantics.proofs.Readers.{split, given-rest, byte-read}
use Rattle.codec.proofs.Known.{cons}

pub record Costs {A : Type 0} (r : Reader A) (k : ℕ) : Type 0 where
  pub spent : (l : List ℕ) {a : A} {e : List ℕ} → r l ≡ read a e → length l ≡ k + length e

pub costs-give : {A : Type 0} (a : A) → Costs (give a) 0
costs-give a = record { spent = λ l h. let e = ap length (given-rest a l h) in omega arith }

pub costs-byte : Costs byte 1
costs-byte = record { spent = λ l h. let e = ap length (byte-read l h) in omega arith }

pub costs-then : {A B : Type 0} {r : Reader A} {f : A → Reader B} {j k : ℕ} → Costs r j → ((a : A) → Costs (f a) k) → Costs (r >>= f) (j + k)
costs-then {r = r} {f = f} c d = record { spent = λ l h. let t = split r f h in omega (arith, c.spent l t.first, (d t.value).spent t.rest t.then) }

pub costs-nat4 : Costs nat4 4
unfolding nat4
costs-nat4 = costs-then costs-byte (λ a. costs-then costs-byte (λ b. costs-then costs-byte (λ c. costs-then costs-byte (λ d. costs-give (be4 a b c d)))))

pub costs-int4 : Costs int4 4
unfolding int4
costs-int4 = costs-then costs-nat4 (λ n. costs-give (signed n))

pub costs-times : {A : Type 0} {r : Reader A} {k : ℕ} (n : ℕ) → Costs r k → Costs (times n r) (n * k)
unfolding times
costs-times {r = r} {k = k} zero c = record { spent = λ l h. let e = ap length (given-rest [] l h) in let m = zero-mul k in omega arith }
costs-times {r = r} {k = k} (suc n) c = record { spent = λ l h. let t = cons r n h in let m = suc-mul n k in omega (arith, c.spent l t.first, (costs-times n c).spent t.mid t.rest) }
