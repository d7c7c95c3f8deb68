-- Numbers whose width the edition gives, by position.
use Rattle.std.specs.Prelude.{List, ℕ, ◌+◌, get_or}
use Rattle.semantics.specs.Bytes.{be2, Width, one_byte, two_bytes, width_of}
use Rattle.semantics.specs.Editions.{Edition}

-- the number of this width at place p
unfoldable pub number_at : Width → List ℕ → ℕ → ℕ
number_at one_byte s p = get_or s p 0
number_at two_bytes s p = be2 (get_or s p 0) (get_or s (p + 1) 0)

-- the same of an edition: the bytes of such a number, and the number at place p
abbrev pub wide : Edition → ℕ
wide ed = width_of ed.width

abbrev pub num_at : Edition → List ℕ → ℕ → ℕ
num_at ed s p = number_at ed.width s p
