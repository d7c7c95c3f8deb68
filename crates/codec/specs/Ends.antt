-- Where a value ends in the bytes.
use Rattle.std.specs.Prelude.{List, ℕ, ◌+◌, ◌-◌, cond, leb, length, drop, Option, Some, None}
use Rattle.semantics.specs.Bytes.{Read, broken, read, Reader}

-- of so many bytes, what was read and what is left
unfoldable pub end_in : {A : Type 0} → ℕ → Read A → Option ℕ
end_in total broken = None
end_in total (read a rest) = Some (total - length rest)

-- where what r reads at place p of s ends; None where r reads nothing there
unfoldable pub end_of : {A : Type 0} → Reader A → List ℕ → ℕ → Option ℕ
end_of r s p = end_in (length s) (r (drop p s))

-- the place n behind place p of s; None where s ends before it
abbrev pub behind : List ℕ → ℕ → ℕ → Option ℕ
behind s p n = cond (leb (p + n) (length s)) (Some (p + n)) None
