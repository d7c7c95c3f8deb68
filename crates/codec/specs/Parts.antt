-- A part of the bytes, by the places where it starts and ends.
use Rattle.std.specs.Prelude.{List, ℕ, ◌-◌, get_or, take, drop}

-- what `&s[a..b]` lends
abbrev pub between : ℕ → ℕ → List ℕ → List ℕ
between a b s = take (b - a) (drop a s)

-- part n of those whose places stand in two arrays
abbrev pub part_at : List ℕ → (starts ends : List ℕ) → ℕ → List ℕ
part_at s starts ends n = between (get_or starts n 0) (get_or ends n 0) s
