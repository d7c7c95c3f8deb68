-- An entry's bytes are those of a node number and two targets.
use mathlib.Core.Path.{ap}
use Prim.Native.Nat.{ℕ, ◌+◌, ◌*◌}
use native.Mathlib.Omega.{arith}
use Rattle.edition.specs.Editions.{edition_of}
use Rattle.compiler.proofs.Planning.{entries-short}
use Rattle.compiler.proofs.call.row_bytes.Goals as goal

pub overflow_mul-result : goal.overflow_mul-result
overflow_mul-result c = let a = c.args in
    let e = ap (λ (w : ℕ). a.entries * w) c.entry_bytes.ensures in
    omega (arith, e, entries-short (edition_of a.ed) a.entries c.requires.1)

pub overflow_add-result : goal.overflow_add-result
overflow_add-result c = let a = c.args in
    let e = ap (λ (w : ℕ). a.entries * w) c.entry_bytes.ensures in
    omega (arith, e, c.requires.0, entries-short (edition_of a.ed) a.entries c.requires.1)

pub returns : goal.returns
returns c = let a = c.args in
    let e = ap (λ (w : ℕ). a.entries * w) c.entry_bytes.ensures in
    (ap (λ (n : ℕ). a.locations + n) e, omega (arith, e, c.requires.0, entries-short (edition_of a.ed) a.entries c.requires.1))
