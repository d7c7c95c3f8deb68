-- A walk over records: those that it has passed tell of no fault.
use mathlib.Core.Path.{◌≡◌, ap, subst, ◌∙◌}
use mathlib.Core.List.{List}
use Prim.Native.Nat.{ℕ, ◌*◌, ◌/◌, ◌<◌}
use native.Mathlib.Nat.{mul-div_cancel_left}
use Rattle.std.proofs.Common.{Option}
use Rattle.running.specs.Faulting.{FirstFault}
use Rattle.running.specs.declared.faults.Fault.{Fault}

-- ---- the size of a record, from the length of so many
-- so many records of one size, and their length: the quotient is the size
pub sized : (count size l : ℕ) → 0 < count → l ≡ count * size → l / count ≡ size
sized count size l h e = ap (λ n. n / count) e ∙ mul-div_cancel_left size h

pub resized : {records : List ℕ} {m n : ℕ} {r : Option Fault} → m ≡ n → FirstFault records m r → FirstFault records n r
resized {records} {r = r} e f = subst (λ n. FirstFault records n r) e f
