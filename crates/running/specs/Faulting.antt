-- The event of a run that faulted, by the first byte of its record: it is answered 203 or 204, and no other answer is above 202.
use Rattle.std.specs.Prelude.{◌≡◌, cond, Option, Some, None, List, ℕ, suc, ◌+◌, ◌*◌, ◌≤◌, ◌<◌, eqb, length, get_or}
use Rattle.running.specs.declared.faults.Fault.{Fault}
use Rattle.running.specs.declared.faults.Side.{Side}
use Rattle.running.specs.declared.faults.Side.TheVariants.{Above, Below}

-- "The answer 203 means above"
abbrev pub side_of : ℕ → Side
side_of answer = cond (eqb answer 203) Above Below

-- the answer in record k, of records of so many bytes
abbrev pub answer_at : List ℕ → ℕ → ℕ → ℕ
answer_at records size k = get_or records (k * size) 0

-- record n as the fault that it tells of
abbrev pub fault_in : List ℕ → ℕ → ℕ → Fault
fault_in records size n = record { number = suc n; side = side_of (answer_at records size n) }

-- none of the whole records tells of a fault; or record n does, and none before it
pub data FirstFault (records : List ℕ) (size : ℕ) (r : Option Fault) : Type 0 where
  no_fault : r ≡ None → ((k : ℕ) → k * size + size ≤ length records → answer_at records size k ≤ 202) → FirstFault records size r
  fault_at : (n : ℕ) → r ≡ Some (fault_in records size n) → 202 < answer_at records size n → n * size + size ≤ length records →
      ((k : ℕ) → k < n → answer_at records size k ≤ 202) → FirstFault records size r
