-- The bytes of a record, and the room for all of a run.
use mathlib.Core.Path.{◌≡◌, refl, sym, ap, ◌∙◌}
use mathlib.Core.Bool.{true}
use mathlib.Core.List.{List, [], ◌∷◌, ◌++◌, flat_map, append_assoc, append-nil}
use Prim.Native.Nat.{ℕ, ◌+◌, ◌*◌, ◌≤◌, ◌<◌}
use native.Mathlib.Omega.{arith}
use borrow.Author.Tests.{leb-true}
use lib.IntN.{ℤ, pos}
use lib.ListN.{length, get_or, take}
use lib.Seq.{take-suc}
use native.Mathlib.Numerals.{add-one}
use Rattle.semantics.specs.Bytes.{out4}
use Rattle.semantics.specs.Editions.{Edition}
use Rattle.semantics.specs.Plant.{Plant}
use Rattle.semantics.specs.Run.{value_bytes}
use Rattle.semantics.specs.Calls.{event_count, record_size, room_for_records, report}
use Rattle.semantics.specs.Refusals.{refused}
use Rattle.std.specs.Prelude.{Err}
use Rattle.paper.specs.Refusals.{number_of}
use Rattle.paper.specs.declared.refusals.Refusal.{Refusal}
use Rattle.records.specs.Reported.{ran_with}

-- ---- the values
pub values-more : (vs : List ℤ) (j : ℕ) → j < length vs → flat_map value_bytes (take j vs) ++ value_bytes (get_or vs j (pos 0)) ≡ flat_map value_bytes (take (j + 1) vs)
unfolding flat_map
values-more vs j h = sym (ap (λ (k : ℕ). flat_map value_bytes (take k vs)) (add-one j) ∙ ap (flat_map value_bytes) (take-suc vs j (pos 0) h) ∙ flat-snoc (take j vs) (get_or vs j (pos 0)))
  where
    flat-snoc : (l : List ℤ) (z : ℤ) → flat_map value_bytes (l ++ (z ∷ [])) ≡ flat_map value_bytes l ++ value_bytes z
    flat-snoc [] z = append-nil (value_bytes z)
    flat-snoc (x ∷ l) z = ap (λ (k : List ℕ). value_bytes x ++ k) (flat-snoc l z) ∙ sym (append_assoc (value_bytes x) (flat_map value_bytes l) (value_bytes z))

pub values_length : (l : List ℤ) → length (flat_map value_bytes l) ≡ 4 * length l
unfolding flat_map value_bytes out4
values_length [] = refl
values_length (v ∷ l) = let ih = values_length l in omega arith

-- ---- 22 has left room for the records of all events
pub room_for : (ed : Edition) (p : Plant) (events records : List ℕ) → room_for_records ed p events records ≡ true → event_count ed events * record_size ed p ≤ length records
unfolding room_for_records
room_for ed p events records h = leb-true _ (length records) h

-- ---- a call that is refused
pub run-refused : (why : Refusal) (d : List ℕ) → ran_with (Err why) d ≡ report d (refused (number_of why))
unfolding ran_with report
run-refused why d = refl
