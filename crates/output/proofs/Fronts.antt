-- How many bytes of records there are.
use mathlib.Core.Path.{◌≡◌, refl, sym, ◌∙◌}
use mathlib.Core.Bool.{true, false}
use Prim.Native.Nat.{ℕ, ◌*◌, ◌/◌, ◌≤◌, ◌<◌}
use Rattle.std.proofs.Common.{Some, None, ◌⊎◌, arith}
use Rattle.std.proofs.lemmas.Bool.Decides.{nat_tests}
use Rattle.semantics.specs.Editions.{Edition}
use Rattle.semantics.proofs.Facts.{true-not-false}
use Rattle.semantics.specs.Calls.{event_count, record_length_of, record_size}
use Rattle.output.specs.Written.{in_room, RecordsTake}

-- ---- one law for each return; n is what the code has for an event's bytes
module _ (ed : Edition) (e v s : ℕ) {n : ℕ} (b : n ≡ ed.event_bytes) where
  no_room : (10000 * n < e) ⊎ ((e ≤ 10000 * n) × (32 < v) ⊎ (e ≤ 10000 * n) × (v ≤ 32) × (16 < s)) → in_room ed e v s ≡ false
  unfolding in_room
  no_room h = rw (← b) (grind (arith, nat_tests))

  in-room : e ≤ 10000 * n → v ≤ 32 → s ≤ 16 → in_room ed e v s ≡ true
  unfolding in_room
  in-room h i j = rw (← b) (grind (arith, nat_tests))

  pub none-taken : (10000 * n < e) ⊎ ((e ≤ 10000 * n) × (32 < v) ⊎ (e ≤ 10000 * n) × (v ≤ 32) × (16 < s)) → RecordsTake ed e v s None
  none-taken h = record { all = λ t. true-not-false (sym t ∙ no_room h); none = λ f. refl }

  pub records-are : e ≤ 10000 * n → v ≤ 32 → s ≤ 16 → {size : ℕ} → size ≡ record_length_of ed v s → RecordsTake ed e v s (Some (e / n * size))
  unfolding event_count record_size
  records-are h i j k = record {
    all = λ t p events x y z. rw (x, y, z, k, b) refl;
    none = λ f. true-not-false (sym (in-room h i j) ∙ f);
  }
