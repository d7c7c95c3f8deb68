-- Document 01, "Residuals and moves": "Take locations in number order, acting nodes rising, the target on done or true before that on false; a residual not met yet
-- takes the next number.", as a relation between the ways that lead to two locations. No list of targets stands in it.
use Rattle.std.specs.Prelude.{◌≡◌, Bool, true, false, ◌⊎◌, List, ℕ, ◌<◌, length}
use Rattle.std.proofs.Math.Option.{some}
use Rattle.std.proofs.Math.ListN.{get_elem?}
use Rattle.semantics.specs.Run.{to}
use Rattle.schedules.specs.Residuals.{Residual}
use Rattle.schedules.specs.MoveRules.{MoveRule}

-- a move: the location where it starts, the node that makes it, and its outcome, true also for done
pub record Way : Type 0 where
  pub location : ℕ
  pub node : ℕ
  pub outcome : Bool

-- "Take locations in number order, acting nodes rising, the target on done or true before that on false"
pub data Sooner : Way → Way → Type 0 where
  lower_location : {i j n m : ℕ} {b c : Bool} → i < j → Sooner (record { location = i; node = n; outcome = b }) (record { location = j; node = m; outcome = c })
  lower_node : {i n m : ℕ} {b c : Bool} → n < m → Sooner (record { location = i; node = n; outcome = b }) (record { location = i; node = m; outcome = c })
  true_before_false : {i n : ℕ} → Sooner (record { location = i; node = n; outcome = true }) (record { location = i; node = n; outcome = false })

module _ (tests : ℕ → Bool) (l : List Residual) where
  -- this move leads to location k
  pub record Arrives (w : Way) (k : ℕ) : Type 0 where
    pub from : Residual
    pub is-from : get_elem? l w.location ≡ some from
    pub target : Residual
    pub is-target : get_elem? l k ≡ some target
    pub can : (w.outcome ≡ true) ⊎ (tests w.node ≡ true)
    pub leads : MoveRule from w.node w.outcome (to target)

  -- "a residual not met yet takes the next number": a lower number is met sooner, the fresh root left aside
  pub record NumberedInOrder : Type 0 where
    pub arrived : (k : ℕ) → 0 < k → k < length l → (w : Way) × Arrives w k
    pub sooner : (h k : ℕ) → 0 < h → h < k → (w : Way) → Arrives w k → (v : Way) × Arrives v h × Sooner v w
