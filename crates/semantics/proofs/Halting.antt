-- A move that fits its node's action: a STOP's halts, any other goes on or finishes.
use mathlib.Core.Path.{◌≡◌}
use mathlib.Core.Logic.{◌↔◌}
use Prim.Native.Nat.{ℕ}
use native.Mathlib.Omega.{arith}
use Rattle.semantics.specs.Run.{Action, stop, Next, to, finished, halted, idle}

pub data Fitting {S : Type 0} (a : Action) (x : Next S) : Type 0 where
  fits_on : {y : S} → (a ≡ stop → ⊥) → x ≡ to y → Fitting a x
  fits_end : (a ≡ stop → ⊥) → x ≡ finished → Fitting a x
  fits_halt : a ≡ stop → x ≡ halted → Fitting a x

module _ {S : Type 0} {a : Action} {x : Next S} where
  pub fitting-moves : Fitting a x → x ≡ idle → ⊥
  fitting-moves (fits_on f e) h = let z : ◌≡◌ {A = ℕ} 0 1 = cc in omega arith
  fitting-moves (fits_end f e) h = let z : ◌≡◌ {A = ℕ} 0 1 = cc in omega arith
  fitting-moves (fits_halt f e) h = let z : ◌≡◌ {A = ℕ} 0 1 = cc in omega arith

  halted-stop : Fitting a x → x ≡ halted → a ≡ stop
  halted-stop (fits_on f e) h = let z : ◌≡◌ {A = ℕ} 0 1 = cc in absurd (omega arith)
  halted-stop (fits_end f e) h = let z : ◌≡◌ {A = ℕ} 0 1 = cc in absurd (omega arith)
  halted-stop (fits_halt f e) h = f

  stop-halted : Fitting a x → a ≡ stop → x ≡ halted
  stop-halted (fits_on f e) h = absurd (f h)
  stop-halted (fits_end f e) h = absurd (f h)
  stop-halted (fits_halt f e) h = e

  pub fitting-halts : Fitting a x → (x ≡ halted) ↔ (a ≡ stop)
  fitting-halts q = (halted-stop q, stop-halted q)
