-- The two loops over the bytes of a start: values against their ranges, modes against their counts.
use mathlib.Core.Path.{◌≡◌, sym, ap, ◌∙◌}
use mathlib.Core.Bool.{Bool, true, false}
use mathlib.Core.List.{List, []}
use Prim.Native.Nat.{ℕ, ◌+◌, ◌*◌, ◌≤◌, ◌<◌}
use borrow.Author.Tests.{lt-ltb, le-ltb}
use lib.IntN.{ℤ, pos}
use lib.ListN.{length, get_or, set}
use mir.Syntax.{w32}
use mir.Val.{SFits}
use mir.ValLaws.{to_z-of_z}
use Rattle.semantics.specs.Expressions.{ranged}
use Rattle.semantics.specs.Starts.{is_ok, values_fit, modes_fit}
use Rattle.std.specs.Prelude.{Some, None}
use Rattle.codec.specs.Padding.{pad}
use Rattle.plant.specs.ModeCounts.{ModesAt}
use Rattle.start_read.specs.StartRead.{Ranges, ValuesOf, ModesOf}
use Rattle.start_read.proofs.StartLoop.{Going, going_start, going_next, stopped, ended, filled-all}
use Rattle.start_read.proofs.StartBytes.{value_at, mode_at, held, value_fits, mode_fits, values-step, values-none, modes-step, modes-none, value-at, mode-at, values-told, modes-told}

-- a test of numbers that are read back from their bits
pub inside-held : (low high : ℤ) {z v : ℤ} {b : Bool} → SFits w32 low → SFits w32 high → SFits w32 z → z ≡ v → b ≡ is_ok (ranged (held low) (held high) (held z)) → is_ok (ranged low high v) ≡ b
inside-held low high {z} f g k e h = sym (rw (to_z-of_z w32 low f, to_z-of_z w32 high g, to_z-of_z w32 z k, e) at h)

module _ (s : List ℕ) (n : ℕ) (lows highs : List ℤ) where
  abbrev pub Valued : ℕ → List ℤ → Type 0
  Valued i values = Going 32 (pos 0) values_fit (λ xs. Ranges xs n lows highs) (value_at s) n i values

  pub values-start : Valued 0 (pad 32 (pos 0) [])
  values-start = going_start 32 (pos 0) values_fit (λ xs. Ranges xs n lows highs) (value_at s) n

  module _ (i : ℕ) {values : List ℤ} (g : Valued i values) where
    pub values-next : i < n → i < 32 → is_ok (ranged (get_or lows i (pos 0)) (get_or highs i (pos 0)) (value_at s i)) ≡ true → (z : ℤ) → z ≡ value_at s i → Valued (i + 1) (set values i z)
    values-next h k t z e = going_next 32 (pos 0) values_fit (λ xs. Ranges xs n lows highs) (value_at s) n value_fits values-step (λ xs r. r.count) i g h k (value-at i (value_at s i) t) z e

    pub values-stop : 4 * n ≤ length s → i < n → is_ok (ranged (get_or lows i (pos 0)) (get_or highs i (pos 0)) (value_at s i)) ≡ false → ValuesOf s n lows highs None
    values-stop j h t = record {
      unfit = λ e xs x. ap (values_fit xs) (values-told s n j e) ∙ stopped 32 (pos 0) values_fit (λ xs. Ranges xs n lows highs) (value_at s) n value_fits values-step (λ xs r. r.count) i g h (value-at i (value_at s i) t) xs x;
    }

    pub values-end : 4 * n ≤ length s → i ≡ n → ValuesOf s n lows highs (Some values)
    values-end j h = record {
      fit = λ e xs x. ap (values_fit xs) (values-told s n j e) ∙ ended 32 (pos 0) values_fit (λ xs. Ranges xs n lows highs) (value_at s) n value_fits values-step (λ xs r. r.count) i g h values-none xs x;
      are = λ e. filled-all g h ∙ ap (pad 32 (pos 0)) (sym (values-told s n j e));
    }

module _ (s : List ℕ) (n : ℕ) (counts : List ℕ) where
  abbrev pub Moded : ℕ → List ℕ → Type 0
  Moded i modes = Going 16 0 modes_fit (λ cs. ModesAt counts n cs) (mode_at s) n i modes

  pub modes-start : Moded 0 (pad 16 0 [])
  modes-start = going_start 16 0 modes_fit (λ cs. ModesAt counts n cs) (mode_at s) n

  module _ (i : ℕ) {modes : List ℕ} (g : Moded i modes) where
    pub modes-next : i < n → i < 16 → mode_at s i < get_or counts i 0 → (m : ℕ) → m ≡ mode_at s i → Moded (i + 1) (set modes i m)
    modes-next h k t m e = going_next 16 0 modes_fit (λ cs. ModesAt counts n cs) (mode_at s) n mode_fits modes-step (λ cs r. sym r.counted) i g h k (mode-at i (mode_at s i) (lt-ltb (mode_at s i) (get_or counts i 0) t)) m e

    pub modes-stop : n ≤ length s → i < n → get_or counts i 0 ≤ mode_at s i → ModesOf s n counts None
    modes-stop j h t = record {
      unfit = λ e cs x. ap (modes_fit cs) (modes-told s n j e) ∙ stopped 16 0 modes_fit (λ cs. ModesAt counts n cs) (mode_at s) n mode_fits modes-step (λ cs r. sym r.counted) i g h (mode-at i (mode_at s i) (le-ltb (mode_at s i) (get_or counts i 0) t)) cs x;
    }

    pub modes-end : n ≤ length s → i ≡ n → ModesOf s n counts (Some modes)
    modes-end j h = record {
      fit = λ e cs x. ap (modes_fit cs) (modes-told s n j e) ∙ ended 16 0 modes_fit (λ cs. ModesAt counts n cs) (mode_at s) n mode_fits modes-step (λ cs r. sym r.counted) i g h modes-none cs x;
      are = λ e. filled-all g h ∙ ap (pad 16 0) (sym (modes-told s n j e));
    }
