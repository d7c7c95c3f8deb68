-- Two trees that are the same but for the numbers of their nodes and, in PARALLELs, for neighbours that changed places.
use mathlib.Core.Path.{◌≡◌}
use Prim.Native.Nat.{ℕ}
use Rattle.schedules.specs.Trees.{Tree, Forest, leaf, halt, loop, branch, seq, par, nil, cons}

mutual
  pub data Alike (number : ℕ → ℕ) : Tree → Tree → Type 0 where
    alike-leaf : {n m : ℕ} → number n ≡ m → Alike number (leaf n) (leaf m)
    alike-halt : {n m : ℕ} → number n ≡ m → Alike number (halt n) (halt m)
    alike-loop : {n m : ℕ} {t u : Tree} → number n ≡ m → Alike number t u → Alike number (loop n t) (loop m u)
    alike-branch : {n m : ℕ} {t u v w : Tree} → number n ≡ m → Alike number t v → Alike number u w → Alike number (branch n t u) (branch m v w)
    alike-seq : {t u : Tree} {ts us : Forest} → AlikeAll number (cons t ts) (cons u us) → Alike number (seq t ts) (seq u us)
    alike-par : {t u : Tree} {ts us : Forest} → Shuffled number (cons t ts) (cons u us) → Alike number (par t ts) (par u us)

  -- one by one
  pub data AlikeAll (number : ℕ → ℕ) : Forest → Forest → Type 0 where
    alike-nil : AlikeAll number nil nil
    alike-cons : {t u : Tree} {ts us : Forest} → Alike number t u → AlikeAll number ts us → AlikeAll number (cons t ts) (cons u us)

  -- one by one, or two neighbours crosswise
  pub data Shuffled (number : ℕ → ℕ) : Forest → Forest → Type 0 where
    shuffled-nil : Shuffled number nil nil
    shuffled-cons : {t u : Tree} {ts us : Forest} → Alike number t u → Shuffled number ts us → Shuffled number (cons t ts) (cons u us)
    shuffled-swap : {t u v w : Tree} {ts us : Forest} → Alike number t v → Alike number u w → Shuffled number ts us →
        Shuffled number (cons t (cons u ts)) (cons w (cons v us))
