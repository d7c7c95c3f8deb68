-- A reader n times, as a loop: what i turns took is the loop's invariant.
use mathlib.Core.Path.{◌≡◌, refl, subst}
use mathlib.Core.Bool.{Bool, true, false, ◌&&◌}
use mathlib.Core.List.{List, [], ◌∷◌, ◌++◌}
use mathlib.Core.Option.{none, some}
use Prim.Native.Nat.{ℕ, ◌+◌, ◌≤◌, ◌<◌}
use native.Mathlib.Numerals.{add-one}
use lib.ListN.{length, drop}
use Rattle.semantics.specs.Bytes.{every, broken, Reader, give, times}
use Rattle.codec.specs.Reading.{Took, Reads, reads_at, reads_none}
use Rattle.codec.proofs.Known.{snoc, snoc-none, times-length}

module _ {A X Y : Type 0} (r : Reader A) (K : List A → X → Type 0) (L : A → Y → Type 0) (s : List ℕ) (from : ℕ) where
  pub loop-start : {x : X} → K [] x → from ≤ length s → Took (times 0 r) K s from from x
  unfolding times give
  loop-start k h = record { value = []; got = refl; inside = h; means = k }

  pub loop-next : (i : ℕ) {p q : ℕ} {x z : X} {y : Y} → Took (times i r) K s from p x → Took r L s p q y → ((l : List A) (a : A) → K l x → L a y → K (l ++ (a ∷ [])) z) → Took (times (i + 1) r) K s from q z
  loop-next i t u f = record {
    value = t.value ++ (u.value ∷ []);
    got = rw add-one (snoc r i (drop from s) t.got u.got);
    inside = u.inside;
    means = f t.value u.value t.means u.means;
  }

  pub loop-broken : (i : ℕ) {p n : ℕ} {x : X} → Took (times i r) K s from p x → r (drop p s) ≡ broken → i < n → Reads (times n r) K s from none
  loop-broken i {p} {n} t e h = reads_none (snoc-none r i n (drop from s) t.got e h)

  pub loop-end : {i p n : ℕ} {x : X} → Took (times i r) K s from p x → i ≡ n → Reads (times n r) K s from (some (p, x))
  loop-end {p = p} {x = x} t e = reads_at (subst (λ m. Took (times m r) K s from p x) e t)

-- as many as were asked for
pub counted : {A X : Type 0} (r : Reader A) {K : List A → X → Type 0} {s : List ℕ} {p q : ℕ} {x : X} (n : ℕ) (t : Took (times n r) K s p q x) → length t.value ≡ n
counted r {s = s} {p = p} n t = times-length r n (drop p s) t.got

-- for a test of all of them
pub every-snoc : {A : Type 0} (P : A → Bool) (l : List A) (a : A) → every P (l ++ (a ∷ [])) ≡ (every P l && P a)
unfolding every
every-snoc P [] a = go (P a)
  where
    go : (b : Bool) → elim b [ true ↦ true | false ↦ false ] ≡ b
    go true = refl
    go false = refl
every-snoc P (x ∷ l) a = go (P x) (every P (l ++ (a ∷ []))) (every P l) (every-snoc P l a)
  where
    go : (b u v : Bool) → u ≡ (v && P a) → elim b [ true ↦ u | false ↦ false ] ≡ (elim b [ true ↦ v | false ↦ false ] && P a)
    go true u v h = h
    go false u v h = refl
