-- A loop that stops before the end: what was read so far is the front of whatever the reader gives.
use mathlib.Core.Path.{◌≡◌, sym, ap, ◌∙◌}
use mathlib.Core.Bool.{Bool, true, false}
use mathlib.Core.List.{List, [], ◌∷◌, ◌++◌, append_assoc}
use Prim.Native.Nat.{ℕ, zero, suc, ◌<◌}
use native.Mathlib.Omega.{arith}
use lib.ListN.{drop}
use Rattle.semantics.specs.Bytes.{Reader, read, give, times}
use Rattle.semantics.proofs.Facts.{true-not-false}
use Rattle.semantics.proofs.Readers.{read-value, read-rest}
use Rattle.codec.specs.Reading.{Took}
use Rattle.codec.proofs.Known.{cons}

-- a is b, then what r reads from j, then others
pub record Front {A : Type 0} (r : Reader A) (j : List ℕ) (b a : List A) : Type 0 where
  pub next : A
  pub others : List A
  pub end : List ℕ
  pub got : r j ≡ read next end
  pub is : a ≡ b ++ (next ∷ others)

longer : {A : Type 0} {h g : A} {t u a b : List A} (z : List A) → h ∷ t ≡ a → t ≡ u ++ z → g ≡ h → g ∷ u ≡ b → a ≡ b ++ z
longer {h = h} {u = u} z i j k l = sym i ∙ ap (λ y. h ∷ y) j ∙ ap (λ y. y ∷ (u ++ z)) (sym k) ∙ ap (λ y. y ++ z) l

pub front : {A : Type 0} (r : Reader A) (n m : ℕ) (l : List ℕ) {a b : List A} {e j : List ℕ} → times n r l ≡ read a e → m < n → times m r l ≡ read b j → Front r j b a
unfolding times give
front r zero m l h i k = absurd (omega arith)
front r (suc n) zero l h i k =
    let c = cons r n h in
    record { next = c.head; others = c.tail; end = c.mid; got = ap r (sym (read-rest k)) ∙ c.first; is = sym c.is ∙ ap (λ z. z ++ (c.head ∷ c.tail)) (read-value k) }
front r (suc n) (suc m) l {a} {b} {e} {j} h i k =
    let c = cons r n h in
    let d = cons r m k in
    let same : d.mid ≡ c.mid = read-rest (sym d.first ∙ c.first) in
    let head : d.head ≡ c.head = read-value (sym d.first ∙ c.first) in
    let x = front r n m c.mid c.rest (omega arith) (ap (times m r) (sym same) ∙ d.rest) in
    record { next = x.next; others = x.others; end = x.end; got = x.got; is = longer (x.next ∷ x.others) c.is x.is head d.is }

-- a test of lists that no longer list passes where a front does not
module _ {A X : Type 0} (r : Reader A) (good : List A → Bool) (fronts : (l m : List A) → good (l ++ m) ≡ true → good l ≡ true) {K : List A → X → Type 0} {s : List ℕ} {from : ℕ} where
  pub early : (i : ℕ) {n p : ℕ} {x : X} (t : Took (times i r) K s from p x) → i < n → ((a : A) (e : List ℕ) → r (drop p s) ≡ read a e → good (t.value ++ (a ∷ [])) ≡ false) → {l : List A} {e : List ℕ} → times n r (drop from s) ≡ read l e → good l ≡ true → ⊥
  early i {n} t h bad {l} k g =
      let f = front r n i (drop from s) k h t.got in
      let split : l ≡ (t.value ++ (f.next ∷ [])) ++ f.others = f.is ∙ sym (append_assoc t.value (f.next ∷ []) f.others) in
      true-not-false (sym (fronts (t.value ++ (f.next ∷ [])) f.others (ap good (sym split) ∙ g)) ∙ bad f.next f.end f.got)
