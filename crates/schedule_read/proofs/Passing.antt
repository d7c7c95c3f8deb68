-- A pass over all nodes by their index: what a test tells of each.
use mathlib.Core.Path.{◌≡◌, refl, sym, ap, ◌∙◌}
use mathlib.Core.Bool.{Bool, true, false, ◌&&◌, and-false}
use mathlib.Core.List.{List, [], ◌∷◌}
use mathlib.Core.Option.{some}
use Prim.Native.Nat.{ℕ, zero, suc, ◌+◌, ◌-◌, ◌≤◌, ◌<◌}
use native.Mathlib.Numerals.{add-one}
use native.Mathlib.Omega.{arith}
use lib.ListN.{length, get_or, take, drop, get_elem?}
use Rattle.semantics.specs.Bytes.{is_some, every}
use Rattle.semantics.specs.Editions.{Edition}
use Rattle.semantics.proofs.Facts.{none-not-some, some_is, at-exists}
use Rattle.schedules.specs.Nodes.{Node, kind_of, node_of}
use Rattle.tree_read.specs.declared.nodes.Nodes.{Nodes}
use Rattle.schedule_read.specs.Indexed.{NodesIn, Indexed, Tells}
use Rattle.schedule_read.proofs.Payloads.{Made}

-- ---- every element from number i on
every-next : {A : Type 0} (P : A → Bool) (l : List A) (i : ℕ) {x : A} → get_elem? l i ≡ some x → P x ≡ true → every P (drop i l) ≡ every P (drop (suc i) l)
unfolding every
every-next P [] i h e = none-not-some h
every-next P (y ∷ l) zero h e = let t : P y ≡ true = ap P (some_is h) ∙ e in rw (t, every) refl
every-next P (y ∷ l) (suc i) h e = every-next P l i h e

every-stop : {A : Type 0} (P : A → Bool) (l : List A) (i : ℕ) {x : A} → get_elem? l i ≡ some x → P x ≡ false → every P (drop i l) ≡ false
unfolding every
every-stop P [] i h e = none-not-some h
every-stop P (y ∷ l) zero h e = let t : P y ≡ false = ap P (some_is h) ∙ e in rw (t, every) refl
every-stop P (y ∷ l) (suc i) h e = every-stop P l i h e

every-end : {A : Type 0} (P : A → Bool) (l : List A) (i : ℕ) → length l ≤ i → every P (drop i l) ≡ true
unfolding every
every-end P [] zero h = refl
every-end P [] (suc i) h = refl
every-end P (y ∷ l) zero h = absurd (omega arith)
every-end P (y ∷ l) (suc i) h = every-end P l i (omega arith)

-- what code slices out of s
pub made : {s : List ℕ} {n : Nodes} (i : ℕ) → i < n.count → Indexed s n → Made (get_or n.kinds i 0) (take (get_or n.ends i 0 - get_or n.starts i 0) (drop (get_or n.starts i 0) s))
made i h d =
    let x = at-exists d.nodes i (omega (arith, d.at.counted)) in
    record { node = x.0; is = (d.at.entries i h).node ∙ x.1 }

pub made-at : {s : List ℕ} {n : Nodes} (i : ℕ) → i < n.count → Indexed s n → is_some (node_of (kind_of (get_or n.kinds i 0)) (take (get_or n.ends i 0 - get_or n.starts i 0) (drop (get_or n.starts i 0) s))) ≡ true
unfolding is_some
made-at i h d = let m = made i h d in rw m.is refl

-- ---- a test of each, and t beside it, told so far by r
pub record Telling (ed : Edition) (P : Node → Bool) (s : List ℕ) (n : Nodes) (i : ℕ) (t r : Bool) : Type 0 where
  pub of : (ns : List Node) → NodesIn ed s n ns → (every P ns && t) ≡ (every P (drop i ns) && r)

module _ {ed : Edition} {s : List ℕ} {n : Nodes} (P : Node → Bool) {t : Bool} where
  pub tell-start : Telling ed P s n 0 t t
  tell-start = record { of = λ ns d. refl }

  pub tell-end : {i : ℕ} {r : Bool} → n.count ≤ i → Telling ed P s n i t r → (ns : List Node) → NodesIn ed s n ns → (every P ns && t) ≡ r
  tell-end {i} {r} h k ns d = k.of ns d ∙ ap (λ b. b && r) (every-end P ns i (omega (arith, d.counted)))

  pub tell-next : {i : ℕ} {r x q : Bool} → i < n.count → Telling ed P s n i t r →
      Tells P (get_or n.kinds i 0) (take (get_or n.ends i 0 - get_or n.starts i 0) (drop (get_or n.starts i 0) s)) x → q ≡ (r && x) → Telling ed P s n (i + 1) t q
  tell-next {i} {r} {x} {q} h k u e = record { of = λ ns d. k.of ns d ∙ (let y = node_at ns d in step (every P (drop i ns)) (every P (drop (i + 1) ns)) x r (λ z. rw add-one (every-next P ns i y.1 (y.2 ∙ z))) (λ z. every-stop P ns i y.1 (y.2 ∙ z))) ∙ ap (λ b. every P (drop (i + 1) ns) && b) (sym e) }
    where
      node_at : (ns : List Node) → NodesIn ed s n ns → (y : Node) × (get_elem? ns i ≡ some y) × (P y ≡ x)
      node_at ns d =
          let y = at-exists ns i (omega (arith, d.counted)) in
          (y.0, y.1, sym (u.of y.0 ((d.entries i h).node ∙ y.1)))

      step : (a b x r : Bool) → (x ≡ true → a ≡ b) → (x ≡ false → a ≡ false) → (a && r) ≡ (b && (r && x))
      step a b true true f g = ap (λ z. z && true) (f refl)
      step a b true false f g = ap (λ z. z && false) (f refl)
      step a b false true f g = ap (λ z. z && true) (g refl) ∙ sym (and-false b)
      step a b false false f g = ap (λ z. z && false) (g refl) ∙ sym (and-false b)
