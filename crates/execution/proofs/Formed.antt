-- What is known of an action by its kind and its operand.
use mathlib.Core.Path.{◌≡◌, refl, sym, ap, ap₂, ◌∙◌}
use mathlib.Core.Bool.{Bool, true, false}
use mathlib.Core.List.{List, ◌∷◌, map}
use mathlib.Core.Option.{Option, none, some}
use Prim.Native.Nat.{ℕ, zero, suc, ◌<◌}
use borrow.Author.Tests.{eqb-true, eqb-false, ltb-true}
use lib.Dec.{eqb, ltb}
use lib.ListN.{length, get_elem?}
use Rattle.semantics.specs.Bytes.{every, is_some}
use Rattle.semantics.specs.Editions.{Edition}
use Rattle.semantics.specs.Expressions.{number_in}
use Rattle.semantics.specs.Sections.{Selector}
use Rattle.semantics.specs.Plant.{mode_exists_in}
use Rattle.semantics.specs.Run.{Action, assign, switch, is_wait, wait_truth}
use Rattle.semantics.specs.TableFile.{action_kind, action_of_kind}
use Rattle.semantics.specs.Tables.{operand_fits}
use Rattle.semantics.proofs.Facts.{true-not-false, by_cases, at-below, and_left}
use Rattle.nodeset.specs.Sets.{mem, members_from, members}
use Rattle.effects.proofs.Acts.{is-test, is-wait, is-assign, is_switch, is_stop}

-- ---- the kind is that of a wait just where the action is
module _ (k : ℕ) (t : List ℕ) {a : Action} (h : action_of_kind (action_kind k) t ≡ some a) where
  no-wait : (k ≡ 2 → ⊥) → is_wait a ≡ false
  unfolding is_wait
  no-wait n =
      by_cases (eqb k 1) (λ e. rw (is-test k t h (eqb-true k 1 e)) refl) (λ e.
      by_cases (eqb k 3) (λ f. rw (is-assign k t h (eqb-true k 3 f)).3 refl) (λ f.
      by_cases (eqb k 4) (λ g. rw (is_switch k t h (eqb-true k 4 g)).3 refl) (λ g.
      rw (is_stop k t h (eqb-false k 1 e) n (eqb-false k 3 f) (eqb-false k 4 g)) refl)))

  pub wait-kind : is_wait a ≡ eqb k 2
  unfolding is_wait
  wait-kind = by_cases (eqb k 2) (λ e. rw (is-wait k t h (eqb-true k 2 e), e) refl) (λ e. no-wait (eqb-false k 2 e) ∙ sym e)

  pub wait-operand : is_wait a ≡ true → wait_truth a ≡ t
  unfolding wait_truth
  wait-operand e = rw (is-wait k t h (eqb-true k 2 (sym wait-kind ∙ e))) refl

-- ---- what it names exists
selector-below : (cs : List Selector) (s m : ℕ) → mode_exists_in cs s m ≡ true → s < length cs
unfolding mode_exists_in
selector-below cs s m h = go (get_elem? cs s) refl h
  where
    go : (o : Option Selector) → get_elem? cs s ≡ o → elim o [ none ↦ false | some c ↦ ltb m (length c.modes) ] ≡ true → s < length cs
    go none e h = true-not-false (sym h)
    go (some c) e h = at-below cs s e

module _ (ed : Edition) (variables : ℕ) (cs : List Selector) {a : Action} (h : operand_fits ed variables cs a ≡ true) where
  pub variable-known : (v : ℕ) (e : List ℕ) → a ≡ assign v e → v < variables
  unfolding operand_fits
  variable-known v e f = ltb-true v variables (and_left (ltb v variables) (is_some (number_in ed variables e)) (sym (ap (operand_fits ed variables cs) f) ∙ h))

  pub selector-known : (s m : ℕ) → a ≡ switch s m → s < length cs
  unfolding operand_fits
  selector-known s m f = selector-below cs s m (sym (ap (operand_fits ed variables cs) f) ∙ h)

-- ---- the acting nodes
module _ (ws : List ℕ) where
  every-from : (f g : ℕ → Bool) → ((n : ℕ) → mem ws n ≡ true → f n ≡ g n) → (n k : ℕ) → every f (members_from ws n k) ≡ every g (members_from ws n k)
  unfolding every members_from
  every-from f g h n zero = refl
  every-from f g h n (suc k) = go (mem ws n) refl (every-from f g h (suc n) k)
    where
      go : (b : Bool) → mem ws n ≡ b → every f (members_from ws (suc n) k) ≡ every g (members_from ws (suc n) k)
          → every f (elim b [ true ↦ n ∷ members_from ws (suc n) k | false ↦ members_from ws (suc n) k ]) ≡ every g (elim b [ true ↦ n ∷ members_from ws (suc n) k | false ↦ members_from ws (suc n) k ])
      go true e ih = ap₂ (λ (b x : Bool). elim b [ true ↦ x | false ↦ false ]) (h n e) ih
      go false e ih = ih

  pub every-member : (f g : ℕ → Bool) → ((n : ℕ) → mem ws n ≡ true → f n ≡ g n) → every f (members ws) ≡ every g (members ws)
  unfolding members
  every-member f g h = every-from f g h 0 256

  map-from : {A : Type 0} (t : ℕ → Bool) (f g : ℕ → A) → ((n : ℕ) → mem ws n ≡ true → t n ≡ true → f n ≡ g n) → (n k : ℕ) → every t (members_from ws n k) ≡ true → map f (members_from ws n k) ≡ map g (members_from ws n k)
  unfolding every members_from
  map-from t f g h n zero i = refl
  map-from t f g h n (suc k) i = go (mem ws n) refl i (map-from t f g h (suc n) k)
    where
      rest : List ℕ
      rest = members_from ws (suc n) k

      here : (b : Bool) → t n ≡ b → mem ws n ≡ true → elim b [ true ↦ every t rest | false ↦ false ] ≡ true → (every t rest ≡ true → map f rest ≡ map g rest) → f n ∷ map f rest ≡ g n ∷ map g rest
      here true q e i ih = ap₂ ◌∷◌ (h n e q) (ih i)
      here false q e i ih = true-not-false (sym i)

      go : (b : Bool) → mem ws n ≡ b → every t (elim b [ true ↦ n ∷ rest | false ↦ rest ]) ≡ true → (every t rest ≡ true → map f rest ≡ map g rest) → map f (elim b [ true ↦ n ∷ rest | false ↦ rest ]) ≡ map g (elim b [ true ↦ n ∷ rest | false ↦ rest ])
      go true e i ih = here (t n) refl e i ih
      go false e i ih = ih i

  pub map-member : {A : Type 0} (t : ℕ → Bool) (f g : ℕ → A) → ((n : ℕ) → mem ws n ≡ true → t n ≡ true → f n ≡ g n) → every t (members ws) ≡ true → map f (members ws) ≡ map g (members ws)
  unfolding members
  map-member t f g h i = map-from t f g h 0 256 i
