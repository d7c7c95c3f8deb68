-- The operands of the actions: one, and node after node.
use mathlib.Core.Path.{◌≡◌, refl, sym, ap, subst, ◌∙◌}
use mathlib.Core.Bool.{Bool, true, false}
use mathlib.Core.List.{List, [], ◌∷◌}
use mathlib.Core.Option.{Option, none, some}
use Prim.Native.Nat.{ℕ, suc, ◌+◌, ◌-◌, ◌≤◌, ◌<◌}
use native.Mathlib.Omega.{arith}
use borrow.Author.Tests.{ne_eqb, lt-ltb, le-ltb}
use lib.Dec.{eqb}
use lib.ListN.{length, get_or, take, drop}
use lib.Seq.{take_all}
use Rattle.semantics.specs.Bytes.{every, is_some, from_no_bytes, from_two_bytes, byte_and_rest}
use Rattle.semantics.specs.Editions.{Edition}
use Rattle.semantics.specs.Expressions.{number_in, truth_in}
use Rattle.semantics.specs.Sections.{Selector}
use Rattle.semantics.specs.Plant.{selectors, mode_exists_in}
use Rattle.semantics.specs.Run.{Action}
use Rattle.semantics.specs.TableFile.{NodeAction, an_assignment, a_switch, a_stop, no_kind, action_kind, action_of_kind, actions_in}
use Rattle.semantics.specs.Tables.{operand_fits, operands_fit, action_at, actions_numbered, judge_actions}
use Rattle.semantics.proofs.Facts.{true-not-false, by_cases, some_is}
use Rattle.paper.proofs.Answered.{was-accepted}
use Rattle.codec.specs.Parts.{part_at}
use Rattle.codec.proofs.Reading.{either}
use Rattle.table_read.specs.declared.actions.Actions.{Actions}
use Rattle.table_read.specs.ActionIndex.{action_index, Indexes}
use Rattle.plant.specs.ModeCounts.{ModesAt}
use Rattle.table_read.specs.OperandForms.{fits_here, AllFit}
use Rattle.table_read.proofs.ActionsFound.{was_judged, Here, no_action, one_action, here, operand-inside as inside-here}
use Rattle.table_read.proofs.ActionsFit.{every-by-node, by-node-every}

-- ---- the forms of an operand
module _ (ed : Edition) (v : ℕ) (cs : List Selector) where
  pub assigns-nothing : (b : List ℕ) → length b < 1 → true ≡ fits_here ed v cs (action_of_kind an_assignment b)
  unfolding action_of_kind byte_and_rest fits_here
  assigns-nothing [] h = refl
  assigns-nothing (x ∷ b) h = absurd (omega arith)

  pub assigns-missing : (b : List ℕ) → 1 ≤ length b → v ≤ get_or b 0 0 → false ≡ fits_here ed v cs (action_of_kind an_assignment b)
  unfolding action_of_kind byte_and_rest fits_here operand_fits
  assigns-missing [] h k = absurd (omega arith)
  assigns-missing (x ∷ b) h k = rw (le-ltb x v k) refl

  pub assigns-known : (b : List ℕ) {r : Bool} → 1 ≤ length b → get_or b 0 0 < v → r ≡ is_some (number_in ed v (take (length b - 1) (drop 1 b))) → r ≡ fits_here ed v cs (action_of_kind an_assignment b)
  unfolding action_of_kind byte_and_rest fits_here operand_fits
  assigns-known [] h k e = absurd (omega arith)
  assigns-known (x ∷ b) h k e = e ∙ rw (lt-ltb x v k) (ap (λ z. is_some (number_in ed v z)) (take_all (suc (length b) - 1) b (omega arith)))

  pub switches-nothing : (b : List ℕ) → (length b ≡ 2 → ⊥) → true ≡ fits_here ed v cs (action_of_kind a_switch b)
  unfolding action_of_kind from_two_bytes fits_here
  switches-nothing [] h = refl
  switches-nothing (x ∷ []) h = refl
  switches-nothing (x ∷ y ∷ []) h = absurd (h refl)
  switches-nothing (x ∷ y ∷ z ∷ b) h = refl

  pub switches-to : (b : List ℕ) {r : Bool} → length b ≡ 2 → r ≡ mode_exists_in cs (get_or b 0 0) (get_or b 1 0) → r ≡ fits_here ed v cs (action_of_kind a_switch b)
  unfolding action_of_kind from_two_bytes fits_here operand_fits
  switches-to [] h e = absurd (omega arith)
  switches-to (x ∷ []) h e = absurd (omega arith)
  switches-to (x ∷ y ∷ []) h e = e
  switches-to (x ∷ y ∷ z ∷ b) h e = absurd (omega arith)

  module _ {k : ℕ} (b : List ℕ) {r : Bool} where
    pub fits-test : k ≡ 1 → r ≡ is_some (truth_in ed v b) → r ≡ fits_here ed v cs (action_of_kind (action_kind k) b)
    unfolding action_kind action_of_kind fits_here operand_fits
    fits-test e h = rw e h

    pub fits-wait : k ≡ 2 → r ≡ is_some (truth_in ed v b) → r ≡ fits_here ed v cs (action_of_kind (action_kind k) b)
    unfolding action_kind action_of_kind fits_here operand_fits
    fits-wait e h = rw e h

    pub fits-assignment : k ≡ 3 → r ≡ fits_here ed v cs (action_of_kind an_assignment b) → r ≡ fits_here ed v cs (action_of_kind (action_kind k) b)
    unfolding action_kind
    fits-assignment e h = rw e h

    pub fits-switch : k ≡ 4 → r ≡ fits_here ed v cs (action_of_kind a_switch b) → r ≡ fits_here ed v cs (action_of_kind (action_kind k) b)
    unfolding action_kind
    fits-switch e h = rw e h

  stop-fits : (b : List ℕ) → true ≡ fits_here ed v cs (action_of_kind a_stop b)
  unfolding action_of_kind from_no_bytes fits_here operand_fits
  stop-fits [] = refl
  stop-fits (x ∷ b) = refl

  no-kind-fits : (b : List ℕ) → true ≡ fits_here ed v cs (action_of_kind no_kind b)
  unfolding action_of_kind fits_here
  no-kind-fits b = refl

  pub fits-other : (k : ℕ) (b : List ℕ) → (k ≡ 1 → ⊥) → (k ≡ 2 → ⊥) → (k ≡ 3 → ⊥) → (k ≡ 4 → ⊥) → true ≡ fits_here ed v cs (action_of_kind (action_kind k) b)
  unfolding action_kind
  fits-other k b e f g h = by_cases (eqb k 5)
      (λ i. rw (action_kind, ne_eqb k 1 e, ne_eqb k 2 f, ne_eqb k 3 g, ne_eqb k 4 h, i) (stop-fits b))
      (λ i. rw (action_kind, ne_eqb k 1 e, ne_eqb k 2 f, ne_eqb k 3 g, ne_eqb k 4 h, i) (no-kind-fits b))

-- ---- the action of a node, by its kind and its operand
abbrev pub operand_of : List ℕ → Actions → ℕ → List ℕ
operand_of s x n = part_at s x.starts x.ends n

-- where x is the index of a section, there are such actions
pub record Indexed (ed : Edition) (s : List ℕ) (x : Actions) : Type 0 where
  pub actions : List NodeAction
  pub are : actions_in ed s ≡ some actions
  pub numbered : actions_numbered ed actions ≡ true
  pub is : x ≡ action_index ed s actions

pub indexed : (ed : Edition) (s : List ℕ) {x : Actions} → Indexes ed s x → Indexed ed s x
indexed ed s h =
    let a = was-accepted (action_index ed s) (judge_actions ed s) h in
    let j = was_judged ed s a.judged in
    record { actions = a.value; are = j.0; numbered = j.1; is = a.is }

module _ (ed : Edition) (s : List ℕ) {x : Actions} (q : Indexed ed s x) (n : ℕ) (k : n < 256) where
  pub operand-of : action_of_kind (action_kind (get_or x.kinds n 0)) (operand_of s x n) ≡ action_at q.actions n
  unfolding action_kind action_of_kind
  operand-of = go (subst (λ x. Here s x (action_at q.actions n) n) (sym q.is) (here ed s q.are n k))
    where
      go : Here s x (action_at q.actions n) n → action_of_kind (action_kind (get_or x.kinds n 0)) (operand_of s x n) ≡ action_at q.actions n
      go (no_action i j st en) = rw j (sym i)
      go (one_action i j b c o) = o ∙ sym i

pub operand-inside : (ed : Edition) (s : List ℕ) {x : Actions} → Indexes ed s x → (n : ℕ) → n < 256 → (get_or x.starts n 0 ≤ get_or x.ends n 0) × (get_or x.ends n 0 ≤ length s)
operand-inside ed s h n k =
    let q = indexed ed s h in
    subst (λ (x : Actions). (get_or x.starts n 0 ≤ get_or x.ends n 0) × (get_or x.ends n 0 ≤ length s)) (sym q.is) (inside-here ed s q.are n k)

-- a node of an edition has its entry in the arrays
pub few-nodes : (ed : Edition) {m n : ℕ} → m ≡ ed.nodes → n < m → n < 256
few-nodes ed e h = omega (arith, ed.entries_fit)

-- ---- the operands of the nodes before i fit, by any edition: the loop knows none
abbrev pub FitAt : (s ks ss es : List ℕ) → ℕ → ℕ → List ℕ → ℕ → Bool → Type 0
FitAt s ks ss es v n counts i r = (ed : Edition) (cs : List Selector) → ModesAt counts n cs → r ≡ fits_here ed v cs (action_of_kind (action_kind (get_or ks i 0)) (part_at s ss es i))

pub record Fitting (s ks ss es : List ℕ) (v n : ℕ) (counts : List ℕ) (i : ℕ) : Type 0 where
  pub at : (m : ℕ) → m < i → FitAt s ks ss es v n counts m true

pub fit-start : {s ks ss es counts : List ℕ} {v n : ℕ} → Fitting s ks ss es v n counts 0
fit-start = record { at = λ m h. absurd (omega arith) }

pub fit_next : (s ks ss es : List ℕ) (v n : ℕ) (counts : List ℕ) {i : ℕ} {r : Bool} → FitAt s ks ss es v n counts i r → r ≡ true → Fitting s ks ss es v n counts i →
    Fitting s ks ss es v n counts (i + 1)
fit_next s ks ss es v n counts {i} t h f = record {
  at = λ m b. either m i (λ j. f.at m j)
      (λ j. let y : i ≡ m = omega arith in subst (λ m. FitAt s ks ss es v n counts m true) y (λ ed cs d. sym h ∙ t ed cs d));
}

-- by any selectors
abbrev AllFitted : Edition → List ℕ → ℕ → ℕ → List ℕ → Bool → Type 0
AllFitted ed s v n counts r = (cs : List Selector) → ModesAt counts n cs → (l : List NodeAction) → actions_in ed s ≡ some l → r ≡ every (λ (a : NodeAction). operand_fits ed v cs a.action) l

of-plant : (ed : Edition) (s : List ℕ) (v n : ℕ) (counts : List ℕ) {r : Bool} → AllFitted ed s v n counts r → AllFit ed s v n counts r
unfolding operands_fit
of-plant ed s v n counts f p w d l e = f (selectors p) d l e ∙ ap (λ n. every (λ (a : NodeAction). operand_fits ed n (selectors p) a.action) l) w

module _ (ed : Edition) (s : List ℕ) {x : Actions} (h : Indexes ed s x) (v n : ℕ) (counts : List ℕ) where
  q : Indexed ed s x
  q = indexed ed s h

  told : {i : ℕ} {r : Bool} → i < 256 → FitAt s x.kinds x.starts x.ends v n counts i r → (cs : List Selector) → ModesAt counts n cs → r ≡ fits_here ed v cs (action_at q.actions i)
  told {i} k t cs d = t ed cs d ∙ ap (fits_here ed v cs) (operand-of ed s q i k)

  -- of the actions that are there, of all that are
  there : {r : Bool} → ((cs : List Selector) → ModesAt counts n cs → r ≡ every (λ (a : NodeAction). operand_fits ed v cs a.action) q.actions) → AllFitted ed s v n counts r
  there f cs d l e = f cs d ∙ ap (every (λ (a : NodeAction). operand_fits ed v cs a.action)) (some_is (sym q.are ∙ e))

  unfit : {i : ℕ} → i < 256 → FitAt s x.kinds x.starts x.ends v n counts i false → AllFitted ed s v n counts false
  unfolding fits_here
  unfit {i} k t = there (λ cs d. by_cases (every (λ (a : NodeAction). operand_fits ed v cs a.action) q.actions) (λ y. go cs d y (action_at q.actions i) refl) (λ y. sym y))
    where
      go : (cs : List Selector) → ModesAt counts n cs → every (λ (a : NodeAction). operand_fits ed v cs a.action) q.actions ≡ true → (o : Option Action) → action_at q.actions i ≡ o → false ≡ every (λ (a : NodeAction). operand_fits ed v cs a.action) q.actions
      go cs d y none p = true-not-false (sym (told k t cs d ∙ ap (fits_here ed v cs) p))
      go cs d y (some a) p = true-not-false (sym (by-node-every (operand_fits ed v cs) q.actions i y p) ∙ sym (told k t cs d ∙ ap (fits_here ed v cs) p))

  pub fit_stop : {i : ℕ} {r : Bool} → i < 256 → FitAt s x.kinds x.starts x.ends v n counts i r → r ≡ false → AllFit ed s v n counts false
  fit_stop k t h = of-plant ed s v n counts (unfit k (λ ed cs d. sym h ∙ t ed cs d))

  pub fit-end : {i : ℕ} → ed.nodes ≤ i → Fitting s x.kinds x.starts x.ends v n counts i → AllFit ed s v n counts true
  unfolding fits_here
  fit-end h f = of-plant ed s v n counts (there (λ cs d. sym (every-by-node ed (operand_fits ed v cs) q.actions q.numbered
      (λ m a k p. sym (told (omega (arith, ed.entries_fit)) (f.at m (omega arith)) cs d ∙ ap (fits_here ed v cs) p)))))
