-- Whether targets fit depends on the kinds of the actions alone, and there are actions of any kinds.
use mathlib.Core.Path.{◌≡◌, refl, sym, ap, fun_ext, ◌∙◌}
use mathlib.Core.Bool.{Bool, false, ◌&&◌}
use mathlib.Core.List.{List, [], ◌∷◌}
use mathlib.Core.Option.{Option, none, some}
use Prim.Native.Nat.{ℕ, zero, suc, ◌+◌, ◌<◌}
use native.Mathlib.Omega.{arith}
use borrow.Author.Tests.{eq-eqb, ne_eqb}
use lib.Dec.{eqb}
use lib.ListN.{length, get_or}
use Rattle.semantics.specs.Bytes.{every, from_no_bytes, from_two_bytes, byte_and_rest}
use Rattle.semantics.specs.Editions.{Edition}
use Rattle.semantics.specs.Refusals.{accepted, ensure, need, ◌>>◌}
use Rattle.semantics.specs.Run.{Action, test, wait, assign, switch, stop}
use Rattle.semantics.specs.TableFile.{NodeAction, Entry, HALTED, NONE, ActionKind, a_test, a_wait, an_assignment, a_switch, a_stop, no_kind, action_kind, action_of_kind, kind_number, locations_in}
use Rattle.semantics.specs.Tables.{rising_from, action_at, is_going_on, targets_fit, entry_fits, entry_nodes, location_fits, locations_fit_in, judge_locations}
use Rattle.semantics.proofs.Facts.{none-not-some}
use Rattle.semantics.proofs.Judging.{then_same}
use Rattle.paper.specs.Refusals.{answered}
use Rattle.table_read.specs.ActionIndex.{kind_code, KindsSay}
use Rattle.table_read.specs.LocationIndex.{FitsKind, location_index}
use Rattle.table_read.proofs.ActionForms.{kind-is}

-- an operand of the form that a kind has
unfoldable pub operand_like : ActionKind → List ℕ
operand_like a_test = []
operand_like a_wait = []
operand_like an_assignment = 0 ∷ []
operand_like a_switch = 0 ∷ 0 ∷ []
operand_like a_stop = []
operand_like no_kind = []

-- an action of this kind
unfoldable pub like_kind : ActionKind → Option Action
like_kind k = action_of_kind k (operand_like k)

-- actions of these kinds, by node; none where the number is of no kind
unfoldable pub actions_from : ℕ → List ℕ → List NodeAction
actions_from n [] = []
actions_from n (k ∷ ks) = elim (like_kind (action_kind k)) [ none ↦ actions_from (suc n) ks | some a ↦ record { node = n; action = a } ∷ actions_from (suc n) ks ]

unfoldable pub actions_like : List ℕ → List NodeAction
actions_like ks = actions_from 0 ks

-- whether targets fit an action of this kind
unfoldable pub fits_kind : ℕ → ℕ → ℕ → ℕ → Bool
fits_kind n k t u = elim (like_kind (action_kind k)) [ none ↦ false | some a ↦ targets_fit n a t u ]

fits-code : (n t u : ℕ) (a : Action) → targets_fit n a t u ≡ fits_kind n (kind_number a) t u
unfolding fits_kind kind_number like_kind operand_like action_of_kind byte_and_rest from_two_bytes from_no_bytes action_kind targets_fit
fits-code n t u (test c) = refl
fits-code n t u (wait c) = refl
fits-code n t u (assign v b) = refl
fits-code n t u (switch s m) = refl
fits-code n t u stop = refl

-- ---- what the code tests, kind by kind
module _ (n k t u : ℕ) where
  pub test_fits : k ≡ 1 → (is_going_on n t && is_going_on n u) ≡ fits_kind n k t u
  unfolding fits_kind like_kind operand_like action_of_kind byte_and_rest from_two_bytes from_no_bytes action_kind targets_fit
  test_fits e = rw e refl

  pub wait-fits : k ≡ 2 → (is_going_on n t && eqb u 65535) ≡ fits_kind n k t u
  unfolding fits_kind like_kind operand_like action_of_kind byte_and_rest from_two_bytes from_no_bytes action_kind targets_fit NONE
  wait-fits e = rw e refl

  pub assignment-fits : k ≡ 3 → (is_going_on n t && eqb u 65535) ≡ fits_kind n k t u
  unfolding fits_kind like_kind operand_like action_of_kind byte_and_rest from_two_bytes from_no_bytes action_kind targets_fit NONE
  assignment-fits e = rw e refl

  pub switch_fits : k ≡ 4 → (is_going_on n t && eqb u 65535) ≡ fits_kind n k t u
  unfolding fits_kind like_kind operand_like action_of_kind byte_and_rest from_two_bytes from_no_bytes action_kind targets_fit NONE
  switch_fits e = rw e refl

  pub stop-fits : k ≡ 5 → (eqb t 65533 && eqb u 65535) ≡ fits_kind n k t u
  unfolding fits_kind like_kind operand_like action_of_kind byte_and_rest from_two_bytes from_no_bytes action_kind targets_fit HALTED NONE
  stop-fits e = rw e refl

  pub unknown-fits : (k ≡ 1 → ⊥) → (k ≡ 2 → ⊥) → (k ≡ 3 → ⊥) → (k ≡ 4 → ⊥) → (k ≡ 5 → ⊥) → false ≡ fits_kind n k t u
  unfolding fits_kind like_kind operand_like action_of_kind byte_and_rest from_two_bytes from_no_bytes action_kind
  unknown-fits a b c d e =
      let kind : action_kind k ≡ no_kind = rw (action_kind, ne_eqb k 1 a, ne_eqb k 2 b, ne_eqb k 3 c, ne_eqb k 4 d, ne_eqb k 5 e) refl in
      rw (fits_kind, kind) refl

pub told : (n k t u : ℕ) {r : Bool} → r ≡ fits_kind n k t u → FitsKind n k t u r
unfolding kind_number
told n k t u h = record {
  of_kind = λ a e. h ∙ ap (λ k. fits_kind n k t u) (sym e) ∙ sym (fits-code n t u a);
  of_none = λ f. h ∙ sym (unknown-fits n k t u (λ e. f (test []) (sym e)) (λ e. f (wait []) (sym e)) (λ e. f (assign 0 []) (sym e)) (λ e. f (switch 0 0) (sym e)) (λ e. f stop (sym e)));
}

-- 0 is no kind
pub none-fits : (n t u : ℕ) → FitsKind n 0 t u false
none-fits n t u = told n 0 t u (unknown-fits n 0 t u (λ e. omega arith) (λ e. omega arith) (λ e. omega arith) (λ e. omega arith) (λ e. omega arith))

-- ---- the actions that are made up
before-first : (m n : ℕ) (ks : List ℕ) → n < m → action_at (actions_from m ks) n ≡ none
unfolding actions_from action_at
before-first m n [] h = refl
before-first m n (k ∷ ks) h = go (like_kind (action_kind k)) (before-first (suc m) n ks (omega arith))
  where
    go : (o : Option Action) → action_at (actions_from (suc m) ks) n ≡ none → action_at (elim o [ none ↦ actions_from (suc m) ks | some a ↦ record { node = m; action = a } ∷ actions_from (suc m) ks ]) n ≡ none
    go none i = i
    go (some a) i = rw (action_at, ne_eqb m n (λ e. omega arith)) i

kind-from : (m n : ℕ) (ks : List ℕ) → action_at (actions_from m ks) (m + n) ≡ like_kind (action_kind (get_or ks n 0))
unfolding actions_from action_at action_kind like_kind operand_like action_of_kind
kind-from m n [] = refl
kind-from m zero (k ∷ ks) = go (like_kind (action_kind k))
  where
    go : (o : Option Action) → action_at (elim o [ none ↦ actions_from (suc m) ks | some a ↦ record { node = m; action = a } ∷ actions_from (suc m) ks ]) (m + 0) ≡ o
    go none = before-first (suc m) (m + 0) ks (omega arith)
    go (some a) = rw (action_at, eq-eqb m (m + 0) (omega arith)) refl
kind-from m (suc n) (k ∷ ks) = go (like_kind (action_kind k)) (kind-from (suc m) n ks)
  where
    next : suc m + n ≡ m + suc n
    next = omega arith

    go : (o : Option Action) → action_at (actions_from (suc m) ks) (suc m + n) ≡ like_kind (action_kind (get_or ks n 0)) → action_at (elim o [ none ↦ actions_from (suc m) ks | some a ↦ record { node = m; action = a } ∷ actions_from (suc m) ks ]) (m + suc n) ≡ like_kind (action_kind (get_or ks n 0))
    go none h = ap (action_at (actions_from (suc m) ks)) (sym next) ∙ h
    go (some a) h = rw (action_at, ne_eqb m (m + suc n) (λ e. omega arith)) (ap (action_at (actions_from (suc m) ks)) (sym next) ∙ h)

kind-like : (ks : List ℕ) (n : ℕ) → action_at (actions_like ks) n ≡ like_kind (action_kind (get_or ks n 0))
unfolding actions_like
kind-like ks n = let z : n ≡ 0 + n = omega arith in ap (action_at (actions_from 0 ks)) z ∙ kind-from 0 n ks

like-some : (a : Action) → like_kind (action_kind (kind_number a)) ≡ none → ⊥
unfolding kind_number like_kind operand_like action_of_kind byte_and_rest from_two_bytes from_no_bytes action_kind
like-some (test c) h = none-not-some (sym h)
like-some (wait c) h = none-not-some (sym h)
like-some (assign v b) h = none-not-some (sym h)
like-some (switch s m) h = none-not-some (sym h)
like-some stop h = none-not-some (sym h)

like-code : (k : ℕ) {a : Action} → like_kind (action_kind k) ≡ some a → kind_number a ≡ k
unfolding like_kind kind_code
like-code k h = kind-is k (operand_like (action_kind k)) h

pub like-says : (ks : List ℕ) → KindsSay (actions_like ks) ks
like-says ks = record {
  known = λ n a h. like-code (get_or ks n 0) (sym (kind-like ks n) ∙ h);
  unknown = λ n h a e. like-some a (ap (λ k. like_kind (action_kind k)) e ∙ sym (kind-like ks n) ∙ h);
}

-- ---- an entry, by the kind of its node's action
pub entry-told : (n : ℕ) (l : List NodeAction) (ks : List ℕ) (e : Entry) {x : Bool} → KindsSay l ks → FitsKind n (get_or ks e.node 0) e.target e.other x → x ≡ entry_fits n l e
unfolding entry_fits
entry-told n l ks e {x} k f = go (action_at l e.node) refl
  where
    go : (o : Option Action) → action_at l e.node ≡ o → ◌≡◌ {A = Bool} x (elim o [ none ↦ false | some a ↦ targets_fit n a e.target e.other ])
    go none h = f.of_none (k.unknown e.node h)
    go (some a) h = f.of_kind a (k.known e.node a h)

-- ---- so what fits actions of the kinds fits all actions that have these kinds
module _ (n : ℕ) (l : List NodeAction) (ks : List ℕ) (k : KindsSay l ks) where
  entries-same : entry_fits n (actions_like ks) ≡ entry_fits n l
  entries-same = fun_ext (λ e.
      let f = told n (get_or ks e.node 0) e.target e.other refl in
      sym (entry-told n (actions_like ks) ks e (like-says ks) f) ∙ entry-told n l ks e k f)

  pub location-same : location_fits n (actions_like ks) ≡ location_fits n l
  unfolding location_fits
  location-same = fun_ext (λ es. ap (λ f. rising_from 0 (entry_nodes es) && every f es) entries-same)

-- the judgement for such actions is the judgement for all
locations-like : (ed : Edition) (l : List NodeAction) (ks s : List ℕ) → KindsSay l ks → judge_locations ed (actions_like ks) s ≡ judge_locations ed l s
unfolding judge_locations locations_fit_in
locations-like ed l ks s k = then_same (need 19 (locations_in ed s)) (λ ls. ap (λ f. ensure 19 (every f ls) >> accepted ls) (location-same (length ls) l ks k))

pub answers-like : (ed : Edition) (l : List NodeAction) (ks s : List ℕ) → KindsSay l ks → answered (location_index ed s) (judge_locations ed (actions_like ks) s) ≡ answered (location_index ed s) (judge_locations ed l s)
answers-like ed l ks s k = ap (answered (location_index ed s)) (locations-like ed l ks s k)
