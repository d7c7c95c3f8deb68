-- What a picked node does.
use mathlib.Core.Path.{◌≡◌, refl, sym, ap, ◌∙◌}
use mathlib.Core.Bool.{Bool, true, false, cond}
use mathlib.Core.List.{List, [], ◌∷◌}
use mathlib.Core.Option.{some}
use Prim.Native.Nat.{ℕ, suc, ◌-◌, ◌≤◌, ◌<◌}
use native.Mathlib.Omega.{arith}
use borrow.Author.Tests.{ne_eqb}
use lib.IntN.{ℤ}
use lib.Dec.{eqb}
use lib.ListN.{length, get_or, set, take, drop}
use lib.Seq.{take_all}
use Rattle.semantics.specs.Editions.{Edition}
use Rattle.semantics.specs.Expressions.{Side, Value, ok, fault, above, below, ranged, then_value, number_in, value_of_number, value_of_truth}
use Rattle.semantics.specs.Bytes.{from_no_bytes, from_two_bytes, byte_and_rest}
use Rattle.semantics.specs.Sections.{Variable}
use Rattle.semantics.specs.Plant.{declared_at, stored}
use Rattle.semantics.specs.Run.{Action, test, wait, assign, switch, stop, ◌>>=◌, ◌>>◌, pass, allow, valued, mover, assigned, act}
use Rattle.semantics.specs.TableFile.{action_kind, action_of_kind, an_assignment, a_stop, no_kind}
use Rattle.semantics.proofs.Facts.{true-not-false, none-not-some, some_is}
use Rattle.expression.specs.Answers.{number_answer}
use Rattle.std.specs.Prelude as answers
use Rattle.expression.specs.declared.Side as Code
use Rattle.expression.specs.declared.Side.TheVariants as Sides
use Rattle.expression.proofs.Values.{all_told, number-valued, number-malformed}
use Rattle.effects.specs.Verdicts.{done_verdict, step_verdict, is_going_on, truth_verdict, Left, or_else, Gives}
use Rattle.effects.proofs.PaperNumbers.{left-away, left-above, left_below, left-move}
use Rattle.effects.specs.ActionForms.{Performs, Assigns, Does}
use Rattle.effects.specs.PaperNumbers.{Verdict, Away, Above, Below, Move}
use Rattle.effects.specs.Told.{untaken, value_taken}
use Rattle.effects.specs.declared.Untaken.{Untaken}
use Rattle.effects.proofs.Adds.{inside}

err-is : {A : Type 0} {u w : Untaken} → ◌≡◌ {A = answers.Result A Untaken} (answers.Err u) (answers.Err w) → u ≡ w
err-is e = cc

-- ---- a variable that is set
gives-ok : {A : Type 0} (d : Verdict) (a : A) {v : Value A} {b : A} → v ≡ ok b → Gives d a v d b
unfolding done_verdict valued or_else
gives-ok d a e = rw e (record { answer = refl; left = refl })

-- the same fault, whatever would have been done
gives-fault : {A B : Type 0} (d : Verdict) (a : A) (u : Value B) (f : B → Value A) (r : Verdict) → r ≡ step_verdict (valued u) → is_going_on r ≡ false → Gives d a (then_value u f) r a
unfolding done_verdict valued or_else then_value is_going_on
gives-fault d a (ok b) f r e h = true-not-false (sym (ap is_going_on e) ∙ h)
gives-fault d a (fault above) f r e h = record { answer = e; left = refl }
gives-fault d a (fault below) f r e h = record { answer = e; left = refl }

module _ (xs : List Variable) (vs : List ℤ) (v : ℕ) (d : Verdict) where
  module _ (l h z : ℤ) (is : declared_at xs v z ≡ ranged l h z) (r : Verdict) (e : r ≡ step_verdict (valued (ranged l h z))) where
    pub stored-in : is_going_on r ≡ true → Gives d vs (stored xs vs v z) d (set vs v z)
    unfolding stored then_value
    stored-in f = gives-ok d vs (rw (is, (inside l h z (ap is_going_on (sym e) ∙ f)).same) refl)

    pub stored-out : is_going_on r ≡ false → Gives d vs (stored xs vs v z) r vs
    unfolding stored
    stored-out f = gives-fault d vs (declared_at xs v z) _ r (e ∙ ap (λ x. step_verdict (valued x)) (sym is)) f

  -- ---- a number that is assigned
  module _ (ed : Edition) (e : List ℕ) (n : answers.Option (answers.Result ℤ Code.Side)) (told : n ≡ number_answer vs (number_in ed (length vs) e)) where
    number_is : (w : Value ℤ) → all_told n ≡ some w → value_of_number ed vs e ≡ w
    number_is w h = (number-valued ed vs e told h).value

    malformed-is : n ≡ answers.None → value_of_number ed vs e ≡ fault above
    unfolding value_of_number
    malformed-is h = rw (number-malformed ed vs e told h, value_of_number) refl

    pub assigned-number : (z : ℤ) (r : Verdict) (ys : List ℤ) → n ≡ answers.Some (answers.Ok z) → Gives d vs (stored xs vs v z) r ys → Gives d vs (assigned ed xs vs v e) r ys
    unfolding assigned then_value
    assigned-number z r ys h g = rw (number_is (ok z) (ap all_told h)) g

    faults : (s : Side) (r : Verdict) → value_of_number ed vs e ≡ fault s → r ≡ step_verdict (valued {A = ℤ} (fault s)) → is_going_on r ≡ false → Gives d vs (assigned ed xs vs v e) r vs
    unfolding assigned
    faults s r h k f = gives-fault d vs (value_of_number ed vs e) _ r (k ∙ sym (ap (λ x. step_verdict (valued x)) h)) f

    -- whatever the fault, and where condition 12 turns the number away
    pub assigned-fault : (why : Untaken) → value_taken n ≡ answers.Err why → Gives d vs (assigned ed xs vs v e) (untaken why) vs
    unfolding done_verdict valued is_going_on
    assigned-fault why h = go n refl h
      where
        go : (r : answers.Option (answers.Result ℤ Code.Side)) → n ≡ r → value_taken r ≡ answers.Err why → Gives d vs (assigned ed xs vs v e) (untaken why) vs
        go (answers.Some (answers.Ok z)) k h = absurd (cc)
        go (answers.Some (answers.Err Sides.Above)) k h = rw (sym (err-is h)) (faults above Above (number_is (fault above) (ap all_told k)) refl refl)
        go (answers.Some (answers.Err Sides.Below)) k h = rw (sym (err-is h)) (faults below Below (number_is (fault below) (ap all_told k)) refl refl)
        go answers.None k h = rw (sym (err-is h)) (faults above Above (malformed-is k) refl refl)

    pub number-taken : {z : ℤ} → value_taken n ≡ answers.Ok z → n ≡ answers.Some (answers.Ok z)
    number-taken {z} h = go n h
      where
        go : (r : answers.Option (answers.Result ℤ Code.Side)) → value_taken r ≡ answers.Ok z → r ≡ answers.Some (answers.Ok z)
        go (answers.Some (answers.Ok y)) h = cc
        go (answers.Some (answers.Err Sides.Above)) h = absurd (cc)
        go (answers.Some (answers.Err Sides.Below)) h = absurd (cc)
        go answers.None h = absurd (cc)

-- the same variable and number, said in another way
pub stored-as : (xs : List Variable) (vs : List ℤ) (d : Verdict) {v w : ℕ} {z y : ℤ} {r : Verdict} {ys : List ℤ} → v ≡ w → z ≡ y → Gives d vs (stored xs vs v z) r ys → Gives d vs (stored xs vs w y) r ys
stored-as xs vs d e f g = rw (← e, ← f) g

-- an operand of an assignment: its variable, and its number from the second byte on
pub operand-is : (t : List ℕ) {v : ℕ} {e : List ℕ} → action_of_kind an_assignment t ≡ some (assign v e) → (get_or t 0 0 ≡ v) × (take (length t - 1) (drop 1 t) ≡ e)
unfolding action_of_kind byte_and_rest
operand-is t {v} {e} h = go t h
  where
    go : (s : List ℕ) → byte_and_rest assign s ≡ some (assign v e) → (get_or s 0 0 ≡ v) × (take (length s - 1) (drop 1 s) ≡ e)
    go [] h = none-not-some h
    go (b ∷ s) h = let same = some_is h in (cc, take_all (suc (length s) - 1) s (omega arith) ∙ cc)

-- ---- the five kinds
module _ (k : ℕ) (t : List ℕ) {a : Action} (is : action_of_kind (action_kind k) t ≡ some a) where
  by_kind : {j : ℕ} → k ≡ j → action_of_kind (action_kind j) t ≡ some a
  by_kind e = sym (ap (λ i. action_of_kind (action_kind i) t) e) ∙ is

  pub is-test : k ≡ 1 → a ≡ test t
  unfolding action_kind action_of_kind
  is-test e = sym (some_is (by_kind e))

  pub is-wait : k ≡ 2 → a ≡ wait t
  unfolding action_kind action_of_kind
  is-wait e = sym (some_is (by_kind e))

  pub is-assign : k ≡ 3 → (v : ℕ) × (e : List ℕ) × (t ≡ v ∷ e) × (a ≡ assign v e)
  unfolding action_kind action_of_kind byte_and_rest
  is-assign e = go t refl (by_kind e)
    where
      go : (s : List ℕ) → t ≡ s → byte_and_rest assign s ≡ some a → (v : ℕ) × (e : List ℕ) × (t ≡ v ∷ e) × (a ≡ assign v e)
      go [] h i = none-not-some i
      go (v ∷ s) h i = (v, s, h, sym (some_is i))

  pub is_switch : k ≡ 4 → (s : ℕ) × (m : ℕ) × (t ≡ s ∷ m ∷ []) × (a ≡ switch s m)
  unfolding action_kind action_of_kind from_two_bytes
  is_switch e = go t refl (by_kind e)
    where
      go : (l : List ℕ) → t ≡ l → from_two_bytes switch l ≡ some a → (s : ℕ) × (m : ℕ) × (t ≡ s ∷ m ∷ []) × (a ≡ switch s m)
      go [] h i = none-not-some i
      go (s ∷ []) h i = none-not-some i
      go (s ∷ m ∷ []) h i = (s, m, h, sym (some_is i))
      go (s ∷ m ∷ x ∷ l) h i = none-not-some i

  pub is_stop : (k ≡ 1 → ⊥) → (k ≡ 2 → ⊥) → (k ≡ 3 → ⊥) → (k ≡ 4 → ⊥) → a ≡ stop
  unfolding action_kind action_of_kind from_no_bytes
  is_stop f g h i = go (eqb k 5) t (rw (ne_eqb k 1 f, ne_eqb k 2 g, ne_eqb k 3 h, ne_eqb k 4 i) at is)
    where
      go : (b : Bool) (l : List ℕ) → action_of_kind (cond b a_stop no_kind) l ≡ some a → a ≡ stop
      go true [] q = sym (some_is q)
      go true (x ∷ l) q = none-not-some q
      go false l q = none-not-some q

-- what a kind 3 or 4 names: so many bytes at least, and a number below the bound
pub record Named (t : List ℕ) (bytes bound : ℕ) : Type 0 where
  pub long : bytes ≤ length t
  pub known : get_or t 0 0 < bound

pub assign-named : {k : ℕ} {t : List ℕ} {variables selectors : ℕ} → Performs k t variables selectors → k ≡ 3 → Named t 1 variables
assign-named {k} {t} p e = let q = is-assign k t p.is e in rw q.2 (record { long = omega arith; known = p.assigns q.0 q.1 q.3 })

pub switch-named : {k : ℕ} {t : List ℕ} {variables selectors : ℕ} → Performs k t variables selectors → k ≡ 4 → Named t 2 selectors
switch-named {k} {t} p e = let q = is_switch k t p.is e in rw q.2 (record { long = omega arith; known = p.switches q.0 q.1 q.3 })

module _ (xs : List Variable) (vs : List ℤ) (ms : List ℕ) (n : ℕ) where
  tested : (u : Value Bool) {r : Verdict} → r ≡ truth_verdict (Move n true) (Move n false) u → Left (valued u >>= (λ b. pass (record { moved = mover n b; values = vs; modes = ms }))) vs ms r vs ms
  unfolding valued ◌>>=◌ truth_verdict
  tested (ok true) e = left-move e refl
  tested (ok false) e = left-move e refl
  tested (fault above) e = left-above e refl
  tested (fault below) e = left_below e refl

  awaited : (u : Value Bool) {r : Verdict} → r ≡ truth_verdict (Move n true) (Away 29) u → Left (valued u >>= (λ b. allow 29 b >> pass (record { moved = mover n true; values = vs; modes = ms }))) vs ms r vs ms
  unfolding valued ◌>>=◌ ◌>>◌ allow truth_verdict
  awaited (ok true) e = left-move e refl
  awaited (ok false) e = left-away e refl
  awaited (fault above) e = left-above e refl
  awaited (fault below) e = left_below e refl

  put : (u : Value (List ℤ)) {r : Verdict} {ys : List ℤ} → Gives (Move n true) vs u r ys → Left (valued u >>= (λ zs. pass (record { moved = mover n true; values = zs; modes = ms }))) vs ms r ys ms
  unfolding valued ◌>>=◌ done_verdict or_else
  put (ok zs) g = left-move g.answer (ap (λ l. pass (record { moved = mover n true; values = l; modes = ms })) (sym g.left))
  put (fault above) g = rw g.left (left-above g.answer refl)
  put (fault below) g = rw g.left (left_below g.answer refl)

  module _ (k : ℕ) (t : List ℕ) where
    pub tests : {r : Verdict} → k ≡ 1 → ((ed : Edition) → r ≡ truth_verdict (Move n true) (Move n false) (value_of_truth ed vs t)) → Does k t xs n vs ms r vs ms
    unfolding act
    tests e h = record { leaves = λ ed a i. rw (is-test k t i e) (tested (value_of_truth ed vs t) (h ed)) }

    pub waits : {r : Verdict} → k ≡ 2 → ((ed : Edition) → r ≡ truth_verdict (Move n true) (Away 29) (value_of_truth ed vs t)) → Does k t xs n vs ms r vs ms
    unfolding act
    waits e h = record { leaves = λ ed a i. rw (is-wait k t i e) (awaited (value_of_truth ed vs t) (h ed)) }

    pub assigns : {r : Verdict} {ys : List ℤ} → k ≡ 3 → Assigns t xs (Move n true) vs r ys → Does k t xs n vs ms r ys ms
    unfolding act action_kind
    assigns e g = record { leaves = λ ed a i. let q = is-assign k t i e in rw q.3 (put (assigned ed xs vs q.0 q.1) (g.gives ed q.0 q.1 (by_kind k t i e ∙ ap some q.3))) }

    pub switches : k ≡ 4 → Does k t xs n vs ms (Move n true) vs (set ms (get_or t 0 0) (get_or t 1 0))
    unfolding act
    switches e = record {
      leaves = λ ed a i.
          let q = is_switch k t i e in
          rw q.3 (left-move refl (sym (ap (λ l. pass (record { moved = mover n true; values = vs; modes = set ms (get_or l 0 0) (get_or l 1 0) })) q.2)));
    }

    pub others : (k ≡ 1 → ⊥) → (k ≡ 2 → ⊥) → (k ≡ 3 → ⊥) → (k ≡ 4 → ⊥) → Does k t xs n vs ms (Move n true) vs ms
    unfolding act
    others f g h j = record { leaves = λ ed a i. rw (is_stop k t i f g h j) (left-move refl refl) }
