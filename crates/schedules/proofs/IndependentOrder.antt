-- Document 02, item 5: two assignments in different children of a PARALLEL, neither's variable in the other's statement, can be picked in either order.
use mathlib.Core.Path.{◌≡◌, refl, sym, ap, ap₂, ◌∙◌}
use mathlib.Core.Bool.{Bool, true, false, ◌&&◌, ◌||◌}
use mathlib.Core.List.{List, flat_map, Memᴰ as Mem}
use mathlib.Core.Option.{Option, none, some}
use Prim.Native.Nat.{ℕ}
use borrow.Author.Tests.{eq-eqb}
use lib.Dec.{eqb}
use lib.ListN.{length, set, length-set}
use lib.Seq.{get_or-set_other, set_comm}
use lib.IntN.{ℤ, pos}
use Rattle.semantics.specs.Bytes.{within}
use Rattle.semantics.specs.Editions.{Edition}
use Rattle.semantics.specs.Expressions.{Number, constant, variable, operate, negation, Side, above, below, Value, ok, fault, result, then_value, value_of, number_in, value_of_number}
use Rattle.semantics.specs.Events.{pick, event_in}
use Rattle.semantics.specs.Plant.{current_of, current_modes, current_truths, declared_at, stored}
use Rattle.semantics.specs.Run.{assign, Next, to, finished, halted, idle, pass, ◌>>=◌, ◌>>◌, allow, valued, walk, check_modes, check_of_switch, assigned, act, judge_pick, judge, mover, Situation, Answered, at, over, fault_answer, arrive, follow, settle, step, is_taken}
use Rattle.semantics.proofs.Facts.{true-not-false, mem-among}
use Rattle.schedules.specs.Nodes.{node_action}
use Rattle.schedules.specs.Residuals.{Residual, acting, move}
use Rattle.schedules.specs.Files.{Schedule, rule_control}
use Rattle.schedules.specs.Independent.{WithoutCase, occurs, occurs_in, second, both_taken, EitherOrder}
use Rattle.schedules.proofs.MovesFit.{never-idle}
use Rattle.schedules.proofs.MovesCommute.{Exchange}

-- ---- a variable that does not occur does not matter
pub neither_left : (a b : Bool) → (a || b) ≡ false → a ≡ false
neither_left true b h = h
neither_left false b h = refl

pub neither_right : (a b : Bool) → (a || b) ≡ false → b ≡ false
neither_right true b h = true-not-false h
neither_right false b h = h

pub other-variable : (v w : ℕ) → eqb w v ≡ false → w ≡ v → ⊥
other-variable v w h e = true-not-false (sym (eq-eqb w v e) ∙ h)

value-without : (vs : List ℤ) (v : ℕ) (y : ℤ) (e : Number) → occurs v e ≡ false → value_of (set vs v y) e ≡ value_of vs e
unfolding occurs value_of
value-without vs v y (constant z) h = refl
value-without vs v y (variable w) h = ap result (get_or-set_other vs v w y (pos 0) (other-variable v w h))
value-without vs v y (operate o a b) h =
    rw (value-without vs v y a (neither_left (occurs v a) (occurs v b) h), value-without vs v y b (neither_right (occurs v a) (occurs v b) h)) refl
value-without vs v y (negation a) h = rw (value-without vs v y a h) refl

number-without : (ed : Edition) (vs : List ℤ) (v : ℕ) (y : ℤ) (e : List ℕ) → occurs_in ed (length vs) v e ≡ false → value_of_number ed (set vs v y) e ≡ value_of_number ed vs e
unfolding occurs_in value_of_number
number-without ed vs v y e h =
    ap {B = Value ℤ} (λ k. elim (number_in ed k e) [ none ↦ fault above | some x ↦ value_of (set vs v y) x ]) (length-set vs v y) ∙ go (number_in ed (length vs) e) h
  where
    go : (o : Option Number) → elim o [ none ↦ false | some x ↦ occurs v x ] ≡ false →
        ◌≡◌ {A = Value ℤ} (elim o [ none ↦ fault above | some x ↦ value_of (set vs v y) x ]) (elim o [ none ↦ fault above | some x ↦ value_of vs x ])
    go none h = refl
    go (some x) h = value-without vs v y x h

-- ---- what picking an assignment comes to
module _ (ed : Edition) (s : Schedule) where
  -- the value that is assigned, or the fault
  given : List ℤ → ℕ → List ℕ → Value ℤ
  given vs v e = then_value (value_of_number ed vs e) (declared_at s.plant.variables v)

  settled : Situation Residual → Residual → ℕ → ℕ → Value ℤ → Answered Residual
  settled x r n v (ok y) = arrive x (move r n true) (set x.values v y) x.modes
  settled x r n v (fault side) = record { answer = fault_answer side; left = over x.values x.modes }

  -- with no CASE there is no switch to check
  nothing-checked : WithoutCase s → (vs : List ℤ) (ms : List ℕ) → check_of_switch ed s.plant vs ms ≡ pass tt
  unfolding check_of_switch check_modes current_truths current_modes current_of flat_map walk
  nothing-checked h vs ms = rw h refl

  act-settled : (x : Situation Residual) (r : Residual) (n v : ℕ) (e : List ℕ) →
      settle (rule_control s) r x (act ed s.plant.variables x.values x.modes n (assign v e)) ≡ settled x r n v (given x.values v e)
  unfolding act assigned stored settle follow given settled ◌>>=◌ valued then_value rule_control
  act-settled x r n v e = go (value_of_number ed x.values e)
    where
      end : Value (List ℤ) → Answered Residual
      end k = settle (rule_control s) r x (valued k >>= λ ys. pass (record { moved = mover n true; values = ys; modes = x.modes }))

      on : (k : Value ℤ) → end (then_value k (λ y. ok (set x.values v y))) ≡ settled x r n v k
      on (ok y) = refl
      on (fault side) = refl

      go : (k : Value ℤ) → end (then_value k (stored s.plant.variables x.values v)) ≡ settled x r n v (then_value k (declared_at s.plant.variables v))
      go (ok z) = on (declared_at s.plant.variables v z)
      go (fault side) = refl

  pick-settled : WithoutCase s → (x : Situation Residual) (r : Residual) (event : List ℕ) (n v : ℕ) (e : List ℕ) →
      x.place ≡ some r → event_in ed event ≡ pick n → Mem n (acting r) → node_action s.nodes n ≡ assign v e →
      step ed s.plant (rule_control s) x event ≡ settled x r n v (given x.values v e)
  unfolding step judge judge_pick allow ◌>>◌ rule_control
  pick-settled free x r event n v e p i m q = rw (p, i, mem-among n (acting r) m, nothing-checked free x.values x.modes, q) (act-settled (at r x.values x.modes) r n v e)

  given-without : (vs : List ℤ) (v w : ℕ) (y : ℤ) (e : List ℕ) → occurs_in ed (length vs) v e ≡ false → given (set vs v y) w e ≡ given vs w e
  unfolding given
  given-without vs v w y e h = ap (λ k. then_value k (declared_at s.plant.variables w)) (number-without ed vs v y e h)

-- ---- taken or not
fault-untaken : (side : Side) → is_taken (fault_answer side) ≡ false
unfolding fault_answer is_taken within
fault-untaken above = refl
fault-untaken below = refl

and-false : (a : Bool) {b : Bool} → b ≡ false → (a && b) ≡ false
and-false true h = h
and-false false h = refl

-- where a move leads somewhere, the situation before it does not matter
arrive-anyway : (x y : Situation Residual) (n : Next Residual) (vs : List ℤ) (ms : List ℕ) → (n ≡ idle → ⊥) → arrive x n vs ms ≡ arrive y n vs ms
unfolding arrive
arrive-anyway x y (to r) vs ms h = refl
arrive-anyway x y finished vs ms h = refl
arrive-anyway x y halted vs ms h = refl
arrive-anyway x y idle vs ms h = absurd (h refl)

-- ---- two picks
module _ (ed : Edition) (s : Schedule) (free : WithoutCase s) (x : Situation Residual) (r : Residual) (here : x.place ≡ some r) where
  abbrev stepped : List ℕ → Answered Residual
  stepped e = step ed s.plant (rule_control s) x e

  -- an event that picks node n, which acts and assigns e to v
  pub record Picks (event : List ℕ) (n v : ℕ) (e : List ℕ) : Type 0 where
    pub is-pick : event_in ed event ≡ pick n
    pub acts : Mem n (acting r)
    pub assigns : node_action s.nodes n ≡ assign v e

  module _ {event : List ℕ} {n v : ℕ} {e : List ℕ} (p : Picks event n v e) where
    first-settled : stepped event ≡ settled ed s x r n v (given ed s x.values v e)
    first-settled = pick-settled ed s free x r event n v e here p.is-pick p.acts p.assigns

    first_on : {y : ℤ} {q : Residual} → given ed s x.values v e ≡ ok y → move r n true ≡ to q → stepped event ≡ record { answer = 200; left = at q (set x.values v y) x.modes }
    unfolding settled arrive
    first_on {y} {q} h k = first-settled ∙ ap (settled ed s x r n v) h ∙ ap (λ z. arrive x z (set x.values v y) x.modes) k

    untaken-first : {side : Side} (other : List ℕ) → given ed s x.values v e ≡ fault side → both_taken ed s x event other ≡ false
    unfolding both_taken settled
    untaken-first {side} other h =
        let k : is_taken (stepped event).answer ≡ false = ap (λ (o : Answered Residual). is_taken o.answer) (first-settled ∙ ap (settled ed s x r n v) h) ∙ fault-untaken side in
        rw k refl

    module _ {other : List ℕ} {m w : ℕ} {f : List ℕ} (p' : Picks other m w f) (apart : occurs_in ed (length x.values) v f ≡ false) where
      second-settled : {y : ℤ} {q : Residual} → given ed s x.values v e ≡ ok y → move r n true ≡ to q → Mem m (acting q) →
          second ed s x event other ≡ settled ed s (at q (set x.values v y) x.modes) q m w (given ed s x.values w f)
      unfolding second
      second-settled {y} {q} h k acts =
          let between = at q (set x.values v y) x.modes in
          ap (λ (o : Answered Residual). step ed s.plant (rule_control s) o.left other) (first_on h k)
          ∙ pick-settled ed s free between q other m w f refl p'.is-pick acts p'.assigns
          ∙ ap (settled ed s between q m w) (given-without ed s x.values v w y f apart)

      untaken-second : {q : Residual} {side : Side} → move r n true ≡ to q → Mem m (acting q) → given ed s x.values w f ≡ fault side → both_taken ed s x event other ≡ false
      unfolding both_taken settled
      untaken-second {q} {side} k acts h = go (given ed s x.values v e) refl
        where
          go : (a : Value ℤ) → given ed s x.values v e ≡ a → both_taken ed s x event other ≡ false
          go (fault z) i = untaken-first other i
          go (ok y) i =
              let end = second-settled i k acts ∙ ap (settled ed s (at q (set x.values v y) x.modes) q m w) h in
              and-false (is_taken (stepped event).answer) (ap (λ (o : Answered Residual). is_taken o.answer) end ∙ fault-untaken side)

  module _ {event other : List ℕ} {a b v w : ℕ} {e f : List ℕ} (p : Picks event a v e) (p' : Picks other b w f) (ne : v ≡ w → ⊥)
      (v-apart : occurs_in ed (length x.values) v f ≡ false) (w-apart : occurs_in ed (length x.values) w e ≡ false) (ex : Exchange r a b true true) where
    both-on : {y z : ℤ} → given ed s x.values v e ≡ ok y → given ed s x.values w f ≡ ok z → second ed s x event other ≡ second ed s x other event
    unfolding settled
    both-on {y} {z} h k =
        let one = at ex.one (set x.values v y) x.modes in
        let two = at ex.other (set x.values w z) x.modes in
        second-settled p p' v-apart h ex.one_moves ex.other_acts
        ∙ ap (settled ed s one ex.one b w) k
        ∙ ap₂ (λ n vs. arrive one n vs x.modes) ex.same (set_comm x.values v w y z ne)
        ∙ arrive-anyway one two (move ex.other a true) (set (set x.values w z) v y) x.modes (never-idle ex.other a true ex.one_acts)
        ∙ sym (ap (settled ed s two ex.other a v) h)
        ∙ sym (second-settled p' p w-apart k ex.other_moves ex.one_acts)

    pub either_order : EitherOrder ed s x event other
    unfolding both_taken
    either_order = go (given ed s x.values v e) refl (given ed s x.values w f) refl
      where
        neither : both_taken ed s x event other ≡ false → both_taken ed s x other event ≡ false → EitherOrder ed s x event other
        neither h k = record { taken = h ∙ sym k; same = λ t. true-not-false (sym t ∙ h) }

        go : (c : Value ℤ) → given ed s x.values v e ≡ c → (d : Value ℤ) → given ed s x.values w f ≡ d → EitherOrder ed s x event other
        go (ok y) h (ok z) k =
            let said = ap (λ (o : Answered Residual). o.answer) (first_on p h ex.one_moves) ∙ sym (ap (λ (o : Answered Residual). o.answer) (first_on p' k ex.other_moves)) in
            let last = both-on h k in
            record { taken = ap₂ (λ n (o : Answered Residual). is_taken n && is_taken o.answer) said last; same = λ t. last }
        go (fault side) h d k = neither (untaken-first p other h) (untaken-second p' p w-apart ex.other_moves ex.one_acts h)
        go (ok y) h (fault side) k = neither (untaken-second p p' v-apart ex.one_moves ex.other_acts k) (untaken-first p' event k)
