-- What an event is judged: its numbers are 24 to 31, its mover acts and may move so, and values and modes stay as many.
use mathlib.Core.Path.{◌≡◌, refl, sym, ap, subst, subst₂, ◌∙◌}
use mathlib.Core.Bool.{Bool, true, false, not}
use mathlib.Core.List.Memᴰ
use mathlib.Core.List.{List, [], ◌∷◌, map, Memᴰ as Mem}
use mathlib.Core.Option.{Option, none, some}
use Prim.Native.Nat.{ℕ, suc}
use native.Mathlib.Omega.{arith}
use lib.ListN.{length, get_elem?, set, length-set}
use lib.IntN.{ℤ}
use Rattle.semantics.specs.Bytes.{every, within}
use Rattle.semantics.specs.Editions.{Edition}
use Rattle.semantics.specs.Expressions.{Side, Value, ok, fault, value_of_number, value_of_truth, then_value}
use Rattle.semantics.specs.Sections.{Variable}
use Rattle.semantics.specs.Plant.{Plant, among, current_modes, current_truths, declared, declared_at, stored, all_declared, added, rate_of, advance}
use Rattle.semantics.specs.Events.{Event, tick, pick, take_switch, senseless}
use Rattle.semantics.specs.Run.{Action, test, wait, assign, switch, stop, is_test, possible, Verdict, away, faulty, pass, ◌>>=◌, ◌>>◌, allow, find, valued, Moved, nobody, mover, Done, is_wait, wait_truth, walk, check_modes, assigned, act, judge_switch, check_of_switch, judge_pick, judge_tick, judge}
use Rattle.semantics.proofs.Facts.{among-mem}

-- 24 to 31; 23 is said before an event is judged
unfoldable pub in_judging : ℕ → Bool
in_judging n = within 24 31 n

-- what a verdict is where each taken event has the property
pub data Verdicts {A : Type 0} (P : A → Type 0) : Verdict A → Type 0 where
  is_away : {n : ℕ} → in_judging n ≡ true → Verdicts P (away n)
  is_faulty : {s : Side} → Verdicts P (faulty s)
  is_pass : {a : A} → P a → Verdicts P (pass a)

-- ---- verdicts in steps
module _ {A B : Type 0} {P : A → Type 0} {Q : B → Type 0} where
  bind-verdicts : {v : Verdict A} (f : A → Verdict B) → Verdicts P v → ((a : A) → P a → Verdicts Q (f a)) → Verdicts Q (v >>= f)
  unfolding ◌>>=◌
  bind-verdicts f (is_away h) g = is_away h
  bind-verdicts f is_faulty g = is_faulty
  bind-verdicts f (is_pass {a = a} h) g = g a h

  then-verdicts : {v : Verdict A} (w : Verdict B) → Verdicts P v → ((a : A) → P a → Verdicts Q w) → Verdicts Q (v >> w)
  unfolding ◌>>◌
  then-verdicts w (is_away h) g = is_away h
  then-verdicts w is_faulty g = is_faulty
  then-verdicts w (is_pass {a = a} h) g = g a h

allow-verdicts : (n : ℕ) (b : Bool) → in_judging n ≡ true → Verdicts (λ u. b ≡ true) (allow n b)
unfolding allow
allow-verdicts n true h = is_pass refl
allow-verdicts n false h = is_away h

find-verdicts : {A : Type 0} (n : ℕ) (o : Option A) → in_judging n ≡ true → Verdicts (λ a. o ≡ some a) (find n o)
unfolding find
find-verdicts n none h = is_away h
find-verdicts n (some a) h = is_pass refl

valued-verdicts : {A : Type 0} (v : Value A) → Verdicts (λ a. v ≡ ok a) (valued v)
unfolding valued
valued-verdicts (ok a) = is_pass refl
valued-verdicts (fault s) = is_faulty

pass-inverse : {A : Type 0} {P : A → Type 0} {v : Verdict A} {a : A} → Verdicts P v → v ≡ pass a → P a
pass-inverse (is_away h) e = let z : ◌≡◌ {A = ℕ} 0 1 = cc in absurd (omega arith)
pass-inverse is_faulty e = let z : ◌≡◌ {A = ℕ} 0 1 = cc in absurd (omega arith)
pass-inverse {P = P} {a = a} (is_pass {a = x} h) e = let k : x ≡ a = cc in subst P k h

away-inverse : {A : Type 0} {P : A → Type 0} {v : Verdict A} {n : ℕ} → Verdicts P v → v ≡ away n → in_judging n ≡ true
away-inverse {n = n} (is_away {n = m} h) e = let k : m ≡ n = cc in subst (λ i. in_judging i ≡ true) k h
away-inverse is_faulty e = let z : ◌≡◌ {A = ℕ} 0 1 = cc in absurd (omega arith)
away-inverse (is_pass h) e = let z : ◌≡◌ {A = ℕ} 0 1 = cc in absurd (omega arith)

-- ---- values stay as many
added-length : (rate : ℕ → ℤ) (v : ℕ) (zs : List ℤ) → length (added rate v zs) ≡ length zs
unfolding added
added-length rate v [] = refl
added-length rate v (z ∷ zs) = ap suc (added-length rate (suc v) zs)

ok-not-fault : {A C : Type 0} {a : A} {s : Side} → fault s ≡ ok a → C
ok-not-fault h = let z : ◌≡◌ {A = ℕ} 0 1 = cc in absurd (omega arith)

ok-is : {A : Type 0} {a b : A} → ok a ≡ ok b → a ≡ b
ok-is h = cc

pub declared-length : (xs : List Variable) (zs ys : List ℤ) → all_declared xs zs ≡ ok ys → length ys ≡ length zs
unfolding all_declared then_value
declared-length [] zs ys h = ap length (sym (ok-is h))
declared-length (x ∷ xs) [] ys h = ap length (sym (ok-is h))
declared-length (x ∷ xs) (z ∷ zs) ys h = go (declared x z) (all_declared xs zs) refl h (declared-length xs zs)
  where
    go : (v : Value ℤ) (w : Value (List ℤ)) → all_declared xs zs ≡ w → then_value v (λ y. then_value w (λ ys. ok (y ∷ ys))) ≡ ok ys →
        ((ys : List ℤ) → all_declared xs zs ≡ ok ys → length ys ≡ length zs) → length ys ≡ suc (length zs)
    go (ok y) (ok us) e h ih = ap length (sym (ok-is h)) ∙ ap suc (ih us e)
    go (ok y) (fault s) e h ih = ok-not-fault h
    go (fault s) w e h ih = ok-not-fault h

pub advance-length : (p : Plant) (ms : List ℕ) (vs ys : List ℤ) → advance p.variables (rate_of p ms) vs ≡ ok ys → length ys ≡ length vs
unfolding advance
advance-length p ms vs ys h = declared-length p.variables (added (rate_of p ms) 0 vs) ys h ∙ added-length (rate_of p ms) 0 vs

-- an assignment puts one number in its place
pub record Assigned (xs : List Variable) (vs : List ℤ) (v : ℕ) (ys : List ℤ) : Type 0 where
  pub number : ℤ
  pub value : ℤ
  pub in_range : declared_at xs v number ≡ ok value
  pub is : ys ≡ set vs v value

pub assigned-is : (ed : Edition) (xs : List Variable) (vs : List ℤ) (v : ℕ) (e : List ℕ) {ys : List ℤ} → assigned ed xs vs v e ≡ ok ys → Assigned xs vs v ys
unfolding assigned stored then_value
assigned-is ed xs vs v e {ys} h = go (value_of_number ed vs e) h
  where
    put : (z : ℤ) (u : Value ℤ) → declared_at xs v z ≡ u → then_value u (λ y. ok (set vs v y)) ≡ ok ys → Assigned xs vs v ys
    put z (ok y) i h = record { number = z; value = y; in_range = i; is = sym (ok-is h) }
    put z (fault s) i h = ok-not-fault h

    go : (u : Value ℤ) → then_value u (stored xs vs v) ≡ ok ys → Assigned xs vs v ys
    go (ok z) h = put z (declared_at xs v z) refl h
    go (fault s) h = ok-not-fault h

-- ---- a taken event
-- whose move it may be
pub data Movable (action : ℕ → Action) (acting : List ℕ) : Moved → Type 0 where
  nobody_moves : Movable action acting nobody
  one_moves : {n : ℕ} {b : Bool} → Mem n acting → possible (action n) b ≡ true → Movable action acting (mover n b)

movable-inverse : {action : ℕ → Action} {acting : List ℕ} {m : Moved} {n : ℕ} {b : Bool} → Movable action acting m → m ≡ mover n b →
    Mem n acting × (possible (action n) b ≡ true)
movable-inverse nobody_moves e = let z : ◌≡◌ {A = ℕ} 0 1 = cc in absurd (omega arith)
movable-inverse {action = action} {acting = acting} {n = n} {b = b} (one_moves {n = i} {b = c} h k) e =
    let f : i ≡ n = cc in
    let g : c ≡ b = cc in
    (Memᴰ.cast (sym f) h, subst₂ (λ i c. possible (action i) c ≡ true) f g k)

pub record Fair (action : ℕ → Action) (acting : List ℕ) (vs : List ℤ) (ms : List ℕ) (d : Done) : Type 0 where
  pub mover_acts : Movable action acting d.moved
  pub values_kept : length d.values ≡ length vs
  pub modes_kept : length d.modes ≡ length ms

module _ (ed : Edition) where
  walk-verdicts : (n : ℕ) → in_judging n ≡ true → (vs : List ℤ) (ts : List (List ℕ)) → Verdicts (λ u. Unit {0}) (walk ed n vs ts)
  unfolding walk
  walk-verdicts n h vs [] = is_pass tt
  walk-verdicts n h vs (t ∷ ts) =
      let rest = walk-verdicts n h vs ts in
      bind-verdicts _ (valued-verdicts (value_of_truth ed vs t)) (λ b _. then-verdicts _ (allow-verdicts n (not b) h) (λ _ _. rest))

  module _ (p : Plant) (action : ℕ → Action) (acting : List ℕ) (vs : List ℤ) (ms : List ℕ) where
    check-verdicts : Verdicts (λ u. Unit {0}) (check_of_switch ed p vs ms)
    unfolding check_of_switch check_modes in_judging within
    check-verdicts = walk-verdicts 28 refl vs (current_truths (current_modes p ms))

    act-verdicts : (n : ℕ) (a : Action) → action n ≡ a → Mem n acting → Verdicts (Fair action acting vs ms) (act ed p.variables vs ms n a)
    unfolding act possible is_test in_judging within
    act-verdicts n (test t) e m =
        bind-verdicts _ (valued-verdicts (value_of_truth ed vs t))
        (λ b _. is_pass (record { mover_acts = one_moves m (rw e (either b)); values_kept = refl; modes_kept = refl }))
      where
        either : (b : Bool) → possible (test t) b ≡ true
        either true = refl
        either false = refl
    act-verdicts n (wait t) e m =
        bind-verdicts _ (valued-verdicts (value_of_truth ed vs t)) (λ b _. then-verdicts _ (allow-verdicts 29 b refl)
        (λ _ _. is_pass (record { mover_acts = one_moves m refl; values_kept = refl; modes_kept = refl })))
    act-verdicts n (assign v t) e m =
        bind-verdicts _ (valued-verdicts (assigned ed p.variables vs v t)) (λ ys h.
        let q = assigned-is ed p.variables vs v t h in
        is_pass (record { mover_acts = one_moves m refl; values_kept = ap length q.is ∙ length-set vs v q.value; modes_kept = refl }))
    act-verdicts n (switch s k) e m = is_pass (record { mover_acts = one_moves m refl; values_kept = refl; modes_kept = length-set ms s k })
    act-verdicts n stop e m = is_pass (record { mover_acts = one_moves m refl; values_kept = refl; modes_kept = refl })

    pick-verdicts : (n : ℕ) → Verdicts (Fair action acting vs ms) (judge_pick ed p action acting vs ms n)
    unfolding judge_pick in_judging within
    pick-verdicts n =
        then-verdicts _ (allow-verdicts 25 (among n acting) refl) (λ _ h.
        then-verdicts _ check-verdicts (λ _ _. act-verdicts n (action n) refl (among-mem n acting h)))

    switch-verdicts : (s k : ℕ) → Verdicts (Fair action acting vs ms) (judge_switch ed (current_modes p ms) vs ms s k)
    unfolding judge_switch in_judging within
    switch-verdicts s k =
        bind-verdicts _ (find-verdicts 26 (get_elem? (current_modes p ms) s) refl) (λ m _.
        bind-verdicts _ (find-verdicts 26 (get_elem? m.switches k) refl) (λ w _.
        bind-verdicts _ (valued-verdicts (value_of_truth ed vs w.truth)) (λ b _.
        then-verdicts _ (allow-verdicts 30 b refl) (λ _ _.
        is_pass (record { mover_acts = nobody_moves; values_kept = refl; modes_kept = length-set ms s w.target })))))

    tick-verdicts : Verdicts (Fair action acting vs ms) (judge_tick ed p action acting vs ms)
    unfolding judge_tick in_judging within
    tick-verdicts =
        then-verdicts _ (allow-verdicts 27 (every (λ n. is_wait (action n)) acting) refl) (λ _ _.
        then-verdicts _ check-verdicts (λ _ _.
        then-verdicts _ (walk-verdicts 31 refl vs (map (λ n. wait_truth (action n)) acting)) (λ _ _.
        bind-verdicts _ (valued-verdicts (advance p.variables (rate_of p ms) vs)) (λ ys h.
        is_pass (record { mover_acts = nobody_moves; values_kept = advance-length p ms vs ys h; modes_kept = refl })))))

    pub judge-verdicts : (e : Event) → Verdicts (Fair action acting vs ms) (judge ed p action acting vs ms e)
    unfolding judge in_judging within
    judge-verdicts tick = tick-verdicts
    judge-verdicts (pick n) = pick-verdicts n
    judge-verdicts (take_switch s k) = switch-verdicts s k
    judge-verdicts senseless = is_away refl

    -- an accepted move is an acting node's, on an outcome that its action may have
    pub judged-possible : (e : Event) (d : Done) (n : ℕ) (b : Bool) → judge ed p action acting vs ms e ≡ pass d → d.moved ≡ mover n b →
        Mem n acting × (possible (action n) b ≡ true)
    judged-possible e d n b h k = movable-inverse (pass-inverse (judge-verdicts e) h).mover_acts k

    pub judged-away : (e : Event) (n : ℕ) → judge ed p action acting vs ms e ≡ away n → within 24 31 n ≡ true
    unfolding in_judging
    judged-away e n h = away-inverse (judge-verdicts e) h
