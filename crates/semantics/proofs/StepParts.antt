-- The stages of a step against the parts of the rules: walks over truths, waits, ranges and rates.
use mathlib.Core.Path.{◌≡◌, refl, sym, ap, subst₂, ◌∙◌}
use mathlib.Core.Bool.{Bool, true, false}
use mathlib.Core.List.Memᴰ.{head as first}
use mathlib.Core.List.Memᴰ.{tail as later}
use mathlib.Core.List.{List, [], ◌∷◌, map, Memᴰ as Mem}
use mathlib.Core.Option.{some}
use Prim.Native.Nat.{ℕ, zero, suc, ◌+◌, ◌<◌}
use native.Mathlib.Omega.{arith}
use lib.IntN.{ℤ, ◌+ℤ◌}
use lib.Signed.{le_z}
use lib.ListN.{length, get_elem?}
use Rattle.semantics.specs.Bytes.{every}
use Rattle.semantics.specs.Editions.{Edition}
use Rattle.semantics.specs.Expressions.{Side, Value, ok, fault, ranged, then_value, value_of_truth}
use Rattle.semantics.specs.Sections.{Variable}
use Rattle.semantics.specs.Plant.{declared, all_declared, added}
use Rattle.semantics.specs.Run.{Action, test, wait, assign, switch, stop, is_wait, wait_truth, Verdict, away, faulty, pass, ◌>>=◌, ◌>>◌, allow, valued, walk}
use Rattle.semantics.specs.Rules.{Found, nothing, found_true, found_fault, Walks, walk_ends, walk-on, stops-at-truth, stops-at-fault, Waits, none_waits, one_waits, InRange, Outside, below_minimum, above_maximum, AllInRange, FirstOutside}
use Rattle.semantics.proofs.Facts.{true-not-false, none-not-some, some_is, by_cases, every-all, all-mem, lt_z-le_z}
use Rattle.semantics.proofs.ComesTo.{truth-comes-to, truth-value}

-- ---- walks
unfoldable pub found_as : ℕ → Found → Verdict (Unit {0})
found_as n nothing = pass tt
found_as n found_true = away n
found_as n (found_fault s) = faulty s

pub walk-found : {ed : Edition} {vs : List ℤ} {ts : List (List ℕ)} {f : Found} → Walks ed vs ts f → (n : ℕ) → walk ed n vs ts ≡ found_as n f
unfolding walk found_as ◌>>=◌ ◌>>◌ allow valued
walk-found walk_ends n = refl
walk-found {ed} {vs} (walk-on e w) n = rw (truth-value ed vs e, walk) (walk-found w n)
walk-found {ed} {vs} (stops-at-truth e) n = rw (truth-value ed vs e, walk) refl
walk-found {ed} {vs} (stops-at-fault e) n = rw (truth-value ed vs e, walk) refl

-- every walk stops somewhere or ends
pub found-walk : (ed : Edition) (vs : List ℤ) (ts : List (List ℕ)) → (f : Found) × Walks ed vs ts f
found-walk ed vs [] = (nothing, walk_ends)
found-walk ed vs (t ∷ ts) = go (value_of_truth ed vs t) refl (found-walk ed vs ts)
  where
    go : (v : Value Bool) → value_of_truth ed vs t ≡ v → ((f : Found) × Walks ed vs ts f) → (f : Found) × Walks ed vs (t ∷ ts) f
    go (ok true) e w = (found_true, stops-at-truth (truth-comes-to ed vs t e))
    go (ok false) e w = (w.0, walk-on (truth-comes-to ed vs t e) w.1)
    go (fault s) e w = (found_fault s, stops-at-fault (truth-comes-to ed vs t e))

-- ---- waits
pub waits-every : {action : ℕ → Action} {ns : List ℕ} {ts : List (List ℕ)} → Waits action ns ts → every (λ n. is_wait (action n)) ns ≡ true
unfolding every is_wait
waits-every none_waits = refl
waits-every (one_waits e w) = rw (e, every) (waits-every w)

pub waits-truths : {action : ℕ → Action} {ns : List ℕ} {ts : List (List ℕ)} → Waits action ns ts → map (λ n. wait_truth (action n)) ns ≡ ts
unfolding wait_truth
waits-truths none_waits = refl
waits-truths (one_waits e w) = rw (e, waits-truths w) refl

-- all of them wait, or one of them does not
pub data Waiting (action : ℕ → Action) (ns : List ℕ) : Type 0 where
  all_wait : {ts : List (List ℕ)} → Waits action ns ts → Waiting action ns
  one_acts : {n : ℕ} → Mem n ns → ((t : List ℕ) → action n ≡ wait t → ⊥) → Waiting action ns

is_wait-of : {a : Action} {t : List ℕ} → a ≡ wait t → is_wait a ≡ true
unfolding is_wait
is_wait-of e = rw e refl

wait-of : (a : Action) → is_wait a ≡ true → (t : List ℕ) × (a ≡ wait t)
unfolding is_wait
wait-of (test t) h = true-not-false (sym h)
wait-of (wait t) h = (t, refl)
wait-of (assign v e) h = true-not-false (sym h)
wait-of (switch s m) h = true-not-false (sym h)
wait-of stop h = true-not-false (sym h)

pub waiting : (action : ℕ → Action) (ns : List ℕ) → Waiting action ns
waiting action [] = all_wait none_waits
waiting action (n ∷ ns) = go (is_wait (action n)) refl (waiting action ns)
  where
    more : is_wait (action n) ≡ true → Waiting action ns → Waiting action (n ∷ ns)
    more e (all_wait w) = all_wait (one_waits (wait-of (action n) e).1 w)
    more e (one_acts m f) = one_acts (later m) f

    go : (b : Bool) → is_wait (action n) ≡ b → Waiting action ns → Waiting action (n ∷ ns)
    go true e w = more e w
    go false e w = one_acts (first refl) (λ t k. true-not-false (sym (is_wait-of k) ∙ e))

-- a node that does not wait is found
pub acts-every : (action : ℕ → Action) (ns : List ℕ) {n : ℕ} → Mem n ns → ((t : List ℕ) → action n ≡ wait t → ⊥) → every (λ n. is_wait (action n)) ns ≡ false
acts-every action ns {n} m f = by_cases (every (λ n. is_wait (action n)) ns) (λ h. absurd (f _ (wait-of (action n) (all-mem (every-all _ ns h) m)).1)) (λ h. h)

pub waits-not-acts : {action : ℕ → Action} {ns : List ℕ} {ts : List (List ℕ)} {n : ℕ} → Waits action ns ts → Mem n ns → ((t : List ℕ) → action n ≡ wait t → ⊥) → ⊥
waits-not-acts {action} {ns} w m f = true-not-false (sym (waits-every w) ∙ acts-every action ns m f)

-- ---- ranges
pub inside-declared : {x : Variable} {z : ℤ} → InRange x z → declared x z ≡ ok z
unfolding declared ranged
inside-declared {x} {z} i = rw (lt_z-le_z z x.minimum, lt_z-le_z x.maximum z, i.not_below, i.not_above) refl

pub outside-declared : {x : Variable} {z : ℤ} {side : Side} → Outside x z side → declared x z ≡ fault side
unfolding declared ranged
outside-declared (below_minimum l) = rw l refl
outside-declared {x} {z} (above_maximum l h) = rw (lt_z-le_z z x.minimum, l, h) refl

-- a number lies inside its range or outside
pub data Lies (x : Variable) (z : ℤ) : Type 0 where
  lies_inside : InRange x z → Lies x z
  lies_outside : {side : Side} → Outside x z side → Lies x z

pub lies : (x : Variable) (z : ℤ) → Lies x z
lies x z = go (le_z x.minimum z) refl (le_z z x.maximum) refl
  where
    go : (a : Bool) → le_z x.minimum z ≡ a → (b : Bool) → le_z z x.maximum ≡ b → Lies x z
    go true e true h = lies_inside (record { not_below = e; not_above = h })
    go true e false h = lies_outside (above_maximum e (rw (lt_z-le_z x.maximum z, h) refl))
    go false e b h = lies_outside (below_minimum (rw (lt_z-le_z z x.minimum, e) refl))

-- ---- rates
pub added-length : (rate : ℕ → ℤ) (v : ℕ) (zs : List ℤ) → length (added rate v zs) ≡ length zs
unfolding added
added-length rate v [] = refl
added-length rate v (z ∷ zs) = ap suc (added-length rate (suc v) zs)

shifted : (a v : ℕ) → a + suc v ≡ suc a + v
shifted a v = omega arith

pub added-each : (rate : ℕ → ℤ) (a : ℕ) (zs : List ℤ) (v : ℕ) (z : ℤ) → get_elem? zs v ≡ some z → get_elem? (added rate a zs) v ≡ some (z +ℤ rate (a + v))
unfolding added
added-each rate a [] v z h = none-not-some h
added-each rate a (y ∷ ys) zero z h = let e : a ≡ a + 0 = omega arith in rw (← e, some_is h) refl
added-each rate a (y ∷ ys) (suc v) z h = rw (shifted a v) (added-each rate (suc a) ys v z h)

pub added-only : (rate : ℕ → ℤ) (a : ℕ) (zs ys : List ℤ) → length ys ≡ length zs → ((v : ℕ) (z : ℤ) → get_elem? zs v ≡ some z → get_elem? ys v ≡ some (z +ℤ rate (a + v))) → ys ≡ added rate a zs
unfolding added
added-only rate a [] [] e h = refl
added-only rate a [] (y ∷ ys) e h = absurd (omega arith)
added-only rate a (z ∷ zs) [] e h = none-not-some (h 0 z refl)
added-only rate a (z ∷ zs) (y ∷ ys) e h =
    let k : a + 0 ≡ a = omega arith in
    let i = added-only rate (suc a) zs ys (omega arith) (λ v z g. rw (shifted a v) at (h (suc v) z g)) in
    let j : y ≡ z +ℤ rate a = rw k at (some_is (h 0 z refl)) in
    cc

-- ---- all in range, or the first that is not
pub data AllLie (xs : List Variable) (ys : List ℤ) : Type 0 where
  all_inside : AllInRange xs ys → AllLie xs ys
  first_outside : {side : Side} → FirstOutside xs ys side → AllLie xs ys

pub all_lie : (xs : List Variable) (ys : List ℤ) → AllLie xs ys
all_lie [] ys = all_inside (record { each = λ v x y h k. none-not-some h })
all_lie (x ∷ xs) [] = all_inside (record { each = λ v x y h k. none-not-some k })
all_lie (x ∷ xs) (y ∷ ys) = go (lies x y) (all_lie xs ys)
  where
    each : InRange x y → AllInRange xs ys → (v : ℕ) (d : Variable) (z : ℤ) → get_elem? (x ∷ xs) v ≡ some d → get_elem? (y ∷ ys) v ≡ some z → InRange d z
    each i a zero d z h k = subst₂ InRange (some_is h) (some_is k) i
    each i a (suc v) d z h k = a.each v d z h k

    low : {side : Side} → InRange x y → (f : FirstOutside xs ys side) → (v : ℕ) (d : Variable) (z : ℤ) → v < suc f.which → get_elem? (x ∷ xs) v ≡ some d → get_elem? (y ∷ ys) v ≡ some z → InRange d z
    low i f zero d z l h k = subst₂ InRange (some_is h) (some_is k) i
    low i f (suc v) d z l h k = f.lower v d z (omega arith) h k

    go : Lies x y → AllLie xs ys → AllLie (x ∷ xs) (y ∷ ys)
    go (lies_outside o) a = first_outside (record {
      which = 0;
      variable = x;
      value = y;
      is_variable = refl;
      is_value = refl;
      outside = o;
      lower = λ v d z l h k. absurd (omega arith);
    })
    go (lies_inside i) (all_inside a) = all_inside (record { each = each i a })
    go (lies_inside i) (first_outside f) = first_outside (record {
      which = suc f.which;
      variable = f.variable;
      value = f.value;
      is_variable = f.is_variable;
      is_value = f.is_value;
      outside = f.outside;
      lower = low i f;
    })

pub inside-all : (xs : List Variable) (ys : List ℤ) → AllInRange xs ys → all_declared xs ys ≡ ok ys
unfolding all_declared then_value
inside-all [] ys h = refl
inside-all (x ∷ xs) [] h = refl
inside-all (x ∷ xs) (y ∷ ys) h =
    let i = inside-all xs ys (record { each = λ v d z g k. h.each (suc v) d z g k }) in
    rw (inside-declared (h.each 0 x y refl refl), i) refl

outside-at : (xs : List Variable) (ys : List ℤ) (n : ℕ) {x : Variable} {y : ℤ} {side : Side} → get_elem? xs n ≡ some x → get_elem? ys n ≡ some y → Outside x y side →
    ((v : ℕ) (x : Variable) (y : ℤ) → v < n → get_elem? xs v ≡ some x → get_elem? ys v ≡ some y → InRange x y) → all_declared xs ys ≡ fault side
unfolding all_declared then_value
outside-at [] ys n h k o l = none-not-some h
outside-at (x ∷ xs) [] n h k o l = none-not-some k
outside-at (x ∷ xs) (y ∷ ys) zero h k o l = rw (some_is h, some_is k, outside-declared o) refl
outside-at (x ∷ xs) (y ∷ ys) (suc n) h k o l =
    let i = outside-at xs ys n h k o (λ v d z lt g j. l (suc v) d z (omega arith) g j) in
    rw (inside-declared (l 0 x y (omega arith) refl refl), i) refl

pub outside-first : (xs : List Variable) (ys : List ℤ) {side : Side} → FirstOutside xs ys side → all_declared xs ys ≡ fault side
outside-first xs ys h = outside-at xs ys h.which h.is_variable h.is_value h.outside h.lower
