-- The code's walks over the acting nodes, from one to the next.
use mathlib.Core.Path.{◌≡◌, refl, sym, ap, ◌∙◌}
use mathlib.Core.Bool.{Bool, true, false, not}
use mathlib.Core.List.{List, [], ◌∷◌, map}
use Prim.Native.Nat.{ℕ, ◌+◌, ◌≤◌, ◌<◌}
use native.Mathlib.Omega.{arith}
use lib.Dec.{eqb}
use lib.IntN.{ℤ}
use lib.ListN.{get_or}
use Rattle.semantics.specs.Bytes.{every}
use Rattle.semantics.specs.Editions.{Edition}
use Rattle.semantics.specs.Expressions.{Value, ok, fault, above, below, value_of_truth}
use Rattle.semantics.specs.Run as Run
use Rattle.semantics.specs.Run.{Action, ◌>>=◌, ◌>>◌, allow, valued, is_wait, walk, check_waits}
use Rattle.semantics.specs.TableFile.{WAIT}
use Rattle.nodeset.specs.Sets.{mem, members, MemberFrom}
use Rattle.nodeset.proofs.Firsts.{members_on, on-start, on-next, on-member, on-beyond}
use Rattle.effects.specs.Verdicts.{done_verdict, step_verdict, is_going_on, truth_verdict}
use Rattle.execution.specs.Operands.{Few, KindsOf}
use Rattle.effects.specs.PaperNumbers.{Verdict, Away, Stay}
use Rattle.effects.proofs.Steps.{walk-out, walk-on}
use Rattle.execution.proofs.Formed.{wait-kind, every-member}

-- a set of nodes below an end that a set may have
pub record Bounded (ws : List ℕ) (end : ℕ) : Type 0 where
  pub below : (n : ℕ) → mem ws n ≡ true → n < end
  pub small : end ≤ 256

-- the end that the code has
pub few-bounded : (ed : Edition) {ws : List ℕ} {end : ℕ} → Few ed ws → end ≡ ed.nodes → Bounded ws end
few-bounded ed f e = record { below = λ n m. (let h = f.below n m in omega (arith, e)); small = omega (arith, ed.entries_fit, e) }

-- a walk over the acting nodes stands at n: one of them, or beyond all
pub record At (ws : List ℕ) (n : ℕ) : Type 0 where
  pub member : n < 256 → mem ws n ≡ true

pub at_next : {ws : List ℕ} {n end m : ℕ} → MemberFrom ws n end m → At ws m
at_next x = record { member = x.found }

module _ {ws : List ℕ} {end : ℕ} (few : Bounded ws end) where
  on-first : {m : ℕ} → MemberFrom ws 0 end m → members ws ≡ members_on ws m
  on-first x = on-start ws ∙ on-next ws 0 end few.below x.next

  on-end : (n : ℕ) → 256 ≤ n → members_on ws n ≡ []
  on-end n e = on-beyond ws n e

  -- node n, and those behind it
  on-here : (n : ℕ) → n < 256 → At ws n → members_on ws n ≡ n ∷ members_on ws (n + 1)
  on-here n h x = on-member ws n h (x.member h)

  on-behind : (n : ℕ) {m : ℕ} → MemberFrom ws (n + 1) end m → members_on ws (n + 1) ≡ members_on ws m
  on-behind n x = on-next ws (n + 1) end few.below x.next

-- ---- all of them are waits
-- is node n a wait, by its kind?
abbrev pub is_wait_kind : List ℕ → ℕ → Bool
is_wait_kind kinds n = eqb (get_or kinds n 0) WAIT

pub kinds-wait : (f : ℕ → Action) (ks ws : List ℕ) → KindsOf f ks ws → every (is_wait_kind ks) (members ws) ≡ every (λ n. is_wait (f n)) (members ws)
kinds-wait f ks ws k = sym (every-member ws (λ n. is_wait (f n)) (is_wait_kind ks) (λ n e. wait-kind (get_or ks n 0) (k.each n e).0 (k.each n e).1))

-- those from n on
abbrev pub all : List ℕ → List ℕ → ℕ → Bool
all ks ws n = every (is_wait_kind ks) (members_on ws n)

module _ (ks ws : List ℕ) {end : ℕ} (few : Bounded ws end) where
  pub all_start : {m : ℕ} → MemberFrom ws 0 end m → every (is_wait_kind ks) (members ws) ≡ all ks ws m
  all_start x = ap (every (is_wait_kind ks)) (on-first few x)

  module _ (n : ℕ) (h : n < 256) (x : At ws n) where
    pub all-out : is_wait_kind ks n ≡ false → all ks ws n ≡ false
    unfolding every
    all-out e = ap (every (is_wait_kind ks)) (on-here few n h x) ∙ rw (e, every) refl

    pub all-on : {m : ℕ} → MemberFrom ws (n + 1) end m → is_wait_kind ks n ≡ true → all ks ws n ≡ all ks ws m
    unfolding every
    all-on g e = ap (every (is_wait_kind ks)) (on-here few n h x) ∙ rw (e, every) (ap (every (is_wait_kind ks)) (on-behind few n g))

  pub all_end : (n : ℕ) → 256 ≤ n → all ks ws n ≡ true
  unfolding every
  all_end n e = ap (every (is_wait_kind ks)) (on-end few n e)

-- ---- none of their truths is true
-- the truth of one wait, as it is asked
pub still_one : (ed : Edition) (vs : List ℤ) (t : List ℕ) → truth_verdict (Away 31) Stay (value_of_truth ed vs t) ≡ step_verdict (check_waits ed vs (t ∷ []))
unfolding walk truth_verdict done_verdict valued allow ◌>>=◌ ◌>>◌
still_one ed vs t = go (value_of_truth ed vs t)
  where
    go : (u : Value Bool) → truth_verdict (Away 31) Stay u ≡ step_verdict (valued u >>= (λ b. allow 31 (not b) >> check_waits ed vs []))
    go (ok true) = refl
    go (ok false) = refl
    go (fault above) = refl
    go (fault below) = refl

-- its operand lies where the index has it
pub still-asked : (ed : Edition) (vs : List ℤ) (o : List ℕ) {t : List ℕ} {r : Verdict} → t ≡ o → r ≡ truth_verdict (Away 31) Stay (value_of_truth ed vs t) → r ≡ step_verdict (check_waits ed vs (o ∷ []))
still-asked ed vs o e h = h ∙ ap (λ t. truth_verdict (Away 31) Stay (value_of_truth ed vs t)) e ∙ still_one ed vs o

-- those from n on
abbrev pub still_from : Edition → List ℤ → (ℕ → List ℕ) → List ℕ → ℕ → Run.Verdict (Unit {0})
still_from ed vs cut ws n = check_waits ed vs (map cut (members_on ws n))

module _ (ed : Edition) (vs : List ℤ) (cut : ℕ → List ℕ) (ws : List ℕ) {end : ℕ} (few : Bounded ws end) where
  abbrev asks : List ℕ → Run.Verdict (Unit {0})
  asks l = check_waits ed vs (map cut l)

  pub still-start : {m : ℕ} → MemberFrom ws 0 end m → check_waits ed vs (map cut (members ws)) ≡ still_from ed vs cut ws m
  still-start x = ap asks (on-first few x)

  module _ (n : ℕ) (h : n < 256) (x : At ws n) (r : Verdict) (e : r ≡ step_verdict (check_waits ed vs (cut n ∷ []))) where
    pub still-out : is_going_on r ≡ false → r ≡ step_verdict (still_from ed vs cut ws n)
    still-out f = walk-out ed 31 vs (cut n) (map cut (members_on ws (n + 1))) r (e ∙ sym (still_one ed vs (cut n))) f ∙ sym (ap (λ l. step_verdict (asks l)) (on-here few n h x))

    pub still-on : {m : ℕ} → MemberFrom ws (n + 1) end m → is_going_on r ≡ true → still_from ed vs cut ws n ≡ still_from ed vs cut ws m
    still-on g f = ap asks (on-here few n h x) ∙ walk-on ed 31 vs (cut n) (map cut (members_on ws (n + 1))) r (e ∙ sym (still_one ed vs (cut n))) f ∙ ap asks (on-behind few n g)

  pub still-end : (n : ℕ) → 256 ≤ n → Stay ≡ step_verdict (still_from ed vs cut ws n)
  unfolding walk done_verdict
  still-end n e = sym (ap (λ l. step_verdict (asks l)) (on-end few n e))
