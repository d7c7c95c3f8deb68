-- Arrays of marks that stand for lists of variables.
use mathlib.Core.Path.{◌≡◌, refl, sym, ap, ◌∙◌}
use mathlib.Core.Bool.{Bool, true, false, not, ◌||◌, ◌&&◌, or-true, or-false, or_assoc, or_comm}
use mathlib.Core.List.{List, [], ◌∷◌, ◌++◌}
use Prim.Native.Nat.{ℕ, zero, suc, ◌+◌, ◌≤◌, ◌<◌}
use native.Mathlib.Omega.{arith}
use borrow.Author.Tests.{eqb-true, eqb-false, eq-eqb, ne_eqb}
use lib.Dec.{eqb}
use lib.ListN.{length, get_or, set, length-set}
use lib.Seq.{get_or-set_same, get_or-set_other}
use Rattle.semantics.specs.Bytes.{every}
use Rattle.semantics.specs.Plant.{among, apart}
use Rattle.semantics.proofs.Facts.{by_cases}
use Rattle.codec.proofs.Reading.{either}
use Rattle.plant.specs.Driven.{Small, Marks, Tried}
use Rattle.plant.proofs.MarkTests.{unmarked, Marked, Answered}

-- ---- membership
pub among-here : (v : ℕ) (l : List ℕ) → among v (v ∷ l) ≡ true
unfolding among
among-here v l = rw (among, eq-eqb v v refl) refl

pub among_there : (u v : ℕ) (l : List ℕ) → eqb v u ≡ false → among u (v ∷ l) ≡ among u l
unfolding among
among_there u v l h = rw (among, h) refl

pub among-append : (v : ℕ) (l k : List ℕ) → among v (l ++ k) ≡ (among v l || among v k)
unfolding among
among-append v [] k = refl
among-append v (u ∷ l) k = go (eqb u v) (among-append v l k)
  where
    go : (b : Bool) → among v (l ++ k) ≡ (among v l || among v k) → elim b [ true ↦ true | false ↦ among v (l ++ k) ] ≡ (elim b [ true ↦ true | false ↦ among v l ] || among v k)
    go true h = refl
    go false h = h

-- ---- variables that have an entry
pub small-first : (v : ℕ) (l : List ℕ) → Small (v ∷ l) → v < 32
small-first v l s = s.below v (among-here v l)

pub small-rest : (v : ℕ) (l : List ℕ) → Small (v ∷ l) → Small l
small-rest v l s = record { below = λ u h. by_cases (eqb v u) (λ e. rw (eqb-true v u e) at (small-first v l s)) (λ e. s.below u (among_there u v l e ∙ h)) }

pub small-left : (l k : List ℕ) → Small (l ++ k) → Small l
small-left l k s = record { below = λ v h. s.below v (among-append v l k ∙ ap (λ b. b || among v k) h) }

pub small-right : (l k : List ℕ) → Small (l ++ k) → Small k
small-right l k s = record { below = λ v h. s.below v (among-append v l k ∙ ap (λ b. among v l || b) h ∙ or-true (among v l)) }

-- ---- one more mark
module _ (b : List Bool) (v : ℕ) (h : v < length b) (u : ℕ) where
  mark-same : eqb v u ≡ true → get_or (set b v true) u false ≡ true
  mark-same e = rw (← eqb-true v u e) (get_or-set_same b v true false h)

  mark-other : eqb v u ≡ false → get_or (set b v true) u false ≡ get_or b u false
  mark-other e = get_or-set_other b v u true false (λ k. eqb-false v u e (sym k))

pub marked-set : (a : List Bool) (l : List ℕ) (b : List Bool) (v : ℕ) → v < length b → Marked a l b → Marked a (v ∷ l) (set b v true)
marked-set a l b v h m = record { sized = length-set b v true ∙ m.sized; at = λ u k. by_cases (eqb v u) (λ e. mark-same b v h u e ∙ sym (ap (λ t. get_or a u false || t) (rw (← eqb-true v u e) (among-here v l)) ∙ or-true (get_or a u false))) (λ e. mark-other b v h u e ∙ m.at u k ∙ ap (λ t. get_or a u false || t) (sym (among_there u v l e))) }

-- ---- b, with the rest still to be marked, is a with all of them marked
pub record Owed (a : List Bool) (all : List ℕ) (b : List Bool) (rest : List ℕ) : Type 0 where
  pub at : (v : ℕ) → v < 32 → (get_or b v false || among v rest) ≡ (get_or a v false || among v all)

pub owed_start : (a : List Bool) (l : List ℕ) → Owed a l a l
owed_start a l = record { at = λ v h. refl }

pub owed-set : {a : List Bool} {l : List ℕ} (b : List Bool) (v : ℕ) (rest : List ℕ) → v < length b → Owed a l b (v ∷ rest) → Owed a l (set b v true) rest
owed-set {a} {l} b v rest h o = record { at = λ u k. by_cases (eqb v u) (λ e. same u k e ∙ o.at u k) (λ e. other u k e ∙ o.at u k) }
  where
    same : (u : ℕ) → u < 32 → eqb v u ≡ true → (get_or (set b v true) u false || among u rest) ≡ (get_or b u false || among u (v ∷ rest))
    same u k e =
        let m : among u (v ∷ rest) ≡ true = rw (← eqb-true v u e) (among-here v rest) in
        ap (λ t. t || among u rest) (mark-same b v h u e) ∙ sym (ap (λ t. get_or b u false || t) m ∙ or-true (get_or b u false))

    other : (u : ℕ) → u < 32 → eqb v u ≡ false → (get_or (set b v true) u false || among u rest) ≡ (get_or b u false || among u (v ∷ rest))
    other u k e = ap (λ t. t || among u rest) (mark-other b v h u e) ∙ ap (λ t. get_or b u false || t) (sym (among_there u v rest e))

pub owed-next : {a : List Bool} {all : List ℕ} (b : List Bool) (l rest : List ℕ) (c : List Bool) → Owed a all b (l ++ rest) → Marked b l c → Owed a all c rest
owed-next b l rest c o m = record { at = λ v h. ap (λ t. t || among v rest) (m.at v h) ∙ or_assoc (get_or b v false) (among v l) (among v rest) ∙ ap (λ t. get_or b v false || t) (sym (among-append v l rest)) ∙ o.at v h }

pub owed-end : {a : List Bool} {all : List ℕ} (b : List Bool) → length b ≡ 32 → Owed a all b [] → Marked a all b
unfolding among
owed-end b k o = record { sized = k; at = λ v h. sym (or-false (get_or b v false)) ∙ o.at v h }

-- ---- an array against the list of the variables that it marks
pub unmarked-apart : (l : List ℕ) (b : List Bool) (k : List ℕ) → Marks l b → Small k → unmarked b k ≡ apart l k
unfolding unmarked apart every
unmarked-apart l b [] m s = refl
unmarked-apart l b (v ∷ k) m s = go (get_or b v false) (among v l) (m.at v (small-first v k s)) (unmarked-apart l b k m (small-rest v k s))
  where
    go : (x y : Bool) → x ≡ y → every (λ v. not (get_or b v false)) k ≡ every (λ v. not (among v l)) k → ◌≡◌ {A = Bool} (elim (not x) [ true ↦ every (λ v. not (get_or b v false)) k | false ↦ false ]) (elim (not y) [ true ↦ every (λ v. not (among v l)) k | false ↦ false ])
    go true y e h = rw (← e) refl
    go false y e h = rw (← e) h

-- those marked among the n variables from v on
unfoldable marks_from : List Bool → ℕ → ℕ → List ℕ
marks_from a v zero = []
marks_from a v (suc n) = elim (get_or a v false) [ true ↦ v ∷ marks_from a (suc v) n | false ↦ marks_from a (suc v) n ]

none_below : (a : List Bool) (n v u : ℕ) → u < v → among u (marks_from a v n) ≡ false
unfolding marks_from among
none_below a zero v u h = refl
none_below a (suc n) v u h = go (get_or a v false) (none_below a n (suc v) u (omega arith))
  where
    go : (b : Bool) → among u (marks_from a (suc v) n) ≡ false → among u (elim b [ true ↦ v ∷ marks_from a (suc v) n | false ↦ marks_from a (suc v) n ]) ≡ false
    go true i = among_there u v (marks_from a (suc v) n) (ne_eqb v u (λ e. omega arith)) ∙ i
    go false i = i

marks-at : (a : List Bool) (n v u : ℕ) → v ≤ u → u < v + n → get_or a u false ≡ among u (marks_from a v n)
unfolding marks_from
marks-at a zero v u h k = absurd (omega arith)
marks-at a (suc n) v u h k = either v u (λ l. there l (get_or a v false) (marks-at a n (suc v) u (omega arith) (omega arith))) (λ l. here (omega arith) (get_or a v false) refl)
  where
    there : v < u → (b : Bool) → get_or a u false ≡ among u (marks_from a (suc v) n) → get_or a u false ≡ among u (elim b [ true ↦ v ∷ marks_from a (suc v) n | false ↦ marks_from a (suc v) n ])
    there l true i = i ∙ sym (among_there u v (marks_from a (suc v) n) (ne_eqb v u (λ e. omega arith)))
    there l false i = i

    here : u ≡ v → (b : Bool) → get_or a v false ≡ b → get_or a u false ≡ among u (elim b [ true ↦ v ∷ marks_from a (suc v) n | false ↦ marks_from a (suc v) n ])
    here q true e = ap (λ j. get_or a j false) q ∙ e ∙ sym (ap (λ j. among j (v ∷ marks_from a (suc v) n)) q ∙ among-here v (marks_from a (suc v) n))
    here q false e = ap (λ j. get_or a j false) q ∙ e ∙ sym (none_below a n (suc v) u (omega arith))

marks-of : (a : List Bool) → Marks (marks_from a 0 32) a
marks-of a = record { at = λ v h. marks-at a 32 0 v (omega arith) (omega arith) }

-- what holds by the marks holds by every list that they stand for, and the other way
module _ (x : Bool) (l : List ℕ) (few : Small l) {a b : List Bool} {r : Bool} {c : List Bool} where
  pub by-lists : Answered (x && unmarked a l) b l r c → (before seen : List ℕ) → Marks before a → Marks seen b → Tried (x && apart before l) (l ++ seen) r c
  by-lists t before seen m n = record {
    is = t.is ∙ ap (λ y. x && y) (unmarked-apart before a l m few);
    sized = λ h. (t.marks h).sized;
    marks = λ h. record { at = λ v i. (t.marks h).at v i ∙ ap (λ y. y || among v l) (n.at v i) ∙ or_comm (among v seen) (among v l) ∙ sym (among-append v l seen) };
  }

  pub by-marks : ((before seen : List ℕ) → Marks before a → Marks seen b → Tried (x && apart before l) (l ++ seen) r c) → Answered (x && unmarked a l) b l r c
  by-marks f =
      let t = f (marks_from a 0 32) (marks_from b 0 32) (marks-of a) (marks-of b) in
      record {
        is = t.is ∙ ap (λ y. x && y) (sym (unmarked-apart (marks_from a 0 32) a l (marks-of a) few));
        marks = λ h. record {
          sized = t.sized h;
          at = λ v i. (t.marks h).at v i ∙ among-append v l (marks_from b 0 32) ∙ or_comm (among v l) (among v (marks_from b 0 32)) ∙ ap (λ y. y || among v l) (sym ((marks-of b).at v i));
        };
      }
