-- Schedules whose trees are alike move alike: a node here and the node of its number there lead to like residuals.
use mathlib.Core.Path.{◌≡◌, refl, sym, ap, ap₂, ◌∙◌}
use mathlib.Core.Bool.{Bool, true, false, cond}
use mathlib.Core.List.Memᴰ
use mathlib.Core.List.{◌++◌, Memᴰ as Mem}
use Prim.Native.Nat.{ℕ}
use borrow.Author.Tests.{eqb-true, eq-eqb}
use lib.Dec.{eqb}
use Rattle.semantics.specs.Plant.{among}
use Rattle.semantics.specs.Run.{Next, to, finished, halted, idle}
use Rattle.semantics.specs.Proper.{Distinct}
use Rattle.semantics.proofs.Facts.{true-not-false, by_cases, among-mem, mem-among}
use Rattle.semantics.proofs.Simulation.{NextRel, to-rel, finished-rel, halted-rel, idle-rel}
use Rattle.semantics.proofs.RenumberedRuns.{AgreeRenumbered}
use Rattle.schedules.specs.Nodes.{node_action}
use Rattle.schedules.specs.Trees.{Tree}
use Rattle.schedules.specs.Residuals.{Residual, Parts, in-par, finished-part, part, acting, acting_parts, when_node, move_at, inside, every_finished, joined, or_else, move, move_parts}
use Rattle.schedules.specs.Reached.{Of}
use Rattle.schedules.specs.Files.{Schedule, rule_control}
use Rattle.schedules.proofs.TreeShapes.{Spans}
use Rattle.schedules.proofs.AlikeTrees.{Alike, alike-leaf, alike-halt, alike-loop, alike-branch, alike-seq, alike-par}
use Rattle.schedules.proofs.LikeResiduals.{Like, LikeParts, like-node, like-loop, like-branch, like-seq, like-par, like-none, like-finished, like-part, cross-both, cross-first, cross-second, fresh-like, next-child-like, finished-like, acting-like}
use Rattle.schedules.proofs.MovesFit.{no_move}
use Rattle.schedules.proofs.MovesByRule.{distinct-front, distinct-back, distinct_apart, rising-distinct}
use Rattle.schedules.proofs.ResidualsKept.{Ends, ends_to, ends_finished, ends_halted, ends_idle, of-fresh, kept, acting-rise-from-0}

-- ---- moves that correspond, inside something
module _ {A B C D : Type 0} {Sim : A → B → Type 0} {Sim' : C → D → Type 0} where
  inside-rel : (f : A → C) (g : B → D) {u : Next C} {v : Next D} {x : Next A} {y : Next B} → ((a : A) (b : B) → Sim a b → Sim' (f a) (g b)) →
      NextRel Sim' u v → NextRel Sim x y → NextRel Sim' (inside f u x) (inside g v y)
  unfolding inside
  inside-rel f g k h (to-rel e) = to-rel (k _ _ e)
  inside-rel f g k h finished-rel = h
  inside-rel f g k h halted-rel = halted-rel
  inside-rel f g k h idle-rel = idle-rel

module _ {A B : Type 0} {Sim : A → B → Type 0} where
  or_else-rel : {x u : Next A} {y v : Next B} → NextRel Sim x y → NextRel Sim u v → NextRel Sim (or_else x u) (or_else y v)
  unfolding or_else
  or_else-rel (to-rel e) k = to-rel e
  or_else-rel finished-rel k = finished-rel
  or_else-rel halted-rel k = halted-rel
  or_else-rel idle-rel k = k

  both-rel : {P : A → Type 0} {x : Next A} {y : Next B} → Ends P x → NextRel Sim x y → NextRel (λ a b. P a × Sim a b) x y
  both-rel (ends_to p) (to-rel e) = to-rel (p, e)
  both-rel ends_finished finished-rel = finished-rel
  both-rel ends_halted halted-rel = halted-rel
  both-rel ends_idle idle-rel = idle-rel

-- ---- at most one of two neighbours moves, and they may be asked in either order
data OneIdle {A B : Type 0} : Next A → Next B → Type 0 where
  first_idle : {y : Next B} → OneIdle idle y
  second_idle : {x : Next A} → OneIdle x idle

inside-idle : {A B C D : Type 0} (f : A → C) (g : B → D) (u : Next C) (v : Next D) {x : Next A} {y : Next B} → OneIdle x y → OneIdle (inside f u x) (inside g v y)
unfolding inside
inside-idle f g u v first_idle = first_idle
inside-idle f g u v second_idle = second_idle

either_order : {A : Type 0} {x y : Next A} (z : Next A) → OneIdle x y → or_else x (or_else y z) ≡ or_else y (or_else x z)
unfolding or_else
either_order z first_idle = refl
either_order z second_idle = refl

one-idle : (n : ℕ) (b : Bool) (r s : Residual) → (Mem n (acting r) → Mem n (acting s) → ⊥) → OneIdle (move r n b) (move s n b)
one-idle n b r s f = by_cases (among n (acting r))
    (λ e. rw (no_move s n b (f (among-mem n (acting r) e))) second_idle)
    (λ e. rw (no_move r n b (λ m. true-not-false (sym (mem-among n (acting r) m) ∙ e))) first_idle)

-- ---- the moves of two neighbours and of the others, side by side
module _ {A B : Type 0} (g : A → B) where
  through : {C : Type 0} (f : C → A) (u : Next A) (x : Next C) → inside g finished (inside f u x) ≡ inside (λ c. g (f c)) (inside g finished u) x
  unfolding inside
  through f u (to c) = refl
  through f u finished = refl
  through f u halted = refl
  through f u idle = refl

  spread : (x y : Next A) → inside g finished (or_else x y) ≡ or_else (inside g finished x) (inside g finished y)
  unfolding inside or_else
  spread (to a) y = refl
  spread finished y = refl
  spread halted y = refl
  spread idle y = refl

-- neither of the two finished, the first, the second
module _ (ps : Parts) (n : ℕ) (b : Bool) where
  two-parts : (r s : Residual) → move_parts (part r (part s ps)) n b ≡
      or_else (inside (λ x. part x (part s ps)) (to (finished-part (part s ps))) (move r n b))
      (or_else (inside (λ x. part r (part x ps)) (to (part r (finished-part ps))) (move s n b)) (inside (λ z. part r (part s z)) finished (move_parts ps n b)))
  unfolding move inside
  two-parts r s = ap (or_else _) (spread (part r) _ _ ∙ ap₂ or_else (through (part r) _ _ (move s n b)) (through (part r) (part s) finished (move_parts ps n b)))

  first-over : (s : Residual) → move_parts (finished-part (part s ps)) n b ≡
      or_else (inside (λ x. finished-part (part x ps)) (to (finished-part (finished-part ps))) (move s n b)) (inside (λ z. finished-part (part s z)) finished (move_parts ps n b))
  unfolding move inside
  first-over s = spread finished-part _ _ ∙ ap₂ or_else (through finished-part _ _ (move s n b)) (through finished-part (part s) finished (move_parts ps n b))

  second-over : (r : Residual) → move_parts (part r (finished-part ps)) n b ≡
      or_else (inside (λ x. part x (finished-part ps)) (to (finished-part (finished-part ps))) (move r n b)) (inside (λ z. part r (finished-part z)) finished (move_parts ps n b))
  unfolding move inside
  second-over r = ap (or_else _) (through (part r) finished-part finished (move_parts ps n b))

-- ---- like residuals
module _ {number : ℕ → ℕ} where
  joined-like : {x y : Next Parts} → NextRel (LikeParts number) x y → NextRel (Like number) (joined x) (joined y)
  unfolding joined
  joined-like (to-rel {x = ps} {y = qs} h) = go (every_finished ps) (every_finished qs) (finished-like h)
    where
      go : (b c : Bool) → b ≡ c →
          NextRel (Like number) (elim b [ true ↦ finished | false ↦ to (in-par ps) ]) (elim c [ true ↦ finished | false ↦ to (in-par qs) ])
      go true true e = finished-rel
      go true false e = true-not-false e
      go false true e = true-not-false (sym e)
      go false false e = to-rel (like-par h)
  joined-like finished-rel = finished-rel
  joined-like halted-rel = halted-rel
  joined-like idle-rel = idle-rel

  module _ (one_to_one : (m n : ℕ) → number m ≡ number n → m ≡ n) (n : ℕ) where
    same_test : {m k : ℕ} → number m ≡ k → eqb k (number n) ≡ eqb m n
    same_test {m} {k} e = by_cases (eqb m n)
        (λ h. eq-eqb k (number n) (sym e ∙ ap number (eqb-true m n h)) ∙ sym h)
        (λ h. by_cases (eqb k (number n)) (λ i. true-not-false (sym (eq-eqb m n (one_to_one m n (e ∙ eqb-true k (number n) i))) ∙ h)) (λ i. i ∙ sym h))

    when-like : {m k : ℕ} {x y : Next Residual} → number m ≡ k → NextRel (Like number) x y → NextRel (Like number) (when_node m n x) (when_node k (number n) y)
    unfolding when_node
    when-like {m} {k} {x} {y} e h = rw (same_test e) (go (eqb m n))
      where
        go : (c : Bool) → NextRel (Like number) (cond c x idle) (cond c y idle)
        go true = h
        go false = idle-rel

    at-like : {t u : Tree} → Alike number t u → (b : Bool) → NextRel (Like number) (move_at t n b) (move_at u (number n) b)
    unfolding move_at
    at-like (alike-leaf e) b = when-like e finished-rel
    at-like (alike-halt e) b = when-like e halted-rel
    at-like (alike-loop e h) true = when-like e (to-rel (like-loop e h (fresh-like h)))
    at-like (alike-loop e h) false = when-like e finished-rel
    at-like (alike-branch e h k) true = when-like e (to-rel (like-branch (fresh-like h)))
    at-like (alike-branch e h k) false = when-like e (to-rel (like-branch (fresh-like k)))
    at-like (alike-seq h) b = idle-rel
    at-like (alike-par h) b = idle-rel

  -- two neighbours that changed places
  module _ (n m : ℕ) (b : Bool) {ps qs : Parts} (k : LikeParts number ps qs) (l : NextRel (LikeParts number) (move_parts ps n b) (move_parts qs m b)) where
    second-crossed : {r q : Residual} → Like number r q → NextRel (Like number) (move r n b) (move q m b) →
        NextRel (LikeParts number) (move_parts (part r (finished-part ps)) n b) (move_parts (finished-part (part q qs)) m b)
    second-crossed {r} {q} h i = rw (second-over ps n b r, first-over qs m b q)
        (or_else-rel (inside-rel _ _ (λ x y e. cross-second e k) (to-rel (like-finished (like-finished k))) i)
        (inside-rel _ _ (λ x y e. cross-second h e) finished-rel l))

    first-crossed : {s p : Residual} → Like number s p → NextRel (Like number) (move s n b) (move p m b) →
        NextRel (LikeParts number) (move_parts (finished-part (part s ps)) n b) (move_parts (part p (finished-part qs)) m b)
    first-crossed {s} {p} h i = rw (first-over ps n b s, second-over qs m b p)
        (or_else-rel (inside-rel _ _ (λ x y e. cross-first e k) (to-rel (like-finished (like-finished k))) i)
        (inside-rel _ _ (λ x y e. cross-first h e) finished-rel l))

    both-crossed : {r q s p : Residual} → (Mem n (acting r) → Mem n (acting s) → ⊥) → Like number r q → Like number s p →
        NextRel (Like number) (move r n b) (move q m b) → NextRel (Like number) (move s n b) (move p m b) →
        NextRel (LikeParts number) (move_parts (part r (part s ps)) n b) (move_parts (part p (part q qs)) m b)
    both-crossed {r} {q} {s} {p} f h j i o = rw (two-parts ps n b r s, two-parts qs m b p q, either_order _ (inside-idle _ _ _ _ (one-idle n b r s f)))
        (or_else-rel (inside-rel _ _ (λ x y e. cross-both h e k) (to-rel (cross-second h k)) o)
        (or_else-rel (inside-rel _ _ (λ x y e. cross-both e j k) (to-rel (cross-first j k)) i)
        (inside-rel _ _ (λ x y e. cross-both h j e) finished-rel l)))

  module _ (one_to_one : (m n : ℕ) → number m ≡ number n → m ≡ n) (n : ℕ) (b : Bool) where
    mutual
      unfolding move acting

      -- where no number acts twice, neighbours do not move both
      distinct-move : {r q : Residual} → Like number r q → Distinct (acting r) → NextRel (Like number) (move r n b) (move q (number n) b)
      distinct-move (like-node h) d = at-like one_to_one n h b
      distinct-move (like-loop e h k) d = inside-rel _ _ (λ x y i. like-loop e h i) (to-rel (like-node (alike-loop e h))) (distinct-move k d)
      distinct-move (like-branch h) d = inside-rel _ _ (λ x y i. like-branch i) finished-rel (distinct-move h d)
      distinct-move (like-seq h k) d = inside-rel _ _ (λ x y i. like-seq i k) (next-child-like k) (distinct-move h d)
      distinct-move (like-par h) d = joined-like (distinct-parts h d)

      distinct-parts : {ps qs : Parts} → LikeParts number ps qs → Distinct (acting_parts ps) → NextRel (LikeParts number) (move_parts ps n b) (move_parts qs (number n) b)
      distinct-parts like-none d = idle-rel
      distinct-parts (like-finished h) d = inside-rel _ _ (λ x y i. like-finished i) finished-rel (distinct-parts h d)
      distinct-parts (like-part {r = r} {ps = ps} h k) d =
          or_else-rel (inside-rel _ _ (λ x y i. like-part i k) (to-rel (like-finished k)) (distinct-move h (distinct-front (acting r) (acting_parts ps) d)))
          (inside-rel _ _ (λ x y i. like-part h i) finished-rel (distinct-parts k (distinct-back (acting r) (acting_parts ps) d)))
      distinct-parts (cross-both {r = r} {s = s} {ps = ps} h i k) d =
          let e = distinct-back (acting r) (acting s ++ acting_parts ps) d in
          both-crossed n (number n) b k (distinct-parts k (distinct-back (acting s) (acting_parts ps) e))
          (λ m j. distinct_apart (acting r) (acting s ++ acting_parts ps) d m (Memᴰ.append_left (acting_parts ps) j)) h i
          (distinct-move h (distinct-front (acting r) (acting s ++ acting_parts ps) d)) (distinct-move i (distinct-front (acting s) (acting_parts ps) e))
      distinct-parts (cross-first {s = s} {ps = ps} h k) d =
          first-crossed n (number n) b k (distinct-parts k (distinct-back (acting s) (acting_parts ps) d)) h (distinct-move h (distinct-front (acting s) (acting_parts ps) d))
      distinct-parts (cross-second {r = r} {ps = ps} h k) d =
          second-crossed n (number n) b k (distinct-parts k (distinct-back (acting r) (acting_parts ps) d)) h (distinct-move h (distinct-front (acting r) (acting_parts ps) d))

pub move-like : {number : ℕ → ℕ} {t : Tree} {r q : Residual} {lo hi : ℕ} → ((m n : ℕ) → number m ≡ number n → m ≡ n) → Of t r → Spans t lo hi → Like number r q →
    (n : ℕ) (b : Bool) → NextRel (Like number) (move r n b) (move q (number n) b)
move-like {r = r} one_to_one o sp h n b = distinct-move one_to_one n b h (rising-distinct 0 (acting r) (acting-rise-from-0 o sp))

pub alike-agree : (s u : Schedule) (number : ℕ → ℕ) {lo hi : ℕ} → ((m n : ℕ) → number m ≡ number n → m ≡ n) →
    ((n : ℕ) → node_action u.nodes (number n) ≡ node_action s.nodes n) → Spans s.root lo hi → Alike number s.root u.root →
    AgreeRenumbered number (rule_control s) (rule_control u) (λ r q. Of s.root r × Like number r q)
unfolding rule_control
alike-agree s u number one_to_one same sp h = record {
  starts = (of-fresh s.root, fresh-like h);
  one_to_one = one_to_one;
  actions = same;
  acting_same = λ r q k. acting-like k.1;
  nexts = λ r q k n m b. both-rel (kept k.0 n b) (move-like one_to_one k.0 sp k.1 n b);
}
