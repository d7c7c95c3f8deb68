-- Residuals of two trees that are alike, like each other: fresh ones are, and the same nodes act in them but for numbers and order.
use mathlib.Core.Path.{◌≡◌, refl, subst}
use mathlib.Core.List.Permᴰ
use mathlib.Core.List.Permᴰ.{cons as perm-cons}
use mathlib.Core.List.Permᴰ.{nil as perm-nil}
use mathlib.Core.List.Permᴰ.{trans as perm-trans}
use mathlib.Core.List.{List, ◌++◌, map, map-append, append_assoc, Permᴰ as Permuted}
use Prim.Native.Nat.{ℕ}
use Rattle.semantics.specs.Run.{to}
use Rattle.semantics.proofs.Simulation.{NextRel, to-rel, finished-rel}
use Rattle.schedules.specs.Trees.{Tree, Forest}
use Rattle.schedules.specs.Residuals.{Residual, Parts, at-node, in-loop, in-branch, in-seq, in-par, no_part, finished-part, part, fresh, fresh_parts, acting, acting_at, acting_parts, next_child, every_finished}
use Rattle.schedules.proofs.AlikeTrees.{Alike, AlikeAll, Shuffled, alike-leaf, alike-halt, alike-loop, alike-branch, alike-seq, alike-par, alike-nil, alike-cons, shuffled-nil, shuffled-cons, shuffled-swap}

mutual
  pub data Like (number : ℕ → ℕ) : Residual → Residual → Type 0 where
    like-node : {t u : Tree} → Alike number t u → Like number (at-node t) (at-node u)
    like-loop : {n m : ℕ} {t u : Tree} {r q : Residual} → number n ≡ m → Alike number t u → Like number r q → Like number (in-loop n t r) (in-loop m u q)
    like-branch : {r q : Residual} → Like number r q → Like number (in-branch r) (in-branch q)
    like-seq : {r q : Residual} {ts us : Forest} → Like number r q → AlikeAll number ts us → Like number (in-seq r ts) (in-seq q us)
    like-par : {ps qs : Parts} → LikeParts number ps qs → Like number (in-par ps) (in-par qs)

  -- one by one, or two neighbours crosswise, of which one may be finished
  pub data LikeParts (number : ℕ → ℕ) : Parts → Parts → Type 0 where
    like-none : LikeParts number no_part no_part
    like-finished : {ps qs : Parts} → LikeParts number ps qs → LikeParts number (finished-part ps) (finished-part qs)
    like-part : {r q : Residual} {ps qs : Parts} → Like number r q → LikeParts number ps qs → LikeParts number (part r ps) (part q qs)
    cross-both : {r q s p : Residual} {ps qs : Parts} → Like number r q → Like number s p → LikeParts number ps qs →
        LikeParts number (part r (part s ps)) (part p (part q qs))
    cross-first : {s p : Residual} {ps qs : Parts} → Like number s p → LikeParts number ps qs → LikeParts number (finished-part (part s ps)) (part p (finished-part qs))
    cross-second : {r q : Residual} {ps qs : Parts} → Like number r q → LikeParts number ps qs → LikeParts number (part r (finished-part ps)) (finished-part (part q qs))

module _ {number : ℕ → ℕ} where
  to-like : {r q : Residual} → NextRel (Like number) (to r) (to q) → Like number r q
  to-like (to-rel h) = h

  mutual
    unfolding fresh next_child

    pub fresh-like : {t u : Tree} → Alike number t u → Like number (fresh t) (fresh u)
    fresh-like (alike-leaf e) = like-node (alike-leaf e)
    fresh-like (alike-halt e) = like-node (alike-halt e)
    fresh-like (alike-loop e h) = like-node (alike-loop e h)
    fresh-like (alike-branch e h k) = like-node (alike-branch e h k)
    fresh-like (alike-seq h) = to-like (next-child-like h)
    fresh-like (alike-par h) = like-par (fresh-parts-like h)

    pub next-child-like : {ts us : Forest} → AlikeAll number ts us → NextRel (Like number) (next_child ts) (next_child us)
    next-child-like alike-nil = finished-rel
    next-child-like (alike-cons h k) = to-rel (like-seq (fresh-like h) k)

    fresh-parts-like : {ts us : Forest} → Shuffled number ts us → LikeParts number (fresh_parts ts) (fresh_parts us)
    fresh-parts-like shuffled-nil = like-none
    fresh-parts-like (shuffled-cons h k) = like-part (fresh-like h) (fresh-parts-like k)
    fresh-parts-like (shuffled-swap h i k) = cross-both (fresh-like h) (fresh-like i) (fresh-parts-like k)

  -- what is like a PARALLEL that is finished is finished
  pub finished-like : {ps qs : Parts} → LikeParts number ps qs → every_finished ps ≡ every_finished qs
  unfolding every_finished
  finished-like like-none = refl
  finished-like (like-finished h) = finished-like h
  finished-like (like-part h k) = refl
  finished-like (cross-both h i k) = refl
  finished-like (cross-first h k) = refl
  finished-like (cross-second h k) = refl

-- ---- the acting nodes
perm-append : {a b c d : List ℕ} → Permuted a b → Permuted c d → Permuted (a ++ c) (b ++ d)
perm-append {b = b} {c = c} h k = perm-trans (Permᴰ.append_right c h) (Permᴰ.append_left b k)

perm-cross : {a b c d e f : List ℕ} → Permuted a b → Permuted c d → Permuted e f → Permuted (a ++ (c ++ e)) (d ++ (b ++ f))
perm-cross {a} {b} {c} {d} {e} {f} h i k =
    perm-trans (perm-append h (perm-append i k))
    (subst (λ x. Permuted x (d ++ (b ++ f))) (append_assoc b d f)
    (subst (Permuted ((b ++ d) ++ f)) (append_assoc d b f) (Permᴰ.append_right f (Permᴰ.append_comm b d))))

module _ {number : ℕ → ℕ} where
  at-like : {t u : Tree} → Alike number t u → Permuted (map number (acting_at t)) (acting_at u)
  unfolding acting_at
  at-like (alike-leaf e) = perm-cons e perm-nil
  at-like (alike-halt e) = perm-cons e perm-nil
  at-like (alike-loop e h) = perm-cons e perm-nil
  at-like (alike-branch e h k) = perm-cons e perm-nil
  at-like (alike-seq h) = perm-nil
  at-like (alike-par h) = perm-nil

  mutual
    unfolding acting

    pub acting-like : {r q : Residual} → Like number r q → Permuted (map number (acting r)) (acting q)
    acting-like (like-node h) = at-like h
    acting-like (like-loop e h k) = acting-like k
    acting-like (like-branch h) = acting-like h
    acting-like (like-seq h k) = acting-like h
    acting-like (like-par h) = acting-parts-like h

    acting-parts-like : {ps qs : Parts} → LikeParts number ps qs → Permuted (map number (acting_parts ps)) (acting_parts qs)
    acting-parts-like like-none = perm-nil
    acting-parts-like (like-finished h) = acting-parts-like h
    acting-parts-like (like-part {r = r} {ps = ps} h k) = rw (map-append number (acting r) (acting_parts ps)) (perm-append (acting-like h) (acting-parts-like k))
    acting-parts-like (cross-both {r = r} {s = s} {ps = ps} h i k) =
        rw (map-append number (acting r) (acting s ++ acting_parts ps), map-append number (acting s) (acting_parts ps))
        (perm-cross (acting-like h) (acting-like i) (acting-parts-like k))
    acting-parts-like (cross-first {s = s} {ps = ps} h k) = rw (map-append number (acting s) (acting_parts ps)) (perm-append (acting-like h) (acting-parts-like k))
    acting-parts-like (cross-second {r = r} {ps = ps} h k) = rw (map-append number (acting r) (acting_parts ps)) (perm-append (acting-like h) (acting-parts-like k))
