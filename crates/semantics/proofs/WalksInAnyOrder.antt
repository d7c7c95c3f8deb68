-- A walk over truths in another order: where those that stop it stop it alike, it stops at the same.
use mathlib.Core.Path.{◌≡◌, refl, sym, ap, ◌∙◌}
use mathlib.Core.Bool.{false}
use mathlib.Core.List.Memᴰ.{head as first}
use mathlib.Core.List.Memᴰ.{tail as later}
use mathlib.Core.List.Permᴰ
use mathlib.Core.List.Permᴰ.{cons as perm-cons}
use mathlib.Core.List.Permᴰ.{nil as perm-nil}
use mathlib.Core.List.Permᴰ.{swap as perm-swap}
use mathlib.Core.List.Permᴰ.{trans as perm-trans}
use mathlib.Core.List.{List, [], ◌∷◌, map, Memᴰ as Mem, Permᴰ as Permuted}
use Prim.Native.Nat.{ℕ}
use native.Mathlib.Omega.{arith}
use lib.IntN.{ℤ}
use Rattle.semantics.specs.Editions.{Edition}
use Rattle.semantics.specs.Expressions.{ok}
use Rattle.semantics.specs.Evaluating.{TruthComesTo}
use Rattle.semantics.specs.Run.{Action, walk}
use Rattle.semantics.specs.Rules.{Found, nothing, Walks, walk_ends, walk-on, stops-at-truth, stops-at-fault, Stops, by-truth, by-fault, Waits, none_waits, one_waits}
use Rattle.semantics.specs.Renumbering.{StopAlike}
use Rattle.semantics.proofs.Facts.{All, all_nil, all_cons, all-mem}
use Rattle.semantics.proofs.ComesTo.{truth-value}
use Rattle.semantics.proofs.StepParts.{found_as, walk-found, found-walk}

pub perm-mem : {A : Type 0} {x : A} {l k : List A} → Permuted l k → Mem x l → Mem x k
perm-mem perm-nil m = m
perm-mem (perm-cons e d) (first h) = first (h ∙ e)
perm-mem (perm-cons e d) (later m) = later (perm-mem d m)
perm-mem (perm-swap e f) (first h) = later (first (h ∙ e))
perm-mem (perm-swap e f) (later (first h)) = first (h ∙ f)
perm-mem (perm-swap e f) (later (later m)) = later (later m)
perm-mem (perm-trans d e) m = perm-mem e (perm-mem d m)

-- what a walk comes to, in whichever order its truths stand
pub data Came (ed : Edition) (vs : List ℤ) (ts : List (List ℕ)) : Found → Type 0 where
  all_false : All (λ t. TruthComesTo ed vs t (ok false)) ts → Came ed vs ts nothing
  one_stops : {t : List ℕ} {f : Found} → Mem t ts → Stops ed vs t f → Came ed vs ts f

module _ {ed : Edition} {vs : List ℤ} where
  came-on : {t : List ℕ} {ts : List (List ℕ)} {f : Found} → TruthComesTo ed vs t (ok false) → Came ed vs ts f → Came ed vs (t ∷ ts) f
  came-on e (all_false a) = all_false (all_cons e a)
  came-on e (one_stops m s) = one_stops (later m) s

  pub came : {ts : List (List ℕ)} {f : Found} → Walks ed vs ts f → Came ed vs ts f
  came walk_ends = all_false all_nil
  came (walk-on e w) = came-on e (came w)
  came (stops-at-truth e) = one_stops (first refl) (by-truth e)
  came (stops-at-fault e) = one_stops (first refl) (by-fault e)

  stops-not-false : {C : Type 0} {t : List ℕ} {f : Found} → Stops ed vs t f → TruthComesTo ed vs t (ok false) → C
  stops-not-false (by-truth h) k = let z : ◌≡◌ {A = ℕ} 0 1 = cc (truth-value ed vs h, truth-value ed vs k) in absurd (omega arith)
  stops-not-false (by-fault h) k = let z : ◌≡◌ {A = ℕ} 0 1 = cc (truth-value ed vs h, truth-value ed vs k) in absurd (omega arith)

  pub same-found : {ts us : List (List ℕ)} {f g : Found} → Permuted ts us → StopAlike ed vs ts → Came ed vs ts f → Came ed vs us g → f ≡ g
  same-found d a (all_false p) (all_false q) = refl
  same-found d a (all_false p) (one_stops m s) = stops-not-false s (all-mem p (perm-mem (Permᴰ.symm d) m))
  same-found d a (one_stops m s) (all_false q) = stops-not-false s (all-mem q (perm-mem d m))
  same-found d a (one_stops m s) (one_stops n r) = a.alike _ _ _ _ m (perm-mem (Permᴰ.symm d) n) s r

  no_stop : {C : Type 0} {t : List ℕ} {f : Found} → Stops ed vs t f → f ≡ nothing → C
  no_stop (by-truth h) e = let z : ◌≡◌ {A = ℕ} 0 1 = cc in absurd (omega arith)
  no_stop (by-fault h) e = let z : ◌≡◌ {A = ℕ} 0 1 = cc in absurd (omega arith)

  pub none-stops : {ts : List (List ℕ)} → Came ed vs ts nothing → StopAlike ed vs ts
  none-stops (all_false p) = record { alike = λ t u f g m n s r. stops-not-false s (all-mem p m) }
  none-stops (one_stops m s) = no_stop s refl

pub walk-any-order : (ed : Edition) (n : ℕ) (vs : List ℤ) {ts us : List (List ℕ)} → Permuted ts us → StopAlike ed vs ts → walk ed n vs ts ≡ walk ed n vs us
walk-any-order ed n vs {ts} {us} d a =
    let v = found-walk ed vs ts in
    let w = found-walk ed vs us in
    walk-found v.1 n ∙ ap (found_as n) (same-found d a (came v.1) (came w.1)) ∙ sym (walk-found w.1 n)

-- ---- CONTINUEs in another order
-- their truths stand in that order then
pub record ReorderedWaits (action : ℕ → Action) (ns : List ℕ) (ts : List (List ℕ)) : Type 0 where
  pub truths : List (List ℕ)
  pub waits : Waits action ns truths
  pub permuted : Permuted ts truths

pub waits-reordered : {action : ℕ → Action} {ns ms : List ℕ} {ts : List (List ℕ)} → Permuted ns ms → Waits action ns ts → ReorderedWaits action ms ts
waits-reordered perm-nil none_waits = record { truths = []; waits = none_waits; permuted = perm-nil }
waits-reordered {action} (perm-cons e d) (one_waits {t = t} h w) =
    let r = waits-reordered d w in
    record { truths = t ∷ r.truths; waits = one_waits (ap action (sym e) ∙ h) r.waits; permuted = perm-cons refl r.permuted }
waits-reordered {action} (perm-swap e f) (one_waits {t = t} h (one_waits {t = u} {ts = ts} k w)) =
    record { truths = u ∷ t ∷ ts; waits = one_waits (ap action (sym f) ∙ k) (one_waits (ap action (sym e) ∙ h) w); permuted = perm-swap refl refl }
waits-reordered (perm-trans d e) w =
    let r = waits-reordered d w in
    let q = waits-reordered e r.waits in
    record { truths = q.truths; waits = q.waits; permuted = perm-trans r.permuted q.permuted }

pub waits-renumbered : {action other : ℕ → Action} {ns : List ℕ} {ts : List (List ℕ)} (number : ℕ → ℕ) → ((n : ℕ) → other (number n) ≡ action n) →
    Waits action ns ts → Waits other (map number ns) ts
waits-renumbered number h none_waits = none_waits
waits-renumbered number h (one_waits {n = n} e w) = one_waits (h n ∙ e) (waits-renumbered number h w)
