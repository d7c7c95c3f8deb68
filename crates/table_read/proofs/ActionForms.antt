-- The forms of an operand, and an action at a place.
use mathlib.Core.Path.{◌≡◌, refl, sym, ap, ◌∙◌}
use mathlib.Core.Bool.{Bool, true, false, cond}
use mathlib.Core.List.{List, [], ◌∷◌}
use mathlib.Core.Option.{Option, none, some}
use Prim.Native.Nat.{ℕ, suc, ◌+◌, ◌-◌, ◌≤◌, ◌<◌}
use native.Mathlib.Omega.{arith}
use borrow.Author.Tests.{le-leb, eqb-true, ne_eqb}
use lib.Dec.{leb, eqb}
use lib.ListN.{length, get_or, take, drop, length-drop}
use Rattle.std.specs.Prelude.{Some, None}
use Rattle.semantics.specs.Bytes.{is_some, Reader, read, from, ◌>>=◌, from_no_bytes, from_two_bytes, byte_and_rest}
use Rattle.semantics.specs.Editions.{Edition}
use Rattle.semantics.specs.Run.{Action, assign, switch, stop}
use Rattle.semantics.specs.TableFile.{NodeAction, ActionKind, a_test, a_wait, an_assignment, a_switch, a_stop, no_kind, TEST, WAIT, ASSIGN, SWITCH, STOP, action_kind, action_of_kind, kind_number, read_action}
use Rattle.semantics.proofs.Facts.{within_both, within_low, true-not-false, none-not-some}
use Rattle.semantics.proofs.Readers.{guarded, from_some, split, given, given-rest}
use Rattle.codec.specs.Numbers.{wide, num_at}
use Rattle.codec.specs.Parts.{between}
use Rattle.codec.specs.Reading.{Took, Reads}
use Rattle.codec.proofs.Reading.{taken, lost, then, broke, gives, lifts, no-lift, then-guard, no-guard, then-byte, no_byte, then-number, no_number, then-bytes, no_bytes, either, within-below, within-above}
use Rattle.codec.proofs.Known.{after-number, not-number, after-byte, not-past, after-bytes, not_short}
use Rattle.table_read.specs.Ends.{anything, Ends, ends_at, ends_none}
use Rattle.table_read.specs.ActionIndex.{kind_code}

-- ---- operands
pub assign-form : (b : List ℕ) → leb 1 (length b) ≡ is_some (byte_and_rest assign b)
unfolding is_some byte_and_rest
assign-form [] = refl
assign-form (a ∷ l) = le-leb 1 (suc (length l)) (omega arith)

pub switch-form : (b : List ℕ) → eqb (length b) 2 ≡ is_some (from_two_bytes switch b)
unfolding is_some from_two_bytes
switch-form [] = refl
switch-form (a ∷ []) = refl
switch-form (a ∷ b ∷ []) = refl
switch-form (a ∷ b ∷ c ∷ l) = ne_eqb (suc (suc (suc (length l)))) 2 (λ e. omega arith)

pub stop-form : (b : List ℕ) → eqb (length b) 0 ≡ is_some (from_no_bytes stop b)
unfolding is_some from_no_bytes
stop-form [] = refl
stop-form (a ∷ l) = ne_eqb (suc (length l)) 0 (λ e. omega arith)

-- ---- an action at place p of s
pub action-none : (ed : Edition) (s : List ℕ) (p : ℕ) → length s < p + wide ed → Ends (read_action ed) s p None
unfolding read_action
action-none ed s p h = ends_none (lost {K = anything} (no_number _ _ h) refl)

module _ (ed : Edition) (s : List ℕ) (p : ℕ) (i : p + wide ed ≤ length s) where
  pub action-low : num_at ed s p < wide ed + 1 → Ends (read_action ed) s p None
  unfolding read_action
  action-low h = ends_none (lost {K = anything} (then-number _ _ i (no-guard _ _ (within-below (wide ed + 1) (wide ed + 200) _ h))) refl)

  pub action-high : wide ed + 200 < num_at ed s p → Ends (read_action ed) s p None
  unfolding read_action
  action-high h = ends_none (lost {K = anything} (then-number _ _ i (no-guard _ _ (within-above (wide ed + 1) (wide ed + 200) _ h))) refl)

  module _ (g : wide ed + 1 ≤ num_at ed s p) (h : num_at ed s p ≤ wide ed + 200) where
    pub action-short : length s < p + wide ed + num_at ed s p → Ends (read_action ed) s p None
    unfolding read_action
    action-short j = ends_none (lost {K = anything} (then-number _ _ i (then-guard _ _ (within_both (wide ed + 1) (wide ed + 200) _ g h)
        (either (length s) (p + wide ed + wide ed) (λ m. no_number _ _ m) (λ m. then-number _ _ m
        (either (p + wide ed + wide ed) (length s) (λ k. then-byte _ k (no_bytes _ _ (omega arith) (omega arith))) (λ k. no_byte _ k)))))) refl)

    module _ (j : p + wide ed + num_at ed s p ≤ length s) {x : Bool}
        (e : x ≡ is_some (action_of_kind (action_kind (get_or s (p + wide ed + wide ed) 0)) (between (p + wide ed + wide ed + 1) (p + wide ed + wide ed + 1 + (num_at ed s p - (wide ed + 1))) s))) where
      part : p + wide ed + wide ed + 1 + (num_at ed s p - (wide ed + 1)) - (p + wide ed + wide ed + 1) ≡ num_at ed s p - (wide ed + 1)
      part = omega arith

      lift-true : (f : Action → Reader NodeAction) (o : Option Action) → true ≡ is_some o → (q : ℕ) → q ≤ length s → ((a : Action) → Reads (f a) anything s q (some (q, tt))) → Reads (from o >>= f) anything s q (some (q, tt))
      unfolding is_some
      lift-true f none e q l k = true-not-false e
      lift-true f (some a) e q l k = then f (lifts {K = anything} (some a) {x = tt} l refl tt) refl (λ t. k t.value)

      lift-false : (f : Action → Reader NodeAction) (o : Option Action) → false ≡ is_some o → (q : ℕ) → Reads (from o >>= f) anything s q none
      unfolding is_some
      lift-false f none e q = broke f (no-lift {K = anything} none refl) refl
      lift-false f (some a) e q = true-not-false (sym e)

      action-ok : x ≡ true → Ends (read_action ed) s p (Some (p + wide ed + wide ed + 1 + (num_at ed s p - (wide ed + 1))))
      unfolding read_action
      action-ok t =
          ends_at {q = p + wide ed + wide ed + 1 + (num_at ed s p - (wide ed + 1))}
          (taken (then-number _ _ i (then-guard _ _ (within_both (wide ed + 1) (wide ed + 200) _ g h) (then-number _ _ (omega arith) (then-byte _ (omega arith) (then-bytes _ _ (omega arith)
          (lift-true _ _ (sym t ∙ rw part at e) _ (omega arith) (λ a. gives _ (omega arith) tt))))))) refl)

      action-bad : x ≡ false → Ends (read_action ed) s p None
      unfolding read_action
      action-bad t =
          ends_none (lost {K = anything} (then-number _ _ i (then-guard _ _ (within_both (wide ed + 1) (wide ed + 200) _ g h)
          (then-number _ _ (omega arith) (then-byte _ (omega arith) (then-bytes _ _ (omega arith)
          (lift-false _ _ (sym t ∙ rw part at e) _)))))) refl)

-- w and l are what code holds
module _ (ed : Edition) (s : List ℕ) (p : ℕ) {w l : ℕ} (ew : w ≡ wide ed) (el : l ≡ num_at ed s p) (i : p + w ≤ length s) (g : w + 1 ≤ l) (h : l ≤ w + 200) (j : p + w + l ≤ length s)
    {x : Bool} (e : x ≡ is_some (action_of_kind (action_kind (get_or s (p + w + w) 0)) (between (p + w + w + 1) (p + w + w + 1 + (l - (w + 1))) s))) where
  pub action-here : x ≡ true → Ends (read_action ed) s p (Some (p + w + w + 1 + (l - (w + 1))))
  action-here t = rw (ew, el) (action-ok ed s p (omega arith) (omega arith) (omega arith) (omega arith) (rw (ew, el) at e) t)

  pub no-action-here : x ≡ false → Ends (read_action ed) s p None
  no-action-here t = action-bad ed s p (omega arith) (omega arith) (omega arith) (omega arith) (rw (ew, el) at e) t

-- ---- an action that was read
pub record Was (ed : Edition) (s : List ℕ) (p : ℕ) (a : NodeAction) (e : List ℕ) : Type 0 where
  pub low : wide ed + 1 ≤ num_at ed s p
  pub inside : p + wide ed + num_at ed s p ≤ length s
  pub node : num_at ed s (p + wide ed) ≡ a.node
  pub is : action_of_kind (action_kind (get_or s (p + wide ed + wide ed) 0)) (take (num_at ed s p - (wide ed + 1)) (drop (p + wide ed + wide ed + 1) s)) ≡ some a.action
  pub rest : drop (p + wide ed + wide ed + 1 + (num_at ed s p - (wide ed + 1))) s ≡ e

pub was : (ed : Edition) (s : List ℕ) (p : ℕ) {a : NodeAction} {e : List ℕ} → read_action ed (drop p s) ≡ read a e → Was ed s p a e
unfolding read_action
was ed s p {a} {e} h = either (length s) (p + wide ed) (λ i. not-number _ s p _ i h) (λ i.
    let g = guarded _ _ (after-number _ s p _ i h) in
    let low = within_low (wide ed + 1) (wide ed + 200) _ g.0 in
    either (length s) (p + wide ed + wide ed) (λ j. not-number _ s (p + wide ed) _ j g.1) (λ j.
    let b = after-number _ s (p + wide ed) _ j g.1 in
    either (p + wide ed + wide ed) (length s) (λ k.
    let d = after-byte _ s (p + wide ed + wide ed) k b in
    either (length s) (p + wide ed + wide ed + 1 + (num_at ed s p - (wide ed + 1))) (λ l. not_short _ s (p + wide ed + wide ed + 1) (num_at ed s p - (wide ed + 1)) (omega arith) l d)
    (λ l.
    let f = split (from (action_of_kind (action_kind (get_or s (p + wide ed + wide ed) 0)) (take (num_at ed s p - (wide ed + 1)) (drop (p + wide ed + wide ed + 1) s)))) _
    (after-bytes _ s (p + wide ed + wide ed + 1) (num_at ed s p - (wide ed + 1)) l d) in
    let m = from_some _ f.first in
    record {
      low = low;
      inside = omega arith;
      node = ap (λ z. z.node) (given _ f.rest f.then);
      is = m.0 ∙ ap (λ z. some z.action) (given _ f.rest f.then);
      rest = m.1 ∙ given-rest _ f.rest f.then;
    })) (λ k. not-past _ s (p + wide ed + wide ed) k b)))

-- where it ends
pub ends : (ed : Edition) {K : NodeAction → Unit {0} → Type 0} {s : List ℕ} {p q : ℕ} (t : Took (read_action ed) K s p q tt) → Was ed s p t.value (drop q s) → q ≡ p + wide ed + num_at ed s p
ends ed {s = s} {p = p} {q = q} t w =
    let e : length (drop (p + wide ed + wide ed + 1 + (num_at ed s p - (wide ed + 1))) s) ≡ length (drop q s) = ap length w.rest in
    let i = t.inside in
    let j = w.inside in
    let k = w.low in
    omega (arith, length-drop (p + wide ed + wide ed + 1 + (num_at ed s p - (wide ed + 1))) s, length-drop q s)

-- ---- the kind that was read is the action's
code_of : ActionKind → ℕ
code_of a_test = TEST
code_of a_wait = WAIT
code_of an_assignment = ASSIGN
code_of a_switch = SWITCH
code_of a_stop = STOP
code_of no_kind = 0

coded : (k : ActionKind) (b : List ℕ) {a : Action} → action_of_kind k b ≡ some a → kind_code (some a) ≡ code_of k
unfolding action_of_kind byte_and_rest from_two_bytes from_no_bytes kind_code kind_number code_of
coded a_test b h = ap kind_code (sym h)
coded a_wait b h = ap kind_code (sym h)
coded an_assignment [] h = none-not-some h
coded an_assignment (x ∷ b) h = ap kind_code (sym h)
coded a_switch [] h = none-not-some h
coded a_switch (x ∷ []) h = none-not-some h
coded a_switch (x ∷ y ∷ []) h = ap kind_code (sym h)
coded a_switch (x ∷ y ∷ z ∷ b) h = none-not-some h
coded a_stop [] h = ap kind_code (sym h)
coded a_stop (x ∷ b) h = none-not-some h
coded no_kind b h = none-not-some h

known : (k : ℕ) (b : List ℕ) {a : Action} → action_of_kind (action_kind k) b ≡ some a → code_of (action_kind k) ≡ k
unfolding action_kind action_of_kind code_of
known k b {a} h = go (eqb k TEST) (eqb k WAIT) (eqb k ASSIGN) (eqb k SWITCH) (eqb k STOP) refl refl refl refl refl h
  where
    go : (c d e f g : Bool) → eqb k TEST ≡ c → eqb k WAIT ≡ d → eqb k ASSIGN ≡ e → eqb k SWITCH ≡ f → eqb k STOP ≡ g →
        action_of_kind (cond c a_test (cond d a_wait (cond e an_assignment (cond f a_switch (cond g a_stop no_kind))))) b ≡ some a →
        code_of (cond c a_test (cond d a_wait (cond e an_assignment (cond f a_switch (cond g a_stop no_kind))))) ≡ k
    go true d e f g i j l m n h = sym (eqb-true k TEST i)
    go false true e f g i j l m n h = sym (eqb-true k WAIT j)
    go false false true f g i j l m n h = sym (eqb-true k ASSIGN l)
    go false false false true g i j l m n h = sym (eqb-true k SWITCH m)
    go false false false false true i j l m n h = sym (eqb-true k STOP n)
    go false false false false false i j l m n h = none-not-some h

pub kind-is : (k : ℕ) (b : List ℕ) {a : Action} → action_of_kind (action_kind k) b ≡ some a → kind_code (some a) ≡ k
kind-is k b h = coded (action_kind k) b h ∙ known k b h
