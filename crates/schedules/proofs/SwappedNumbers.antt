-- Nodes where two children of a PARALLEL change places: each is found by its new number, and no two get one number.
use mathlib.Core.Path.{◌≡◌, refl, sym, ap, ap₂, ◌∙◌}
use mathlib.Core.Bool.{Bool, true, false, cond}
use mathlib.Core.List.{List, [], ◌∷◌, ◌++◌, append_assoc}
use Prim.Native.Nat.{ℕ, zero, suc, ◌+◌, ◌-◌, ◌≤◌, ◌<◌}
use native.Mathlib.Omega.{arith}
use borrow.Author.Tests.{ltb-true, ltb-false, lt-ltb, le-ltb}
use lib.Dec.{ltb}
use lib.ListN.{length, get_elem?, length-append}
use Rattle.schedules.specs.Nodes.{Node, parallel}
use Rattle.schedules.specs.Reordered.{Swapped, exchanged_number, swapped_number}

-- ---- numbers
-- number n becomes m where a numbers from f on and the b after them change places
pub data Exchanged (f a b n m : ℕ) : Type 0 where
  ex_before : n < f → m ≡ n → Exchanged f a b n m
  ex_one : f ≤ n → n < f + a → m ≡ n + b → Exchanged f a b n m
  ex_other : f + a ≤ n → n < f + a + b → m + a ≡ n → Exchanged f a b n m
  ex_after : f + a + b ≤ n → m ≡ n → Exchanged f a b n m

exchanged : (f a b n : ℕ) → Exchanged f a b n (exchanged_number f a b n)
unfolding exchanged_number
exchanged f a b n = go (ltb n f) (ltb n (f + a)) (ltb n (f + a + b)) refl refl refl
  where
    go : (p q r : Bool) → ltb n f ≡ p → ltb n (f + a) ≡ q → ltb n (f + a + b) ≡ r → Exchanged f a b n (cond p n (cond q (n + b) (cond r (n - a) n)))
    go true q r i j k = ex_before (ltb-true n f i) refl
    go false true r i j k = ex_one (ltb-false n f i) (ltb-true n (f + a) j) refl
    go false false true i j k = let l = ltb-false n (f + a) j in ex_other l (ltb-true n (f + a + b) k) (omega arith)
    go false false false i j k = ex_after (ltb-false n (f + a + b) k) refl

pub exchanged-is : {f a b n m : ℕ} → Exchanged f a b n m → exchanged_number f a b n ≡ m
unfolding exchanged_number
exchanged-is {f} {a} {b} {n} (ex_before h e) = rw (lt-ltb n f h) (sym e)
exchanged-is {f} {a} {b} {n} (ex_one h i e) = rw (le-ltb n f h, lt-ltb n (f + a) i) (sym e)
exchanged-is {f} {a} {b} {n} (ex_other h i e) = rw (le-ltb n f (omega arith), le-ltb n (f + a) h, lt-ltb n (f + a + b) i) (omega arith)
exchanged-is {f} {a} {b} {n} (ex_after h e) = rw (le-ltb n f (omega arith), le-ltb n (f + a) (omega arith), le-ltb n (f + a + b) h) (sym e)

exchanged-back : {f a b n m : ℕ} → Exchanged f a b n m → Exchanged f b a m n
exchanged-back (ex_before h e) = ex_before (omega arith) (sym e)
exchanged-back (ex_one h i e) = ex_other (omega arith) (omega arith) (sym e)
exchanged-back (ex_other h i e) = ex_one (omega arith) (omega arith) (sym e)
exchanged-back (ex_after h e) = ex_after (omega arith) (sym e)

pub swapped-one-to-one : {ns ms : List Node} (s : Swapped ns ms) (m n : ℕ) → swapped_number s m ≡ swapped_number s n → m ≡ n
unfolding swapped_number
swapped-one-to-one s m n e = sym (back m) ∙ ap (exchanged_number from (length s.other) (length s.one)) e ∙ back n
  where
    from : ℕ
    from = suc (length s.before + length s.first)

    back : (n : ℕ) → exchanged_number from (length s.other) (length s.one) (exchanged_number from (length s.one) (length s.other) n) ≡ n
    back n = exchanged-is (exchanged-back (exchanged from (length s.one) (length s.other) n))

-- ---- nodes
module _ {A : Type 0} where
  at_front : (l k : List A) (i : ℕ) → i < length l → get_elem? (l ++ k) i ≡ get_elem? l i
  at_front [] k i h = absurd (omega arith)
  at_front (x ∷ l) k zero h = refl
  at_front (x ∷ l) k (suc i) h = at_front l k i (omega arith)

  at_back : (l k : List A) (i j : ℕ) → length l + i ≡ j → get_elem? (l ++ k) j ≡ get_elem? k i
  at_back [] k i j e = ap (get_elem? k) (omega arith)
  at_back (x ∷ l) k i zero e = absurd (omega arith)
  at_back (x ∷ l) k i (suc j) e = at_back l k i j (omega arith)

  exchanged-at : (p a b c : List A) (n m : ℕ) → Exchanged (length p) (length a) (length b) n m → get_elem? (p ++ (b ++ (a ++ c))) m ≡ get_elem? (p ++ (a ++ (b ++ c))) n
  exchanged-at p a b c n m (ex_before h e) = at_front p _ m (omega arith) ∙ ap (get_elem? p) e ∙ sym (at_front p _ n h)
  exchanged-at p a b c n m (ex_one h i e) =
      at_back p _ (m - length p) m (omega arith) ∙ at_back b _ (n - length p) (m - length p) (omega arith) ∙ at_front a c (n - length p) (omega arith)
      ∙ sym (at_back p _ (n - length p) n (omega arith) ∙ at_front a _ (n - length p) (omega arith))
  exchanged-at p a b c n m (ex_other h i e) =
      at_back p _ (m - length p) m (omega arith) ∙ at_front b _ (m - length p) (omega arith)
      ∙ sym (at_back p _ (n - length p) n (omega arith) ∙ at_back a _ (m - length p) (n - length p) (omega arith) ∙ at_front b c (m - length p) (omega arith))
  exchanged-at p a b c n m (ex_after h e) =
      let j = m - (length p + length a + length b) in
      at_back p _ (m - length p) m (omega arith) ∙ at_back b _ (j + length a) (m - length p) (omega arith) ∙ at_back a c j (j + length a) (omega arith)
      ∙ sym (at_back p _ (n - length p) n (omega arith) ∙ at_back a _ (j + length b) (n - length p) (omega arith) ∙ at_back b c j (j + length b) (omega arith))

pub swapped-node : {ns ms : List Node} (s : Swapped ns ms) (n : ℕ) → get_elem? ms (swapped_number s n) ≡ get_elem? ns n
unfolding swapped_number
swapped-node {ns} {ms} s n =
    let p = s.before ++ (parallel s.count ∷ s.first) in
    let f : length p ≡ suc (length s.before + length s.first) = length-append s.before (parallel s.count ∷ s.first) ∙ omega arith in
    let e = exchanged (length p) (length s.one) (length s.other) n in
    let m = ap (λ f. exchanged_number f (length s.one) (length s.other) n) f in
    ap₂ (λ (l : List Node) (i : ℕ). get_elem? l i) (s.there ∙ sym (append_assoc s.before _ _)) (sym m)
    ∙ exchanged-at p s.one s.other s.after n _ e
    ∙ ap (λ (l : List Node). get_elem? l n) (append_assoc s.before _ _ ∙ sym s.here)
