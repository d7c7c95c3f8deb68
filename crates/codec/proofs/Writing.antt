-- Pieces written one after the other are one piece, and at the front it overwrites the buffer.
use mathlib.Core.Path.{◌≡◌, sym, ap, ap₂, ◌∙◌}
use mathlib.Core.List.{List, [], ◌∷◌, ◌++◌, append_assoc}
use Prim.Native.Nat.{ℕ, ◌+◌, ◌-◌, ◌≤◌, ◌<◌}
use native.Mathlib.Nat.{add_assoc, add-zero, zero-add}
use native.Mathlib.Numerals.{add-one}
use native.Mathlib.Omega.{arith}
use lib.ListN.{length, get_or, take, drop, set, length-append, length-drop, take-append-drop}
use borrow.Rule.Slice.PartMut.{put_mid}
use lib.Seq.{length-take-le, take_at, drop-append-add, drop-drop, set_split, take-suc}
use Rattle.semantics.specs.Bytes.{overwrite}
use Rattle.codec.specs.Writing.{put, Wrote}

-- ---- one write
pub put-none : (d : List ℕ) (i : ℕ) → d ≡ put d i []
unfolding put
put-none d i = sym (ap (λ (k : ℕ). take i d ++ drop k d) (add-zero i) ∙ take-append-drop i d)

pub put_one : (d : List ℕ) (i b : ℕ) → i < length d → set d i b ≡ put d i (b ∷ [])
unfolding put
put_one d i b h = set_split d i b h ∙ ap (λ (k : ℕ). take i d ++ b ∷ drop k d) (sym (add-one i))

pub length-put : (d : List ℕ) (i : ℕ) (bs : List ℕ) → i + length bs ≤ length d → length (put d i bs) ≡ length d
unfolding put
length-put d i bs h = simp (length-append, length-drop, length-take-le i d (omega arith)) (omega arith)

pub put_front : (d bs : List ℕ) → put d 0 bs ≡ overwrite bs d
unfolding put overwrite
put_front d bs = ap (λ (n : ℕ). bs ++ drop n d) (zero-add (length bs))

-- ---- one write after another is the write of both
pub put-put : (d : List ℕ) (i j : ℕ) (xs ys : List ℕ) → i ≤ length d → j ≡ i + length xs → put (put d i xs) j ys ≡ put d i (xs ++ ys)
unfolding put
put-put d i j xs ys h e =
    let p = take i d ++ xs in
    let r = drop (i + length xs) d in
    let lp : length p ≡ j = length-append (take i d) xs ∙ ap (λ (n : ℕ). n + length xs) (length-take-le i d h) ∙ sym e in
    let whole : take i d ++ (xs ++ r) ≡ p ++ r = sym (append_assoc (take i d) xs r) in
    ap₂ (λ (a b : List ℕ). a ++ (ys ++ b))
    (ap (take j) whole ∙ take_at p r j lp)
    (ap (drop (j + length ys)) whole ∙ ap (λ (n : ℕ). drop (n + length ys) (p ++ r)) (sym lp) ∙ drop-append-add p r (length ys) ∙ drop-drop (length ys) (i + length xs) d)
    ∙ append_assoc (take i d) xs (ys ++ drop (i + length xs + length ys) d)
    ∙ ap (λ (z : List ℕ). take i d ++ z) (sym (append_assoc xs ys (drop (i + length xs + length ys) d)))
    ∙ ap (λ (n : ℕ). take i d ++ ((xs ++ ys) ++ drop n d)) (add_assoc i (length xs) (length ys) ∙ ap (λ (n : ℕ). i + n) (sym (length-append xs ys)))

-- nothing is written yet
pub wrote_none : (d : List ℕ) (i : ℕ) → Wrote d i [] d
wrote_none d i = record { is = put-none d i }

-- a write of more at the place that the last one left
pub put-more : {d e g : List ℕ} {i j : ℕ} {xs ys : List ℕ} → Wrote d i xs e → Wrote e j ys g → i ≤ length d → j ≡ i + length xs → Wrote d i (xs ++ ys) g
put-more {d} {e} {g} {i} {j} {xs} {ys} p r h q = record { is = r.is ∙ ap (λ (l : List ℕ). put l j ys) p.is ∙ put-put d i j xs ys h q }

-- the same bytes, said in another way
pub wrote_as : {d e : List ℕ} {i : ℕ} {xs ys : List ℕ} → xs ≡ ys → Wrote d i xs e → Wrote d i ys e
wrote_as {d} {e} {i} q w = record { is = w.is ∙ ap (put d i) q }

pub wrote-length : {d e : List ℕ} {i : ℕ} {bs : List ℕ} → Wrote d i bs e → i + length bs ≤ length d → length e ≡ length d
wrote-length {d} {e} {i} {bs} w h = ap length w.is ∙ length-put d i bs h

-- what was written at the front
pub wrote-front : {d e bs : List ℕ} → Wrote d 0 bs e → e ≡ overwrite bs d
wrote-front {d} {e} {bs} w = w.is ∙ put_front d bs

-- the first j of s, and one more
pub take_more : (s : List ℕ) (j : ℕ) → j < length s → take j s ++ (get_or s j 0 ∷ []) ≡ take (j + 1) s
take_more s j h = sym (ap (λ (n : ℕ). take n s) (add-one j) ∙ take-suc s j 0 h)

-- what stands in the place of a part of the buffer
pub put-part : (d : List ℕ) (i k : ℕ) (xs ys : List ℕ) → ys ≡ xs → k ≡ i + length xs → Wrote d i xs (put_mid i (k - i) d ys)
unfolding put
put-part d i k xs ys e f =
    let n : k - i ≡ length xs = omega arith in
    record { is = rw (e, n) (ap (λ (r : List ℕ). take i d ++ (xs ++ r)) (drop-drop (length xs) i d)) }
