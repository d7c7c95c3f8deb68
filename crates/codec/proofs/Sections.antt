-- Where a section stands in the bytes: its length in w bytes, then itself.
use mathlib.Core.Path.{◌≡◌, refl, sym, ap, ◌∙◌}
use mathlib.Core.List.{List}
use Prim.Native.Nat.{ℕ, ◌+◌, ◌-◌, ◌≤◌, ◌<◌}
use native.Mathlib.Omega.{arith}
use borrow.Author.Tests.{le-leb, lt-leb}
use Rattle.std.specs.Prelude.{Some, None}
use lib.ListN.{length, take, drop, length-drop, length-append}
use lib.Seq.{take-append_seam, drop-append_seam, drop-drop}
use Rattle.semantics.specs.Bytes.{Read, broken, read, Reader, nat2, nat4, bytes, section2, section4}
use Rattle.semantics.proofs.Readers.{broken-not-read, read-rest, Split, split, bytes_read}
use Rattle.codec.specs.Ends.{end_in, end_of, behind}
use Rattle.codec.proofs.Reading.{either, nat2-some, nat2-none, nat4-some, nat4-none, nat2_at, nat4_at, section2-short, section2-cut, section2-at, section4-short, section4-cut, section4-at}

-- ---- an answer is one of two
none-not-some : {A C : Type 0} {a : A} → None ≡ Some a → C
none-not-some e = absurd (cc)

some-is : {A : Type 0} {a b : A} → Some a ≡ Some b → a ≡ b
some-is e = cc

-- ---- the end of what a reader reads
module _ {A : Type 0} (r : Reader A) (t : List ℕ) (p : ℕ) where
  no_end : r (drop p t) ≡ broken → None ≡ end_of r t p
  unfolding end_of end_in
  no_end e = rw e refl

  end-at : (q : ℕ) {x : A} → r (drop p t) ≡ read x (drop q t) → q ≤ length t → Some q ≡ end_of r t p
  unfolding end_of end_in
  end-at q e h = rw e (ap Some (omega (arith, length-drop q t)))

module _ (t : List ℕ) (p n : ℕ) where
  pub reached-no : length t < p + n → behind t p n ≡ None
  reached-no h = rw (lt-leb (p + n) (length t) h) refl

  pub reached-yes : p + n ≤ length t → behind t p n ≡ Some (p + n)
  reached-yes h = rw (le-leb (p + n) (length t) h) refl

  -- what an answer says
  pub not-reached : behind t p n ≡ None → length t < p + n
  not-reached e = either (length t) (p + n) (λ h. h) (λ h. none-not-some (sym e ∙ reached-yes h))

  pub reached : {q : ℕ} → behind t p n ≡ Some q → (p + n ≤ length t) × (q ≡ p + n)
  reached {q} e = either (length t) (p + n) (λ h. none-not-some (sym (reached-no h) ∙ e)) (λ h. (h, some-is (sym e ∙ reached-yes h)))

module _ (t : List ℕ) (p : ℕ) where
  pub short2 : behind t p 2 ≡ None → p ≤ length t → None ≡ end_of section2 t p
  short2 e i = no_end section2 t p (section2-short t p (not-reached t p 2 e) i)

  pub at2 : {q n : ℕ} → behind t p 2 ≡ Some q → n ≡ nat2_at t p → behind t q n ≡ end_of section2 t p
  at2 {q} {n} e k = let r = reached t p 2 e in rw r.1 (either (length t) (p + 2 + n)
      (λ h. reached-no t (p + 2) n h ∙ no_end section2 t p (section2-cut t p n k r.0 h))
      (λ h. reached-yes t (p + 2) n h ∙ end-at section2 t p (p + 2 + n) (section2-at t p n k h) h))

  pub short4 : behind t p 4 ≡ None → p ≤ length t → None ≡ end_of section4 t p
  short4 e i = no_end section4 t p (section4-short t p (not-reached t p 4 e) i)

  pub at4 : {q n : ℕ} → behind t p 4 ≡ Some q → n ≡ nat4_at t p → behind t q n ≡ end_of section4 t p
  at4 {q} {n} e k = let r = reached t p 4 e in rw r.1 (either (length t) (p + 4 + n)
      (λ h. reached-no t (p + 4) n h ∙ no_end section4 t p (section4-cut t p n k r.0 h))
      (λ h. reached-yes t (p + 4) n h ∙ end-at section4 t p (p + 4 + n) (section4-at t p n k h) h))

-- ---- a section that was read from l: x, and then m
pub record Cut (w : ℕ) (l x m : List ℕ) : Type 0 where
  pub few : w + length x ≤ length l
  pub value : take (length x) (drop w l) ≡ x
  pub rest : m ≡ drop (w + length x) l

pub record Cuts (w : ℕ) (r : Reader (List ℕ)) : Type 0 where
  pub some_bytes : 0 < w
  pub cut : (l : List ℕ) {x m : List ℕ} → r l ≡ read x m → Cut w l x m

cut-bytes : (w n : ℕ) (l : List ℕ) {x m : List ℕ} → w ≤ length l → bytes n (drop w l) ≡ read x m → Cut w l x m
cut-bytes w n l {x} {m} h e =
    let k = bytes_read n (drop w l) e in
    let i : length (drop w l) ≡ length x + length m = ap length k.1 ∙ length-append x m in
    record {
      few = omega (arith, length-drop w l);
      value = ap (take (length x)) k.1 ∙ take-append_seam x m;
      rest = sym (drop-append_seam x m) ∙ ap (drop (length x)) (sym k.1) ∙ drop-drop (length x) w l;
    }

cut2 : (l : List ℕ) {x m : List ℕ} → section2 l ≡ read x m → Cut 2 l x m
unfolding section2
cut2 l {x} {m} e = either (length l) 2 (λ h. broken-not-read (sym (nat2-none l h) ∙ k.first)) (λ h. cut-bytes 2 k.value l h (ap (bytes k.value) (sym (read-rest (sym k.first ∙ nat2-some l h))) ∙ k.then))
  where
    k : Split nat2 bytes l x m
    k = split nat2 bytes e

cut4 : (l : List ℕ) {x m : List ℕ} → section4 l ≡ read x m → Cut 4 l x m
unfolding section4
cut4 l {x} {m} e = either (length l) 4 (λ h. broken-not-read (sym (nat4-none l h) ∙ k.first)) (λ h. cut-bytes 4 k.value l h (ap (bytes k.value) (sym (read-rest (sym k.first ∙ nat4-some l h))) ∙ k.then))
  where
    k : Split nat4 bytes l x m
    k = split nat4 bytes e

pub cuts2 : Cuts 2 section2
cuts2 = record { some_bytes = omega arith; cut = cut2 }

pub cuts4 : Cuts 4 section4
cuts4 = record { some_bytes = omega arith; cut = cut4 }

-- ---- the section at place p of t, which ends at q
pub record Section (w : ℕ) (r : Reader (List ℕ)) (t : List ℕ) (p q : ℕ) : Type 0 where
  pub value : List ℕ
  pub got : r (drop p t) ≡ read value (drop q t)
  pub is : q ≡ p + w + length value
  pub inside : q ≤ length t
  pub stands : take (q - (p + w)) (drop (p + w) t) ≡ value

module _ {w : ℕ} {r : Reader (List ℕ)} (k : Cuts w r) (t : List ℕ) (p : ℕ) (h : p ≤ length t) where
  section-at : {q : ℕ} {x m : List ℕ} → q ≡ p + w + length x → r (drop p t) ≡ read x m → Section w r t p q
  section-at {q} {x} {m} i e =
      let c = k.cut (drop p t) e in
      let few = c.few in
      let a : p + (w + length x) ≡ q = omega arith in
      let b : q - (p + w) ≡ length x = omega arith in
      record {
        value = x;
        got = e ∙ ap (read x) (c.rest ∙ drop-drop (w + length x) p t ∙ ap (λ n. drop n t) a);
        is = i;
        inside = omega (arith, length-drop p t);
        stands = rw (b, ← drop-drop w p t) c.value;
      }

  pub section-of : {x m : List ℕ} → r (drop p t) ≡ read x m → Section w r t p (p + w + length x)
  section-of e = section-at refl e

  -- what is left after it
  left : {x m : List ℕ} → r (drop p t) ≡ read x m → length t - length m ≡ p + w + length x
  left {x} {m} e =
      let c = k.cut (drop p t) e in
      let few = c.few in
      let l : length m ≡ length (drop p t) - (w + length x) = ap length c.rest ∙ length-drop (w + length x) (drop p t) in
      omega (arith, length-drop p t)

  -- what code's answer says
  pub ended : {q : ℕ} → Some q ≡ end_of r t p → Section w r t p q
  unfolding end_of end_in
  ended {q} e = go (r (drop p t)) refl e
    where
      go : (o : Read (List ℕ)) → r (drop p t) ≡ o → Some q ≡ end_in (length t) o → Section w r t p q
      go broken i j = none-not-some (sym j)
      go (read x m) i j = section-at (some-is j ∙ left i) i

  pub not-ended : None ≡ end_of r t p → r (drop p t) ≡ broken
  unfolding end_of end_in
  not-ended e = go (r (drop p t)) refl e
    where
      go : (o : Read (List ℕ)) → r (drop p t) ≡ o → None ≡ end_in (length t) o → r (drop p t) ≡ broken
      go broken i j = i
      go (read x m) i j = none-not-some j
