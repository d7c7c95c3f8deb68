-- Readers taken apart, and what is written read back.
use mathlib.Core.Path.{◌≡◌, refl, sym, ap, subst, fun_ext}
use mathlib.Core.Bool.{Bool, true, false, cond}
use mathlib.Core.List.{List, [], ◌∷◌, ◌++◌, flat_map, append_assoc, append-nil}
use mathlib.Core.Option.{Option, none, some}
use Prim.Native.Nat.{ℕ, zero, suc, ◌+◌, ◌*◌, ◌/◌, ◌%◌}
use native.Mathlib.Nat.{div-add-mod'}
use native.Mathlib.Omega.{arith}
use borrow.Author.Tests.{leb-true, le-leb}
use lib.Dec.{leb}
use lib.ListN.{length, take, drop, length-append}
use lib.Seq.{length-take-le, take-append_seam, drop-append_seam}
use Rattle.semantics.specs.Bytes.{be2, be4, out2, out4, out, Width, one_byte, two_bytes, Read, broken, read, Reader, and_then, ◌>>=◌, give, fail, guard, from, byte, nat2, nat4, number, bytes, times, just, whole}
use Rattle.semantics.proofs.Facts.{none-not-some, some_is, All, all_nil, all_cons}

pub broken-not-read : {A C : Type 0} {a : A} {s : List ℕ} → broken ≡ read a s → C
broken-not-read h = let z : ◌≡◌ {A = ℕ} 0 1 = cc in absurd (omega arith)

pub read-value : {A : Type 0} {a b : A} {s t : List ℕ} → read a s ≡ read b t → a ≡ b
read-value h = cc

pub read-rest : {A : Type 0} {a b : A} {s t : List ℕ} → read a s ≡ read b t → s ≡ t
read-rest h = cc

-- ---- what a reader that succeeded has read
pub record Split {A B : Type 0} (r : Reader A) (f : A → Reader B) (s : List ℕ) (b : B) (t : List ℕ) : Type 0 where
  pub value : A
  pub rest : List ℕ
  pub first : r s ≡ read value rest
  pub then : f value rest ≡ read b t

pub split : {A B : Type 0} (r : Reader A) (f : A → Reader B) {s : List ℕ} {b : B} {t : List ℕ} → (r >>= f) s ≡ read b t → Split r f s b t
unfolding ◌>>=◌ and_then
split {A} {B} r f {s} {b} {t} h = go (r s) refl h
  where
    go : (o : Read A) → r s ≡ o → and_then o f ≡ read b t → Split r f s b t
    go broken e h = broken-not-read h
    go (read a u) e h = record { value = a; rest = u; first = e; then = h }

pub given : {A : Type 0} (a : A) {b : A} (s : List ℕ) {t : List ℕ} → give a s ≡ read b t → a ≡ b
unfolding give
given a s h = read-value h

pub given-rest : {A : Type 0} (a : A) {b : A} (s : List ℕ) {t : List ℕ} → give a s ≡ read b t → s ≡ t
unfolding give
given-rest a s h = read-rest h

pub guarded : {A : Type 0} (g : Bool) (r : Reader A) {s : List ℕ} {a : A} {t : List ℕ} → guard g r s ≡ read a t → (g ≡ true) × (r s ≡ read a t)
unfolding guard fail
guarded true r h = (refl, h)
guarded false r h = broken-not-read h

-- a number read and tested, then what is read by it
pub counted-then : {A : Type 0} (r : Reader ℕ) (g : ℕ → Bool) (f : ℕ → Reader A) → ((r >>= λ n. guard (g n) (give n)) >>= f) ≡ (r >>= λ n. guard (g n) (f n))
unfolding ◌>>=◌ and_then give guard fail
counted-then {A} r g f = fun_ext (λ s. go (r s))
  where
    test : (b : Bool) (n : ℕ) (t : List ℕ) → and_then (guard b (give n) t) f ≡ guard b (f n) t
    test true n t = refl
    test false n t = refl

    go : (o : Read ℕ) → and_then (and_then o (λ n. guard (g n) (give n))) f ≡ and_then o (λ n. guard (g n) (f n))
    go broken = refl
    go (read n t) = test (g n) n t

pub from_some : {A : Type 0} (o : Option A) {s : List ℕ} {a : A} {t : List ℕ} → from o s ≡ read a t → (o ≡ some a) × (s ≡ t)
unfolding from give fail
from_some none h = broken-not-read h
from_some (some b) h = (ap some (read-value h), read-rest h)

pub byte-read : (s : List ℕ) {n : ℕ} {t : List ℕ} → byte s ≡ read n t → s ≡ n ∷ t
unfolding byte
byte-read [] h = broken-not-read h
byte-read (b ∷ s) h = let e = read-value h in let k = read-rest h in cc

pub bytes_read : (n : ℕ) (s : List ℕ) {b t : List ℕ} → bytes n s ≡ read b t → (length b ≡ n) × (s ≡ b ++ t)
unfolding bytes
bytes_read n s {b} {t} h = go (leb n (length s)) refl h
  where
    go : (c : Bool) → leb n (length s) ≡ c → cond {A = Read (List ℕ)} c (read (take n s) (drop n s)) broken ≡ read b t → (length b ≡ n) × (s ≡ b ++ t)
    go true e h =
        let k : take n s ≡ b = read-value h in
        let l : drop n s ≡ t = read-rest h in
        (subst (λ b. length b ≡ n) k (length-take-le n s (leb-true n (length s) e)), rw (← k, ← l) (sym (lib.ListN.take-append-drop n s)))
    go false e h = broken-not-read h

pub whole-read : {A : Type 0} (r : Reader A) (s : List ℕ) {a : A} → whole r s ≡ some a → r s ≡ read a []
unfolding whole just
whole-read {A} r s {a} h = go (r s) h
  where
    go : (o : Read A) → just o ≡ some a → o ≡ read a []
    go broken h = none-not-some h
    go (read b []) h = ap (λ x. read x []) (some_is h)
    go (read b (x ∷ t)) h = none-not-some h

-- n times r: n values, each of which r has read
pub times-read : {A : Type 0} {P : A → Type 0} (r : Reader A) → ((a : A) (s t : List ℕ) → r s ≡ read a t → P a) →
    (n : ℕ) (s : List ℕ) {l : List A} {t : List ℕ} → times n r s ≡ read l t → (length l ≡ n) × All P l
unfolding times
times-read {P = P} r h zero s e = subst (λ l. (length l ≡ zero) × All P l) (given [] s e) (refl, all_nil)
times-read {P = P} r h (suc n) s e =
    let p = split r _ e in
    let q = split (times n r) _ p.then in
    let i = times-read {P = P} r h n p.rest q.first in
    subst (λ l. (length l ≡ suc n) × All P l) (given _ _ q.then) (ap suc i.0, all_cons (h p.value s p.rest p.first) i.1)

-- ---- a reader reads a value back from its bytes, whatever follows them
pub record Reads {A : Type 0} (r : Reader A) (w : List ℕ) (a : A) : Type 0 where
  pub back : (s : List ℕ) → r (w ++ s) ≡ read a s

pub reads_then : {A B : Type 0} (r : Reader A) (f : A → Reader B) {w v : List ℕ} {a : A} {b : B} → Reads r w a → Reads (f a) v b → Reads (r >>= f) (w ++ v) b
unfolding ◌>>=◌ and_then
reads_then r f {w} {v} h k = record { back = λ s. rw (append_assoc w v s, h.back (v ++ s)) (k.back s) }

pub reads-last : {A B : Type 0} (r : Reader A) (g : A → B) {w : List ℕ} {a : A} → Reads r w a → Reads (r >>= λ x. give (g x)) w (g a)
unfolding ◌>>=◌ and_then give
reads-last r g h = record { back = λ s. rw (h.back s) refl }

pub reads-give : {A : Type 0} (a : A) → Reads (give a) [] a
unfolding give
reads-give a = record { back = λ s. refl }

pub reads_byte : (n : ℕ) → Reads byte (n ∷ []) n
unfolding byte
reads_byte n = record { back = λ s. refl }

pub reads-nat2 : (n : ℕ) → Reads nat2 (out2 n) n
unfolding nat2 out2 byte ◌>>=◌ and_then give be2
reads-nat2 n = record { back = λ s. rw (div-add-mod' n 256) refl }

pub reads-nat4 : (n : ℕ) → Reads nat4 (out4 n) n
unfolding nat4 out4 byte ◌>>=◌ and_then give be4
reads-nat4 n = record { back = λ s. rw (digits n) refl }
  where
    digits : (n : ℕ) → ((n / 0x100_0000 * 256 + n / 0x1_0000 % 256) * 256 + n / 256 % 256) * 256 + n % 256 ≡ n
    digits n = omega arith

pub reads-number : (w : Width) (n : ℕ) → Reads (number w) (out w n) n
unfolding number out
reads-number one_byte n = reads_byte n
reads-number two_bytes n = reads-nat2 n

pub reads_bytes : (w : List ℕ) → Reads (bytes (length w)) w w
unfolding bytes
reads_bytes w = record { back = λ s. go s (length-append w s) }
  where
    go : (s : List ℕ) → length (w ++ s) ≡ length w + length s → bytes (length w) (w ++ s) ≡ read w s
    go s e = rw (le-leb (length w) (length (w ++ s)) (omega arith), take-append_seam w s, drop-append_seam w s) refl

pub reads-guard : {A : Type 0} {g : Bool} (r : Reader A) {w : List ℕ} {a : A} → g ≡ true → Reads r w a → Reads (guard g r) w a
unfolding guard
reads-guard r e h = record { back = λ s. rw e (h.back s) }

pub reads-from : {A : Type 0} {o : Option A} {a : A} → o ≡ some a → Reads (from o) [] a
unfolding from give
reads-from e = record { back = λ s. rw e refl }

pub reads_times : {A : Type 0} {P : A → Type 0} (r : Reader A) (w : A → List ℕ) → ((a : A) → P a → Reads r (w a) a) →
    {l : List A} → All P l → Reads (times (length l) r) (flat_map w l) l
unfolding times flat_map
reads_times r w h all_nil = reads-give []
reads_times r w h (all_cons {x = a} {l = l} p q) = reads_then r _ (h a p) (reads-last (times (length l) r) (λ k. a ∷ k) (reads_times r w h q))

pub whole-reads : {A : Type 0} (r : Reader A) {w : List ℕ} {a : A} → Reads r w a → whole r w ≡ some a
unfolding whole just
whole-reads r {w} h = rw (← append-nil w, h.back []) refl
