-- What a reader that succeeded has taken: just the written form of what it read.
use mathlib.Core.Path.{◌≡◌, refl, sym, ap, subst, ◌∙◌}
use mathlib.Core.Bool.{Bool, true}
use mathlib.Core.List.{List, [], ◌∷◌, ◌++◌, flat_map, append_assoc, append-nil}
use mathlib.Core.Logic.{◌↔◌}
use mathlib.Core.Option.{Option, some}
use Prim.Native.Nat.{ℕ, zero, suc, ◌+◌, ◌*◌, ◌/◌, ◌%◌, ◌<◌}
use native.Mathlib.Omega.{arith}
use lib.ListN.{length}
use Rattle.semantics.specs.Bytes.{be2, out2, out4, out, Width, one_byte, two_bytes, read, Reader, ◌>>=◌, give, fail, guard, from, byte, nat2, nat4, int4, number, bytes, times, section2, section4, whole}
use Rattle.semantics.specs.Editions.{capacity}
use Rattle.semantics.specs.Expressions.{fits32}
use Rattle.semantics.specs.Run.{value_bytes}
use Rattle.semantics.specs.TableFile.{in_section2, in_section4}
use Rattle.semantics.specs.Writing.{SectionLimits}
use Rattle.semantics.proofs.Facts.{All, all_nil, all_cons}
use Rattle.semantics.proofs.Readers.{broken-not-read, split, given, given-rest, guarded, from_some, byte-read, bytes_read, whole-read, Reads, reads_then, reads-guard, reads_times, whole-reads}
use Rattle.semantics.proofs.SignedBytes.{Bytes, nat4-read, int4-read}
use Rattle.semantics.proofs.WrittenSources.{all_left, all_right, Several}

-- a value within its limits, and its written form
pub record Is {A : Type 0} (write : A → List ℕ) (Fits : A → Type 0) (a : A) (w : List ℕ) : Type 0 where
  pub written : w ≡ write a
  pub fits : Fits a

-- these bytes at the front of s stand for a, and t after them
pub record Took {A : Type 0} (P : A → List ℕ → Type 0) (s : List ℕ) (a : A) (t : List ℕ) : Type 0 where
  pub front : List ℕ
  pub joined : s ≡ front ++ t
  pub stands : P a front
  pub left : Bytes t

pub record Takes {A : Type 0} (r : Reader A) (P : A → List ℕ → Type 0) : Type 0 where
  pub takes : (s : List ℕ) → Bytes s → (a : A) (t : List ℕ) → r s ≡ read a t → Took P s a t

-- ---- one law for each step of a `do` block
pub takes-then : {A B : Type 0} {v : A → List ℕ} {F : A → Type 0} {P : B → List ℕ → Type 0} (r : Reader A) (f : A → Reader B) →
    Takes r (Is v F) → ((a : A) → F a → Takes (f a) (λ b u. P b (v a ++ u))) → Takes (r >>= f) P
takes-then {A} {B} {v} {F} {P} r f h k = record { takes = go }
  where
    go : (s : List ℕ) → Bytes s → (b : B) (t : List ℕ) → (r >>= f) s ≡ read b t → Took P s b t
    go s z b t e =
        let p = split r f e in
        let m = h.takes s z p.value p.rest p.first in
        let n = (k p.value m.stands.fits).takes p.rest m.left b t p.then in
        record {
          front = v p.value ++ n.front;
          joined = rw (append_assoc (v p.value) n.front t, ← n.joined, ← m.stands.written) m.joined;
          stands = n.stands;
          left = n.left;
        }

pub takes-give : {A : Type 0} {P : A → List ℕ → Type 0} (a : A) → P a [] → Takes (give a) P
takes-give {A} {P} a h = record {
  takes = λ s z b t e. record { front = []; joined = given-rest a s e; stands = subst (λ a. P a []) (given a s e) h; left = subst Bytes (given-rest a s e) z };
}

-- a last step: what is read is given on
pub takes-last : {A B : Type 0} {v : A → List ℕ} {F : A → Type 0} {P : B → List ℕ → Type 0} (r : Reader A) (g : A → B) →
    Takes r (Is v F) → ((a : A) → F a → P (g a) (v a)) → Takes (r >>= λ x. give (g x)) P
takes-last {v = v} {P = P} r g h k = takes-then r _ h (λ a f. takes-give (g a) (subst (P (g a)) (sym (append-nil (v a))) (k a f)))

pub takes-as : {A : Type 0} {P Q : A → List ℕ → Type 0} {r : Reader A} → ((a : A) (w : List ℕ) → P a w → Q a w) → Takes r P → Takes r Q
takes-as f h = record { takes = λ s z a t e. (let m = h.takes s z a t e in record { front = m.front; joined = m.joined; stands = f a m.front m.stands; left = m.left }) }

-- no bytes
pub takes-option : {A : Type 0} (o : Option A) → Takes (from o) (Is (λ a. []) (λ a. o ≡ some a))
takes-option o = record {
  takes = λ s z a t e. (let p = from_some o e in record { front = []; joined = p.1; stands = record { written = refl; fits = p.0 }; left = subst Bytes p.1 z });
}

pub takes-from : {A B : Type 0} {v : A → List ℕ} {F : A → Type 0} {P : B → List ℕ → Type 0} (r : Reader A) (g : A → Option B) →
    Takes r (Is v F) → ((a : A) (b : B) → F a → g a ≡ some b → P b (v a)) → Takes (r >>= λ x. from (g x)) P
takes-from {v = v} {P = P} r g h k = takes-then r _ h (λ a f. takes-as (λ b u i.
    subst (P b) (sym (ap (λ u. v a ++ u) i.written ∙ append-nil (v a))) (k a b f i.fits)) (takes-option (g a)))

pub takes-guard : {A : Type 0} {P : A → List ℕ → Type 0} (g : Bool) (r : Reader A) → (g ≡ true → Takes r P) → Takes (guard g r) P
takes-guard g r h = record { takes = λ s z a t e. (let p = guarded g r e in (h p.0).takes s z a t p.1) }

pub takes-fail : {A : Type 0} {P : A → List ℕ → Type 0} → Takes (fail {A = A}) P
unfolding fail
takes-fail = record { takes = λ s z a t e. broken-not-read e }

pub whole_takes : {A : Type 0} {v : A → List ℕ} {F : A → Type 0} {r : Reader A} → Takes r (Is v F) → (s : List ℕ) → Bytes s → {a : A} → whole r s ≡ some a → Is v F a s
whole_takes {v = v} {F = F} {r = r} h s z {a} e =
    let m = h.takes s z a [] (whole-read r s e) in
    record { written = m.joined ∙ append-nil m.front ∙ m.stands.written; fits = m.stands.fits }

-- ---- numbers
abbrev one : ℕ → List ℕ
one n = n ∷ []

pub takes-byte : Takes byte (Is one (λ n. n < 256))
takes-byte = record { takes = λ s z n t e. go (byte-read s e) z }
  where
    first : {n : ℕ} {t : List ℕ} → Bytes (n ∷ t) → Took (Is one (λ n. n < 256)) (n ∷ t) n t
    first {n} (all_cons h k) = record { front = one n; joined = refl; stands = record { written = refl; fits = h }; left = k }

    go : {s : List ℕ} {n : ℕ} {t : List ℕ} → s ≡ n ∷ t → Bytes s → Took (Is one (λ n. n < 256)) s n t
    go {n = n} {t = t} e z = rw e (first (subst Bytes e z))

pub out2-be2 : (a b : ℕ) → a < 256 → b < 256 → a ∷ b ∷ [] ≡ out2 (be2 a b)
unfolding be2 out2
out2-be2 a b h k =
    let p : (a * 256 + b) / 256 ≡ a = omega arith in
    let q : (a * 256 + b) % 256 ≡ b = omega arith in
    rw (p, q) refl

pub be2-fits : (a b : ℕ) → a < 256 → b < 256 → be2 a b < 65536
unfolding be2
be2-fits a b h k = omega arith

pub takes-nat2 : Takes nat2 (Is out2 (λ n. n < 65536))
unfolding nat2
takes-nat2 = takes-then byte _ takes-byte (λ a h. takes-last byte _ takes-byte (λ b k. record { written = out2-be2 a b h k; fits = be2-fits a b h k }))

pub takes-nat4 : Takes nat4 (Is out4 (λ n. n < 0x1_0000_0000))
takes-nat4 = record {
  takes = λ s z n t e. (let m = nat4-read s z e in record { front = out4 n; joined = m.taken; stands = record { written = refl; fits = m.fits }; left = m.left });
}

pub takes-int4 : Takes int4 (Is value_bytes (λ z. fits32 z ≡ true))
unfolding value_bytes
takes-int4 = record {
  takes = λ s z n t e. (let m = int4-read s z e in record { front = value_bytes n; joined = m.taken; stands = record { written = refl; fits = m.fits }; left = m.left });
}

pub takes-number : (w : Width) → Takes (number w) (Is (out w) (λ n. n < capacity w))
unfolding number out
takes-number one_byte = takes-byte
takes-number two_bytes = takes-nat2

-- ---- bytes as they are
pub record Stretch (n : ℕ) (b : List ℕ) : Type 0 where
  pub count : length b ≡ n
  pub each : Bytes b

abbrev as_is : List ℕ → List ℕ
as_is b = b

pub takes-bytes : (n : ℕ) → Takes (bytes n) (Is as_is (Stretch n))
takes-bytes n = record {
  takes = λ s z b t e.
      let p = bytes_read n s e in
      let w = subst Bytes p.1 z in
      record { front = b; joined = p.1; stands = record { written = refl; fits = record { count = p.0; each = all_left b t w } }; left = all_right b t w };
}

-- a section
pub takes-section2 : Takes section2 (Is in_section2 (SectionLimits 65536))
unfolding section2 in_section2
takes-section2 = takes-then nat2 _ takes-nat2 (λ n h. takes-as (λ b w i. record {
  written = rw (i.written, i.fits.count) refl;
  fits = record { short = rw i.fits.count h; each = i.fits.each };
}) (takes-bytes n))

pub takes-section4 : Takes section4 (Is in_section4 (SectionLimits 4294967296))
unfolding section4 in_section4
takes-section4 = takes-then nat4 _ takes-nat4 (λ n h. takes-as (λ b w i. record {
  written = rw (i.written, i.fits.count) refl;
  fits = record { short = rw i.fits.count h; each = i.fits.each };
}) (takes-bytes n))

-- ---- so many of them
pub takes-times : {A : Type 0} {v : A → List ℕ} {F : A → Type 0} (n : ℕ) (r : Reader A) → Takes r (Is v F) → Takes (times n r) (Is (flat_map v) (Several n F))
unfolding times flat_map
takes-times zero r h = takes-give [] (record { written = refl; fits = record { count = refl; each = all_nil } })
takes-times (suc n) r h = takes-then r _ h (λ a f. takes-last (times n r) (λ l. a ∷ l) (takes-times n r h) (λ l i.
    record { written = refl; fits = record { count = ap suc i.count; each = all_cons f i.each } }))

-- a count that is tested, then so many
pub record Counted {A : Type 0} (C : ℕ → Type 0) (g : ℕ → Bool) (F : A → Type 0) (l : List A) : Type 0 where
  pub count : C (length l)
  pub tested : g (length l) ≡ true
  pub each : All F l

module _ {A : Type 0} {c : ℕ → List ℕ} {v : A → List ℕ} {F : A → Type 0} (counter : Reader ℕ) (g : ℕ → Bool) (r : Reader A) where
  pub takes-counted : {C : ℕ → Type 0} → Takes counter (Is c C) → Takes r (Is v F) →
      Takes (counter >>= λ n. guard (g n) (times n r)) (Is (λ l. c (length l) ++ flat_map v l) (Counted C g F))
  takes-counted {C} h k = takes-then counter _ h (λ n p. takes-guard (g n) _ (λ q. takes-as (λ l w i. record {
    written = rw (i.written, i.fits.count) refl;
    fits = record { count = subst C (sym i.fits.count) p; tested = rw i.fits.count q; each = i.fits.each };
  }) (takes-times n r k)))

  pub reads-counted : ((n : ℕ) → Reads counter (c n) n) → ((a : A) → F a → Reads r (v a) a) → {l : List A} → g (length l) ≡ true → All F l →
      Reads (counter >>= λ n. guard (g n) (times n r)) (c (length l) ++ flat_map v l) l
  reads-counted h k {l} p q = reads_then counter _ (h (length l)) (reads-guard _ p (reads_times r v k q))

-- ---- a reader and its writer: what is read is written so, is read back, and is written in bytes
pub record Exact {A : Type 0} (r : Reader A) (write : A → List ℕ) (Fits : A → Type 0) : Type 0 where
  pub taken : Takes r (Is write Fits)
  pub back : (a : A) → Fits a → Reads r (write a) a
  pub in_bytes : (a : A) → Fits a → Bytes (write a)

-- bytes are read as this value just where they are its written form within its limits
pub exact : {A : Type 0} {write : A → List ℕ} {Fits : A → Type 0} {r : Reader A} → Exact r write Fits → (s : List ℕ) (a : A) →
    (Bytes s × (whole r s ≡ some a)) ↔ ((s ≡ write a) × Fits a)
exact {write = write} {Fits = Fits} {r = r} x s a = (there, here)
  where
    there : Bytes s × (whole r s ≡ some a) → (s ≡ write a) × Fits a
    there h = let i = whole_takes x.taken s h.0 h.1 in (i.written, i.fits)

    here : (s ≡ write a) × Fits a → Bytes s × (whole r s ≡ some a)
    here h = (subst Bytes (sym h.0) (x.in_bytes a h.1), rw h.0 (whole-reads r (x.back a h.1)))
