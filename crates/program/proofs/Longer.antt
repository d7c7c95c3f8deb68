-- What a reader took from the front of some bytes it takes from any longer bytes; so what stands in a section stands in the file.
use mathlib.Core.Path.{◌≡◌, refl, sym, ap, ◌∙◌}
use mathlib.Core.Bool.{Bool}
use mathlib.Core.List.{List, [], ◌∷◌, ◌++◌, append_assoc}
use Prim.Native.Nat.{ℕ, zero, suc, ◌+◌, ◌-◌, ◌≤◌}
use native.Mathlib.Omega.{arith}
use lib.ListN.{length, take, drop, length-drop, take-append-drop}
use lib.Seq.{take-append-le, drop-append-le, drop-drop}
use Rattle.semantics.specs.Bytes.{Reader, read, and_then, ◌>>=◌, give, guard, byte, nat2, nat4, int4, number, Width, one_byte, two_bytes, bytes, times}
use Rattle.semantics.specs.Editions.{Edition}
use Rattle.semantics.specs.Sections.{read_rate, read_switch, read_mode}
use Rattle.semantics.specs.TableFile.{read_entry, read_location}
use Rattle.semantics.proofs.Readers.{split, given, given-rest, guarded, byte-read, bytes_read, reads_bytes}
use Rattle.codec.specs.Parts.{between}

-- ---- one law for each step of a `do` block
pub record More {A : Type 0} (r : Reader A) : Type 0 where
  pub more : (s : List ℕ) {a : A} {t : List ℕ} → r s ≡ read a t → (u : List ℕ) → r (s ++ u) ≡ read a (t ++ u)

more-then : {A B : Type 0} {r : Reader A} {f : A → Reader B} → More r → ((a : A) → More (f a)) → More (r >>= f)
unfolding ◌>>=◌ and_then
more-then {r = r} {f} h k = record {
  more = λ s e u. (let p = split r f e in rw (h.more s p.first u) ((k p.value).more p.rest p.then u));
}

more-give : {A : Type 0} (a : A) → More (give a)
unfolding give
more-give a = record { more = λ s e u. (let i = given a s e in let j = given-rest a s e in cc) }

more-guard : {A : Type 0} (g : Bool) {r : Reader A} → More r → More (guard g r)
unfolding guard
more-guard g {r} h = record { more = λ s e u. (let p = guarded g r e in rw p.0 (h.more s p.1 u)) }

more_byte : More byte
unfolding byte
more_byte = record { more = λ s e u. rw (byte-read s e) refl }

more_bytes : (n : ℕ) → More (bytes n)
more_bytes n = record { more = go }
  where
    go : (s : List ℕ) {b t : List ℕ} → bytes n s ≡ read b t → (u : List ℕ) → bytes n (s ++ u) ≡ read b (t ++ u)
    go s {b} {t} e u =
        let p = bytes_read n s e in
        ap (λ s. bytes n (s ++ u)) p.1 ∙ ap (bytes n) (append_assoc b t u) ∙ ap (λ n. bytes n (b ++ (t ++ u))) (sym p.0) ∙ (reads_bytes b).back (t ++ u)

more-times : {A : Type 0} (n : ℕ) {r : Reader A} → More r → More (times n r)
unfolding times
more-times zero h = more-give []
more-times (suc n) h = more-then h (λ a. more-then (more-times n h) (λ l. more-give (a ∷ l)))

-- ---- numbers, modes and locations
more-nat2 : More nat2
unfolding nat2
more-nat2 = more-then more_byte (λ a. more-then more_byte (λ b. more-give _))

more-int4 : More int4
unfolding int4 nat4
more-int4 = more-then (more-then more_byte (λ a. more-then more_byte (λ b. more-then more_byte (λ c. more-then more_byte (λ d. more-give _))))) (λ n. more-give _)

more-number : (w : Width) → More (number w)
unfolding number
more-number one_byte = more_byte
more-number two_bytes = more-nat2

pub more-mode : More read_mode
unfolding read_mode read_rate read_switch
more-mode = more-then more_byte (λ n. more-then (more-times n rate) (λ rs. more-then more_byte (λ k. more-then (more-times k switch) (λ ss. more-give _))))
  where
    rate : More read_rate
    rate = more-then more_byte (λ v. more-then more-int4 (λ r. more-give _))

    switch : More read_switch
    switch = more-then more_byte (λ l. more-guard _ (more-then more_byte (λ m. more-then (more_bytes _) (λ t. more-give _))))

pub more-location : (ed : Edition) → More (read_location ed)
unfolding read_location read_entry
more-location ed = more-then more_byte (λ n. more-guard _ (more-times n entry))
  where
    entry : More (read_entry ed)
    entry = more-then (more-number _) (λ n. more-then more-nat2 (λ t. more-then more-nat2 (λ u. more-give _)))

-- ---- a section of the file, from a to b
module _ (f : List ℕ) (a b : ℕ) where
  -- what the file has from a place of the section on
  from-there : (p : ℕ) → p ≤ length (between a b f) → drop (p + a) f ≡ drop p (between a b f) ++ drop (b - a) (drop a f)
  from-there p h =
      let e : p + a ≡ a + p = omega arith in
      ap (λ k. drop k f) e ∙ sym (drop-drop p a f) ∙ ap (drop p) (sym (take-append-drop (b - a) (drop a f))) ∙ drop-append-le p (between a b f) (drop (b - a) (drop a f)) h

  pub read-there : {A : Type 0} {r : Reader A} → More r → (p : ℕ) {v : A} {t : List ℕ} → p ≤ length (between a b f) → r (drop p (between a b f)) ≡ read v t → r (drop (p + a) f) ≡ read v (t ++ drop (b - a) (drop a f))
  read-there {r = r} m p h e = ap r (from-there p h) ∙ m.more (drop p (between a b f)) e (drop (b - a) (drop a f))

  pub part-there : (s e : ℕ) → s ≤ e → e ≤ length (between a b f) → between s e (between a b f) ≡ between (s + a) (e + a) f
  part-there s e o h =
      let n : e + a - (s + a) ≡ e - s = omega arith in
      sym (ap (λ k. take k (drop (s + a) f)) n ∙ ap (take (e - s)) (from-there s (omega arith)) ∙ take-append-le (e - s) (drop s (between a b f)) (drop (b - a) (drop a f)) (omega (arith, length-drop s (between a b f))))
