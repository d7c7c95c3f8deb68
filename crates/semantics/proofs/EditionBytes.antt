-- The edition that byte 0 tells.
use mathlib.Core.Path.{◌≡◌, refl, sym, ap, ◌∙◌}
use mathlib.Core.Bool.{Bool, true, false, cond}
use mathlib.Core.List.{List, [], ◌∷◌}
use mathlib.Core.Option.{some}
use Prim.Native.Nat.{ℕ}
use native.Mathlib.Omega.{arith}
use borrow.Author.Tests.{eqb-true, eq-eqb, ne_eqb}
use lib.Dec.{eqb}
use lib.ListN.{length, get_or, get_elem?}
use Rattle.semantics.specs.Editions.{Edition, edition1, edition2, edition_in, OfEdition, of_first, of_second, NoEdition}
use Rattle.semantics.proofs.Facts.{true-not-false, none-not-some, some_is, by_cases}

-- byte 0 is 2, or it is not
pub edition-second : (bytes : List ℕ) → get_or bytes 0 0 ≡ 2 → edition_in bytes ≡ edition2
unfolding edition_in
edition-second bytes h = rw (eq-eqb (get_or bytes 0 0) 2 h) refl

pub edition-first : (bytes : List ℕ) → (get_or bytes 0 0 ≡ 2 → ⊥) → edition_in bytes ≡ edition1
unfolding edition_in
edition-first bytes h = rw (ne_eqb (get_or bytes 0 0) 2 h) refl

pub edition-none : (bytes : List ℕ) → length bytes ≡ 0 → edition_in bytes ≡ edition1
edition-none [] h = edition-first [] (λ q. omega arith)
edition-none (b ∷ bytes) h = absurd (omega (arith, h))

byte-0 : (bytes : List ℕ) {n : ℕ} → get_elem? bytes 0 ≡ some n → get_or bytes 0 0 ≡ n
byte-0 [] h = none-not-some h
byte-0 (b ∷ bytes) h = some_is h

-- bytes of an edition
pub edition-told : {bytes : List ℕ} {ed : Edition} → OfEdition bytes ed → edition_in bytes ≡ ed
edition-told {bytes} (of_first h) = edition-first bytes (λ q. let e = byte-0 bytes h in omega arith)
edition-told {bytes} (of_second h) = edition-second bytes (byte-0 bytes h)

pub version-told : {bytes : List ℕ} {ed : Edition} → OfEdition bytes ed → get_elem? bytes 0 ≡ some ed.version
version-told (of_first h) = h
version-told (of_second h) = h

-- bytes that begin with the version of the edition that they are judged by are of that edition
pub of-edition : (b : ℕ) (l : List ℕ) → b ≡ (edition_in (b ∷ l)).version → OfEdition (b ∷ l) (edition_in (b ∷ l))
unfolding edition_in
of-edition b l h = go (eqb b 2) refl h
  where
    go : (t : Bool) → eqb b 2 ≡ t → b ≡ (cond t edition2 edition1).version → OfEdition (b ∷ l) (cond t edition2 edition1)
    go true e v = of_second (ap some (eqb-true b 2 e))
    go false e v = of_first (ap some v)

-- what is written with the version of these bytes' edition is of that edition
pub same-edition : (bytes l : List ℕ) → OfEdition ((edition_in bytes).version ∷ l) (edition_in bytes)
unfolding edition_in
same-edition bytes l = go (eqb (get_or bytes 0 0) 2)
  where
    go : (t : Bool) → OfEdition ((cond t edition2 edition1).version ∷ l) (cond t edition2 edition1)
    go true = of_second refl
    go false = of_first refl

-- the test of byte 0 against the edition that it is judged by fails just where the bytes are of no edition
pub version-right : (bytes : List ℕ) → eqb (get_or bytes 0 0) (edition_in bytes).version ≡ true → OfEdition bytes (edition_in bytes)
version-right [] h = true-not-false (sym h ∙ ap (λ (e : Edition). eqb 0 e.version) (edition-none [] refl))
version-right (b ∷ l) h = of-edition b l (eqb-true b _ h)

pub version_fits : {bytes : List ℕ} {ed : Edition} → OfEdition bytes ed → eqb (get_or bytes 0 0) (edition_in bytes).version ≡ true
version_fits {bytes} {ed} o = eq-eqb (get_or bytes 0 0) _ (byte-0 bytes (version-told o) ∙ ap (λ (e : Edition). e.version) (sym (edition-told o)))

pub version-wrong : (bytes : List ℕ) → eqb (get_or bytes 0 0) (edition_in bytes).version ≡ false → NoEdition bytes
version-wrong bytes h ed o = true-not-false (sym (version_fits o) ∙ h)

pub no-version : (bytes : List ℕ) → NoEdition bytes → eqb (get_or bytes 0 0) (edition_in bytes).version ≡ false
no-version bytes n = by_cases _ (λ h. absurd (n _ (version-right bytes h))) (λ h. h)
