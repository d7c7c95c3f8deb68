-- What the rows of an index hold once they are filled.
use mathlib.Core.Path.{◌≡◌, sym, ap, ◌∙◌}
use mathlib.Core.List.{List, [], ◌++◌, map, append-nil, append_assoc}
use Prim.Native.Nat.{ℕ, ◌+◌, ◌-◌, ◌≤◌, ◌<◌}
use native.Mathlib.Nat.{zero-add}
use native.Mathlib.Omega.{arith}
use lib.IntN.{ℤ, pos}
use lib.ListN.{length, get_or, drop, replicate, length-map, length-append}
use lib.Seq.{sets, length-sets}
use Rattle.codec.specs.Padding.{pad}
use Rattle.codec.proofs.Padding.{pad-none, sets-pad}
use Rattle.plant.specs.declared.sections.PlantRead.{PlantRead}
use Rattle.program.specs.Rows.{location_row}
use Rattle.program.specs.Filled.{shifted_by, Filled}
use Rattle.program.proofs.Rows.{row_at}
use Rattle.program.proofs.Stores.{before-row, in_row, map_at}

-- a row of n entries from i on
pub room : {A : Type 0} (l : List A) (n : ℕ) {m : ℕ} (i : ℕ) → length l ≡ n → i + n ≤ m → i + length l ≤ m
room l n i e h = omega arith

-- a row of shifted places
module _ (ix ps : List ℕ) (i by : ℕ) (h : i + length ps ≤ 2048) (l : length ix ≡ 2048) where
  pub place_in : (k : ℕ) → k < length ps → get_or (sets ix i (map (shifted_by by) ps)) (i + k) 0 ≡ shifted_by by (get_or ps k 0)
  place_in k b =
      let m = length-map ps (shifted_by by) in
      in_row 0 (map (shifted_by by) ps) ix i k (omega arith) (omega arith) ∙ map_at (shifted_by by) ps k 0 b

-- the four rows that `put_index` fills, one after the other
module _ (p : PlantRead) (ks ss es : List ℕ) (e o : ℕ) (ix₀ : List ℕ) {ix₁ ix₂ ix₃ ix : List ℕ} (long : length ix₀ ≡ 2048)
    (modes-few : length p.mode_offsets ≤ 256) (ks-few : length ks ≤ 256) (ss-few : length ss ≤ 256) (es-few : length es ≤ 256)
    (a : ix₁ ≡ sets ix₀ 0 (map (shifted_by e) p.mode_offsets)) (b : ix₂ ≡ sets ix₁ 256 ks) (c : ix₃ ≡ sets ix₂ 512 (map (shifted_by o) ss)) (d : ix ≡ sets ix₃ 768 (map (shifted_by o) es)) where
  long₁ : length ix₁ ≡ 2048
  long₁ = ap length a ∙ length-sets ix₀ 0 (map (shifted_by e) p.mode_offsets) ∙ long

  long₂ : length ix₂ ≡ 2048
  long₂ = ap length b ∙ length-sets ix₁ 256 ks ∙ long₁

  long₃ : length ix₃ ≡ 2048
  long₃ = ap length c ∙ length-sets ix₂ 512 (map (shifted_by o) ss) ∙ long₂

  -- what later rows leave
  left₃ : (k : ℕ) → k < 768 → get_or ix k 0 ≡ get_or ix₃ k 0
  left₃ k h = ap (λ z. get_or z k 0) d ∙ before-row 0 (map (shifted_by o) es) ix₃ 768 k h

  left₂ : (k : ℕ) → k < 512 → get_or ix k 0 ≡ get_or ix₂ k 0
  left₂ k h = left₃ k (omega arith) ∙ ap (λ z. get_or z k 0) c ∙ before-row 0 (map (shifted_by o) ss) ix₂ 512 k h

  left₁ : (k : ℕ) → k < 256 → get_or ix k 0 ≡ get_or ix₁ k 0
  left₁ k h = left₂ k (omega arith) ∙ ap (λ z. get_or z k 0) b ∙ before-row 0 ks ix₁ 256 k h

  pub filled : Filled p ks ss es e o ix
  filled = record {
    long = ap length d ∙ length-sets ix₃ 768 (map (shifted_by o) es) ∙ long₃;
    modes = λ k h. left₁ k (omega arith) ∙ ap (λ z. get_or z k 0) a ∙ ap (λ z. get_or (sets ix₀ 0 (map (shifted_by e) p.mode_offsets)) z 0) (sym (zero-add k)) ∙ place_in ix₀ p.mode_offsets 0 e (omega arith) long k (omega arith);
    kinds = λ n h. sym (row_at 256 ix n 0) ∙ left₂ (256 + n) (omega arith) ∙ ap (λ z. get_or z (256 + n) 0) b ∙ in_row 0 ks ix₁ 256 n (omega (arith, long₁)) (omega arith);
    starts = λ n h. sym (row_at 512 ix n 0) ∙ left₃ (512 + n) (omega arith) ∙ ap (λ z. get_or z (512 + n) 0) c ∙ place_in ix₂ ss 512 o (omega arith) long₂ n (omega arith);
    ends = λ n h. sym (row_at 768 ix n 0) ∙ ap (λ z. get_or z (768 + n) 0) d ∙ place_in ix₃ es 768 o (omega arith) long₃ n (omega arith);
  }

-- the row of locations, which `put_locations` fills
module _ (ix ps : List ℕ) (by : ℕ) where
  abbrev located : List ℕ
  located = sets ix 1024 (map (shifted_by by) ps)

  pub location-in : length ix ≡ 2048 → length ps ≤ 1024 → (k : ℕ) → k < length ps → get_or (location_row located) k 0 ≡ shifted_by by (get_or ps k 0)
  location-in l h k b = sym (row_at 1024 located k 0) ∙ place_in ix ps 1024 by (omega arith) l k b

  left : (k : ℕ) → k < 1024 → get_or located k 0 ≡ get_or ix k 0
  left k h = before-row 0 (map (shifted_by by) ps) ix 1024 k h

  left-row : (i n : ℕ) → i + n < 1024 → get_or (drop i located) n 0 ≡ get_or (drop i ix) n 0
  left-row i n h = sym (row_at i located n 0) ∙ left (i + n) h ∙ row_at i ix n 0

  -- the others stay
  pub filled-still : {p : PlantRead} {ks ss es : List ℕ} {e o : ℕ} → Filled p ks ss es e o ix → length p.mode_offsets ≤ 256 → length ks ≤ 256 → length ss ≤ 256 → length es ≤ 256 → Filled p ks ss es e o located
  filled-still x a b c d = record {
    long = length-sets ix 1024 (map (shifted_by by) ps) ∙ x.long;
    modes = λ k h. left k (omega arith) ∙ x.modes k h;
    kinds = λ n h. left-row 256 n (omega arith) ∙ x.kinds n h;
    starts = λ n h. left-row 512 n (omega arith) ∙ x.starts n h;
    ends = λ n h. left-row 768 n (omega arith) ∙ x.ends n h;
  }

-- the three rows that `ranges` fills
full : {A : Type 0} (n : ℕ) (d : A) (l : List A) → length l ≡ n → pad n d l ≡ l
unfolding pad
full n d l e = let z : n - length l ≡ 0 = omega arith in rw z (append-nil l)

pub rows_are : (xs ys zs : List ℤ) {rs₁ rs₂ rs : List ℤ} → length xs ≡ 32 → length ys ≡ 32 → length zs ≡ 32
    → rs₁ ≡ sets (replicate 96 (pos 0)) 0 xs → rs₂ ≡ sets rs₁ 32 ys → rs ≡ sets rs₂ 64 zs → rs ≡ xs ++ (ys ++ zs)
rows_are xs ys zs {rs₁} {rs₂} {rs} i j k a b c =
    let one : rs₁ ≡ pad 96 (pos 0) xs = a ∙ ap (λ z. sets z 0 xs) (pad-none 96 (pos 0)) ∙ sets-pad 96 (pos 0) [] xs (omega arith) in
    let two : rs₂ ≡ pad 96 (pos 0) (xs ++ ys) = b ∙ ap (λ z. sets z 32 ys) one ∙ ap (λ n. sets (pad 96 (pos 0) xs) n ys) (sym i) ∙ sets-pad 96 (pos 0) xs ys (omega arith) in
    let l : length (xs ++ ys) ≡ 64 = length-append xs ys ∙ omega arith in
    let m : length ((xs ++ ys) ++ zs) ≡ 96 = length-append (xs ++ ys) zs ∙ omega arith in
    c ∙ ap (λ z. sets z 64 zs) two ∙ ap (λ n. sets (pad 96 (pos 0) (xs ++ ys)) n zs) (sym l) ∙ sets-pad 96 (pos 0) (xs ++ ys) zs (omega arith) ∙ full 96 (pos 0) ((xs ++ ys) ++ zs) m ∙ append_assoc xs ys zs
