-- A plant and the operands of nodes that were read from sections of a file are lent by the file's bytes, the index and the ranges.
use mathlib.Core.Path.{◌≡◌, sym, ap, ◌∙◌}
use mathlib.Core.Bool.{true}
use mathlib.Core.List.{List, [], ◌∷◌, ◌++◌, map, append_assoc}
use mathlib.Core.Option.{some}
use Prim.Native.Nat.{ℕ, zero, suc, ◌+◌, ◌-◌, ◌*◌, ◌^◌, ◌≤◌, ◌<◌}
use native.Mathlib.Omega.{arith}
use lib.IntN.{ℤ, pos}
use lib.ListN.{length, get_or, get_elem?, take, drop, length-append, length-drop, length-map, take-append-drop}
use lib.Seq.{take-append-le, drop_at}
use Rattle.semantics.specs.Bytes.{read}
use Rattle.semantics.specs.Editions.{Edition}
use Rattle.semantics.specs.Refusals.{accepted}
use Rattle.semantics.specs.Sections.{Variable, Mode, Selector}
use Rattle.semantics.specs.Plant.{Plant, selectors, no_such_mode, rates_of, judge_plant}
use Rattle.semantics.specs.Run.{Action}
use Rattle.semantics.specs.TableFile.{action_kind, action_of_kind}
use Rattle.semantics.specs.Tables.{operand_fits}
use Rattle.semantics.proofs.Facts.{none-not-some, some_is, at-below, at-exists}
use Rattle.codec.specs.Padding.{pad}
use Rattle.codec.specs.Parts.{between, part_at}
use Rattle.codec.proofs.Padding.{pad-long, length-pad}
use Rattle.plant.specs.Variables.{column}
use Rattle.plant.specs.Equations.{places_of_mode, rates_from}
use Rattle.plant.specs.PlantRead.{accepted_plant}
use Rattle.plant.specs.declared.sections.PlantRead.{PlantRead}
use Rattle.plant.proofs.VariableLaws.{column-front}
use Rattle.plant.proofs.EquationLookups.{mode-is}
use Rattle.plant.proofs.EquationLaws.{ModePlaced, mode-placed, few_selectors, few-modes-each}
use Rattle.plant.proofs.RateArrays.{rates-length}
use Rattle.plant.proofs.PlantLaws.{passed-all, variables-high, lows-of, highs-of, places_of, steady-of}
use Rattle.program.specs.Rows.{start_row, end_row}
use Rattle.program.specs.Filled.{shifted_by, Filled}
use Rattle.program.specs.Lent.{Stands, lent, ModeLent, PlantLent, NodeLent}
use Rattle.program.proofs.Shifts.{shift-place}
use Rattle.program.proofs.Longer.{more-mode, read-there, part-there}

-- ---- lists
get_d_at : {A : Type 0} (l : List A) (k : ℕ) (d : A) {x : A} → get_elem? l k ≡ some x → get_or l k d ≡ x
get_d_at [] k d h = none-not-some h
get_d_at (y ∷ l) zero d h = some_is h
get_d_at (y ∷ l) (suc k) d h = get_d_at l k d h

-- ---- a place in a section, from a to b, of a file
module _ (f : List ℕ) (small : length f < 2 ^ 64) (a b : ℕ) where
  section-short : length (between a b f) ≤ length f - a
  section-short = omega (arith, length-append (between a b f) (drop (b - a) (drop a f)), ap length (take-append-drop (b - a) (drop a f)), length-drop a f)

  pub place-below : (p : ℕ) → p < length (between a b f) → p + a < length f
  place-below p h = omega (arith, section-short)

  pub place-there : (p : ℕ) → p < length (between a b f) → shifted_by a p ≡ p + a
  place-there p h = sym (shift-place a p (omega (arith, place-below p h)))

  -- an end may be the section's
  pub end_below : a ≤ length f → (p : ℕ) → p ≤ length (between a b f) → p + a ≤ length f
  end_below i p h = omega (arith, section-short)

  pub end-there : a ≤ length f → (p : ℕ) → p ≤ length (between a b f) → shifted_by a p ≡ p + a
  end-there i p h = sym (shift-place a p (omega (arith, end_below i p h)))

  stands-placed : {q : ℕ} {m : Mode} → ModePlaced (between a b f) q m → Stands f (shifted_by a q) m
  stands-placed {q} {m} w =
      let i = w.inside in
      let r = read-there f a b more-mode q (omega arith) (w.stands.got ∙ ap (λ z. read z w.stands.rest) (sym (mode-is (between a b f) q w.stands) ∙ w.is)) in
      rw (place-there q i) (record { inside = omega (arith, place-below q i); rest = w.stands.rest ++ drop (b - a) (drop a f); reads = r })

-- ---- the rows of ranges and rates
module _ (xs ys zs : List ℤ) (i : length xs ≡ 32) where
  high-row : drop 32 (xs ++ (ys ++ zs)) ≡ ys ++ zs
  high-row = drop_at xs (ys ++ zs) 32 i

  steady-row : length ys ≡ 32 → drop 64 (xs ++ (ys ++ zs)) ≡ zs
  steady-row k = ap (drop 64) (sym (append_assoc xs ys zs)) ∙ drop_at (xs ++ ys) zs 64 (length-append xs ys ∙ omega arith)

-- ---- the plant: its equations stand from a to b
module _ (ed : Edition) (f : List ℕ) (small : length f < 2 ^ 64) (a b : ℕ) (vs : List ℕ) {p : Plant} (h : judge_plant ed vs (between a b f) ≡ accepted p)
    {x : PlantRead} (e : x ≡ accepted_plant p) where
  places_are : x.mode_offsets ≡ pad 128 0 (places_of_mode 1 p.equations)
  places_are = places_of p e

  lows_are : x.lows ≡ column (λ (v : Variable). v.minimum) p.variables
  lows_are = lows-of p e

  highs_are : x.highs ≡ column (λ (v : Variable). v.maximum) p.variables
  highs_are = highs-of p e

  column-full : (g : Variable → ℤ) → length (column g p.variables) ≡ 32
  unfolding column
  column-full g = length-pad 32 (pos 0) (map g p.variables) (omega (arith, length-map p.variables g, variables-high ed vs (between a b f) h))

  -- a row that begins with a column
  in-front : (g : Variable → ℤ) {xs : List ℤ} (ys : List ℤ) → xs ≡ column g p.variables → take (length p.variables) (xs ++ ys) ≡ map g p.variables
  in-front g ys i =
      ap (λ z. take (length p.variables) (z ++ ys)) i
      ∙ take-append-le (length p.variables) (column g p.variables) ys (omega (arith, column-full g, variables-high ed vs (between a b f) h)) ∙ column-front g p.variables

  steady-are : x.steady ≡ rates_from (rates_of p.equations []) 0 32
  steady-are = steady-of p e

  module _ {ks ss es : List ℕ} {o : ℕ} {ix : List ℕ} {rs : List ℤ} (filled : Filled x ks ss es a o ix) (ranges : rs ≡ x.lows ++ (x.highs ++ x.steady)) where
    mode-lent : (j : ℕ) (c : Selector) → get_elem? (selectors p) j ≡ some c → (m : ℕ) → m < length c.modes → ModeLent (lent f ix rs) j c m
    unfolding selectors
    mode-lent j c g m i =
        let q = (passed-all ed vs (between a b f) h).equations in
        let y = at-exists c.modes m i in
        let at : get_or c.modes m no_such_mode ≡ y.0 = get_d_at c.modes m no_such_mode y.1 in
        let low : 8 * j + m < 128 = omega (arith, few_selectors (between a b f) q, few-modes-each (between a b f) q j g, at-below (selectors p) j g) in
        let place : get_or ix (8 * j + m) 0 ≡ shifted_by a (get_or (pad 128 0 (places_of_mode 1 p.equations)) (8 * j + m) 0) =
        filled.modes (8 * j + m) (omega (arith, ap length places_are, pad-long 128 0 (places_of_mode 1 p.equations))) ∙ ap (λ z. shifted_by a (get_or z (8 * j + m) 0)) places_are in
        record {
          row = omega (arith, filled.long);
          stands = rw (at, place) (stands-placed f small a b (mode-placed (between a b f) q j m g y.1));
        }

    high-rows : drop 32 rs ≡ x.highs ++ x.steady
    high-rows = ap (drop 32) ranges ∙ high-row x.lows x.highs x.steady (ap length lows_are ∙ column-full _)

    steady-rows : drop 64 rs ≡ rates_from (rates_of p.equations []) 0 32
    steady-rows = ap (drop 64) ranges ∙ steady-row x.lows x.highs x.steady (ap length lows_are ∙ column-full _) (ap length highs_are ∙ column-full _) ∙ steady-are

    steady-long : length (drop 64 rs) ≡ 32
    steady-long = ap length steady-rows ∙ rates-length (rates_of p.equations []) 0 32

    pub plant-lent : PlantLent p (lent f ix rs)
    plant-lent = record {
      lows = ap (take (length p.variables)) ranges ∙ in-front (λ (v : Variable). v.minimum) (x.highs ++ x.steady) lows_are;
      highs = ap (take (length p.variables)) high-rows ∙ in-front (λ (v : Variable). v.maximum) x.steady highs_are;
      few = variables-high ed vs (between a b f) h;
      long = steady-long;
      steady = record { are = steady-rows ∙ ap (rates_from (rates_of p.equations []) 0) (sym steady-long) };
      modes = mode-lent;
      named = (passed-all ed vs (between a b f) h).named;
      once = (passed-all ed vs (between a b f) h).once;
    }

-- ---- a node, whose operand stands in the section from o to c
module _ (ed : Edition) (f : List ℕ) (small : length f < 2 ^ 64) {x : PlantRead} {ks ss es : List ℕ} {a o : ℕ} {ix : List ℕ} (filled : Filled x ks ss es a o ix) {rs : List ℤ} {p : Plant} where
  pub node-lent : (c n : ℕ) {w : Action} → n < ed.nodes → n < length ks → n < length ss → n < length es → o ≤ length f → get_or ss n 0 ≤ get_or es n 0 → get_or es n 0 ≤ length (between o c f)
      → action_of_kind (action_kind (get_or ks n 0)) (part_at (between o c f) ss es n) ≡ some w → operand_fits ed (length p.variables) (selectors p) w ≡ true → NodeLent ed p w (lent f ix rs) n
  node-lent c n {w} i jk js je oi low high is fits =
      let s : get_or (start_row ix) n 0 ≡ get_or ss n 0 + o = filled.starts n js ∙ end-there f small o c oi (get_or ss n 0) (omega arith) in
      let t : get_or (end_row ix) n 0 ≡ get_or es n 0 + o = filled.ends n je ∙ end-there f small o c oi (get_or es n 0) high in
      record {
        below = i;
        cut = record { low = omega arith; high = omega (arith, end_below f small o c oi (get_or es n 0) high) };
        is = rw (filled.kinds n jk, s, t, ← part-there f o c (get_or ss n 0) (get_or es n 0) low high) is;
        fits = fits;
      }
