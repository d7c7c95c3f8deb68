-- A table that was read is lent: what a run asks of the table's bytes, the index and the ranges.
use mathlib.Core.Path.{◌≡◌, sym, ap, subst, ◌∙◌}
use mathlib.Core.List.{List, [], ◌++◌}
use mathlib.Core.Option.{some}
use Prim.Native.Nat.{ℕ, ◌-◌, ◌^◌, ◌<◌}
use native.Mathlib.Omega.{arith}
use lib.IntN.{ℤ}
use lib.ListN.{length, get_or, drop, length-drop}
use Rattle.semantics.specs.Bytes.{read, byte}
use Rattle.semantics.specs.Editions.{Edition}
use Rattle.semantics.specs.Refusals.{accepted}
use Rattle.semantics.specs.Plant.{judge_plant}
use Rattle.semantics.specs.Run.{Action}
use Rattle.semantics.specs.TableFile.{Entry, NodeAction, read_location}
use Rattle.semantics.specs.Tables.{Table, action_at, entries_at, judge_table}
use Rattle.semantics.proofs.Readers.{split, byte-read}
use Rattle.codec.specs.Part.{part_of}
use Rattle.codec.specs.Parts.{between}
use Rattle.program.specs.Rows.{location_row}
use Rattle.program.specs.Filled.{shifted_by, Filled}
use Rattle.program.specs.Lent.{lent, NodeLent}
use Rattle.program.proofs.Longer.{more-location, read-there}
use Rattle.program.proofs.LentParts.{place-there, plant-lent, node-lent}
use Rattle.table_read.specs.declared.call.TableIndex.{TableIndex}
use Rattle.table_read.specs.TableParts.{sections_of}
use Rattle.table_read.specs.Promised.{LocationPromised}
use Rattle.table_read.specs.TableIndex.{table_index}
use Rattle.table_read.specs.Lent.{LocationLent, TableLent}
use Rattle.table_read.proofs.PartsStand.{AllStand}
use Rattle.table_read.proofs.Promises.{Opened, opened, parts-read, plant-read, actions_read, locations_read, ActionPromised, action-promised, lengths-of, location-promised, LocationsPromised, locations-promised}

-- ---- a location that is read in its section is read in the table
location-before : (ed : Edition) (s : List ℕ) (p : ℕ) {es : List Entry} {t : List ℕ} → read_location ed (drop p s) ≡ read es t → p < length s
unfolding read_location
location-before ed s p e =
    let a = split byte _ e in
    omega (arith, ap length (byte-read (drop p s) a.first), length-drop p s)

promised-there : (ed : Edition) (f : List ℕ) → length f < 2 ^ 64 → (a b p n : ℕ) {acts : List NodeAction} {es : List Entry} → LocationPromised ed (between a b f) p n acts es →
    LocationPromised ed f (shifted_by a p) n acts es
promised-there ed f small a b p n l =
    let i = location-before ed (between a b f) p l.reads in
    rw (place-there f small a b p i) (record { rest = l.rest ++ drop (b - a) (drop a f); reads = read-there f a b (more-location ed) p (omega arith) l.reads; fits = l.fits })

module _ (ed : Edition) (f : List ℕ) (small : length f < 2 ^ 64) {x : TableIndex} {t : Table} (h : x ≡ table_index ed f t) (j : judge_table ed f ≡ accepted t) where
  open_of : Opened ed f t
  open_of = opened ed f j

  stand : AllStand f x.parts (sections_of f)
  stand = subst (λ p. AllStand f p (sections_of f)) (sym (parts-read ed f t h)) open_of.stand

  plant_judged : judge_plant ed (sections_of f).variables (part_of x.parts.equations f) ≡ accepted t.plant
  plant_judged = ap (judge_plant ed (sections_of f).variables) stand.equations.is ∙ open_of.plant

  long : (length x.actions.kinds ≡ 256) × (length x.actions.starts ≡ 256) × (length x.actions.ends ≡ 256)
  long = rw (actions_read ed f t h) (lengths-of ed _ _)

  locations-held : LocationsPromised x.locations t
  locations-held = rw (locations_read ed f t h) (locations-promised ed f open_of)

  action-held : (n : ℕ) {a : Action} → action_at t.actions n ≡ some a → ActionPromised ed (part_of x.parts.actions f) x.actions t.plant n a
  action-held n e = rw (stand.actions.is, actions_read ed f t h) (action-promised ed f open_of n e)

  location-held : (k : ℕ) → k < length t.locations → LocationPromised ed (part_of x.parts.locations f) (get_or x.locations.places k 0) (length t.locations) t.actions (get_or t.locations k [])
  location-held k i = rw (stand.locations.is, locations_read ed f t h) (location-promised ed f open_of k i)

  -- ---- the index and the ranges
  module _ {ix : List ℕ} {rs : List ℤ} (filled : Filled x.plant x.actions.kinds x.actions.starts x.actions.ends x.parts.equations.start x.parts.actions.start ix)
      (places : (k : ℕ) → k < length x.locations.places → get_or (location_row ix) k 0 ≡ shifted_by x.parts.locations.start (get_or x.locations.places k 0)) (ranges : rs ≡ x.plant.lows ++ (x.plant.highs ++ x.plant.steady)) where
    node_of : (n : ℕ) (a : Action) → action_at t.actions n ≡ some a → NodeLent ed t.plant a (lent f ix rs) n
    node_of n a e =
        let p = action-held n e in
        let here : n < 256 = omega (arith, p.below, ed.entries_fit) in
        let inside = stand.actions.inside in
        node-lent ed f small filled x.parts.actions.end n p.below (omega (arith, here, long.0)) (omega (arith, here, long.1)) (omega (arith, here, long.2))
        (omega (arith, inside.ordered, inside.ends)) p.ordered p.inside p.is p.fits

    location-of : (k : ℕ) → k < length t.locations → LocationLent ed t (lent f ix rs) k
    unfolding entries_at
    location-of k i =
        let p = location-held k i in
        record {
          row = omega (arith, locations-held.high);
          promised = rw (places k (omega (arith, locations-held.high, locations-held.full))) (promised-there ed f small x.parts.locations.start x.parts.locations.end _ _ p);
        }

    pub table-lent : TableLent ed t (lent f ix rs)
    table-lent = record {
      plant = plant-lent ed f small x.parts.equations.start x.parts.equations.end (sections_of f).variables plant_judged (plant-read ed f t h) filled ranges;
      nodes = node_of;
      locations = record { few = locations-held.high; at = location-of };
      some_location = locations-held.low;
    }
