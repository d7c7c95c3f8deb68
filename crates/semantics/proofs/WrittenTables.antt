-- A table as it is written is made of bytes, and its lengths fit theirs.
use mathlib.Core.Path.{◌≡◌, refl, sym, subst}
use mathlib.Core.Bool.{Bool, true, false, ◌&&◌, cond}
use mathlib.Core.Option.{Option, none, some}
use mathlib.Core.List.{List, ◌++◌, flat_map}
use Prim.Native.Nat.{ℕ, ◌+◌, ◌*◌, ◌≤◌, ◌<◌}
use native.Mathlib.Nat.{suc-mul}
use native.Mathlib.Omega.{arith}
use borrow.Author.Tests.{ltb-true, eqb-true}
use lib.Dec.{ltb, eqb, lit≤}
use lib.ListN.{length, length-append}
use Rattle.semantics.specs.Bytes.{every, out2, out4, out, Width, one_byte, two_bytes, width_of}
use Rattle.semantics.specs.Editions.{Edition, capacity}
use Rattle.semantics.specs.TableFile.{FINISHED, HALTED, NONE, NodeAction, Entry, location_limit, action_bytes, in_section2, in_section4, write_action, write_actions, write_entry, write_location, write_locations, table_body, table_bytes}
use Rattle.semantics.specs.Run.{Action, test, wait, assign, switch, stop}
use Rattle.semantics.specs.Plant.{Plant}
use Rattle.semantics.specs.Tables.{rising_from, action_nodes, entry_nodes, operands_fit, node_exists, actions_numbered, actions_fit, action_at, is_going_on, targets_fit, entry_fits, location_fits, locations_fit_in}
use Rattle.semantics.proofs.Facts.{true-not-false, and_left, and_right, every-all, All, all_nil, all_cons, all_append, all_map, all-mem, all-flat}
use Rattle.semantics.proofs.TableBack.{Short}
use Rattle.semantics.proofs.WrittenSources.{ActionWritten, found}
use Rattle.semantics.proofs.WrittenRecords.{Byte, out2-bytes, out4-bytes, out-bytes}

-- ---- lengths
pub width_small : (w : Width) → width_of w ≤ 2
unfolding width_of
width_small one_byte = lit≤ tt
width_small two_bytes = lit≤ tt

pub capacity-large : (w : Width) → 256 ≤ capacity w
capacity-large one_byte = lit≤ tt
capacity-large two_bytes = lit≤ tt

pub out-length : (w : Width) (n : ℕ) → length (out w n) ≡ width_of w
unfolding out out2 width_of
out-length one_byte n = refl
out-length two_bytes n = refl

pub section2-length : (s : List ℕ) → length (in_section2 s) ≡ 2 + length s
unfolding in_section2 out2
section2-length s = omega arith

pub section4-length : (s : List ℕ) → length (in_section4 s) ≡ 4 + length s
unfolding in_section4 out4
section4-length s = omega arith

-- so many pieces, each at most so long
pub flat-length : {A : Type 0} (f : A → List ℕ) (k : ℕ) {l : List A} → All (λ x. length (f x) ≤ k) l → length (flat_map f l) ≤ length l * k
unfolding flat_map
flat-length f k all_nil = omega arith
flat-length f k (all_cons {x = x} {l = l} h q) =
    let i = flat-length f k q in
    let e = length-append (f x) (flat_map f l) in
    rw (suc-mul (length l) k) (let g : length (f x ++ flat_map f l) ≤ length l * k + k = omega arith in g)

pub section2-written : (s : List ℕ) → length s < 65536 → All Byte s → All Byte (in_section2 s)
unfolding in_section2
section2-written s h b = all_append (out2-bytes (length s) h) b

pub section4-written : (s : List ℕ) → length s < 4294967296 → All Byte s → All Byte (in_section4 s)
unfolding in_section4
section4-written s h b = all_append (out4-bytes (length s) h) b

-- ---- what is written fits
pub record WrittenAction (ed : Edition) (a : NodeAction) : Type 0 where
  pub node : a.node < ed.nodes
  pub short : Short a
  pub bytes : ActionWritten a

pub record WrittenEntry (ed : Edition) (e : Entry) : Type 0 where
  pub node : e.node < ed.nodes
  pub target : e.target < 65536
  pub other : e.other < 65536

pub record WrittenLocation (ed : Edition) (es : List Entry) : Type 0 where
  pub few : length es ≤ 255
  pub entries : All (WrittenEntry ed) es

module _ (ed : Edition) where
  node-written : (n : ℕ) → n < ed.nodes → All Byte (out ed.width n)
  node-written n h = let f = ed.nodes_fit in out-bytes ed.width n (omega arith)

  action-written : (a : NodeAction) → WrittenAction ed a → All Byte (write_action ed a)
  unfolding write_action
  action-written a h =
      let b = action_bytes a.action in
      let s = h.short in
      let w = width_small ed.width in
      let c = capacity-large ed.width in
      all_append (out-bytes ed.width (width_of ed.width + length b) (omega arith)) (all_append (node-written a.node h.node) h.bytes)

  action-length : (a : NodeAction) → WrittenAction ed a → length (write_action ed a) ≤ 204
  unfolding write_action
  action-length a h =
      let b = action_bytes a.action in
      let w = ed.width in
      let s = h.short in
      let k = width_small w in
      let i = out-length w (width_of w + length b) in
      let j = out-length w a.node in
      let e = length-append (out w (width_of w + length b)) (out w a.node ++ b) in
      let f = length-append (out w a.node) b in
      omega arith

  entry-written : (e : Entry) → WrittenEntry ed e → All Byte (write_entry ed e)
  unfolding write_entry
  entry-written e h = all_append (node-written e.node h.node) (all_append (out2-bytes e.target h.target) (out2-bytes e.other h.other))

  entry_length : (e : Entry) → length (write_entry ed e) ≤ 6
  unfolding write_entry out2
  entry_length e =
      let w = ed.width in
      let k = width_small w in
      let i = out-length w e.node in
      let f = length-append (out w e.node) (out2 e.target ++ out2 e.other) in
      omega arith

  location-written : (es : List Entry) → WrittenLocation ed es → All Byte (write_location ed es)
  unfolding write_location
  location-written es h = let f = h.few in all_cons (let q : length es < 256 = omega arith in q) (all-flat (write_entry ed) (all_map entry-written h.entries))

  location-length : (es : List Entry) → WrittenLocation ed es → length (write_location ed es) ≤ 1531
  unfolding write_location
  location-length es h =
      let f = h.few in
      let k = flat-length (write_entry ed) 6 (all_map (λ e u. entry_length e) h.entries) in
      omega arith

  -- the two sections, and the whole
  module _ (acts : List NodeAction) (few-acts : length acts ≤ ed.nodes) (acts_fit : All (WrittenAction ed) acts) where
    pub actions-written : All Byte (write_actions ed acts)
    unfolding write_actions
    actions-written = let f = ed.nodes_fit in all_append (out-bytes ed.width (length acts) (omega arith)) (all-flat (write_action ed) (all_map action-written acts_fit))

    pub actions-length : length (write_actions ed acts) ≤ 52226
    unfolding write_actions
    actions-length =
        let w = ed.width in
        let n = ed.entries_fit in
        let k = width_small w in
        let i = out-length w (length acts) in
        let e = length-append (out w (length acts)) (flat_map (write_action ed) acts) in
        let l = flat-length (write_action ed) 204 (all_map action-length acts_fit) in
        omega arith

  module _ (locs : List (List Entry)) (few-locs : length locs ≤ location_limit) (locs_fit : All (WrittenLocation ed) locs) where
    pub locations-written : All Byte (write_locations ed locs)
    unfolding write_locations
    locations-written = all_append (out2-bytes (length locs) (omega arith)) (all-flat (write_location ed) (all_map location-written locs_fit))

    pub locations-length : length (write_locations ed locs) ≤ 1567746
    unfolding write_locations out2
    locations-length = let l = flat-length (write_location ed) 1531 (all_map location-length locs_fit) in omega arith

  module _ (vs es : List ℕ) (acts : List NodeAction) (locs : List (List Entry)) where
    pub body-length : length (table_body ed vs es acts locs) ≡ 10 + (length vs + (length es + (length (write_actions ed acts) + length (write_locations ed locs))))
    unfolding table_body
    body-length =
        let v = in_section2 vs in
        let e = in_section2 es in
        let a = in_section2 (write_actions ed acts) in
        let l = in_section4 (write_locations ed locs) in
        let f = length-append v (e ++ (a ++ l)) in
        let g = length-append e (a ++ l) in
        let h = length-append a l in
        omega (arith, section2-length vs, section2-length es, section2-length (write_actions ed acts), section4-length (write_locations ed locs))

    pub table-length : length (table_bytes ed vs es acts locs) ≡ 5 + length (table_body ed vs es acts locs)
    unfolding table_bytes out4
    table-length = omega arith

  -- at most 255 entries a location, 1,024 locations, and sections that a file can hold
  pub record Writable (vs es : List ℕ) (acts : List NodeAction) (locs : List (List Entry)) : Type 0 where
    pub variables : All Byte vs
    pub variables-fit : length vs < 65536
    pub equations : All Byte es
    pub equations-fit : length es < 65536
    pub few-actions : length acts ≤ ed.nodes
    pub actions : All (WrittenAction ed) acts
    pub few-locations : length locs ≤ location_limit
    pub locations : All (WrittenLocation ed) locs

  module _ (vs es : List ℕ) (acts : List NodeAction) (locs : List (List Entry)) (w : Writable vs es acts locs) where
    pub table_fits : length (table_bytes ed vs es acts locs) ≤ 1751057
    table_fits =
        let v = w.variables-fit in
        let e = w.equations-fit in
        let a = actions-length acts w.few-actions w.actions in
        let l = locations-length locs w.few-locations w.locations in
        omega (arith, table-length vs es acts locs, body-length vs es acts locs)

    body-written : All Byte (table_body ed vs es acts locs)
    unfolding table_body
    body-written =
        let a = actions-length acts w.few-actions w.actions in
        let l = locations-length locs w.few-locations w.locations in
        all_append (section2-written vs w.variables-fit w.variables) (all_append (section2-written es w.equations-fit w.equations)
        (all_append (section2-written (write_actions ed acts) (omega arith) (actions-written acts w.few-actions w.actions))
        (section4-written (write_locations ed locs) (omega arith) (locations-written locs w.few-locations w.locations))))

    pub table-bytes : All Byte (table_bytes ed vs es acts locs)
    unfolding table_bytes
    table-bytes =
        let f = table_fits in
        let n = length (table_body ed vs es acts locs) in
        let g : 5 + n < 4294967296 = omega (arith, table-length vs es acts locs) in
        all_cons ed.version_fits (all_append (out4-bytes (5 + n) g) body-written)

-- ---- what fits its table is written in bytes
goes-on-small : (n t : ℕ) → n ≤ location_limit → is_going_on n t ≡ true → t < 65536
unfolding is_going_on FINISHED
goes-on-small n t h e = go (ltb t n) refl e
  where
    go : (b : Bool) → ltb t n ≡ b → cond b true (eqb t 0xfffe) ≡ true → t < 65536
    go true k e = let l = ltb-true t n k in omega arith
    go false k e = let l = eqb-true t 0xfffe e in omega arith

none-small : (u : ℕ) → eqb u NONE ≡ true → u < 65536
unfolding NONE
none-small u e = let l = eqb-true u 0xffff e in omega arith

halted-small : (u : ℕ) → eqb u HALTED ≡ true → u < 65536
unfolding HALTED
halted-small u e = let l = eqb-true u 0xfffd e in omega arith

both_small : (a b : Bool) {t u : ℕ} → (a ≡ true → t < 65536) → (b ≡ true → u < 65536) → (a && b) ≡ true → (t < 65536) × (u < 65536)
both_small a b h k e = (h (and_left a b e), k (and_right a b e))

targets-small : (n : ℕ) (a : Action) (t u : ℕ) → n ≤ location_limit → targets_fit n a t u ≡ true → (t < 65536) × (u < 65536)
unfolding targets_fit
targets-small n (test c) t u h e = both_small (is_going_on n t) (is_going_on n u) (goes-on-small n t h) (goes-on-small n u h) e
targets-small n (wait c) t u h e = both_small (is_going_on n t) (eqb u NONE) (goes-on-small n t h) (none-small u) e
targets-small n (assign v c) t u h e = both_small (is_going_on n t) (eqb u NONE) (goes-on-small n t h) (none-small u) e
targets-small n (switch s m) t u h e = both_small (is_going_on n t) (eqb u NONE) (goes-on-small n t h) (none-small u) e
targets-small n stop t u h e = both_small (eqb t HALTED) (eqb u NONE) (halted-small t) (none-small u) e

pub all_both : {A : Type 0} {P Q : A → Type 0} {l : List A} → All P l → All Q l → All (λ x. P x × Q x) l
all_both all_nil all_nil = all_nil
all_both (all_cons h p) (all_cons k q) = all_cons (h, k) (all_both p q)

module _ (ed : Edition) (acts : List NodeAction) (nodes : All (λ (x : NodeAction). x.node < ed.nodes) acts) where
  entry-fits : (n : ℕ) (e : Entry) → n ≤ location_limit → entry_fits n acts e ≡ true → WrittenEntry ed e
  unfolding entry_fits
  entry-fits n e h k = go (action_at acts e.node) refl k
    where
      go : (o : Option Action) → action_at acts e.node ≡ o → elim o [ none ↦ false | some a ↦ targets_fit n a e.target e.other ] ≡ true → WrittenEntry ed e
      go none f k = true-not-false (sym k)
      go (some a) f k =
          let t = targets-small n a e.target e.other h k in
          let x = found acts e.node f in
          record { node = subst (λ m. m < ed.nodes) x.node_is (all-mem nodes x.listed); target = t.0; other = t.1 }

  location-fits : (n : ℕ) (es : List Entry) → n ≤ location_limit → location_fits n acts es ≡ true → length es ≤ 255 → WrittenLocation ed es
  unfolding location_fits
  location-fits n es h k few =
      record { few = few; entries = all_map (λ e. entry-fits n e h) (every-all (entry_fits n acts) es (and_right (rising_from 0 (entry_nodes es)) (every (entry_fits n acts) es) k)) }

module _ (ed : Edition) (p : Plant) where
  nodes_fit : (l : List NodeAction) → actions_fit ed p l ≡ true → All (λ (a : NodeAction). a.node < ed.nodes) l
  unfolding actions_fit actions_numbered node_exists
  nodes_fit l h = all_map (λ (a : NodeAction). ltb-true a.node ed.nodes)
      (every-all (node_exists ed) l (and_right (rising_from 0 (action_nodes l)) (every (node_exists ed) l) (and_left (actions_numbered ed l) (operands_fit ed p l) h)))

  -- actions and locations that 18 and 19 let pass
  pub writable : (vs es : List ℕ) (acts : List NodeAction) (locs : List (List Entry)) →
      All Byte vs → length vs < 65536 → All Byte es → length es < 65536 →
      length acts ≤ ed.nodes → All Short acts → All ActionWritten acts → actions_fit ed p acts ≡ true →
      length locs ≤ location_limit → All (λ es. length es ≤ 255) locs → locations_fit_in acts locs ≡ true → Writable ed vs es acts locs
  unfolding locations_fit_in
  writable vs es acts locs v v-fit e e-fit few-acts short bytes fit few-locs few fits =
      let nodes = nodes_fit acts fit in
      let each = every-all (location_fits (length locs) acts) locs fits in
      record {
        variables = v;
        variables-fit = v-fit;
        equations = e;
        equations-fit = e-fit;
        few-actions = few-acts;
        actions = all_map (λ a k. record { node = k.0; short = k.1.0; bytes = k.1.1 }) (all_both nodes (all_both short bytes));
        few-locations = few-locs;
        locations = all_map (λ es k. location-fits ed acts nodes (length locs) es few-locs k.0 k.1) (all_both each few);
      }
