-- Pieces written one after the other, and the sections of a table, their heads written before their rows.
use mathlib.Core.Path.{◌≡◌, refl, sym, ap, ◌∙◌}
use mathlib.Core.List.{List, [], ◌∷◌, ◌++◌, append_assoc, append-nil}
use Prim.Native.Nat.{ℕ, suc, ◌+◌, ◌≤◌}
use native.Mathlib.Omega.{arith}
use lib.ListN.{length, length-append, length-map}
use Rattle.semantics.specs.Bytes.{Width, out, out2, out4, width_of}
use Rattle.semantics.specs.Editions.{Edition}
use Rattle.semantics.specs.TableFile.{in_section2, in_section4, copied_then, action_section, write_actions, write_locations, table_head}
use Rattle.semantics.proofs.WrittenTables.{section2-length, out-length}
use Rattle.codec.specs.Writing.{Wrote}
use Rattle.codec.proofs.Writing.{wrote_none, put-more}
use Rattle.schedules.specs.Trees.{Tree}
use Rattle.schedules.specs.Numbering.{locations}
use Rattle.schedules.specs.Compiling.{entries_of}
use Rattle.numbering.specs.Meeting.{tests_in}
use Rattle.numbering.specs.Located.{all_rows, Fitting, Numbered}
use Rattle.table_write.specs.ActionTable.{actions_to, rows_to, Operands, Measured}
use Rattle.table_write.specs.LocationTable.{section_of, Counts, LocationsPut}
use Rattle.table_write.specs.Pieces.{Put}

-- ---- pieces
pub put_then : {d e g : List ℕ} {i j r : ℕ} {xs ys : List ℕ} → Put d i xs e j → Put e j ys g r → i ≤ length d → Put d i (xs ++ ys) g r
put_then {xs = xs} {ys = ys} p q h = record { ends = omega (arith, length-append xs ys, p.ends, q.ends); writes = put-more p.writes q.writes h p.ends }

pub put-none : (d : List ℕ) (i : ℕ) → Put d i [] d i
put-none d i = record { ends = omega arith; writes = wrote_none d i }

pub put_as : {d e : List ℕ} {i r : ℕ} {xs ys : List ℕ} → xs ≡ ys → Put d i xs e r → Put d i ys e r
put_as q p = rw q at p

-- a number of an edition's width
pub put-wide : (w : Width) (n : ℕ) {d e : List ℕ} {i r : ℕ} → (r ≡ i + width_of w) × Wrote d i (out w n) e → Put d i (out w n) e r
put-wide w n p = record { ends = omega (arith, p.0, out-length w n); writes = p.1 }

-- ---- the front
front-joined : (h a b : List ℕ) → (h ++ a) ++ b ≡ h ++ (a ++ (b ++ []))
front-joined h a b = simp (append_assoc, append-nil)

pub head-is : (ed : Edition) (whole : ℕ) (a b : List ℕ) {v : ℕ} → v ≡ ed.version → ((v ∷ out4 whole) ++ a) ++ b ≡ table_head ed whole ++ (a ++ (b ++ []))
head-is ed whole a b e = ap (λ (x : ℕ). ((x ∷ out4 whole) ++ a) ++ b) e ∙ front-joined (table_head ed whole) a b

pub front_long : (ed : Edition) (whole : ℕ) (vs es : List ℕ) → length (table_head ed whole ++ copied_then vs es []) ≡ length vs + length es + 9
unfolding out4
front_long ed whole vs es =
    let a = length-append (table_head ed whole) (copied_then vs es []) in
    omega (arith, a, length-append (in_section2 vs) (in_section2 es ++ []), ap length (append-nil (in_section2 es)), section2-length vs, section2-length es)

-- ---- the action section
module _ {ed : Edition} {s acts starts ends : List ℕ} {count n size : ℕ} (o : Operands ed s acts starts ends count) (m : Measured ed acts starts ends count n size) where
  abbrev w : ℕ
  w = width_of ed.width

  actions-joined : {x : ℕ} → x ≡ size + w → (out2 x ++ out ed.width n) ++ rows_to ed s acts starts ends count ≡ action_section (write_actions ed (actions_to s acts starts ends count))
  unfolding in_section2 write_actions
  actions-joined {x} e =
      let c = out ed.width n in
      let rows = rows_to ed s acts starts ends count in
      let l : x ≡ length (c ++ rows) = omega (arith, length-append c rows, out-length ed.width n, m.sizes s o.each) in
      append_assoc (out2 x) c rows ∙ ap (λ (k : ℕ). out2 k ++ (c ++ rows)) l
      ∙ ap (λ (k : ℕ). let b = out ed.width k ++ rows in out2 (length b) ++ b) (m.counts s o.each)

  pub actions-long : length (action_section (write_actions ed (actions_to s acts starts ends count))) ≡ size + w + 2
  unfolding in_section2 write_actions out2
  actions-long =
      let c = out ed.width (length (actions_to s acts starts ends count)) in
      omega (arith, m.sizes s o.each, length-append c (rows_to ed s acts starts ends count), out-length ed.width (length (actions_to s acts starts ends count)))

  pub actions-put : {d d₁ d₂ d' : List ℕ} {i j l x r : ℕ} → i ≤ length d → x ≡ size + w → (j ≡ i + 2) × Wrote d i (out2 x) d₁ → (l ≡ j + w) × Wrote d₁ j (out ed.width n) d₂ →
      Put d₂ l (rows_to ed s acts starts ends count) d' r → Put d i (action_section (write_actions ed (actions_to s acts starts ends count))) d' r
  unfolding out2
  actions-put h e p q z =
      put_as (actions-joined e) (put_then (put_then (record { ends = p.0; writes = p.1 }) (put-wide ed.width n q) h) z h)

-- ---- the location section
module _ {ed : Edition} {ks es acts : List ℕ} {n size : ℕ} where
  locations-joined : {t : Tree} → Counts ed ks es acts n size t → (out4 (size + 2) ++ out2 n) ++ all_rows ed (tests_in acts) t ≡ section_of ed acts t
  unfolding in_section4 write_locations out2 out4
  locations-joined {t} x =
      let l = locations (tests_in acts) t in
      let e : size + 2 ≡ suc (suc (length (all_rows ed (tests_in acts) t))) = omega (arith, x.sizes) in
      rw (length-map l (entries_of (tests_in acts) l), ← x.counts, e) refl

  pub locations-long : {t : Tree} → Counts ed ks es acts n size t → length (section_of ed acts t) ≡ size + 6
  unfolding out4 out2
  locations-long x = ap length (sym (locations-joined x)) ∙ omega (arith, x.sizes)

  pub fitting : {t : Tree} {d : List ℕ} {at : ℕ} → Counts ed ks es acts n size t → at + size ≤ length d → Fitting ed ks es acts d at
  fitting {t} h l = record { tree = t; lies = h.lies; small = h.small; few = omega (arith, h.few, h.counts); fits = omega (arith, h.sizes) }

  pub locations-put : {d d₁ d₂ d' : List ℕ} {i j l r : ℕ} → i ≤ length d → (j ≡ i + 4) × Wrote d i (out4 (size + 2)) d₁ → (l ≡ j + 2) × Wrote d₁ j (out2 n) d₂ → Numbered ed ks es acts d₂ l d' r →
      LocationsPut ed ks es acts n size d i d' r
  unfolding out4 out2
  locations-put h p q z = record {
    of = λ t x. put_as (locations-joined x) (put_then (put_then (record { ends = p.0; writes = p.1 }) (record { ends = q.0; writes = q.1 }) h)
        (record { ends = z.ends t x.lies; writes = z.writes t x.lies }) h);
  }
