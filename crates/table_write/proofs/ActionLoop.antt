-- The rows of the actions, node by node.
use mathlib.Core.Path.{◌≡◌, refl, sym, ap, ◌∙◌}
use mathlib.Core.List.{List, [], ◌∷◌, ◌++◌, flat_map, append-nil, append_assoc}
use Prim.Native.Nat.{ℕ, zero, suc, ◌+◌, ◌-◌, ◌≤◌, ◌<◌}
use native.Mathlib.Omega.{arith}
use native.Mathlib.Numerals.{add-one}
use lib.ListN.{length, get_or, length-append, drop, length-drop}
use lib.Seq.{length-take-le}
use Rattle.semantics.specs.Bytes.{out, width_of}
use Rattle.semantics.specs.Editions.{Edition}
use Rattle.semantics.specs.TableFile.{action_kind, action_of_kind, write_action_row, write_action}
use Rattle.semantics.proofs.WrittenTables.{out-length}
use Rattle.edition.proofs.Widths.{width-high}
use Rattle.schedules.specs.Nodes.{listed}
use Rattle.schedules.proofs.Places.{flat_append}
use Rattle.codec.specs.Parts.{part_at}
use Rattle.table_write.specs.ActionTable.{action_here, actions_to, row_head, row_at_place, rows_to, Coded, OperandOf, Listed, Measured}
use Rattle.table_write.specs.Pieces.{Put}
use Rattle.table_write.proofs.TableBytes.{put-none}

pub operand-long : {s acts starts ends : List ℕ} {n : ℕ} → OperandOf s acts starts ends n → length (part_at s starts ends n) ≡ get_or ends n 0 - get_or starts n 0
operand-long {s} {acts} {starts} {ends} {n} h =
    length-take-le (get_or ends n 0 - get_or starts n 0) (drop (get_or starts n 0) s) (omega (arith, length-drop (get_or starts n 0) s, h.ordered, h.inside))

-- ---- one node
pub coded-short : {k : ℕ} {b : List ℕ} → Coded k b → length (k ∷ b) ≤ 200
coded-short c = omega (arith, c.short, ap length c.bytes)

module _ (ed : Edition) where
  pub row-length : (n k : ℕ) (b : List ℕ) → length (write_action_row ed n (k ∷ b)) ≡ length b + row_head ed
  row-length n k b =
      let w = ed.width in
      let l = width_of w + length (k ∷ b) in
      omega (arith, length-append (out w l) (out w n ++ (k ∷ b)), length-append (out w n) (k ∷ b), out-length w l, out-length w n)

  -- a row, written part by part
  pub row-bytes : (n k : ℕ) (b : List ℕ) {l : ℕ} → l ≡ length b + 1 + width_of ed.width →
      ((out ed.width l ++ out ed.width n) ++ (k ∷ [])) ++ b ≡ write_action_row ed n (k ∷ b)
  row-bytes n k b {l} e =
      let w = ed.width in
      let f : l ≡ width_of w + length (k ∷ b) = omega arith in
      append_assoc (out w l ++ out w n) (k ∷ []) b ∙ append_assoc (out w l) (out w n) (k ∷ b) ∙ ap (λ (m : ℕ). out w m ++ (out w n ++ (k ∷ b))) f

pub here-none : (n : ℕ) {k : ℕ} (b : List ℕ) → k ≡ 0 → action_here n k b ≡ []
unfolding action_here action_of_kind action_kind listed
here-none n b e = rw e refl

module _ (n : ℕ) {k : ℕ} {b : List ℕ} (c : Coded k b) where
  pub here-some : action_here n k b ≡ record { node = n; action = c.action } ∷ []
  unfolding action_here listed
  here-some = rw c.read refl

  pub row-some : (ed : Edition) → write_action_row ed n (k ∷ b) ≡ flat_map (write_action ed) (action_here n k b)
  unfolding write_action flat_map
  row-some ed = rw (here-some, c.bytes) (sym (append-nil (write_action_row ed n (k ∷ b))))

  pub row-long : (ed : Edition) → length b + row_head ed ≡ length (flat_map (write_action ed) (action_here n k b))
  row-long ed = sym (row-length ed n k b) ∙ ap length (row-some ed)

-- ---- all
module _ (ed : Edition) (s acts starts ends : List ℕ) where
  pub rows_next : (n : ℕ) → rows_to ed s acts starts ends n ++ row_at_place ed s acts starts ends n ≡ rows_to ed s acts starts ends (n + 1)
  unfolding actions_to
  rows_next n = rw (add-one n) (sym (flat_append (write_action ed) (actions_to s acts starts ends n) _))

  pub rows_none : (d : List ℕ) (i : ℕ) → Put d i (rows_to ed s acts starts ends 0) d i
  unfolding actions_to flat_map
  rows_none d i = put-none d i

  rows-length : (n : ℕ) → length (rows_to ed s acts starts ends (n + 1)) ≡ length (rows_to ed s acts starts ends n) + length (row_at_place ed s acts starts ends n)
  rows-length n = ap length (sym (rows_next n)) ∙ length-append (rows_to ed s acts starts ends n) (row_at_place ed s acts starts ends n)

  actions-length : (n : ℕ) → length (actions_to s acts starts ends (n + 1)) ≡ length (actions_to s acts starts ends n) + length (action_here n (get_or acts n 0) (part_at s starts ends n))
  unfolding actions_to
  actions-length n = rw (add-one n) (length-append (actions_to s acts starts ends n) _)

  -- those of some nodes are no longer than those of more
  rows-within : (n k : ℕ) → length (rows_to ed s acts starts ends n) ≤ length (rows_to ed s acts starts ends (n + k))
  rows-within n zero = let e : n + 0 ≡ n = omega arith in rw e (omega arith)
  rows-within n (suc k) = let e : n + suc k ≡ n + k + 1 = omega arith in rw e (omega (arith, rows-within n k, rows-length (n + k)))

  -- there is room for one more where there is room for all
  pub rows-room : {n count : ℕ} → n < count → length (rows_to ed s acts starts ends n) + length (row_at_place ed s acts starts ends n) ≤ length (rows_to ed s acts starts ends count)
  rows-room {n} {count} h = let e : n + 1 + (count - (n + 1)) ≡ count = omega arith in omega (arith, rows-length n, rw e at (rows-within (n + 1) (count - (n + 1))))

  pub rows_end : {n count : ℕ} {d e : List ℕ} {i r : ℕ} → n ≡ count → Put d i (rows_to ed s acts starts ends n) e r → Put d i (rows_to ed s acts starts ends count) e r
  rows_end h p = rw h at p

-- ---- counted
module _ {ed : Edition} {acts starts ends : List ℕ} where
  pub measured-none : Measured ed acts starts ends 0 0 0
  unfolding actions_to flat_map
  measured-none = record { few = omega arith; short = omega arith; counts = λ s h. refl; sizes = λ s h. refl }

  measured-more : {n c size c' size' : ℕ} (a b : ℕ) → Measured ed acts starts ends n c size → c' ≡ c + a → size' ≡ size + b → a ≤ 1 → b ≤ 204 →
      ((s : List ℕ) → OperandOf s acts starts ends n → (length (action_here n (get_or acts n 0) (part_at s starts ends n)) ≡ a) × (length (row_at_place ed s acts starts ends n) ≡ b)) →
      Measured ed acts starts ends (n + 1) c' size'
  measured-more {n} a b x d e u v f = record {
    few = omega (arith, x.few);
    short = omega (arith, x.short);
    counts = λ s h. omega (arith, x.counts s (λ i k. h i (omega arith)), (f s (h n (omega arith))).0, actions-length ed s acts starts ends n);
    sizes = λ s h. omega (arith, x.sizes s (λ i k. h i (omega arith)), (f s (h n (omega arith))).1, rows-length ed s acts starts ends n);
  }

  pub measured-skip : {n c size c' size' : ℕ} → Measured ed acts starts ends n c size → get_or acts n 0 ≡ 0 → c' ≡ c → size' ≡ size → Measured ed acts starts ends (n + 1) c' size'
  unfolding flat_map
  measured-skip {n} x z d e = measured-more 0 0 x (omega arith) (omega arith) (omega arith) (omega arith) (λ s o. rw (here-none n (part_at s starts ends n) z) (refl, refl))

  pub measured-row : {n c size c' size' : ℕ} → Measured ed acts starts ends n c size → (get_or acts n 0 ≡ 0 → ⊥) → get_or ends n 0 - get_or starts n 0 ≤ 199 →
      {h : ℕ} → h ≡ row_head ed → c' ≡ c + 1 → size' ≡ size + (get_or ends n 0 - get_or starts n 0 + h) → Measured ed acts starts ends (n + 1) c' size'
  measured-row {n} x z l {h} w d e = measured-more 1 (get_or ends n 0 - get_or starts n 0 + h) x d e (omega arith) (omega (arith, width-high ed.width)) (λ s o.
      (ap length (here-some n (o.coded z)), sym (row-long n (o.coded z) ed) ∙ omega (arith, operand-long o)))

  pub measured-end : {n m c size : ℕ} → n ≡ m → Measured ed acts starts ends n c size → Measured ed acts starts ends m c size
  measured-end e x = rw e at x

-- a node's operand, in the section that the list names
pub listed-short : {ed : Edition} {acts starts ends : List ℕ} {n count : ℕ} (x : Listed ed acts starts ends count) → n < count → (get_or acts n 0 ≡ 0 → ⊥) → get_or ends n 0 - get_or starts n 0 ≤ 199
listed-short {n = n} x h z = let o = x.operands.each n h in omega (arith, operand-long o, coded-short (o.coded z))
