-- What is written as a table is read back and judged as written, in any edition.
use mathlib.Core.Path.{◌≡◌, refl, ap, ◌∙◌}
use mathlib.Core.Bool.{true}
use mathlib.Core.List.{List, [], ◌∷◌}
use mathlib.Core.Option.{some}
use Prim.Native.Nat.{ℕ, suc, ◌+◌, ◌-◌, ◌*◌, ◌/◌, ◌%◌, ◌≤◌}
use native.Mathlib.Omega.{arith}
use borrow.Author.Tests.{eq-eqb, le-leb}
use lib.ListN.{length, drop}
use Rattle.semantics.specs.Bytes.{be4, out4, width_of, within, Reader, and_then, ◌>>=◌, give, guard, from, byte, nat2, nat4, number, bytes, times, whole, section2, section4, from_no_bytes, from_two_bytes, byte_and_rest}
use Rattle.semantics.specs.Editions.{Edition}
use Rattle.semantics.specs.Refusals.{accepted}
use Rattle.semantics.specs.Plant.{Plant, judge_plant, switches_read}
use Rattle.semantics.specs.Run.{Action, test, wait, assign, switch, stop}
use Rattle.semantics.specs.TableFile.{TEST, WAIT, ASSIGN, SWITCH, STOP, NodeAction, Entry, location_limit, action_kind, action_of_kind, read_table_sections, table_sections_in, read_action, read_action_count, read_actions, actions_in, read_entry, read_location, read_location_count, read_locations, locations_in, action_bytes, kind_number, operand_bytes, in_section2, in_section4, write_action, write_actions, write_entry, write_location, write_locations, table_body, table_bytes}
use Rattle.semantics.specs.Tables.{table_header, actions_fit, locations_fit_in, judge_table}
use Rattle.semantics.proofs.Facts.{and_both, within_both, All, all_nil, all_cons}
use Rattle.semantics.proofs.TableJudged.{table-in-order}
use Rattle.semantics.proofs.Judging.{go-then, go-need, go-ensure, go-only}
use Rattle.semantics.proofs.Readers.{counted-then, Reads, reads_then, reads-last, reads_byte, reads-nat2, reads-nat4, reads-number, reads_bytes, reads-guard, reads-from, reads_times, whole-reads}

-- a second reader that takes no bytes
pub reads-nothing-more : {A B : Type 0} (r : Reader A) (f : A → Reader B) {w : List ℕ} {a : A} {b : B} → Reads r w a → Reads (f a) [] b → Reads (r >>= f) w b
unfolding ◌>>=◌ and_then
reads-nothing-more r f h k = record { back = λ s. rw (h.back s) (k.back s) }

-- of every list
anything : {A : Type 0} (l : List A) → All (λ x. Unit {0}) l
anything [] = all_nil
anything (x ∷ l) = all_cons tt (anything l)

pub reads-section2 : (w : List ℕ) → Reads section2 (in_section2 w) w
unfolding section2 in_section2
reads-section2 w = reads_then nat2 _ (reads-nat2 (length w)) (reads_bytes w)

pub reads-section4 : (w : List ℕ) → Reads section4 (in_section4 w) w
unfolding section4 in_section4
reads-section4 w = reads_then nat4 _ (reads-nat4 (length w)) (reads_bytes w)

-- ---- actions
-- the bytes of an action are a kind and an operand that give it back
pub record Coded (a : Action) : Type 0 where
  pub kind : ℕ
  pub operand : List ℕ
  pub coded : action_bytes a ≡ kind ∷ operand
  pub decoded : action_of_kind (action_kind kind) operand ≡ some a

pub action-back : (a : Action) → Coded a
unfolding action_bytes kind_number operand_bytes action_of_kind action_kind from_no_bytes from_two_bytes byte_and_rest
action-back (test t) = record { kind = TEST; operand = t; coded = refl; decoded = refl }
action-back (wait t) = record { kind = WAIT; operand = t; coded = refl; decoded = refl }
action-back (assign v e) = record { kind = ASSIGN; operand = v ∷ e; coded = refl; decoded = refl }
action-back (switch s m) = record { kind = SWITCH; operand = s ∷ m ∷ []; coded = refl; decoded = refl }
action-back stop = record { kind = STOP; operand = []; coded = refl; decoded = refl }

-- "kind and operand make 1..200 bytes"
abbrev pub Short : NodeAction → Type 0
Short a = length (action_bytes a.action) ≤ 200

module _ (ed : Edition) where
  -- from the kind on
  reads-coded : (a : NodeAction) (c : Coded a.action) (l : ℕ) → l ≡ length c.operand →
      Reads (byte >>= λ k. bytes l >>= λ b. from (action_of_kind (action_kind k) b) >>= λ x. give (record { node = a.node; action = x })) (action_bytes a.action) a
  reads-coded a c l e =
      let o = c.operand in
      rw (c.coded, e)
      (reads_then byte _ (reads_byte c.kind) (reads-nothing-more (bytes (length o)) _ (reads_bytes o) (reads-last (from (action_of_kind (action_kind c.kind) o)) _ (reads-from c.decoded))))

  pub reads-action : (a : NodeAction) → Short a → Reads (read_action ed) (write_action ed a) a
  unfolding read_action write_action
  reads-action a h =
      let w = ed.width in
      let b = action_bytes a.action in
      let c = action-back a.action in
      let e : length b ≡ suc (length c.operand) = ap length c.coded in
      let l : width_of w + length b - (width_of w + 1) ≡ length c.operand = omega arith in
      reads_then (number w) _ (reads-number w (width_of w + length b))
      (reads-guard _ (within_both (width_of w + 1) (width_of w + 200) (width_of w + length b) (omega arith) (omega arith))
      (reads_then (number w) _ (reads-number w a.node) (reads-coded a c (width_of w + length b - (width_of w + 1)) l)))

  -- the count, then the actions
  pub actions-in-order : read_actions ed ≡ (number ed.width >>= λ n. guard (within 1 ed.nodes n) (times n (read_action ed)))
  unfolding read_actions read_action_count
  actions-in-order = counted-then (number ed.width) (within 1 ed.nodes) (λ n. times n (read_action ed))

  pub actions-back : (l : List NodeAction) → 1 ≤ length l → length l ≤ ed.nodes → All Short l → actions_in ed (write_actions ed l) ≡ some l
  unfolding actions_in write_actions
  actions-back l p q h =
      ap (λ r. whole r (write_actions ed l)) actions-in-order ∙ whole-reads _ (reads_then (number ed.width) _ (reads-number ed.width (length l))
      (reads-guard _ (within_both 1 ed.nodes (length l) p q) (reads_times (read_action ed) (write_action ed) reads-action h)))

  -- ---- locations
  reads-entry : (e : Entry) → Reads (read_entry ed) (write_entry ed e) e
  unfolding read_entry write_entry
  reads-entry e =
      reads_then (number ed.width) _ (reads-number ed.width e.node)
      (reads_then nat2 _ (reads-nat2 e.target) (reads-last nat2 _ (reads-nat2 e.other)))

  pub reads-location : (es : List Entry) → 1 ≤ length es → Reads (read_location ed) (write_location ed es) es
  unfolding read_location write_location
  reads-location es h =
      reads_then byte _ (reads_byte (length es))
      (reads-guard _ (le-leb 1 (length es) h) (reads_times (read_entry ed) (write_entry ed) (λ e u. reads-entry e) (anything es)))

  pub locations-in-order : read_locations ed ≡ (nat2 >>= λ n. guard (within 1 location_limit n) (times n (read_location ed)))
  unfolding read_locations read_location_count
  locations-in-order = counted-then nat2 (within 1 location_limit) (λ n. times n (read_location ed))

  pub locations-back : (ls : List (List Entry)) → 1 ≤ length ls → length ls ≤ location_limit → All (λ es. 1 ≤ length es) ls → locations_in ed (write_locations ed ls) ≡ some ls
  unfolding locations_in write_locations
  locations-back ls p q h =
      ap (λ r. whole r (write_locations ed ls)) locations-in-order ∙ whole-reads _ (reads_then nat2 _ (reads-nat2 (length ls))
      (reads-guard _ (within_both 1 location_limit (length ls) p q) (reads_times (read_location ed) (write_location ed) reads-location h)))

  -- ---- sections
  module _ (vs es : List ℕ) (acts : List NodeAction) (locs : List (List Entry)) where
    pub sections-back : table_sections_in (table_body ed vs es acts locs) ≡ some (record { variables = vs; equations = es; actions = write_actions ed acts; locations = write_locations ed locs })
    unfolding table_sections_in read_table_sections table_body
    sections-back =
        whole-reads _ (reads_then section2 _ (reads-section2 vs) (reads_then section2 _ (reads-section2 es)
        (reads_then section2 _ (reads-section2 (write_actions ed acts)) (reads-last section4 _ (reads-section4 (write_locations ed locs))))))

    pub body_back : drop 5 (table_bytes ed vs es acts locs) ≡ table_body ed vs es acts locs
    unfolding table_bytes out4
    body_back = refl

    pub header-back : table_header ed (table_bytes ed vs es acts locs) ≡ true
    unfolding table_header table_bytes out4 be4
    header-back =
        let n = length (table_body ed vs es acts locs) in
        let e : (((5 + n) / 0x100_0000 * 256 + (5 + n) / 0x1_0000 % 256) * 256 + (5 + n) / 256 % 256) * 256 + (5 + n) % 256 ≡ suc (suc (suc (suc (suc n)))) = omega arith in
        and_both (le-leb 5 (suc (suc (suc (suc (suc n))))) (omega arith)) (and_both (eq-eqb ed.version ed.version refl) (eq-eqb _ _ e))

  pub table-back : {p : Plant} (vs es : List ℕ) (acts : List NodeAction) (locs : List (List Entry)) →
      judge_plant ed vs es ≡ accepted p → switches_read ed p ≡ true →
      1 ≤ length acts → length acts ≤ ed.nodes → All Short acts → actions_fit ed p acts ≡ true →
      1 ≤ length locs → length locs ≤ location_limit → All (λ es. 1 ≤ length es) locs → locations_fit_in acts locs ≡ true →
      judge_table ed (table_bytes ed vs es acts locs) ≡ accepted (record { plant = p; actions = acts; locations = locs })
  table-back vs es acts locs plant switches some-acts few-acts short fit some-locs few-locs entries fits =
      table-in-order ed _
      ∙ go-ensure 15 _ (header-back vs es acts locs)
      ∙ go-need 16 _ (ap table_sections_in (body_back vs es acts locs) ∙ sections-back vs es acts locs)
      ∙ go-then _ (go-only 17 plant)
      ∙ go-ensure 17 _ switches
      ∙ go-need 18 _ (actions-back acts some-acts few-acts short)
      ∙ go-ensure 18 _ fit
      ∙ go-need 19 _ (locations-back locs some-locs few-locs entries)
      ∙ go-ensure 19 _ fits
