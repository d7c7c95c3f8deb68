-- A file with the bytes of a PARALLEL's children in another order is the same but for that order.
use mathlib.Core.Path.{◌≡◌, refl, sym, ap, ap₂, subst, ◌∙◌}
use mathlib.Core.List.{List, [], ◌∷◌, ◌++◌, flat_map, append_assoc, Permᴰ as Permuted}
use mathlib.Core.Option.{some}
use Prim.Native.Nat.{ℕ, ◌+◌}
use native.Mathlib.Omega.{arith}
use lib.ListN.{length, drop, length-append}
use Rattle.semantics.specs.Bytes.{All, out, out2}
use Rattle.semantics.specs.Editions.{Edition}
use Rattle.semantics.specs.TableFile.{in_section2}
use Rattle.semantics.specs.Writing.{AllBytes}
use Rattle.semantics.proofs.Facts.{all_nil, all_cons, all_append}
use Rattle.semantics.proofs.WrittenTables.{out-length}
use Rattle.schedules.specs.FileSections.{FileSections, file_sections_in}
use Rattle.schedules.specs.Nodes.{Node, parallel, nodes_in}
use Rattle.schedules.specs.Files.{file_header, file_length}
use Rattle.schedules.specs.Writing.{write_node, write_nodes, NodesLimits, write_sections}
use Rattle.schedules.specs.Reordered.{OneTree, Swapped, Reordered, unchanged, swapped, SameButOrder}
use Rattle.schedules.proofs.Places.{flat_append}
use Rattle.schedules.proofs.Counting.{total}
use Rattle.schedules.proofs.FileForms.{nodes-bytes, sections-bytes, sections_read}
use Rattle.schedules.proofs.AnyOrder.{any_order}
use Rattle.schedules.proofs.ReorderedTrees.{reordered-total, reordered-length}

-- ---- all nodes keep to their limits
module _ {A : Type 0} {P : A → Type 0} where
  all-parts : (l k : List A) → All P (l ++ k) → All P l × All P k
  all-parts [] k p = (all_nil, p)
  all-parts (x ∷ l) k (all_cons h p) = let q = all-parts l k p in (all_cons h q.0, q.1)

  all-exchanged : (f i j a : List A) → All P (f ++ (i ++ (j ++ a))) → All P (f ++ (j ++ (i ++ a)))
  all-exchanged f i j a p =
      let q = all-parts f (i ++ (j ++ a)) p in
      let r = all-parts i (j ++ a) q.1 in
      let t = all-parts j a r.1 in
      all_append q.0 (all_append t.0 (all_append r.0 t.1))

-- up to the children that change places
in-front : {ns ms : List Node} (s : Swapped ns ms) (l : List Node) → (s.before ++ (parallel s.count ∷ s.first)) ++ l ≡ s.before ++ (parallel s.count ∷ (s.first ++ l))
in-front s l = append_assoc s.before (parallel s.count ∷ s.first) l

reordered-all : {P : Node → Type 0} {ns ms : List Node} → Reordered ns ms → All P ns → All P ms
reordered-all unchanged p = p
reordered-all {P} (swapped r s) p = go s (reordered-all r p)
  where
    go : {ms ls : List Node} → Swapped ms ls → All P ms → All P ls
    go s p =
        let f = s.before ++ (parallel s.count ∷ s.first) in
        subst (All P) (in-front s _ ∙ sym s.there) (all-exchanged f s.one s.other s.after (subst (All P) (s.here ∙ sym (in-front s _)) p))

same-behind : (f g l k : List ℕ) → length f ≡ length g → length l ≡ length k → length (f ++ l) ≡ length (g ++ k)
same-behind f g l k d e = length-append f l ∙ ap₂ ◌+◌ d e ∙ sym (length-append g k)

module _ (ed : Edition) where
  bytes-length : (ns : List Node) → length (flat_map (write_node ed) ns) ≡ total (λ x. length (write_node ed x)) ns
  unfolding flat_map total
  bytes-length [] = refl
  bytes-length (x ∷ ns) = length-append (write_node ed x) (flat_map (write_node ed) ns) ∙ ap (λ n. length (write_node ed x) + n) (bytes-length ns)

  module _ {ns ms : List Node} (r : Reordered ns ms) where
    same_bytes : length (flat_map (write_node ed) ns) ≡ length (flat_map (write_node ed) ms)
    same_bytes = bytes-length ns ∙ reordered-total (λ x. length (write_node ed x)) r ∙ sym (bytes-length ms)

    limits-kept : NodesLimits ed ns → NodesLimits ed ms
    limits-kept l = let e = reordered-length r in let low = l.at_least in let high = l.at_most in record { at_least = omega arith; at_most = omega arith; each = reordered-all r l.each }

  -- ---- the file
  abbrev nodes_bytes : List Node → List ℕ
  nodes_bytes ns = flat_map (write_node ed) ns

  -- what stands between the first three bytes and the nodes
  abbrev head_of : FileSections → List Node → List ℕ
  head_of x ns = in_section2 x.variables ++ (in_section2 x.equations ++ (out2 (length (write_nodes ed ns)) ++ out ed.width (length ns)))

  body-parts : (x : FileSections) (ns : List Node) → x.schedule ≡ write_nodes ed ns → write_sections x ≡ head_of x ns ++ nodes_bytes ns
  unfolding write_sections write_nodes in_section2
  body-parts x ns e = rw e (sym (grouped (in_section2 x.variables) (in_section2 x.equations) (out2 (length (write_nodes ed ns))) (out ed.width (length ns)) (nodes_bytes ns)))
    where
      grouped : (v e l n b : List ℕ) → (v ++ (e ++ (l ++ n))) ++ b ≡ v ++ (e ++ (l ++ (n ++ b)))
      grouped v e l n b = append_assoc v (e ++ (l ++ n)) b ∙ ap (λ (k : List ℕ). v ++ k) (append_assoc e (l ++ n) b ∙ ap (λ (k : List ℕ). e ++ k) (append_assoc l n b))

  same_start : (a b c : ℕ) (u v : List ℕ) → length u ≡ length v → (file_header ed (a ∷ b ∷ c ∷ u) ≡ file_header ed (a ∷ b ∷ c ∷ v)) × (file_length (a ∷ b ∷ c ∷ u) ≡ file_length (a ∷ b ∷ c ∷ v))
  unfolding file_header file_length
  same_start a b c u v e = (rw e refl, rw e refl)

  no-sections : (x : FileSections) → [] ≡ write_sections x → ⊥
  unfolding write_sections in_section2 out2
  no-sections x e = let n = ap length e in omega arith

  module _ (x : FileSections) {ns ms : List Node} (r : Reordered ns ms) (h : nodes_in ed x.schedule ≡ some ns) where
    other-sections : FileSections
    other-sections = record { variables = x.variables; equations = x.equations; schedule = write_nodes ed ms }

    -- a file is its head and its nodes' bytes; with the nodes in the other order it is the other file
    reordered-bytes : (file : List ℕ) → AllBytes file → file_sections_in (drop 3 file) ≡ some x →
        (head : List ℕ) × (file ≡ head ++ nodes_bytes ns) × SameButOrder ed file (head ++ nodes_bytes ms)
    unfolding other-sections write_nodes
    reordered-bytes [] z e = absurd (no-sections x ((sections-bytes [] x).0 (all_nil, e)).0)
    reordered-bytes (a ∷ []) z e = absurd (no-sections x ((sections-bytes [] x).0 (all_nil, e)).0)
    reordered-bytes (a ∷ b ∷ []) z e = absurd (no-sections x ((sections-bytes [] x).0 (all_nil, e)).0)
    reordered-bytes (a ∷ b ∷ c ∷ u) (all_cons i (all_cons j (all_cons k z))) e =
        let parts = (sections-bytes u x).0 (z, e) in
        let n = (nodes-bytes ed x.schedule ns).0 (parts.1.schedule.each, h) in
        let head = head_of x ns in
        let here : u ≡ head ++ nodes_bytes ns = parts.0 ∙ body-parts x ns n.0 in
        let there : head ++ nodes_bytes ms ≡ write_sections other-sections = ap (λ (l : List ℕ). l ++ nodes_bytes ms) same_head ∙ sym (body-parts other-sections ms refl) in
        let long : length u ≡ length (head ++ nodes_bytes ms) = ap length here ∙ same-behind head head (nodes_bytes ns) (nodes_bytes ms) refl (same_bytes r) in
        let start = same_start a b c u (head ++ nodes_bytes ms) long in (
          a ∷ b ∷ c ∷ head,
          ap (λ (l : List ℕ). a ∷ b ∷ c ∷ l) here,
          record {
            same_header = start.0;
            same_length = start.1;
            parts = x;
            other_parts = other-sections;
            in_file = e;
            in_other = ap file_sections_in there ∙ sections_read other-sections;
            same_variables = refl;
            same_equations = refl;
            nodes = ns;
            other_nodes = ms;
            nodes_read = h;
            other_read = ((nodes-bytes ed (write_nodes ed ms) ms).1 (refl, limits-kept r n.1)).1;
            order = r;
          },
        )
      where
        same_head : head_of x ns ≡ head_of other-sections ms
        same_head = ap₂ (λ (l : ℕ) (n : ℕ). in_section2 x.variables ++ (in_section2 x.equations ++ (out2 l ++ out ed.width n))) all-bytes (reordered-length r)
          where
            all-bytes : length (write_nodes ed ns) ≡ length (write_nodes ed ms)
            all-bytes =
                let w = ed.width in
                same-behind (out w (length ns)) (out w (length ms)) (nodes_bytes ns) (nodes_bytes ms) (out-length w (length ns) ∙ sym (out-length w (length ms))) (same_bytes r)

  -- ---- the bytes of a PARALLEL's children
  module _ (file : List ℕ) (x : FileSections) (z : AllBytes file) (e : file_sections_in (drop 3 file) ≡ some x) where
    -- nodes whose first stay where they are
    behind : (f l k : List Node) {ns ms : List Node} → ns ≡ f ++ l → ms ≡ f ++ k → nodes_in ed x.schedule ≡ some ns → Reordered ns ms →
        (front : List ℕ) × (file ≡ front ++ nodes_bytes l) × SameButOrder ed file (front ++ nodes_bytes k)
    behind f l k u v h r =
        let q = reordered-bytes x r h file z e in
        (q.0 ++ nodes_bytes f, q.1 ∙ moved q.0 l u, subst (SameButOrder ed file) (moved q.0 k v) q.2)
      where
        moved : (head : List ℕ) (l : List Node) {ns : List Node} → ns ≡ f ++ l → head ++ nodes_bytes ns ≡ (head ++ nodes_bytes f) ++ nodes_bytes l
        moved head l e = ap (λ (ns : List Node). head ++ nodes_bytes ns) e ∙ ap (λ (b : List ℕ). head ++ b) (flat_append (write_node ed) f l) ∙ sym (append_assoc head (nodes_bytes f) (nodes_bytes l))

    -- two neighbours have changed places
    pub exchanged-bytes : {ns ms : List Node} → nodes_in ed x.schedule ≡ some ns → (w : Swapped ns ms) →
        (front : List ℕ) × (file ≡ front ++ (nodes_bytes w.one ++ (nodes_bytes w.other ++ nodes_bytes w.after)))
        × SameButOrder ed file (front ++ (nodes_bytes w.other ++ (nodes_bytes w.one ++ nodes_bytes w.after)))
    exchanged-bytes h w =
        let f = w.before ++ (parallel w.count ∷ w.first) in
        let q = behind f (w.one ++ (w.other ++ w.after)) (w.other ++ (w.one ++ w.after)) (w.here ∙ sym (in-front w _)) (w.there ∙ sym (in-front w _)) h (swapped unchanged w) in
        (q.0, q.1 ∙ three q.0 w.one w.other w.after, subst (SameButOrder ed file) (three q.0 w.other w.one w.after) q.2)
      where
        three : (front : List ℕ) (i j a : List Node) → front ++ nodes_bytes (i ++ (j ++ a)) ≡ front ++ (nodes_bytes i ++ (nodes_bytes j ++ nodes_bytes a))
        three front i j a = ap (λ (b : List ℕ). front ++ b) (flat_append (write_node ed) i (j ++ a) ∙ ap (λ (b : List ℕ). nodes_bytes i ++ b) (flat_append (write_node ed) j a))

    -- all of them stand in another order
    pub any-order-bytes : (before after : List Node) {cs ds : List (List Node)} → All OneTree cs → Permuted cs ds →
        nodes_in ed x.schedule ≡ some (before ++ (parallel (length cs) ∷ (flat_map (λ (c : List Node). c) cs ++ after))) →
        (front : List ℕ) × (file ≡ front ++ (flat_map nodes_bytes cs ++ nodes_bytes after)) × SameButOrder ed file (front ++ (flat_map nodes_bytes ds ++ nodes_bytes after))
    unfolding flat_map
    any-order-bytes before after {cs} {ds} p d h =
        let f = before ++ (parallel (length cs) ∷ []) in
        let nodes : List (List Node) → List Node = λ cs. flat_map (λ (c : List Node). c) cs ++ after in
        let apart : (l : List Node) → before ++ (parallel (length cs) ∷ l) ≡ f ++ l = λ l. sym (append_assoc before (parallel (length cs) ∷ []) l) in
        let q = behind f (nodes cs) (nodes ds) (apart (nodes cs)) (apart (nodes ds)) h (any_order before after p d) in
        (q.0, q.1 ∙ ap (λ (b : List ℕ). q.0 ++ b) (children cs), subst (SameButOrder ed file) (ap (λ (b : List ℕ). q.0 ++ b) (children ds)) q.2)
      where
        flat : (cs : List (List Node)) → nodes_bytes (flat_map (λ (c : List Node). c) cs) ≡ flat_map nodes_bytes cs
        flat [] = refl
        flat (c ∷ cs) = flat_append (write_node ed) c (flat_map (λ (c : List Node). c) cs) ∙ ap (λ (b : List ℕ). nodes_bytes c ++ b) (flat cs)

        children : (cs : List (List Node)) → nodes_bytes (flat_map (λ (c : List Node). c) cs ++ after) ≡ flat_map nodes_bytes cs ++ nodes_bytes after
        children cs = flat_append (write_node ed) (flat_map (λ (c : List Node). c) cs) after ∙ ap (λ (b : List ℕ). b ++ nodes_bytes after) (flat cs)
