-- Kinds 6 and 7 of a node exchanged: the same tree, the same table, one byte of the file, and 34 where the file was accepted.
use mathlib.Core.Path.{◌≡◌, refl, sym, ap, subst, ◌∙◌}
use mathlib.Core.Bool.{Bool, true, false, not}
use mathlib.Core.List.{List, [], ◌∷◌, ◌++◌, flat_map, append_assoc}
use mathlib.Core.Logic.{◌⊎◌, inl, inr}
use mathlib.Core.Option.{Option, none, some}
use Prim.Native.Nat.{ℕ, zero, suc, ◌+◌, ◌<◌}
use native.Mathlib.Omega.{arith}
use lib.ListN.{length, get_elem?, length-append}
use Rattle.semantics.specs.Bytes.{All, every, out, out2}
use Rattle.semantics.specs.Editions.{Edition}
use Rattle.semantics.specs.Refusals.{Judged, refused, accepted, ◌>>◌, ensure}
use Rattle.semantics.specs.Sections.{Selector, Equation}
use Rattle.semantics.specs.Plant.{Plant, selectors}
use Rattle.semantics.specs.Run.{is_test}
use Rattle.semantics.specs.TableFile.{NodeAction, table_bytes, in_section2}
use Rattle.semantics.specs.Tables.{action_or_stop}
use Rattle.semantics.specs.Writing.{AllBytes, write_variables, write_equations}
use Rattle.semantics.proofs.Facts.{true-not-false, by_cases, all_nil, all_cons, all-mem, at_mem, every-all, some_is, none-not-some}
use Rattle.semantics.proofs.Judging.{go-need, go-ensure, go-then}
use Rattle.semantics.proofs.PlantPassed.{plant-passed, plant-accepted}
use Rattle.schedules.specs.Nodes.{Node, sequence, parallel, while_do, if_else, continue_until, reset, reinitial, switch_to, stop_all}
use Rattle.schedules.specs.Nodes.{node_named, node_parted, action_of, listed, actions_from, actions_of}
use Rattle.schedules.specs.Trees.{Tree, Forest, children, tree_from, Walked, lost, walked, onward, found, read_forest, read_tree, when_none_left, tree_of}
use Rattle.schedules.specs.Numbering.{locations}
use Rattle.schedules.specs.Files.{Schedule, judge_file_sections, judge_file}
use Rattle.schedules.specs.Compiling.{tests_of, schedule_locations, rows_of, table_of}
use Rattle.schedules.specs.Writing.{node_bytes, NodeLimits, PayloadLimits, reset_within, reinitial_within, write_node, write_nodes, write_sections, write_file, FileLimits}
use Rattle.schedules.specs.Exchanged.{other_kind, exchanged_at, exchanged, OneByte}
use Rattle.schedules.proofs.FirstNumber.{file-in-order, nodes-in-order, passed}
use Rattle.schedules.proofs.FileForms.{schedule-bytes}
use Rattle.schedules.proofs.FilesProper.{schedule-accepted}

-- what does not tell a RESET from a REINITIAL is the same of a node and of the other kind of it
either-kind : {A : Type 0} (f : Node → A) → ((v : ℕ) (e : List ℕ) → f (reset v e) ≡ f (reinitial v e)) → (x : Node) → f (other_kind x) ≡ f x
unfolding other_kind
either-kind f h (sequence k) = refl
either-kind f h (parallel k) = refl
either-kind f h (while_do t) = refl
either-kind f h (if_else t) = refl
either-kind f h (continue_until t) = refl
either-kind f h (reset v e) = sym (h v e)
either-kind f h (reinitial v e) = h v e
either-kind f h (switch_to s m) = refl
either-kind f h stop_all = refl

-- ---- the table: "Kinds 6 and 7 both assign."
same-action : (x : Node) → action_of (other_kind x) ≡ action_of x
unfolding action_of
same-action = either-kind action_of (λ v e. refl)

same-actions : (k n : ℕ) (ns : List Node) → actions_from k (exchanged_at n ns) ≡ actions_from k ns
unfolding actions_from exchanged_at
same-actions k n [] = refl
same-actions k zero (x ∷ ns) = ap (λ o. listed k o (actions_from (suc k) ns)) (same-action x)
same-actions k (suc n) (x ∷ ns) = ap (listed k (action_of x)) (same-actions (suc k) n ns)

-- a table by its actions
abbrev by_actions : Edition → Schedule → List NodeAction → List ℕ
by_actions ed s acts =
    let tests : ℕ → Bool = λ n. is_test (action_or_stop acts n) in
    table_bytes ed s.sections.variables s.sections.equations acts (rows_of tests (locations tests s.root))

by-actions : (ed : Edition) (s : Schedule) → table_of ed s ≡ by_actions ed s (actions_of s.nodes)
unfolding table_of schedule_locations tests_of
by-actions ed s = refl

pub exchanged-table : (ed : Edition) (n : ℕ) (s : Schedule) → table_of ed (exchanged ed n s) ≡ table_of ed s
unfolding exchanged actions_of
exchanged-table ed n s = by-actions ed (exchanged ed n s) ∙ ap (by_actions ed s) (same-actions 0 n s.nodes) ∙ sym (by-actions ed s)

-- ---- the tree
-- node by node as many children, and the same tree of them
data SameShapes : List Node → List Node → Type 0 where
  no_shapes : SameShapes [] []
  one_shape : {x y : Node} {ns ms : List Node} → children x ≡ children y → ((n : ℕ) (ts : Forest) → tree_from n x ts ≡ tree_from n y ts) → SameShapes ns ms → SameShapes (x ∷ ns) (y ∷ ms)

data SameWalk {A : Type 0} : Walked A → Walked A → Type 0 where
  both_lost : SameWalk lost lost
  both_walked : {a : A} {n : ℕ} {ns ms : List Node} → SameShapes ns ms → SameWalk (walked a n ns) (walked a n ms)

same-onward : {A B : Type 0} {i j : Walked A} (f g : A → ℕ → List Node → Walked B) → SameWalk i j →
    ((a : A) (n : ℕ) (ns ms : List Node) → SameShapes ns ms → SameWalk (f a n ns) (g a n ms)) → SameWalk (onward i f) (onward j g)
unfolding onward
same-onward f g both_lost h = both_lost
same-onward f g (both_walked s) h = h _ _ _ _ s

same-found : {A : Type 0} (o : Option A) {p : Option A} (n : ℕ) {ns ms : List Node} → o ≡ p → SameShapes ns ms → SameWalk (found o n ns) (found p n ms)
unfolding found
same-found none n e s = rw (sym e) both_lost
same-found (some a) n e s = rw (sym e) (both_walked s)

same-forest : (r : ℕ → List Node → Walked Tree) → ((n : ℕ) (ns ms : List Node) → SameShapes ns ms → SameWalk (r n ns) (r n ms)) →
    (k n : ℕ) {ns ms : List Node} → SameShapes ns ms → SameWalk (read_forest r k n ns) (read_forest r k n ms)
unfolding read_forest
same-forest r h zero n s = both_walked s
same-forest r h (suc k) n s = same-onward _ _ (h n _ _ s) (λ t m us vs q. same-onward _ _ (same-forest r h k m q) (λ ts l us vs z. both_walked z))

same-tree : (deep n : ℕ) {ns ms : List Node} → SameShapes ns ms → SameWalk (read_tree deep n ns) (read_tree deep n ms)
unfolding read_tree
same-tree zero n s = both_lost
same-tree (suc deep) n no_shapes = both_lost
same-tree (suc deep) n (one_shape {x = x} {y = y} c t s) =
    rw c (same-onward _ _ (same-forest (read_tree deep) (λ m us vs q. same-tree deep m q) (children y) (suc n) s) (λ ts m us vs q. same-found (tree_from n x ts) m (t n ts) q))

same_left : {i j : Walked Tree} → SameWalk i j → when_none_left i ≡ when_none_left j
unfolding when_none_left
same_left both_lost = refl
same_left (both_walked no_shapes) = refl
same_left (both_walked (one_shape c t s)) = refl

unchanged-shapes : (ns : List Node) → SameShapes ns ns
unchanged-shapes [] = no_shapes
unchanged-shapes (x ∷ ns) = one_shape refl (λ n ts. refl) (unchanged-shapes ns)

other-children : (x : Node) → children (other_kind x) ≡ children x
unfolding children
other-children = either-kind children (λ v e. refl)

other_tree : (x : Node) (n : ℕ) (ts : Forest) → tree_from n (other_kind x) ts ≡ tree_from n x ts
unfolding tree_from
other_tree x n ts = either-kind (λ x. tree_from n x ts) (λ v e. refl) x

same-shapes : (n : ℕ) (ns : List Node) → SameShapes (exchanged_at n ns) ns
unfolding exchanged_at
same-shapes n [] = no_shapes
same-shapes zero (x ∷ ns) = one_shape (other-children x) (other_tree x) (unchanged-shapes ns)
same-shapes (suc n) (x ∷ ns) = one_shape refl (λ m ts. refl) (same-shapes n ns)

same_count : (n : ℕ) (ns : List Node) → length (exchanged_at n ns) ≡ length ns
unfolding exchanged_at
same_count n [] = refl
same_count zero (x ∷ ns) = refl
same_count (suc n) (x ∷ ns) = ap suc (same_count n ns)

pub exchanged-tree : (n : ℕ) (ns : List Node) → tree_of (exchanged_at n ns) ≡ tree_of ns
unfolding tree_of
exchanged-tree n ns = ap (λ l. when_none_left (read_tree l 0 (exchanged_at n ns))) (same_count n ns) ∙ same_left (same-tree (length ns) 0 (same-shapes n ns))

-- ---- the file: one byte of it
module _ {a b : ℕ} where
  one-behind : (k : List ℕ) {l m : List ℕ} → OneByte a b l m → OneByte a b (k ++ l) (k ++ m)
  one-behind k o = record {
    front = k ++ o.front;
    behind = o.behind;
    file_is = ap (λ (l : List ℕ). k ++ l) o.file_is ∙ sym (append_assoc k o.front (a ∷ o.behind));
    other_is = ap (λ (l : List ℕ). k ++ l) o.other_is ∙ sym (append_assoc k o.front (b ∷ o.behind));
  }

  one-before : {l m : List ℕ} (k : List ℕ) → OneByte a b l m → OneByte a b (l ++ k) (m ++ k)
  one-before k o = record {
    front = o.front;
    behind = o.behind ++ k;
    file_is = ap (λ (l : List ℕ). l ++ k) o.file_is ∙ append_assoc o.front (a ∷ o.behind) k;
    other_is = ap (λ (l : List ℕ). l ++ k) o.other_is ∙ append_assoc o.front (b ∷ o.behind) k;
  }

  same_length : {l m : List ℕ} → OneByte a b l m → length l ≡ length m
  same_length o = ap length o.file_is ∙ length-append o.front (a ∷ o.behind) ∙ sym (length-append o.front (b ∷ o.behind)) ∙ sym (ap length o.other_is)

  -- behind a field that both have alike
  one-headed : {k g l m : List ℕ} → k ≡ g → OneByte a b l m → OneByte a b (k ++ l) (g ++ m)
  one-headed {k} {l = l} {m = m} e o = subst (λ (g : List ℕ). OneByte a b (k ++ l) (g ++ m)) e (one-behind k o)

  one-section : {l m : List ℕ} → OneByte a b l m → OneByte a b (in_section2 l) (in_section2 m)
  unfolding in_section2
  one-section o = one-headed (ap out2 (same_length o)) o

  module _ (ed : Edition) where
    -- of a node's bytes, of all nodes', of the section, of the file
    one-node : (x : Node) → OneByte a b (node_bytes x) (node_bytes (other_kind x)) → OneByte a b (write_node ed x) (write_node ed (other_kind x))
    unfolding write_node
    one-node x o = one-headed (ap (out ed.width) (same_length o)) o

    one-of-nodes : (n : ℕ) (ns : List Node) {x : Node} → get_elem? ns n ≡ some x → OneByte a b (node_bytes x) (node_bytes (other_kind x)) →
        OneByte a b (flat_map (write_node ed) ns) (flat_map (write_node ed) (exchanged_at n ns))
    unfolding flat_map exchanged_at
    one-of-nodes n [] h o = none-not-some h
    one-of-nodes zero (y ∷ ns) h o = one-before (flat_map (write_node ed) ns) (one-node y (subst (λ x. OneByte a b (node_bytes x) (node_bytes (other_kind x))) (sym (some_is h)) o))
    one-of-nodes (suc n) (y ∷ ns) h o = one-behind (write_node ed y) (one-of-nodes n ns h o)

    one-of-section : (n : ℕ) (ns : List Node) {x : Node} → get_elem? ns n ≡ some x → OneByte a b (node_bytes x) (node_bytes (other_kind x)) →
        OneByte a b (write_nodes ed ns) (write_nodes ed (exchanged_at n ns))
    unfolding write_nodes
    one-of-section n ns h o = one-headed (ap (out ed.width) (sym (same_count n ns))) (one-of-nodes n ns h o)

    one-of-file : (p : Plant) (n : ℕ) (ns : List Node) {x : Node} → get_elem? ns n ≡ some x → OneByte a b (node_bytes x) (node_bytes (other_kind x)) →
        OneByte a b (write_file ed p ns) (write_file ed p (exchanged_at n ns))
    unfolding write_file write_sections
    one-of-file p n ns h o =
        let body = one-behind (in_section2 (write_variables p.variables)) (one-behind (in_section2 (write_equations p.equations)) (one-section (one-of-section n ns h o))) in
        one-behind (ed.version ∷ []) (one-headed (ap (λ l. out2 (3 + l)) (same_length body)) body)

other_byte : (v : ℕ) (e : List ℕ) → OneByte 6 7 (node_bytes (reset v e)) (node_bytes (other_kind (reset v e))) × OneByte 7 6 (node_bytes (reinitial v e)) (node_bytes (other_kind (reinitial v e)))
unfolding node_bytes other_kind
other_byte v e = (record { front = []; behind = v ∷ e; file_is = refl; other_is = refl }, record { front = []; behind = v ∷ e; file_is = refl; other_is = refl })

pub exchanged-byte : (ed : Edition) (p : Plant) (ns : List Node) (n v : ℕ) (e : List ℕ) →
    (get_elem? ns n ≡ some (reset v e) → OneByte 6 7 (write_file ed p ns) (write_file ed p (exchanged_at n ns))) ×
    (get_elem? ns n ≡ some (reinitial v e) → OneByte 7 6 (write_file ed p ns) (write_file ed p (exchanged_at n ns)))
exchanged-byte ed p ns n v e = (λ h. one-of-file ed p n ns h (other_byte v e).0, λ h. one-of-file ed p n ns h (other_byte v e).1)

-- ---- the limits are kept
other-limits : (x : Node) → NodeLimits x → NodeLimits (other_kind x)
unfolding other_kind node_bytes
other-limits (sequence k) h = h
other-limits (parallel k) h = h
other-limits (while_do t) h = h
other-limits (if_else t) h = h
other-limits (continue_until t) h = h
other-limits (reset v e) h = record { payload = go h.payload; at_most = h.at_most }
  where
    go : PayloadLimits (reset v e) → PayloadLimits (reinitial v e)
    go (reset_within i z) = reinitial_within i z
other-limits (reinitial v e) h = record { payload = go h.payload; at_most = h.at_most }
  where
    go : PayloadLimits (reinitial v e) → PayloadLimits (reset v e)
    go (reinitial_within i z) = reset_within i z
other-limits (switch_to s m) h = h
other-limits stop_all h = h

each_limit : (n : ℕ) {ns : List Node} → All NodeLimits ns → All NodeLimits (exchanged_at n ns)
unfolding exchanged_at
each_limit n all_nil = all_nil
each_limit zero (all_cons {x = x} h k) = all_cons (other-limits x h) k
each_limit (suc n) (all_cons h k) = all_cons h (each_limit n k)

limits-kept : {a b : ℕ} (ed : Edition) (p : Plant) (n : ℕ) (ns : List Node) {x : Node} → get_elem? ns n ≡ some x → OneByte a b (node_bytes x) (node_bytes (other_kind x)) →
    FileLimits ed p ns → FileLimits ed p (exchanged_at n ns)
limits-kept ed p n ns h o l =
    let c = same_count n ns in
    let low = l.nodes.at_least in
    let high = l.nodes.at_most in
    record {
      plant = l.plant;
      nodes = record { at_least = omega arith; at_most = omega arith; each = each_limit n l.nodes.each };
      nodes-length = subst (λ n. n < 65536) (same_length (one-of-section ed n ns h o)) l.nodes-length;
      whole_length = subst (λ n. n < 65536) (same_length (one-of-file ed p n ns h o)) l.whole_length;
    }

-- ---- 11 stays as it is
other-named : (v : ℕ) (cs : List Selector) (x : Node) → node_named v cs (other_kind x) ≡ node_named v cs x
unfolding node_named
other-named v cs = either-kind (node_named v cs) (λ w e. refl)

same-named : (v : ℕ) (cs : List Selector) (n : ℕ) (ns : List Node) → every (node_named v cs) (exchanged_at n ns) ≡ every (node_named v cs) ns
unfolding every exchanged_at
same-named v cs n [] = refl
same-named v cs zero (x ∷ ns) = ap (λ b. elim b [ true ↦ every (node_named v cs) ns | false ↦ false ]) (other-named v cs x)
same-named v cs (suc n) (x ∷ ns) = ap (λ b. elim (node_named v cs x) [ true ↦ b | false ↦ false ]) (same-named v cs n ns)

-- ---- 34 does not
other-there : (n : ℕ) (ns : List Node) {x : Node} → get_elem? ns n ≡ some x → get_elem? (exchanged_at n ns) n ≡ some (other_kind x)
unfolding exchanged_at
other-there n [] h = none-not-some h
other-there zero (y ∷ ns) h = ap (λ x. some (other_kind x)) (some_is h)
other-there (suc n) (y ∷ ns) h = other-there n ns h

-- the rule at node n
at-node : (f : Node → Bool) (n : ℕ) (ns : List Node) {x : Node} → get_elem? ns n ≡ some x → every f ns ≡ true → f x ≡ true
at-node f n ns h e = all-mem (every-all f ns e) (at_mem ns n h)

breaks : (es : List Equation) (n : ℕ) (ns : List Node) {x : Node} → get_elem? ns n ≡ some x → (node_parted es x ≡ true → node_parted es (other_kind x) ≡ true → ⊥) →
    every (node_parted es) ns ≡ true → every (node_parted es) (exchanged_at n ns) ≡ false
breaks es n ns h f e =
    let rule = node_parted es in
    by_cases (every rule (exchanged_at n ns)) (λ t. absurd (f (at-node rule n ns h e) (at-node rule n (exchanged_at n ns) (other-there n ns h) t))) (λ t. t)

not-both : (es : List Equation) (v : ℕ) (e : List ℕ) → node_parted es (reset v e) ≡ true → node_parted es (reinitial v e) ≡ true → ⊥
unfolding node_parted
not-both es v e h k = true-not-false (sym h ∙ ap not k)

one-breaks : (es : List Equation) (n v : ℕ) (e : List ℕ) (ns : List Node) → (get_elem? ns n ≡ some (reset v e)) ⊎ (get_elem? ns n ≡ some (reinitial v e)) →
    every (node_parted es) ns ≡ true → every (node_parted es) (exchanged_at n ns) ≡ false
unfolding other_kind
one-breaks es n v e ns (inl h) k = breaks es n ns h (λ i j. not-both es v e i j) k
one-breaks es n v e ns (inr h) k = breaks es n ns h (λ i j. not-both es v e j i) k

refuses-here : {B : Type 0} (n : ℕ) {t : Bool} (j : Judged B) → t ≡ false → (ensure n t >> j) ≡ refused n
unfolding ◌>>◌ ensure
refuses-here n j e = rw e refl

pub exchanged-34 : (ed : Edition) (file : List ℕ) (s : Schedule) → AllBytes file → judge_file ed file ≡ accepted s → (n v : ℕ) (e : List ℕ) →
    (get_elem? s.nodes n ≡ some (reset v e)) ⊎ (get_elem? s.nodes n ≡ some (reinitial v e)) → judge_file ed (write_file ed s.plant (exchanged_at n s.nodes)) ≡ refused 34
unfolding judge_file_sections
exchanged-34 ed file s z h n v e i =
    let p = s.plant in
    let ms = exchanged_at n s.nodes in
    let other = write_file ed p ms in
    let g = passed ed file s h in
    let j = plant-passed ed s.sections.variables s.sections.equations g.plant in
    let l = limits i ((schedule-accepted ed file s).0 (z, h)).limits in
    let r = ((schedule-bytes ed other p ms).1 (refl, l)).1 in
    let plant = plant-accepted ed r.sections.variables r.sections.equations
    (record { variables = r.variables_read; equations = r.equations_read; in_order = j.in_order; named = j.named; once = j.once }) in
    file-in-order ed other
    ∙ go-ensure 1 _ r.header
    ∙ go-ensure 2 _ r.own_length
    ∙ go-need 3 _ r.sections_read
    ∙ go-then _ plant
    ∙ go-need 9 _ r.nodes_read
    ∙ go-need 10 _ (exchanged-tree n s.nodes ∙ g.tree)
    ∙ nodes-in-order ed p ms _
    ∙ go-ensure 11 _ (same-named (length p.variables) (selectors p) n s.nodes ∙ g.named)
    ∙ refuses-here 34 _ (one-breaks p.equations n v e s.nodes i g.parted)
  where
    limits : (get_elem? s.nodes n ≡ some (reset v e)) ⊎ (get_elem? s.nodes n ≡ some (reinitial v e)) → FileLimits ed s.plant s.nodes → FileLimits ed s.plant (exchanged_at n s.nodes)
    limits (inl h) l = limits-kept ed s.plant n s.nodes h (other_byte v e).0 l
    limits (inr h) l = limits-kept ed s.plant n s.nodes h (other_byte v e).1 l

-- an accepted file is the written form of its schedule, so that the other file differs from it in that byte
pub accepted-byte : (ed : Edition) (file : List ℕ) (s : Schedule) → AllBytes file → judge_file ed file ≡ accepted s → (n v : ℕ) (e : List ℕ) →
    (get_elem? s.nodes n ≡ some (reset v e) → OneByte 6 7 file (write_file ed s.plant (exchanged_at n s.nodes))) ×
    (get_elem? s.nodes n ≡ some (reinitial v e) → OneByte 7 6 file (write_file ed s.plant (exchanged_at n s.nodes)))
accepted-byte ed file s z h n v e =
    let other = write_file ed s.plant (exchanged_at n s.nodes) in
    let bytes = ((schedule-accepted ed file s).0 (z, h)).bytes in
    let b = exchanged-byte ed s.plant s.nodes n v e in
    (λ i. subst (λ (f : List ℕ). OneByte 6 7 f other) (sym bytes) (b.0 i), λ i. subst (λ (f : List ℕ). OneByte 7 6 f other) (sym bytes) (b.1 i))
