-- Two moves of nodes that act at once can be exchanged: each leaves the other acting, and both come to the same.
use mathlib.Core.Path.{◌≡◌, refl, sym, ap, ◌∙◌}
use mathlib.Core.Bool.{Bool, false}
use mathlib.Core.List.Memᴰ
use mathlib.Core.List.{[], ◌∷◌, Memᴰ as Mem}
use mathlib.Core.Logic.{◌⊎◌, inl, inr}
use Prim.Native.Nat.{ℕ}
use native.Mathlib.Omega.{arith}
use Rattle.semantics.specs.Run.{Next, to, finished, halted, idle}
use Rattle.semantics.proofs.Facts.{all-mem}
use Rattle.schedules.specs.Trees.{Tree, Forest, loop}
use Rattle.schedules.specs.Residuals.{Residual, Parts, at-node, in-loop, in-branch, in-seq, in-par, no_part, finished-part, part, acting, acting_at, acting_parts, inside, next_child, every_finished, joined, or_else, move, move_parts}
use Rattle.schedules.specs.Reached.{Of, OfSeq, OfParts, of-leaf, of-halt, of-loop, of-body, of-branch, of_first, of_second, of-seq, of-par, of-here, of-later, of_none, of-finished, of_part}
use Rattle.schedules.proofs.TreeShapes.{Spans, SpansF, sp-loop, sp-branch, sp-seq, sp-par, sp-cons}
use Rattle.schedules.proofs.ActingDetermines.{InSpan, between, between-parts}
use Rattle.schedules.proofs.MovesFit.{no_move, no-part-move, never-idle}
use Rattle.schedules.proofs.ResidualsKept.{kept-to}

-- ---- two moves exchanged
-- each leaves the other acting, and the second comes to the same
pub record Exchange (r : Residual) (a b : ℕ) (x y : Bool) : Type 0 where
  pub one : Residual
  pub other : Residual
  pub one_moves : move r a x ≡ to one
  pub other_moves : move r b y ≡ to other
  pub other_acts : Mem b (acting one)
  pub one_acts : Mem a (acting other)
  pub same : move one b y ≡ move other a x

record ExchangeParts (ps : Parts) (a b : ℕ) (x y : Bool) : Type 0 where
  one : Parts
  other : Parts
  one_moves : move_parts ps a x ≡ to one
  other_moves : move_parts ps b y ≡ to other
  other_acts : Mem b (acting_parts one)
  one_acts : Mem a (acting_parts other)
  same : move_parts one b y ≡ move_parts other a x

acts-unfinished : {n : ℕ} (ps : Parts) → Mem n (acting_parts ps) → every_finished ps ≡ false
unfolding every_finished acting
acts-unfinished no_part k = absurd (Memᴰ.not-nil k)
acts-unfinished (finished-part ps) k = acts-unfinished ps k
acts-unfinished (part r ps) k = refl

joined-on : (ps : Parts) → every_finished ps ≡ false → joined (to ps) ≡ to (in-par ps)
unfolding joined
joined-on ps e = rw (e, joined) refl

swapped-parts : {ps : Parts} {a b : ℕ} {x y : Bool} → ExchangeParts ps b a y x → ExchangeParts ps a b x y
swapped-parts e = record { one = e.other; other = e.one; one_moves = e.other_moves; other_moves = e.one_moves; other_acts = e.one_acts; one_acts = e.other_acts; same = sym e.same }

-- ---- a move of a PARALLEL's children
or_else-idle : {S : Type 0} (x : Next S) → or_else x idle ≡ x
unfolding or_else
or_else-idle (to s) = refl
or_else-idle finished = refl
or_else-idle halted = refl
or_else-idle idle = refl

module _ (r : Residual) (ps : Parts) (n : ℕ) (b : Bool) where
  first-halts : move r n b ≡ halted → move_parts (part r ps) n b ≡ halted
  unfolding move or_else inside
  first-halts e = rw e refl

  first_goes : {s : Residual} → move r n b ≡ to s → move_parts (part r ps) n b ≡ to (part s ps)
  unfolding move or_else inside
  first_goes e = rw e refl

  first-finishes : move r n b ≡ finished → move_parts (part r ps) n b ≡ to (finished-part ps)
  unfolding move or_else inside
  first-finishes e = rw e refl

  just-first : (Mem n (acting_parts ps) → ⊥) → move_parts (part r ps) n b ≡ inside (λ s. part s ps) (to (finished-part ps)) (move r n b)
  unfolding move inside
  just-first f = rw (no-part-move ps n b f) (or_else-idle _)

  just-later : (Mem n (acting r) → ⊥) → move_parts (part r ps) n b ≡ inside (part r) finished (move_parts ps n b)
  unfolding move or_else inside
  just-later f = rw (no_move r n b f) refl

inside-unfinished : {R S : Type 0} (f : R → S) (x : Next R) → (x ≡ finished → ⊥) → inside f finished x ≡ finished → ⊥
unfolding inside
inside-unfinished f (to r) h e = let z : ◌≡◌ {A = ℕ} 0 1 = cc in omega arith
inside-unfinished f finished h e = h refl
inside-unfinished f halted h e = let z : ◌≡◌ {A = ℕ} 0 1 = cc in omega arith
inside-unfinished f idle h e = let z : ◌≡◌ {A = ℕ} 0 1 = cc in omega arith

either-unfinished : (qs : Parts) (x : Next Residual) (y : Next Parts) → (y ≡ finished → ⊥) → or_else (inside (λ s. part s qs) (to (finished-part qs)) x) y ≡ finished → ⊥
unfolding or_else inside
either-unfinished qs (to r) y h e = let z : ◌≡◌ {A = ℕ} 0 1 = cc in omega arith
either-unfinished qs finished y h e = let z : ◌≡◌ {A = ℕ} 0 1 = cc in omega arith
either-unfinished qs halted y h e = let z : ◌≡◌ {A = ℕ} 0 1 = cc in omega arith
either-unfinished qs idle y h e = h e

-- the children, one by one, never finish: the PARALLEL does
parts-unfinished : (ps : Parts) (n : ℕ) (b : Bool) → move_parts ps n b ≡ finished → ⊥
unfolding move
parts-unfinished no_part n b e = let z : ◌≡◌ {A = ℕ} 0 1 = cc in omega arith
parts-unfinished (finished-part ps) n b e = inside-unfinished finished-part (move_parts ps n b) (parts-unfinished ps n b) e
parts-unfinished (part r ps) n b e = either-unfinished ps (move r n b) _ (inside-unfinished (part r) (move_parts ps n b) (parts-unfinished ps n b)) e

-- they go on where an acting one does not halt
parts-on : (ps : Parts) (n : ℕ) (b : Bool) → Mem n (acting_parts ps) → (move_parts ps n b ≡ halted → ⊥) → (qs : Parts) × (move_parts ps n b ≡ to qs)
unfolding move acting joined
parts-on ps n b k h = go (move_parts ps n b) refl
  where
    go : (x : Next Parts) → move_parts ps n b ≡ x → (qs : Parts) × (move_parts ps n b ≡ to qs)
    go (to qs) e = (qs, e)
    go finished e = absurd (parts-unfinished ps n b e)
    go halted e = absurd (h e)
    go idle e = absurd (never-idle (in-par ps) n b k (ap joined e))

range-apart : {n lo mid hi : ℕ} → InSpan lo mid n → InSpan mid hi n → ⊥
range-apart p q = omega arith

-- one in the first child, the other in a later one
split-exchange : {a b : ℕ} {x y : Bool} {t : Tree} {ts : Forest} {r : Residual} {ps : Parts} {lo mid hi : ℕ} → Of t r → OfParts ts ps → Spans t lo mid → SpansF ts mid hi →
    Mem a (acting r) → Mem b (acting_parts ps) → (move_parts (part r ps) a x ≡ halted → ⊥) → (move_parts (part r ps) b y ≡ halted → ⊥) → ExchangeParts (part r ps) a b x y
unfolding move acting inside
split-exchange {a} {b} {x} {y} {t} {ts} {r} {ps} {lo} {mid} {hi} h g sp sf i j ha hb = go (move r a x) refl
  where
    outside : (s : Residual) → Of t s → Mem b (acting s) → ⊥
    outside s o k = range-apart {lo = lo} (all-mem (between o sp) k) (all-mem (between-parts g sf) j)

    later : (qs : Parts) × (move_parts ps b y ≡ to qs)
    later = parts-on ps b y j (λ e. hb (just-later r ps b y (outside r h) ∙ ap (inside (part r) finished) e))

    go : (z : Next Residual) → move r a x ≡ z → ExchangeParts (part r ps) a b x y
    go (to s) e = record {
      one = part s ps;
      other = part r later.0;
      one_moves = first_goes r ps a x e;
      other_moves = just-later r ps b y (outside r h) ∙ ap (inside (part r) finished) later.1;
      other_acts = Memᴰ.append_right (acting s) j;
      one_acts = Memᴰ.append_left (acting_parts later.0) i;
      same = just-later s ps b y (outside s (kept-to h a x e)) ∙ ap (inside (part s) finished) later.1 ∙ sym (first_goes r later.0 a x e);
    }
    go finished e = record {
      one = finished-part ps;
      other = part r later.0;
      one_moves = first-finishes r ps a x e;
      other_moves = just-later r ps b y (outside r h) ∙ ap (inside (part r) finished) later.1;
      other_acts = j;
      one_acts = Memᴰ.append_left (acting_parts later.0) i;
      same = ap (inside finished-part finished) later.1 ∙ sym (first-finishes r later.0 a x e);
    }
    go halted e = absurd (ha (first-halts r ps a x e))
    go idle e = absurd (never-idle r a x i e)

-- one node is not two
single : {m n : ℕ} → Mem n (m ∷ []) → m ≡ n
single k = sym (Memᴰ.eq_of_singleton k)

same-node : (a b : ℕ) (ne : a ≡ b → ⊥) {m : ℕ} {C : Type 0} → Mem a (m ∷ []) → Mem b (m ∷ []) → C
same-node a b ne i j = absurd (ne (sym (single i) ∙ single j))

module _ (a b : ℕ) (x y : Bool) (ne : a ≡ b → ⊥) where
  exchange-inside : {r : Residual} (f : Residual → Residual) (z : Next Residual) → ((q : Residual) (n : ℕ) (c : Bool) → move (f q) n c ≡ inside f z (move q n c)) →
      ((q : Residual) → acting (f q) ≡ acting q) → Exchange r a b x y → Exchange (f r) a b x y
  unfolding inside
  exchange-inside {r} f z m k e = record {
    one = f e.one;
    other = f e.other;
    one_moves = m r a x ∙ ap (inside f z) e.one_moves;
    other_moves = m r b y ∙ ap (inside f z) e.other_moves;
    other_acts = rw (k e.one) e.other_acts;
    one_acts = rw (k e.other) e.one_acts;
    same = m e.one b y ∙ ap (inside f z) e.same ∙ sym (m e.other a x);
  }

  exchange-parallel : {ps : Parts} → ExchangeParts ps a b x y → Exchange (in-par ps) a b x y
  unfolding move acting joined
  exchange-parallel e = record {
    one = in-par e.one;
    other = in-par e.other;
    one_moves = ap joined e.one_moves ∙ joined-on e.one (acts-unfinished e.one e.other_acts);
    other_moves = ap joined e.other_moves ∙ joined-on e.other (acts-unfinished e.other e.one_acts);
    other_acts = e.other_acts;
    one_acts = e.one_acts;
    same = ap joined e.same;
  }

  exchange-finished : {ps : Parts} → ExchangeParts ps a b x y → ExchangeParts (finished-part ps) a b x y
  unfolding move acting inside
  exchange-finished e = record {
    one = finished-part e.one;
    other = finished-part e.other;
    one_moves = ap (inside finished-part finished) e.one_moves;
    other_moves = ap (inside finished-part finished) e.other_moves;
    other_acts = e.other_acts;
    one_acts = e.one_acts;
    same = ap (inside finished-part finished) e.same;
  }

  exchange-later : {r : Residual} {ps : Parts} → (Mem a (acting r) → ⊥) → (Mem b (acting r) → ⊥) → ExchangeParts ps a b x y → ExchangeParts (part r ps) a b x y
  unfolding acting inside
  exchange-later {r} {ps} f g e = record {
    one = part r e.one;
    other = part r e.other;
    one_moves = just-later r ps a x f ∙ ap (inside (part r) finished) e.one_moves;
    other_moves = just-later r ps b y g ∙ ap (inside (part r) finished) e.other_moves;
    other_acts = Memᴰ.append_right (acting r) e.other_acts;
    one_acts = Memᴰ.append_right (acting r) e.one_acts;
    same = just-later r e.one b y g ∙ ap (inside (part r) finished) e.same ∙ sym (just-later r e.other a x f);
  }

  exchange-first : {r : Residual} {ps : Parts} → (Mem a (acting_parts ps) → ⊥) → (Mem b (acting_parts ps) → ⊥) → Exchange r a b x y → ExchangeParts (part r ps) a b x y
  unfolding acting
  exchange-first {r} {ps} f g e = record {
    one = part e.one ps;
    other = part e.other ps;
    one_moves = first_goes r ps a x e.one_moves;
    other_moves = first_goes r ps b y e.other_moves;
    other_acts = Memᴰ.append_left (acting_parts ps) e.other_acts;
    one_acts = Memᴰ.append_left (acting_parts ps) e.one_acts;
    same = just-first e.one ps b y g ∙ ap (inside (λ s. part s ps) (to (finished-part ps))) e.same ∙ sym (just-first e.other ps a x f);
  }

  mutual
    unfolding move acting acting_at inside joined

    -- two nodes that act, neither of which halts
    pub exchange : {t : Tree} {r : Residual} {lo hi : ℕ} → Of t r → Spans t lo hi → Mem a (acting r) → Mem b (acting r) →
        (move r a x ≡ halted → ⊥) → (move r b y ≡ halted → ⊥) → Exchange r a b x y
    exchange of-leaf sp i j ha hb = same-node a b ne i j
    exchange of-halt sp i j ha hb = same-node a b ne i j
    exchange of-loop sp i j ha hb = same-node a b ne i j
    exchange (of-body {n = n} {t = t} h) (sp-loop p q) i j ha hb =
        exchange-inside (in-loop n t) (to (at-node (loop n t))) (λ q m c. refl) (λ q. refl) (exchange h q i j (λ e. ha (ap (inside _ _) e)) (λ e. hb (ap (inside _ _) e)))
    exchange of-branch sp i j ha hb = same-node a b ne i j
    exchange (of_first h) (sp-branch p q s) i j ha hb =
        exchange-inside in-branch finished (λ q m c. refl) (λ q. refl) (exchange h q i j (λ e. ha (ap (inside _ _) e)) (λ e. hb (ap (inside _ _) e)))
    exchange (of_second h) (sp-branch p q s) i j ha hb =
        exchange-inside in-branch finished (λ q m c. refl) (λ q. refl) (exchange h s i j (λ e. ha (ap (inside _ _) e)) (λ e. hb (ap (inside _ _) e)))
    exchange (of-seq h) (sp-seq q) i j ha hb = exchange-seq h q i j ha hb
    exchange (of-par h z) (sp-par q) i j ha hb = exchange-parallel (exchange-parts h q i j (λ e. ha (ap joined e)) (λ e. hb (ap joined e)))

    exchange-seq : {ts : Forest} {r : Residual} {lo hi : ℕ} → OfSeq ts r → SpansF ts lo hi → Mem a (acting r) → Mem b (acting r) →
        (move r a x ≡ halted → ⊥) → (move r b y ≡ halted → ⊥) → Exchange r a b x y
    exchange-seq (of-here {ts = ts} h) (sp-cons p q) i j ha hb =
        exchange-inside (λ s. in-seq s ts) (next_child ts) (λ q m c. refl) (λ q. refl) (exchange h p i j (λ e. ha (ap (inside _ _) e)) (λ e. hb (ap (inside _ _) e)))
    exchange-seq (of-later h) (sp-cons p q) i j ha hb = exchange-seq h q i j ha hb

    exchange-parts : {ts : Forest} {ps : Parts} {lo hi : ℕ} → OfParts ts ps → SpansF ts lo hi → Mem a (acting_parts ps) → Mem b (acting_parts ps) →
        (move_parts ps a x ≡ halted → ⊥) → (move_parts ps b y ≡ halted → ⊥) → ExchangeParts ps a b x y
    exchange-parts of_none sp i j ha hb = absurd (Memᴰ.not-nil i)
    exchange-parts (of-finished h) (sp-cons p q) i j ha hb = exchange-finished (exchange-parts h q i j (λ e. ha (ap (inside _ _) e)) (λ e. hb (ap (inside _ _) e)))
    exchange-parts (of_part {t = t} {ts = ts} {r = r} {ps = ps} h g) (sp-cons {a = lo} {m = mid} {b = hi} p q) i j ha hb =
        go (Memᴰ.append_cases (acting r) i) (Memᴰ.append_cases (acting r) j) (λ i j ha hb. exchange h p i j ha hb) (λ i j ha hb. exchange-parts g q i j ha hb)
      where
        not-both : (n : ℕ) → Mem n (acting r) → Mem n (acting_parts ps) → ⊥
        not-both n k l = range-apart {lo = lo} (all-mem (between h p) k) (all-mem (between-parts g q) l)

        go : Mem a (acting r) ⊎ Mem a (acting_parts ps) → Mem b (acting r) ⊎ Mem b (acting_parts ps) →
            (Mem a (acting r) → Mem b (acting r) → (move r a x ≡ halted → ⊥) → (move r b y ≡ halted → ⊥) → Exchange r a b x y) →
            (Mem a (acting_parts ps) → Mem b (acting_parts ps) → (move_parts ps a x ≡ halted → ⊥) → (move_parts ps b y ≡ halted → ⊥) → ExchangeParts ps a b x y) →
            ExchangeParts (part r ps) a b x y
        go (inl i) (inl j) first later =
            exchange-first (not-both a i) (not-both b j) (first i j (λ e. ha (first-halts r ps a x e)) (λ e. hb (first-halts r ps b y e)))
        go (inl i) (inr j) first later = split-exchange h g p q i j ha hb
        go (inr i) (inl j) first later = swapped-parts (split-exchange h g p q j i hb ha)
        go (inr i) (inr j) first later =
            let u : Mem a (acting r) → ⊥ = λ m. not-both a m i in
            let v : Mem b (acting r) → ⊥ = λ m. not-both b m j in
            exchange-later u v (later i j (λ e. ha (just-later r ps a x u ∙ ap (inside (part r) finished) e)) (λ e. hb (just-later r ps b y v ∙ ap (inside (part r) finished) e)))
