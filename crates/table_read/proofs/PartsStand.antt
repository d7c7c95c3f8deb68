-- The four sections of a table, and where they stand.
use mathlib.Core.Path.{◌≡◌, refl, sym, ap, subst, ◌∙◌}
use mathlib.Core.Bool.{Bool, true, false}
use mathlib.Core.List.{List}
use mathlib.Core.Option.{Option, none, some}
use Prim.Native.Nat.{ℕ, ◌+◌, ◌-◌, ◌≤◌, ◌<◌}
use native.Mathlib.Omega.{arith}
use borrow.Author.Tests.{leb-true, le-leb, lt-leb, eq-eqb, ne_eqb}
use lib.Dec.{leb, eqb}
use lib.ListN.{length, get_or, drop, length-drop}
use lib.Seq.{drop-drop}
use Rattle.semantics.specs.Bytes.{broken, read, and_then, ◌>>=◌, give, section2, section4, just, whole}
use Rattle.semantics.specs.Editions.{Edition}
use Rattle.semantics.specs.Refusals.{Judged, refused, accepted, ensure, need, ◌>>◌}
use Rattle.semantics.specs.TableFile.{TableSections, read_table_sections, table_sections_in}
use Rattle.semantics.specs.Tables.{table_header, judge_table_layout}
use Rattle.semantics.proofs.Facts.{and_left}
use Rattle.semantics.proofs.Judging.{refused-not-accepted, accepted-is}
use Rattle.semantics.proofs.Readers.{split, given, whole-read}
use Rattle.paper.specs.Refusals.{answered}
use Rattle.codec.specs.Part.{Inside, part_of}
use Rattle.codec.specs.declared.part.Part.{Part}
use Rattle.codec.proofs.Reading.{drop_past, drop-some, nat4_at}
use Rattle.codec.proofs.Sections.{Cut, cuts2, cuts4, Section}
use Rattle.table_read.specs.declared.parts.Parts.{Parts}
use Rattle.table_read.specs.TableParts.{parts_at, parts_in, sections_from, sections_or_none, sections_of}

-- ---- the header
module _ (ed : Edition) (t : List ℕ) where
  pub header-short : length t < 5 → false ≡ table_header ed t
  unfolding table_header
  header-short h = rw (lt-leb 5 (length t) h) refl

  -- v is the version that code holds
  pub header-version : {v : ℕ} → v ≡ ed.version → 5 ≤ length t → (get_or t 0 0 ≡ v → ⊥) → false ≡ table_header ed t
  unfolding table_header
  header-version v h n = rw (le-leb 5 (length t) h, ne_eqb (get_or t 0 0) ed.version (λ e. n (e ∙ sym v))) refl

  pub header-length : {v n : ℕ} → v ≡ ed.version → 5 ≤ length t → get_or t 0 0 ≡ v → n ≡ nat4_at t 1 → eqb n (length t) ≡ table_header ed t
  unfolding table_header
  header-length v h i e = rw (le-leb 5 (length t) h, eq-eqb (get_or t 0 0) ed.version (i ∙ v), e) refl

  pub header-room : table_header ed t ≡ true → 5 ≤ length t
  unfolding table_header
  header-room e = leb-true 5 (length t) (and_left (leb 5 (length t)) _ e)

  -- ---- what the code answers
  abbrev pub Answer : Judged Parts
  Answer = answered parts_in (judge_table_layout ed t)

  pub refused-15 : table_header ed t ≡ false → refused 15 ≡ Answer
  unfolding judge_table_layout ensure ◌>>◌
  refused-15 h = rw h refl

  pub after-header : table_header ed t ≡ true → answered parts_in (need 16 (table_sections_in (drop 5 t))) ≡ Answer
  unfolding judge_table_layout ensure ◌>>◌
  after-header h = rw h refl

broken-sections : (l : List ℕ) → read_table_sections l ≡ broken → refused 16 ≡ answered parts_in (need 16 (table_sections_in l))
unfolding table_sections_in whole just need
broken-sections l e = rw e refl

module _ (t : List ℕ) where
  abbrev pub Found : Judged Parts
  Found = answered parts_in (need 16 (table_sections_in (drop 5 t)))

  pub no-variables : section2 (drop 5 t) ≡ broken → refused 16 ≡ Found
  unfolding read_table_sections ◌>>=◌ and_then
  no-variables k = broken-sections _ (rw k refl)

  module _ {v : ℕ} (vs : Section 2 section2 t 5 v) where
    pub no-equations : section2 (drop v t) ≡ broken → refused 16 ≡ Found
    unfolding read_table_sections ◌>>=◌ and_then
    no-equations k = broken-sections _ (rw (vs.got, k) refl)

    module _ {e : ℕ} (es : Section 2 section2 t v e) where
      pub no-actions : section2 (drop e t) ≡ broken → refused 16 ≡ Found
      unfolding read_table_sections ◌>>=◌ and_then
      no-actions k = broken-sections _ (rw (vs.got, es.got, k) refl)

      module _ {a : ℕ} (acts : Section 2 section2 t e a) where
        pub no-locations : section4 (drop a t) ≡ broken → refused 16 ≡ Found
        unfolding read_table_sections ◌>>=◌ and_then
        no-locations k = broken-sections _ (rw (vs.got, es.got, acts.got, k) refl)

        module _ {l : ℕ} (ls : Section 4 section4 t a l) where
          sections : TableSections
          sections = sections_from vs.value es.value acts.value ls.value

          all_read : read_table_sections (drop 5 t) ≡ read sections (drop l t)
          unfolding read_table_sections ◌>>=◌ and_then give sections
          all_read = rw (vs.got, es.got, acts.got, ls.got) refl

          pub left_over : l < length t → refused 16 ≡ Found
          unfolding table_sections_in whole just need
          left_over h = rw (all_read, drop-some l t h) refl

          filled : length t ≤ l → table_sections_in (drop 5 t) ≡ some sections
          unfolding table_sections_in whole just
          filled h = rw (all_read, drop_past l t h) refl

          pub parts-found : length t ≤ l → accepted (parts_at v e a l) ≡ Found
          unfolding parts_in sections need
          parts-found i = rw (filled i) (ap (λ p. accepted p) (same _ _ _ _ vs.is es.is acts.is ls.is))
            where
              same : {v e a l : ℕ} (w x y z : ℕ) → v ≡ 5 + 2 + w → e ≡ v + 2 + x → a ≡ e + 2 + y → l ≡ a + 4 + z → parts_at v e a l ≡ parts_at (7 + w) (7 + w + 2 + x) (7 + w + 2 + x + 2 + y) (7 + w + 2 + x + 2 + y + 4 + z)
              same w x y z h i j k = cc

-- ---- where the sections stand
pub record Stands (t : List ℕ) (p : Part) (x : List ℕ) : Type 0 where
  pub inside : Inside p t
  pub is : part_of p t ≡ x

cut_stands : (w p : ℕ) (t : List ℕ) {x m : List ℕ} → p ≤ length t → Cut w (drop p t) x m → Stands t (record { start = p + w; end = p + w + length x }) x
cut_stands w p t {x} h k =
    let few = k.few in
    let n : p + w + length x - (p + w) ≡ length x = omega arith in
    record {
      inside = record { ordered = omega arith; ends = omega (arith, length-drop p t) };
      is = rw (n, ← drop-drop w p t) k.value;
    }

cut_next : (w p : ℕ) (t : List ℕ) {x m : List ℕ} → Cut w (drop p t) x m → m ≡ drop (p + w + length x) t
cut_next w p t {x} k =
    let n : p + (w + length x) ≡ p + w + length x = omega arith in
    k.rest ∙ drop-drop (w + length x) p t ∙ ap (λ q. drop q t) n

pub record AllStand (t : List ℕ) (p : Parts) (s : TableSections) : Type 0 where
  pub variables : Stands t p.variables s.variables
  pub equations : Stands t p.equations s.equations
  pub actions : Stands t p.actions s.actions
  pub locations : Stands t p.locations s.locations

chain : (t x y z w : List ℕ) {m n o u : List ℕ} → 5 ≤ length t → section2 (drop 5 t) ≡ read x m → section2 m ≡ read y n → section2 n ≡ read z o → section4 o ≡ read w u → AllStand t (parts_in (record { variables = x; equations = y; actions = z; locations = w })) (record { variables = x; equations = y; actions = z; locations = w })
unfolding parts_in
chain t x y z w h a b c d =
    let i = cuts2.cut (drop 5 t) a in
    let vs = cut_stands 2 5 t h i in
    let v = 7 + length x in
    let j = cuts2.cut (drop v t) (ap section2 (sym (cut_next 2 5 t i)) ∙ b) in
    let es = cut_stands 2 v t vs.inside.ends j in
    let e = v + 2 + length y in
    let k = cuts2.cut (drop e t) (ap section2 (sym (cut_next 2 v t j)) ∙ c) in
    let acts = cut_stands 2 e t es.inside.ends k in
    let l = cuts4.cut (drop (e + 2 + length z) t) (ap section4 (sym (cut_next 2 e t k)) ∙ d) in
    record { variables = vs; equations = es; actions = acts; locations = cut_stands 4 (e + 2 + length z) t acts.inside.ends l }

pub sections-stand : (t : List ℕ) {s : TableSections} → 5 ≤ length t → table_sections_in (drop 5 t) ≡ some s → AllStand t (parts_in s) s
unfolding table_sections_in read_table_sections
sections-stand t {s} h e =
    let a = split section2 _ (whole-read read_table_sections (drop 5 t) e) in
    let b = split section2 _ a.then in
    let c = split section2 _ b.then in
    let d = split section4 _ c.then in
    subst (λ s. AllStand t (parts_in s) s) (given _ d.rest d.then) (chain t a.value b.value c.value d.value h a.first b.first c.first d.first)

-- ---- a table whose layout is accepted
pub laid_out : (ed : Edition) (t : List ℕ) {s : TableSections} → judge_table_layout ed t ≡ accepted s → (table_header ed t ≡ true) × (sections_of t ≡ s) × AllStand t (parts_in s) s
unfolding judge_table_layout ensure need ◌>>◌ sections_of sections_or_none
laid_out ed t {s} h = header (table_header ed t) refl h
  where
    sections-in : (o : Option TableSections) → table_header ed t ≡ true → table_sections_in (drop 5 t) ≡ o → need 16 o ≡ accepted s → (table_header ed t ≡ true) × (sections_of t ≡ s) × AllStand t (parts_in s) s
    sections-in none e k i = refused-not-accepted i
    sections-in (some r) e k i =
        let m : r ≡ s = accepted-is i in
        (e, ap sections_or_none k ∙ m, sections-stand t (header-room ed t e) (k ∙ ap some m))

    header : (b : Bool) → table_header ed t ≡ b → (ensure 15 b >> need 16 (table_sections_in (drop 5 t))) ≡ accepted s → (table_header ed t ≡ true) × (sections_of t ≡ s) × AllStand t (parts_in s) s
    header true e k = sections-in (table_sections_in (drop 5 t)) e refl k
    header false e k = refused-not-accepted k
