-- The three sections of a schedule file, and where they stand.
use mathlib.Core.Path.{◌≡◌, refl, sym, ap, subst, ◌∙◌}
use mathlib.Core.Bool.{Bool, true, false}
use mathlib.Core.List.{List}
use mathlib.Core.Option as Math
use mathlib.Core.Option.{none, some}
use Rattle.std.proofs.Common.{Option, Some, None}
use Rattle.std.specs.Prelude.{option_map, ok_or}
use Prim.Native.Nat.{ℕ, ◌+◌, ◌-◌, ◌≤◌, ◌<◌}
use native.Mathlib.Omega.{arith}
use borrow.Author.Tests.{leb-true, le-leb, lt-leb}
use lib.Dec.{leb, eqb}
use lib.ListN.{length, get_or, take, drop}
use Rattle.semantics.specs.Bytes.{broken, read, and_then, ◌>>=◌, give, section2, just, whole}
use Rattle.semantics.specs.Editions.{Edition}
use Rattle.semantics.specs.Refusals.{refused, accepted, ensure, need, ◌>>◌}
use Rattle.semantics.proofs.Facts.{and_left}
use Rattle.semantics.proofs.Judging.{refused-not-accepted, accepted-is, refused-is, passed-ensure}
use Rattle.semantics.proofs.Readers.{read-value, read-rest, split, given, whole-read}
use Rattle.schedules.specs.FileSections.{FileSections, read_file_sections, file_sections_in}
use Rattle.schedules.specs.Files.{file_header, file_length, judge_file_layout}
use Rattle.codec.proofs.Reading.{drop_past, drop-some, nat2_at}
use Rattle.codec.proofs.Sections.{Section, cuts2, section-of, ended, not-ended}
use Rattle.codec.specs.Ends.{end_of}
use Rattle.codec.specs.Part.{Inside}
use Rattle.codec.specs.declared.part.Part.{Part}
use Rattle.paper.specs.Refusals.{answered, judged_of}
use Rattle.paper.specs.declared.refusals.Refusal.TheVariants as Refusals
use Rattle.paper.proofs.Answered.{was-accepted, refuses-with, accepts-with}
use Rattle.schedule_read.specs.declared.parts.Parts.{Parts}
use Rattle.schedule_read.specs.FileParts.{parts_at, parts_in, sections_at}
use Rattle.schedule_read.specs.Sections.{section_at, SectionsRead}

-- ---- 1 and 2
-- both hold
pub record Opened (ed : Edition) (f : List ℕ) : Type 0 where
  pub header : file_header ed f ≡ true
  pub length_field : file_length f ≡ true

pub length-read : (f : List ℕ) {n : ℕ} → n ≡ nat2_at f 1 → eqb n (length f) ≡ file_length f
unfolding file_length
length-read f e = rw e refl

module _ (ed : Edition) (f : List ℕ) where
  pub header-short : length f < 3 → false ≡ file_header ed f
  unfolding file_header
  header-short h = rw (lt-leb 3 (length f) h) refl

  -- v is what code holds
  pub header-version : {v : ℕ} → v ≡ ed.version → 3 ≤ length f → eqb (get_or f 0 0) v ≡ file_header ed f
  unfolding file_header
  header-version e h = rw (e, le-leb 3 (length f) h) refl

  pub header-room : file_header ed f ≡ true → 3 ≤ length f
  unfolding file_header
  header-room e = leb-true 3 (length f) (and_left (leb 3 (length f)) _ e)

  pub opened : {h l : Bool} → h ≡ file_header ed f → h ≡ true → l ≡ file_length f → l ≡ true → Opened ed f
  opened e i k j = record { header = sym e ∙ i; length_field = sym k ∙ j }

  pub room : Opened ed f → 3 ≤ length f
  room o = header-room o.header

  -- ---- what is judged
  pub refused-1 : file_header ed f ≡ false → judge_file_layout ed f ≡ refused 1
  unfolding judge_file_layout ensure ◌>>◌
  refused-1 h = rw h refl

  pub refused-2 : file_header ed f ≡ true → file_length f ≡ false → judge_file_layout ed f ≡ refused 2
  unfolding judge_file_layout ensure ◌>>◌
  refused-2 h k = rw (h, k) refl

  pub refused-3 : Opened ed f → file_sections_in (drop 3 f) ≡ none → judge_file_layout ed f ≡ refused 3
  unfolding judge_file_layout ensure need ◌>>◌
  refused-3 o e = rw (o.header, o.length_field, e) refl

  pub laid_out : {s : FileSections} → Opened ed f → file_sections_in (drop 3 f) ≡ some s → judge_file_layout ed f ≡ accepted s
  unfolding judge_file_layout ensure need ◌>>◌
  laid_out o e = rw (o.header, o.length_field, e) refl

-- ---- 3
-- a part that the reader gives
pub no-part : (f : List ℕ) (p : ℕ) → None ≡ section_at f p → None ≡ end_of section2 f p
no-part f p = go (end_of section2 f p)
  where
    go : (o : Option ℕ) → None ≡ option_map (λ (q : ℕ). let part : Part = record { start = p + 2; end = q } in part) o → None ≡ o
    go None e = refl
    go (Some q) e = absurd (cc)

pub record Read (f : List ℕ) (p : ℕ) (x : Part) : Type 0 where
  pub start : x.start ≡ p + 2
  pub end : Some x.end ≡ end_of section2 f p

pub part-read : (f : List ℕ) (p : ℕ) {x : Part} → Some x ≡ section_at f p → Read f p x
part-read f p {x} = go (end_of section2 f p) refl
  where
    part : ℕ → Part
    part q = record { start = p + 2; end = q }

    go : (o : Option ℕ) → end_of section2 f p ≡ o → Some x ≡ option_map (λ (q : ℕ). let part : Part = record { start = p + 2; end = q } in part) o → Read f p x
    go None i e = absurd (cc)
    go (Some q) i e = let k : ◌≡◌ {A = Part} x (record { start = p + 2; end = q }) = cc in record { start = ap (λ (x : Part). x.start) k; end = ap (λ (x : Part). Some x.end) k ∙ sym i }

broken-sections : (l : List ℕ) → read_file_sections l ≡ broken → file_sections_in l ≡ none
unfolding file_sections_in whole just
broken-sections l e = rw e refl

module _ (f : List ℕ) where
  pub no-variables : section2 (drop 3 f) ≡ broken → file_sections_in (drop 3 f) ≡ none
  unfolding read_file_sections ◌>>=◌ and_then
  no-variables k = broken-sections _ (rw k refl)

  module _ {v : ℕ} (vs : Section 2 section2 f 3 v) where
    pub no-equations : section2 (drop v f) ≡ broken → file_sections_in (drop 3 f) ≡ none
    unfolding read_file_sections ◌>>=◌ and_then
    no-equations k = broken-sections _ (rw (vs.got, k) refl)

    module _ {e : ℕ} (es : Section 2 section2 f v e) where
      pub no-schedule : section2 (drop e f) ≡ broken → file_sections_in (drop 3 f) ≡ none
      unfolding read_file_sections ◌>>=◌ and_then
      no-schedule k = broken-sections _ (rw (vs.got, es.got, k) refl)

      module _ {s : ℕ} (ns : Section 2 section2 f e s) where
        sections : FileSections
        sections = record { variables = vs.value; equations = es.value; schedule = ns.value }

        all_read : read_file_sections (drop 3 f) ≡ read sections (drop s f)
        unfolding read_file_sections ◌>>=◌ and_then give sections
        all_read = rw (vs.got, es.got, ns.got) refl

        pub left_over : s < length f → file_sections_in (drop 3 f) ≡ none
        unfolding file_sections_in whole just
        left_over h = rw (all_read, drop-some s f h) refl

        pub filled : length f ≤ s → (t : FileSections) × (file_sections_in (drop 3 f) ≡ some t) × (parts_at v e s ≡ parts_in t)
        unfolding file_sections_in whole just parts_in sections
        filled h = (sections, rw (all_read, drop_past s f h) refl, same _ _ _ vs.is es.is ns.is)
          where
            same : {v e s : ℕ} (x y z : ℕ) → v ≡ 5 + x → e ≡ v + 2 + y → s ≡ e + 2 + z → parts_at v e s ≡ parts_at (5 + x) (5 + x + 2 + y) (5 + x + 2 + y + 2 + z)
            same x y z h i j = cc

pub sections-judged : (ed : Edition) (f : List ℕ) → Opened ed f → (o : Option Parts) → SectionsRead f o → judged_of (ok_or o Refusals.FileSections) ≡ answered parts_in (judge_file_layout ed f)
sections-judged ed f k None e = refuses-with parts_in (refused-3 ed f k e)
sections-judged ed f k (Some p) e = accepts-with parts_in (laid_out ed f k e.1) e.2

-- ---- as the reader finds them
pub there : {r : Option Part} {f g : List ℕ} {p q : ℕ} → g ≡ f → q ≡ p → r ≡ section_at g q → r ≡ section_at f p
there {r} {f} {g} {p} a b e = subst (λ l. r ≡ section_at l p) a (subst (λ n. r ≡ section_at g n) b e)

part-is : (x : Part) {n : ℕ} → x.start ≡ n → x ≡ record { start = n; end = x.end }
part-is x e = ap (λ (n : ℕ). let p : Part = record { start = n; end = x.end } in p) e

stands-at : (f : List ℕ) (p : ℕ) {x : Part} → p ≤ length f → Some x ≡ section_at f p → Section 2 section2 f p x.end
stands-at f p h e = ended cuts2 f p h (part-read f p e).end

missing-at : (f : List ℕ) (p : ℕ) → p ≤ length f → None ≡ section_at f p → section2 (drop p f) ≡ broken
missing-at f p h e = not-ended cuts2 f p h (no-part f p e)

module _ (f : List ℕ) (h : 3 ≤ length f) where
  pub variables-missing : None ≡ section_at f 3 → file_sections_in (drop 3 f) ≡ none
  variables-missing e = no-variables f (missing-at f 3 h e)

  module _ {x : Part} (a : Some x ≡ section_at f 3) where
    vs : Section 2 section2 f 3 x.end
    vs = stands-at f 3 h a

    pub variables-inside : x.end ≤ length f
    variables-inside = vs.inside

    pub equations-missing : None ≡ section_at f x.end → file_sections_in (drop 3 f) ≡ none
    equations-missing e = no-equations f vs (missing-at f x.end vs.inside e)

    module _ {y : Part} (b : Some y ≡ section_at f x.end) where
      es : Section 2 section2 f x.end y.end
      es = stands-at f x.end vs.inside b

      pub equations-inside : y.end ≤ length f
      equations-inside = es.inside

      pub schedule-missing : None ≡ section_at f y.end → file_sections_in (drop 3 f) ≡ none
      schedule-missing e = no-schedule f vs es (missing-at f y.end es.inside e)

      module _ {z : Part} (d : Some z ≡ section_at f y.end) where
        ns : Section 2 section2 f y.end z.end
        ns = stands-at f y.end es.inside d

        pub bytes-over : z.end < length f → file_sections_in (drop 3 f) ≡ none
        bytes-over k = left_over f vs es ns k

        pub all-found : length f ≤ z.end → (t : FileSections) × (file_sections_in (drop 3 f) ≡ some t) × (◌≡◌ {A = Parts} (record { variables = x; equations = y; schedule = z }) (parts_in t))
        all-found k =
            let t = filled f vs es ns k in
            let i = (part-read f 3 a).start in
            let j = (part-read f x.end b).start in
            let l = (part-read f y.end d).start in
            (t.0, t.1, same i j l ∙ t.2)
          where
            same : x.start ≡ 5 → y.start ≡ x.end + 2 → z.start ≡ y.end + 2 → ◌≡◌ {A = Parts} (record { variables = x; equations = y; schedule = z }) (parts_at x.end y.end z.end)
            same i j l = let p = part-is x i in let q = part-is y j in let r = part-is z l in cc

-- where nothing is refused, the three parts are the sections
pub record Accepted (ed : Edition) (f : List ℕ) (p : Parts) : Type 0 where
  pub are : judge_file_layout ed f ≡ accepted (sections_at f p)
  pub is : p ≡ parts_in (sections_at f p)
  pub variables : Inside p.variables f
  pub equations : Inside p.equations f
  pub schedule : Inside p.schedule f

spans : {f : List ℕ} {p q : ℕ} → Section 2 section2 f p q → Inside (record { start = p + 2; end = q }) f
spans s = let e = s.is in record { ordered = omega arith; ends = s.inside }

-- the value and the rest of a section that was read
stood : {f x m : List ℕ} {p q : ℕ} (s : Section 2 section2 f p q) → section2 (drop p f) ≡ read x m → (x ≡ take (q - (p + 2)) (drop (p + 2) f)) × (m ≡ drop q f)
stood s e =
    let k = sym e ∙ s.got in
    (read-value k ∙ sym s.stands, read-rest k)

abbrev joined : List ℕ → List ℕ → List ℕ → FileSections
joined x y z = record { variables = x; equations = y; schedule = z }

chain : (ed : Edition) (f x y z : List ℕ) {m n u : List ℕ} → Opened ed f → judge_file_layout ed f ≡ accepted (joined x y z) → section2 (drop 3 f) ≡ read x m → section2 m ≡ read y n → section2 n ≡ read z u → Accepted ed f (parts_in (joined x y z))
unfolding parts_in sections_at
chain ed f x y z o w a b c =
    let v = 5 + length x in
    let e = v + 2 + length y in
    let vs = section-of cuts2 f 3 (room ed f o) a in
    let i = stood vs a in
    let b' = ap section2 (sym i.1) ∙ b in
    let es = section-of cuts2 f v vs.inside b' in
    let j = stood es b' in
    let c' = ap section2 (sym j.1) ∙ c in
    let ns = section-of cuts2 f e es.inside c' in
    let t = same i.0 j.0 (stood ns c').0 in
    record {
      are = w ∙ ap accepted t;
      is = ap parts_in t;
      variables = spans vs;
      equations = spans es;
      schedule = spans ns;
    }
  where
    same : {x x' y y' z z' : List ℕ} → x ≡ x' → y ≡ y' → z ≡ z' → joined x y z ≡ joined x' y' z'
    same h i j = cc

sections-stand : (ed : Edition) (f : List ℕ) {s : FileSections} → Opened ed f → file_sections_in (drop 3 f) ≡ some s → Accepted ed f (parts_in s)
unfolding file_sections_in read_file_sections
sections-stand ed f {s} o e =
    let a = split section2 _ (whole-read read_file_sections (drop 3 f) e) in
    let b = split section2 _ a.then in
    let c = split section2 _ b.then in
    let g = given _ c.rest c.then in
    subst (λ s. Accepted ed f (parts_in s)) g (chain ed f a.value b.value c.value o (laid_out ed f o (e ∙ ap some (sym g))) a.first b.first c.first)

needed : {A : Type 0} (n : ℕ) {a : A} (o : Math.Option A) → need n o ≡ accepted a → o ≡ some a
unfolding need
needed n none e = refused-not-accepted e
needed n (some b) e = ap some (accepted-is e)

pub accepted-parts : (ed : Edition) (f : List ℕ) {s : FileSections} → judge_file_layout ed f ≡ accepted s → Accepted ed f (parts_in s)
unfolding judge_file_layout
accepted-parts ed f e =
    let a = passed-ensure 1 _ _ e in
    let b = passed-ensure 2 _ _ a.1 in
    sections-stand ed f (record { header = a.0; length_field = b.0 }) (needed 3 _ b.1)

-- no refusal of the layout is 0
pub layout-number : (ed : Edition) (f : List ℕ) {n : ℕ} → judge_file_layout ed f ≡ refused n → 1 ≤ n
unfolding judge_file_layout ensure need ◌>>◌
layout-number ed f h = go (file_header ed f) (file_length f) (file_sections_in (drop 3 f)) h
  where
    go : (a b : Bool) (o : Math.Option FileSections) {n : ℕ} → (ensure 1 a >> (ensure 2 b >> need 3 o)) ≡ refused n → 1 ≤ n
    go true true (some s) h = refused-not-accepted (sym h)
    go true true none h = let i = refused-is h in omega arith
    go true false o h = let i = refused-is h in omega arith
    go false b o h = let i = refused-is h in omega arith

-- as the code has them
pub parts-stand : (ed : Edition) (f : List ℕ) {p : Parts} → accepted p ≡ answered parts_in (judge_file_layout ed f) → Accepted ed f p
parts-stand ed f h = let a = was-accepted parts_in (judge_file_layout ed f) h in subst (Accepted ed f) (sym a.is) (accepted-parts ed f a.judged)
