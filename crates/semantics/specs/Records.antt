-- Document 01, "Run by the rules" and "Schedule file": what is written into a lent buffer, and the record of an event, told by its bytes.
-- No definition that writes stands here: `overwrite` and `record_of` are proved to be just this.
use Rattle.std.specs.Prelude.{◌≡◌, true, ◌↔◌, ℕ, ◌+◌, ◌-◌, ◌*◌, ◌/◌, ◌%◌, ◌^◌, ◌≤◌, ◌<◌, length, take, drop, get_or, ℤ, pos, negsuc}
use mathlib.Core.List.{List, [], ◌∷◌, ◌++◌, Memᴰ as Mem}
use Rattle.std.proofs.Math.Option.{Option, some}
use Rattle.std.specs.Int.Signed.{le_z}
use Rattle.semantics.specs.Bytes.{All}
use Rattle.semantics.specs.Editions.{Edition}
use Rattle.semantics.specs.Run.{Control, Answered}

-- "bytes beyond the written length unaltered": a buffer before and after these bytes were written at its front
pub record AtFront (bytes before after : List ℕ) : Type 0 where
  pub room : length bytes ≤ length before
  pub front : take (length bytes) after ≡ bytes
  pub rest : drop (length bytes) after ≡ drop (length bytes) before
  pub as_long : length after ≡ length before

-- a value of 32 bits
abbrev pub Fits32 : ℤ → Type 0
Fits32 z = (le_z (negsuc 2147483647) z ≡ true) × (le_z z (pos 2147483647) ≡ true)

-- "signed values are 32-bit two's complement", "Big-endian": the four bytes of a value
pub data FourBytes : ℤ → List ℕ → Type 0 where
  from_0 : {n a b c d : ℕ} → n < 2147483648 → a < 256 → b < 256 → c < 256 → d < 256 →
      a * 16777216 + b * 65536 + c * 256 + d ≡ n → FourBytes (pos n) (a ∷ b ∷ c ∷ d ∷ [])
  below_0 : {n a b c d : ℕ} → n < 2147483648 → a < 256 → b < 256 → c < 256 → d < 256 →
      a * 16777216 + b * 65536 + c * 256 + d + (n + 1) ≡ 4294967296 → FourBytes (negsuc n) (a ∷ b ∷ c ∷ d ∷ [])

-- "values (4 bytes each)", in order
pub data ValuesIn : List ℤ → List ℕ → Type 0 where
  no_value : ValuesIn [] []
  one_value : {z : ℤ} {zs : List ℤ} {s t : List ℕ} → FourBytes z s → ValuesIn zs t → ValuesIn (z ∷ zs) (s ++ t)

-- "bit n for node n": node n is in the set of acting nodes of this record; nodes 0 to 7 in the set's last byte, 8 to 15 in the one before it, and so on
abbrev pub InSet : Edition → List ℕ → ℕ → Type 0
InSet ed r n = get_or (drop 1 r) (ed.set_bytes - 1 - n / 8) 0 / 2 ^ (n % 8) % 2 ≡ 1

-- a node that acts: none "once the run is over"
pub data ActsAt {S : Type 0} (c : Control S) : Option S → ℕ → Type 0 where
  acts_at : {x : S} {n : ℕ} → Mem n (c.acting x) → ActsAt c (some x) n

-- "The record of an event: answer byte, set of acting nodes (8 bytes, bit n for node n, 0 once the run is over), values (4 bytes each), modes (1 byte each)."
pub record RecordIs {S : Type 0} (ed : Edition) (c : Control S) (o : Answered S) (bytes : List ℕ) : Type 0 where
  pub set : List ℕ
  pub values : List ℕ
  pub layout : bytes ≡ o.answer ∷ set ++ (values ++ o.left.modes)
  pub set_long : length set ≡ ed.set_bytes
  pub set_bytes : All (λ b. b < 256) set
  pub set_bits : (n : ℕ) → n < 8 * ed.set_bytes → InSet ed bytes n ↔ ActsAt c o.left.place n
  pub values_in : ValuesIn o.left.values values

-- the records of a list of answers, one after the other
pub data RecordsIn {S : Type 0} (ed : Edition) (c : Control S) : List (Answered S) → List ℕ → Type 0 where
  no_record : RecordsIn ed c [] []
  one_record : {o : Answered S} {l : List (Answered S)} {s t : List ℕ} → RecordIs ed c o s → RecordsIn ed c l t → RecordsIn ed c (o ∷ l) (s ++ t)

-- record k of a buffer, where each has so many bytes
unfoldable pub record_at : ℕ → ℕ → List ℕ → List ℕ
record_at size k bytes = take size (drop (k * size) bytes)
