-- Document 02, item 1, sentence by sentence: relations between a seed and what it gives. No quotient, no remainder and no test of Practice stands here.
use Rattle.std.specs.Prelude.{◌≡◌, List, [], ◌∷◌, ◌++◌, ℕ, suc, ◌+◌, ◌*◌, ◌<◌, length}
use Rattle.semantics.specs.Editions.{edition1}
use Rattle.semantics.specs.Events.{Event, tick, pick, take_switch}
use Rattle.semantics.specs.Rules.{SaysTick, SaysPick, SaysSwitch}
use Rattle.semantics.specs.Sentences.{Clause, ◌when◌}

-- "Each draw replaces the seed by 1664525 times the seed plus 1013904223, modulo 4294967296."
pub record Replaces (seed next : ℕ) : Type 0 where
  pub times : ℕ
  pub sum : 1664525 * seed + 1013904223 ≡ 4294967296 * times + next
  pub small : next < 4294967296

-- a seed's 32 bits: "top two bits", "the next six bits" as "three bits" and "three bits", and the 24 others, below 2^24 = 16777216
pub record Bits (seed top upper lower : ℕ) : Type 0 where
  pub others : ℕ
  pub is : seed ≡ (64 * top + (8 * upper + lower)) * 16777216 + others
  pub top_two : top < 4
  pub upper_three : upper < 8
  pub lower_three : lower < 8
  pub others_small : others < 16777216

-- "One draw makes one event": the new seed, and bytes that say the event
pub data Makes (seed : ℕ) (e : List ℕ) : Type 0 where
  -- "0 give a tick"
  makes_tick : {a b : ℕ} → Bits seed 0 a b → SaysTick edition1 e → Makes seed e
  -- "1 or 2 a pick"; "The next six bits are the node"
  makes_pick_1 : {a b : ℕ} → Bits seed 1 a b → SaysPick edition1 e (8 * a + b) → Makes seed e
  makes_pick_2 : {a b : ℕ} → Bits seed 2 a b → SaysPick edition1 e (8 * a + b) → Makes seed e
  -- "3 a switch"; "or three bits selector and three bits switch"
  makes_switch : {a b : ℕ} → Bits seed 3 a b → SaysSwitch edition1 e a b → Makes seed e

-- the bytes of so many events from a seed, one after the other; "An event is 3 bytes"
pub data Drawn : ℕ → ℕ → List ℕ → Type 0 where
  none_drawn : {seed : ℕ} → Drawn seed 0 []
  one_drawn : {seed next n : ℕ} {e l : List ℕ} → Replaces seed next → Makes next e → length e ≡ 3 → Drawn next n l → Drawn seed (suc n) (e ++ l)

-- the limits of a practice event: a node below 64, a selector and a switch below 8
pub data PracticeLimits : Event → Type 0 where
  tick_limits : PracticeLimits tick
  pick_limits : {n : ℕ} → n < 64 → PracticeLimits (pick n)
  switch_limits : {s k : ℕ} → s < 8 → k < 8 → PracticeLimits (take_switch s k)

-- "It refuses with 32 a count above 10,000, and then with 33 a buffer under 3 times the count."
abbrev pub practice_clauses : ℕ → List ℕ → List Clause
practice_clauses count buffer = (32 when 10000 < count) ∷ (33 when length buffer < 3 * count) ∷ []
