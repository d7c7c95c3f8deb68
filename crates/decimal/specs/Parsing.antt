-- What `read` answers.
use Rattle.std.specs.Prelude.{cond, ℕ, leb, Result, Ok, Err}
use Rattle.std.proofs.Math.Option.{Option, none, some}
use Rattle.decimal.specs.declared.Misread.{Misread}
use Rattle.decimal.specs.declared.Misread.TheVariants.{NotDecimal, TooLarge}

-- no number: `NotDecimal`; a number up to `most`: itself; a larger one: `TooLarge`
unfoldable pub parsed_of : (most : ℕ) → Option ℕ → Result ℕ Misread
parsed_of most none = Err NotDecimal
parsed_of most (some n) = cond (leb n most) (Ok n) (Err TooLarge)
