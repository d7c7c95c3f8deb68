use native.Mathlib.Omega.{arith}
use Rattle.edition.proofs.Widths.{of_first, of_second, one-wide, two-wide}
use Rattle.codec.proofs.Widths.{fits-one, out-one, fits-two, out-two}
use Rattle.codec.proofs.Writing.{wrote_as}
use Rattle.codec.proofs.put_number.Goals as goal

pub put1-requires : goal.put1-requires
put1-requires c = omega (arith, one-wide (of_first c.in-First.is))

pub overflow_cast-n : goal.overflow_cast-n
overflow_cast-n c = record { fits = fits-one (of_first c.in-First.is) _ c.requires.1 }

pub put2-requires : goal.put2-requires
put2-requires c = let q = of_second c.in-Second.is in
    (omega (arith, two-wide q), fits-two q _ c.requires.1)

pub returns-in-First : goal.returns-in-First
returns-in-First c = let q = of_first c.in-First.is in
    let w = c.put1.ensures in
    (omega (arith, w.0, one-wide q), wrote_as (out-one q _) w.1)

pub returns-in-Second : goal.returns-in-Second
returns-in-Second c = let q = of_second c.in-Second.is in
    let w = c.put2.ensures in
    (omega (arith, w.0, two-wide q), wrote_as (out-two q _) w.1)
