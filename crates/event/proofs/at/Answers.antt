use mathlib.Core.Path.{◌≡◌, ap}
use Prim.Native.Nat.{ℕ, ◌+◌, ◌-◌}
use native.Mathlib.Omega.{arith}
use lib.ListN.{take, drop}
use Rattle.edition.specs.Editions.{edition_of}
use Rattle.event.proofs.Bytes.{decodes-as}
use Rattle.event.proofs.at.Goals as goal

pub decoded-requires : goal.decoded-requires
decoded-requires c = omega (arith, (edition_of c.args.ed).event_holds, c.event_bytes.ensures)

pub returns : goal.returns
returns c = let s = c.args in
    let e : ◌≡◌ {A = ℕ} (edition_of s.ed).event_bytes (s.at + c.event_bytes.result - s.at) = omega (arith, c.event_bytes.ensures) in
    decodes-as (ap (λ k. take k (drop s.at s.events.now)) e) c.decoded.ensures
