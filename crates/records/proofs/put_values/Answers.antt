use Rattle.std.proofs.Common.{rules}
use mathlib.Core.Path.{◌≡◌, refl, ap, ◌∙◌}
use mathlib.Core.List.{flat_map}
use Prim.Native.Nat.{◌<◌}
use native.Mathlib.Omega.{arith}
use lib.IntN.{pos}
use lib.ListN.{length, take, get_or}
use lib.Seq.{length-take-le, take_all}
use mir.Syntax.{w32}
use mir.ValLaws.{to_z-of_z}
use Rattle.semantics.specs.Run.{value_bytes}
use Rattle.codec.proofs.Writing.{wrote_none, put-more, wrote_as}
use Rattle.records.proofs.Records.{values-more, values_length}
use Rattle.records.proofs.put_values.Goals as goal

pub loop-z-init : goal.loop-z-init
unfolding flat_map
loop-z-init c = (omega arith, omega arith, refl, wrote_none _ _)

pub loop-z-preserved : goal.loop-z-preserved
loop-z-preserved c = let l = c.loop-z in
    let vs = c.args.values.now in
    let p = c.put_signed-at in
    let h : l.z-index < length vs = omega arith in
    let z = get_or vs l.z-index (pos 0) in
    let n = values_length (take l.z-index vs) in
    let k = length-take-le l.z-index vs l.invariant.0 in (
      omega arith,
      omega (arith, p.ensures.0),
      p.auto.d ∙ l.invariant.2,
      wrote_as (values-more vs l.z-index h) (put-more l.invariant.3 (wrote_as (ap value_bytes (to_z-of_z w32 z (search rules))) p.ensures.1) (omega arith) (omega arith)),
    )

pub returns : goal.returns
returns c = let l = c.loop-z in
    let e : l.z-index ≡ length c.args.values.now = omega arith in
    (omega arith, wrote_as (ap (flat_map value_bytes) (take_all l.z-index c.args.values.now (omega arith))) l.invariant.3)
