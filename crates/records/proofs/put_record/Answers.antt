-- The four parts of the record are written one after the other.
use mathlib.Core.List.{[], ◌∷◌, append_assoc, flat_map}
use Prim.Native.Nat.{◌≤◌}
use native.Mathlib.Omega.{arith}
use lib.ListN.{length, length-append}
use Rattle.semantics.specs.Bytes.{big_endian}
use Rattle.semantics.specs.Run.{set_number, value_bytes, record_bytes}
use Rattle.edition.specs.Editions.{edition_of}
use Rattle.nodeset.specs.Sets.{members}
use Rattle.codec.proofs.Writing.{put-more, wrote_as}
use Rattle.records.proofs.Records.{values_length}
use Rattle.records.proofs.SetBytes.{length-bytes}
use Rattle.records.proofs.put_record.Goals as goal

pub returns : goal.returns
unfolding record_bytes
returns c = let a = c.args in
    let p = c.put1-j in
    let q = c.put_set-k in
    let r = c.put_values-l in
    let t = c.put_slice in
    let S = big_endian (edition_of a.ed).set_bytes (set_number (members a.acting.now.words)) in
    let Q = flat_map value_bytes a.values.now in
    let h : a.i ≤ length a.d.now = omega (arith, c.requires) in
    let e = length-bytes (edition_of a.ed).set_bytes (set_number (members a.acting.now.words)) in
    let n = values_length a.values.now in
    let m = length-append (a.answer ∷ S) Q in
    let one = put-more p.ensures.1 q.ensures.1 h p.ensures.0 in
    let two = put-more one r.ensures.1 h (omega (arith, p.ensures.0, q.ensures.0)) in
    let three = put-more two t.ensures.1 h (omega (arith, p.ensures.0, q.ensures.0, r.ensures.0)) in
    (omega (arith, p.ensures.0, q.ensures.0, r.ensures.0, t.ensures.0), wrote_as (append_assoc (a.answer ∷ S) Q a.modes.now) three)
