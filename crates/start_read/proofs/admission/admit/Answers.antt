-- One law of AdmissionLaws for each return.
use mathlib.Core.Path.{sym}
use Rattle.paper.proofs.PassedOn.{passed_on}
use Rattle.start_read.proofs.AdmissionLaws.{size_is, by-20, by-21, by-22, by_all}
use Rattle.start_read.proofs.admission.admit.Goals as goal

pub returns-in_err-first : goal.returns-in_err-first
returns-in_err-first c p a es d i j = passed_on _ _ _ c.from_residual.ensures.1 (by-20 _ p _ es d (c.in_err-first.ensures p a))

pub returns-then-events-bytes-ne0 : goal.returns-then-events-bytes-ne0
returns-then-events-bytes-ne0 c p a es d i j = by-21 _ p _ es d (c.in_ok-first.ensures p a) i j c.event_bytes-bytes.ensures c.if-events-bytes-ne0.true

pub returns-then-room-size : goal.returns-then-room-size
returns-then-room-size c p a es d i j = let size = size_is _ p a.ranges.count (sym a.counts.counted) c.record_length-size.ensures in
    by-22 _ p _ es d (c.in_ok-first.ensures p a) i j c.event_bytes-bytes.ensures c.if-events-bytes-ne0.false size c.if-room-size.true

pub returns : goal.returns
returns c p a es d i j = let size = size_is _ p a.ranges.count (sym a.counts.counted) c.record_length-size.ensures in
    by_all _ p _ es d (c.in_ok-first.ensures p a) i j c.event_bytes-bytes.ensures c.if-events-bytes-ne0.false size c.if-room-size.false
