use Rattle.records.proofs.Books.{booked-within}
use Rattle.records.proofs.Counts.book.Goals as goal

pub returns : goal.returns
returns c = booked-within c.args.self.now c.args.answer c.one_within.ensures.count c.one_within-2.ensures.count c.one_within-3.ensures.count
