-- One line for each code; a byte between them is none.
use mathlib.Core.Path.{sym, ap}
use Rattle.semantics.specs.Expressions.{form_of}
use Rattle.expression.proofs.Forms.{form-says, no_truth}
use Rattle.expression.proofs.truth_form.Goals as goal

pub returns-in-0-to-31 : goal.returns-in-0-to-31
returns-in-0-to-31 c = let p = c.requires in
    let r = c.in-0-to-31.in-0-to-31-own.rest in
    let q = r.0.0.0.0 in
    form-says (sym (no_truth p.0 p.1 q.0.0.0.1 q.0.0.1 q.0.1 q.1 r.0.0.0.1 r.0.0.1 r.0.1 r.1))

pub returns-in-32 : goal.returns-in-32
unfolding form_of
returns-in-32 c = form-says (sym (ap form_of c.in-32.is))

pub returns-in-33 : goal.returns-in-33
unfolding form_of
returns-in-33 c = form-says (sym (ap form_of c.in-33.is))

pub returns-in-34 : goal.returns-in-34
unfolding form_of
returns-in-34 c = form-says (sym (ap form_of c.in-34.is))

pub returns-in-35 : goal.returns-in-35
unfolding form_of
returns-in-35 c = form-says (sym (ap form_of c.in-35.is))

pub returns-in-40 : goal.returns-in-40
unfolding form_of
returns-in-40 c = form-says (sym (ap form_of c.in-40.is))

pub returns-in-41 : goal.returns-in-41
unfolding form_of
returns-in-41 c = form-says (sym (ap form_of c.in-41.is))

pub returns-in-42 : goal.returns-in-42
unfolding form_of
returns-in-42 c = form-says (sym (ap form_of c.in-42.is))

pub returns-in-47 : goal.returns-in-47
unfolding form_of
returns-in-47 c = form-says (sym (ap form_of c.in-47.is))
