-- One line for each code; a byte between them is none.
use mathlib.Core.Path.{sym, ap}
use Rattle.semantics.specs.Expressions.{form_of}
use Rattle.expression.proofs.Forms.{form-says, no_number}
use Rattle.expression.proofs.number_form.Goals as goal

pub returns-in-0-to-15-2 : goal.returns-in-0-to-15-2
returns-in-0-to-15-2 c = let p = c.requires in
    let r = c.in-0-to-15.in-0-to-15-own.rest.0 in
    form-says (sym (no_number p.0 p.1 r.0.0.0.1 r.0.0.1 r.0.1 r.1))

pub returns-in-16 : goal.returns-in-16
unfolding form_of
returns-in-16 c = form-says (sym (ap form_of c.in-16.is))

pub returns-in-17 : goal.returns-in-17
unfolding form_of
returns-in-17 c = form-says (sym (ap form_of c.in-17.is))

pub returns-in-18 : goal.returns-in-18
unfolding form_of
returns-in-18 c = form-says (sym (ap form_of c.in-18.is))

pub returns-in-20 : goal.returns-in-20
unfolding form_of
returns-in-20 c = form-says (sym (ap form_of c.in-20.is))

pub returns-in-0-to-15 : goal.returns-in-0-to-15
unfolding form_of
returns-in-0-to-15 c = form-says (sym (ap form_of c.in-0-to-15.in-0-to-15-own.keys5))
