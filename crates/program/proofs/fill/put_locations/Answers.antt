use Rattle.program.proofs.fill.put_locations.Goals as goal

pub returns : goal.returns
returns c = c.put_places.ensures
