-- The editions that code goes by, as the papers have them.
use Rattle.semantics.specs.Editions as papers
use Rattle.edition.specs.declared.Edition.{Edition}
use Rattle.edition.specs.declared.Edition.TheVariants.{First, Second}

abbrev pub edition_of : Edition → papers.Edition
edition_of First = papers.edition1
edition_of Second = papers.edition2
