use Rattle.id_table.proofs.tables.Tables.add_page.Goals as goal

pub returns-clause-spots : goal.returns-clause-spots
returns-clause-spots c = c.add_from.ensures.spots

pub returns-clause-whole : goal.returns-clause-whole
returns-clause-whole c = c.add_from.ensures.whole
