-- Contents apart from where their facts lie in memory: definitions that compute, and recursions, are over these.
use Rattle.std.specs.Prelude.{ℕ, List}
use Rattle.ix_base.specs.declared.content.Content.{Content}
use Rattle.ix_base.specs.declared.content.Context.{Context}
use Rattle.ix_base.specs.declared.content.Linkbase.{Linkbase}
use Rattle.ix_base.specs.declared.content.NoteLink.{NoteLink}
use Rattle.ix_base.specs.declared.content.RoleRef.{RoleRef}
use Rattle.ix_base.specs.declared.content.Unit.{Unit as UnitContent}
use Rattle.ix_base.specs.Facts.{Facts, facts_of}

pub record Said : Type 0 where
  pub schemas : List (List ℕ)
  pub linkbases : List Linkbase
  pub roles : List RoleRef
  pub arcroles : List RoleRef
  pub contexts : List Context
  pub units : List UnitContent
  pub facts : Facts
  pub notes : List NoteLink

abbrev pub said_of : Content → Said
said_of c = record {
  schemas = c.schemas;
  linkbases = c.linkbases;
  roles = c.roles;
  arcroles = c.arcroles;
  contexts = c.contexts;
  units = c.units;
  facts = facts_of c.facts;
  notes = c.notes;
}
