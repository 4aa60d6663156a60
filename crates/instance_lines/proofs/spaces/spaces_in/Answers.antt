use Rattle.std.proofs.Common.{◌∙◌, ap, append-nil, refl, [], sym}
use Rattle.ix_base.specs.Once.{in_order}
use Rattle.ix_base.specs.PlainContents.{said_of}
use Rattle.ix_base.specs.SortedLists.{text_cmp}
use Rattle.instance_lines.specs.Canonical.{content_spaces}
use Rattle.instance_lines.specs.Holdings.{all_names}
use Rattle.instance_lines.specs.Tables.{values_of}
use Rattle.instance_lines.proofs.PrefixLaws.{spaces_of-in_order}
use Rattle.instance_lines.proofs.spaces.spaces_in.Goals as goal

pub returns : goal.returns
unfolding content_spaces
returns c =
    c.each_once.ensures
    ∙ ap (in_order text_cmp) (sym (append-nil (values_of c.add_facts.new.spaces.items)))
    ∙ c.in_ok-add_facts.ensures []
    ∙ rw (c.in_ok-add_units.ensures, c.in_ok-add_contexts.ensures, c.new-spaces.ensures.items, c.as_slice.ensures, c.as_slice-2.ensures, c.as_slice-3.ensures, append-nil) refl
    ∙ spaces_of-in_order (all_names (said_of c.args.content.now))
