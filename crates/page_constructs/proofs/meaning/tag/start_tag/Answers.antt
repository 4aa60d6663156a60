use Rattle.std.proofs.Common.{Some, true, false, sym, ap, ◌∙◌, option_map, map}
use Rattle.ix_base.specs.Scope.{is_qname}
use Rattle.page_constructs.specs.ReadAttributes.{attributes_and_end}
use Rattle.page_constructs.specs.Tokens.{start, empty}
use Rattle.page_constructs.specs.Model.{attribute_of}
use Rattle.page_constructs.proofs.TagReading.{tag-none, tag-some}
use Rattle.page_constructs.proofs.meaning.tag.start_tag.Goals as goal

pub returns-then-is_empty : goal.returns-then-is_empty
returns-then-is_empty c =
    let named = rw c.in-Some.is at c.in_ok-name.ensures in
    ap (λ x. Some (empty (record { offset = c.args.offset; name = c.in-Some.name.name.now; attrs = map attribute_of x }))) c.as_slice.ensures.value
    ∙ tag-some c.args.offset c.args.inner.now c.in-Some.name.name.now c.in-Some.rest.now (sym named.1) (sym named.2) (ap is_qname named.1 ∙ named.0) (option_map (attributes_and_end c.attributes_in.new.attrs.items) c.in_ok-is_empty.field-0) c.in_ok-is_empty.ensures
    (map attribute_of c.attributes_in.new.attrs.items) true (ap (option_map (attributes_and_end c.attributes_in.new.attrs.items)) c.in-Some-2.is ∙ ap (λ s. Some (map attribute_of c.attributes_in.new.attrs.items, s)) c.if-is_empty.true)

pub returns-else-is_empty : goal.returns-else-is_empty
returns-else-is_empty c =
    let named = rw c.in-Some.is at c.in_ok-name.ensures in
    ap (λ x. Some (start (record { offset = c.args.offset; name = c.in-Some.name.name.now; attrs = map attribute_of x }))) c.as_slice.ensures.value
    ∙ tag-some c.args.offset c.args.inner.now c.in-Some.name.name.now c.in-Some.rest.now (sym named.1) (sym named.2) (ap is_qname named.1 ∙ named.0) (option_map (attributes_and_end c.attributes_in.new.attrs.items) c.in_ok-is_empty.field-0) c.in_ok-is_empty.ensures
    (map attribute_of c.attributes_in.new.attrs.items) false (ap (option_map (attributes_and_end c.attributes_in.new.attrs.items)) c.in-Some-2.is ∙ ap (λ s. Some (map attribute_of c.attributes_in.new.attrs.items, s)) c.if-is_empty.false)

pub returns-in-None : goal.returns-in-None
returns-in-None c =
    let named = rw c.in-Some.is at c.in_ok-name.ensures in
    tag-none c.args.offset c.args.inner.now c.in-Some.name.name.now c.in-Some.rest.now (sym named.1) (sym named.2) (ap is_qname named.1 ∙ named.0) (option_map (attributes_and_end c.attributes_in.new.attrs.items) c.in_ok-is_empty.field-0) c.in_ok-is_empty.ensures
    (ap (option_map (attributes_and_end c.attributes_in.new.attrs.items)) c.in-None.is)
