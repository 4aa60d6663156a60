-- Footnotes as they are told apart.
use Rattle.std.specs.Prelude.{option_map}
use Rattle.std.specs.Option.{option_cmp}
use Rattle.std.specs.Ordering.{then_cmp, on}
use Rattle.std.specs.declared.cmp.Ordering.{Ordering}
use Rattle.ix_base.specs.declared.content.Footnote.{Footnote}
use Rattle.ix_base.specs.SortedLists.{text_cmp}
use Rattle.proper_content.specs.declared.ids.NoteKey.{NoteKey}

-- the footnote of a key
abbrev pub note_seen : NoteKey → Footnote
note_seen k = record { id = k.id.now; role = k.role.now; title = option_map (λ t. t.now) k.title; lang = k.lang.now; body = k.body.now }

-- by the id, the role, the title, the language and the body
abbrev pub note_cmp : Footnote → Footnote → Ordering
note_cmp =
    then_cmp (on (λ f. f.id) text_cmp)
    (then_cmp (on (λ f. f.role) text_cmp)
    (then_cmp (on (λ f. f.title) (option_cmp text_cmp))
    (then_cmp (on (λ f. f.lang) text_cmp) (on (λ f. f.body) text_cmp))))
