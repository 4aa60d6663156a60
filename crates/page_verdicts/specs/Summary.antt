-- What the summary of targets counts.
use Rattle.std.specs.Prelude.{ℕ, suc, ◌+◌, List, map}
use Rattle.std.specs.List.{flat_map}
use Rattle.ix_base.specs.Facts.{Facts, none, item, tuple}
use Rattle.ix_base.specs.Once.{in_order}
use Rattle.ix_base.specs.SortedLists.{text_cmp}
use Rattle.ix_base.specs.declared.content.NoteLink.{NoteLink}

-- how many items and how many tuples some facts are, with the members of tuples, at any depth

abbrev pub item_count : Facts → ℕ
item_count none = 0
item_count (item here rest) = suc (item_count rest)
item_count (tuple name id nil members rest) = item_count members + item_count rest

abbrev pub tuple_count : Facts → ℕ
tuple_count none = 0
tuple_count (item here rest) = tuple_count rest
tuple_count (tuple name id nil members rest) = suc (tuple_count members + tuple_count rest)

-- the ids of the footnotes of a link
abbrev pub link_ids : NoteLink → List (List ℕ)
link_ids link = map (λ n. n.id) link.footnotes

-- the ids of the footnotes of links, in order, each once
abbrev pub note_ids : List NoteLink → List (List ℕ)
note_ids links = in_order text_cmp (flat_map link_ids links)
