-- Markup in which what stands as it is is given as markup too.
use Rattle.std.specs.Prelude.{◌≡◌, ℕ, List, []}
use Rattle.ix_base.specs.WrittenMarkup.{Markup, nothing, words, node, leaf, verbatim, written}

-- markup, and what follows
abbrev pub then : Markup → Markup → Markup
then nothing more = more
then (words text rest) more = words text (then rest more)
then (node name attrs kids rest) more = node name attrs kids (then rest more)
then (leaf name attrs rest) more = leaf name attrs (then rest more)
then (verbatim bytes rest) more = verbatim bytes (then rest more)

abbrev pub filled : (List ℕ → Markup) → Markup → Markup
filled f nothing = nothing
filled f (words text rest) = words text (filled f rest)
filled f (node name attrs kids rest) = node name attrs (filled f kids) (filled f rest)
filled f (leaf name attrs rest) = leaf name attrs (filled f rest)
filled f (verbatim bytes rest) = then (f bytes) (filled f rest)

-- each of the bodies is what its markup writes
abbrev pub AreBodies : (List ℕ → Markup) → Markup → Type 0
AreBodies f nothing = Unit {0}
AreBodies f (words text rest) = AreBodies f rest
AreBodies f (node name attrs kids rest) = AreBodies f kids × AreBodies f rest
AreBodies f (leaf name attrs rest) = AreBodies f rest
AreBodies f (verbatim bytes rest) = (written (f bytes) [] ≡ bytes) × AreBodies f rest
