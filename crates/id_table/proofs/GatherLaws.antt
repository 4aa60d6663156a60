-- Texts that are gathered one behind another.
use Rattle.std.proofs.Common.{◌≡◌, ◌∙◌, ◌++◌, ℕ, List, ap, sym, append_assoc}
use Rattle.ix_base.specs.Once.{in_order}
use Rattle.ix_base.specs.SortedLists.{text_cmp}
use Rattle.id_table.specs.Gathered.{Gathers}

-- those before, and further ones
pub gathers-more : (start old new before here all : List (List ℕ)) → all ≡ before ++ here → Gathers start old before → Gathers old new here
    → Gathers start new all
gathers-more start old new before here all is g h = λ rest.
    h rest ∙ g (here ++ rest)
    ∙ ap (λ l. in_order text_cmp (start ++ l)) (sym (append_assoc before here rest) ∙ ap (λ l. l ++ rest) (sym is))
