-- The tests of proper contents, some together.
use Rattle.std.specs.Prelude.{Bool, ◌&&◌}
use Rattle.ix_base.specs.PlainContents.{Said}
use Rattle.instance_out.specs.Proper.{forms_fit, fractions_fit, ids_fit, links_fit, lists_fit, names_fit, numbers_fit, orders_fit, parts_fit, roles_fit, texts_fit, tokens_fit, unitless_fit}

abbrev pub first_fit : Said → Bool
first_fit c = ids_fit c && (names_fit c && texts_fit c)

abbrev pub second_fit : Said → Bool
second_fit c = lists_fit c && (parts_fit c && roles_fit c)

abbrev pub third_fit : Said → Bool
third_fit c = forms_fit c && (numbers_fit c && (unitless_fit c && fractions_fit c))

abbrev pub last_fit : Said → Bool
last_fit c = links_fit c && (orders_fit c && tokens_fit c)
