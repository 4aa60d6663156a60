-- The same pages, handed over in another order.
use Rattle.std.specs.Prelude.{◌≡◌, ℕ, List}
use Rattle.std.specs.List.Sorted.{IsPermutation}
use Rattle.page_session.specs.HandedPages.{Handed, bytes_of, names_of}
use Rattle.command_words.specs.Commands.{pages_of}
use Rattle.page_verdicts.specs.CommandKinds.{with_pages}
use Rattle.command_words.specs.declared.command.Command.{Command}

-- the command d with the bytes cs asks the same as the command c with the bytes bs, but for the order of the pages
pub record IsRearranged (c : Command) (bs : List (List ℕ)) (d : Command) (cs : List (List ℕ)) : Type 0 where
  pub pages : List Handed
  pub names : pages_of c ≡ names_of pages
  pub bytes : bs ≡ bytes_of pages
  pub others : List Handed
  pub other_names : pages_of d ≡ names_of others
  pub other_bytes : cs ≡ bytes_of others
  pub order : IsPermutation pages others
  pub command : d ≡ with_pages c (names_of others)
