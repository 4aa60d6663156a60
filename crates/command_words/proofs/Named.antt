-- What the rows of a parse name.
use Rattle.std.proofs.Common.{◌≡◌, ℕ, List, Option, None, Some, refl}
use Rattle.command_words.specs.declared.command.Command.{Command}
use Rattle.command_words.specs.Commands.{pages_from, extract_from, session_from}

pub no_base : (b d : Option (List ℕ)) (p : Option (List (List ℕ))) → b ≡ None → None ≡ extract_from b d p
no_base b d p e = rw e refl

pub no_dir : (b d : Option (List ℕ)) (p : Option (List (List ℕ))) (base : List ℕ) → b ≡ Some base
    → d ≡ None → None ≡ extract_from b d p
no_dir b d p base e f = rw (e, f) refl

pub no_pages : (b d : Option (List ℕ)) (p : Option (List (List ℕ))) (base dir : List ℕ)
    → b ≡ Some base → d ≡ Some dir → p ≡ None → None ≡ extract_from b d p
no_pages b d p base dir e f g = rw (e, f, g) refl

pub all_named : (b d : Option (List ℕ)) (p : Option (List (List ℕ))) (base dir : List ℕ)
    (pages : List (List ℕ)) (r : Option Command) → b ≡ Some base → d ≡ Some dir → p ≡ Some pages
    → r ≡ extract_from (Some base) (Some dir) (Some pages) → r ≡ extract_from b d p
all_named b d p base dir pages r e f g h = rw (e, f, g) h

pub no_base_of_pages : (b : Option (List ℕ)) (p : Option (List (List ℕ))) → b ≡ None
    → None ≡ pages_from b p
no_base_of_pages b p e = rw e refl

pub no_pages_of_base : (b : Option (List ℕ)) (p : Option (List (List ℕ))) (base : List ℕ)
    → b ≡ Some base → p ≡ None → None ≡ pages_from b p
no_pages_of_base b p base e f = rw (e, f) refl

pub pages_named : (b : Option (List ℕ)) (p : Option (List (List ℕ))) (base : List ℕ)
    (pages : List (List ℕ)) (r : Option (List ℕ × List (List ℕ))) → b ≡ Some base → p ≡ Some pages
    → r ≡ pages_from (Some base) (Some pages) → r ≡ pages_from b p
pages_named b p base pages r e f h = rw (e, f) h

pub no_base_of_session : (b d : Option (List ℕ)) (p : Option (List (List ℕ))) → b ≡ None → None ≡ session_from b d p
no_base_of_session b d p e = rw e refl

pub no_dir_of_session : (b d : Option (List ℕ)) (p : Option (List (List ℕ))) (base : List ℕ) → b ≡ Some base
    → d ≡ None → None ≡ session_from b d p
no_dir_of_session b d p base e f = rw (e, f) refl

pub no_script : (b d : Option (List ℕ)) (p : Option (List (List ℕ))) (base dir : List ℕ)
    → b ≡ Some base → d ≡ Some dir → p ≡ None → None ≡ session_from b d p
no_script b d p base dir e f g = rw (e, f, g) refl

pub session_named : (b d : Option (List ℕ)) (p : Option (List (List ℕ))) (base dir : List ℕ)
    (words : List (List ℕ)) (r : Option Command) → b ≡ Some base → d ≡ Some dir → p ≡ Some words
    → r ≡ session_from (Some base) (Some dir) (Some words) → r ≡ session_from b d p
session_named b d p base dir words r e f g h = rw (e, f, g) h
