-- A parse of a simple command gives its rows, or is refused.
use Rattle.std.proofs.Common.{◌≡◌, ℕ, List, [], ◌∷◌, Some, None, true, sym, ap, refl, inl, inr, ◌∙◌}
use Rattle.clap.specs.Walk.{Row}
use Rattle.clap.specs.Simple.{App, HasMatchesOf, is_simple, matches_of}
use Rattle.clap.specs.Faults.{fault_of, is_simple_and_free}
use Rattle.clap.specs.Kinds.{Kinds, HasKind}
use Rattle.clap.specs.Values.{kind_of}
use Rattle.clap.specs.declared.error.Error.{Error}
use Rattle.clap.specs.declared.error.kind.ErrorKind.TheVariants.{OutOfMemory}
use Rattle.clap.specs.declared.parser.matches.ArgMatches.{ArgMatches}
use Rattle.clap.proofs.WalkLemmas.{both}
use Rattle.command_words.specs.Simple.{unless_failed, rows_taken, rows_of_matches}

pub taken : (app : App) (given words : List (List ℕ)) (m : ArgMatches) → given ≡ words
    → is_simple_and_free app ≡ true → fault_of app given ≡ [] → HasMatchesOf app given m
    → Some (rows_of_matches m) ≡ rows_taken app words
unfolding rows_taken
taken app given words m same free none matches =
    let rows : rows_of_matches m ≡ matches_of app given = (matches (both (is_simple app) _ free).0).0 in
    let here : Some (rows_of_matches m) ≡ rows_taken app given =
    ap (λ (r : List Row). Some r) rows ∙ sym (ap (λ (k : Kinds). unless_failed k (matches_of app given)) none) in
    here ∙ ap (rows_taken app) same

among_none : (e : Error) (kinds : Kinds) (rows : List Row) → (kind_of e ≡ OutOfMemory → ⊥)
    → HasKind kinds e → None ≡ unless_failed kinds rows
among_none e kinds rows other (inl memory) = absurd (other memory)
among_none e [] rows other (inr among) = absurd among
among_none e (k ∷ ks) rows other (inr among) = refl

pub refused : (app : App) (given words : List (List ℕ)) (e : Error) → given ≡ words
    → (kind_of e ≡ OutOfMemory → ⊥) → HasKind (fault_of app given) e → None ≡ rows_taken app words
unfolding rows_taken
refused app given words e same other has =
    let here : None ≡ rows_taken app given = among_none e (fault_of app given) (matches_of app given) other has in
    here ∙ ap (rows_taken app) same
