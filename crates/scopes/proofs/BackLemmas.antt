-- The text of a URL that was joined to a base gives the URL again.
use Rattle.std.proofs.Common.{◌≡◌, ap, sym, ℕ, List, Option, Some, None, Result, Ok, Err}
use Rattle.std.specs.Prelude.{IfOk, IfSome}
use Rattle.url.proofs.ParsedCanonical.{parse_url_canonical}
use Rattle.url.proofs.Theorems.{parse_url-serialize}
use Rattle.url.specs.Canonical.{IsCanonical}
use Rattle.url.specs.Parser.{Parsed, parse_url}
use Rattle.url.specs.Parts.{Parts, IsValid, serialize}
use Rattle.ix_base.specs.Address.{accepted, url_of}

of-accepted : (given : Parsed Parts) (url : Parts) → accepted given ≡ Some url → given ≡ Ok url
of-accepted (Ok u) url e = cc
of-accepted (Err fault) url e = absurd (cc)

-- what a text is by itself is written as the parser writes it
own_canonical : (text : List ℕ) (url : Parts) → url_of text ≡ Some url → IsValid url → IsCanonical url
own_canonical text url e valid = parse_url_canonical None text url tt valid (of-accepted (parse_url None text) url e)

joined_back : (base text : List ℕ) (own given : Parts) → url_of base ≡ Some own → IsValid own
    → accepted (parse_url (Some own) text) ≡ Some given → IsValid given → url_of (serialize given) ≡ Some given
joined_back base text own given known sound e valid =
    let read = of-accepted (parse_url (Some own) text) given e in
    let canonical = own_canonical base own known sound in
    ap accepted (parse_url-serialize given None valid (parse_url_canonical (Some own) text given (sound, canonical) valid read))

-- the same of what joining answers
pub joined_backs : {E : Type 0} (base text : List ℕ) (own : Parts) (r : Result (Option Parts) E) → url_of base ≡ Some own → IsValid own
    → IfOk r (λ given. given ≡ accepted (parse_url (Some own) text)) → IfOk r (λ given. IfSome given IsValid)
    → IfOk r (λ given. IfSome given (λ u. url_of (serialize u) ≡ Some u))
joined_backs base text own (Err e) known sound h valid = tt
joined_backs base text own (Ok None) known sound h valid = tt
joined_backs base text own (Ok (Some given)) known sound h valid = joined_back base text own given known sound (sym h) valid
