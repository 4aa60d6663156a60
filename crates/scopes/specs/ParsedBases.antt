-- What is to be known of a base that is kept parsed.
use Rattle.std.specs.Prelude.{◌≡◌, ℕ, List, Some, IfSome}
use Rattle.url.specs.Parts.{IsValid, serialize}
use Rattle.ix_base.specs.Address.{url_of}
use Rattle.scopes.specs.declared.parsed_base.Origin.{Origin}
use Rattle.scopes.specs.declared.parsed_base.Origin.TheVariants.{Given, Joined}

-- the text: as it was given, or as the URL is written
abbrev pub text_of : Origin → List ℕ
text_of (Given text url) = text
text_of (Joined url) = serialize url

-- the URL is what the text is by itself
abbrev pub IsParsed : Origin → Type 0
IsParsed (Given text url) = (url ≡ url_of text) × IfSome url IsValid
IsParsed (Joined url) = (url_of (serialize url) ≡ Some url) × IsValid url
