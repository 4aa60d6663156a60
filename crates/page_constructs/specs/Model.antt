-- What the code's tokens stand for.
use Rattle.std.specs.Prelude.{map, option_map, encode_utf8}
use Rattle.page_constructs.specs.Tokens.{start, empty, close, words, refer, section, declaration, doctype, silent}
use Rattle.page_constructs.specs.Tokens as tokens
use Rattle.page_constructs.specs.declared.token.Attribute.{Attribute}
use Rattle.page_constructs.specs.declared.token.Tag.{Tag}
use Rattle.page_constructs.specs.declared.token.Token.{Token}
use Rattle.page_constructs.specs.declared.token.Token.TheVariants.{StartTag, EmptyTag, EndTag, Text, Reference, Cdata, Doctype, Silent}
use Rattle.page_constructs.specs.declared.token.Token.TheVariants as token

abbrev pub attribute_of : Attribute → tokens.Attribute
attribute_of a = record { name = a.name.name.now; value = option_map (λ v. v.now) a.value }

abbrev pub tag_of : Tag → tokens.Tag
tag_of t = record { offset = t.offset; name = t.name.name.now; attrs = map attribute_of t.attrs.now }

abbrev pub token_of : Token → tokens.Token
token_of (StartTag t) = start (tag_of t)
token_of (EmptyTag t) = empty (tag_of t)
token_of (EndTag name) = close name.now
token_of (Text text) = words text.now
token_of (Reference char) = refer (option_map encode_utf8 char)
token_of (Cdata text) = section text.now
token_of (token.Declaration version encoding) = declaration version.now (option_map (λ v. v.now) encoding)
token_of (Doctype has_subset) = doctype has_subset
token_of Silent = silent
