use Rattle.std.proofs.Common.{◌≡◌, ◌∙◌, sym, refl, rules, ℕ, List}
use Rattle.std.specs.Str.{chars, IsUtf8}
use Rattle.std.proofs.lemmas.Str.{chars_past_char, is_utf8-from_IsUtf8}
use Rattle.ix_base.specs.NcName.{is_ncname, is_name_of}
use Rattle.scopes.proofs.name.is_name.Goals as goal

-- a text is UTF-8 anyway
named : (text : List ℕ) → IsUtf8 text → is_ncname text ≡ is_name_of (chars text)
unfolding is_ncname
named text u = rw (is_utf8-from_IsUtf8 text u) refl

pub returns-then-is_name_start : goal.returns-then-is_name_start
returns-then-is_name_start c =
    rw (named c.args.text.now c.utf8.text, chars_past_char c.args.text.now c.next.new.self.rest.now c.in-Some.first c.utf8.text (sym c.chars-characters.ensures.rest ∙ c.in-Some.ensures.steps.0)) (search rules)

pub returns-else-is_name_start : goal.returns-else-is_name_start
returns-else-is_name_start c =
    rw (named c.args.text.now c.utf8.text, chars_past_char c.args.text.now c.next.new.self.rest.now c.in-Some.first c.utf8.text (sym c.chars-characters.ensures.rest ∙ c.in-Some.ensures.steps.0)) (search rules)

pub returns-in-None : goal.returns-in-None
returns-in-None c = rw (named c.args.text.now c.utf8.text) (search rules)
