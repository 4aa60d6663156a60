-- Scripts, what they say and what they come to.
use Rattle.std.proofs.Common.{◌≡◌, ℕ, [], ◌∷◌, ◌++◌, refl, codes}
use lib.Utf8.{encode}
use Rattle.std.specs.Str.{chars, is_utf8}
use Rattle.ix_base.specs.declared.rule.Rule.TheVariants.{X2, X4}
use Rattle.page_session.specs.Course.{breaks, course, effect_of, ends, names_read, stops, wants}
use Rattle.page_session.specs.HandedPages.{handed}
use Rattle.page_session.specs.Script.{script_of}
use Rattle.page_session.specs.declared.script.Line.{Line}
use Rattle.page_session.specs.declared.script.Line.TheVariants.{Put, Drop, Check, Extract}
use Rattle.page_session.specs.declared.script.Script.TheVariants.{Good, Bad}
use Rattle.page_session.specs.declared.script.ScriptLine.{ScriptLine}

abbrev at : ℕ → Line → ScriptLine
at n l = record { start = n; line = l }

-- what scripts say

no_line : script_of [] ≡ Bad 0
no_line = refl

extract_alone : script_of (codes "extract\n") ≡ Good (at 0 Extract ∷ [])
unfolding is_utf8 encode chars
extract_alone = refl

no_extract : script_of (codes "put a.html\n") ≡ Bad 0
unfolding is_utf8 encode chars
no_extract = refl

not_ended : script_of (codes "check\nextract") ≡ Bad 6
unfolding is_utf8 encode chars
not_ended = refl

early_extract : script_of (codes "extract\nextract\n") ≡ Bad 0
unfolding is_utf8 encode chars
early_extract = refl

four_forms : script_of (codes "put a\ncheck\ndrop a\nextract\n")
    ≡ Good (at 0 (Put (codes "a")) ∷ at 6 Check ∷ at 12 (Drop (codes "a")) ∷ at 19 Extract ∷ [])
unfolding is_utf8 encode chars
four_forms = refl

second_space : script_of (codes "put  a\nextract\n") ≡ Good (at 0 (Put (codes " a")) ∷ at 7 Extract ∷ [])
unfolding is_utf8 encode chars
second_space = refl

no_name : script_of (codes "put \nextract\n") ≡ Bad 0
unfolding is_utf8 encode chars
no_name = refl

empty_line : script_of (codes "check\n\nextract\n") ≡ Bad 6
unfolding is_utf8 encode chars
empty_line = refl

carriage_return : script_of (codes "check\nput a\r\nextract\n") ≡ Bad 6
unfolding is_utf8 encode chars
carriage_return = refl

not_utf8 : script_of (codes "put " ++ 255 ∷ 10 ∷ codes "extract\n") ≡ Bad 0
unfolding is_utf8 encode chars
not_utf8 = refl

-- what lines come to

dropped_first : course (at 0 (Drop (codes "q")) ∷ at 7 Extract ∷ []) [] ≡ breaks 0 X2
dropped_first = refl

a_session : course (at 0 (Put (codes "a")) ∷ at 6 Check ∷ at 12 (Put (codes "f")) ∷ at 18 Check ∷ at 24 (Drop (codes "a")) ∷ at 31 Extract ∷ [])
    (codes "x" ∷ codes "y" ∷ [])
    ≡ ends ((handed (codes "a") (codes "x") ∷ []) ∷ (handed (codes "a") (codes "x") ∷ handed (codes "f") (codes "y") ∷ []) ∷ [])
    (handed (codes "f") (codes "y") ∷ [])
a_session = refl

replaced : course (at 0 (Put (codes "a")) ∷ at 6 (Put (codes "f")) ∷ at 12 (Put (codes "a")) ∷ at 18 Extract ∷ []) (codes "x" ∷ codes "y" ∷ codes "z" ∷ [])
    ≡ ends [] (handed (codes "a") (codes "z") ∷ handed (codes "f") (codes "y") ∷ [])
replaced = refl

no_bytes : course (at 0 (Put (codes "a")) ∷ at 6 Extract ∷ []) [] ≡ wants
no_bytes = refl

read_until_a_breach : names_read (at 0 (Put (codes "a")) ∷ at 6 (Drop (codes "b")) ∷ at 13 (Put (codes "c")) ∷ at 19 Extract ∷ []) (codes "x" ∷ codes "y" ∷ [])
    ≡ codes "a" ∷ []
read_until_a_breach = refl

a_byte_too_much : effect_of (record { pages = []; bytes = 134217727; tags = 0 }) 5 (Put (codes "a")) (codes "xy" ∷ []) ≡ stops (breaks 5 X4)
a_byte_too_much = refl

too_many_tags : effect_of (record { pages = []; bytes = 4194304; tags = 4194304 }) 5 (Put (codes "a")) (codes "<" ∷ []) ≡ stops (breaks 5 X4)
too_many_tags = refl
