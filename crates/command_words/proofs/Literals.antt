-- Command lines that are written out.
use Rattle.std.proofs.Common.{◌≡◌, [], ◌∷◌, Some, None, codes, refl}
use Rattle.clap.proofs.OnLiterals.{clap_on_literals}
use Rattle.url.proofs.OnLiterals.{url_on_literals}
use Rattle.command_words.specs.Bases.{is_web_scheme}
use Rattle.command_words.specs.Commands.{command_of}
use Rattle.page_names.specs.Names.{has_repeat}
use Rattle.command_words.specs.Simple.{rows_taken}
use Rattle.command_words.specs.declared.command.Command.TheVariants.{Extract, Check, Sample}

options_in_front : command_of (codes "extract" ∷ codes "--base" ∷ codes "http://e/r/" ∷ codes "--out" ∷ codes "d" ∷ codes "a" ∷ [])
    ≡ Some (Extract (codes "http://e/r/") (codes "d") (codes "a" ∷ []))
unfolding clap_on_literals url_on_literals rows_taken command_of has_repeat is_web_scheme
options_in_front = refl

options_behind : command_of (codes "extract" ∷ codes "a" ∷ codes "--out=d" ∷ codes "--base=http://e/r/" ∷ [])
    ≡ Some (Extract (codes "http://e/r/") (codes "d") (codes "a" ∷ []))
unfolding clap_on_literals url_on_literals rows_taken command_of has_repeat is_web_scheme
options_behind = refl

pages_behind_dashes : command_of (codes "check" ∷ codes "--base" ∷ codes "http://e/r/" ∷ codes "--" ∷ codes "--x" ∷ codes "-" ∷ [])
    ≡ Some (Check (codes "http://e/r/") (codes "--x" ∷ codes "-" ∷ []))
unfolding clap_on_literals url_on_literals rows_taken command_of has_repeat is_web_scheme
pages_behind_dashes = refl

base_twice : command_of (codes "check" ∷ codes "--base" ∷ codes "http://e/" ∷ codes "--base" ∷ codes "http://e/" ∷ codes "a" ∷ []) ≡ None
unfolding clap_on_literals url_on_literals rows_taken command_of has_repeat is_web_scheme
base_twice = refl

dashes_for_a_value : command_of (codes "check" ∷ codes "a" ∷ codes "--base" ∷ codes "--" ∷ codes "http://e/" ∷ []) ≡ None
unfolding clap_on_literals url_on_literals rows_taken command_of has_repeat is_web_scheme
dashes_for_a_value = refl

empty_base : command_of (codes "check" ∷ codes "--base=" ∷ codes "a" ∷ []) ≡ None
unfolding clap_on_literals url_on_literals rows_taken command_of has_repeat is_web_scheme
empty_base = refl

no_page : command_of (codes "check" ∷ codes "--base=http://e/" ∷ []) ≡ None
unfolding clap_on_literals url_on_literals rows_taken command_of has_repeat is_web_scheme
no_page = refl

page_twice : command_of (codes "check" ∷ codes "--base=http://e/" ∷ codes "a" ∷ codes "a" ∷ []) ≡ None
unfolding clap_on_literals url_on_literals rows_taken command_of has_repeat is_web_scheme
page_twice = refl

one_fact : command_of (codes "sample" ∷ codes "1" ∷ []) ≡ Some (Sample 1)
unfolding command_of
one_fact = refl

most_facts : command_of (codes "sample" ∷ codes "200000" ∷ []) ≡ Some (Sample 200000)
unfolding command_of
most_facts = refl

too_many_facts : command_of (codes "sample" ∷ codes "200001" ∷ []) ≡ None
unfolding command_of
too_many_facts = refl

zero_in_front : command_of (codes "sample" ∷ codes "01" ∷ []) ≡ None
unfolding command_of
zero_in_front = refl

two_numbers : command_of (codes "sample" ∷ codes "1" ∷ codes "2" ∷ []) ≡ None
unfolding command_of
two_numbers = refl
