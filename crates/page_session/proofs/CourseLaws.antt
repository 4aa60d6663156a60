-- The lines of a script, and the calls that a session does for them.
use Rattle.std.proofs.Common.{◌≡◌, ◌∙◌, ap, sym, ℕ, ◌+◌, ◌≤◌, inl, inr, true, false, if◌then◌else◌, List, ◌∷◌, length, nat_le, subst, rules}
use Rattle.std.proofs.lemmas.Bool.{and_left, and_right, lt-leb}
use Rattle.ix_base.specs.declared.limits.TheConstants.{MOST_BYTES_PUT, MOST_TAGS_PUT}
use Rattle.ix_base.specs.declared.rule.Rule.TheVariants.{X2, X3, X4}
use Rattle.targets.specs.Breaches.{tags_in}
use Rattle.page_session.specs.Course.{Standing, StandsAs, breaks, effect_of, leads, put_effect, stops, with_page, without_page}
use Rattle.page_session.specs.HandedPages.{handed, is_one_too_many, is_there, names_of}
use Rattle.page_session.specs.Limits.{may_hold, Passes}
use Rattle.page_session.specs.Sessions.{HasDropped, HasPut, IsOver, IsSame, IsWithin, bytes_put, names_in, tags_put}
use Rattle.page_session.specs.declared.script.Line.TheVariants as line
use Rattle.page_session.specs.declared.session.Session.{Session}
use Rattle.page_session.proofs.AnswerLaws.{names_are}
use Rattle.page_session.proofs.StepLaws.{same_stands}

-- a session has the names of the pages for which it stands
names_there : (s : Session) (t : Standing) → StandsAs s t → names_in s ≡ names_of t.pages
names_there s t at = names_are s.kept.items t.pages at.stands.kept

pub still_stands : (old new : Session) (t : Standing) → IsSame old new → StandsAs old t → StandsAs new t
still_stands old new t same at = record {
  stands = same_stands old new t.pages same at.stands;
  bytes = ap (λ x. x.bytes) same.sums ∙ at.bytes;
  tags = ap (λ x. x.tags) same.sums ∙ at.tags;
}

-- a put that has room goes by its sums
has_room : (s : Session) (t : Standing) (n : ℕ) (name b : List ℕ) (bs : List (List ℕ)) → StandsAs s t → is_one_too_many (names_in s) name ≡ false
    → effect_of t n (line.Put name) (b ∷ bs) ≡ put_effect t n name (b ∷ bs)
has_room s t n name b bs at room =
    let is : is_one_too_many (names_of t.pages) name ≡ false = ap (λ ns. is_one_too_many ns name) (sym (names_there s t at)) ∙ room in
    λ i. if is i then stops (breaks n X3) else put_effect t n name (b ∷ bs)

small : (bytes tags : ℕ) → bytes ≤ MOST_BYTES_PUT → tags ≤ MOST_TAGS_PUT → may_hold bytes tags ≡ true
small bytes tags b t = search rules

large : (bytes tags : ℕ) → Passes bytes tags → may_hold bytes tags ≡ false
large bytes tags (inl b) = and_left (nat_le bytes MOST_BYTES_PUT) (nat_le tags MOST_TAGS_PUT) (lt-leb bytes MOST_BYTES_PUT b)
large bytes tags (inr t) = and_right (nat_le bytes MOST_BYTES_PUT) (nat_le tags MOST_TAGS_PUT) (lt-leb tags MOST_TAGS_PUT t)

pub puts_line : (old new : Session) (t : Standing) (n : ℕ) (name b : List ℕ) (bs : List (List ℕ)) → StandsAs old t → HasPut (handed name b) old new
    → is_one_too_many (names_in old) name ≡ false → IsWithin new
    → (effect_of t n (line.Put name) (b ∷ bs) ≡ leads (with_page t name b)) × StandsAs new (with_page t name b)
puts_line old new t n name b bs at put room within =
    let bytes : bytes_put new ≡ t.bytes + length b = put.bytes ∙ ap (λ k. k + length b) at.bytes in
    let tags : tags_put new ≡ t.tags + tags_in b = put.tags ∙ ap (λ k. k + tags_in b) at.tags in
    let fits : may_hold (t.bytes + length b) (t.tags + tags_in b) ≡ true =
    small (t.bytes + length b) (t.tags + tags_in b) (subst (λ k. k ≤ MOST_BYTES_PUT) bytes within.0) (subst (λ k. k ≤ MOST_TAGS_PUT) tags within.1) in (
      has_room old t n name b bs at room ∙ (λ i. if fits i then leads (with_page t name b) else stops (breaks n X4)),
      record { stands = put.stands t.pages at.stands; bytes = bytes; tags = tags },
    )

pub passes_line : (s : Session) (t : Standing) (n : ℕ) (name b : List ℕ) (bs : List (List ℕ)) → StandsAs s t → is_one_too_many (names_in s) name ≡ false → IsOver s b
    → effect_of t n (line.Put name) (b ∷ bs) ≡ stops (breaks n X4)
passes_line s t n name b bs at room over =
    let past : may_hold (t.bytes + length b) (t.tags + tags_in b) ≡ false =
    large (t.bytes + length b) (t.tags + tags_in b) (subst (λ k. Passes (k + length b) (t.tags + tags_in b)) at.bytes (subst (λ k. Passes (bytes_put s + length b) (k + tags_in b)) at.tags over)) in
    has_room s t n name b bs at room ∙ (λ i. if past i then leads (with_page t name b) else stops (breaks n X4))

pub fills_line : (s : Session) (t : Standing) (n : ℕ) (name : List ℕ) (bs : List (List ℕ)) → StandsAs s t → is_one_too_many (names_in s) name ≡ true
    → effect_of t n (line.Put name) bs ≡ stops (breaks n X3)
fills_line s t n name bs at full =
    let is : is_one_too_many (names_of t.pages) name ≡ true = ap (λ ns. is_one_too_many ns name) (sym (names_there s t at)) ∙ full in
    λ i. if is i then stops (breaks n X3) else put_effect t n name bs

pub drops_line : (old new : Session) (t : Standing) (n : ℕ) (name : List ℕ) (bs : List (List ℕ)) → StandsAs old t → HasDropped name old new
    → is_there (names_in old) name ≡ true → (effect_of t n (line.Drop name) bs ≡ leads (without_page t name)) × StandsAs new (without_page t name)
drops_line old new t n name bs at dropped there =
    let is : is_there (names_of t.pages) name ≡ true = ap (λ ns. is_there ns name) (sym (names_there old t at)) ∙ there in (
      λ i. if is i then leads (without_page t name) else stops (breaks n X2),
      record { stands = dropped.stands t.pages at.stands; bytes = ap (λ x. x.bytes) dropped.sums ∙ at.bytes; tags = ap (λ x. x.tags) dropped.sums ∙ at.tags },
    )

pub misses_line : (s : Session) (t : Standing) (n : ℕ) (name : List ℕ) (bs : List (List ℕ)) → StandsAs s t → is_there (names_in s) name ≡ false
    → effect_of t n (line.Drop name) bs ≡ stops (breaks n X2)
misses_line s t n name bs at missing =
    let is : is_there (names_of t.pages) name ≡ false = ap (λ ns. is_there ns name) (sym (names_there s t at)) ∙ missing in
    λ i. if is i then leads (without_page t name) else stops (breaks n X2)
