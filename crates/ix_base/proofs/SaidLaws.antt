-- Contents that look equal without where their facts lie are equal.
use Rattle.std.proofs.Common.{◌≡◌, List, [], ◌∷◌, map, refl, ap, ◌∙◌, sym, subst}
use Rattle.ix_base.specs.declared.content.Content.{Content}
use Rattle.ix_base.specs.declared.content.Fact.{Fact}
use Rattle.ix_base.specs.declared.content.Fact.TheVariants as variants
use Rattle.ix_base.specs.declared.content.Fact.TheOpen.{Fact-F}
use Rattle.ix_base.specs.declared.content.Fact.TheFolds.{ind-Fact, map-Fact}
use Rattle.ix_base.specs.declared.content.Fact.TheViews.{roll-Fact, roll-Tuple}
use Rattle.ix_base.specs.declared.content.Item.{Item}
use Rattle.ix_base.specs.declared.content.Tuple.{Tuple}
use Rattle.ix_base.specs.Facts.{Facts, none, item, tuple, before, facts_of}
use Rattle.ix_base.specs.PlainContents.{Said, said_of}
use Rattle.ix_base.proofs.FactLaws.{before-Item, before-Tuple}

-- the facts that look so
abbrev pub facts_from : Facts → List Fact
facts_from none = []
facts_from (item i rest) = variants.Item i ∷ facts_from rest
facts_from (tuple name id nil ms rest) = variants.Tuple (record { name = name; id = id; nil = nil; members = facts_from ms }) ∷ facts_from rest

abbrev IsBack : Fact → Type 0
IsBack f = (rest : Facts) → facts_from (before f rest) ≡ f ∷ facts_from rest

abbrev HasBack : Tuple → Type 0
HasBack t = facts_from (facts_of t.members) ≡ t.members

item-back : (i : Item) → IsBack (variants.Item i)
item-back i rest = ap facts_from (before-Item i rest)

tuple-back : (t : Tuple) → HasBack t → IsBack (variants.Tuple t)
tuple-back t h rest = ap facts_from (before-Tuple t rest) ∙ ap (λ ms. variants.Tuple (record { name = t.name; id = t.id; nil = t.nil; members = ms }) ∷ facts_from rest) h

list-back : (es : List ((f : Fact) × IsBack f)) → facts_from (facts_of (map (λ e. e.0) es)) ≡ map (λ e. e.0) es
list-back [] = refl
list-back (e ∷ es) = e.1 (facts_of (map (λ d. d.0) es)) ∙ ap (λ x. e.0 ∷ x) (list-back es)

fact-back : (f : Fact) → IsBack f
fact-back = ind-Fact IsBack HasBack
    (λ x y is. subst (λ z. IsBack (roll-Fact z)) is (layer y))
    (λ x y is. subst (λ z. HasBack (roll-Tuple z)) is (list-back y.members))
  where
    layer : (y : Fact-F ((f : Fact) × IsBack f) ((t : Tuple) × HasBack t)) → IsBack (roll-Fact (map-Fact ((f : Fact) × IsBack f) ((t : Tuple) × HasBack t) Fact Tuple (λ e. e.0) (λ e. e.0) y))
    layer (Fact-F.Item i) = subst IsBack (sym (variants.rolls-Item i)) (item-back i)
    layer (Fact-F.Tuple e) = subst IsBack (sym (variants.rolls-Tuple e.0)) (tuple-back e.0 e.1)

pub back : (fs : List Fact) → facts_from (facts_of fs) ≡ fs
back [] = refl
back (f ∷ fs) = fact-back f (facts_of fs) ∙ ap (λ x. f ∷ x) (back fs)

-- the content that looks so
abbrev pub content_of : Said → Content
content_of s = record {
  schemas = s.schemas;
  linkbases = s.linkbases;
  roles = s.roles;
  arcroles = s.arcroles;
  contexts = s.contexts;
  units = s.units;
  facts = facts_from s.facts;
  notes = s.notes;
}

pub content-back : (c : Content) → content_of (said_of c) ≡ c
content-back c = ap (λ fs. record c { facts = fs }) (back c.facts)

pub same-facts : (fs gs : List Fact) → facts_of fs ≡ facts_of gs → fs ≡ gs
same-facts fs gs e = sym (back fs) ∙ ap facts_from e ∙ back gs

pub same-content : (c d : Content) → said_of c ≡ said_of d → c ≡ d
same-content c d e = sym (content-back c) ∙ ap content_of e ∙ content-back d

facts-forth : (fs : Facts) → facts_of (facts_from fs) ≡ fs
facts-forth none = refl
facts-forth (item i rest) = before-Item i (facts_of (facts_from rest)) ∙ ap (item i) (facts-forth rest)
facts-forth (tuple name id nil ms rest) =
    before-Tuple (record { name = name; id = id; nil = nil; members = facts_from ms }) (facts_of (facts_from rest))
    ∙ ap (λ x. tuple name id nil x (facts_of (facts_from rest))) (facts-forth ms)
    ∙ ap (tuple name id nil ms) (facts-forth rest)

said-forth : (s : Said) → said_of (content_of s) ≡ s
said-forth s = ap (λ fs. record {
  schemas = s.schemas;
  linkbases = s.linkbases;
  roles = s.roles;
  arcroles = s.arcroles;
  contexts = s.contexts;
  units = s.units;
  facts = fs;
  notes = s.notes;
}) (facts-forth s.facts)

pub some-content : (s : Said) → (c : Content) × (said_of c ≡ s)
some-content s = (content_of s, said-forth s)
