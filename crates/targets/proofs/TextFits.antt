-- The texts of a content are of allowed characters.
use Rattle.std.proofs.Common.{◌≡◌, sym, subst, refl, ℕ, true, List, [], ◌∷◌, ◌++◌, Option, None, Some, map, codes}
use Rattle.std.specs.List.{All, flat_map, list_all}
use Rattle.std.specs.Prelude.{unwrap_or}
use Rattle.std.proofs.lemmas.List.Elements.{All-append, All-cons, All-nil, All-weaker}
use Rattle.ix_base.specs.declared.content.Content.{Content}
use Rattle.ix_base.specs.declared.content.Context.{Context}
use Rattle.ix_base.specs.declared.content.Dim.{Dim}
use Rattle.ix_base.specs.declared.content.Item.{Item}
use Rattle.ix_base.specs.declared.content.Linkbase.{Linkbase}
use Rattle.ix_base.specs.declared.content.Member.{Member}
use Rattle.ix_base.specs.declared.content.Member.TheVariants as member
use Rattle.ix_base.specs.declared.content.OwnName.{OwnName}
use Rattle.ix_base.specs.declared.content.RoleRef.{RoleRef}
use Rattle.ix_base.specs.declared.content.Unit.{Unit as UnitContent}
use Rattle.ix_base.specs.declared.kind.Kind.{Kind}
use Rattle.ix_base.specs.declared.kind.Kind.TheVariants as kind
use Rattle.ix_base.specs.Asks.{asks}
use Rattle.ix_base.specs.Facts.{facts_of}
use Rattle.ix_base.specs.Kinds.{kind_of}
use Rattle.ix_base.specs.NcName.{are_allowed}
use Rattle.ix_base.specs.Readers.{is_nil, token_at, unit_of}
use Rattle.ix_base.specs.Trees.{Tree}
use Rattle.facts.specs.ItemValue.{item_text}
use Rattle.instance_lines.specs.Holdings.{accuracy_texts, all_names, all_texts, context_texts, fact_ids, item_texts, items_in, link_texts, member_texts, ref_texts, value_texts}
use Rattle.instance_lines.specs.Lists.{of_option}
use Rattle.instance_out.specs.Proper.{texts_fit}
use Rattle.ix_base.specs.PlainContents.{said_of}
use Rattle.targets.specs.ValidSets.{IsClean}
use Rattle.target_contents.specs.Contents.{IsContent}
use Rattle.target_contents.specs.PageSet.{PageSet, base_at, elements}
use Rattle.targets.proofs.AllowedLaws.{allowed-nil, ncname-allowed}
use Rattle.targets.proofs.AsciiLaws.{accuracy-allowed}
use Rattle.targets.proofs.BelowLaws.{all-flat}
use Rattle.targets.proofs.FromElements.{FromItem, FromTuple, all-pass, every-id, every-item, every-weaker, facts-from}
use Rattle.targets.proofs.MarkupTexts.{IsAllowed}
use Rattle.targets.proofs.NameFits.{contexts-sound, names-sound, units-sound}
use Rattle.targets.proofs.NumberFits.{number-says}
use Rattle.targets.proofs.HoldLaws.{IsGood, IsSoundContext, IsSoundDim, IsSoundMember, IsSoundOwn, IsSoundUnit}
use Rattle.targets.proofs.RefLaws.{IsGoodLinkbase, IsGoodRole, all-map, refs-good}
use Rattle.targets.proofs.SoundLaws.{IsSoundAt, sound-at, token-sound}
use Rattle.targets.proofs.TokenFits.{passed}
use Rattle.targets.proofs.ValueTexts.{raw-allowed, values-by}

-- References, contexts and names.

good-allowed : (xs : List (List ℕ)) → All IsGood xs → All IsAllowed xs
good-allowed xs h = All-weaker IsGood IsAllowed (λ x good. good.allowed) xs h

linkbase-allowed : (s : PageSet) (clean : IsClean s) (l : Linkbase) → IsGoodLinkbase s clean l → All IsAllowed (l.href ∷ of_option l.role)
linkbase-allowed s clean l h = All-cons IsAllowed l.href (of_option l.role) h.0.allowed (good-allowed (of_option l.role) h.1)

role-allowed : (s : PageSet) (clean : IsClean s) (r : RoleRef) → IsGoodRole s clean r → All IsAllowed (ref_texts r)
role-allowed s clean r h = All-cons IsAllowed r.uri (r.href ∷ []) h.0.allowed (All-cons IsAllowed r.href [] h.1.allowed (All-nil IsAllowed))

member-allowed : (m : Member) → IsSoundMember m → All IsAllowed (member_texts m)
member-allowed (member.Explicit n) h = All-nil IsAllowed
member-allowed (member.Typed n text) h = All-cons IsAllowed text [] h.1 (All-nil IsAllowed)

dims-allowed : (ds : List Dim) → All IsSoundDim ds → All IsAllowed (flat_map (λ d. member_texts d.member) ds)
dims-allowed ds h = all-flat IsSoundDim IsAllowed (λ d. member_texts d.member) (λ d k. member-allowed d.member k.1) ds h

context-allowed : (x : Context) → IsSoundContext x → All IsAllowed (context_texts x)
context-allowed x h =
    let segment = flat_map (λ d. member_texts d.member) x.segment in
    let scenario = flat_map (λ d. member_texts d.member) x.scenario in
    All-cons IsAllowed x.id (x.scheme ∷ x.identifier ∷ (segment ++ scenario)) (ncname-allowed x.id h.id)
    (All-cons IsAllowed x.scheme (x.identifier ∷ (segment ++ scenario)) h.scheme.allowed
    (All-cons IsAllowed x.identifier (segment ++ scenario) h.identifier.allowed
    (All-append IsAllowed segment scenario (dims-allowed x.segment h.segment) (dims-allowed x.scenario h.scenario))))

units-allowed : (us : List UnitContent) → All IsSoundUnit us → All IsAllowed (map (λ u. u.id) us)
units-allowed us h = all-map IsSoundUnit IsAllowed (λ u. u.id) (λ u k. ncname-allowed u.id k.id) us h

name-texts : (n : OwnName) → IsSoundOwn n → All IsAllowed (n.ns ∷ n.local ∷ [])
name-texts n h = All-cons IsAllowed n.ns (n.local ∷ []) h.allowed (All-cons IsAllowed n.local [] (ncname-allowed n.local h.local) (All-nil IsAllowed))

-- Facts.

token-option : (t : Tree) (local : List ℕ) → IsSoundAt t → All IsAllowed (of_option (token_at local t))
token-option t local h = by (token_at local t) refl
  where
    by : (o : Option (List ℕ)) → token_at local t ≡ o → All IsAllowed (of_option o)
    by None e = All-nil IsAllowed
    by (Some v) e = All-cons IsAllowed v [] (token-sound t local v h e) (All-nil IsAllowed)

token-or : (t : Tree) (local : List ℕ) → IsSoundAt t → IsAllowed (unwrap_or (token_at local t) [])
token-or t local h = by (token_at local t) refl
  where
    by : (o : Option (List ℕ)) → token_at local t ≡ o → IsAllowed (unwrap_or o [])
    by None e = allowed-nil
    by (Some v) e = token-sound t local v h e

unit-option : (k : Kind) (t : Tree) → IsSoundAt t → All IsAllowed (of_option (unit_of k t))
unit-option kind.NonFraction t h = token-option t (codes "unitRef") h
unit-option kind.Fraction t h = token-option t (codes "unitRef") h
unit-option k t h = All-nil IsAllowed

module _ (s : PageSet) (clean : IsClean s) where
  abbrev Says : Item → Type 0
  Says = FromItem (base_at s) (elements s)

  item-allowed : (i : Item) → Says i → All IsAllowed (item_texts i)
  item-allowed i (e, at, is, says) =
      let t = e.placed.tree in
      let k = kind_of e.placed in
      let sound = sound-at s clean e at in
      let context : IsAllowed i.context = subst (λ (j : Item). IsAllowed j.context) (sym says.1) (token-or t (codes "contextRef") sound) in
      let unit : All IsAllowed (of_option i.unit) = subst (λ (j : Item). All IsAllowed (of_option j.unit)) (sym says.1) (unit-option k t sound) in
      let exact = accuracy-allowed i.unit i.value i.accuracy (number-says s clean i (e, at, is, says)) in
      let id : All IsAllowed (of_option i.id) = subst (λ (j : Item). All IsAllowed (of_option j.id)) (sym says.1) (token-option t (codes "id") sound) in
      let texts = values-by k (item_text (base_at s) (asks (elements s)) e) t i.value (is_nil t) (raw-allowed s clean e at) says.0 in
      All-cons IsAllowed i.context (of_option i.unit ++ (accuracy_texts i.accuracy ++ (of_option i.id ++ value_texts i.value))) context
      (All-append IsAllowed (of_option i.unit) (accuracy_texts i.accuracy ++ (of_option i.id ++ value_texts i.value)) unit
      (All-append IsAllowed (accuracy_texts i.accuracy) (of_option i.id ++ value_texts i.value) exact
      (All-append IsAllowed (of_option i.id) (value_texts i.value) id texts)))

  item-id : (i : Item) → Says i → All IsAllowed (of_option i.id)
  item-id i (e, at, is, says) =
      subst (λ (j : Item). All IsAllowed (of_option j.id)) (sym says.1) (token-option e.placed.tree (codes "id") (sound-at s clean e at))

  tuple-id : (name : OwnName) (id : Option (List ℕ)) → FromTuple (base_at s) (elements s) name id → All IsAllowed (of_option id)
  tuple-id name id (e, at, is, n, i) =
      subst (λ o. All IsAllowed (of_option o)) (sym i) (token-option e.placed.tree (codes "id") (sound-at s clean e at))

  items-allowed : (target : List ℕ) (c : Content) → IsContent (base_at s) (elements s) target c → All IsAllowed (flat_map item_texts (items_in (facts_of c.facts)))
  items-allowed target c is =
      all-flat Says IsAllowed item_texts item-allowed (items_in (facts_of c.facts))
      (every-item Says (FromTuple (base_at s) (elements s)) (facts_of c.facts) (facts-from (base_at s) (elements s) target c is))

  ids-allowed : (target : List ℕ) (c : Content) → IsContent (base_at s) (elements s) target c → All IsAllowed (fact_ids (facts_of c.facts))
  ids-allowed target c is =
      every-id IsAllowed (facts_of c.facts)
      (every-weaker Says (λ i. All IsAllowed (of_option i.id)) (FromTuple (base_at s) (elements s)) (λ name id. All IsAllowed (of_option id))
      item-id tuple-id (facts_of c.facts) (facts-from (base_at s) (elements s) target c is))

-- texts are of allowed characters, where those of footnote links are
pub texts-fit : (s : PageSet) → IsClean s → (target : List ℕ) (c : Content) → IsContent (base_at s) (elements s) target c
    → list_all are_allowed (flat_map link_texts c.notes) ≡ true → texts_fit (said_of c) ≡ true
unfolding texts_fit
texts-fit s clean target c is links =
    let refs = refs-good s clean target c is in
    all-pass are_allowed (all_texts (said_of c))
    (All-append IsAllowed c.schemas _ (good-allowed c.schemas refs.schemas)
    (All-append IsAllowed (flat_map (λ l. l.href ∷ of_option l.role) c.linkbases) _
    (all-flat (IsGoodLinkbase s clean) IsAllowed (λ l. l.href ∷ of_option l.role) (linkbase-allowed s clean) c.linkbases refs.linkbases)
    (All-append IsAllowed (flat_map ref_texts c.roles) _ (all-flat (IsGoodRole s clean) IsAllowed ref_texts (role-allowed s clean) c.roles refs.roles)
    (All-append IsAllowed (flat_map ref_texts c.arcroles) _ (all-flat (IsGoodRole s clean) IsAllowed ref_texts (role-allowed s clean) c.arcroles refs.arcroles)
    (All-append IsAllowed (flat_map context_texts c.contexts) _
    (all-flat IsSoundContext IsAllowed context_texts context-allowed c.contexts (contexts-sound s clean target c is))
    (All-append IsAllowed (map (λ u. u.id) c.units) _ (units-allowed c.units (units-sound s clean target c is))
    (All-append IsAllowed (flat_map item_texts (items_in (facts_of c.facts))) _ (items-allowed s clean target c is)
    (All-append IsAllowed (fact_ids (facts_of c.facts)) _ (ids-allowed s clean target c is)
    (All-append IsAllowed (flat_map link_texts c.notes) (flat_map (λ n. n.ns ∷ n.local ∷ []) (all_names (said_of c)))
    (passed are_allowed (flat_map link_texts c.notes) links)
    (all-flat IsSoundOwn IsAllowed (λ n. n.ns ∷ n.local ∷ []) name-texts (all_names (said_of c)) (names-sound s clean target c is)))))))))))
