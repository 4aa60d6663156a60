-- The tokens of a content: addresses, roles, schemes and identifiers.
use Rattle.std.proofs.Common.{◌≡◌, ℕ, Bool, true, List, [], ◌∷◌, ◌++◌, map}
use Rattle.std.specs.List.{All, flat_map, list_all}
use Rattle.std.proofs.lemmas.List.Elements.{All-append, All-cons, All-nil, All-weaker}
use Rattle.std.proofs.lemmas.Bool.{and_parts}
use Rattle.ix_base.specs.declared.content.Content.{Content}
use Rattle.ix_base.specs.declared.content.Context.{Context}
use Rattle.ix_base.specs.declared.content.Linkbase.{Linkbase}
use Rattle.ix_base.specs.declared.content.RoleRef.{RoleRef}
use Rattle.instance_lines.specs.Holdings.{all_arcs, all_notes, ref_texts, token_texts}
use Rattle.instance_lines.specs.Lists.{of_option}
use Rattle.instance_out.specs.Proper.{is_full, tokens_fit}
use Rattle.ix_base.specs.PlainContents.{Said, said_of}
use Rattle.targets.specs.ValidSets.{IsClean}
use Rattle.target_contents.specs.Contents.{IsContent}
use Rattle.target_contents.specs.PageSet.{PageSet, base_at, elements}
use Rattle.targets.proofs.BelowLaws.{all-flat}
use Rattle.targets.proofs.FromElements.{all-pass}
use Rattle.targets.proofs.NameFits.{contexts-sound}
use Rattle.targets.proofs.HoldLaws.{IsGood, IsSoundContext}
use Rattle.targets.proofs.RefLaws.{IsGoodLinkbase, IsGoodRole, refs-good}

-- a test that all pass, as what holds of each
pub passed : {X : Type 0} (p : X → Bool) (xs : List X) → list_all p xs ≡ true → All (λ x. p x ≡ true) xs
passed p [] h = All-nil (λ x. p x ≡ true)
passed p (x ∷ xs) h = let parts = and_parts (p x) (list_all p xs) h in All-cons (λ y. p y ≡ true) x xs parts.0 (passed p xs parts.1)

abbrev IsFull : List ℕ → Type 0
IsFull text = is_full text ≡ true

-- the tokens that footnote links have
abbrev pub link_tokens : Said → List (List ℕ)
link_tokens c = map (λ l. l.role) c.notes ++ (flat_map (λ f. f.role ∷ f.lang ∷ []) (all_notes c) ++ map (λ a. a.arcrole) (all_arcs c))

good-full : (xs : List (List ℕ)) → All IsGood xs → All IsFull xs
good-full xs h = All-weaker IsGood IsFull (λ x good. good.full) xs h

linkbase-full : (s : PageSet) (clean : IsClean s) (l : Linkbase) → IsGoodLinkbase s clean l → All IsFull (l.href ∷ of_option l.role)
linkbase-full s clean l h = All-cons IsFull l.href (of_option l.role) h.0.full (good-full (of_option l.role) h.1)

role-full : (s : PageSet) (clean : IsClean s) (r : RoleRef) → IsGoodRole s clean r → All IsFull (ref_texts r)
role-full s clean r h = All-cons IsFull r.uri (r.href ∷ []) h.0.full (All-cons IsFull r.href [] h.1.full (All-nil IsFull))

context-full : (x : Context) → IsSoundContext x → All IsFull (x.scheme ∷ x.identifier ∷ [])
context-full x h = All-cons IsFull x.scheme (x.identifier ∷ []) h.scheme.full (All-cons IsFull x.identifier [] h.identifier.full (All-nil IsFull))

-- addresses, roles, schemes and identifiers are tokens that aren't empty, where those of footnote links are
pub tokens-fit : (s : PageSet) → IsClean s → (target : List ℕ) (c : Content) → IsContent (base_at s) (elements s) target c
    → list_all is_full (link_tokens (said_of c)) ≡ true → tokens_fit (said_of c) ≡ true
unfolding tokens_fit
tokens-fit s clean target c is links =
    let refs = refs-good s clean target c is in
    all-pass is_full (token_texts (said_of c))
    (All-append IsFull c.schemas _ (good-full c.schemas refs.schemas)
    (All-append IsFull (flat_map (λ l. l.href ∷ of_option l.role) c.linkbases) _
    (all-flat (IsGoodLinkbase s clean) IsFull (λ l. l.href ∷ of_option l.role) (linkbase-full s clean) c.linkbases refs.linkbases)
    (All-append IsFull (flat_map ref_texts c.roles) _ (all-flat (IsGoodRole s clean) IsFull ref_texts (role-full s clean) c.roles refs.roles)
    (All-append IsFull (flat_map ref_texts c.arcroles) _ (all-flat (IsGoodRole s clean) IsFull ref_texts (role-full s clean) c.arcroles refs.arcroles)
    (All-append IsFull (flat_map (λ x. x.scheme ∷ x.identifier ∷ []) c.contexts) (link_tokens (said_of c))
    (all-flat IsSoundContext IsFull (λ x. x.scheme ∷ x.identifier ∷ []) context-full c.contexts (contexts-sound s clean target c is))
    (passed is_full (link_tokens (said_of c)) links))))))
