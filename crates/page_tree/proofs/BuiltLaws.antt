-- What all has that is built, as elements are opened and put into each other.
use Rattle.std.proofs.Common.{◌≡◌, List, [], ◌∷◌, ◌++◌, flat_map, sym, ap, ◌∙◌, append-nil, Option, Some, None, IfSome}
use Rattle.std.specs.Borrow.{Bor}
use Rattle.std.specs.Prelude.{All}
use Rattle.std.proofs.lemmas.Grind.{flat_map-append}
use Rattle.std.proofs.lemmas.List.Elements.{All-nil, All-cons, All-head, All-tail, All-append, All-same}
use Rattle.ix_base.specs.declared.tree.Element.{Element}
use Rattle.page_tree.specs.Stacks.{built, under}
use Rattle.page_tree.specs.declared.opened.Open.{Open}

module _ {X : Type 0} (P : X → Type 0) where
  pub all-left : (xs ys : List X) → All P (xs ++ ys) → All P xs
  all-left [] ys h = All-nil P
  all-left (x ∷ xs) ys h = All-cons P x xs (All-head P x (xs ++ ys) h) (all-left xs ys (All-tail P x (xs ++ ys) h))

  pub all-right : (xs ys : List X) → All P (xs ++ ys) → All P ys
  all-right [] ys h = h
  all-right (x ∷ xs) ys h = all-right xs ys (All-tail P x (xs ++ ys) h)

module _ {X : Type 0} (of : Element → List X) (open_of : Open → List X) where
  -- the innermost open element is the last
  pub snoc : (all rest : List Open) (o : Open) → all ≡ rest ++ o ∷ []
      → flat_map open_of all ≡ flat_map open_of rest ++ open_of o
  snoc all rest o a =
      ap (flat_map open_of) a ∙ flat_map-append open_of rest (o ∷ []) ∙ ap (λ p. flat_map open_of rest ++ p) (append-nil (open_of o))

  pub same-last : (all rest more : List Open) (old new : Open) → all ≡ rest ++ old ∷ [] → more ≡ rest ++ new ∷ []
      → open_of new ≡ open_of old → flat_map open_of more ≡ flat_map open_of all
  same-last all rest more old new a m e =
      snoc more rest new m ∙ ap (λ p. flat_map open_of rest ++ p) e ∙ sym (snoc all rest old a)

  module _ (P : X → Type 0) where
    pub same-built : (os us : List Open) (root : Option (Bor Element)) → flat_map open_of us ≡ flat_map open_of os
        → All P (built of open_of os root) → All P (built of open_of us root)
    same-built os us root e h = All-same P _ _ (ap (λ p. p ++ under of root) e) h

    -- with the innermost open element and without it
    pub more-built : (all rest : List Open) (o : Open) (root : Option (Bor Element)) → all ≡ rest ++ o ∷ [] → All P (open_of o)
        → All P (built of open_of rest root) → All P (built of open_of all root)
    more-built all rest o root a own h =
        All-same P _ _ (ap (λ p. p ++ under of root) (snoc all rest o a))
        (All-append P (flat_map open_of rest ++ open_of o) (under of root)
        (All-append P (flat_map open_of rest) (open_of o) (all-left P (flat_map open_of rest) (under of root) h) own)
        (all-right P (flat_map open_of rest) (under of root) h))

    fewer : (all rest : List Open) (o : Open) (root : Option (Bor Element)) → all ≡ rest ++ o ∷ [] → All P (built of open_of all root)
        → All P ((flat_map open_of rest ++ open_of o) ++ under of root)
    fewer all rest o root a h = All-same P _ _ (ap (λ p. p ++ under of root) (sym (snoc all rest o a))) h

    pub fewer-built : (all rest : List Open) (o : Open) (root : Option (Bor Element)) → all ≡ rest ++ o ∷ []
        → All P (built of open_of all root) → All P (built of open_of rest root)
    fewer-built all rest o root a h =
        let f = fewer all rest o root a h in
        let both = all-left P (flat_map open_of rest ++ open_of o) (under of root) f in
        All-append P (flat_map open_of rest) (under of root) (all-left P (flat_map open_of rest) (open_of o) both)
        (all-right P (flat_map open_of rest ++ open_of o) (under of root) f)

    pub last-built : (all rest : List Open) (o : Open) (root : Option (Bor Element)) → all ≡ rest ++ o ∷ []
        → All P (built of open_of all root) → All P (open_of o)
    last-built all rest o root a h =
        let both = all-left P (flat_map open_of rest ++ open_of o) (under of root) (fewer all rest o root a h) in
        all-right P (flat_map open_of rest) (open_of o) both

    -- an element goes to the one that it stands in
    pub put-built : (all rest more : List Open) (old new : Open) (e : Bor Element) (root : Option (Bor Element)) → all ≡ rest ++ old ∷ []
        → more ≡ rest ++ new ∷ [] → open_of new ≡ open_of old ++ of e.now → All P (of e.now)
        → All P (built of open_of all root) → All P (built of open_of more root)
    put-built all rest more old new e root a m s h k =
        more-built more rest new root m
        (All-same P _ _ s (All-append P (open_of old) (of e.now) (last-built all rest old root a k) h))
        (fewer-built all rest old root a k)

    pub root-built : (root : Option (Bor Element)) (os : List Open) → All P (built of open_of os root)
        → IfSome root (λ e. All P (of e.now))
    root-built None os h = tt
    root-built (Some e) os h = all-right P (flat_map open_of os) (of e.now) h

    -- an element is opened
    pub open-built : (all mid more : List Open) (o : Open) (root : Option (Bor Element)) → flat_map open_of mid ≡ flat_map open_of all
        → more ≡ mid ++ o ∷ [] → All P (open_of o) → All P (built of open_of all root) → All P (built of open_of more root)
    open-built all mid more o root e m own h = more-built more mid o root m own (same-built all mid root e h)
