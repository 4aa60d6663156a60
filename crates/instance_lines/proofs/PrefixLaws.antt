-- Prefixes of namespaces.
use Rattle.std.proofs.Common.{◌≡◌, ◌∙◌, ap, sym, refl, ℕ, Bool, true, false, cond, List, [], ◌∷◌, ◌++◌, Option, Some, None, is_some, unwrap_or, bytes_eq, append_assoc, codes}
use Rattle.std.proofs.lemmas.Slice.Eq.{bytes_eq-Decides}
use Rattle.std.specs.declared.cmp.Ordering.{Ordering}
use Rattle.std.specs.declared.cmp.Ordering.TheVariants.{Less, Equal, Greater}
use Rattle.std.specs.Ordering.{is_eq}
use Rattle.std.proofs.lemmas.Map.Text.{is_eq-slice_cmp}
use Rattle.ix_base.specs.Namespaces.{xml_namespace, iso4217_namespace, link_namespace, xbrldi_namespace, xbrli_namespace, xlink_namespace, xsi_namespace}
use Rattle.ix_base.specs.Once.{put, in_order}
use Rattle.ix_base.specs.SortedLists.{text_cmp}
use Rattle.ix_base.specs.declared.content.OwnName.{OwnName}
use Rattle.ix_base.specs.Trees.{Bound}
use Rattle.instance_lines.specs.Prefixes.{fixed, prefix_in, is_known, qualified, with_space, spaces_of, xml}
use Rattle.instance_lines.specs.SpelledNames.{start_in}
use Rattle.instance_lines.specs.Tables.{own_spaces}

-- the prefixes that are always bound, and their namespaces
pub bound_are : xml ∷ fixed
    ≡ record { prefix = codes "xml"; ns = codes "http://www.w3.org/XML/1998/namespace" }
    ∷ record { prefix = codes "iso4217"; ns = codes "http://www.xbrl.org/2003/iso4217" }
    ∷ record { prefix = codes "link"; ns = codes "http://www.xbrl.org/2003/linkbase" }
    ∷ record { prefix = codes "xbrldi"; ns = codes "http://xbrl.org/2006/xbrldi" }
    ∷ record { prefix = codes "xbrli"; ns = codes "http://www.xbrl.org/2003/instance" }
    ∷ record { prefix = codes "xlink"; ns = codes "http://www.w3.org/1999/xlink" }
    ∷ record { prefix = codes "xsi"; ns = codes "http://www.w3.org/2001/XMLSchema-instance" }
    ∷ []
unfolding fixed xml iso4217_namespace link_namespace xbrldi_namespace xbrli_namespace xlink_namespace xml_namespace xsi_namespace
bound_are = refl

start_in-by : (t : Bool) (p : List ℕ) (o more : Option (List ℕ)) (r : Option (List ℕ)) → cond t (Some p) o ≡ r → (o ≡ r → more ≡ r) → cond t (Some p) more ≡ r
start_in-by true p o more r e f = e
start_in-by false p o more r e f = f e

-- a start that is found stays the first
pub start_in-found : (bs cs : List Bound) (space s : List ℕ) → start_in bs space ≡ Some s → start_in (bs ++ cs) space ≡ Some s
start_in-found [] cs space s e = absurd (cc)
start_in-found (b ∷ bs) cs space s e = start_in-by (bytes_eq space b.ns) (b.prefix ++ 58 ∷ []) (start_in bs space) (start_in (bs ++ cs) space) (Some s) e (start_in-found bs cs space s)

-- and where there is none, the others are looked through
pub start_in-missed : (bs cs : List Bound) (space : List ℕ) → start_in bs space ≡ None → start_in (bs ++ cs) space ≡ start_in cs space
start_in-missed [] cs space e = refl
start_in-missed (b ∷ bs) cs space e = later (bytes_eq space b.ns) e (start_in-missed bs cs space)
  where
    later : (t : Bool) → cond t (Some (b.prefix ++ 58 ∷ [])) (start_in bs space) ≡ None → (start_in bs space ≡ None → start_in (bs ++ cs) space ≡ start_in cs space)
        → cond t (Some (b.prefix ++ 58 ∷ [])) (start_in (bs ++ cs) space) ≡ start_in cs space
    later true e f = absurd (cc)
    later false e f = f e

-- a name behind its prefix and the colon
pub started : (bs : List Bound) (space local : List ℕ) → unwrap_or (start_in bs space) [] ++ local ≡ qualified (prefix_in bs space) local
started [] space local = refl
started (b ∷ bs) space local = by (bytes_eq space b.ns) (started bs space local)
  where
    by : (t : Bool) → unwrap_or (start_in bs space) [] ++ local ≡ qualified (prefix_in bs space) local
        → unwrap_or (cond t (Some (b.prefix ++ 58 ∷ [])) (start_in bs space)) [] ++ local ≡ qualified (cond t (Some b.prefix) (prefix_in bs space)) local
    by true e = append_assoc b.prefix (58 ∷ []) local
    by false e = e

-- what has a prefix has a start
pub has_start : (bs : List Bound) (space : List ℕ) → is_some (start_in bs space) ≡ is_some (prefix_in bs space)
has_start [] space = refl
has_start (b ∷ bs) space = by (bytes_eq space b.ns) (has_start bs space)
  where
    by : (t : Bool) → is_some (start_in bs space) ≡ is_some (prefix_in bs space)
        → is_some (cond t (Some (b.prefix ++ 58 ∷ [])) (start_in bs space)) ≡ is_some (cond t (Some b.prefix) (prefix_in bs space))
    by true e = refl
    by false e = e

pub bytes_eq-sym : (xs ys : List ℕ) → bytes_eq xs ys ≡ bytes_eq ys xs
bytes_eq-sym xs ys = by (bytes_eq xs ys) (bytes_eq ys xs) refl refl
  where
    by : (s t : Bool) → bytes_eq xs ys ≡ s → bytes_eq ys xs ≡ t → bytes_eq xs ys ≡ bytes_eq ys xs
    by true true e f = e ∙ sym f
    by false false e f = e ∙ sym f
    by true false e f = e ∙ sym ((bytes_eq-Decides ys xs).1 (sym ((bytes_eq-Decides xs ys).0 e)))
    by false true e f = (bytes_eq-Decides xs ys).1 (sym ((bytes_eq-Decides ys xs).0 f)) ∙ sym f

-- one more namespace, in order
put-with_space : (s : List ℕ) (ss : List (List ℕ)) → with_space s ss ≡ put text_cmp s ss
put-with_space s [] = refl
put-with_space s (t ∷ ss) = by (text_cmp s t) refl (put-with_space s ss)
  where
    by : (r : Ordering) → text_cmp s t ≡ r → with_space s ss ≡ put text_cmp s ss → with_space s (t ∷ ss) ≡ put text_cmp s (t ∷ ss)
    by Less e ih = let q : bytes_eq s t ≡ false = sym (is_eq-slice_cmp s t) ∙ ap is_eq e in rw (q, e) refl
    by Equal e ih = let q : bytes_eq s t ≡ true = sym (is_eq-slice_cmp s t) ∙ ap is_eq e in rw (q, e) refl
    by Greater e ih = let q : bytes_eq s t ≡ false = sym (is_eq-slice_cmp s t) ∙ ap is_eq e in rw (q, e) (ap (λ l. t ∷ l) ih)

-- the namespaces of names are those in order, each once
pub spaces_of-in_order : (names : List OwnName) → in_order text_cmp (own_spaces names) ≡ spaces_of names
unfolding in_order
spaces_of-in_order [] = refl
spaces_of-in_order (n ∷ ns) = by (is_known n.ns) (spaces_of-in_order ns)
  where
    by : (b : Bool) → in_order text_cmp (own_spaces ns) ≡ spaces_of ns
        → in_order text_cmp (cond b (own_spaces ns) (n.ns ∷ own_spaces ns)) ≡ cond b (spaces_of ns) (with_space n.ns (spaces_of ns))
    by true e = e
    by false e = ap (put text_cmp n.ns) e ∙ sym (put-with_space n.ns (spaces_of ns))
