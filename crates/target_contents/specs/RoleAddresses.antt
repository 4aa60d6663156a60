-- Roles that have two addresses, told by what was seen of each as the references to it came.
use Rattle.std.specs.Prelude.{◌≡◌, ◌||◌, ◌&&◌, not, ℕ, Bool, false, List, [], ◌∷◌, map, filter, Option, Some, None, bytes_eq, option_map}
use Rattle.text_map.specs.Texts.{Texts, get_in}
use Rattle.ix_base.specs.declared.content.RoleRef.{RoleRef}
use Rattle.ix_base.specs.declared.kind.Kind.{Kind}
use Rattle.ix_base.specs.declared.kind.Kind.TheVariants as kind
use Rattle.ix_base.specs.LinkRules.{address_of, uri_of}
use Rattle.ix_base.specs.LocatedElements.{Located, is_kind, is_text}
use Rattle.target_contents.specs.declared.addresses.SeenRoles.{SeenRoles}
use Rattle.target_contents.specs.declared.addresses.Seen.{Seen}

-- what was seen of the role with this URI
abbrev pub seen_at : Texts Seen → List ℕ → Option Seen
seen_at m q = get_in m q

-- what is seen with one more address
abbrev pub seen_with : Option Seen → List ℕ → Seen
seen_with None address = record { address = address; differs = false }
seen_with (Some s) address = record { address = s.address; differs = s.differs || not (bytes_eq s.address address) }

-- what is seen with these addresses, one after another
abbrev pub seen_from : Option Seen → List (List ℕ) → Option Seen
seen_from o [] = o
seen_from o (x ∷ xs) = seen_from (Some (seen_with o x)) xs

-- a reference of this kind to the role with this URI
abbrev pub refers_to : Kind → List ℕ → Located → Bool
refers_to k q e = is_kind k e && is_text q (uri_of e)

-- the table has what is seen of each role with the addresses of these elements
abbrev pub AreSeen : Kind → (Located → List ℕ) → List Located → Texts Seen → Type 0
AreSeen k bases es m = (q : List ℕ) → seen_at m q ≡ seen_from None (map (address_of bases) (filter (refers_to k q) es))

-- both tables have what is seen with the addresses of these elements
pub record SeesAll (bases : Located → List ℕ) (es : List Located) (r : SeenRoles) : Type 0 where
  pub roles : AreSeen kind.RoleRef bases es r.roles
  pub arcroles : AreSeen kind.ArcroleRef bases es r.arcroles

-- the reference for the role with this URI, by what was seen of it
abbrev pub role_seen : Texts Seen → List ℕ → Option RoleRef
role_seen m q = option_map (λ s. record { uri = q; href = s.address }) (seen_at m q)
