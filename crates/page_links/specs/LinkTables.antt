-- What is kept of links: the tables of ids and of tuple ids, and how many links are pending and doubled.
use Rattle.std.specs.Prelude.{◌≡◌, ℕ, ◌+◌, ◌-◌, Bool, true, false, List, [], ◌∷◌, length, filter, Option, Some, None, if◌then◌else◌, bytes_eq}
use Rattle.std.specs.Option.{option_map_or}
use Rattle.std.specs.Ordering.{is_lt}
use Rattle.ix_base.specs.Alike.{alike}
use Rattle.ix_base.specs.Ids.{id_of, place_cmp, tuple_id_of}
use Rattle.ix_base.specs.LocatedElements.{Located, is_text, located}
use Rattle.ix_base.specs.Spots.{IsOnOnePage}
use Rattle.text_map.specs.Texts.{Texts, get_in}
use Rattle.page_links.specs.declared.standing.Links.{Links}
use Rattle.page_links.specs.declared.met_ids.Named.{Named}
use Rattle.page_links.specs.declared.agreeing.Standing.{Standing}
use Rattle.page_links.specs.declared.agreeing.Standing.TheVariants as code
use Rattle.page_links.specs.LinkStates.{is_tuple_ref}
use Rattle.link_ids.specs.Links.{Link, links}

-- What is kept of an id: no element has it; some have it and agree, with the first of them by page and offset, and the one that came
-- last; or several have it and don't agree.
pub data Kept : Type 0 where
  none : Kept
  some : (foremost latest : Located) → Kept
  parted : Kept

abbrev pub is_none : Kept → Bool
is_none none = true
is_none k = false

abbrev pub is_parted : Kept → Bool
is_parted parted = true
is_parted k = false

abbrev pub first_kept : Kept → Option Located
first_kept (some x l) = Some x
first_kept k = None

-- the sooner one, by the page's name and then by offset
abbrev pub sooner : (ℕ → List ℕ) → Located → Located → Located
sooner names x y = if is_lt (place_cmp names y x) then y else x

-- with one more element that has the id: it is compared with the one that came last, and with no other
abbrev pub kept_with : (Located → Located → Bool) → (ℕ → List ℕ) → Kept → Located → Kept
kept_with same names none e = some e e
kept_with same names (some x l) e = if same l e then some (sooner names x e) e else parted
kept_with same names parted e = parted

abbrev pub kept_from : (Located → Located → Bool) → (ℕ → List ℕ) → Kept → List Located → Kept
kept_from same names k [] = k
kept_from same names k (e ∷ es) = kept_from same names (kept_with same names k e) es

-- tuples with one tuple id never agree
abbrev pub never : Located → Located → Bool
never x y = false

-- what is to be kept of an id, of those that elements say to be theirs
abbrev pub kept_of : (Located → Located → Bool) → (ℕ → List ℕ) → (Located → Option (List ℕ)) → List Located → List ℕ → Kept
kept_of same names own es id = kept_from same names none (filter (λ e. is_text id (own e)) es)

-- what is to be kept of a link's id among elements with ids and tuples with tuple ids
abbrev pub kept_among : (ℕ → List ℕ) → List Located → List Located → Link → Kept
kept_among names es ts l = if is_tuple_ref l.attribute then kept_of never names tuple_id_of ts l.id else kept_of alike names id_of es l.id

-- What is kept.

abbrev pub kept_in : Standing → Kept
kept_in code.Pending = none
kept_in (code.Resolved r) = some (located r.first.now) (located r.latest.now)
kept_in code.Doubled = parted

-- all that stands above the first is of its page
abbrev pub IsFirstOnPage : Standing → Type 0
IsFirstOnPage (code.Resolved r) = IsOnOnePage r.first.now
IsFirstOnPage s = Unit {0}

-- what is kept of an id, and how many links name it
pub record Known : Type 0 where
  pub kept : Kept
  pub links : ℕ

abbrev pub named_of : Named → Known
named_of n = record { kept = kept_in n.standing; links = n.links }

abbrev pub nothing : Known
nothing = record { kept = none; links = 0 }

-- what is kept of an id, and what is known of it
abbrev pub found_in : Texts Named → List ℕ → Option Named
found_in m q = get_in m q

abbrev pub named_in : Texts Named → List ℕ → Known
named_in m q = option_map_or named_of (found_in m q) nothing

-- the first of each id is on one page
abbrev pub AreFirstOnPages : Texts Named → Type 0
AreFirstOnPages m = (q : List ℕ) (n : Named) → found_in m q ≡ Some n → IsFirstOnPage n.standing

-- one more link names it
abbrev pub named_once_more : Known → Known
named_once_more k = record k { links = k.links + 1 }

pub record Counts : Type 0 where
  pub pending : ℕ
  pub doubled : ℕ

abbrev pub counts_of : Links → Counts
counts_of l = record { pending = l.pending; doubled = l.doubled }

-- when one more element has an id, the links to it are no longer pending, or are doubled, or stand as before
abbrev pub holder_by : Kept → Kept → ℕ → Counts → Counts
holder_by none after n c = record c { pending = c.pending - n }
holder_by (some x l) parted n c = record c { doubled = c.doubled + n }
holder_by before after n c = c

abbrev pub with_holder : Known → Kept → Counts → Counts
with_holder k after c = holder_by k.kept after k.links c

-- one more link names an id
abbrev pub link_by : Kept → Counts → Counts
link_by none c = record c { pending = c.pending + 1 }
link_by (some x l) c = c
link_by parted c = record c { doubled = c.doubled + 1 }

abbrev pub with_link : Known → Counts → Counts
with_link k c = link_by k.kept c

-- the link names this id, or this tuple id
abbrev pub names_id : List ℕ → Link → Bool
names_id q l = if is_tuple_ref l.attribute then false else bytes_eq q l.id

abbrev pub names_tuple_id : List ℕ → Link → Bool
names_tuple_id q l = if is_tuple_ref l.attribute then bytes_eq q l.id else false

-- what is kept of these links, among these elements with ids and these tuples with tuple ids, where the pages have these names
pub record AreLinked (names : ℕ → List ℕ) (es ts : List Located) (ls : List Link) (kept : Links) : Type 0 where
  pub ids : (q : List ℕ) → named_in kept.ids q ≡ record { kept = kept_of alike names id_of es q; links = length (filter (names_id q) ls) }
  pub tuple_ids : (q : List ℕ) → named_in kept.tuple_ids q ≡ record { kept = kept_of never names tuple_id_of ts q; links = length (filter (names_tuple_id q) ls) }
  pub pending : kept.pending ≡ length (filter (λ l. is_none (kept_among names es ts l)) ls)
  pub doubled : kept.doubled ≡ length (filter (λ l. is_parted (kept_among names es ts l)) ls)
  pub pages : AreFirstOnPages kept.ids

-- what is kept of the links of these elements
abbrev pub AreLinks : (ℕ → List ℕ) → List Located → Links → Type 0
AreLinks names es kept = AreLinked names es es (links es) kept

-- it is what is kept of some links
abbrev pub AreSomeLinks : Links → Type 0
AreSomeLinks kept = (names : ℕ → List ℕ) × (es : List Located) × (ts : List Located) × (ls : List Link) × AreLinked names es ts ls kept

-- it is what is kept of the links of some elements
abbrev pub AreOfSome : (ℕ → List ℕ) → Links → Type 0
AreOfSome names kept = (es : List Located) × AreLinks names es kept
