-- What is to be known of a set that takes pages.
use Rattle.std.specs.Coded.{Coded, code_by, coded×, coded_ℕ, coded_list, coded_bool}
use Rattle.std.specs.List.{slice_get}
use Rattle.std.specs.Option.{option_map_or}
use Rattle.std.specs.Prelude.{refl, ◌≡◌, ℕ, suc, Bool, false, List, [], ◌∷◌, map}
use Rattle.ix_base.specs.declared.limits.TheConstants.{DEEPEST_ELEMENT}
use Rattle.ix_base.specs.LocatedElements.{Paged, marked}
use Rattle.ix_base.specs.Sound.{IsSoundRoot}
use Rattle.ix_base.specs.TreeCodes.{tree_code}
use Rattle.ix_base.specs.Trees.{Tree, tree_of}
use Rattle.id_table.specs.Model.{AreChosen, Held}
use Rattle.scopes.specs.Model.{Kept}
use Rattle.page_links.specs.declared.agreeing.PageNames.{PageNames}
use Rattle.page_links.specs.declared.pages.Page.{Page}
use Rattle.page_links.specs.declared.pages.Pages.{Pages}
use Rattle.target_contents.specs.PageSet.{PageSet, page_bases}

-- its pages, and whether memory was wanting
pub record HeldSet : Type 0 where
  pub held : PageSet
  pub is_spent : Bool

abbrev pub as_paged : Page → Paged
as_paged p = record { name = p.name; tree = tree_of p.root.now }

-- the name of the page of this number, and where there is none, that of the page that comes next
abbrev pub names_with : List Page → List ℕ → ℕ → List ℕ
names_with pages next n = option_map_or (λ p. p.name) (slice_get pages n) next

abbrev pub names_of : PageNames → ℕ → List ℕ
names_of names = names_with names.pages.now names.next.now

-- the roots are sound, and of pages numbered on from this number
abbrev pub AreSoundFrom : ℕ → List Page → Type 0
AreSoundFrom n [] = Unit {0}
AreSoundFrom n (p ∷ ps) = IsSoundRoot p.root.now n DEEPEST_ELEMENT × AreSoundFrom (suc n) ps

-- the set has an index of its pages, with the choices that they ask for, and their bases, and their roots are sound
pub record Keeps (base : List ℕ) (pages : List Page) (i : Held) (b : Kept) : Type 0 where
  pub spots : i.spots ≡ marked (map as_paged pages)
  pub unspent : i.is_spent ≡ false
  pub chosen : AreChosen i
  pub bases : b ≡ record { pages = page_bases (record { base = base; pages = map as_paged pages }); is_spent = false }
  pub sound : AreSoundFrom 0 pages

abbrev pub set_of : Pages → PageSet
set_of p = record { base = p.base.now; pages = map as_paged p.pages.now }

abbrev pub KeepsAll : Pages → Type 0
KeepsAll p = Keeps p.base.now p.pages.now p.index.now p.bases.now

-- codes by which proofs tell sets apart
abbrev pub paged_code : Coded Paged
paged_code = code_by (List ℕ × Tree) (coded× (coded_list coded_ℕ) tree_code) (λ p. (p.name, p.tree)) (λ p. record { name = p.0; tree = p.1 }) (λ _. refl)

abbrev pub set_code : Coded PageSet
set_code = code_by (List ℕ × List Paged) (coded× (coded_list coded_ℕ) (coded_list paged_code)) (λ s. (s.base, s.pages))
    (λ p. record { base = p.0; pages = p.1 }) (λ _. refl)

abbrev pub held_code : Coded HeldSet
held_code = code_by (PageSet × Bool) (coded× set_code coded_bool) (λ h. (h.held, h.is_spent)) (λ p. record { held = p.0; is_spent = p.1 }) (λ _. refl)
