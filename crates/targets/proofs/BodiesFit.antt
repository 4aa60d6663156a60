-- In a content the body of each footnote is the markup of sound nodes.
use Rattle.std.proofs.Common.{subst, sym, suc, ℕ, List, [], ◌∷◌, Some}
use Rattle.std.specs.List.{Contains}
use Rattle.ix_base.specs.declared.content.Content.{Content}
use Rattle.ix_base.specs.declared.content.Footnote.{Footnote}
use Rattle.ix_base.specs.Asks.{asks}
use Rattle.ix_base.specs.Chain.{chain}
use Rattle.ix_base.specs.LocatedElements.{Located, is_continuation}
use Rattle.ix_base.proofs.OnceLemmas.{Contains-first, Contains-later}
use Rattle.footnotes.specs.FootnoteLinks.{footnote_of}
use Rattle.instance_lines.specs.Arrangement.{arranged}
use Rattle.instance_lines.specs.Holdings.{all_notes}
use Rattle.instance_out.specs.Proper.{AreBodies, IsBody}
use Rattle.ix_base.specs.PlainContents.{said_of}
use Rattle.targets.specs.ValidSets.{IsClean}
use Rattle.target_contents.specs.Contents.{IsContent}
use Rattle.target_contents.specs.PageSet.{PageSet, base_at, elements}
use Rattle.targets.proofs.ArcLaws.{note-from}
use Rattle.targets.proofs.BodyLaws.{body-is, children-sound}
use Rattle.targets.proofs.SuchLaws.{chain-from}

all-bodies : (fs : List Footnote) → ((f : Footnote) → Contains fs f → IsBody f.body) → AreBodies fs
all-bodies [] h = tt
all-bodies (f ∷ fs) h = (h f (Contains-first f fs), all-bodies fs (λ x k. h x (Contains-later f fs x k)))

note-body : (s : PageSet) → IsClean s → (e : Located) → Contains (elements s) e → IsBody (footnote_of (base_at s) (asks (elements s)) e).body
note-body s clean e at =
    let es = elements s in
    body-is (λ x. Some (base_at s x)) (chain (asks es) e)
    (λ x h. children-sound 0 s.pages clean.sound x (chain-from es (suc ((asks es).count is_continuation)) e x at h))

pub bodies-fit : (s : PageSet) → IsClean s → (target : List ℕ) (c : Content) → IsContent (base_at s) (elements s) target c
    → AreBodies (all_notes (said_of c))
bodies-fit s clean target c content =
    let es = elements s in
    let g = content.0 in
    subst (λ x. AreBodies (all_notes (said_of x))) (sym content.2)
    (all-bodies (all_notes (said_of (arranged g)))
    (λ f h. let e = note-from (base_at s) es target g content.1 f h in
    subst (λ (x : Footnote). IsBody x.body) e.3 (note-body s clean e.0 e.1)))
