-- Every tree of a page is sound.
use Rattle.std.proofs.Common.{ℕ, true, List, [], ◌∷◌, length, is_none, sym, subst}
use Rattle.ix_base.specs.Trees.{Tree}
use Rattle.ix_base.specs.Sound.{IsSoundTree, Rise}
use Rattle.page_text.specs.Characters.{stop}
use Rattle.page_constructs.specs.Constructs.{Construct, cut, text_of}
use Rattle.page_tree.specs.Page.{AllMean, page}
use Rattle.page_constructs.specs.Tokens.{Token}
use Rattle.page_tree.proofs.PageMarks.{page-climbs, page-allowed}
use Rattle.page_tree.proofs.RisingOffsets.{climb-rise, cut-climbs, tokens-climb, tag_offsets, page-offsets}
use Rattle.page_tree.proofs.SoundCuts.{AreAllowed, cut-allowed}
use Rattle.page_tree.proofs.SoundTokens.{means-formed}
use Rattle.page_tree.proofs.SoundTrees.{AreFormed, page-nodes-sound}

tokens-formed : (cs : List Construct) (ts : List Token) → AllMean cs ts → AreAllowed cs → AreFormed ts
tokens-formed [] [] m a = tt
tokens-formed [] (t ∷ ts) m a = absurd m
tokens-formed (c ∷ cs) [] m a = absurd m
tokens-formed (c ∷ cs) (t ∷ ts) m a = (means-formed c.kind c.start c.text t m.0 a.0, tokens-formed cs ts m.1 a.1)

pub page-sound : (b : List ℕ) (n : ℕ) (t : Tree) → page b n t → IsSoundTree t n
page-sound b n t p =
    let formed = tokens-formed (cut b).constructs p.tokens p.mean (cut-allowed (length (text_of b)) (is_none (stop b)) true (text_of b) (page-allowed b)) in
    let climbs = tokens-climb 0 (cut b).constructs p.tokens p.mean (cut-climbs (length (text_of b)) 0 (is_none (stop b)) true (text_of b) (page-climbs b)) in
    record {
      nodes = page-nodes-sound t n p.tokens formed p.spell;
      offsets = subst Rise (sym (page-offsets t n p.tokens p.spell)) (climb-rise 0 (tag_offsets p.tokens) climbs);
    }
