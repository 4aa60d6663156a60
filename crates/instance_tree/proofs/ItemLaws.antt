-- Two elements and no more.
use Rattle.std.proofs.Common.{◌≡◌, refl, true, false, List, [], ◌∷◌, Some, None}
use Rattle.ix_base.specs.Forms.{is_empty}
use Rattle.ix_base.specs.Trees.{Tree}
use Rattle.instance_tree.specs.ReaderWords.{pair_of}

pub pair-is : (ts us vs : List Tree) (t u : Tree) → ts ≡ t ∷ us → us ≡ u ∷ vs → true ≡ is_empty vs → Some (t, u) ≡ pair_of ts
pair-is ts us [] t u e f h = rw (e, f) refl
pair-is ts us (v ∷ vs) t u e f h = absurd (cc)

pub pair-not : (ts us vs : List Tree) (t u : Tree) → ts ≡ t ∷ us → us ≡ u ∷ vs → false ≡ is_empty vs → None ≡ pair_of ts
pair-not ts us [] t u e f h = absurd (cc)
pair-not ts us (v ∷ vs) t u e f h = rw (e, f) refl
