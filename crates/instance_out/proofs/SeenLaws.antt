-- A tree denotes one content.
use Rattle.std.proofs.Common.{◌≡◌, ◌∙◌, sym, Some}
use Rattle.ix_base.specs.PlainContents.{said_of}
use Rattle.ix_base.proofs.SaidLaws.{same-content}
use Rattle.instance_out.specs.Theorem.{DenotesOne}

some-one : {A : Type 0} (x y : A) → Some x ≡ Some y → x ≡ y
some-one x y e = cc

pub denotes-one : DenotesOne
denotes-one t c d p q = same-content c d (some-one (said_of c) (said_of d) (sym p ∙ q))
