-- Numbers in attributes and values, and their forms.
use Rattle.std.proofs.Common.{◌≡◌, refl, true, false, [], ◌∷◌, map, codes}
use Rattle.ix_base.specs.Forms.{is_scale, is_precision, integer_form, is_canonical_decimal, is_normal_integer}
use Rattle.ix_base.specs.Token.{token_of}

scales : map is_scale (codes "-100" ∷ codes "100" ∷ codes "101" ∷ codes "+5" ∷ codes "-0" ∷ codes " 7 " ∷ codes "0000000000000000000000000000000000000000" ∷ codes "1.0" ∷ codes "-" ∷ codes "" ∷ [])
    ≡ true ∷ true ∷ false ∷ true ∷ true ∷ true ∷ true ∷ false ∷ false ∷ false ∷ []
unfolding token_of
scales = refl

precisions : map is_precision (codes "INF" ∷ codes "+3" ∷ codes "-0" ∷ codes "-1" ∷ codes "3.0" ∷ []) ≡ true ∷ true ∷ true ∷ false ∷ false ∷ []
unfolding token_of
precisions = refl

integers : map integer_form (codes "+5" ∷ codes "-0" ∷ codes "007" ∷ codes "-007" ∷ codes "0" ∷ [])
    ≡ codes "5" ∷ codes "0" ∷ codes "7" ∷ codes "-7" ∷ codes "0" ∷ []
integers = refl

decimals : map is_canonical_decimal (codes "0" ∷ codes "-0" ∷ codes "0.5" ∷ codes "-0.5" ∷ codes ".5" ∷ codes "1.50" ∷ codes "1." ∷ codes "00" ∷ codes "+1" ∷ codes "10" ∷ codes "" ∷ [])
    ≡ true ∷ false ∷ true ∷ true ∷ false ∷ false ∷ false ∷ false ∷ false ∷ true ∷ false ∷ []
decimals = refl

normal : map is_normal_integer (codes "-2" ∷ codes "0" ∷ codes "-0" ∷ codes "02" ∷ codes "2.5" ∷ []) ≡ true ∷ true ∷ false ∷ false ∷ false ∷ []
normal = refl
