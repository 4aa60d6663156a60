-- What is left of a number with a unit, phase by phase, and how one character more leads from one to the other.
use Rattle.std.proofs.Common.{◌≡◌, ℕ, ◌||◌, not, IsTrue, List, [], ◌∷◌, ◌++◌, refl, sym, ap, ◌∙◌, inl, inr}
use Rattle.std.proofs.lemmas.List.{append-nil}
use Rattle.tr4_numbers.specs.declared.NumberFormat.{NumberFormat}
use Rattle.tr4_numbers.specs.Transformation.{is_digit, is_space, is_line, may_part, Follow, AreOthers, HasWord, AreCents, two, IsUnits, IsBetween}

-- others, then one or two digits, then others
pub record Cents (cs v : List ℕ) : Type 0 where
  pub between : List ℕ
  pub cents : List ℕ
  pub rest : List ℕ
  pub others : AreOthers between
  pub are_cents : AreCents cents
  pub others_rest : AreOthers rest
  pub text_is : cs ≡ between ++ (cents ++ rest)
  pub value_is : v ≡ 46 ∷ two cents

-- the rest after one of the first digits
pub record Sums (f : NumberFormat) (cs v : List ℕ) : Type 0 where
  pub digits : List ℕ
  pub spelled : List ℕ
  pub between : List ℕ
  pub cents : List ℕ
  pub rest : List ℕ
  pub follow : Follow f digits spelled
  pub others : AreOthers between
  pub word : HasWord f between
  pub are_cents : AreCents cents
  pub others_rest : AreOthers rest
  pub text_is : cs ≡ spelled ++ (between ++ (cents ++ rest))
  pub value_is : v ≡ digits ++ 46 ∷ two cents

-- the rest after the first of the last digits
pub record Seconds (d : ℕ) (cs v : List ℕ) : Type 0 where
  pub more : List ℕ
  pub rest : List ℕ
  pub fits : IsTrue (is_digit d) → AreCents (d ∷ more)
  pub others_rest : AreOthers rest
  pub text_is : cs ≡ more ++ rest
  pub value_is : v ≡ 46 ∷ two (d ∷ more)

pub lead_digit : (f : NumberFormat) (c : ℕ) (cs w : List ℕ) → IsTrue (is_digit c) → Sums f cs w → IsBetween (IsUnits f) (c ∷ cs) (c ∷ w)
lead_digit f c cs w h r = record {
  before = [];
  number = c ∷ cs;
  after = [];
  dropped_before = tt;
  dropped_after = tt;
  parts = sym (append-nil (c ∷ cs));
  row = record {
    digits = c ∷ r.digits;
    spelled = c ∷ r.spelled;
    between = r.between;
    cents = r.cents;
    rest = r.rest;
    grouped = (r.spelled, h, refl, r.follow);
    others = r.others;
    word = r.word;
    are_cents = r.are_cents;
    others_rest = r.others_rest;
    text_is = ap (λ xs. c ∷ xs) r.text_is;
    value_is = ap (λ xs. c ∷ xs) r.value_is;
  };
}

pub lead_dropped : (f : NumberFormat) (c : ℕ) (cs v : List ℕ) → IsTrue (is_space c || is_line c) → IsBetween (IsUnits f) cs v → IsBetween (IsUnits f) (c ∷ cs) v
lead_dropped f c cs v h g = record {
  before = c ∷ g.before;
  number = g.number;
  after = g.after;
  dropped_before = (h, g.dropped_before);
  dropped_after = g.dropped_after;
  parts = ap (λ xs. c ∷ xs) g.parts;
  row = g.row;
}

pub next_digit : (f : NumberFormat) (c : ℕ) (cs w : List ℕ) → IsTrue (is_digit c) → Sums f cs w → Sums f (c ∷ cs) (c ∷ w)
next_digit f c cs w h r = record {
  digits = c ∷ r.digits;
  spelled = c ∷ r.spelled;
  between = r.between;
  cents = r.cents;
  rest = r.rest;
  follow = ([], r.spelled, tt, h, refl, r.follow);
  others = r.others;
  word = r.word;
  are_cents = r.are_cents;
  others_rest = r.others_rest;
  text_is = ap (λ xs. c ∷ xs) r.text_is;
  value_is = ap (λ xs. c ∷ xs) r.value_is;
}

parted : (f : NumberFormat) (c : ℕ) (cs v : List ℕ) → IsTrue (not (is_digit c)) → IsTrue (may_part f c) → (r : Sums f cs v) → (ds text : List ℕ) → Follow f ds text →
    cs ≡ text ++ (r.between ++ (r.cents ++ r.rest)) → v ≡ ds ++ 46 ∷ two r.cents → Sums f (c ∷ cs) v
parted f c cs v n p r [] text none e g = record {
  digits = [];
  spelled = [];
  between = c ∷ r.between;
  cents = r.cents;
  rest = r.rest;
  follow = refl;
  others = (n, r.others);
  word = inr r.word;
  are_cents = r.are_cents;
  others_rest = r.others_rest;
  text_is = ap (λ xs. c ∷ xs) (e ∙ ap (λ xs. xs ++ (r.between ++ (r.cents ++ r.rest))) none);
  value_is = g;
}
parted f c cs v n p r (d ∷ ds) text (gap, rest, is, digit, t, more) e g = record {
  digits = d ∷ ds;
  spelled = c ∷ text;
  between = r.between;
  cents = r.cents;
  rest = r.rest;
  follow = (c ∷ gap, rest, (p, is), digit, ap (λ xs. c ∷ xs) t, more);
  others = r.others;
  word = r.word;
  are_cents = r.are_cents;
  others_rest = r.others_rest;
  text_is = ap (λ xs. c ∷ xs) e;
  value_is = g;
}

-- what may stand in a gap goes to the next digit's gap, or to what stands between
pub next_part : (f : NumberFormat) (c : ℕ) (cs v : List ℕ) → IsTrue (not (is_digit c)) → IsTrue (may_part f c) → Sums f cs v → Sums f (c ∷ cs) v
next_part f c cs v n p r = parted f c cs v n p r r.digits r.spelled r.follow r.text_is r.value_is

pub next_word : (f : NumberFormat) (c : ℕ) (cs v : List ℕ) → IsTrue (not (is_digit c)) → IsTrue (not (may_part f c)) → Cents cs v → Sums f (c ∷ cs) v
next_word f c cs v n m r = record {
  digits = [];
  spelled = [];
  between = c ∷ r.between;
  cents = r.cents;
  rest = r.rest;
  follow = refl;
  others = (n, r.others);
  word = inl m;
  are_cents = r.are_cents;
  others_rest = r.others_rest;
  text_is = ap (λ xs. c ∷ xs) r.text_is;
  value_is = r.value_is;
}

pub next_other : (c : ℕ) (cs v : List ℕ) → IsTrue (not (is_digit c)) → Cents cs v → Cents (c ∷ cs) v
next_other c cs v n r = record {
  between = c ∷ r.between;
  cents = r.cents;
  rest = r.rest;
  others = (n, r.others);
  are_cents = r.are_cents;
  others_rest = r.others_rest;
  text_is = ap (λ xs. c ∷ xs) r.text_is;
  value_is = r.value_is;
}

pub first_cent : (c : ℕ) (cs v : List ℕ) → IsTrue (is_digit c) → Seconds c cs v → Cents (c ∷ cs) v
first_cent c cs v h r = record {
  between = [];
  cents = c ∷ r.more;
  rest = r.rest;
  others = tt;
  are_cents = r.fits h;
  others_rest = r.others_rest;
  text_is = ap (λ xs. c ∷ xs) r.text_is;
  value_is = r.value_is;
}

pub one_cent : (d c : ℕ) (cs v w : List ℕ) → IsTrue (not (is_digit c)) → v ≡ 46 ∷ 48 ∷ d ∷ w → AreOthers cs × (w ≡ []) → Seconds d (c ∷ cs) v
one_cent d c cs v w n e r = record { more = []; rest = c ∷ cs; fits = λ h. h; others_rest = (n, r.0); text_is = refl; value_is = e ∙ ap (λ xs. 46 ∷ 48 ∷ d ∷ xs) r.1 }

pub two_cents : (d c : ℕ) (cs v w : List ℕ) → IsTrue (is_digit c) → v ≡ 46 ∷ d ∷ c ∷ w → AreOthers cs × (w ≡ []) → Seconds d (c ∷ cs) v
two_cents d c cs v w h e r = record { more = c ∷ []; rest = cs; fits = λ k. (k, h); others_rest = r.0; text_is = refl; value_is = e ∙ ap (λ xs. 46 ∷ d ∷ c ∷ xs) r.1 }

-- the text ends behind one of them
pub last_cent : (d : ℕ) (v : List ℕ) → v ≡ 46 ∷ 48 ∷ d ∷ [] → Seconds d [] v
last_cent d v e = record { more = []; rest = []; fits = λ h. h; others_rest = tt; text_is = refl; value_is = e }
