-- What is left of a number with a decimal sign, phase by phase, and how one character more leads from one to the other.
use Rattle.std.proofs.Common.{◌≡◌, ◌≢◌, ℕ, ◌||◌, ◌⊎◌, IsTrue, List, [], ◌∷◌, ◌++◌, refl, sym, ap, subst, ◌∙◌, inl, inr, append_assoc}
use Rattle.std.proofs.lemmas.List.{append-nil}
use Rattle.tr4_numbers.specs.declared.NumberFormat.{NumberFormat}
use Rattle.tr4_numbers.specs.Transformation.{is_digit, is_space, is_line, is_decimal_sign, may_part, AreDropped, IsGap, AreDigits, Follow, IsDecimal, IsBetween}

-- the rest of a number after one of its whole digits
pub data Rests (format : NumberFormat) : List ℕ → List ℕ → Type 0 where
  done : (cs v : List ℕ) → AreDropped cs → v ≡ [] → Rests format cs v
  pointed : (cs v back after : List ℕ) (sign : ℕ) → IsTrue (is_decimal_sign format sign) → back ≢ [] → AreDigits back → AreDropped after → cs ≡ sign ∷ (back ++ after) → v ≡ 46 ∷ back → Rests format cs v
  more : (cs v gap rest w : List ℕ) (d : ℕ) → IsGap format gap → IsTrue (is_digit d) → cs ≡ gap ++ d ∷ rest → v ≡ d ∷ w → Rests format rest w → Rests format cs v

-- a gap, a digit and the rest
pub record Gaps (format : NumberFormat) (cs v : List ℕ) : Type 0 where
  pub gap : List ℕ
  pub rest : List ℕ
  pub w : List ℕ
  pub d : ℕ
  pub is_gap : IsGap format gap
  pub digit : IsTrue (is_digit d)
  pub text_is : cs ≡ gap ++ d ∷ rest
  pub value_is : v ≡ d ∷ w
  pub rests : Rests format rest w

pub record Fractions (cs v : List ℕ) : Type 0 where
  pub after : List ℕ
  pub digits : AreDigits v
  pub dropped : AreDropped after
  pub text_is : cs ≡ v ++ after

pub rests-gaps : (f : NumberFormat) (cs v : List ℕ) → Gaps f cs v → Rests f cs v
rests-gaps f cs v g = more cs v g.gap g.rest g.w g.d g.is_gap g.digit g.text_is g.value_is g.rests

pub wider : (f : NumberFormat) (c : ℕ) (cs v : List ℕ) → IsTrue (may_part f c) → Gaps f cs v → Gaps f (c ∷ cs) v
wider f c cs v h g = record { gap = c ∷ g.gap; rest = g.rest; w = g.w; d = g.d; is_gap = (h, g.is_gap); digit = g.digit; text_is = ap (λ xs. c ∷ xs) g.text_is; value_is = g.value_is; rests = g.rests }

pub at_digit : (f : NumberFormat) (c : ℕ) (cs w : List ℕ) → IsTrue (is_digit c) → Rests f cs w → Gaps f (c ∷ cs) (c ∷ w)
at_digit f c cs w h r = record { gap = []; rest = cs; w = w; d = c; is_gap = tt; digit = h; text_is = refl; value_is = refl; rests = r }

pub digit-fraction : (c : ℕ) (cs w : List ℕ) → IsTrue (is_digit c) → Fractions cs w → Fractions (c ∷ cs) (c ∷ w)
digit-fraction c cs w h g = record { after = g.after; digits = (h, g.digits); dropped = g.dropped; text_is = ap (λ xs. c ∷ xs) g.text_is }

pub no_digits : (cs : List ℕ) → AreDropped cs → Fractions cs []
no_digits cs d = record { after = cs; digits = tt; dropped = d; text_is = refl }

-- the rest as grouped digits, and what stands behind them
pub record Tails (f : NumberFormat) (cs v : List ℕ) : Type 0 where
  pub digits : List ℕ
  pub spelled : List ℕ
  pub tail : List ℕ
  pub back : List ℕ
  pub follow : Follow f digits spelled
  pub text_is : cs ≡ spelled ++ tail
  pub value_is : v ≡ digits ++ back
  pub ends : (AreDropped tail × (back ≡ [])) ⊎ ((ds after : List ℕ) × (sign : ℕ) × IsTrue (is_decimal_sign f sign) × (ds ≢ []) × AreDigits ds × AreDropped after × (tail ≡ sign ∷ (ds ++ after)) × (back ≡ 46 ∷ ds))

tails : (f : NumberFormat) (cs v : List ℕ) → Rests f cs v → Tails f cs v
tails f cs v (done _ _ d e) = record { digits = []; spelled = []; tail = cs; back = []; follow = refl; text_is = refl; value_is = e; ends = inl (d, refl) }
tails f cs v (pointed _ _ back after sign s n d e g h) =
    record { digits = []; spelled = []; tail = cs; back = v; follow = refl; text_is = refl; value_is = refl; ends = inr (back, after, sign, s, n, d, e, g, h) }
tails f cs v (more _ _ gap rest w d g h e k r) =
    let t = tails f rest w r in
    record {
      digits = d ∷ t.digits;
      spelled = gap ++ d ∷ t.spelled;
      tail = t.tail;
      back = t.back;
      follow = (gap, t.spelled, g, h, refl, t.follow);
      text_is = e ∙ ap (λ xs. gap ++ d ∷ xs) t.text_is ∙ sym (append_assoc gap (d ∷ t.spelled) t.tail);
      value_is = k ∙ ap (λ xs. d ∷ xs) t.value_is;
      ends = t.ends;
    }

-- a first digit and the rest are a value
pub first_digit : (f : NumberFormat) (c : ℕ) (cs w : List ℕ) → IsTrue (is_digit c) → Rests f cs w → IsBetween (IsDecimal f) (c ∷ cs) (c ∷ w)
first_digit f c cs w h r =
    let t = tails f cs w r in
    elim t.ends [
      | inl e ↦ record {
        before = [];
        number = c ∷ t.spelled;
        after = t.tail;
        dropped_before = tt;
        dropped_after = e.0;
        parts = ap (λ xs. c ∷ xs) t.text_is;
        row = inl (record { grouped = (t.spelled, h, refl, subst (λ xs. Follow f xs t.spelled) (let k : t.digits ≡ w = sym (t.value_is ∙ rw (e.1) (append-nil t.digits)) in k) t.follow) });
      }
      | inr (ds, after, sign, s, n, d, dropped, e, g) ↦
          record {
            before = [];
            number = (c ∷ t.spelled) ++ sign ∷ ds;
            after = after;
            dropped_before = tt;
            dropped_after = dropped;
            parts = ap (λ xs. c ∷ xs) (t.text_is ∙ ap (λ xs. t.spelled ++ xs) e ∙ sym (append_assoc t.spelled (sign ∷ ds) after));
            row = inr (inl (record {
              sign = sign;
              is_sign = s;
              digits = c ∷ t.digits;
              spelled = c ∷ t.spelled;
              grouped = (t.spelled, h, refl, t.follow);
              back = ds;
              some = n;
              fraction = d;
              text_is = refl;
              value_is = ap (λ xs. c ∷ xs) (t.value_is ∙ ap (λ xs. t.digits ++ xs) g);
            }));
          }
    ]

pub first_sign : (f : NumberFormat) (sign : ℕ) (cs w : List ℕ) → IsTrue (is_decimal_sign f sign) → w ≢ [] → Fractions cs w → IsBetween (IsDecimal f) (sign ∷ cs) (48 ∷ 46 ∷ w)
first_sign f sign cs w s n g = record {
  before = [];
  number = sign ∷ w;
  after = g.after;
  dropped_before = tt;
  dropped_after = g.dropped;
  parts = ap (λ xs. sign ∷ xs) g.text_is;
  row = inr (inr (record { sign = sign; back = w; is_sign = s; some = n; fraction = g.digits; text_is = refl; value_is = refl }));
}

pub first_dropped : (f : NumberFormat) (c : ℕ) (cs v : List ℕ) → IsTrue (is_space c || is_line c) → IsBetween (IsDecimal f) cs v → IsBetween (IsDecimal f) (c ∷ cs) v
first_dropped f c cs v h g = record {
  before = c ∷ g.before;
  number = g.number;
  after = g.after;
  dropped_before = (h, g.dropped_before);
  dropped_after = g.dropped_after;
  parts = ap (λ xs. c ∷ xs) g.parts;
  row = g.row;
}
