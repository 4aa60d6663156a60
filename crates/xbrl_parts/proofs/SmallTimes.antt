-- How large times of dates are at most.
use Rattle.std.proofs.Common.{◌≡◌, subst, refl, ℕ, ◌≤◌, ◌+◌, ◌*◌, nat_le, Bool, true, false, cond, ◌&&◌, List, [], ◌∷◌, take, drop, Option, Some, None, bytes_eq, codes, arith}
use Rattle.std.proofs.lemmas.Bool.{and_parts, leb-true}
use Rattle.ix_base.specs.Days.{days_before}
use Rattle.ix_base.specs.Steps.{◌>>=◌}
use Rattle.ix_base.specs.Times.{clock_of, clock_or, day_of, is_day, is_like, number_at, time_of}
use Rattle.xbrl_parts.proofs.TimeLaws.{day-is, days-small}

-- a step that gave something
pub step_ok : {A B : Type 0} (r : Option A) (f : A → Option B) (y : B) → (r >>= f) ≡ Some y → (x : A) × (r ≡ Some x) × (f x ≡ Some y)
step_ok None f y e = cc
step_ok (Some x) f y e = (x, refl, e)

-- a test that gave something
pub chosen : {A : Type 0} (b : Bool) (x y : A) → cond b (Some x) None ≡ Some y → (b ≡ true) × (x ≡ y)
chosen true x y e = (refl, cc)
chosen false x y e = cc

-- a choice that gave something gave it by one of its two sides
pub by_side : {A Q : Type 0} (b : Bool) (x y : Option A) (z : A) → cond b x y ≡ Some z → (x ≡ Some z → Q) → (y ≡ Some z → Q) → Q
by_side true x y z e left right = left e
by_side false x y z e left right = right e

same : {A : Type 0} {x y : A} → Some x ≡ Some y → x ≡ y
same e = cc

day_small : (text : List ℕ) (n : ℕ) → day_of text ≡ Some n → n ≤ 3652058
day_small text n e =
    let year = number_at 0 4 text in
    let month = number_at 5 2 text in
    let day = number_at 8 2 text in
    let c = chosen (is_like (codes "0000-00-00") text && is_day year month day) (days_before year month day) n e in
    let s = and_parts (is_like (codes "0000-00-00") text) (is_day year month day) c.0 in
    subst (λ k. k ≤ 3652058) c.1 (days-small year month day (day-is year month day s.1))

clock_small : (text : List ℕ) (n : ℕ) → clock_of text ≡ Some n → n ≤ 86400
clock_small text n e =
    let hours = number_at 1 2 text in
    let minutes = number_at 4 2 text in
    let seconds = number_at 7 2 text in
    let test = is_like (codes "T00:00:00") text && nat_le hours 23 && nat_le minutes 59 && nat_le seconds 59 in
    by_side (bytes_eq text (codes "T24:00:00")) (Some 86400) (cond test (Some (hours * 3600 + minutes * 60 + seconds)) None) n e
    (λ end. let z : 86400 ≡ n = same end in omega arith)
    (λ clock.
    let c = chosen test (hours * 3600 + minutes * 60 + seconds) n clock in
    let s = and_parts (is_like (codes "T00:00:00") text && nat_le hours 23 && nat_le minutes 59) (nat_le seconds 59) c.0 in
    let m = and_parts (is_like (codes "T00:00:00") text && nat_le hours 23) (nat_le minutes 59) s.0 in
    let h = and_parts (is_like (codes "T00:00:00") text) (nat_le hours 23) m.0 in
    let a : seconds ≤ 59 = leb-true seconds 59 s.1 in
    let b : minutes ≤ 59 = leb-true minutes 59 m.1 in
    let d : hours ≤ 23 = leb-true hours 23 h.1 in
    let z : hours * 3600 + minutes * 60 + seconds ≡ n = c.1 in
    omega arith)

behind_small : (alone : ℕ) (text : List ℕ) (n : ℕ) → alone ≤ 86400 → clock_or alone text ≡ Some n → n ≤ 86400
behind_small alone [] n most e = subst (λ k. k ≤ 86400) (same e) most
behind_small alone (c ∷ cs) n most e = clock_small (c ∷ cs) n e

-- a date with a time of day, up to the end of the year 9999
pub time_small : (alone : ℕ) (text : List ℕ) (n : ℕ) → alone ≤ 86400 → time_of alone text ≡ Some n → n ≤ 315537897600
time_small alone text n most e =
    let d = step_ok (day_of (take 10 text)) _ n e in
    let s = step_ok (clock_or alone (drop 10 text)) _ n d.2 in
    let days : d.0 ≤ 3652058 = day_small (take 10 text) d.0 d.1 in
    let seconds : s.0 ≤ 86400 = behind_small alone (drop 10 text) s.0 most s.1 in
    let z : d.0 * 86400 + s.0 ≡ n = same s.2 in
    omega arith
