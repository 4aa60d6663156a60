-- What is written of digits: without needless zeros, and with the point moved.
use Rattle.std.specs.Prelude.{ℕ, ℤ, pos, negsuc, ◌+◌, ◌-◌, ◌==◌, if◌then◌else◌, List, [], ◌∷◌, ◌++◌, length, take, drop, replicate}
use Rattle.ix_base.specs.Decimals.{pointed}

-- without the zeros in front
abbrev pub strip : List ℕ → List ℕ
strip [] = []
strip (c ∷ cs) = if c == 48 then strip cs else c ∷ cs

-- what follows a list without its zeros in front
abbrev pub stripped_rest : List ℕ → List ℕ → List ℕ
stripped_rest [] ys = strip ys
stripped_rest (x ∷ xs) ys = (x ∷ xs) ++ ys

-- `0` where nothing stands
abbrev pub or_zero : List ℕ → List ℕ
or_zero [] = 48 ∷ []
or_zero (c ∷ cs) = c ∷ cs

-- a byte in front of what is left of the rest
abbrev pub kept : ℕ → List ℕ → List ℕ
kept c [] = if c == 48 then [] else c ∷ []
kept c (d ∷ ds) = c ∷ d ∷ ds

-- without the zeros at the end
abbrev pub cut : List ℕ → List ℕ
cut [] = []
cut (c ∷ cs) = kept c (cut cs)

-- what stands in front of a list without its zeros at the end
abbrev pub cut_rest : List ℕ → List ℕ → List ℕ
cut_rest xs [] = cut xs
cut_rest xs (y ∷ ys) = xs ++ y ∷ ys

-- so many zeros, but none beside nothing
abbrev pub zeros_by : List ℕ → ℕ → ℕ
zeros_by [] n = 0
zeros_by (x ∷ xs) n = n

-- the canonical decimal of the digits in front of the point and behind it
abbrev pub written : List ℕ → List ℕ → List ℕ
written front back = or_zero (strip front) ++ pointed (cut back)

-- the point moved by the scale: what then stands in front of it
abbrev pub front_by : ℤ → List ℕ → List ℕ → List ℕ
front_by (pos s) front back = (front ++ take s back) ++ replicate (s - length back) 48
front_by (negsuc s) front back = take (length front - (s + 1)) front

-- and behind it
abbrev pub back_by : ℤ → List ℕ → List ℕ → List ℕ
back_by (pos s) front back = drop s back
back_by (negsuc s) front back = replicate ((s + 1) - length front) 48 ++ (drop (length front - (s + 1)) front ++ back)

-- the canonical decimal of these parts with the point moved by the scale
abbrev pub moved_decimal : ℤ → List ℕ → List ℕ → List ℕ
moved_decimal scale front back = written (front_by scale front back) (back_by scale front back)
