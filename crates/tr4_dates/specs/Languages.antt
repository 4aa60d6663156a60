-- What each language has: the names of its months, the endings behind the digits of a day, and whether a word may
-- stand within its separators.
use Rattle.std.specs.Prelude.{ℕ, Bool, true, false, List, [], ◌∷◌, codes}
use Rattle.tr4_dates.specs.declared.format.Language.{Language}
use Rattle.tr4_dates.specs.declared.format.Language.TheVariants.{En, De, Fr, Es, It, Nl}

-- the characters of a name, and its month
abbrev pub Row : Type 0
Row = List ℕ × ℕ

unfoldable pub names : Language → List Row
names En =
    (codes "January", 1) ∷ (codes "Jan", 1)
    ∷ (codes "February", 2) ∷ (codes "Feb", 2)
    ∷ (codes "March", 3) ∷ (codes "Mar", 3)
    ∷ (codes "April", 4) ∷ (codes "Apr", 4)
    ∷ (codes "May", 5)
    ∷ (codes "June", 6) ∷ (codes "Jun", 6)
    ∷ (codes "July", 7) ∷ (codes "Jul", 7)
    ∷ (codes "August", 8) ∷ (codes "Aug", 8)
    ∷ (codes "September", 9) ∷ (codes "Sep", 9) ∷ (codes "Sept", 9)
    ∷ (codes "October", 10) ∷ (codes "Oct", 10)
    ∷ (codes "November", 11) ∷ (codes "Nov", 11)
    ∷ (codes "December", 12) ∷ (codes "Dec", 12)
    ∷ []
names De =
    (codes "Januar", 1) ∷ (codes "Jänner", 1) ∷ (codes "Jan", 1)
    ∷ (codes "Februar", 2) ∷ (codes "Feb", 2)
    ∷ (codes "März", 3) ∷ (codes "Maerz", 3) ∷ (codes "Mär", 3) ∷ (codes "Mrz", 3)
    ∷ (codes "April", 4) ∷ (codes "Apr", 4)
    ∷ (codes "Mai", 5)
    ∷ (codes "Juni", 6) ∷ (codes "Jun", 6)
    ∷ (codes "Juli", 7) ∷ (codes "Jul", 7)
    ∷ (codes "August", 8) ∷ (codes "Aug", 8)
    ∷ (codes "Sept", 9) ∷ (codes "September", 9) ∷ (codes "Sep", 9)
    ∷ (codes "Oktober", 10) ∷ (codes "Okt", 10)
    ∷ (codes "November", 11) ∷ (codes "Nov", 11)
    ∷ (codes "Dezember", 12) ∷ (codes "Dez", 12)
    ∷ []
names Fr =
    (codes "janvier", 1) ∷ (codes "janv", 1)
    ∷ (codes "février", 2) ∷ (codes "fevrier", 2) ∷ (codes "févr", 2) ∷ (codes "fevr", 2)
    ∷ (codes "mars", 3)
    ∷ (codes "avril", 4) ∷ (codes "avr", 4)
    ∷ (codes "mai", 5)
    ∷ (codes "juin", 6)
    ∷ (codes "juillet", 7) ∷ (codes "juil", 7)
    ∷ (codes "août", 8) ∷ (codes "aout", 8)
    ∷ (codes "septembre", 9) ∷ (codes "sept", 9)
    ∷ (codes "octobre", 10) ∷ (codes "oct", 10)
    ∷ (codes "novembre", 11) ∷ (codes "nov", 11)
    ∷ (codes "décembre", 12) ∷ (codes "decembre", 12) ∷ (codes "déc", 12) ∷ (codes "dec", 12)
    ∷ []
names Es =
    (codes "enero", 1) ∷ (codes "ene", 1)
    ∷ (codes "febrero", 2) ∷ (codes "feb", 2)
    ∷ (codes "marzo", 3) ∷ (codes "mar", 3)
    ∷ (codes "abril", 4) ∷ (codes "abr", 4)
    ∷ (codes "mayo", 5) ∷ (codes "may", 5)
    ∷ (codes "junio", 6) ∷ (codes "jun", 6)
    ∷ (codes "julio", 7) ∷ (codes "jul", 7)
    ∷ (codes "agosto", 8) ∷ (codes "ago", 8)
    ∷ (codes "septiembre", 9) ∷ (codes "setiembre", 9) ∷ (codes "sep", 9) ∷ (codes "sept", 9)
    ∷ (codes "octubre", 10) ∷ (codes "oct", 10)
    ∷ (codes "noviembre", 11) ∷ (codes "nov", 11)
    ∷ (codes "diciembre", 12) ∷ (codes "dic", 12)
    ∷ []
names It =
    (codes "gennaio", 1) ∷ (codes "gen", 1)
    ∷ (codes "febbraio", 2) ∷ (codes "feb", 2)
    ∷ (codes "marzo", 3) ∷ (codes "mar", 3)
    ∷ (codes "aprile", 4) ∷ (codes "apr", 4)
    ∷ (codes "maggio", 5) ∷ (codes "mag", 5)
    ∷ (codes "giugno", 6) ∷ (codes "giu", 6)
    ∷ (codes "luglio", 7) ∷ (codes "lug", 7)
    ∷ (codes "agosto", 8) ∷ (codes "ago", 8)
    ∷ (codes "settembre", 9) ∷ (codes "set", 9) ∷ (codes "sett", 9)
    ∷ (codes "ottobre", 10) ∷ (codes "ott", 10)
    ∷ (codes "novembre", 11) ∷ (codes "nov", 11)
    ∷ (codes "dicembre", 12) ∷ (codes "dic", 12)
    ∷ []
names Nl =
    (codes "januari", 1) ∷ (codes "jan", 1)
    ∷ (codes "februari", 2) ∷ (codes "feb", 2)
    ∷ (codes "maart", 3) ∷ (codes "mrt", 3)
    ∷ (codes "april", 4) ∷ (codes "apr", 4)
    ∷ (codes "mei", 5)
    ∷ (codes "juni", 6) ∷ (codes "jun", 6)
    ∷ (codes "juli", 7) ∷ (codes "jul", 7)
    ∷ (codes "augustus", 8) ∷ (codes "aug", 8)
    ∷ (codes "september", 9) ∷ (codes "sep", 9) ∷ (codes "sept", 9)
    ∷ (codes "oktober", 10) ∷ (codes "okt", 10)
    ∷ (codes "november", 11) ∷ (codes "nov", 11)
    ∷ (codes "december", 12) ∷ (codes "dec", 12)
    ∷ []

-- what may stand behind the digits of a day, in lower case
abbrev pub ordinals : Language → List (List ℕ)
ordinals En = codes "st" ∷ codes "nd" ∷ codes "rd" ∷ codes "th" ∷ []
ordinals De = []
ordinals Fr = codes "er" ∷ []
ordinals Es = []
ordinals It = []
ordinals Nl = []

-- whether de or del may stand within a separator
abbrev pub has_links : Language → Bool
has_links En = false
has_links De = false
has_links Fr = false
has_links Es = true
has_links It = false
has_links Nl = false
