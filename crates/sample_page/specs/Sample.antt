-- The sample: four pages with as many facts as are asked for. Each fact begins on one page and goes on on the next.
use Rattle.std.specs.Prelude.{ℕ, zero, suc, ◌+◌, ◌%◌, ◌==◌, List, [], ◌∷◌, ◌++◌, map, codes, if◌then◌else◌}
use Rattle.std.specs.Fmt.{decimal}

-- the base of the pages, and their names
abbrev pub sample_base : List ℕ
sample_base = codes "http://sample.example/"

abbrev pub sample_names : List (List ℕ)
sample_names = codes "s0.html" ∷ codes "s1.html" ∷ codes "s2.html" ∷ codes "s3.html" ∷ []

-- the root's start tag
unfoldable pub start_text : List ℕ
start_text = codes "<p xmlns:ix=\"http://www.xbrl.org/2013/inlineXBRL\" xmlns:link=\"http://www.xbrl.org/2003/linkbase\" xmlns:xlink=\"http://www.w3.org/1999/xlink\" xmlns:xbrli=\"http://www.xbrl.org/2003/instance\" xmlns:s=\"http://sample.example/s\">"

-- a reference to a schema, and the context of all facts
unfoldable pub header_text : List ℕ
header_text = codes "<ix:header><ix:references><link:schemaRef xlink:type=\"simple\" xlink:href=\"s.xsd\"/></ix:references><ix:resources><xbrli:context id=\"c\"><xbrli:entity><xbrli:identifier scheme=\"http://sample.example/\">1</xbrli:identifier></xbrli:entity><xbrli:period><xbrli:forever/></xbrli:period></xbrli:context></ix:resources></ix:header>"

-- what stands in front of the facts of a page: the first has the header
abbrev pub front_text : ℕ → List ℕ
front_text page = if page == 0 then start_text ++ header_text else start_text

-- the fact of this number, up to where it goes on
unfoldable pub fact_text : ℕ → List ℕ
fact_text i =
    codes "<ix:nonNumeric name=\"s:T\" contextRef=\"c\" id=\"f" ++ (decimal i
    ++ (codes "\" continuedAt=\"k" ++ (decimal i ++ (codes "\">a" ++ (decimal i ++ codes "</ix:nonNumeric>")))))

-- what it goes on with
unfoldable pub more_text : ℕ → List ℕ
more_text i = codes "<ix:continuation id=\"k" ++ (decimal i ++ (codes "\">b" ++ (decimal i ++ codes "</ix:continuation>")))

-- what the fact of this number puts on a page: it begins on the page of its remainder by four, and goes on on the page behind it
abbrev pub put_on : ℕ → ℕ → List ℕ
put_on page i = (if i % 4 == page then fact_text i else []) ++ (if (i + 1) % 4 == page then more_text i else [])

-- what the facts from 1 to this number put on a page, in order
unfoldable pub all_put_on : ℕ → ℕ → List ℕ
all_put_on page zero = []
all_put_on page (suc i) = all_put_on page i ++ put_on page (suc i)

-- the page of this number in the sample of so many facts
unfoldable pub sample_page : ℕ → ℕ → List ℕ
sample_page facts page = front_text page ++ (all_put_on page facts ++ codes "</p>")

-- the bytes of the four pages
abbrev pub sample_bytes : ℕ → List (List ℕ)
sample_bytes facts = map (sample_page facts) (0 ∷ 1 ∷ 2 ∷ 3 ∷ [])
