-- What the spans of items say.
use Rattle.ix_base.specs.declared.limits.TheConstants.{DEEPEST_ELEMENT}
use Rattle.std.proofs.Common.{◌≡◌, ◌∙◌, ℕ, zero, suc, ◌<◌, false, List, [], ◌∷◌, ◌++◌, length, map, All, refl, sym, ap, subst, arith, if◌then◌else◌}
use Rattle.std.specs.List.{Contains, flat_map}
use Rattle.std.proofs.lemmas.List.Concat.{flat_map-append}
use Rattle.std.proofs.lemmas.List.Elements.{All-contains, All-head, All-tail}
use Rattle.ix_base.specs.declared.kind.Kind.TheVariants as kind
use Rattle.ix_base.specs.Asks.{asks}
use Rattle.ix_base.specs.Chain.{chain}
use Rattle.ix_base.specs.Elements.{Placed, elements_of, placed_at}
use Rattle.ix_base.specs.Kinds.{kind_of}
use Rattle.ix_base.specs.LocatedElements.{Located, is_nil}
use Rattle.ix_base.specs.Markup.{plain, plain_along}
use Rattle.page_tree.specs.Page.{page}
use Rattle.page_tree.specs.Reaches.{Reach}
use Rattle.page_constructs.proofs.SpanLaws.{bytes-apart, bytes-same}
use Rattle.fact_trace.specs.Model.{AreNew, IsText}
use Rattle.fact_trace.specs.Spans.{Lying, Source, bytes_of, element_spans, elements, lying_at, said, said_on, source_at, span_of, spans, spans_in, text_elements, text_elements_as}
use Rattle.fact_trace.specs.ValidPages.{HaveTrees, names_of}
use Rattle.fact_trace.proofs.RearrangedLaws.{name-there}
use Rattle.fact_trace.proofs.SaidLaws.{spans-text}
use Rattle.fact_trace.proofs.TextLaws.{ArePages, texts-of}

-- the page of a name that stands once
named-bytes : (ps : List Source) (n : ℕ) → AreNew (names_of ps) → n < length ps → bytes_of ps (source_at ps n).name ≡ (source_at ps n).bytes
named-bytes [] n h l = absurd (omega arith)
named-bytes (p ∷ ps) zero h l = rw (bytes-same p.name) refl
named-bytes (p ∷ ps) (suc n) h l =
    rw (bytes-apart p.name (source_at ps n).name (λ e. h.0 (subst (Contains (names_of ps)) (sym e) (name-there ps n (omega arith))))) (named-bytes ps n h.1 (omega arith))

-- one text element
said-named : (ps : List Source) (name b : List ℕ) → bytes_of ps name ≡ b → (rs : List Reach) → flat_map (said_on ps) (map (span_of name) rs) ≡ flat_map (said b) (map (span_of name) rs)
said-named ps name b e [] = refl
said-named ps name b e (r ∷ rs) = λ i. said (e i) (span_of name r) ++ said-named ps name b e rs i

lying-says : (ps : List Source) (l : Lying) → AreNew (names_of ps) → IsText ps l → flat_map (said_on ps) (spans_in ps l) ≡ plain l.tree.children
lying-says ps l new t =
    let name = (source_at ps l.page).name in
    let b = (source_at ps l.page).bytes in
    let o = t.of_page in
    said-named ps name b (named-bytes ps l.page new t.within) (element_spans b l.tree)
    ∙ All-contains (λ (e : Placed). flat_map (said b) (map (span_of name) (element_spans b e.tree)) ≡ plain e.tree.children) (elements_of o.root) (placed_at l.tree o.above)
    (spans-text name b DEEPEST_ELEMENT o.root o.is) o.there

all-say : (ps : List Source) (ls : List Lying) → AreNew (names_of ps) → All (IsText ps) ls → flat_map (said_on ps) (flat_map (spans_in ps) ls) ≡ flat_map (λ l. plain l.tree.children) ls
all-say ps [] new h = refl
all-say ps (l ∷ ls) new h =
    flat_map-append (said_on ps) (spans_in ps l) (flat_map (spans_in ps) ls)
    ∙ (λ i. lying-says ps l new (All-head (IsText ps) l ls h) i ++ all-say ps ls new (All-tail (IsText ps) l ls h) i)

are-pages : (ps : List Source) → HaveTrees ps → ArePages ps
are-pages [] h n l = absurd (omega arith)
are-pages (p ∷ ps) h zero l = All-head (λ q. page q.bytes DEEPEST_ELEMENT q.tree) p ps h
are-pages (p ∷ ps) h (suc n) l = are-pages ps (All-tail (λ q. page q.bytes DEEPEST_ELEMENT q.tree) p ps h) n (omega arith)

pub items-say : (ps : List Source) → HaveTrees ps → AreNew (names_of ps) → (e : Located) → Contains (elements ps) e → is_nil e ≡ false
    → flat_map (said_on ps) (spans ps e) ≡ flat_map (λ l. plain l.tree.children) (text_elements (asks (elements ps)) e)
items-say ps h new e k n =
    let ls = text_elements (asks (elements ps)) e in
    ap (λ b. flat_map (said_on ps) (if b then [] else flat_map (spans_in ps) ls)) n ∙ all-say ps ls new (texts-of ps e (are-pages ps h) k)

along : (es : List Located) → flat_map (λ l. plain l.tree.children) (map lying_at es) ≡ plain_along es
along [] = refl
along (e ∷ es) = ap (λ l. plain e.placed.tree.children ++ l) (along es)

pub texts-say : (ps : List Source) → HaveTrees ps → AreNew (names_of ps) → (e : Located) → Contains (elements ps) e → is_nil e ≡ false → kind_of e.placed ≡ kind.NonNumeric
    → flat_map (said_on ps) (spans ps e) ≡ plain_along (chain (asks (elements ps)) e)
texts-say ps h new e k n c =
    items-say ps h new e k n ∙ ap (λ x. flat_map (λ l. plain l.tree.children) (text_elements_as x (asks (elements ps)) e)) c ∙ along (chain (asks (elements ps)) e)
