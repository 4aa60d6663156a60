-- The canonical text of a proper content is markup whose tree denotes the content.
use Rattle.std.proofs.Common.{◌≡◌, ◌∙◌, ℕ, Bool, true, false, ◌||◌, if◌then◌else◌, List, [], ◌∷◌, ◌++◌, None, unwrap_or, refl, sym, ap, bytes_eq}
use Rattle.std.specs.List.{list_any}
use Rattle.std.proofs.lemmas.Bool.{or_left, or_right}
use Rattle.ix_base.specs.declared.content.Content.{Content}
use Rattle.ix_base.specs.declared.content.Footnote.{Footnote}
use Rattle.ix_base.specs.Scope.{outermost}
use Rattle.ix_base.specs.Trees.{Bound}
use Rattle.ix_base.specs.WrittenMarkup.{Markup, nothing, words, node, leaf, verbatim, written}
use Rattle.instance_lines.specs.Canonical.{Spaces, canon, first_line}
use Rattle.ix_base.specs.FilledMarkup.{then as joins}
use Rattle.page_constructs.proofs.SpanLaws.{bytes-one, bytes-same}
use Rattle.ix_base.specs.Markup.{body, markup}
use Rattle.ix_base.specs.PlainContents.{said_of}
use Rattle.instance_out.specs.Denotation.{denotes}
use Rattle.instance_out.specs.Instance.{root_for}
use Rattle.page_tree.specs.FineMarkup.{nodes_at}
use Rattle.instance_out.specs.MarkupTrees.{tree_in}
use Rattle.instance_lines.specs.Holdings.{all_notes, said_spaces, all_names}
use Rattle.instance_out.specs.Proper.{IsBody, AreBodies, Proper}
use Rattle.instance_out.specs.Theorem.{ProperIsDenoted}
use Rattle.instance_out.proofs.NameLaws.{Knows, knows-xml}
use Rattle.instance_out.proofs.RunLaws.{Each}
use Rattle.instance_out.proofs.LinkReading.{IsBodyOf}
use Rattle.instance_out.proofs.PrefixReading.{root_scope, root-knows, spaces-filled}
use Rattle.instance_out.proofs.ProperLaws.{each-map, each-flat, content-read}
use Rattle.instance_out.proofs.WrittenLaws.{Writes, canon-written}
use Rattle.instance_out.proofs.BodyLaws.{IsShaped, IsWithin, again, body-shaped}

-- the markup of the body of one of some footnotes
abbrev pub bodies_of : (fs : List Footnote) → AreBodies fs → List ℕ → Markup
bodies_of [] h b = nothing
bodies_of (f ∷ fs) h b = if bytes_eq f.body b then body None [] (h.0).nodes nothing else bodies_of fs h.1 b

-- markup that is a body, and writes it
record IsGiven (m : Markup) (b : List ℕ) : Type 0 where
  shaped : IsShaped m []
  writes : written m [] ≡ b

given-one : (f : Footnote) → (h : IsBody f.body) → (b : List ℕ) → bytes_eq f.body b ≡ true → IsGiven (body None [] h.nodes nothing) b
given-one f h b e = record { shaped = body-shaped 255 h.nodes [] nothing h.sound tt; writes = sym h.is ∙ bytes-one f.body b e }

abbrev pub holds : List Footnote → List ℕ → Bool
holds fs b = list_any (λ f. bytes_eq f.body b) fs

given-in : (fs : List Footnote) (h : AreBodies fs) (b : List ℕ) → holds fs b ≡ true → IsGiven (bodies_of fs h b) b
given-in [] h b e = absurd (cc)
given-in (f ∷ fs) h b e = by (bytes_eq f.body b) refl e (given-in fs h.1 b)
  where
    by : (x : Bool) → bytes_eq f.body b ≡ x → (x || holds fs b) ≡ true → (holds fs b ≡ true → IsGiven (bodies_of fs h.1 b) b)
        → IsGiven (if x then body None [] (h.0).nodes nothing else bodies_of fs h.1 b) b
    by true s e ih = given-one f h.0 b s
    by false s e ih = ih e

pub all-held : (fs gs : List Footnote) → ((b : List ℕ) → holds fs b ≡ true → holds gs b ≡ true) → Each (λ f. holds gs f.body ≡ true) fs
all-held [] gs s = tt
all-held (f ∷ fs) gs s =
    (s f.body (or_left (bytes_eq f.body f.body) (holds fs f.body) (bytes-same f.body)), all-held fs gs (λ b h. s b (or_right (bytes_eq f.body b) (holds fs b) h)))

pub then-nothing : (m : Markup) → joins m nothing ≡ m
then-nothing nothing = refl
then-nothing (words text rest) = ap (words text) (then-nothing rest)
then-nothing (node name attrs kids rest) = ap (node name attrs kids) (then-nothing rest)
then-nothing (leaf name attrs rest) = ap (leaf name attrs) (then-nothing rest)
then-nothing (verbatim bytes rest) = ap (verbatim bytes) (then-nothing rest)

knows-within : (scope : List Bound) (spaces : Spaces) → Knows scope spaces → IsWithin [] scope
knows-within scope spaces k = record { default = ap (λ o. unwrap_or o []) k.plain; xml = knows-xml scope spaces k }

body-of : (scope : List Bound) → IsWithin [] scope → (bodies : List ℕ → Markup) (f : Footnote) → IsGiven (bodies f.body) f.body → IsBodyOf bodies scope f
body-of scope w bodies f g at =
    ap (λ m. markup None [] (nodes_at m at scope)) (then-nothing (bodies f.body))
    ∙ ap (λ m. written m []) (again (bodies f.body) [] at scope g.shaped w)
    ∙ g.writes

-- the root of a proper content, bodies in place
abbrev pub root_of : (c : Content) → Proper (said_of c) → Markup
root_of c p = root_for (bodies_of (all_notes (said_of c)) p.bodies) (said_spaces (said_of c)) (said_of c)

-- each footnote's body is the markup that is given for it
all-given : (c : Content) (p : Proper (said_of c)) → Each (λ f. IsGiven (bodies_of (all_notes (said_of c)) p.bodies f.body) f.body) (all_notes (said_of c))
all-given c p =
    let s = said_of c in
    let bodies = bodies_of (all_notes s) p.bodies in
    each-map (λ f. holds (all_notes s) f.body ≡ true) (λ f. IsGiven (bodies f.body) f.body) (all_notes s) (λ f h. given-in (all_notes s) p.bodies f.body h) (all-held (all_notes s) (all_notes s) (λ b h. h))

pub root-text : (c : Content) (p : Proper (said_of c)) → canon c ≡ first_line ++ written (root_of c p) (10 ∷ [])
root-text c p =
    let s = said_of c in
    let bodies = bodies_of (all_notes s) p.bodies in
    canon-written bodies c p.tested (each-flat (Writes bodies) (λ l. l.footnotes) c.notes (each-map (λ f. IsGiven (bodies f.body) f.body) (Writes bodies) (all_notes s) (λ f g. g.writes) (all-given c p)))

pub root-says : (c : Content) (p : Proper (said_of c)) (at : ℕ) → denotes (tree_in (root_of c p) at outermost) c
root-says c p =
    let s = said_of c in
    let bodies = bodies_of (all_notes s) p.bodies in
    let scope = root_scope (said_spaces s) in
    let w = knows-within scope (said_spaces s) (root-knows (said_spaces s) (spaces-filled (all_names s))) in
    content-read bodies s p.tested (each-flat (IsBodyOf bodies scope) (λ l. l.footnotes) c.notes (each-map (λ f. IsGiven (bodies f.body) f.body) (IsBodyOf bodies scope) (all_notes s) (λ f g. body-of scope w bodies f g) (all-given c p)))

pub proper-is_denoted : ProperIsDenoted
proper-is_denoted c p = record { root = root_of c p; text = root-text c p; says = root-says c p }
