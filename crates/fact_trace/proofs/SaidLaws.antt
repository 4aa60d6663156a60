-- What is said at spans.
use Rattle.std.proofs.Common.{◌≡◌, ◌≢◌, ◌∙◌, ℕ, zero, suc, ◌<◌, ◌==◌, Bool, true, false, if◌then◌else◌, List, [], ◌∷◌, ◌++◌, length, get_or, map, All, is_none, refl, sym, ap, subst, arith}
use Rattle.std.specs.List.{flat_map}
use Rattle.ix_base.specs.Elements.{elements_of}
use Rattle.ix_base.specs.Markup.{plain}
use Rattle.ix_base.specs.Trees.{Tree}
use Rattle.page_text.specs.Characters.{stop}
use Rattle.page_constructs.specs.Constructs.{cut, text_of}
use Rattle.page_tree.specs.Page.{page}
use Rattle.page_tree.proofs.PageMarks.{page-climbs}
use Rattle.page_tree.proofs.RisingOffsets.{Climb, cut-climbs}
use Rattle.page_constructs.proofs.SizeLaws.{other-number, same-number}
use Rattle.page_tree.specs.Reaches.{Reach, reaches}
use Rattle.fact_trace.specs.Spans.{move, muted_in, fewer, heard, held_by, heard_at, left_out, is_among, element_spans, says, span_of, said_in, said}
use Rattle.fact_trace.specs.declared.moves.Move.{Move}
use Rattle.fact_trace.specs.declared.moves.Move.TheVariants.{Opens, Closes, Says, Passes}
use Rattle.fact_trace.proofs.AgreeLaws.{Each}
use Rattle.fact_trace.proofs.FoundLaws.{starts, same-starts, spans-say}
use Rattle.fact_trace.proofs.HeardLaws.{by_move, step}

-- what is heard is there
by-each : (P : Reach → Type 0) (m : Move) (out : ℕ → Bool) (deep muted : ℕ) (r : Reach) (rs : List Reach) → P r → ((d k : ℕ) → Each P (heard out d k rs)) → Each P (by_move m out deep muted r rs)
by-each P (Opens at) out deep muted r rs p h = h (suc deep) (muted_in (out at) muted)
by-each P Closes out zero muted r rs p h = tt
by-each P Closes out (suc deep) muted r rs p h = h deep (fewer muted)
by-each P Says out deep zero r rs p h = (p, h deep 0)
by-each P Says out deep (suc k) r rs p h = h deep (suc k)
by-each P Passes out deep muted r rs p h = h deep muted

heard-each : (P : Reach → Type 0) (out : ℕ → Bool) (deep muted : ℕ) (rs : List Reach) → Each P rs → Each P (heard out deep muted rs)
heard-each P out deep muted [] h = tt
heard-each P out deep muted (r ∷ rs) (h, hs) =
    subst (Each P) (sym (step (move r) out deep muted r rs refl)) (by-each P (move r) out deep muted r rs h (λ d k. heard-each P out d k rs hs))

held-each : (P : Reach → Type 0) (m : Move) (rs : List Reach) → Each P rs → Each P (held_by m rs)
held-each P (Opens at) rs h = h
held-each P Closes rs h = tt
held-each P Says rs h = tt
held-each P Passes rs h = tt

at-each : (P : Reach → Type 0) (out : ℕ → Bool) (at : ℕ) (rs : List Reach) → Each P rs → Each P (heard_at out at rs)
at-each P out at [] h = tt
at-each P out at (r ∷ rs) (h, hs) = by (r.what.start == at) (at-each P out at rs hs) where
  by : (b : Bool) → Each P (heard_at out at rs) → Each P (if b then held_by (move r) (heard out 0 0 rs) else heard_at out at rs)
  by true k = held-each P (move r) (heard out 0 0 rs) (heard-each P out 0 0 rs hs)
  by false k = k

-- a construct is found by its start
abbrev IsSaid : List ℕ → List Reach → Reach → Type 0
IsSaid name rs r = said_in rs (span_of name r) ≡ says r

later-said : (name : List ℕ) (x : Reach) (rs all : List Reach) (low : ℕ) → x.what.start < low → Climb low (starts rs) → Each (IsSaid name all) rs → Each (IsSaid name (x ∷ all)) rs
later-said name x [] all low l c h = tt
later-said name x (r ∷ rs) all low l c (h, hs) =
    let d : x.what.start ≢ r.what.start = (λ e. (let k = c.0 in omega arith)) in
    (rw (other-number x.what.start r.what.start d) h, later-said name x rs all (suc r.what.start) (let k = c.0 in omega arith) c.1 hs)

all-said : (name : List ℕ) (rs : List Reach) (low : ℕ) → Climb low (starts rs) → Each (IsSaid name rs) rs
all-said name [] low c = tt
all-said name (r ∷ rs) low c =
    (rw (same-number r.what.start r.what.start refl) refl, later-said name r rs rs (suc r.what.start) (omega arith) c.1 (all-said name rs (suc r.what.start) c.1))

same-said : (name b : List ℕ) (rs : List Reach) → Each (IsSaid name (reaches b)) rs → flat_map (said b) (map (span_of name) rs) ≡ flat_map says rs
same-said name b [] h = refl
same-said name b (r ∷ rs) (h, hs) = ap (λ l. l ++ flat_map (said b) (map (span_of name) rs)) h ∙ ap (λ l. says r ++ l) (same-said name b rs hs)

-- the spans of a text element say its plain text
pub spans-said : (name b : List ℕ) (t : Tree) → flat_map (said b) (map (span_of name) (element_spans b t)) ≡ flat_map says (element_spans b t)
spans-said name b t =
    let cs = (cut b).constructs in
    let climbs = cut-climbs (length (text_of b)) 0 (is_none (stop b)) true (text_of b) (page-climbs b) in
    let up : Climb 0 (starts (reaches b)) = subst (Climb 0) (sym (same-starts (length b) cs)) climbs in
    same-said name b (element_spans b t)
    (at-each (IsSaid name (reaches b)) (is_among (left_out t.children)) t.head.offset (reaches b) (all-said name (reaches b) 0 up))

pub spans-text : (name b : List ℕ) (n : ℕ) (t : Tree) → page b n t → All (λ e. flat_map (said b) (map (span_of name) (element_spans b e.tree)) ≡ plain e.tree.children) (elements_of t)
spans-text name b n t p = λ k d l. spans-said name b (get_or (elements_of t) k d).tree ∙ spans-say b n t p k d l
