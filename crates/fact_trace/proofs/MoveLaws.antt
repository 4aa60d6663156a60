-- What the constructs of a page do, by their kinds.
use Rattle.ix_base.specs.declared.limits.TheConstants.{DEEPEST_ELEMENT}
use Rattle.std.proofs.Common.{◌≡◌, ◌≢◌, ◌∙◌, ◌⊎◌, inl, inr, ℕ, ◌-◌, ◌≤◌, ◌==◌, Bool, true, false, List, [], ◌∷◌, length, get_or, Option, Some, None, option_map, refl, sym, ap, arith, if◌then◌else◌}
use Rattle.std.specs.Option.{option_map_or}
use Rattle.page_tree.specs.Break.{w}
use Rattle.page_constructs.specs.Constructs.{Construct, cut}
use Rattle.page_constructs.specs.Forms.{Means}
use Rattle.page_tree.specs.Page.{AllMean}
use Rattle.page_tree.specs.Reaches.{Reach, reach_at, reaches, told}
use Rattle.page_constructs.specs.Tokens.{Token}
use Rattle.page_tree.specs.declared.construct.Construct.{Construct as Told}
use Rattle.page_constructs.specs.declared.kind.Kind.{Kind}
use Rattle.page_constructs.specs.declared.kind.Kind.TheVariants.{Declaration, Instruction, Comment, Cdata, Doctype, Unknown, EndTag, StartTag, Reference, Text}
use Rattle.page_tree.proofs.PageLaws.{unbroken}
use Rattle.fact_trace.specs.Spans.{move_by, move}
use Rattle.fact_trace.specs.Walks.{IsConstruct, IsWhole, move_there, stepped, tag_move}
use Rattle.fact_trace.specs.declared.moves.Move.{Move}
use Rattle.fact_trace.specs.declared.moves.Move.TheVariants.{Opens, Closes, Says, Passes}
use Rattle.fact_trace.proofs.AgreeLaws.{Each}
use Rattle.fact_trace.proofs.HeardLaws.{meant-of}
use Rattle.fact_trace.proofs.SlashLaws.{kind_move, kind-moves, slashes}
use Rattle.fact_trace.proofs.SpeltLaws.{each-reach, listed, tag-slashes}

pub whole-unbroken : (b : List ℕ) → IsWhole b → w b DEEPEST_ELEMENT ≡ None
whole-unbroken b h = unbroken b DEEPEST_ELEMENT h.root h.is

abbrev MeansSome : Construct → Type 0
MeansSome c = (t : Token) × Means c t

all-mean : (cs : List Construct) (ts : List Token) → AllMean cs ts → Each MeansSome cs
all-mean [] ts m = tt
all-mean (c ∷ cs) [] m = absurd m
all-mean (c ∷ cs) (t ∷ ts) m = ((t, m.0), all-mean cs ts m.1)

-- what it does goes by its kind
moves : (b : List ℕ) (c : Told) (k : IsConstruct b c) → move_there b c.start ≡ kind_move c.kind (slashes k.reach.what.text) c.start
moves b c k =
    let p = k.whole.is in
    let r = k.reach in
    let m = each-reach MeansSome (length b) (cut b).constructs c.start r (all-mean (cut b).constructs p.tokens p.mean) k.found in
    let kinds : r.what.kind ≡ c.kind = sym (ap (λ x. x.kind) k.is) in
    let starts : r.what.start ≡ c.start = sym (ap (λ x. x.start) k.is) in
    ap (λ o. option_map_or move o Passes) k.found ∙ ap move_by (meant-of r m.0 m.1) ∙ kind-moves r.what.kind r.what.start r.what.text m.0 m.1
    ∙ (λ i. kind_move (kinds i) (slashes r.what.text) (starts i))

moves-as : (b : List ℕ) (c : Told) (k : IsConstruct b c) (kind : Kind) → c.kind ≡ kind → move_there b c.start ≡ kind_move kind (slashes k.reach.what.text) c.start
moves-as b c k kind e = moves b c k ∙ ap (λ x. kind_move x (slashes k.reach.what.text) c.start) e

pub record IsTag (b : List ℕ) (c : Told) : Type 0 where
  pub low : 2 ≤ c.end
  pub high : c.end ≤ length b
  pub does : tag_move (get_or b (c.end - 2) 0 == 47) c.start ≡ move_there b c.start

pub is-tag : (b : List ℕ) (c : Told) → IsConstruct b c → c.kind ≡ StartTag → IsTag b c
is-tag b c k e =
    let r = k.reach in
    let t = tag-slashes b c.start r (whole-unbroken b k.whole) k.found (sym (ap (λ x. x.kind) k.is) ∙ e) in
    let end : c.end ≡ r.end = ap (λ x. x.end) k.is in
    let low = t.low in
    let high = t.high in
    record {
      low = omega arith;
      high = omega arith;
      does = ap (λ n. tag_move (get_or b (n - 2) 0 == 47) c.start) end ∙ ap (λ s. tag_move s c.start) (sym t.slash) ∙ sym (moves-as b c k StartTag e);
    }

pub closes : (b : List ℕ) (c : Told) → IsConstruct b c → c.kind ≡ EndTag → Closes ≡ move_there b c.start
closes b c k e = sym (moves-as b c k EndTag e)

pub says : (b : List ℕ) (c : Told) → IsConstruct b c → (c.kind ≡ Text) ⊎ ((c.kind ≡ Reference) ⊎ (c.kind ≡ Cdata)) → Says ≡ move_there b c.start
says b c k (inl e) = sym (moves-as b c k Text e)
says b c k (inr (inl e)) = sym (moves-as b c k Reference e)
says b c k (inr (inr e)) = sym (moves-as b c k Cdata e)

others : (kind : Kind) (slash : Bool) (at : ℕ) → kind ≢ StartTag → kind ≢ EndTag → kind ≢ Text → kind ≢ Reference → kind ≢ Cdata → kind_move kind slash at ≡ Passes
others Declaration slash at a b c d e = refl
others Instruction slash at a b c d e = refl
others Comment slash at a b c d e = refl
others Cdata slash at a b c d e = absurd (e refl)
others Doctype slash at a b c d e = refl
others Unknown slash at a b c d e = refl
others EndTag slash at a b c d e = absurd (b refl)
others StartTag slash at a b c d e = absurd (a refl)
others Reference slash at a b c d e = absurd (d refl)
others Text slash at a b c d e = absurd (c refl)

pub passes : (b : List ℕ) (c : Told) → IsConstruct b c → c.kind ≢ StartTag → c.kind ≢ EndTag → c.kind ≢ Text → c.kind ≢ Reference → c.kind ≢ Cdata → Passes ≡ move_there b c.start
passes b c k x y z u v = sym (moves b c k ∙ others c.kind (slashes k.reach.what.text) c.start x y z u v)

-- a construct that is found
pub found-construct : (b : List ℕ) (from : ℕ) (c : Told) → IsWhole b → Some c ≡ option_map told (reach_at (reaches b) from) → IsConstruct b c × (c.start ≡ from)
found-construct b from c h e = by (reach_at (reaches b) from) refl e where
  by : (o : Option Reach) → reach_at (reaches b) from ≡ o → Some c ≡ option_map told o → IsConstruct b c × (c.start ≡ from)
  by None f g = absurd (cc)
  by (Some r) f g =
      let is : c ≡ told r = cc in
      let at : c.start ≡ from = ap (λ x. x.start) is ∙ (listed (length b) (cut b).constructs from r f).1 in
      (record { whole = h; reach = r; found = ap (reach_at (reaches b)) at ∙ f; is = is }, at)

pub is-step : (b : List ℕ) (from : ℕ) (c : Told) (does : Move) → IsWhole b → Some c ≡ option_map told (reach_at (reaches b) from) → does ≡ move_there b c.start
    → Some (record { does = does; start = c.start; end = c.end }) ≡ option_map stepped (reach_at (reaches b) from)
is-step b from c does h e d =
    let k = found-construct b from c h e in
    let r = k.0.reach in
    let m : does ≡ move r = d ∙ ap (λ o. option_map_or move o Passes) k.0.found in
    (λ i. Some (record { does = m i; start = (k.0.is i).start; end = (k.0.is i).end })) ∙ ap (option_map stepped) (sym k.0.found ∙ ap (reach_at (reaches b)) k.1)

-- only the tag itself opens its element
kind-opens : (kind : Kind) (slash : Bool) (at a : ℕ) → kind_move kind slash at ≡ Opens a → a ≡ at
kind-opens StartTag slash at a e = by slash e where
  by : (b : Bool) → (if b then Passes else Opens at) ≡ Opens a → a ≡ at
  by true f = absurd (cc)
  by false f = (let g : at ≡ a = cc in sym g)
kind-opens Declaration slash at a e = absurd (cc)
kind-opens Instruction slash at a e = absurd (cc)
kind-opens Comment slash at a e = absurd (cc)
kind-opens Cdata slash at a e = absurd (cc)
kind-opens Doctype slash at a e = absurd (cc)
kind-opens Unknown slash at a e = absurd (cc)
kind-opens EndTag slash at a e = absurd (cc)
kind-opens Reference slash at a e = absurd (cc)
kind-opens Text slash at a e = absurd (cc)

pub opens-at : (b : List ℕ) (from : ℕ) (r : Reach) (a : ℕ) → IsWhole b → reach_at (reaches b) from ≡ Some r → move r ≡ Opens a → a ≡ from
opens-at b from r a h f e =
    let at : r.what.start ≡ from = (listed (length b) (cut b).constructs from r f).1 in
    let k : IsConstruct b (told r) = record { whole = h; reach = r; found = ap (reach_at (reaches b)) at ∙ f; is = refl } in
    let there : move_there b r.what.start ≡ move r = ap (λ o. option_map_or move o Passes) k.found in
    kind-opens r.what.kind (slashes r.what.text) r.what.start a (sym (moves b (told r) k) ∙ there ∙ e) ∙ at
