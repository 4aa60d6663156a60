-- What a piece does to a reading.
use Rattle.std.proofs.Common.{◌≡◌, ℕ, ◌+◌, ◌-◌, ◌<◌, ◌≤◌, ◌==◌, Bool, true, false, cond, List, [], ◌∷◌, ◌++◌, length, take, drop, slice_set, get_or, Option, Some, None, is_some, Ok, Err, refl, sym, ap, ◌∙◌, arith, subst, append_assoc, append-nil, length-append, length-take, add-one, add-zero, ⊎_elim}
use Rattle.std.proofs.lemmas.Bool.{cases_lt}
use Rattle.std.proofs.lemmas.List.{take-append-drop, take_more_set}
use Rattle.std.proofs.Math.Seq.{take-suc, take-append_seam, take-length, drop-length}
use Rattle.std.proofs.Math.ListN.{length-set}
use Rattle.bstr.specs.Utf8.{decoded}
use Rattle.bstr.proofs.lemmas.PieceLemmas.{piece-bounds, value-1}
use Rattle.ix_base.specs.NcName.{is_allowed}
use Rattle.page_text.specs.Fronts.{is_part, front, front_on}
use Rattle.page_text.specs.Characters.{Scan, mark, no_marks, scan_on, scan_from, scan, shown, unified, chars, stop, begun, first_break}
use Rattle.page_text.specs.Model.{Reading, ends_in_cr, begin, reading_of, Stands, seen, after_on, after, due_on, due, answer}
use Rattle.page_text.specs.Cuts.{joined, after_all, due_all}
use Rattle.page_text.specs.Growth.{Gains, GainsFront}
use Rattle.page_text.specs.declared.Mark.{Mark}
use Rattle.page_text.specs.declared.TextFault.{TextFault}
use Rattle.page_text.specs.declared.TextFault.TheVariants.{BadBytes, BadChar}
use Rattle.page_text.specs.declared.fronts.Front.{Front}
use Rattle.page_text.specs.declared.fronts.Front.TheVariants.{Allowed, Banned, Part, Ill}
use Rattle.page_text.proofs.Pieces.{decoded-less}
use Rattle.page_text.proofs.Scans.{beyond, scan-nil, scan-front, then_on, then, scan-append, part-within, ended_on, scan-ended}

-- ---- marks of two scans, one behind the other

unified-append : (cr : Bool) (a b : List Mark) → unified cr (a ++ b) ≡ unified cr a ++ unified (ends_in_cr cr a) b
unfolding unified ends_in_cr
unified-append cr [] b = refl
unified-append cr (m ∷ ms) b =
    ap (λ t. shown cr m.ch m.offset ++ t) (unified-append (m.ch == 0xD) ms b)
    ∙ sym (append_assoc (shown cr m.ch m.offset) (unified (m.ch == 0xD) ms) (unified (ends_in_cr (m.ch == 0xD) ms) b))

ends_in_cr-append : (cr : Bool) (a b : List Mark) → ends_in_cr cr (a ++ b) ≡ ends_in_cr (ends_in_cr cr a) b
unfolding ends_in_cr
ends_in_cr-append cr [] b = refl
ends_in_cr-append cr (m ∷ ms) b = ends_in_cr-append (m.ch == 0xD) ms b

-- ---- a reading goes on

-- as many bytes wait as were read, at most
abbrev pub Fits : Reading → Type 0
Fits r = length r.part ≤ r.pushed

-- a scan that goes on, as a reading sees it
goes-on : (cr : Bool) (pushed more : ℕ) (s t : Scan) (o : Option TextFault) → s.stop ≡ o
    → (after_on o (record { pushed = pushed; part = s.part; after_cr = ends_in_cr cr s.marks; fault = o }) more t
    ≡ record { pushed = pushed + more; part = (then_on o s t).part; after_cr = ends_in_cr cr (then_on o s t).marks; fault = (then_on o s t).stop })
    × (unified cr (then_on o s t).marks ≡ unified cr s.marks ++ due_on o (unified (ends_in_cr cr s.marks) t.marks))
goes-on cr pushed more s t (Some f) e =
    (ap (λ g. record { pushed = pushed + more; part = s.part; after_cr = ends_in_cr cr s.marks; fault = g }) (sym e), sym (append-nil (unified cr s.marks)))
goes-on cr pushed more s t None e = (
  ap (λ b. record { pushed = pushed + more; part = t.part; after_cr = b; fault = t.stop }) (sym (ends_in_cr-append cr s.marks t.marks)),
  unified-append cr s.marks t.marks,
)

abbrev Goes : Option TextFault → Reading → List ℕ → List ℕ → Type 0
Goes o r a b =
    let s = seen r a in
    let next = after_on o r (length a) s in
    (after_on next.fault next (length b) (seen next b) ≡ after_on o r (length (a ++ b)) (seen r (a ++ b)))
    × (due_on o (unified r.after_cr (seen r (a ++ b)).marks) ≡ due_on o (unified r.after_cr s.marks) ++ due_on next.fault (unified next.after_cr (seen next b).marks))

goes : (o : Option TextFault) (r : Reading) (a b : List ℕ) → r.fault ≡ o → Fits r → Goes o r a b
goes (Some f) r a b e fits =
    let long = length-append a b in
    let counted : r.pushed + length a + length b ≡ r.pushed + length (a ++ b) = omega arith in
    (ap (λ n. record { pushed = n; part = r.part; after_cr = r.after_cr; fault = Some f }) counted, refl)
goes None r a b e fits =
    let at = r.pushed - length r.part in
    let s = seen r a in
    let long = length-append a b in
    let longer = length-append r.part a in
    let next = after_on None r (length a) s in
    let joined : seen r (a ++ b) ≡ then s (at + length (r.part ++ a)) b =
    ap (λ bs. scan false at bs) (sym (append_assoc r.part a b)) ∙ scan-append (length (r.part ++ a)) at (r.part ++ a) b (omega arith) in
    let place : at + length (r.part ++ a) ≡ r.pushed + length a = omega arith in
    let counted : r.pushed + length a + length b ≡ r.pushed + length (a ++ b) = omega arith in
    let whole : seen r (a ++ b) ≡ then_on s.stop s (seen next b) = joined ∙ ap (λ size. then s size b) place in
    let on = goes-on r.after_cr (r.pushed + length a) (length b) s (seen next b) s.stop refl in (
      on.0
          ∙ ap (λ z. record { pushed = r.pushed + length a + length b; part = z.part; after_cr = ends_in_cr r.after_cr z.marks; fault = z.stop }) (sym whole)
          ∙ ap (λ n. record { pushed = n; part = (seen r (a ++ b)).part; after_cr = ends_in_cr r.after_cr (seen r (a ++ b)).marks; fault = (seen r (a ++ b)).stop }) counted,
      ap (λ z. unified r.after_cr z.marks) whole ∙ on.1,
    )

pub after-append : (r : Reading) (a b : List ℕ) → Fits r → after (after r a) b ≡ after r (a ++ b)
unfolding after
after-append r a b fits = (goes r.fault r a b refl fits).0

pub due-append : (r : Reading) (a b : List ℕ) → Fits r → due r (a ++ b) ≡ due r a ++ due (after r a) b
unfolding after due
due-append r a b fits = (goes r.fault r a b refl fits).1

pushed-after-on : (o : Option TextFault) (r : Reading) (n : ℕ) (s : Scan) → (after_on o r n s).pushed ≡ r.pushed + n
pushed-after-on (Some f) r n s = refl
pushed-after-on None r n s = refl

-- a piece counts, whatever it has
pub pushed-after : (r : Reading) (piece : List ℕ) → (after r piece).pushed ≡ r.pushed + length piece
unfolding after
pushed-after r piece = pushed-after-on r.fault r (length piece) (seen r piece)

fits-after-on : (o : Option TextFault) (r : Reading) (piece : List ℕ) → Fits r → Fits (after_on o r (length piece) (seen r piece))
fits-after-on (Some f) r piece fits = omega arith
fits-after-on None r piece fits =
    let long = length-append r.part piece in
    let within = part-within (length (r.part ++ piece)) (r.pushed - length r.part) (r.part ++ piece) (omega arith) in
    omega arith

pub fits-after : (r : Reading) (piece : List ℕ) → Fits r → Fits (after r piece)
unfolding after
fits-after r piece fits = fits-after-on r.fault r piece fits

-- behind a fault nothing comes
after-stuck-on : (o : Option TextFault) (r : Reading) (piece : List ℕ) → r.fault ≡ o → is_some o ≡ true → after_on o r (length piece) (seen r piece) ≡ record r { pushed = r.pushed + length piece }
after-stuck-on (Some f) r piece e some = ap (λ g. record { pushed = r.pushed + length piece; part = r.part; after_cr = r.after_cr; fault = g }) (sym e)
after-stuck-on None r piece e some = absurd (cc)

pub after-stuck : (r : Reading) (piece : List ℕ) → is_some r.fault ≡ true → after r piece ≡ record r { pushed = r.pushed + length piece }
unfolding after
after-stuck r piece some = after-stuck-on r.fault r piece refl some

due-stuck-on : (o : Option TextFault) (ms : List Mark) → is_some o ≡ true → due_on o ms ≡ []
due-stuck-on (Some f) ms some = refl
due-stuck-on None ms some = absurd (cc)

pub due-stuck : (r : Reading) (piece : List ℕ) → is_some r.fault ≡ true → due r piece ≡ []
unfolding due
due-stuck r piece some = due-stuck-on r.fault _ some

-- ---- a reading that code can have

-- what waits is the first bytes of a character
abbrev pub IsSound : Reading → Type 0
IsSound r = (length r.part ≤ r.pushed) × (0 < length r.part → front r.part ≡ Part)

scan-part : (at : ℕ) (bs : List ℕ) → (0 < length bs → front bs ≡ Part) → scan false at bs ≡ no_marks None bs
scan-part at [] h = scan-nil false at
scan-part at (x ∷ bs) h = scan-front false at (x ∷ bs) Part (omega arith) (h (omega arith))

seen-nil : (r : Reading) → IsSound r → seen r [] ≡ no_marks None r.part
seen-nil r sound = ap (λ bs. scan false (r.pushed - length r.part) bs) (append-nil r.part) ∙ scan-part (r.pushed - length r.part) r.part sound.1

after-on-nil : (o : Option TextFault) (r : Reading) → r.fault ≡ o → IsSound r → after_on o r 0 (seen r []) ≡ r
unfolding ends_in_cr
after-on-nil (Some f) r e sound =
    ap (λ n. record { pushed = n; part = r.part; after_cr = r.after_cr; fault = Some f }) (add-zero r.pushed)
    ∙ ap (λ g. record { pushed = r.pushed; part = r.part; after_cr = r.after_cr; fault = g }) (sym e)
after-on-nil None r e sound =
    ap (λ s. after_on None r 0 s) (seen-nil r sound)
    ∙ ap (λ n. record { pushed = n; part = r.part; after_cr = r.after_cr; fault = None }) (add-zero r.pushed)
    ∙ ap (λ g. record { pushed = r.pushed; part = r.part; after_cr = r.after_cr; fault = g }) (sym e)

due-on-nil : (o : Option TextFault) (r : Reading) → IsSound r → due_on o (unified r.after_cr (seen r []).marks) ≡ []
unfolding unified
due-on-nil (Some f) r sound = refl
due-on-nil None r sound = ap (λ s. unified r.after_cr s.marks) (seen-nil r sound)

-- an empty piece does nothing
pub after-nil : (r : Reading) (piece : List ℕ) → piece ≡ [] → IsSound r → after r piece ≡ r
unfolding after
after-nil r piece e sound = ap (λ p. after_on r.fault r (length p) (seen r p)) e ∙ after-on-nil r.fault r refl sound

pub due-nil : (r : Reading) (piece : List ℕ) → piece ≡ [] → IsSound r → due r piece ≡ []
unfolding due
due-nil r piece e sound = ap (λ p. due_on r.fault (unified r.after_cr (seen r p).marks)) e ∙ due-on-nil r.fault r sound

-- ---- one byte more

-- the first bytes of a character are none
part-or-all : (o : Option ℕ) (v w : List ℕ) (c : ℕ) → front_on o v ≡ Part → front_on o w ≡ Allowed c → ⊥
part-or-all (Some x) v w c p e = let clash : Part ≡ Allowed c = sym p ∙ e in absurd (cc (clash))
part-or-all None v w c p e = elim (is_part w) as (λ b. cond b Part Ill ≡ Allowed c → ⊥) [ true ↦ λ q. absurd (cc) | false ↦ λ q. absurd (cc) ] e

-- a character ends with its last byte
whole-size : (w : List ℕ) (x c : ℕ) → (0 < length w → front w ≡ Part) → front (w ++ x ∷ []) ≡ Allowed c → (decoded (w ++ x ∷ [])).size ≡ length (w ++ x ∷ [])
whole-size [] x c h e = let b = piece-bounds (x ∷ []) (omega arith) in omega arith
whole-size (y ∷ w) x c h e =
    let v = (y ∷ w) ++ x ∷ [] in
    let b = piece-bounds v (omega arith) in
    let l = length-append (y ∷ w) (x ∷ []) in
    ⊎_elim (λ long. omega arith)
    (λ short.
    let same = decoded-less (y ∷ w) (x ∷ []) (omega arith) short in
    absurd (part-or-all (decoded (y ∷ w)).char (y ∷ w) v c (h (omega arith)) (ap (λ d. front_on d.char v) (sym same) ∙ e)))
    (cases_lt (length (y ∷ w)) (decoded v).size)

-- what a byte does, by what then stands in front
abbrev pub taken : Reading → ℕ → List ℕ → Front → Reading
taken r at bs (Allowed c) = record { pushed = r.pushed + 1; part = []; after_cr = c == 0xD; fault = r.fault }
taken r at bs Banned = record { pushed = r.pushed + 1; part = []; after_cr = r.after_cr; fault = Some (BadChar at) }
taken r at bs Part = record { pushed = r.pushed + 1; part = bs; after_cr = r.after_cr; fault = r.fault }
taken r at bs Ill = record { pushed = r.pushed + 1; part = []; after_cr = r.after_cr; fault = Some (BadBytes at) }

abbrev pub given : Reading → ℕ → Front → List Mark
given r at (Allowed c) = shown r.after_cr c at
given r at Banned = []
given r at Part = []
given r at Ill = []

-- the scan of a front that ends with its last byte
scan-ends : (at : ℕ) (bs : List ℕ) (f : Front) → 0 < length bs → front bs ≡ f → ((c : ℕ) → f ≡ Allowed c → (decoded bs).size ≡ length bs) → scan false at bs ≡ scan_on false at bs f (no_marks None [])
scan-ends at bs (Allowed c) pos e whole =
    let nothing : drop (decoded bs).size bs ≡ [] = ap (λ k. drop k bs) (whole c refl) ∙ drop-length bs in
    let rest : beyond false at bs ≡ no_marks None [] = ap (λ d. scan false (at + (decoded bs).size) d) nothing ∙ scan-nil false (at + (decoded bs).size) in
    scan-front false at bs (Allowed c) pos e ∙ ap {A = Scan} (λ s. record s { marks = mark c at ∷ s.marks }) rest
scan-ends at bs Banned pos e whole = scan-front false at bs Banned pos e
scan-ends at bs Part pos e whole = scan-front false at bs Part pos e
scan-ends at bs Ill pos e whole = scan-front false at bs Ill pos e

taken-is : (r : Reading) (at : ℕ) (bs : List ℕ) (f : Front) → r.fault ≡ None → after_on None r 1 (scan_on false at bs f (no_marks None [])) ≡ taken r at bs f
unfolding ends_in_cr
taken-is r at bs (Allowed c) n = ap (λ o. record { pushed = r.pushed + 1; part = []; after_cr = c == 0xD; fault = o }) (sym n)
taken-is r at bs Banned n = refl
taken-is r at bs Part n = ap (λ o. record { pushed = r.pushed + 1; part = bs; after_cr = r.after_cr; fault = o }) (sym n)
taken-is r at bs Ill n = refl

given-is : (r : Reading) (at : ℕ) (bs : List ℕ) (f : Front) → unified r.after_cr (scan_on false at bs f (no_marks None [])).marks ≡ given r at f
unfolding unified
given-is r at bs (Allowed c) = append-nil (shown r.after_cr c at)
given-is r at bs Banned = refl
given-is r at bs Part = refl
given-is r at bs Ill = refl

seen-byte : (r : Reading) (x at : ℕ) (bs : List ℕ) (f : Front) → IsSound r → bs ≡ r.part ++ x ∷ [] → at ≡ r.pushed - length r.part → f ≡ front bs
    → seen r (x ∷ []) ≡ scan_on false at bs f (no_marks None [])
seen-byte r x at bs f sound p a e =
    let long = length-append r.part (x ∷ []) in
    let size : length bs ≡ length (r.part ++ x ∷ []) = ap length p in
    rw (a) (ap (λ w. scan false (r.pushed - length r.part) w) (sym p)
    ∙ scan-ends (r.pushed - length r.part) bs f (omega arith) (sym e)
    (λ c q. subst (λ w. (decoded w).size ≡ length w) (sym p) (whole-size r.part x c sound.1 (ap front (sym p) ∙ sym e ∙ q))))

pub after-byte : (r : Reading) (x at : ℕ) (bs : List ℕ) (f : Front) → r.fault ≡ None → IsSound r → bs ≡ r.part ++ x ∷ [] → at ≡ r.pushed - length r.part → f ≡ front bs
    → after r (x ∷ []) ≡ taken r at bs f
unfolding after
after-byte r x at bs f n sound p a e =
    ap (λ o. after_on o r 1 (seen r (x ∷ []))) n ∙ ap (λ s. after_on None r 1 s) (seen-byte r x at bs f sound p a e) ∙ taken-is r at bs f n

pub due-byte : (r : Reading) (x at : ℕ) (bs : List ℕ) (f : Front) → r.fault ≡ None → IsSound r → bs ≡ r.part ++ x ∷ [] → at ≡ r.pushed - length r.part → f ≡ front bs
    → due r (x ∷ []) ≡ given r at f
unfolding due
due-byte r x at bs f n sound p a e =
    ap (λ o. due_on o (unified r.after_cr (seen r (x ∷ [])).marks)) n ∙ ap (λ s. unified r.after_cr s.marks) (seen-byte r x at bs f sound p a e) ∙ given-is r at bs f

-- an ASCII byte is a character of its own
front-ascii : (x : ℕ) → x < 0x80 → front (x ∷ []) ≡ cond (is_allowed x) (Allowed x) Banned
front-ascii x small = ap (λ d. front_on d.char (x ∷ [])) (value-1 1 x 0 0 0 (omega arith, small))

front-allowed : (x : ℕ) → x < 0x80 → is_allowed x ≡ true → Allowed x ≡ front (x ∷ [])
front-allowed x small e = sym (front-ascii x small ∙ ap (λ b. cond b (Allowed x) Banned) e)

front-banned : (x : ℕ) → x < 0x80 → is_allowed x ≡ false → Banned ≡ front (x ∷ [])
front-banned x small e = sym (front-ascii x small ∙ ap (λ b. cond b (Allowed x) Banned) e)

-- a byte where none waits
sound-alone : (r : Reading) → r.part ≡ [] → IsSound r
sound-alone r p = let size = ap length p in (omega (arith, size), λ h. absurd (omega (arith, size, h)))

place-alone : (r : Reading) → r.part ≡ [] → r.pushed ≡ r.pushed - length r.part
place-alone r p = let size = ap length p in omega (arith, size)

after-alone : (r : Reading) (x : ℕ) (f : Front) → r.fault ≡ None → r.part ≡ [] → f ≡ front (x ∷ []) → after r (x ∷ []) ≡ taken r r.pushed (x ∷ []) f
after-alone r x f none p e = after-byte r x r.pushed (x ∷ []) f none (sound-alone r p) (ap (λ w. w ++ x ∷ []) (sym p)) (place-alone r p) e

pub after-allowed : (r : Reading) (x : ℕ) → r.fault ≡ None → r.part ≡ [] → x < 0x80 → is_allowed x ≡ true
    → record { pushed = r.pushed + 1; part = r.part; after_cr = x == 0xD; fault = r.fault } ≡ after r (x ∷ [])
after-allowed r x none p small e =
    ap (λ w. record { pushed = r.pushed + 1; part = w; after_cr = x == 0xD; fault = r.fault }) p
    ∙ sym (after-alone r x (Allowed x) none p (front-allowed x small e))

pub after-banned : (r : Reading) (x : ℕ) → r.fault ≡ None → r.part ≡ [] → x < 0x80 → is_allowed x ≡ false
    → record { pushed = r.pushed + 1; part = r.part; after_cr = r.after_cr; fault = Some (BadChar r.pushed) } ≡ after r (x ∷ [])
after-banned r x none p small e =
    ap (λ w. record { pushed = r.pushed + 1; part = w; after_cr = r.after_cr; fault = Some (BadChar r.pushed) }) p
    ∙ sym (after-alone r x Banned none p (front-banned x small e))

due-alone : (r : Reading) (x : ℕ) (f : Front) → r.fault ≡ None → r.part ≡ [] → f ≡ front (x ∷ []) → due r (x ∷ []) ≡ given r r.pushed f
due-alone r x f none p e = due-byte r x r.pushed (x ∷ []) f none (sound-alone r p) (ap (λ w. w ++ x ∷ []) (sym p)) (place-alone r p) e

pub due-allowed : (r : Reading) (x : ℕ) → r.fault ≡ None → r.part ≡ [] → x < 0x80 → is_allowed x ≡ true → shown r.after_cr x r.pushed ≡ due r (x ∷ [])
due-allowed r x none p small e = sym (due-alone r x (Allowed x) none p (front-allowed x small e))

pub due-banned : (r : Reading) (x : ℕ) → r.fault ≡ None → r.part ≡ [] → x < 0x80 → is_allowed x ≡ false → [] ≡ due r (x ∷ [])
due-banned r x none p small e = sym (due-alone r x Banned none p (front-banned x small e))

-- a byte put behind those that wait in a buffer
module _ (pushed held x : ℕ) (buffer : List ℕ) (cr : Bool) (fault : Option TextFault) (fits : held < length buffer) (none : fault ≡ None)
    (sound : (held ≤ pushed) × (0 < held → front (take held buffer) ≡ Part)) where
  abbrev pub held_reading : Reading
  held_reading = record { pushed = pushed; part = take held buffer; after_cr = cr; fault = fault }

  abbrev pub bytes : List ℕ
  bytes = take (held + 1) (slice_set buffer held x)

  pub length-bytes : length bytes ≡ held + 1
  length-bytes = simp (length-take, length-set) (omega arith)

  size : length (take held buffer) ≡ held
  size = rw length-take (omega arith)

  is-sound : IsSound held_reading
  is-sound = (omega (arith, size, sound.0), λ h. sound.1 (omega (arith, size, h)))

  place : pushed - held ≡ pushed - length (take held buffer)
  place = rw size refl

  pub after-held : (f : Front) → f ≡ front bytes → after held_reading (x ∷ []) ≡ taken held_reading (pushed - held) bytes f
  after-held f e = after-byte held_reading x _ _ f none is-sound (take_more_set buffer held x fits) place e

  pub due-held : (f : Front) → f ≡ front bytes → due held_reading (x ∷ []) ≡ given held_reading (pushed - held) f
  due-held f e = due-byte held_reading x _ bytes f none is-sound (take_more_set buffer held x fits) place e

-- ---- a piece, byte by byte

taken-next : (xs : List ℕ) (i : ℕ) → i < length xs → take (i + 1) xs ≡ take i xs ++ get_or xs i 0 ∷ []
taken-next xs i h = rw add-one (take-suc xs i 0 h)

pub after-next : (r s : Reading) (xs : List ℕ) (i : ℕ) → Fits r → i < length xs → s ≡ after r (take i xs) → after s (get_or xs i 0 ∷ []) ≡ after r (take (i + 1) xs)
after-next r s xs i fits h e =
    ap (λ q. after q (get_or xs i 0 ∷ [])) e ∙ after-append r (take i xs) (get_or xs i 0 ∷ []) fits ∙ sym (ap (λ t. after r t) (taken-next xs i h))

pub due-next : (r s : Reading) (xs : List ℕ) (i : ℕ) → Fits r → i < length xs → s ≡ after r (take i xs) → due r (take i xs) ++ due s (get_or xs i 0 ∷ []) ≡ due r (take (i + 1) xs)
due-next r s xs i fits h e =
    ap (λ q. due r (take i xs) ++ due q (get_or xs i 0 ∷ [])) e
    ∙ sym (due-append r (take i xs) (get_or xs i 0 ∷ []) fits) ∙ sym (ap (λ t. due r t) (taken-next xs i h))

-- what the first bytes of a piece make certain comes first
due-split : (r : Reading) (xs : List ℕ) (i : ℕ) → Fits r → due r xs ≡ due r (take i xs) ++ due (after r (take i xs)) (drop i xs)
due-split r xs i fits = ap (λ t. due r t) (sym (take-append-drop i xs)) ∙ due-append r (take i xs) (drop i xs) fits

pub due-front : (r : Reading) (xs : List ℕ) (i : ℕ) → Fits r → due r (take i xs) ≡ take (length (due r (take i xs))) (due r xs)
due-front r xs i fits =
    let front = due r (take i xs) in
    sym (ap (λ t. take (length front) t) (due-split r xs i fits) ∙ take-append_seam front (due (after r (take i xs)) (drop i xs)))

-- ---- the whole page

after-begin : (b : List ℕ) → after begin b ≡ reading_of (length b) (scan false 0 b)
unfolding after
after-begin b = let counted : 0 + length b ≡ length b = omega arith in ap (λ n. reading_of n (scan false 0 b)) counted

due-begin : (b : List ℕ) → due begin b ≡ begun b
unfolding due
due-begin b = refl

pub stands-begin : Stands begin []
stands-begin = sym (after-nil begin [] refl (omega arith, λ h. absurd (omega arith))) ∙ after-begin []

pub stands-after : (r : Reading) (b piece : List ℕ) → Stands r b → Stands (after r piece) (b ++ piece)
stands-after r b piece e = ap (λ q. after q piece) (e ∙ sym (after-begin b)) ∙ after-append begin b piece (omega arith) ∙ after-begin (b ++ piece)

pub begun-due : (r : Reading) (b piece : List ℕ) → Stands r b → begun (b ++ piece) ≡ begun b ++ due r piece
begun-due r b piece e =
    sym (due-begin (b ++ piece)) ∙ due-append begin b piece (omega arith) ∙ ap (λ t. t ++ due (after begin b) piece) (due-begin b)
    ∙ ap (λ q. begun b ++ due q piece) (after-begin b ∙ sym e)

pub stops : (r : Reading) (b : List ℕ) → Stands r b → r.fault ≡ first_break b
stops r b e = ap (λ q. q.fault) e

pub gains : (r : Reading) (b piece : List ℕ) (old new : List Mark) → Stands r b → new ≡ old ++ due r piece → Gains old new (begun b) (begun (b ++ piece))
gains r b piece old new e n = record { gained = due r piece; beyond = begun-due r b piece e; added = n }

pub gains-front : (r : Reading) (b piece : List ℕ) (old new : List Mark) (n : ℕ) → Stands r b → new ≡ old ++ take n (due r piece) → GainsFront old new (begun b) (begun (b ++ piece))
gains-front r b piece old new n e m = record {
  gained = take n (due r piece);
  left = drop n (due r piece);
  beyond = begun-due r b piece e ∙ ap (λ t. begun b ++ t) (sym (take-append-drop n (due r piece)))
      ∙ sym (append_assoc (begun b) (take n (due r piece)) (drop n (due r piece)));
  added = m;
}

pub chars-begun : (b : List ℕ) → chars b ≡ begun b
chars-begun b = ap (λ s. unified false s.marks) (scan-ended (length b) 0 b (omega arith))

pub gains-none : (b : List ℕ) (marks : List Mark) → Gains marks marks (begun b) (chars b)
gains-none b marks = record { gained = []; beyond = chars-begun b ∙ sym (append-nil (begun b)); added = sym (append-nil marks) }

pub stop-ended : (r : Reading) (b : List ℕ) → Stands r b → ended_on r.fault r.pushed r.part ≡ stop b
stop-ended r b e =
    let counted : 0 + length b ≡ length b = omega arith in
    sym (ap (λ s. s.stop) (scan-ended (length b) 0 b (omega arith)) ∙ ap (λ n. ended_on (scan false 0 b).stop n (scan false 0 b).part) counted
    ∙ ap (λ q. ended_on q.fault q.pushed q.part) (sym e))

-- ---- any pieces

pub begun-nil : begun [] ≡ []
unfolding unified scan_from
begun-nil = refl

pub stands-after_all : (r : Reading) (b : List ℕ) (pieces : List (List ℕ)) → Stands r b → Stands (after_all r pieces) (b ++ joined pieces)
unfolding after_all joined
stands-after_all r b [] e = subst (λ t. Stands r t) (sym (append-nil b)) e
stands-after_all r b (p ∷ ps) e =
    subst (λ t. Stands (after_all (after r p) ps) t) (append_assoc b p (joined ps)) (stands-after_all (after r p) (b ++ p) ps (stands-after r b p e))

pub begun-due_all : (r : Reading) (b : List ℕ) (pieces : List (List ℕ)) → Stands r b → begun (b ++ joined pieces) ≡ begun b ++ due_all r pieces
unfolding due_all joined
begun-due_all r b [] e = ap (λ t. begun t) (append-nil b) ∙ sym (append-nil (begun b))
begun-due_all r b (p ∷ ps) e =
    ap (λ t. begun t) (sym (append_assoc b p (joined ps))) ∙ begun-due_all (after r p) (b ++ p) ps (stands-after r b p e)
    ∙ ap (λ t. t ++ due_all (after r p) ps) (begun-due r b p e) ∙ append_assoc (begun b) (due r p) (due_all (after r p) ps)

-- ---- the answers

pub end-fault : (r : Reading) (b : List ℕ) (f : TextFault) → Stands r b → r.fault ≡ Some f → Err f ≡ answer (stop b)
end-fault r b f e g = ap answer (ap (λ o. ended_on o r.pushed r.part) (sym g) ∙ stop-ended r b e)

pub end-whole : (r : Reading) (b : List ℕ) → Stands r b → r.fault ≡ None → r.part ≡ [] → Ok tt ≡ answer (stop b)
end-whole r b e g p = ap answer (ap (λ w. ended_on None r.pushed w) (sym p) ∙ ap (λ o. ended_on o r.pushed r.part) (sym g) ∙ stop-ended r b e)

ended-waits : (size : ℕ) (w : List ℕ) (n : ℕ) → length w ≡ n → 0 < n → Some (BadBytes (size - n)) ≡ ended_on None size w
ended-waits size [] n e h = absurd (omega arith)
ended-waits size (x ∷ xs) n e h = ap (λ k. Some (BadBytes (size - k))) (sym e)

pub end-part : (r : Reading) (b : List ℕ) (n : ℕ) → Stands r b → r.fault ≡ None → length r.part ≡ n → 0 < n → Err (BadBytes (r.pushed - n)) ≡ answer (stop b)
end-part r b n e g l h = ap answer (ended-waits r.pushed r.part n l h ∙ ap (λ o. ended_on o r.pushed r.part) (sym g) ∙ stop-ended r b e)

-- ---- a piece that is pushed

pub held-sound : (pushed held : ℕ) (buffer : List ℕ) (cr : Bool) (fault : Option TextFault) → held ≤ length buffer → held ≤ pushed
    → (0 < held → front (take held buffer) ≡ Part) → IsSound (record { pushed = pushed; part = take held buffer; after_cr = cr; fault = fault })
held-sound pushed held buffer cr fault fits counted waits =
    let size : length (take held buffer) ≡ held = rw length-take (omega arith) in
    (omega (arith, size), λ h. waits (omega (arith, size, h)))

-- what was appended of a piece is the front of what it makes certain
pub appended : (r : Reading) (xs : List ℕ) (i : ℕ) (old new : List Mark) → Fits r → new ≡ old ++ due r (take i xs) → new ≡ old ++ take (length (due r (take i xs))) (due r xs)
appended r xs i old new fits n = n ∙ ap (λ t. old ++ t) (due-front r xs i fits)

-- all of a piece
pub appended-all : (r : Reading) (xs : List ℕ) (old new : List Mark) → new ≡ old ++ due r xs → new ≡ old ++ take (length (due r xs)) (due r xs)
appended-all r xs old new n = n ∙ ap (λ t. old ++ t) (sym (take-length (due r xs)))
