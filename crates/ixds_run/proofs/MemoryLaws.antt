-- What a run answers over objects in memory that are fit for its command.
use Rattle.std.proofs.Common.{◌≡◌, ◌⊎◌, ◌∙◌, ap, sym, refl, subst, inl, inr, ℕ, zero, suc, ◌+◌, ◌-◌, ◌<◌, ◌≤◌, Bool, true, false, IsTrue, List, [], ◌∷◌, ◌++◌, length, take, map, if◌then◌else◌, Option, Some, None, IfSome, arith, length-append}
use Rattle.std.specs.Prelude.{is_none}
use Rattle.std.proofs.Math.Nat.{min-le_right}
use Rattle.std.proofs.lemmas.Bool.{eqb-true, ltb-true, or_cases}
use Rattle.std.proofs.lemmas.List.{length-map, length-take}
use Rattle.ix_base.specs.Calls.{listed}
use Rattle.ix_base.specs.MemPages.{pages_asked, pages_calls, pages_failed, pages_faults, pages_numbers, pages_page}
use Rattle.ix_base.specs.MemTargets.{sink_asked, sink_asked_len, sink_calls, sink_count, sink_faults, sink_most, sink_numbers, sink_room, sink_room_left, sink_targets}
use Rattle.ix_base.specs.MemText.{text_calls, text_numbers, text_room, text_taken}
use Rattle.ix_base.specs.Outside.{Begun, room_of}
use Rattle.ix_base.specs.Slots.{target_at, targets_at}
use Rattle.ix_base.specs.declared.memory.pages.MemPages.{MemPages}
use Rattle.ix_base.specs.declared.memory.shelf.Slot.{Slot}
use Rattle.ix_base.specs.declared.memory.targets.MemTargets.{MemTargets}
use Rattle.ix_base.specs.declared.memory.text.MemText.{MemText}
use Rattle.ixds_run.specs.Answers.{Answers}
use Rattle.page_verdicts.specs.CommandBytes.{bytes_told}
use Rattle.command_words.specs.Commands.{number_of, pages_of}
use Rattle.ixds_run.specs.Deliveries.{Gives, GivesFront, GivesPart}
use Rattle.page_verdicts.specs.Gains.{IsCut}
use Rattle.ixds_run.specs.InMemory.{AreFit, memory_outside}
use Rattle.page_verdicts.specs.PageReads.{IsAmong}
use Rattle.page_session.specs.Sources.{told, told_both}
use Rattle.command_words.specs.declared.command.Command.{Command}
use Rattle.command_words.specs.declared.command.Command.TheVariants.{Extract, Check, Sample, Plain, Trace, Session}
use Rattle.ixds_run.specs.declared.status.Status.{Status}
use Rattle.ixds_run.specs.declared.status.Status.TheVariants.{Done, Broken, Usage, ReadFault, WriteFault, NoMemory}
use Rattle.page_verdicts.proofs.HeldLaws.{some_is}

-- each of the pages that are told is there
told-there : (page : List ℕ → Option (List ℕ)) (front back : List (List ℕ)) (name : List ℕ) (bs : List (List ℕ))
    → told page (front ++ name ∷ back) ≡ Some bs → is_none (page name) ≡ true → ⊥
told-there page [] back name bs e h = by (page name) e h
  where
    by : (o : Option (List ℕ)) → told_both o (told page back) ≡ Some bs → is_none o ≡ true → ⊥
    by None e h = let z : None ≡ Some bs = e in cc
    by (Some b) e h = let z : false ≡ true = h in cc
told-there page (n ∷ front) back name bs e h =
    by (page n) (told page (front ++ name ∷ back)) (λ more is. told-there page front back name more is h) e
  where
    by : (o : Option (List ℕ)) (r : Option (List (List ℕ))) → ((more : List (List ℕ)) → r ≡ Some more → ⊥) → told_both o r ≡ Some bs → ⊥
    by None r next e = let z : None ≡ Some bs = e in cc
    by (Some b) None next e = let z : None ≡ Some bs = e in cc
    by (Some b) (Some more) next e = next more refl

abbrev behind : List ℕ → List ℕ
behind [] = []
behind (n ∷ ns) = ns

abbrev first : List ℕ → ℕ
first [] = 0
first (n ∷ ns) = n

none-or-some : (n : ℕ) → (n ≡ 0) ⊎ (0 < n)
none-or-some zero = inl refl
none-or-some (suc n) = inr (omega arith)

-- a number that doesn't fall stays or rises
equal-or-less : (n m : ℕ) → n ≤ m → (m ≡ n) ⊎ (n < m)
equal-or-less n m le = elim (none-or-some (m - n)) [
  | inl e ↦ inl (omega arith)
  | inr some ↦ inr (omega arith)
]

some-inj : {X : Type 0} (x y : X) → Some x ≡ Some y → x ≡ y
some-inj {X} x y e = ap (λ (o : Option X). out o) e
  where
    out : Option X → X
    out None = x
    out (Some z) = z

-- as many targets were begun as are told
count-at : (held : List ℕ) (earlier : List Slot) (any : Bool) (last : Slot)
    → length earlier + (if any then 1 else 0) ≡ length (targets_at held earlier any last)
count-at held earlier true last =
    sym (length-append (map (target_at held) earlier) (target_at held last ∷ []) ∙ ap (λ n. n + 1) (length-map earlier (target_at held)))
count-at held earlier false last =
    sym (length-append (map (target_at held) earlier) [] ∙ ap (λ n. n + 0) (length-map earlier (target_at held)))

count-told : (s : MemTargets) → sink_count s ≡ length (sink_targets s)
count-told s = count-at s.shelf.held.items s.shelf.earlier.items s.shelf.any s.shelf.last

-- what is left of the targets' room and what they take are together that room
accounted : (s : MemTargets) → sink_room_left s + room_of (sink_targets s) ≡ sink_room s
accounted s =
    let filled : room_of (sink_targets s) ≡ length s.shelf.held.items = s.shelf.filled in
    let len : s.shelf.held.len ≡ length s.shelf.held.items = s.shelf.held.ok.0 in
    let fits : s.shelf.held.len ≤ s.room = s.fits in
    omega arith

room-append : (a b : List Begun) → room_of (a ++ b) ≡ room_of a + room_of b
room-append [] b = let none : room_of b ≡ 0 + room_of b = omega arith in none
room-append (t ∷ a) b = let more = room-append a b in omega arith

-- a part of a target takes no more than the whole
record IsSmall (t : Begun) (part : List Begun) : Type 0 where
  pub room : room_of part ≤ length t.dir + (length t.name + length t.bytes)
  pub count : length part ≤ 1

cut-small : (t : Begun) (part : List Begun) → IsCut t part → IsSmall t part
cut-small t part (inl none) = subst (IsSmall t) (sym none) (record { room = omega arith; count = omega arith })
cut-small t part (inr cut) =
    let n = cut.0 in
    let front : length (take n t.bytes) ≤ length t.bytes = subst (λ k. k ≤ length t.bytes) (sym (length-take n t.bytes)) (min-le_right n (length t.bytes)) in
    subst (IsSmall t) (sym cut.1) (record { room = omega arith; count = omega arith })

module _ (c : Command) (bs : List (List ℕ)) (p p' : MemPages) (s s' : MemTargets) (t t' : MemText) (fit : AreFit c bs p s t) where
  -- no page can't be read
  absent : (names : List (List ℕ)) (name : List ℕ) → told (pages_page p) names ≡ Some bs → IsAmong (pages_page p) names (pages_asked p') name
      → IsTrue (pages_failed p') → pages_page p' ≡ pages_page p → pages_numbers p' ≡ pages_numbers p → ⊥
  absent names name all among failed page numbers =
      let none : listed (pages_calls p') ≡ [] = ap behind numbers ∙ fit.page_calls in
      let gone = sym (λ i. is_none (page i (among.asked_is i))) ∙ p'.shown failed none in
      told-there (pages_page p) among.front among.back name bs (ap (told (pages_page p)) (sym among.splits) ∙ all) gone

  no-fault : (d : Command) (name : List ℕ) → bytes_told (pages_page p) d ≡ Some bs → IsAmong (pages_page p) (pages_of d) (pages_asked p') name
      → IsTrue (pages_failed p') → pages_page p' ≡ pages_page p → pages_numbers p' ≡ pages_numbers p
      → IfSome (number_of d) (λ n. p' ≡ p) → pages_faults p < pages_faults p' → ⊥
  no-fault (Extract base dir names) name all among failed page numbers same rose = absent names name all among failed page numbers
  no-fault (Check base names) name all among failed page numbers same rose = absent names name all among failed page numbers
  no-fault (Sample number) name all among failed page numbers same rose =
      let level : pages_faults p' ≡ pages_faults p = ap pages_faults same in omega arith
  no-fault (Session base dir script) name all among failed page_same numbers same rose = absent (script ∷ []) name all among failed page_same numbers
  no-fault (Trace base names) name all among failed page numbers same rose = absent names name all among failed page numbers
  no-fault (Plain page) name all among failed page_same numbers same rose = absent (page ∷ []) name all among failed page_same numbers

  -- the text doesn't run out of room
  room-left : GivesFront (Some (sink_targets s)) (Some (sink_targets s')) (Some (text_taken t)) (Some (text_taken t')) c bs
      → IsTrue t'.calls.failed → text_numbers t' ≡ text_numbers t → ⊥
  room-left gives failed numbers =
      let none : listed (text_calls t') ≡ [] = ap behind numbers ∙ fit.text_calls in
      let room : text_room t' ≡ text_room t = ap first numbers in
      let text = gives.0.text in
      let n = gives.3.0 in
      let full : text_room t' - length (text_taken t') ≡ 0 = eqb-true _ _ (t'.shown failed none) in
      let taken : text_taken t' ≡ text_taken t ++ take n text = some-inj _ _ gives.3.1 in
      let count : length (text_taken t') ≡ length (text_taken t) + length (take n text) = ap length taken ∙ length-append (text_taken t) (take n text) in
      let front : length (take n text) ≤ length text = subst (λ k. k ≤ length text) (sym (length-take n text)) (min-le_right n (length text)) in
      let most = fit.text_room gives.0 gives.1 in
      omega arith

  -- the targets don't run out of places or of room
  places-left : GivesPart (Some (sink_targets s)) (Some (sink_targets s')) (record { told = sink_asked s'; len = sink_asked_len s' }) c bs
      → IsTrue s'.calls.failed → sink_numbers s' ≡ sink_numbers s → ⊥
  places-left gives failed numbers =
      let none : listed (sink_calls s') ≡ [] = ap (λ ns. behind (behind ns)) numbers ∙ fit.target_calls in
      let account = accounted s' in
      let most : sink_most s' ≡ sink_most s = ap first numbers in
      let room : sink_room s' ≡ sink_room s = ap (λ ns. first (behind ns)) numbers in
      let due = gives.0.targets in
      let gain = gives.2 in
      let ts = sink_targets s in
      let t = gain.target in
      let gained : sink_targets s' ≡ ts ++ (gain.whole ++ gain.part) = some-inj _ _ gain.gained in
      let small = cut-small t gain.part gain.cut in
      let part_room = small.room in
      let part_count = small.count in
      let taken : room_of (sink_targets s') ≡ room_of ts + (room_of gain.whole + room_of gain.part)
      = ap room_of gained ∙ room-append ts (gain.whole ++ gain.part) ∙ ap (λ n. room_of ts + n) (room-append gain.whole gain.part) in
      let all_room : room_of due ≡ room_of gain.whole + (length t.dir + (length t.name + length t.bytes) + room_of gain.behind)
      = ap room_of gain.splits ∙ room-append gain.whole (t ∷ gain.behind) in
      let count : sink_count s' ≡ length ts + (length gain.whole + length gain.part)
      = count-told s' ∙ ap length gained ∙ length-append ts (gain.whole ++ gain.part) ∙ ap (λ n. length ts + n) (length-append gain.whole gain.part) in
      let all : length due ≡ length gain.whole + suc (length gain.behind) = ap length gain.splits ∙ length-append gain.whole (t ∷ gain.behind) in
      let few = fit.places gives.0 gives.1 in
      let enough = fit.target_room gives.0 gives.1 in
      let words : sink_asked_len s' ≡ length t.dir + length t.name = gain.asked_len in
      elim (or_cases _ _ (s'.shown failed none)) [
        | inl full ↦ let full' = eqb-true (sink_count s') (sink_most s') full in omega arith
        | inr lacks ↦ elim (or_cases _ _ lacks) [
          | inl long ↦ let long' = ltb-true (sink_room_left s') (sink_asked_len s') long in omega arith
          | inr gone ↦ let gone' = eqb-true (sink_room_left s') 0 gone in omega arith
        ]
      ]

  pub fit-completes : (status : Status) → Answers (Some c) (memory_outside p s t) (memory_outside p' s' t') (p' ≡ p) (s' ≡ s) (t' ≡ t) status
      → Gives status (Some (sink_targets s)) (Some (sink_targets s')) (Some (text_taken t)) (Some (text_taken t')) c bs
      ⊎ (status ≡ NoMemory)
  fit-completes Done a = inl (some_is _ bs _ fit.pages (a.done refl))
  fit-completes Broken a = inl (some_is _ bs _ fit.pages (a.broken refl))
  fit-completes Usage a = absurd (let z : Some c ≡ None = (a.usage refl).0 in cc)
  fit-completes ReadFault a =
      let fault = a.read_fault refl in
      let told = fault.2 in
      absurd (no-fault c told.0 fit.pages told.1 told.2 a.same_pages a.same_numbers.0 a.sample fault.0)
  fit-completes NoMemory a = inr refl
  fit-completes WriteFault a = elim (none-or-some (sink_faults s')) [
    | inl level ↦
        let same : sink_faults s' ≡ sink_faults s = level ∙ sym fit.target_faults in
        elim (equal-or-less (pages_faults p) (pages_faults p') a.page_count) [
          | inl quiet ↦ absurd (room-left (some_is _ bs _ fit.pages (a.write_fault_text refl same quiet)) (a.write_fault_last_text refl same) a.same_numbers.2)
          | inr rose ↦
              let told = (a.write_fault_line refl rose).1 in
              absurd (no-fault c told.0 fit.pages told.1 told.2 a.same_pages a.same_numbers.0 a.sample rose)
        ]
    | inr rose ↦
        let rose' : sink_faults s < sink_faults s' = subst (λ n. n < sink_faults s') (sym fit.target_faults) rose in
        let part = some_is _ bs _ fit.pages (a.write_fault_targets refl rose').1 in
        absurd (places-left part (a.write_fault_last refl rose') a.same_numbers.1)
  ]
