-- What the calls of targets that are files do: to the part of the target begun last, and in its folder.
use Rattle.std.specs.Prelude.{◌≡◌, ◌⊎◌, ℕ, List, [], Option, Result, OnOk, OnErr, IfSome, None}
use Rattle.std.specs.Io.KnownBytes.{Appends}
use Rattle.ixds_files.specs.declared.parts.Part.{Part}
use Rattle.ixds_files.specs.Deeds.{Deed}
use Rattle.ixds_files.specs.PartPlaces.{lying}
use Rattle.ixds_files.specs.Parts.{LeavesFolder, LeavesPlace, LooksAtMost, MakesPart, PlacesPart, cleared}
use Rattle.ixds_files.specs.TargetPath.{IsPartPath, target_path}
use Rattle.ixds_files.specs.Writers.{AppendsFront}

-- A part was opened for a target: it knows the target's folder and its place, was made at a path beside that place, and holds
-- nothing where the folder tells what it does.
pub record IsOpened {F : Type 0} (contents : F → Option (List ℕ)) (folder target : List ℕ)
    (old new : Option (List Deed)) (part : Part F) : Type 0 where
  pub dir : part.dir ≡ folder
  pub place : part.place ≡ target_path folder target
  pub beside : IfSome part.beside (IsPartPath (target_path folder target))
  pub made : MakesPart (target_path folder target) part.beside old new
  pub empty : IfSome new (λ _. IfSome (contents part.file) (λ held. held ≡ []))

-- A begin removes the part that still lies somewhere, and opens one for its target; one that failed has made none.
pub record BeginsPart {F A E : Type 0} (contents : F → Option (List ℕ)) (folder target : List ℕ)
    (old new : Option (Part F)) (before now : Option (List Deed)) (result : Result A E) : Type 0 where
  pub opened : OnOk result (IfSome new (IsOpened contents folder target (cleared (lying old) before) now))
  pub unmade : OnErr result (LooksAtMost (target_path folder target) (cleared (lying old) before) now)
  pub gone : OnErr result (lying new ≡ None)

-- two parts lie at one path, for one place in one folder
pub record SamePlace {F : Type 0} (old new : Part F) : Type 0 where
  pub beside : new.beside ≡ old.beside
  pub place : new.place ≡ old.place
  pub dir : new.dir ≡ old.dir

-- A put adds its piece to the part, and does nothing in the folder; one that failed has added a front of the piece, and has
-- removed the part.
pub record PutsPart {F A E : Type 0} (contents : F → Option (List ℕ)) (piece : List ℕ)
    (old new : Option (Part F)) (before now : Option (List Deed)) (result : Result A E) : Type 0 where
  pub whole : OnOk result (IfSome old (λ p. IfSome new (λ q. Appends (contents p.file) (contents q.file) piece)))
  pub front : IfSome old (λ p. IfSome new (λ q. AppendsFront (contents p.file) (contents q.file) piece))
  pub quiet : OnOk result (now ≡ before)
  pub same : OnOk result (IfSome old (λ p. IfSome new (SamePlace p)))
  pub removed : OnErr result (now ≡ cleared (lying old) before)
  pub gone : OnErr result (lying new ≡ None)

-- what a failed finish has done: the part was removed before it took its place, or took it, and no more is known of the folder
abbrev pub LeavesPart : {F : Type 0} → (F → Option (List ℕ)) → Option (List Deed) → Option (List Deed) → Part F → Type 0
LeavesPart contents before now part =
    LeavesPlace part.beside (contents part.file) part.dir before now
    ⊎ LeavesFolder part.beside (contents part.file) part.dir part.place before now

-- A finish puts the part in the target's place; after one that failed it doesn't lie beside that place, either.
pub record FinishesPart {F A E : Type 0} (contents : F → Option (List ℕ))
    (old new : Option (Part F)) (before now : Option (List Deed)) (result : Result A E) : Type 0 where
  pub placed : OnOk result (IfSome old (λ p. PlacesPart p.beside (contents p.file) p.dir p.place before now))
  pub unplaced : OnErr result (IfSome old (LeavesPart contents before now))
  pub gone : lying new ≡ None
