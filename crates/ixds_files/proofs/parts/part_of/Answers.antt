use Rattle.std.proofs.Common.{◌≡◌, ◌∙◌, ◌++◌, ◌∷◌, [], List, Option, Some, None, ap, append_assoc, refl, subst}
use Rattle.ixds_files.specs.Deeds.{Deed, created, did, looked}
use Rattle.ixds_files.specs.TargetPath.{IsPartPath}
use Rattle.ixds_files.proofs.parts.part_of.Goals as goal

-- deeds behind others
did-did : (first then : List Deed) (old : Option (List Deed)) → did then (did first old) ≡ did (first ++ then) old
did-did first then None = refl
did-did first then (Some deeds) = ap Some (append_assoc deeds first then)

pub returns-clause-opened : goal.returns-clause-opened
returns-clause-opened g c =
    let found = c.in_ok-mode.mode in
    let beside = c.in_ok-file.beside in
    let place = c.as_str.ensures ∙ c.in_ok-place.ensures in record {
      dir = c.in_ok-dir.ensures;
      place = c.in_ok-place.ensures;
      beside = subst (λ p. IsPartPath p beside) c.in_ok-place.ensures c.in_ok-file.ensures.path;
      made = (
        found,
        c.in_ok-file.ensures.deeds ∙ ap (did (created beside found ∷ [])) c.in_ok-mode.ensures.ok
            ∙ did-did (looked c.as_str.result.now found ∷ []) (created beside found ∷ []) (g.F.Folder.deeds c.args.folder.now)
            ∙ ap (λ p. did (looked p found ∷ created beside found ∷ []) (g.F.Folder.deeds c.args.folder.now)) place,
      );
      empty = c.in_ok-file.ensures.empty;
    }
