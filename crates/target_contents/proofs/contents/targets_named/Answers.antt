use Rattle.std.proofs.Common.{◌∙◌, ◌∷◌, [], ◌++◌, ℕ, List, ap, map, sym, take}
use Rattle.std.proofs.lemmas.List.{map-append, take_all}
use Rattle.std.proofs.lemmas.List.Elements.{All-push, All-same}
use Rattle.std.specs.Borrow.{Bor}
use Rattle.ix_base.specs.LocatedElements.{base_in}
use Rattle.instance_lines.specs.Writable.{IsWritable}
use Rattle.target_contents.specs.declared.outcome.Target.{Target}
use Rattle.target_contents.specs.Contents.{IsContent}
use Rattle.target_contents.specs.Visits.{values_of}
use Rattle.target_contents.proofs.AmongLaws.{map-more-at}
use Rattle.target_contents.proofs.contents.targets_named.Goals as goal

pub loop-name-preserved : goal.loop-name-preserved
loop-name-preserved c =
    let names = c.args.names.now in
    let i = c.loop-name.name-index in
    let d : Bor (List ℕ) = record { ref_ptr = (0, 0); now = [] } in
    let before = c.loop-name.targets in
    let t = c.in_ok-target.target in
    let Is = λ (x : Target). IsContent (base_in c.args.valued.now.bases) c.args.valued.now.elements x.name x.content in
    let Fits = λ (x : Target). IsWritable x.content in record {
      names = ap (map (λ (x : Target). x.name)) c.in_ok-push.ensures.ok ∙ map-append (λ (x : Target). x.name) before (t ∷ [])
          ∙ ap (λ xs. xs ++ t.name ∷ []) c.loop-name.invariant.names
          ∙ ap (λ n. values_of (take i names) ++ n ∷ []) c.in_ok-target.ensures.name
          ∙ sym (map-more-at (λ (x : Bor (List ℕ)). x.now) names i d c.loop-name-test.true);
      contents = All-same Is _ _ c.in_ok-push.ensures.ok (All-push Is before t c.loop-name.invariant.contents c.in_ok-target.ensures.content);
      written = All-same Fits _ _ c.in_ok-push.ensures.ok (All-push Fits before t c.loop-name.invariant.written c.in_ok-target.ensures.written);
    }

pub returns-clause-targets : goal.returns-clause-targets
returns-clause-targets c = record {
  names = c.loop-name.invariant.names ∙ ap values_of (take_all c.loop-name.name-index c.args.names.now c.loop-name-test.false);
  contents = c.loop-name.invariant.contents;
}
