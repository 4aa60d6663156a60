use Rattle.std.proofs.Common.{◌∙◌, ap, sym, ◌+◌, ◌++◌, [], ◌∷◌, map, drop, get_or, List, ℕ, Bor}
use Rattle.std.proofs.Math.ListN.{drop_of_length-le}
use Rattle.ix_base.specs.WrittenMarkup.{attrs_text}
use Rattle.instance_lines.specs.Prefixes.{declaration, numbered}
use Rattle.instance_lines.specs.Tables.{values_of}
use Rattle.instance_lines.proofs.RootLaws.{root_line-is, root_step}
use Rattle.instance_lines.proofs.Steps.{front_at}
use Rattle.instance_lines.proofs.prefix.root_of.Goals as goal

pub loop-space-preserved : goal.loop-space-preserved
loop-space-preserved c =
    let xs = c.args.spaces.now in
    let i = c.loop-space.space-index in
    let d : Bor (List ℕ) = record { ref_ptr = (0, 0); now = [] } in
    let x = get_or xs i d in
    let rest = values_of (drop (i + 1) xs) in
    record {
      number = ap (λ n. n + 1) c.loop-space.invariant.number;
      text = λ more.
          root_step rest (i + 1) x.now c.loop-space.out c.push_declaration.new.out _ more
          (λ m. rw (← c.loop-space.invariant.number) (c.in_ok-push_declaration.ensures m))
          (ap (λ ys. c.loop-space.out ++ attrs_text (map declaration (numbered (i + 1) (values_of ys))) more) (sym (front_at xs i d c.loop-space-test.true)) ∙ c.loop-space.invariant.text more);
    }

pub returns : goal.returns
returns c =
    let xs = c.args.spaces.now in
    let i = c.loop-space.space-index in
    let end = 62 ∷ 10 ∷ [] in
    c.in_ok-push.ensures.ok
    ∙ ap (λ ys. c.loop-space.out ++ attrs_text (map declaration (numbered (i + 1) (values_of ys))) end) (sym (drop_of_length-le xs c.loop-space-test.false))
    ∙ c.loop-space.invariant.text end
    ∙ ap (λ o. o ++ attrs_text (map declaration (numbered 1 (values_of xs))) end) c.in_ok-out.ensures
    ∙ root_line-is (values_of xs)
