use Rattle.std.proofs.Common.{◌≡◌, ◌∙◌, ap, sym, Err, None}
use Rattle.page_tree.proofs.PageLaws.{unbroken}
use Rattle.page_tree.specs.Break.{w}
use Rattle.page_tree.specs.Model.{limit, verdict_of}
use Rattle.page_tree.specs.declared.builder.PageFault.TheVariants as fault
use Rattle.instance_in.proofs.page.root_of.Goals as goal

pub returns-in-Err-Broken : goal.returns-in-Err-Broken
returns-in-Err-Broken c = λ t p.
    let told = c.in-Err-Broken.ensures.verdict c.args.bytes.now c.in_ok-feed_all.ensures.stands (λ e. cc) in
    let depth : limit c.feed_all.new.builder ≡ 258 = c.feed_all.ensures.limit ∙ c.new-builder.ensures.limit in
    let broken : verdict_of (Err (fault.Broken c.in-Err-Broken.field-0-0 c.in-Err-Broken.field-0-1)) ≡ None =
    ap (λ f. verdict_of (Err f)) (sym c.in-Err-Broken.field-0-is) ∙ told ∙ ap (w c.args.bytes.now) depth ∙ unbroken c.args.bytes.now 258 t p in
    absurd (cc)
