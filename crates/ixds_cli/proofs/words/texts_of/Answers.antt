use Rattle.std.proofs.Common.{◌∙◌, ap, sym, refl, map, string_bytes}
use Rattle.std.proofs.lemmas.Iterator.Adapters.{YieldsList-from_vec, YieldsList-from_skip}
use Rattle.std.proofs.lemmas.Iterator.Consumers.{YieldsList-at, YieldsList-end}
use Rattle.std.proofs.lemmas.List.{map-id, drop-map}
use Rattle.ixds_cli.proofs.words.texts_of.Goals as goal

pub returns : goal.returns
returns c =
    let all = YieldsList-from_vec {s = c.args.all} _ refl c.args.all.rest.ok.0 in
    let rest = YieldsList-from_skip 1 (YieldsList-at c.skip-word-items.ensures.source all) c.skip-word-items.ensures.count in
    let road = YieldsList-at c.into_iter-word-iterator.ensures.into_iter_gives rest in
    let end = YieldsList-end road c.loop-word.yielded _ c.loop-word.yielded_by _ c.next.new.self c.in-None.is c.next.ensures.steps in
    c.loop-word.invariant ∙ ap (map string_bytes) (sym (map-id c.loop-word.yielded) ∙ end.0) ∙ sym (drop-map string_bytes 1 _)
