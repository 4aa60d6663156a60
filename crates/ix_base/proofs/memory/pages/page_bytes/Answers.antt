use Rattle.std.proofs.Common.{◌≡◌, get_or}
use Rattle.ix_base.proofs.PageLemmas.{bytes_at_read}
use Rattle.ix_base.proofs.memory.pages.page_bytes.Goals as goal

pub returns : goal.returns
returns c =
    let e = bytes_at_read c.args.pages.now c.args.index c.index-pages-index.result c.requires in
    let f : c.index-pages-index.result.bytes ≡ (get_or c.args.pages.now c.args.index c.index-pages-index.result).bytes = rw (← c.index-pages-index.is) in
    cc
