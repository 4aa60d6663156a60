use Rattle.std.proofs.Common.{◌∙◌, ◌++◌, ◌||◌, ap, List, ℕ, Bool}
use Rattle.std.proofs.lemmas.List.{take_all}
use Rattle.std.specs.Borrow.{Bor}
use Rattle.std.specs.List.{filter_map, list_any}
use Rattle.std.specs.Prelude.{is_none}
use Rattle.ix_base.specs.Ids.{one_such}
use Rattle.id_table.specs.Model.{asked}
use Rattle.id_table.specs.Tables.{all_located}
use Rattle.footnotes.specs.ArcLinks.{texts_of}
use Rattle.footnotes.specs.EndTests.{fits_end}
use Rattle.footnotes.proofs.LinkLaws.{step-from-at}
use Rattle.footnotes.proofs.NamedLaws.{any-at, named-join}
use Rattle.footnotes.proofs.relationships.push_all_named.Goals as goal

pub loop-word-preserved : goal.loop-word-preserved
loop-word-preserved c =
    let f = one_such (fits_end c.args.end) (asked c.args.index.now) in
    let g : List ℕ → Bool = λ id. is_none (f id) in
    record {
      spots = step-from-at (λ ws. filter_map f (texts_of ws)) (named-join f) c.args.words.now c.loop-word.word-index _ c.loop-word-test.true _ _ _
          c.loop-word.invariant.spots c.in_ok-misses.ensures.spots;
      missing = c.either-is_missing.ensures ∙ ap (λ m. c.loop-word.is_missing || m) c.in_ok-misses.ensures.missing
          ∙ any-at g c.args.words.now c.loop-word.word-index _ c.loop-word.is_missing c.loop-word-test.true c.loop-word.invariant.missing;
    }

pub returns-clause-spots : goal.returns-clause-spots
returns-clause-spots c =
    c.loop-word.invariant.spots
    ∙ ap (λ (ws : List (Bor (List ℕ))). all_located c.args.spots.now.items ++ filter_map (one_such (fits_end c.args.end) (asked c.args.index.now)) (texts_of ws))
    (take_all c.loop-word.word-index c.args.words.now c.loop-word-test.false)

pub returns-clause-missing : goal.returns-clause-missing
returns-clause-missing c =
    c.loop-word.invariant.missing
    ∙ ap (λ (ws : List (Bor (List ℕ))). list_any (λ id. is_none (one_such (fits_end c.args.end) (asked c.args.index.now) id)) (texts_of ws))
    (take_all c.loop-word.word-index c.args.words.now c.loop-word-test.false)
