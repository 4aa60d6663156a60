use Rattle.std.proofs.Common.{◌≡◌, ◌∙◌, ◌+◌, sym, ap, map, drop, option_map}
use Rattle.std.specs.List.{filter_map}
use Rattle.page_tree.specs.Expansions.{expansion, known_name, named_pair, repeats_by}
use Rattle.page_tree.specs.Tags.{same_name}
use Rattle.page_tree.specs.declared.names.Expanded.{Expanded}
use Rattle.page_tree.proofs.TwiceLaws.{expanded-twice, expanded-none, expanded-past, expanded-found, expanded-seen, not-true, not-false}
use Rattle.page_tree.proofs.twice.repeats_expanded.Goals.{in-Some+in_ok-is_new+else-not-is_new, in_default}
use Rattle.page_tree.proofs.twice.repeats_expanded.Goals as goal

-- what is known of an item is known of the element where it stands
item : {a b : Expanded} → a ≡ b → known_name (expansion a) ≡ known_name (expansion b)
item e = ap (λ x. known_name (expansion x)) e

pub loop-one-init : goal.loop-one-init
loop-one-init c = expanded-none c.new-seen.result.keys (filter_map known_name (map expansion c.args.expanded.now)) c.new-seen.ensures.empty

pub returns-then-not-is_new : goal.returns-then-not-is_new
returns-then-not-is_new c =
    expanded-found c.args.expanded.now c.loop-one.one-index c.one-item.result c.loop-one.seen.keys _ c.loop-one-test.true c.in-Some.name (ap (option_map named_pair) (sym c.in-Some.is) ∙ c.known_name.ensures ∙ item c.one-item.is)
    (not-false _ (sym c.if-not-is_new.true ∙ c.in_ok-is_new.ensures.added)) c.loop-one.invariant

pub loop-one-preserved : goal.loop-one-preserved
loop-one-preserved c =
    let all = c.args.expanded.now in
    let i = c.loop-one.one-index in
    let r = repeats_by same_name (filter_map known_name (map expansion all)) in
    elim c.match-known_name.branch [
      | in-Some+in_ok-is_new+else-not-is_new w ↦
          ap (λ s. expanded-twice s.keys (filter_map known_name (map expansion (drop (i + 1) all)))) w.seen-is
          ∙ expanded-seen all i c.one-item.result c.loop-one.seen.keys r c.loop-one-test.true w.insert.new.self.keys w.in-Some.name (ap (option_map named_pair) (sym w.in-Some.is) ∙ c.known_name.ensures ∙ item c.one-item.is)
          (not-true _ (sym w.if-not-is_new.false ∙ w.in_ok-is_new.ensures.added)) w.in_ok-is_new.ensures.keys c.loop-one.invariant
      | in_default w ↦
          ap (λ s. expanded-twice s.keys (filter_map known_name (map expansion (drop (i + 1) all)))) w.seen-is
          ∙ expanded-past all i c.one-item.result c.loop-one.seen.keys r c.loop-one-test.true (ap (option_map named_pair) (sym w.in_default.is) ∙ c.known_name.ensures ∙ item c.one-item.is) c.loop-one.invariant
    ]
