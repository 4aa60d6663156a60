use Rattle.std.proofs.Common.{◌≡◌, [], false, true, None, refl, sym, subst}
use Rattle.page_text.specs.Characters.{begun}
use Rattle.page_tree.specs.MachineSteps.{Leads}
use Rattle.page_tree.specs.Buildings.{state_of}
use Rattle.page_constructs.specs.Constructs.{spread, whole_size}
use Rattle.page_tree.specs.Machine.{begin}
use Rattle.page_tree.proofs.SettleLaws.{none-whole}
use Rattle.page_tree.proofs.StandingLaws.{leads-new}
use Rattle.page_tree.proofs.builder.TreeBuilder.new.Goals as goal

pub returns-clause-stands : goal.returns-clause-stands
returns-clause-stands c =
    let p = c.new-4.result in
    record {
      counted = refl;
      built = record {
        read = record {
          reads = λ n. c.new-3.ensures.stands;
          led = record {
            leads = λ n. record {
              left = [];
              waits = c.new-4.ensures.bytes;
              leads = subst (λ x. Leads false c.args.depth begin true (spread (begun [])) (state_of c.new.result) x []) (sym c.new-4.ensures.first)
                  (leads-new c.args.depth (state_of c.new.result) [] c.new.ensures.state refl);
            };
            breaks = λ f q. absurd (cc);
            on_page = c.new.ensures.on_page c.args.page;
          };
        };
        waits = λ n. subst (λ x. whole_size false p.is_first x ≡ None) (sym c.new-4.ensures.text) (none-whole false p.is_first);
      };
    }
