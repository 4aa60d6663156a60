use Rattle.ixds_run.proofs.prepare.prepared.Goals as goal

pub returns-in-Ok : goal.returns-in-Ok
returns-in-Ok w c =
    let g = c.in_ok-forest.ensures.gathered in
    let reads = c.in_ok-forest.ensures.reads in record {
      due = (reads.0, reads.1, c.in-Ok.ensures.due reads.0 reads.2);
      silent = c.in-Ok.ensures.none;
      gathered = record {
        asks = record { ok = g.asks.ok; stopped = tt; asked = g.asks.asked; starts = g.asks.starts; pages = g.asks.pages; numbers = g.asks.numbers };
        stops = g.stops;
        sample = g.sample;
      };
    }

pub returns : goal.returns
returns w c =
    let g = c.in_ok-forest.ensures.gathered in record {
      due = tt;
      silent = tt;
      gathered = record {
        asks = record { ok = tt; stopped = g.asks.ok; asked = g.asks.asked; starts = g.asks.starts; pages = g.asks.pages; numbers = g.asks.numbers };
        stops = tt;
        sample = g.sample;
      };
    }
