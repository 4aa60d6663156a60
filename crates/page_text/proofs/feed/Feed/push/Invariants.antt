use Rattle.std.proofs.Common.{◌≡◌, ◌++◌, take}
use Rattle.page_text.specs.Model.{after, due}
use Rattle.page_text.proofs.Readings.{IsSound}
use Rattle.page_text.proofs.feed.Feed.push.Given as goal

-- what the bytes so far made
abbrev pub invariant-loop-byte : goal.invariant-loop-byte
invariant-loop-byte l =
    IsSound l.initial.self
    × (l.self ≡ after l.initial.self (take l.byte-index l.piece))
    × (l.marks.items ≡ l.initial.marks.items ++ due l.initial.self (take l.byte-index l.piece))
