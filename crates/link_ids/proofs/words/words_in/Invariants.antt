use Rattle.std.proofs.Common.{◌≡◌, ◌++◌, length, map}
use denote.Text.{Utf8}
use denote.Shadow.{shadow}
use Rattle.ix_base.specs.Forms.{words_of}
use Rattle.link_ids.proofs.words.words_in.Given as goal

-- the words that are there and those of what is left are all words
abbrev pub invariant-loop-word : goal.invariant-loop-word
invariant-loop-word l = shadow (Utf8 l.left) × (map (λ s. s.now) l.words.items ++ words_of l.left ≡ words_of l.text)

abbrev pub decreases-loop-word : goal.decreases-loop-word
decreases-loop-word l = length l.left
