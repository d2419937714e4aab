use Rattle.std.proofs.Common.{◌≡◌}
use Rattle.reader.specs.Kinds.{line_words}
use Rattle.reader.specs.Left.{words_left}
use Rattle.reader.specs.Reading.{line_of}
use Rattle.typeset.specs.Items.{item_words}
use Rattle.typeset.specs.Manners.{manner_of}
use Rattle.typeset.specs.Script.{word_acts}
use Rattle.typeset.specs.Tellers.{telling_to}
use Rattle.typeset.specs.Texts.{telling_shown}
use Rattle.typeset.proofs.Plays.{ToPlay}
use Rattle.typeset.proofs.teller.Teller.set_words.Given as goal

-- left are the words that were not yet handed out
abbrev pub invariant-loop-word : goal.invariant-loop-word
invariant-loop-word g l =
    ToPlay (telling_to g.C.Compositor.playing) l.initial.self
    (word_acts (telling_shown l.initial.self.telling) (manner_of l.manner) (item_words l.title (line_of l.line) (line_words l.line.bytes.now)))
    l.self
    (word_acts (telling_shown l.initial.self.telling) (manner_of l.manner) (item_words l.title (line_of l.line) (words_left l.word-iterator)))
    × (l.word-iterator.line ≡ l.line)
