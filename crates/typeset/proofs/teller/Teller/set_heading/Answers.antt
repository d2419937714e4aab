use Rattle.std.proofs.Common.{[], ◌∷◌}
use Rattle.compose.specs.Acts.{number_of, end_of_paragraph}
use Rattle.reader.specs.Reading.{line_of}
use Rattle.typeset.specs.Items.{title_words}
use Rattle.typeset.specs.Script.{title_acts}
use Rattle.typeset.specs.Tellers.{telling_to}
use Rattle.typeset.specs.Texts.{telling_shown}
use Rattle.typeset.proofs.Plays.{plays_more}
use Rattle.typeset.proofs.teller.Teller.set_heading.Goals as goal

pub returns : goal.returns
returns g c =
    let l = line_of c.args.line in
    plays_more (telling_to g.C.Compositor.playing) (end_of_paragraph ∷ []) (λ f. title_acts (telling_shown f.1) (number_of c.args.number) l.number (title_words l)) c.end_paragraph.ensures c.set_title.ensures
