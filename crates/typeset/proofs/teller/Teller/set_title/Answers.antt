use Rattle.std.proofs.Common.{List, [], ◌∷◌, ◌++◌}
use Rattle.std.proofs.lemmas.Result.{err_from_is_err_and}
use Rattle.compose.specs.Acts.{Act, number_of, set_word, end_of_paragraph}
use Rattle.compose.specs.Acts as acts
use Rattle.reader.specs.Reading.{line_of}
use Rattle.typeset.specs.Items.{title_words}
use Rattle.typeset.specs.Script.{in_place, word_acts}
use Rattle.typeset.specs.Shown.{Shown}
use Rattle.typeset.specs.Tellers.{telling_to}
use Rattle.typeset.specs.Texts.{telling_shown}
use Rattle.typeset.proofs.Plays.{plays_then, plays_more, plays_same, refused_in}
use Rattle.typeset.proofs.teller.Teller.set_title.Goals as goal

pub returns-in_err-set_words : goal.returns-in_err-set_words
returns-in_err-set_words g c =
    let p = telling_to g.C.Compositor.playing in
    let k = number_of c.args.number in
    let title : Shown → List Act = λ sh. word_acts sh (in_place k) (title_words (line_of c.args.line)) in
    let q = err_from_is_err_and c.from_residual-in_err-set_words.result c.from_residual-in_err-set_words.ensures.1 in
    let number = plays_same p _ _ (λ i. set_word (c.text.ensures i) (acts.heading k) (c.at_line.ensures i) ∷ []) c.in_ok-say_text.ensures in
    rw (q.1, q.2) (plays_more p _ (λ f. title (telling_shown f.1) ++ (end_of_paragraph ∷ [])) number (refused_in p _ _ c.in_err-set_words.ensures))

pub returns : goal.returns
returns g c =
    let p = telling_to g.C.Compositor.playing in
    let k = number_of c.args.number in
    let title : Shown → List Act = λ sh. word_acts sh (in_place k) (title_words (line_of c.args.line)) in
    let number = plays_same p _ _ (λ i. set_word (c.text.ensures i) (acts.heading k) (c.at_line.ensures i) ∷ []) c.in_ok-say_text.ensures in
    plays_more p _ (λ f. title (telling_shown f.1) ++ (end_of_paragraph ∷ [])) number (plays_then p _ _ c.in_ok-set_words.ensures c.end_paragraph.ensures)
