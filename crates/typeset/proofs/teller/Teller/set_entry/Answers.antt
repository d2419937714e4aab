use Rattle.std.proofs.Common.{List, [], ◌∷◌, ◌++◌}
use Rattle.std.proofs.lemmas.Result.{err_from_is_err_and}
use Rattle.compose.specs.Acts.{Act, set_word, contents, end_of_paragraph}
use Rattle.numerals.specs.Numeral.{numeral}
use Rattle.reader.specs.Reading.{line_of}
use Rattle.typeset.specs.Items.{at_line_lem, title_words}
use Rattle.typeset.specs.Script.{in_contents, word_acts}
use Rattle.typeset.specs.Shown.{Shown}
use Rattle.typeset.specs.Tellers.{telling_to}
use Rattle.typeset.specs.Texts.{telling_shown}
use Rattle.typeset.proofs.Plays.{plays_then, plays_more, plays_same, refused_in}
use Rattle.typeset.proofs.teller.Teller.set_entry.Goals as goal

pub returns-in_err-copy_title : goal.returns-in_err-copy_title
returns-in_err-copy_title g c =
    let p = telling_to g.C.Compositor.playing in
    let last : List Act = set_word (numeral c.args.self.now.telling.style c.args.entry.page.number) contents (at_line_lem c.args.asked) ∷ end_of_paragraph ∷ [] in
    let title : Shown → List Act = λ sh. word_acts sh (in_contents c.args.asked) (title_words (line_of c.args.heading)) in
    let q = err_from_is_err_and c.from_residual-in_err-copy_title.result c.from_residual-in_err-copy_title.ensures.1 in
    let number = plays_same p _ _ (λ i. set_word (c.text.ensures i) contents (c.at_line-source.ensures i) ∷ []) c.in_ok-say_text.ensures in
    rw (q.1, q.2) (plays_more p _ (λ f. title (telling_shown f.1) ++ last) number (refused_in p _ _ c.in_err-copy_title.ensures))

pub returns-in_err-say_text-2 : goal.returns-in_err-say_text-2
returns-in_err-say_text-2 g c =
    let p = telling_to g.C.Compositor.playing in
    let last : List Act = set_word (numeral c.args.self.now.telling.style c.args.entry.page.number) contents (at_line_lem c.args.asked) ∷ end_of_paragraph ∷ [] in
    let title : Shown → List Act = λ sh. word_acts sh (in_contents c.args.asked) (title_words (line_of c.args.heading)) in
    let q = err_from_is_err_and c.from_residual-in_err-say_text-2.result c.from_residual-in_err-say_text-2.ensures.1 in
    let number = plays_same p _ _ (λ i. set_word (c.text.ensures i) contents (c.at_line-source.ensures i) ∷ []) c.in_ok-say_text.ensures in
    let page = plays_same p _ _ (λ i. set_word (c.page_text-page.ensures.value i) contents (c.at_line-source.ensures i) ∷ []) c.in_err-say_text-2.ensures in
    rw (q.1, q.2) (plays_more p _ (λ f. title (telling_shown f.1) ++ last) number (plays_then p _ _ c.in_ok-copy_title.ensures (refused_in p _ (end_of_paragraph ∷ []) page)))

pub returns : goal.returns
returns g c =
    let p = telling_to g.C.Compositor.playing in
    let last : List Act = set_word (numeral c.args.self.now.telling.style c.args.entry.page.number) contents (at_line_lem c.args.asked) ∷ end_of_paragraph ∷ [] in
    let title : Shown → List Act = λ sh. word_acts sh (in_contents c.args.asked) (title_words (line_of c.args.heading)) in
    let number = plays_same p _ _ (λ i. set_word (c.text.ensures i) contents (c.at_line-source.ensures i) ∷ []) c.in_ok-say_text.ensures in
    let page = plays_same p _ _ (λ i. set_word (c.page_text-page.ensures.value i) contents (c.at_line-source.ensures i) ∷ []) c.in_ok-say_text-2.ensures in
    plays_more p _ (λ f. title (telling_shown f.1) ++ last) number (plays_then p _ _ c.in_ok-copy_title.ensures (plays_then p _ (end_of_paragraph ∷ []) page c.end_paragraph.ensures))
