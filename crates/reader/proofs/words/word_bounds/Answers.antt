use Rattle.std.proofs.Common.{◌≡◌, ◌+◌, ◌-◌, ◌<◌, ◌∷◌, length, take, drop, sym, ap, ◌∙◌, arith}
use Rattle.std.specs.List.{prefix_len}
use Rattle.std.proofs.lemmas.List.{take_rest}
use Rattle.reader.specs.Words.{space, in_word, words}
use Rattle.reader.proofs.Runs.{words_law}
use Rattle.reader.proofs.Laws.{words_none, word_here, word_length}
use Rattle.reader.proofs.words.word_bounds.Goals as goal

pub returns-then-length-eq0 : goal.returns-then-length-eq0
returns-then-length-eq0 c =
    let l = c.args.line.now in
    record { word = words_none l c.args.at c.run_length.result (c.run_length.ensures.value ∙ ap (prefix_len space) (take_rest l _)) (ap (prefix_len in_word) (sym (take_rest l _)) ∙ sym c.run_length-length.ensures.value ∙ c.if-length-eq0.true) c.args.at; law = words_law c.args.at _ }

pub returns : goal.returns
returns c =
    let l = c.args.line.now in
    let at = c.args.at in
    let s = c.run_length.result in
    let n = c.run_length-length.result in
    let spaces : s ≡ prefix_len space (drop at l) = c.run_length.ensures.value ∙ ap (prefix_len space) (take_rest l _) in
    let run : n ≡ prefix_len in_word (drop (at + s) l) = c.run_length-length.ensures.value ∙ ap (prefix_len in_word) (take_rest l _) in
    let some : 0 < n = omega arith in
    let cut : n ≡ at + s + n - (at + s) = omega arith in
    let long : length (take (at + s + n - (at + s)) (drop (at + s) l)) ≡ n = ap (λ x. length (take x (drop (at + s) l))) (sym cut) ∙ word_length l at s n spaces run in
    record {
      word = (
        word_here l at s n spaces run at some ∙ ap (λ x. record { offset = at + s; bytes = take x (drop (at + s) l) } ∷ words (at + s + n) (drop (at + s + n) l)) cut,
        omega arith,
        omega arith,
        omega arith,
        long ∙ cut,
      );
      law = words_law at (drop at l);
    }
