use Rattle.std.proofs.Common.{◌≡◌, ◌+◌, ◌-◌, ◌<◌, ◌≤◌, ◌∷◌, length, take, drop, sym, refl, ap, ◌∙◌, arith}
use Rattle.std.specs.List.{prefix_len}
use Rattle.std.proofs.lemmas.List.{take_rest}
use Rattle.reader.specs.Lines.{in_line, SourceLine, lines_from}
use Rattle.reader.proofs.Laws.{line_here, last_line, line_length}
use Rattle.reader.proofs.reader.Reader.line_ahead.Goals as goal
use Rattle.reader.proofs.reader.Reader.line_ahead.Goals.{then-end-text, else-end-text}

pub returns : goal.returns
returns c =
    let t = c.args.self.now.text.now in
    let i = c.args.self.now.place.at in
    let n = c.args.self.now.place.lines + 1 in
    let m = c.run_length.result in
    let run : m ≡ prefix_len in_line (drop i t) = c.run_length.ensures.value ∙ ap (prefix_len in_line) (take_rest t i) in
    let inside : i < length t = omega arith in
    let head : SourceLine = record { number = n; offset = i; bytes = take (i + m - i) (drop i t) } in
    let next = c.if-end-text.next in
    let line : lines_from n i (drop i t) ≡ head ∷ lines_from (n + 1) next (drop next t) =
    elim c.if-end-text.branch [
      | then-end-text w ↦ line_here t n i m inside run ∙ ap (λ x. head ∷ lines_from (n + 1) x (drop x t)) (sym w.next-is)
      | else-end-text w ↦ last_line t n i m inside run w.if-end-text.false ∙ ap (λ x. head ∷ lines_from (n + 1) x (drop x t)) (sym w.next-is)
    ] in
    let most : next ≤ length t = elim c.if-end-text.branch [ then-end-text w ↦ omega (arith, w.next-is) | else-end-text w ↦ omega (arith, w.next-is) ] in
    let least : n ≤ next = elim c.if-end-text.branch [ then-end-text w ↦ omega (arith, w.next-is) | else-end-text w ↦ omega (arith, w.next-is) ] in
    (line, refl, omega (arith, line_length t n i m inside run), most, least)
