use Rattle.std.proofs.Common.{◌≡◌, ℕ, ◌+◌, ◌≤◌, List, ◌++◌, length, ap, ◌∙◌, append_assoc, arith, length-append}
use Rattle.std.specs.List.{flat_map}
use Rattle.buffers.specs.Written.{written}
use Rattle.buffers.proofs.Writing.{then_written}
use Rattle.record.specs.Meaning.{label_of, position_of}
use Rattle.record.specs.Lists.{lists_of}
use Rattle.record.specs.declared.entry.label.LabelEntry.{LabelEntry}
use Rattle.record.specs.declared.entry.contents.ContentsEntry.{ContentsEntry}
use Rattle.recordlines.specs.Frame.{line, lines, label_frame, contents_frame}
use Rattle.recordlines.proofs.Joining.{labels_text, contents_text, lines_length_lem}
use Rattle.recordlines.proofs.saves.save_table.Goals as goal

pub write_lines-end-requires : goal.write_lines-end-requires
write_lines-end-requires c =
    let ls = lists_of c.args.table.now in
    let l = ap length (labels_text ls label_of c.labels.result.now c.labels.ensures.value) in
    omega (arith, l, lines_length_lem ls, c.saved_length.ensures.value, c.if-saved_length-out.false)

pub write_lines-end-requires-2 : goal.write_lines-end-requires-2
write_lines-end-requires-2 c =
    let ls = lists_of c.args.table.now in
    let l = ap length (labels_text ls label_of c.labels.result.now c.labels.ensures.value) in
    let k = ap length (contents_text ls position_of c.contents.result.now c.contents.ensures.value) in
    omega (arith, l, k, lines_length_lem ls, c.saved_length.ensures.value, c.if-saved_length-out.false, c.write_lines-end.ensures.end, c.write_lines-end.auto.out)

pub write-requires : goal.write-requires
write-requires c =
    let ls = lists_of c.args.table.now in
    let l = ap length (labels_text ls label_of c.labels.result.now c.labels.ensures.value) in
    let k = ap length (contents_text ls position_of c.contents.result.now c.contents.ensures.value) in
    let end = ap length (c.deref.ensures.0 ∙ c.line_of.ensures ∙ ap line c.end_frame.ensures) in
    omega (arith, l, k, end, lines_length_lem ls, c.saved_length.ensures.value, c.if-saved_length-out.false, c.write_lines-end.ensures.end, c.write_lines-end.auto.out, c.write_lines-end-2.ensures.end, c.write_lines-end-2.auto.out)

pub returns : goal.returns
returns c =
    let ls = lists_of c.args.table.now in
    let out = c.args.out.now in
    let xs = c.labels.result.now in
    let ys = c.contents.result.now in
    let a : List ℕ = flat_map (λ (e : LabelEntry). line (label_frame (label_of e))) xs in
    let b : List ℕ = flat_map (λ (e : ContentsEntry). line (contents_frame (position_of e))) ys in
    let end = c.deref.ensures.0 ∙ c.line_of.ensures ∙ ap line c.end_frame.ensures in
    let p = labels_text ls label_of xs c.labels.ensures.value in
    let q = contents_text ls position_of ys c.contents.ensures.value in
    let fits = lines_length_lem ls in
    let both = length-append a b in
    let room : 0 + length a ≤ length out = omega (arith, ap length p, c.saved_length.ensures.value, c.if-saved_length-out.false) in
    let room2 : 0 + length (a ++ b) ≤ length out = omega (arith, ap length p, ap length q, c.saved_length.ensures.value, c.if-saved_length-out.false) in
    let w = then_written out 0 a b room c.write_lines-end.ensures.end c.write_lines-end.ensures.after c.write_lines-end-2.ensures.end c.write_lines-end-2.ensures.after in
    let v = then_written out 0 (a ++ b) c.deref.result.now room2 w.0 w.1 c.write.ensures.end c.write.ensures.after in
    let whole : (a ++ b) ++ c.deref.result.now ≡ lines ls = append_assoc a b _ ∙ (λ i. p i ++ (q i ++ end i)) in
    let total = v.0 ∙ ap (λ l. 0 + length l) whole in
    (omega (arith, total), omega (arith, total, c.saved_length.ensures.value, c.if-saved_length-out.false), v.1 ∙ ap (written out 0) whole)
