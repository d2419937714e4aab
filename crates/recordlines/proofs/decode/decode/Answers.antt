use Rattle.std.proofs.Common.{◌≡◌, ◌+◌, ◌*◌, ◌/◌, ◌<◌, length, drop, sym, ap, ◌∙◌, subst, arith}
use Rattle.std.proofs.lemmas.Bool.{cond-true, le-leb, eqb-false}
use Rattle.recordlines.specs.Hex.{after, bytes_of}
use Rattle.recordlines.specs.Step.{Decodes}
use Rattle.recordlines.proofs.Pairs.{byte_more, no_byte, one_more}
use Rattle.recordlines.proofs.decode.decode.Goals as goal

pub returns-in_err-pair_value : goal.returns-in_err-pair_value
returns-in_err-pair_value c =
    let ds = c.args.digits.now in
    let within : c.loop-high.high-index < length ds / 2 = omega (arith, c.loop-high-test.true, c.as_chunks.ensures.front_len) in
    let none = no_byte ds _ c.loop-high.high-index c.as_chunks.ensures.front within c.loop-high.frame.items (sym c.pair_value.ensures ∙ c.in_err-pair_value.was) in
    subst (Decodes ds) (sym c.from_residual.ensures) (cond-true _ _ _ (le-leb _ 48 c.if-digits-gt48.false) ∙ sym c.loop-high.invariant.all ∙ none)

pub loop-high-preserved : goal.loop-high-preserved
loop-high-preserved c =
    let ds = c.args.digits.now in
    let i = c.loop-high.high-index in
    let xs = c.loop-high.frame.items in
    let within : i < length ds / 2 = omega (arith, c.loop-high-test.true, c.as_chunks.ensures.front_len) in
    let more = byte_more ds _ i c.as_chunks.ensures.front within xs _ (sym c.pair_value.ensures ∙ c.in_ok-pair_value.was) in
    record {
      all = ap (λ l. after l (bytes_of (drop ((i + 1) * 2) ds))) c.push.ensures.items ∙ more ∙ c.loop-high.invariant.all;
      count = omega (arith, c.push.ensures.len, c.loop-high.invariant.count);
    }

pub returns-else-is_empty : goal.returns-else-is_empty
returns-else-is_empty c =
    let ds = c.args.digits.now in
    let end : c.loop-high.high-index * 2 ≡ length ds / 2 * 2 = omega (arith, c.loop-high-test.false, c.loop-high.auto.high-index-end, c.as_chunks.ensures.front_len) in
    let rest = ap (λ n. drop n ds) end ∙ sym c.as_chunks.ensures.back in
    let xs = c.loop-high.frame.items in
    let some = eqb-false (length c.as_chunks.result.1.now) 0 (sym c.is_empty.ensures ∙ c.if-is_empty.false) in
    cond-true _ _ _ (le-leb _ 48 c.if-digits-gt48.false) ∙ sym c.loop-high.invariant.all ∙ ap (λ l. after xs (bytes_of l)) rest
    ∙ one_more xs c.as_chunks.result.1.now (omega (arith, some, c.as_chunks.ensures.back_len))
