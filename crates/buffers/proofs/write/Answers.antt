use Rattle.std.proofs.Common.{◌≡◌, ◌+◌, ◌-◌, ◌++◌, length, take, drop, refl, ap, ◌∙◌, arith, drop-drop}
use Rattle.buffers.proofs.write.Goals as goal

pub returns : goal.returns
returns c =
    let out = c.args.out.now in
    let at = c.args.at in
    let n = length c.args.bytes.now in
    let far : at + ((at + n) - at) ≡ at + n = omega arith in
    let rest = drop-drop ((at + n) - at) at out ∙ ap (λ m. drop m out) far in
    record { end = refl; after = λ i. take at out ++ (c.copy_from_slice.ensures.after i ++ rest i) }
