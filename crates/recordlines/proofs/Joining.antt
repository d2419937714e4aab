-- Texts that are joined from the texts of a list's elements.
use Rattle.std.proofs.Common.{◌≡◌, ℕ, ◌+◌, ◌*◌, ◌<◌, List, [], ◌∷◌, ◌++◌, map, length, get_or, take, sym, refl, ap, ◌∙◌, append-nil, arith, length-append}
use Rattle.std.specs.List.{flat_map}
use Rattle.std.proofs.lemmas.Grind.{flat_map-append}
use Rattle.std.proofs.lemmas.List.{take_more}
use Rattle.recordlines.specs.Hex.{hex}
use Rattle.record.specs.Positions.{Label, Position}
use Rattle.record.specs.Lists.{Lists}
use Rattle.recordlines.specs.Frame.{line, lines, label_frame, contents_frame, end_frame, label_line, contents_line}

-- x stands at i
pub flat_map_more : {X : Type 0} (f : X → List ℕ) (xs : List X) (i : ℕ) (x : X) → i < length xs → x ≡ get_or xs i x → flat_map f (take (i + 1) xs) ≡ flat_map f (take i xs) ++ f x
flat_map_more f xs i x h r =
    ap (flat_map f) (take_more xs i x h ∙ ap (λ y. take i xs ++ y ∷ []) (sym r)) ∙ flat_map-append f (take i xs) (x ∷ []) ∙ ap (λ l. flat_map f (take i xs) ++ l) (append-nil (f x))

pub length_hex : (bs : List ℕ) → length (hex bs) ≡ 2 * length bs
length_hex [] = refl
length_hex (b ∷ bs) = let ih = length_hex bs in omega arith

pub length_line : (f : List ℕ) → length (line f) ≡ 2 * length f + 1
length_line f = length-append (hex f) _ ∙ ap (λ n. n + 1) (length_hex f)

pub joined_map : {X Y : Type 0} (f : Y → List ℕ) (g : X → Y) (xs : List X) → flat_map f (map g xs) ≡ flat_map (λ x. f (g x)) xs
joined_map f g [] = refl
joined_map f g (x ∷ xs) = ap (λ l. f (g x) ++ l) (joined_map f g xs)

-- the lines of a record whose lists stand for xs and ys
pub labels_text : {X : Type 0} (ls : Lists) (f : X → Label) (xs : List X) → map f xs ≡ ls.labels → flat_map (λ x. line (label_frame (f x))) xs ≡ flat_map label_line ls.labels
labels_text ls f xs p = sym (joined_map label_line f xs) ∙ ap (flat_map label_line) p

pub contents_text : {Y : Type 0} (ls : Lists) (g : Y → Position) (ys : List Y) → map g ys ≡ ls.contents → flat_map (λ y. line (contents_frame (g y))) ys ≡ flat_map contents_line ls.contents
contents_text ls g ys q = sym (joined_map contents_line g ys) ∙ ap (flat_map contents_line) q

pub lines_length_lem : (ls : Lists) → length (flat_map label_line ls.labels) + length (flat_map contents_line ls.contents) + 7 ≡ length (lines ls)
lines_length_lem ls =
    let l = length-append (flat_map label_line ls.labels) (flat_map contents_line ls.contents ++ line (end_frame ls)) in
    let k = length-append (flat_map contents_line ls.contents) (line (end_frame ls)) in
    omega arith
