-- The kinds of line, and where the words of a line begin.
--   kind               the kind that the first character decides
--   hash               the byte of '#'
--   level              how many '#' a line begins with
--   prose_start_lem    where the words begin: after the '#' of a heading, at the front of text, at the end of any other line
--   line_words         the words of a line: those of a title or of text
use Rattle.std.specs.Prelude.{◌≡◌, ℕ, Bool, cond, List, [], ◌∷◌, length, drop, codes, ◌==◌, refl}
use Rattle.std.specs.List.{prefix_len}
use Rattle.reader.specs.Words.{SourceWord, words}
use Rattle.reader.specs.declared.kinds.Kind.{Kind}
use Rattle.reader.specs.declared.kinds.Kind.TheVariants.{Heading, Directive, Remark, Text}

abbrev pub kind : List ℕ → Kind
kind [] = Text
kind (b ∷ bs) = cond (b == 35) Heading (cond (b == 33) Directive (cond (b == 37) Remark Text))

abbrev pub hash : ℕ → Bool
hash b = b == 35

abbrev pub level : List ℕ → ℕ
level l = prefix_len hash l

abbrev pub start_of : Kind → List ℕ → ℕ
start_of Heading l = level l
start_of Directive l = length l
start_of Remark l = length l
start_of Text l = 0

abbrev pub prose_start_lem : List ℕ → ℕ
prose_start_lem l = start_of (kind l) l

abbrev pub line_words : List ℕ → List SourceWord
line_words l = words (prose_start_lem l) (drop (prose_start_lem l) l)

title : line_words (codes "## A b") ≡ record { offset = 3; bytes = codes "A" } ∷ record { offset = 5; bytes = codes "b" } ∷ []
title = refl

remark : line_words (codes "% a b") ≡ []
remark = refl
