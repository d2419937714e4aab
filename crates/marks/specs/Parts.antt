-- The parts of a word, or the cause for which it is refused.
--   plain         a byte that is no brace
--   MarkedWord    a word with a mark: the bytes before the mark, its name, and the bytes after it
--   mark_of       the mark of a letter
--   standing      whether a mark may stand with so many other bytes in its word, in a title or outside one
--   sized         a well-formed marked word, refused where its prefix and suffix have more than 60 bytes
--   shut          the prefix, the name and what follows the closing brace
--   closed        what follows the name
--   marked        what follows the colon
--   opened        what follows the prefix
--   parts         a word: no mark, or a marked word
use Rattle.std.specs.Prelude.{◌≡◌, ℕ, ◌+◌, Bool, true, false, cond, not, ◌&&◌, List, [], ◌∷◌, length, take, drop, is_ok, Some, None, Ok, Err, codes, Option, Result, ◌==◌, nat_lt, refl}
use Rattle.std.specs.List.{prefix_len}
use Rattle.faults.specs.declared.cause.Cause.{Cause}
use Rattle.faults.specs.declared.cause.Cause.TheVariants.{MarkMalformed, MarkedWordTooLong}
use Rattle.names.specs.Name.{naming}
use Rattle.runs.specs.Run.{all}
use Rattle.marks.specs.declared.mark.Mark.{Mark}
use Rattle.marks.specs.declared.mark.Mark.TheVariants.{Label, Page, Number}

abbrev pub plain : ℕ → Bool
plain b = not (b == 123) && not (b == 125)

pub record MarkedWord : Type 0 where
  pub mark : Mark
  pub prefix : List ℕ
  pub name : List ℕ
  pub suffix : List ℕ

abbrev pub Parts : Type 0
Parts = Result (Option MarkedWord) Cause

abbrev pub mark_of : ℕ → Option Mark
mark_of b = cond (b == 108) (Some Label) (cond (b == 112) (Some Page) (cond (b == 110) (Some Number) None))

abbrev pub standing : Bool → Mark → ℕ → Bool
standing title Label around = nat_lt 0 around
standing title Page around = not title
standing title Number around = not title

abbrev pub sized : Mark → List ℕ → List ℕ → List ℕ → Parts
sized m pre name suf =
    cond (nat_lt 60 (length pre + length suf)) (Err MarkedWordTooLong)
    (Ok (Some (record { mark = m; prefix = pre; name = name; suffix = suf })))

abbrev pub shut : Bool → Mark → List ℕ → List ℕ → List ℕ → Parts
shut title m pre name suf =
    cond (is_ok (naming name) && (all plain suf && standing title m (length pre + length suf))) (sized m pre name suf)
    (Err MarkMalformed)

abbrev pub closed : Bool → Mark → List ℕ → List ℕ → List ℕ → Parts
closed title m pre name [] = Err MarkMalformed
closed title m pre name (b ∷ suf) = cond (b == 125) (shut title m pre name suf) (Err MarkMalformed)

abbrev pub marked : Bool → Option Mark → List ℕ → List ℕ → Parts
marked title None pre more = Err MarkMalformed
marked title (Some m) pre more = closed title m pre (take (prefix_len plain more) more) (drop (prefix_len plain more) more)

abbrev pub opened : Bool → List ℕ → List ℕ → Parts
opened title pre [] = Ok None
opened title pre (a ∷ []) = Err MarkMalformed
opened title pre (a ∷ k ∷ []) = Err MarkMalformed
opened title pre (a ∷ k ∷ c ∷ more) = cond (a == 123 && c == 58) (marked title (mark_of k) pre more) (Err MarkMalformed)

abbrev pub parts : Bool → List ℕ → Parts
parts title w = opened title (take (prefix_len plain w) w) (drop (prefix_len plain w) w)

reference : parts false (codes "x{p:q}.") ≡ Ok (Some (record { mark = Page; prefix = codes "x"; name = codes "q"; suffix = codes "." }))
reference = refl

in_title : parts true (codes "x{p:q}.") ≡ Err MarkMalformed
in_title = refl

bare : parts false (codes "{l:a}") ≡ Err MarkMalformed
bare = refl

unmarked : parts false (codes "valve") ≡ Ok None
unmarked = refl
