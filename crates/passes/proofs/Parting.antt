-- What lists of acts hold comes apart with them, and the contents hold neither a label nor a heading.
use Rattle.std.proofs.Common.{◌≡◌, ℕ, ◌+◌, List, [], ◌∷◌, ◌++◌, length, refl, ap, ◌∙◌, length-append}
use Rattle.std.specs.List.{AllByRecursion}
use Rattle.std.proofs.ByRecursion.{All-append}
use Rattle.compose.specs.Acts.{Part, Act}
use Rattle.compose.specs.Acts as acts
use Rattle.findings.specs.Fitting.{parts, named, names_in, titled, titles_in, label_names, titles, wording}
use Rattle.findings.proofs.Parts.{parts_append, names_append, titles_append}
use Rattle.typeset.specs.Items.{ItemWord}
use Rattle.typeset.specs.Script.{in_contents, word_acts, entry_acts, contents_acts}
use Rattle.typeset.specs.Shown.{Shown, ContentsLine}

-- the label names of two lists of acts in a row
pub label_names_append : (a b : List Act) → label_names (a ++ b) ≡ label_names a ++ label_names b
label_names_append a b = ap names_in (parts_append a b) ∙ names_append (parts a) (parts b)

-- their heading numbers
pub titles_parted : (a b : List Act) → titles (a ++ b) ≡ titles a ++ titles b
titles_parted a b = ap titles_in (parts_append a b) ∙ titles_append (parts a) (parts b)

-- how many words they have
pub wording_append : (a b : List Act) → wording (a ++ b) ≡ wording a + wording b
wording_append a b = ap length (parts_append a b) ∙ length-append (parts a) (parts b)

-- parts of nothing but the contents
abbrev pub Copies : List Part → Type 0
Copies ps = AllByRecursion (λ p. p ≡ acts.contents) ps

-- two such lists of acts in a row are one
copies_append : (a b : List Act) → Copies (parts a) → Copies (parts b) → Copies (parts (a ++ b))
copies_append a b x y = rw (parts_append a b) (All-append _ (parts a) (parts b) x y)

-- a title's words in the contents are such parts
title_copied : (sh : Shown) (n : ℕ) (ws : List ItemWord) → Copies (parts (word_acts sh (in_contents n) ws))
title_copied sh n [] = tt
title_copied sh n (w ∷ ws) = (refl, title_copied sh n ws)

-- every word of the contents is the contents' own, whatever its title's mark is
pub contents_copied : (sh : Shown) (n : ℕ) (ts : List (List ItemWord)) (es : List ContentsLine) → Copies (parts (contents_acts sh n ts es))
contents_copied sh n [] es = tt
contents_copied sh n (t ∷ ts) [] = tt
contents_copied sh n (t ∷ ts) (e ∷ es) =
    copies_append (entry_acts sh n t e) (contents_acts sh n ts es)
    (refl, copies_append (word_acts sh (in_contents n) t) _ (title_copied sh n t) (refl, tt))
    (contents_copied sh n ts es)

-- such parts define no label
no_names : (ps : List Part) → Copies ps → names_in ps ≡ []
no_names [] c = refl
no_names (p ∷ ps) c = ap (λ q. named q (names_in ps)) c.0 ∙ no_names ps c.1

-- and are no heading
no_titles : (ps : List Part) → Copies ps → titles_in ps ≡ []
no_titles [] c = refl
no_titles (p ∷ ps) c = ap (λ q. titled q (titles_in ps)) c.0 ∙ no_titles ps c.1

-- so the contents define no label
pub contents_names : (sh : Shown) (n : ℕ) (ts : List (List ItemWord)) (es : List ContentsLine) → label_names (contents_acts sh n ts es) ≡ []
contents_names sh n ts es = no_names _ (contents_copied sh n ts es)

-- and have no heading
pub contents_titles : (sh : Shown) (n : ℕ) (ts : List (List ItemWord)) (es : List ContentsLine) → titles (contents_acts sh n ts es) ≡ []
contents_titles sh n ts es = no_titles _ (contents_copied sh n ts es)
