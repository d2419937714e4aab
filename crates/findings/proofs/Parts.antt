-- The words of a trace are the words of its acts, up to a refusal; and what parts hold comes apart with them.
use Rattle.std.proofs.Common.{◌≡◌, ℕ, List, [], ◌∷◌, ◌++◌, map, refl, ap, ◌∙◌}
use Rattle.compose.specs.Acts.{Number, Part, plain, label, heading, page_reference, number_reference, contents, Act, set_word, end_of_paragraph, end_of_page}
use Rattle.compose.specs.declared.acts.Source.{Source}
use Rattle.layout.specs.Meaning.{Meaning, Outcome, refused, placed}
use Rattle.setting.specs.Tracing.{SetWord, Trace, all, upto, onto, traced, trace}
use Rattle.findings.specs.Fitting.{parts, named, names_in, titled, titles_in}

pub parts_append : (a b : List Act) → parts (a ++ b) ≡ parts a ++ parts b
parts_append [] b = refl
parts_append (set_word w p s ∷ a) b = ap (λ ps. p ∷ ps) (parts_append a b)
parts_append (end_of_paragraph ∷ a) b = parts_append a b
parts_append (end_of_page ∷ a) b = parts_append a b

named_append : (p : Part) (a b : List (List ℕ)) → named p (a ++ b) ≡ named p a ++ b
named_append plain a b = refl
named_append (label n k) a b = refl
named_append (heading k) a b = refl
named_append (page_reference n i j) a b = refl
named_append (number_reference n i j) a b = refl
named_append contents a b = refl

pub names_append : (a b : List Part) → names_in (a ++ b) ≡ names_in a ++ names_in b
names_append [] b = refl
names_append (p ∷ a) b = ap (named p) (names_append a b) ∙ named_append p (names_in a) (names_in b)

titled_append : (p : Part) (a b : List Number) → titled p (a ++ b) ≡ titled p a ++ b
titled_append plain a b = refl
titled_append (label n k) a b = refl
titled_append (heading k) a b = refl
titled_append (page_reference n i j) a b = refl
titled_append (number_reference n i j) a b = refl
titled_append contents a b = refl

pub titles_append : (a b : List Part) → titles_in (a ++ b) ≡ titles_in a ++ titles_in b
titles_append [] b = refl
titles_append (p ∷ a) b = ap (titled p) (titles_append a b) ∙ titled_append p (titles_in a) (titles_in b)

abbrev pub parts_of : List SetWord → List Part
parts_of ws = map (λ (w : SetWord). w.part) ws

-- the words of a trace have these parts, and after a refusal some are left
abbrev pub HasParts : {P : Type 0} → Trace P → List Part → Type 0
HasParts (all ws q) ps = parts_of ws ≡ ps
HasParts (upto ws q f) ps = (rest : List Part) × (parts_of ws ++ rest ≡ ps)

parts_onto : {P : Type 0} (w : SetWord) (v : Trace P) (ps : List Part) → HasParts v ps → HasParts (onto w v) (w.part ∷ ps)
parts_onto w (all ws q) ps h = ap (λ l. w.part ∷ l) h
parts_onto w (upto ws q f) ps h = (h.0, ap (λ l. w.part ∷ l) h.1)

module _ {L Mark : Type 0} (m : Meaning L Mark) (s : m.Settings) (pass : ℕ) where
  word : (w : List ℕ) (p : Part) (source : Source) (acts : List Act) (q : m.Place) → ((r : m.Place) → HasParts (trace m s pass r acts) (parts acts)) → (o : Outcome m.Place) → HasParts (traced pass w p source q (λ r. trace m s pass r acts) o) (p ∷ parts acts)
  word w p source acts q rest (refused e) = (p ∷ parts acts, refl)
  word w p source acts q rest (placed t r) = parts_onto (record { bytes = w; part = p; spot = t }) (trace m s pass r acts) (parts acts) (rest r)

  pub has_parts : (acts : List Act) (q : m.Place) → HasParts (trace m s pass q acts) (parts acts)
  has_parts [] q = refl
  has_parts (set_word w p source ∷ acts) q = word w p source acts q (has_parts acts) (m.sets s q w)
  has_parts (end_of_paragraph ∷ acts) q = has_parts acts (m.paragraph_end s q)
  has_parts (end_of_page ∷ acts) q = has_parts acts (m.page_end s q)
