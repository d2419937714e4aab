-- The number of a pass changes no record.
use Rattle.std.proofs.Common.{◌≡◌, ℕ, List, [], ◌∷◌, Some, None, Option, sym, refl, ap, ◌∙◌}
use Rattle.compose.specs.Acts.{Part, Act, set_word, end_of_paragraph, end_of_page}
use Rattle.compose.specs.declared.acts.Source.{Source}
use Rattle.layout.specs.Meaning.{Meaning, Outcome, refused, placed}
use Rattle.layout.specs.Spots.{page_of}
use Rattle.record.specs.Lists.{Lists}
use Rattle.setting.specs.Tracing.{SetWord, Trace, all, upto, onto, traced, trace}
use Rattle.findings.specs.Made.{entered}
use Rattle.findings.specs.Next.{concluded, record_of}
use Rattle.findings.specs.Laws.{SameRecord}

abbrev fronted : SetWord → Option Lists → Option Lists
fronted w None = None
fronted w (Some ls) = Some (entered w.part (page_of w.spot) ls)

record_onto : {P : Type 0} (w : SetWord) (v : Trace P) → record_of (concluded (onto w v)) ≡ fronted w (record_of (concluded v))
record_onto w (all ws q) = refl
record_onto w (upto ws q e) = refl

module _ {L Mark : Type 0} (m : Meaning L Mark) (s : m.Settings) (pass : ℕ) where
  abbrev SameFrom : List Act → m.Place → Type 0
  SameFrom acts q = record_of (concluded (trace m s pass q acts)) ≡ record_of (concluded (trace m s 0 q acts))

  word : (w : List ℕ) (p : Part) (source : Source) (acts : List Act) (q : m.Place) → ((r : m.Place) → SameFrom acts r) → (o : Outcome m.Place) → record_of (concluded (traced pass w p source q (λ r. trace m s pass r acts) o)) ≡ record_of (concluded (traced 0 w p source q (λ r. trace m s 0 r acts) o))
  word w p source acts q rest (refused e) = refl
  word w p source acts q rest (placed t r) =
      let u : SetWord = record { bytes = w; part = p; spot = t } in
      record_onto u (trace m s pass r acts) ∙ ap (fronted u) (rest r) ∙ sym (record_onto u (trace m s 0 r acts))

  same : (acts : List Act) (q : m.Place) → SameFrom acts q
  same [] q = refl
  same (set_word w p source ∷ acts) q = word w p source acts q (same acts) (m.sets s q w)
  same (end_of_paragraph ∷ acts) q = same acts (m.paragraph_end s q)
  same (end_of_page ∷ acts) q = same acts (m.page_end s q)

pub same_record : {L Mark : Type 0} (m : Meaning L Mark) → SameRecord m
same_record m s pass acts = same m s pass acts (m.opening s)
