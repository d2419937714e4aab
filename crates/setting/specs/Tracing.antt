-- The words that a layout puts, with their spots; and that a keeper keeps what these words tell, and nothing else.
--   SetWord        a word that was put: its bytes, what it is in its manuscript, and its spot
--   Trace          all words were put, or those before one that was refused
--   onto           a word in front
--   traced         a word after the layout's outcome
--   trace          acts played on a layout from a place on; nothing here knows of keepers or records
--   heard_all      what a keeper keeps of words
--   finish         playing, by the trace
--   KeepersHear    every keeper hears just the trace
use Rattle.std.specs.Prelude.{◌≡◌, List, [], ◌∷◌, ℕ}
use Rattle.compose.specs.Acts.{Part, Act, set_word, end_of_paragraph, end_of_page}
use Rattle.compose.specs.Playing.{Play, played, play}
use Rattle.compose.specs.Playing as playing
use Rattle.compose.specs.declared.acts.Source.{Source}
use Rattle.faults.specs.declared.fault.Fault.{Fault}
use Rattle.layout.specs.Meaning.{Meaning, Outcome, refused, placed}
use Rattle.layout.specs.Spots.{Spot, page_of}
use Rattle.setting.specs.Keeping.{Keeping}
use Rattle.setting.specs.Typesetting.{Setup, refusal_fault, plays}

pub record SetWord : Type 0 where
  pub bytes : List ℕ
  pub part : Part
  pub spot : Spot

pub data Trace (Place : Type 0) : Type 0 where
  all : List SetWord → Place → Trace Place
  upto : List SetWord → Place → Fault → Trace Place

abbrev pub onto : {Place : Type 0} → SetWord → Trace Place → Trace Place
onto w (all ws q) = all (w ∷ ws) q
onto w (upto ws q e) = upto (w ∷ ws) q e

abbrev pub traced : {Place : Type 0} → ℕ → List ℕ → Part → Source → Place → (Place → Trace Place) → Outcome Place → Trace Place
traced pass w p source q f (refused e) = upto [] q (refusal_fault pass source e)
traced pass w p source q f (placed t r) = onto (record { bytes = w; part = p; spot = t }) (f r)

abbrev pub trace : {L Mark : Type 0} (m : Meaning L Mark) → m.Settings → ℕ → m.Place → List Act → Trace m.Place
trace m s pass q [] = all [] q
trace m s pass q (set_word w p source ∷ acts) = traced pass w p source q (λ r. trace m s pass r acts) (m.sets s q w)
trace m s pass q (end_of_paragraph ∷ acts) = trace m s pass (m.paragraph_end s q) acts
trace m s pass q (end_of_page ∷ acts) = trace m s pass (m.page_end s q) acts

abbrev pub heard_all : {K : Type 0} (k : Keeping K) → k.Fixed → k.Kept → List SetWord → k.Kept
heard_all k f x [] = x
heard_all k f x (w ∷ ws) = heard_all k f (k.hears f x w.bytes w.part (page_of w.spot)) ws

abbrev pub finish : {Place K : Type 0} (k : Keeping K) → k.Fixed → k.Kept → Trace Place → Play (Setup Place k.Kept)
finish k f x (all ws q) = played (record { place = q; kept = heard_all k f x ws })
finish k f x (upto ws q e) = playing.refused (record { place = q; kept = heard_all k f x ws }) e

abbrev pub KeepersHear : {L Mark K : Type 0} → Meaning L Mark → Keeping K → Type 0
KeepersHear m k =
    (s : m.Settings) (f : k.Fixed) (pass : ℕ) (acts : List Act) (q : m.Place) (x : k.Kept) →
    play (plays m k s f pass) (record { place = q; kept = x }) acts ≡ finish k f x (trace m s pass q acts)
