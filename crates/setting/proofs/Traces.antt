-- What a keeper keeps is what the words that were put tell it.
use mathlib.Core.Path.{◌≡◌, refl, ◌∙◌}
use mathlib.Core.List.{List, [], ◌∷◌}
use Prim.Native.Nat.{ℕ}
use Rattle.compose.specs.Acts.{Part, Act, set_word, end_of_paragraph, end_of_page}
use Rattle.compose.specs.Playing.{and_then, play}
use Rattle.compose.specs.declared.acts.Source.{Source}
use Rattle.layout.specs.Meaning.{Meaning, Outcome, refused, placed}
use Rattle.layout.specs.Spots.{page_of}
use Rattle.setting.specs.Keeping.{Keeping}
use Rattle.setting.specs.Typesetting.{heard, plays}
use Rattle.setting.specs.Tracing.{SetWord, Trace, all, upto, onto, traced, trace, finish, KeepersHear}

finish_onto : {Place K : Type 0} (k : Keeping K) (f : k.Fixed) (x : k.Kept) (w : SetWord) (v : Trace Place) → finish k f (k.hears f x w.bytes w.part (page_of w.spot)) v ≡ finish k f x (onto w v)
finish_onto k f x w (all ws q) = refl
finish_onto k f x w (upto ws q e) = refl

module _ {L Mark K : Type 0} (m : Meaning L Mark) (k : Keeping K) (s : m.Settings) (f : k.Fixed) (pass : ℕ) where
  word : (w : List ℕ) (p : Part) (source : Source) (acts : List Act) (q : m.Place) (x : k.Kept) → ((r : m.Place) (y : k.Kept) → play (plays m k s f pass) (record { place = r; kept = y }) acts ≡ finish k f y (trace m s pass r acts)) → (o : Outcome m.Place) → and_then (λ u. play (plays m k s f pass) u acts) (heard (k.hears f x w p) pass source (record { place = q; kept = x }) o) ≡ finish k f x (traced pass w p source q (λ r. trace m s pass r acts) o)
  word w p source acts q x rest (refused e) = refl
  word w p source acts q x rest (placed t r) = rest r (k.hears f x w p (page_of t)) ∙ finish_onto k f x (record { bytes = w; part = p; spot = t }) (trace m s pass r acts)

  hear : (acts : List Act) (q : m.Place) (x : k.Kept) → play (plays m k s f pass) (record { place = q; kept = x }) acts ≡ finish k f x (trace m s pass q acts)
  hear [] q x = refl
  hear (set_word w p source ∷ acts) q x = word w p source acts q x (hear acts) (m.sets s q w)
  hear (end_of_paragraph ∷ acts) q x = hear acts (m.paragraph_end s q) x
  hear (end_of_page ∷ acts) q x = hear acts (m.page_end s q) x

pub keepers_hear_lem : {L Mark K : Type 0} (m : Meaning L Mark) (k : Keeping K) → KeepersHear m k
keepers_hear_lem m k s f pass acts q x = hear m k s f pass acts q x
