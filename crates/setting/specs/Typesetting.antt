-- What setting words in a layout, with a keeper, comes to.
--   refusal_fault    the fault that a layout's refusal makes, with where the word comes from and the pass
--   Setup            how far a layout and a keeper have come
--   heard            a word after the layout's outcome
--   plays            an act
--   typesetting      the meaning of the compositor
use Rattle.std.specs.Prelude.{◌∷◌, ℕ}
use Rattle.compose.specs.Acts.{Act, set_word, end_of_paragraph, end_of_page}
use Rattle.compose.specs.Playing.{Play, Playing, played}
use Rattle.compose.specs.Playing as playing
use Rattle.compose.specs.declared.acts.Source.{Source}
use Rattle.faults.specs.Faults.{line_at}
use Rattle.faults.specs.declared.fault.Fault.{Fault}
use Rattle.layout.specs.Meaning.{Meaning, Outcome, refused, placed}
use Rattle.layout.specs.Spots.{page_of}
use Rattle.layout.specs.Refusals.{cause_of}
use Rattle.layout.specs.declared.refusal.Refusal.{Refusal}
use Rattle.setting.specs.Keeping.{Keeping}
use Rattle.setting.specs.declared.typesetter.Typesetter.{Typesetter}

abbrev pub refusal_fault : ℕ → Source → Refusal → Fault
refusal_fault pass s e = record { cause = cause_of e; line = line_at s.line; name = s.name; pass = pass }

pub record Setup (Place Kept : Type 0) : Type 0 where
  pub place : Place
  pub kept : Kept

abbrev pub heard : {P K : Type 0} → (ℕ → K) → ℕ → Source → Setup P K → Outcome P → Play (Setup P K)
heard hears pass s u (refused e) = playing.refused u (refusal_fault pass s e)
heard hears pass s u (placed t q) = played (record { place = q; kept = hears (page_of t) })

module _ {L Mark K : Type 0} (m : Meaning L Mark) (k : Keeping K) where
  abbrev pub plays : m.Settings → k.Fixed → ℕ → Setup m.Place k.Kept → Act → Play (Setup m.Place k.Kept)
  plays s f pass u (set_word w p source) = heard (k.hears f u.kept w p) pass source u (m.sets s u.place w)
  plays s f pass u end_of_paragraph = played (record { place = m.paragraph_end s u.place; kept = u.kept })
  plays s f pass u end_of_page = played (record { place = m.page_end s u.place; kept = u.kept })

  abbrev pub typesetting : Playing (Typesetter L K)
  typesetting = record {
    Fixed = m.Settings × k.Fixed × ℕ;
    fixed = λ x. (m.settings x.layout.now, k.fixed x.keeper.now, x.pass);
    names = λ x. x.layout.ghost_name ∷ x.keeper.ghost_name ∷ k.names x.keeper.now;
    State = Setup m.Place k.Kept;
    state = λ x. record { place = m.place x.layout.now; kept = k.kept x.keeper.now };
    plays = λ f. plays f.0 f.1 f.2;
  }
