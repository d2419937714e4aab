-- What the calls of a layout do, from a value x to a value y: all of y is its settings and its place.
--   spot_told         what a value tells of a mark
--   paper_told        paper of a value
--   outcome           what comes of setting a word
--   place_after       the place after an outcome: a refusal keeps it
--   Left              the settings are as they were, and the place is this
--   Rewound           the place is the opening place
--   ParagraphEnded    the paragraph is ended
--   PageEnded         the page is ended
--   WordSet           the answer and the place are those of the outcome
use Rattle.std.specs.Prelude.{◌≡◌, ℕ, List, Ok, Err, Result}
use Rattle.layout.specs.Spots.{Spot, Paper}
use Rattle.layout.specs.Meaning.{Meaning, Outcome, refused, placed}
use Rattle.layout.specs.declared.refusal.Refusal.{Refusal}

abbrev pub spot_told : {Self Mark : Type 0} → Meaning Self Mark → Self → Mark → Spot
spot_told m x k = m.spot (m.settings x) k

abbrev pub paper_told : {Self Mark : Type 0} → Meaning Self Mark → Self → Paper
paper_told m x = m.paper (m.settings x)

abbrev pub outcome : {Self Mark : Type 0} → (m : Meaning Self Mark) → Self → List ℕ → Outcome m.Place
outcome m x w = m.sets (m.settings x) (m.place x) w

abbrev pub place_after : {Place : Type 0} → Place → Outcome Place → Place
place_after q (refused e) = q
place_after q (placed t r) = r

-- the answer that an outcome gives, with the spot for the mark
abbrev pub answer : {Place : Type 0} → Outcome Place → Result Spot Refusal
answer (refused e) = Err e
answer (placed t r) = Ok t

-- what is read from an answer
abbrev pub told : {Self Mark : Type 0} → Meaning Self Mark → Self → Result Mark Refusal → Result Spot Refusal
told m x (Ok k) = Ok (spot_told m x k)
told m x (Err e) = Err e

pub record Left {Self Mark : Type 0} (m : Meaning Self Mark) (x y : Self) (q : m.Place) : Type 0 where
  pub settings : m.settings y ≡ m.settings x
  pub place : m.place y ≡ q

abbrev pub Rewound : {Self Mark : Type 0} → Meaning Self Mark → Self → Self → Type 0
Rewound m x y = Left m x y (m.opening (m.settings x))

abbrev pub ParagraphEnded : {Self Mark : Type 0} → Meaning Self Mark → Self → Self → Type 0
ParagraphEnded m x y = Left m x y (m.paragraph_end (m.settings x) (m.place x))

abbrev pub PageEnded : {Self Mark : Type 0} → Meaning Self Mark → Self → Self → Type 0
PageEnded m x y = Left m x y (m.page_end (m.settings x) (m.place x))

pub record WordSet {Self Mark : Type 0} (m : Meaning Self Mark) (x y : Self) (w : List ℕ) (r : Result Mark Refusal) : Type 0 where
  pub answers : told m x r ≡ answer (outcome m x w)
  pub leaves : Left m x y (place_after (m.place x) (outcome m x w))
