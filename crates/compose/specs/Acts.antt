-- The acts that a manuscript asks for.
--   Number     the number of a heading: its level and counters
--   Part       what a word is in its manuscript, by plain values
--   part_of    the part of a role
--   Act        setting a word, ending the paragraph, ending the page
use Rattle.std.specs.Prelude.{ℕ, List}
use Rattle.numerals.specs.declared.counters.Counters.{Counters}
use Rattle.numerals.specs.declared.heading.HeadingNumber.{HeadingNumber}
use Rattle.record.specs.Naming.{name_bytes}
use Rattle.compose.specs.declared.acts.Role.{Role}
use Rattle.compose.specs.declared.acts.Role.TheVariants.{Plain, Label, Heading, PageReference, NumberReference, Contents}
use Rattle.compose.specs.declared.acts.Source.{Source}

pub record Number : Type 0 where
  pub level : ℕ
  pub counters : Counters

abbrev pub number_of : HeadingNumber → Number
number_of n = record { level = n.level; counters = n.counters }

-- a reference has the label's name, and how many bytes stand before and after what it shows
pub data Part : Type 0 where
  plain : Part
  label : List ℕ → Number → Part
  heading : Number → Part
  page_reference : List ℕ → ℕ → ℕ → Part
  number_reference : List ℕ → ℕ → ℕ → Part
  contents : Part

abbrev pub part_of : Role → Part
part_of Plain = plain
part_of (Label n k) = label (name_bytes n) (number_of k)
part_of (Heading k) = heading (number_of k)
part_of (PageReference n b a) = page_reference (name_bytes n) b a
part_of (NumberReference n b a) = number_reference (name_bytes n) b a
part_of Contents = contents

pub data Act : Type 0 where
  set_word : List ℕ → Part → Source → Act
  end_of_paragraph : Act
  end_of_page : Act
