-- The manner of the code, by plain values.
--   manner_of    its value
use Rattle.compose.specs.Acts.{number_of}
use Rattle.typeset.specs.Script.{in_place, in_contents}
use Rattle.typeset.specs.Script as script
use Rattle.typeset.specs.declared.manner.Manner.{Manner}
use Rattle.typeset.specs.declared.manner.Manner.TheVariants.{InPlace, InContents}

abbrev pub manner_of : Manner → script.Manner
manner_of (InPlace k) = in_place (number_of k)
manner_of (InContents n) = in_contents n
