-- What a frame does to the entries read so far.
--   position_from    the position that six bytes tell
--   Step             one entry more, the end, or a cause to refuse
--   label_fits, heading_fits    the entry is right, its name new, and there is room for it
--   label_kept, heading_kept    one entry more where it fits, else invalid
--   step             what a frame does: told by its first byte, malformed before invalid
--   decoded          the frame of a line's digits; no frame has more than 24 bytes
--   Decodes          what decoding a line answers
--   line_step        what a line does
use Rattle.std.specs.Prelude.{◌≡◌, ℕ, ◌+◌, ◌*◌, Bool, true, false, cond, not, ◌&&◌, List, [], ◌∷◌, length, take, drop, is_some, Some, None, Ok, Err, Option, Result, ◌==◌, nat_le, nat_lt, refl}
use Rattle.arrayvec.specs.ArrayVec.{ArrayVec}
use Rattle.faults.specs.declared.cause.Cause.{Cause}
use Rattle.faults.specs.declared.cause.Cause.TheVariants.{FrameMalformed, FrameInvalid}
use Rattle.names.specs.Name.{naming}
use Rattle.names.specs.declared.NameError.{NameError}
use Rattle.names.specs.declared.NameError.TheVariants.{WrongLength, WrongCharacter}
use Rattle.numerals.specs.Sound.{number_ok}
use Rattle.record.specs.Positions.{Position, Label, label_ok, heading_ok}
use Rattle.record.specs.Labels.{place_of}
use Rattle.record.specs.Lists.{Lists, no_entries, with_label, with_heading}
use Rattle.recordlines.specs.Hex.{bytes_of}

abbrev pub position_from : List ℕ → Option Position
position_from [] = None
position_from (a ∷ []) = None
position_from (a ∷ b ∷ []) = None
position_from (a ∷ b ∷ c ∷ []) = None
position_from (a ∷ b ∷ c ∷ d ∷ []) = None
position_from (a ∷ b ∷ c ∷ d ∷ e ∷ []) = None
position_from (level ∷ a ∷ b ∷ c ∷ high ∷ low ∷ []) = Some (record { level = level; counters = record { first = a; second = b; third = c }; page = high * 256 + low })
position_from (a ∷ b ∷ c ∷ d ∷ e ∷ f ∷ g ∷ more) = None

pub data Step : Type 0 where
  keeps : Lists → Step
  ends : Step
  wrong : Cause → Step

abbrev pub sized : Result (Unit {0}) NameError → Bool
sized (Ok u) = true
sized (Err WrongLength) = false
sized (Err WrongCharacter) = true

unfoldable pub name_sized : List ℕ → Bool
name_sized bs = sized (naming bs)

abbrev pub no_contents : Lists → Bool
no_contents ls = length ls.contents == 0

unfoldable pub label_fits : Lists → Label → Bool
label_fits ls l = label_ok l && (not (is_some (place_of l.name ls.labels)) && nat_lt (length ls.labels) 128)

unfoldable pub heading_fits : Lists → Position → Bool
heading_fits ls p = heading_ok p && nat_lt (length ls.contents) 128

abbrev pub label_kept : Lists → Label → Step
label_kept ls l = cond (label_fits ls l) (keeps (with_label ls l)) (wrong FrameInvalid)

abbrev pub heading_kept : Lists → Position → Step
heading_kept ls p = cond (heading_fits ls p) (keeps (with_heading ls p)) (wrong FrameInvalid)

abbrev pub label_step : Lists → List ℕ → Option Position → Step
label_step ls name None = wrong FrameMalformed
label_step ls name (Some p) = cond (name_sized name && no_contents ls) (label_kept ls (record { name = name; position = p })) (wrong FrameMalformed)

abbrev pub contents_step : Lists → Option Position → Step
contents_step ls None = wrong FrameMalformed
contents_step ls (Some p) = heading_kept ls p

abbrev pub end_step : Lists → ℕ → ℕ → Step
end_step ls a b = cond (a == length ls.labels && b == length ls.contents) ends (wrong FrameInvalid)

abbrev named_frame : Lists → List ℕ → Step
named_frame ls [] = wrong FrameMalformed
named_frame ls (n ∷ rest) = label_step ls (take n rest) (position_from (drop n rest))

abbrev last_frame : Lists → List ℕ → Step
last_frame ls [] = wrong FrameMalformed
last_frame ls (a ∷ []) = wrong FrameMalformed
last_frame ls (a ∷ b ∷ []) = end_step ls a b
last_frame ls (a ∷ b ∷ c ∷ more) = wrong FrameMalformed

abbrev pub step : Lists → List ℕ → Step
step ls [] = wrong FrameMalformed
step ls (k ∷ rest) =
    cond (k == 76) (named_frame ls rest)
    (cond (k == 67) (contents_step ls (position_from rest))
    (cond (k == 69) (last_frame ls rest) (wrong FrameMalformed)))

abbrev pub decoded : List ℕ → Option (List ℕ)
decoded digits = cond (nat_le (length digits) 48) (bytes_of digits) None

abbrev pub Decodes : List ℕ → Option (ArrayVec ℕ) → Type 0
Decodes digits None = decoded digits ≡ None
Decodes digits (Some f) = decoded digits ≡ Some f.items

abbrev pub frame_step : Lists → Option (List ℕ) → Step
frame_step ls None = wrong FrameMalformed
frame_step ls (Some f) = step ls f

unfoldable pub line_step : Lists → List ℕ → Step
line_step ls digits = frame_step ls (decoded digits)

no_name : step no_entries (76 ∷ 0 ∷ 1 ∷ 1 ∷ 0 ∷ 0 ∷ 0 ∷ 2 ∷ []) ≡ wrong FrameMalformed
unfolding name_sized
no_name = refl

no_heading : step no_entries (67 ∷ 0 ∷ 0 ∷ 0 ∷ 0 ∷ 0 ∷ 1 ∷ []) ≡ wrong FrameInvalid
unfolding heading_fits
no_heading = refl

page_1000 : step no_entries (67 ∷ 1 ∷ 1 ∷ 0 ∷ 0 ∷ 3 ∷ 232 ∷ []) ≡ wrong FrameInvalid
unfolding heading_fits number_ok
page_1000 = refl
