-- The number and the layer of every cause, as answers show them.
--   number_of      the number of a cause, 1 to 22
--   layer_of       the layer that refuses for it
--   layer_number   the number of a layer, 1 to 5
use Rattle.std.specs.Prelude.{ℕ}
use Rattle.faults.specs.declared.cause.Cause.{Cause}
use Rattle.faults.specs.declared.cause.Cause.TheVariants.{ManuscriptTooLong, ByteNotAllowed, HeadingMalformed, DirectiveUnknown, SecondContents, MarkMalformed, MarkedWordTooLong, LabelRepeated, TooManyLabels, TooManyHeadings, ReferenceWithoutLabel, PassLimitReached, VerdictReached, WordTooWide, PagesUsedUp, LayoutSettings, SessionSettings, NotSettled, PageAbsent, BufferTooShort, FrameMalformed, FrameInvalid}
use Rattle.faults.specs.declared.cause.Layer.{Layer}
use Rattle.faults.specs.declared.cause.Layer.TheVariants.{Reader, LabelTable, Session, Layout, RecordLines}

abbrev pub number_of : Cause → ℕ
number_of ManuscriptTooLong = 1
number_of ByteNotAllowed = 2
number_of HeadingMalformed = 3
number_of DirectiveUnknown = 4
number_of SecondContents = 5
number_of MarkMalformed = 6
number_of MarkedWordTooLong = 7
number_of LabelRepeated = 8
number_of TooManyLabels = 9
number_of TooManyHeadings = 10
number_of ReferenceWithoutLabel = 11
number_of PassLimitReached = 12
number_of VerdictReached = 13
number_of WordTooWide = 14
number_of PagesUsedUp = 15
number_of LayoutSettings = 16
number_of SessionSettings = 17
number_of NotSettled = 18
number_of PageAbsent = 19
number_of BufferTooShort = 20
number_of FrameMalformed = 21
number_of FrameInvalid = 22

abbrev pub layer_of : Cause → Layer
layer_of ManuscriptTooLong = Reader
layer_of ByteNotAllowed = Reader
layer_of HeadingMalformed = Reader
layer_of DirectiveUnknown = Reader
layer_of SecondContents = Reader
layer_of MarkMalformed = Reader
layer_of MarkedWordTooLong = Reader
layer_of LabelRepeated = LabelTable
layer_of TooManyLabels = LabelTable
layer_of TooManyHeadings = LabelTable
layer_of ReferenceWithoutLabel = LabelTable
layer_of PassLimitReached = Session
layer_of VerdictReached = Session
layer_of WordTooWide = Layout
layer_of PagesUsedUp = Layout
layer_of LayoutSettings = Layout
layer_of SessionSettings = Session
layer_of NotSettled = Session
layer_of PageAbsent = Session
layer_of BufferTooShort = Session
layer_of FrameMalformed = RecordLines
layer_of FrameInvalid = RecordLines

abbrev pub layer_number : Layer → ℕ
layer_number Reader = 1
layer_number LabelTable = 2
layer_number Session = 3
layer_number Layout = 4
layer_number RecordLines = 5
