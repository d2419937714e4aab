-- What holds of the findings of a pass, for every layout.
--   KeepsAll        where the acts fit, the keeper's guards never act: it keeps what the put words make, and their number
--   told            what an answer and what was kept tell of a pass
--   PassFound       where the acts fit, a pass that begins with nothing finds what its answer and its keeper tell
--   SameRecord      the number of a pass stands in faults alone: every pass makes one record
--   NamesTold       where all words are put, the labels of the record are those of the acts, in order
--   NamesFound      the same of what was found
--   LabelsApart     where no two labels of the acts have one name, no two of the record found have
use Rattle.std.specs.Prelude.{◌≡◌, ℕ, true, List, map, length, Ok, Err, Result}
use Rattle.compose.specs.Acts.{Act}
use Rattle.compose.specs.Playing.{play, ended}
use Rattle.faults.specs.declared.fault.Fault.{Fault}
use Rattle.layout.specs.Meaning.{Meaning}
use Rattle.record.specs.Labels.{distinct}
use Rattle.record.specs.Lists.{Lists}
use Rattle.record.specs.Positions.{Label}
use Rattle.setting.specs.Tracing.{SetWord, all, trace, heard_all}
use Rattle.setting.specs.Typesetting.{Setup, plays}
use Rattle.findings.specs.Made.{made}
use Rattle.findings.specs.Keeping.{Kept, nothing, finding}
use Rattle.findings.specs.Next.{Found, found, stopped, words_of, found_by, record_of}
use Rattle.findings.specs.Fitting.{Fits, label_names, apart}

abbrev pub KeepsAll : {L Mark : Type 0} → Meaning L Mark → Type 0
KeepsAll m =
    (s : m.Settings) (pass : ℕ) (acts : List Act) → Fits acts →
    heard_all finding tt nothing (words_of (trace m s pass (m.opening s) acts))
    ≡ record { lists = made (words_of (trace m s pass (m.opening s) acts)); words = length (words_of (trace m s pass (m.opening s) acts)) }

abbrev pub told : Result (Unit {0}) Fault → Kept → Found
told (Ok u) x = found x.lists x.words
told (Err f) x = stopped f

abbrev pub PassFound : {L Mark : Type 0} → Meaning L Mark → Type 0
PassFound m =
    (s : m.Settings) (pass : ℕ) (acts : List Act) → Fits acts →
    (y : Setup m.Place Kept) (r : Result (Unit {0}) Fault) →
    ended y r ≡ play (plays m finding s tt pass) (record { place = m.opening s; kept = nothing }) acts →
    found_by m s pass acts ≡ told r y.kept

abbrev pub SameRecord : {L Mark : Type 0} → Meaning L Mark → Type 0
SameRecord m = (s : m.Settings) (pass : ℕ) (acts : List Act) → record_of (found_by m s pass acts) ≡ record_of (found_by m s 0 acts)

abbrev pub NamesTold : {L Mark : Type 0} → Meaning L Mark → Type 0
NamesTold m =
    (s : m.Settings) (pass : ℕ) (acts : List Act) (ws : List SetWord) (q : m.Place) →
    trace m s pass (m.opening s) acts ≡ all ws q → map (λ (l : Label). l.name) (made ws).labels ≡ label_names acts

abbrev pub NamesFound : {L Mark : Type 0} → Meaning L Mark → Type 0
NamesFound m =
    (s : m.Settings) (pass : ℕ) (acts : List Act) (ls : Lists) (n : ℕ) →
    found_by m s pass acts ≡ found ls n → map (λ (l : Label). l.name) ls.labels ≡ label_names acts

abbrev pub LabelsApart : {L Mark : Type 0} → Meaning L Mark → Type 0
LabelsApart m =
    (s : m.Settings) (pass : ℕ) (acts : List Act) (ls : Lists) (n : ℕ) → apart (label_names acts) ≡ true →
    found_by m s pass acts ≡ found ls n → distinct ls.labels ≡ true
