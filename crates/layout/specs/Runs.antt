-- Runs of a layout, and how their words stand on the pages.
--   PutWord         a word that was put: its bytes and its spot
--   size            how many bytes it has
--   Start m s q     a run may start at q: it is the opening place, or the place of some value
--   Run m s q ws r  setting words, and ending paragraphs and pages anywhere between, goes from the place q
--                   to the place r without a refusal; ws are the words
--   EndedBefore     a word ends before another begins
--   PageOnward      of two words, the later is on the page of the earlier or on a later one
--   Covers          a word has a byte in this column of this line of this page
--   Apart           two words share no column of a line
--   Lies            a word has 1 to 72 bytes, and lies on one line inside the page
--   Precedes        on paper with lines, a word stands strictly before another in reading order
--   Reads           the words of a run stand in reading order, apart and inside the page
--   ReadingOrder    every run reads so
--   ReadsWithin     at some settings, on pages of some height and width
--   PrintedOrder    at all settings, on pages of their height and width
use Rattle.std.specs.Prelude.{◌≡◌, ℕ, ◌+◌, ◌<◌, ◌≤◌, List, [], ◌∷◌, length}
use Rattle.std.specs.List.{All, AllPairs}
use Rattle.layout.specs.Spots.{Spot, on, at, page_of, after, ◌≼◌, ◌≺◌, Paper, paged, printed, High, Wide, Kind, Inside}
use Rattle.layout.specs.Meaning.{Meaning, placed}

pub record PutWord : Type 0 where
  pub bytes : List ℕ
  pub spot : Spot

abbrev pub size : PutWord → ℕ
size v = length v.bytes

pub data Start {Self Mark : Type 0} (m : Meaning Self Mark) : m.Settings → m.Place → Type 0 where
  opened : (s : m.Settings) → Start m s (m.opening s)
  held : (x : Self) → Start m (m.settings x) (m.place x)

pub data Run {Self Mark : Type 0} (m : Meaning Self Mark) (s : m.Settings) : m.Place → List PutWord → m.Place → Type 0 where
  done : {q : m.Place} → Run m s q [] q
  word : {q e : m.Place} {ws : List PutWord} (v : PutWord) (r : m.Place) → m.sets s q v.bytes ≡ placed v.spot r → Run m s r ws e → Run m s q (v ∷ ws) e
  paragraph : {q e : m.Place} {ws : List PutWord} → Run m s (m.paragraph_end s q) ws e → Run m s q ws e
  page : {q e : m.Place} {ws : List PutWord} → Run m s (m.page_end s q) ws e → Run m s q ws e

abbrev pub EndedBefore : PutWord → PutWord → Type 0
EndedBefore v u = after (size v) v.spot ≼ u.spot

abbrev pub PageOnward : PutWord → PutWord → Type 0
PageOnward v u = page_of v.spot ≤ page_of u.spot

abbrev pub covered : ℕ → Spot → ℕ → ℕ → ℕ → Type 0
covered n (on q) p l c = ⊥
covered n (at q m d) p l c = (p ≡ q) × ((l ≡ m) × ((d ≤ c) × (c < d + n)))

abbrev pub Covers : PutWord → ℕ → ℕ → ℕ → Type 0
Covers v p l c = covered (size v) v.spot p l c

abbrev pub Apart : PutWord → PutWord → Type 0
Apart v u = (p l c : ℕ) → Covers v p l c → Covers u p l c → ⊥

pub record Lies (b : Paper) (v : PutWord) : Type 0 where
  pub kind : Kind b v.spot
  pub inside : Inside b (size v) v.spot
  pub some : 1 ≤ size v
  pub short : size v ≤ 72

abbrev pub Precedes : Paper → PutWord → PutWord → Type 0
Precedes paged v u = Unit {0}
Precedes (printed h w) v u = v.spot ≺ u.spot

pub record Reads (b : Paper) (ws : List PutWord) : Type 0 where
  -- the pages never go back
  pub onward : AllPairs PageOnward ws
  -- where a page has lines, the words strictly ascend
  pub ascending : AllPairs (Precedes b) ws
  -- each begins after the end of every earlier one
  pub ended : AllPairs EndedBefore ws
  -- no two share a column of a line
  pub apart : AllPairs Apart ws
  -- each lies inside the page
  pub inside : All (Lies b) ws

abbrev pub ReadingOrder : {Self Mark : Type 0} → Meaning Self Mark → Type 0
ReadingOrder m = (s : m.Settings) (q r : m.Place) (ws : List PutWord) → Start m s q → Run m s q ws r → Reads (m.paper s) ws

abbrev pub ReadsWithin : {Self Mark : Type 0} → (m : Meaning Self Mark) → m.Settings → ℕ → ℕ → Type 0
ReadsWithin m s height width = (q r : m.Place) (ws : List PutWord) → Start m s q → Run m s q ws r → Reads (printed height width) ws

abbrev pub PrintedOrder : {Self Mark : Type 0} → Meaning Self Mark → Type 0
PrintedOrder m = (s : m.Settings) (height width : ℕ) → High (m.paper s) height → Wide (m.paper s) width → ReadsWithin m s height width
