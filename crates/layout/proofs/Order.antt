-- The words of a run stand in reading order, by the laws alone.
use Rattle.std.proofs.Common.{◌≡◌, ℕ, ◌<◌, ◌≤◌, ◌⊎◌, List, [], ◌∷◌, length, get_or, refl, subst, inl, inr, arith}
use Rattle.std.specs.List.{All, AllPairs}
use Rattle.std.proofs.lemmas.Bool.{cases_lt}
use Rattle.std.proofs.lemmas.List.Elements.{All-cons, All-nil}
use Rattle.std.proofs.lemmas.List.Kept.{AllPairs-cons}
use Rattle.layout.specs.Spots.{Spot, on, at, page_of, after, ◌≼◌, Paper, paged, printed, Kind, High, Wide}
use Rattle.layout.specs.Meaning.{Meaning, Lawful, Proper, refused, placed}
use Rattle.layout.specs.Runs.{PutWord, size, Start, opened, held, Run, done, word, paragraph, page, EndedBefore, PageOnward, covered, Apart, Lies, Precedes, Reads, ReadingOrder, PrintedOrder}
use Rattle.layout.specs.declared.refusal.Refusal.TheVariants.{WordTooWide}

-- what two elements with a property have from R, all have
pub pairs : {A : Type 0} (P : A → Type 0) (R S : A → A → Type 0) → ((x y : A) → P x → P y → R x y → S x y) → (xs : List A) → All P xs → AllPairs R xs → AllPairs S xs
pairs P R S f xs all r i j d l m = let k : i < length xs = omega arith in f (get_or xs i d) (get_or xs j d) (all i d k) (all j d m) (r i j d l m)

pub ≼_trans : (b : Paper) (x y z : Spot) → Kind b x → Kind b y → Kind b z → x ≼ y → y ≼ z → x ≼ z
≼_trans paged (at p l c) y z i j k f g = elim i [ ]
≼_trans paged (on p) (at q m d) z i j k f g = elim j [ ]
≼_trans paged (on p) (on q) (at r n e) i j k f g = elim k [ ]
≼_trans paged (on p) (on q) (on r) i j k f g = omega arith
≼_trans (printed h w) (on p) y z i j k f g = elim i [ ]
≼_trans (printed h w) (at p l c) (on q) z i j k f g = elim j [ ]
≼_trans (printed h w) (at p l c) (at q m d) (on r) i j k f g = elim k [ ]
≼_trans (printed h w) (at p l c) (at q m d) (at r n e) i j k f g = grind arith

≼_after : (b : Paper) (n : ℕ) (x : Spot) → Kind b x → x ≼ after n x
≼_after paged n (on p) i = omega arith
≼_after paged n (at p l c) i = elim i [ ]
≼_after (printed h w) n (on p) i = elim i [ ]
≼_after (printed h w) n (at p l c) i = inr (refl, inr (refl, omega arith))

kind_after : (b : Paper) (n : ℕ) (x : Spot) → Kind b x → Kind b (after n x)
kind_after paged n (on p) i = i
kind_after paged n (at p l c) i = elim i [ ]
kind_after (printed h w) n (on p) i = elim i [ ]
kind_after (printed h w) n (at p l c) i = i

-- what a word ended before another gives of the two
onward : (n : ℕ) (x y : Spot) → after n x ≼ y → page_of x ≤ page_of y
onward n (on p) (on q) f = f
onward n (on p) (at q m d) f = f
onward n (at p l c) (on q) f = f
onward n (at p l c) (at q m d) f = grind arith

precedes : (b : Paper) (v u : PutWord) (x y : Spot) → v.spot ≡ x → u.spot ≡ y → Kind b x → Kind b y → 1 ≤ size v → after (size v) x ≼ y → Precedes b v u
precedes paged v u x y d e i j k f = tt
precedes (printed h w) v u (on p) y d e i j k f = elim i [ ]
precedes (printed h w) v u (at p l c) (on q) d e i j k f = elim j [ ]
precedes (printed h w) v u (at p l c) (at q m g) d e i j k f = rw (d, e) (grind arith)

no_shared : (n k : ℕ) (x y : Spot) → after n x ≼ y → (p l c : ℕ) → covered n x p l c → covered k y p l c → ⊥
no_shared n k (on q) y f p l c i j = i
no_shared n k (at q m d) (on o) f p l c i j = j
no_shared n k (at q m d) (at o g e) f p l c i j = grind arith

-- an accepted word has 1 to 72 bytes
some_byte : {Place : Type 0} (w : List ℕ) (t : Spot) (r : Place) → (length w ≡ 0 → placed t r ≡ refused WordTooWide) → 1 ≤ length w
some_byte [] t r h = let e = h refl in let z : ◌≡◌ {A = ℕ} 0 1 = cc in omega arith
some_byte (x ∷ xs) t r h = omega arith

no_longer : {Place : Type 0} (w : List ℕ) (t : Spot) (r : Place) → (72 < length w → placed t r ≡ refused WordTooWide) → length w ≤ 72
no_longer w t r h = elim (cases_lt 72 (length w)) [ inl l ↦ let e = h l in let z : ◌≡◌ {A = ℕ} 0 1 = cc in omega arith | inr l ↦ l ]

-- the words of a run from a place with the front f
record Follow (b : Paper) (f : Spot) (ws : List PutWord) : Type 0 where
  begun : All (λ v. f ≼ v.spot) ws
  ended : AllPairs EndedBefore ws
  lies : All (Lies b) ws

earlier : (b : Paper) (f g : Spot) (ws : List PutWord) → Kind b f → Kind b g → f ≼ g → Follow b g ws → Follow b f ws
earlier b f g ws i j l r = record {
  begun = λ k d m. ≼_trans b f g (get_or ws k d).spot i j (r.lies k d m).kind l (r.begun k d m);
  ended = r.ended;
  lies = r.lies;
}

module _ {Self Mark : Type 0} (m : Meaning Self Mark) (laws : Lawful m) (s : m.Settings) where
  step : (v : PutWord) (ws : List PutWord) (q r : m.Place) → laws.Sound s q → m.sets s q v.bytes ≡ placed v.spot r → (laws.Sound s r → Follow (m.paper s) (m.front s r) ws) → Follow (m.paper s) (m.front s q) (v ∷ ws)
  step v ws q r sound e rest =
      let b = m.paper s in
      let n = size v in
      let f = m.front s q in
      let t = v.spot in
      let good = subst (λ o. Proper (laws.Sound s) (m.front s) b n f o) e (laws.puts s q v.bytes sound) in
      let put = good.0 in
      let kf = laws.fronted s q in
      let ka = kind_after b n t put.kind in
      let beyond = earlier b (after n t) (m.front s r) ws ka (laws.fronted s r) put.past (rest good.1) in
      let start = ≼_trans b f t (after n t) kf put.kind ka put.ahead (≼_after b n t put.kind) in
      let all = earlier b f (after n t) ws kf ka start beyond in
      let long : (length v.bytes ≡ 0) ⊎ (72 < length v.bytes) → placed t r ≡ refused WordTooWide = λ l. subst (λ o. o ≡ refused WordTooWide) e (laws.too_long s q v.bytes l) in
      let here : Lies b v = record { kind = put.kind; inside = put.inside; some = some_byte v.bytes t r (λ l. long (inl l)); short = no_longer v.bytes t r (λ l. long (inr l)) } in
      record {
        begun = All-cons (λ u. f ≼ u.spot) v ws put.ahead all.begun;
        ended = AllPairs-cons EndedBefore v ws beyond.begun beyond.ended;
        lies = All-cons (Lies b) v ws here beyond.lies;
      }

  -- from every place that can be come to
  follows : {q r : m.Place} {ws : List PutWord} → laws.Sound s q → Run m s q ws r → Follow (m.paper s) (m.front s q) ws
  follows sound done = record { begun = All-nil _; ended = λ i j d l m. absurd (omega arith); lies = All-nil (Lies (m.paper s)) }
  follows {q} sound (word {ws = ws} v r e run) = step v ws q r sound e (λ next. follows next run)
  follows {q} {r} {ws} sound (paragraph run) =
      let a = laws.ends_paragraph s q sound in
      earlier (m.paper s) (m.front s q) (m.front s (m.paragraph_end s q)) ws (laws.fronted s q) (laws.fronted s (m.paragraph_end s q)) a.0 (follows a.1 run)
  follows {q} {r} {ws} sound (page run) =
      let a = laws.ends_page s q sound in
      earlier (m.paper s) (m.front s q) (m.front s (m.page_end s q)) ws (laws.fronted s q) (laws.fronted s (m.page_end s q)) a.0 (follows a.1 run)

reads : (b : Paper) (f : Spot) (ws : List PutWord) → Follow b f ws → Reads b ws
reads b f ws r = record {
  onward = pairs (Lies b) EndedBefore PageOnward (λ v u _ _ e. onward (size v) v.spot u.spot e) ws r.lies r.ended;
  ascending = pairs (Lies b) EndedBefore (Precedes b) (λ v u i j e. precedes b v u v.spot u.spot refl refl i.kind j.kind i.some e) ws r.lies r.ended;
  ended = r.ended;
  apart = pairs (Lies b) EndedBefore Apart (λ v u _ _ e. no_shared (size v) (size u) v.spot u.spot e) ws r.lies r.ended;
  inside = r.lies;
}

sound_start : {Self Mark : Type 0} (m : Meaning Self Mark) (laws : Lawful m) {s : m.Settings} {q : m.Place} → Start m s q → laws.Sound s q
sound_start m laws (opened s) = laws.opens s
sound_start m laws (held x) = laws.held x

pub reading_order_lem : {Self Mark : Type 0} (m : Meaning Self Mark) → Lawful m → ReadingOrder m
reading_order_lem m laws s q r ws start run = reads (m.paper s) (m.front s q) ws (follows m laws s (sound_start m laws start) run)

-- height and width are all of a printing layout's paper
pub paper_is : (b : Paper) (h w : ℕ) → High b h → Wide b w → b ≡ printed h w
paper_is paged h w i j = elim i [ ]
paper_is (printed g v) h w i j = cc

pub printed_order_lem : {Self Mark : Type 0} (m : Meaning Self Mark) → Lawful m → PrintedOrder m
printed_order_lem m laws s h w i j q r ws start run = subst (λ b. Reads b ws) (paper_is (m.paper s) h w i j) (reading_order_lem m laws s q r ws start run)
