-- Where acts fit, the guards of the keeper never act.
use Rattle.std.proofs.Common.{◌≡◌, ℕ, ◌+◌, ◌-◌, ◌^◌, ◌<◌, ◌≤◌, min, List, [], ◌∷◌, ◌++◌, length, Ok, Err, Result, sym, refl, ap, ◌∙◌, subst, append_assoc, append-nil, arith, length-append}
use Rattle.std.specs.List.{AllByRecursion}
use Rattle.std.proofs.lemmas.List.{length-map, length_push}
use Rattle.std.proofs.lemmas.Bool.{lt-ltb, le-leb, and_from, cond-true}
use Rattle.compose.specs.Acts.{Number, Part, plain, label, heading, page_reference, number_reference, contents, Act, set_word, end_of_paragraph, end_of_page}
use Rattle.compose.specs.Playing.{Play, played, ended}
use Rattle.compose.specs.Playing as playing
use Rattle.compose.specs.declared.acts.Source.{Source}
use Rattle.faults.specs.declared.fault.Fault.{Fault}
use Rattle.layout.specs.Meaning.{Meaning, Lawful, Proper, Outcome, refused, placed}
use Rattle.layout.specs.Spots.{Spot, on, at, page_of, Page, Paper, paged, printed, Kind}
use Rattle.record.specs.Lists.{Lists, no_entries, with_label, with_heading}
use Rattle.record.proofs.Whole.{lists_same}
use Rattle.setting.specs.Tracing.{SetWord, Trace, all, upto, onto, traced, trace, heard_all, finish}
use Rattle.setting.specs.Typesetting.{Setup}
use Rattle.setting.proofs.Traces.{keepers_hear_lem}
use Rattle.findings.specs.Made.{position_at, label_at, entered, made}
use Rattle.findings.specs.Keeping.{Kept, nothing, keeps, finding}
use Rattle.findings.specs.Next.{found, stopped, words_of, concluded}
use Rattle.findings.specs.Fitting.{parts, names_in, titles_in}
use Rattle.findings.specs.Laws.{told, KeepsAll, PassFound}
use Rattle.findings.proofs.Parts.{names_append, titles_append, parts_of, HasParts, has_parts}

abbrev joined : Lists → Lists → Lists
joined a b = record { labels = a.labels ++ b.labels; contents = a.contents ++ b.contents }

abbrev Headed : Number → Type 0
Headed k = 1 ≤ k.level

-- the lists have room for the entries of words with these parts
record Room (ls : Lists) (ps : List Part) : Type 0 where
  labels : length ls.labels + length (names_in ps) ≤ 128
  headings : length ls.contents + length (titles_in ps) ≤ 128
  levels : AllByRecursion Headed (titles_in ps)

-- a word's entry goes to the end, and there is room for the others
record KeptOne (p : Part) (page : ℕ) (ls more : Lists) (ps : List Part) : Type 0 where
  room : Room (keeps ls p page) ps
  value : joined (keeps ls p page) more ≡ joined ls (entered p page more)

kept_label : (n : List ℕ) (k : Number) (page : ℕ) (ls more : Lists) (ps : List Part) → Page page → Room ls (label n k ∷ ps) → KeptOne (label n k) page ls more ps
kept_label n k page ls more ps h r =
    let l = label_at n k page in
    let few : length ls.labels < 128 = omega (arith, r.labels) in
    let e = cond-true _ (with_label ls l) ls (and_from _ _ (lt-ltb _ 128 few) (and_from _ _ (le-leb 1 page h.0) (le-leb page 999 h.1))) in
    let P : Lists → Type 0 = λ x. Room x ps in
    record {
      room = subst P (sym e) (record { labels = omega (arith, r.labels, length_push ls.labels l); headings = r.headings; levels = r.levels });
      value = ap (λ x. joined x more) e ∙ lists_same _ _ (append_assoc ls.labels (l ∷ []) more.labels) refl;
    }

kept_heading : (k : Number) (page : ℕ) (ls more : Lists) (ps : List Part) → Page page → Room ls (heading k ∷ ps) → KeptOne (heading k) page ls more ps
kept_heading k page ls more ps h r =
    let l = position_at k page in
    let few : length ls.contents < 128 = omega (arith, r.headings) in
    let e = cond-true _ (with_heading ls l) ls (and_from _ _ (lt-ltb _ 128 few) (and_from _ _ (le-leb 1 k.level r.levels.0) (and_from _ _ (le-leb 1 page h.0) (le-leb page 999 h.1)))) in
    let P : Lists → Type 0 = λ x. Room x ps in
    record {
      room = subst P (sym e) (record { labels = r.labels; headings = omega (arith, r.headings, length_push ls.contents l); levels = r.levels.1 });
      value = ap (λ x. joined x more) e ∙ lists_same _ _ refl (append_assoc ls.contents (l ∷ []) more.contents);
    }

kept_one : (p : Part) (page : ℕ) (ls more : Lists) (ps : List Part) → Page page → Room ls (p ∷ ps) → KeptOne p page ls more ps
kept_one plain page ls more ps h r = record { room = record { labels = r.labels; headings = r.headings; levels = r.levels }; value = refl }
kept_one (label n k) page ls more ps h r = kept_label n k page ls more ps h r
kept_one (heading k) page ls more ps h r = kept_heading k page ls more ps h r
kept_one (page_reference n b a) page ls more ps h r = record { room = record { labels = r.labels; headings = r.headings; levels = r.levels }; value = refl }
kept_one (number_reference n b a) page ls more ps h r = record { room = record { labels = r.labels; headings = r.headings; levels = r.levels }; value = refl }
kept_one contents page ls more ps h r = record { room = record { labels = r.labels; headings = r.headings; levels = r.levels }; value = refl }

abbrev Paged : SetWord → Type 0
Paged w = Page (page_of w.spot)

kept_same : {a b : Lists} {n k : ℕ} → a ≡ b → n ≡ k → ◌≡◌ {A = Kept} (record { lists = a; words = n }) (record { lists = b; words = k })
kept_same e f = (λ i. record { lists = e i; words = f i })

heard : (ws : List SetWord) (x : Kept) → AllByRecursion Paged ws → Room x.lists (parts_of ws) → x.words + length ws < 2 ^ 64 → heard_all finding tt x ws ≡ record { lists = joined x.lists (made ws); words = x.words + length ws }
heard [] x p r n = kept_same (lists_same x.lists (joined x.lists no_entries) (sym (append-nil x.lists.labels)) (sym (append-nil x.lists.contents))) (omega arith)
heard (w ∷ ws) x p r n =
    let one = kept_one w.part (page_of w.spot) x.lists (made ws) (parts_of ws) p.0 r in
    heard ws (record { lists = keeps x.lists w.part (page_of w.spot); words = min (x.words + 1) (2 ^ 64 - 1) }) p.1 one.room (omega arith)
    ∙ kept_same one.value (omega arith)

-- what a list of parts has room for, a front of it has
all_front : {X : Type 0} (P : X → Type 0) (a b : List X) → AllByRecursion P (a ++ b) → AllByRecursion P a
all_front P [] b h = tt
all_front P (x ∷ a) b h = (h.0, all_front P a b h.1)

room_front : (ls : Lists) (a b : List Part) → Room ls (a ++ b) → Room ls a
room_front ls a b r = record {
  labels = omega (arith, r.labels, ap length (names_append a b), length-append (names_in a) (names_in b));
  headings = omega (arith, r.headings, ap length (titles_append a b), length-append (titles_in a) (titles_in b));
  levels = all_front Headed (titles_in a) (titles_in b) (subst (AllByRecursion Headed) (titles_append a b) r.levels);
}

record Fitting (ws : List SetWord) : Type 0 where
  room : Room no_entries (parts_of ws)
  few : length ws < 2 ^ 64

fitting_front : (ws : List SetWord) (rest ps : List Part) → parts_of ws ++ rest ≡ ps → Room no_entries ps → length ps < 2 ^ 64 → Fitting ws
fitting_front ws rest ps e r n =
    let P : List Part → Type 0 = λ l. Room no_entries l in
    record {
      room = room_front no_entries (parts_of ws) rest (subst P (sym e) r);
      few = omega (arith, n, ap length e, length-append (parts_of ws) rest, length-map ws (λ (w : SetWord). w.part));
    }

fitting : {P : Type 0} (v : Trace P) (ps : List Part) → HasParts v ps → Room no_entries ps → length ps < 2 ^ 64 → Fitting (words_of v)
fitting (all ws q) ps h r n = fitting_front ws [] ps (append-nil (parts_of ws) ∙ h) r n
fitting (upto ws q f) ps h r n = fitting_front ws h.0 ps h.1 r n

-- the pages of put words are pages, by the laws of layouts
kind_page : (b : Paper) (t : Spot) → Kind b t → Page (page_of t)
kind_page paged (on p) k = k
kind_page paged (at p l c) k = elim k [ ]
kind_page (printed h w) (on p) k = elim k [ ]
kind_page (printed h w) (at p l c) k = k

all_onto : {P : Type 0} (w : SetWord) (v : Trace P) → Paged w → AllByRecursion Paged (words_of v) → AllByRecursion Paged (words_of (onto w v))
all_onto w (all ws q) h r = (h, r)
all_onto w (upto ws q f) h r = (h, r)

module _ {L Mark : Type 0} (m : Meaning L Mark) (laws : Lawful m) (s : m.Settings) (pass : ℕ) where
  word : (w : List ℕ) (p : Part) (source : Source) (acts : List Act) (q : m.Place) (n : ℕ) (f : Spot) → ((r : m.Place) → laws.Sound s r → AllByRecursion Paged (words_of (trace m s pass r acts))) → (o : Outcome m.Place) → Proper (laws.Sound s) (m.front s) (m.paper s) n f o → AllByRecursion Paged (words_of (traced pass w p source q (λ r. trace m s pass r acts) o))
  word w p source acts q n f rest (refused e) good = tt
  word w p source acts q n f rest (placed t r) good =
      all_onto (record { bytes = w; part = p; spot = t }) (trace m s pass r acts) (kind_page (m.paper s) t good.0.kind) (rest r good.1)

  paged_all : (acts : List Act) (q : m.Place) → laws.Sound s q → AllByRecursion Paged (words_of (trace m s pass q acts))
  paged_all [] q h = tt
  paged_all (set_word w p source ∷ acts) q h = word w p source acts q _ _ (paged_all acts) (m.sets s q w) (laws.puts s q w h)
  paged_all (end_of_paragraph ∷ acts) q h = paged_all acts (m.paragraph_end s q) (laws.ends_paragraph s q h).1
  paged_all (end_of_page ∷ acts) q h = paged_all acts (m.page_end s q) (laws.ends_page s q h).1

pub keeps_all : {L Mark : Type 0} (m : Meaning L Mark) → Lawful m → KeepsAll m
keeps_all m laws s pass acts fits =
    let v : Trace m.Place = trace m s pass (m.opening s) acts in
    let room : Room no_entries (parts acts) = record { labels = omega (arith, fits.labels); headings = omega (arith, fits.headings); levels = fits.levels } in
    let good = fitting v (parts acts) (has_parts m s pass acts (m.opening s)) room fits.words in
    let n : 0 + length (words_of v) < 2 ^ 64 = omega (arith, good.few) in
    heard (words_of v) nothing (paged_all m laws s pass acts (m.opening s) (laws.opens s)) good.room n
    ∙ kept_same refl (omega arith)

-- what a play kept
abbrev kept_in : {P : Type 0} → Play (Setup P Kept) → Kept
kept_in (played u) = u.kept
kept_in (playing.refused u f) = u.kept

abbrev Whole : List SetWord → Type 0
Whole ws = heard_all finding tt nothing ws ≡ record { lists = made ws; words = length ws }

conclude : {P : Type 0} (v : Trace P) (y : Setup P Kept) (r : Result (Unit {0}) Fault) → Whole (words_of v) → ended y r ≡ finish finding tt nothing v → concluded v ≡ told r y.kept
conclude (all ws q) y (Ok u) k e = ap (λ (x : Kept). found x.lists x.words) (sym (ap kept_in e ∙ k))
conclude (all ws q) y (Err f) k e = absurd (let z : ◌≡◌ {A = ℕ} 0 1 = cc in omega arith)
conclude (upto ws q f) y (Ok u) k e = absurd (let z : ◌≡◌ {A = ℕ} 0 1 = cc in omega arith)
conclude (upto ws q f) y (Err g) k e = let same : f ≡ g = cc in ap stopped same

pub pass_found : {L Mark : Type 0} (m : Meaning L Mark) → Lawful m → PassFound m
pass_found m laws s pass acts fits y r e =
    conclude (trace m s pass (m.opening s) acts) y r (keeps_all m laws s pass acts fits) (e ∙ keepers_hear_lem m finding s tt pass acts (m.opening s) nothing)
