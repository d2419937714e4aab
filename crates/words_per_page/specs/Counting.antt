-- A page takes a fixed number of words.
--   Count      a place as two numbers: the page, and how many words it has
--   place      a place from its two numbers
--   counted    the numbers of a place of the code
--   sets       what comes of setting a word
--   counting   the meaning of the layout
--   Made       what the making call answers
use Rattle.std.specs.Prelude.{◌≡◌, ℕ, ◌+◌, cond, ◌||◌, List, length, Some, None, Option, ◌==◌, nat_lt, refl}
use Rattle.layout.specs.Spots.{on, paged, nearest_page}
use Rattle.layout.specs.Meaning.{Meaning, Outcome, refused, placed}
use Rattle.layout.specs.declared.refusal.Refusal.TheVariants.{WordTooWide, PagesUsedUp}
use Rattle.words_per_page.specs.declared.state.Quota.{Quota}
use Rattle.words_per_page.specs.declared.state.Count.{Count as CountOfPages}
use Rattle.words_per_page.specs.declared.state.PageMark.{PageMark}
use Rattle.words_per_page.specs.declared.state.WordsPerPage.{WordsPerPage}

pub record Count : Type 0 where
  pub page : ℕ
  pub words : ℕ

abbrev pub place : ℕ → ℕ → Count
place p c = record { page = p; words = c }

abbrev pub counted : CountOfPages → Count
counted q = place q.page.number q.words

abbrev pub put : ℕ → ℕ → ℕ → Outcome Count
put limit p c = cond (nat_lt c limit) (placed (on p) (place p (c + 1))) (cond (nat_lt p 999) (placed (on (p + 1)) (place (p + 1) 1)) (refused PagesUsedUp))

abbrev pub sets : Quota → Count → List ℕ → Outcome Count
sets s q w = cond (length w == 0 || nat_lt 72 (length w)) (refused WordTooWide) (put s.words q.page q.words)

abbrev pub counting : Meaning WordsPerPage PageMark
counting = record {
  Settings = Quota;
  Place = Count;
  settings = λ x. x.quota;
  place = λ x. counted x.count;
  letter = 87;
  paper = λ s. paged;
  spot = λ s k. on k.page.number;
  front = λ s q. on (nearest_page q.page);
  opening = λ s. place 1 0;
  sets = sets;
  paragraph_end = λ s q. q;
  page_end = λ s q. cond (q.words == 0) q (place q.page s.words);
}

abbrev pub Made : ℕ → Option WordsPerPage → Type 0
Made n (Some x) = (x.quota.words ≡ n) × (counted x.count ≡ place 1 0)
Made n None = n ≡ 0

overleaf : put 2 7 2 ≡ placed (on 8) (place 8 1)
overleaf = refl

no_page_left : put 2 999 2 ≡ refused PagesUsedUp
no_page_left = refl
