-- How the numbers of headings go on.
--   before_any          the number before any heading
--   risen               the counters after a heading of a level: its counter is one more, the later ones are 0
--   counted             the number of a heading of a level, after another number
--   number_after_lem    the number after an item: that of the heading, where it is one
--   Room                n more headings take no counter past 128
use Rattle.std.specs.Prelude.{◌≡◌, ℕ, ◌+◌, ◌≤◌, cond, ◌==◌, refl}
use Rattle.compose.specs.Acts.{Number}
use Rattle.numerals.specs.declared.counters.Counters.{Counters}
use Rattle.typeset.specs.Items.{Item, text, heading, contents, page_break, passed_over}

abbrev pub before_any : Number
before_any = record { level = 0; counters = record { first = 0; second = 0; third = 0 } }

abbrev pub risen : ℕ → Counters → Counters
risen d cs =
    cond (d == 1) (record { first = cs.first + 1; second = 0; third = 0 })
    (cond (d == 2) (record { first = cs.first; second = cs.second + 1; third = 0 })
    (record { first = cs.first; second = cs.second; third = cs.third + 1 }))

abbrev pub counted : ℕ → Number → Number
counted d k = record { level = d; counters = risen d k.counters }

abbrev pub number_after_lem : Number → Item → Number
number_after_lem k (text ws) = k
number_after_lem k (heading n d ws) = counted d k
number_after_lem k (contents n) = k
number_after_lem k page_break = k
number_after_lem k passed_over = k

abbrev pub Room : Counters → ℕ → Type 0
Room cs n = (cs.first + n ≤ 128) × (cs.second + n ≤ 128) × (cs.third + n ≤ 128)

skipped_level : counted 2 before_any ≡ record { level = 2; counters = record { first = 0; second = 1; third = 0 } }
skipped_level = refl
