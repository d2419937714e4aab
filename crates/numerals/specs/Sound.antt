-- Which counters a level goes with.
--   number_ok    the counter at the level is at least 1, those after it are 0, and none is over 128; at level 0 all are 0
use Rattle.std.specs.Prelude.{ℕ, Bool, ◌&&◌, ◌||◌, ◌==◌, nat_le}
use Rattle.numerals.specs.declared.counters.Counters.{Counters}

unfoldable pub number_ok : ℕ → Counters → Bool
number_ok level cs =
    let a = cs.first in
    let b = cs.second in
    let c = cs.third in
    (nat_le a 128 && (nat_le b 128 && nat_le c 128))
    && ((level == 0 && (a == 0 && (b == 0 && c == 0)))
    || ((level == 1 && (nat_le 1 a && (b == 0 && c == 0)))
    || ((level == 2 && (nat_le 1 b && c == 0))
    || (level == 3 && nat_le 1 c))))
