-- What it means to tell a compositor.
--   telling_to    the manuscript and the telling stay, and the compositor plays the acts
use Rattle.std.specs.Prelude.{◌∷◌}
use Rattle.compose.specs.Playing.{Playing}
use Rattle.manuscript.specs.declared.bound.Manuscript.{Manuscript}
use Rattle.typeset.specs.declared.telling.Telling.{Telling}
use Rattle.typeset.specs.declared.teller.Teller.{Teller}

abbrev pub telling_to : {C : Type 0} → Playing C → Playing (Teller C)
telling_to p = record {
  Fixed = Manuscript × Telling × p.Fixed;
  fixed = λ x. (x.manuscript, x.telling, p.fixed x.compositor.now);
  names = λ x. x.numerals.ghost_name ∷ x.compositor.ghost_name ∷ p.names x.compositor.now;
  State = p.State;
  state = λ x. p.state x.compositor.now;
  plays = λ f. p.plays f.2;
}
