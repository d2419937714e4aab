-- What playing acts on a compositor comes to.
--   Play        where playing has come to: all was played, or a word was refused
--   and_then    go on from there
--   Playing     what a compositor means
--   play        acts one after the other, up to the first refusal
--   ended       a state together with an answer
--   Plays       acts are played from one value to another, with an answer
use Rattle.std.specs.Prelude.{◌≡◌, List, [], ◌∷◌, Ok, Err, Result}
use Rattle.std.specs.Borrow.{GName}
use Rattle.faults.specs.declared.fault.Fault.{Fault}
use Rattle.compose.specs.Acts.{Act}

pub data Play (State : Type 0) : Type 0 where
  played : State → Play State
  refused : State → Fault → Play State

abbrev pub and_then : {State : Type 0} → (State → Play State) → Play State → Play State
and_then f (played s) = f s
and_then f (refused s e) = refused s e

pub record Playing (Self : Type 0) : Type 1 where
  -- what no act changes of a value: its settings, and the ghost names of the references that it holds
  pub Fixed : Type 0
  pub fixed : Self → Fixed
  pub names : Self → List GName
  -- its state, and what an act does to that
  pub State : Type 0
  pub state : Self → State
  pub plays : Fixed → State → Act → Play State

abbrev pub play : {State : Type 0} → (State → Act → Play State) → State → List Act → Play State
play plays s [] = played s
play plays s (a ∷ acts) = and_then (λ t. play plays t acts) (plays s a)

abbrev pub ended : {State : Type 0} → State → Result (Unit {0}) Fault → Play State
ended s (Ok u) = played s
ended s (Err e) = refused s e

pub record Plays {Self : Type 0} (p : Playing Self) (x : Self) (acts : List Act) (y : Self) (r : Result (Unit {0}) Fault) : Type 0 where
  pub ends : ended (p.state y) r ≡ play (p.plays (p.fixed x)) (p.state x) acts
  pub fixed : p.fixed y ≡ p.fixed x
  pub names : p.names y ≡ p.names x
