-- Acts played one list after the other.
use Rattle.std.proofs.Common.{◌≡◌, List, [], ◌∷◌, ◌++◌, Ok, Err, Result, sym, refl, ap, ◌∙◌, subst}
use Rattle.compose.specs.Acts.{Act}
use Rattle.compose.specs.Playing.{Play, Playing, Plays, played, refused, and_then, play, ended}
use Rattle.faults.specs.declared.fault.Fault.{Fault}

module _ {State : Type 0} where
  and_then_assoc : (f g : State → Play State) (v : Play State) → and_then g (and_then f v) ≡ and_then (λ s. and_then g (f s)) v
  and_then_assoc f g (played s) = refl
  and_then_assoc f g (refused s e) = refl

  and_then_same : (f g : State → Play State) → ((s : State) → f s ≡ g s) → (v : Play State) → and_then f v ≡ and_then g v
  and_then_same f g h (played s) = h s
  and_then_same f g h (refused s e) = refl

-- acts in two parts: the first part, and then the second
pub play_append : {State : Type 0} (plays : State → Act → Play State) (xs ys : List Act) (s : State) → play plays s (xs ++ ys) ≡ and_then (λ t. play plays t ys) (play plays s xs)
play_append plays [] ys s = refl
play_append plays (x ∷ xs) ys s =
    and_then_same _ _ (play_append plays xs ys) (plays s x) ∙ sym (and_then_assoc (λ t. play plays t xs) (λ t. play plays t ys) (plays s x))

-- acts are played up to y, and what is left is to be played from there
pub record ToPlay {Self : Type 0} (p : Playing Self) (x : Self) (all : List Act) (y : Self) (rest : List Act) : Type 0 where
  pub whole : play (p.plays (p.fixed x)) (p.state x) all ≡ play (p.plays (p.fixed x)) (p.state y) rest
  pub fixed : p.fixed y ≡ p.fixed x
  pub names : p.names y ≡ p.names x

module _ {Self : Type 0} (p : Playing Self) {x y z : Self} where
  first_part : (xs ys : List Act) {r : Result (Unit {0}) Fault} → p.fixed y ≡ p.fixed x → Plays p y xs z r → play (p.plays (p.fixed x)) (p.state y) (xs ++ ys) ≡ and_then (λ t. play (p.plays (p.fixed x)) t ys) (ended (p.state z) r)
  first_part xs ys f k =
      play_append (p.plays (p.fixed x)) xs ys (p.state y)
      ∙ ap (and_then (λ t. play (p.plays (p.fixed x)) t ys)) (sym (k.ends ∙ ap (λ (v : p.Fixed). play (p.plays v) (p.state y) xs) f))

  -- one part more was played
  pub played_on : {all rest : List Act} (xs ys : List Act) → ToPlay p x all y rest → rest ≡ xs ++ ys → Plays p y xs z (Ok tt) → ToPlay p x all z ys
  played_on xs ys l e k = record {
    whole = l.whole ∙ ap (play (p.plays (p.fixed x)) (p.state y)) e ∙ first_part xs ys l.fixed k;
    fixed = k.fixed ∙ l.fixed;
    names = k.names ∙ l.names;
  }

  -- the next part was refused
  pub refused_there : {all rest : List Act} (xs ys : List Act) {f : Fault} → ToPlay p x all y rest → rest ≡ xs ++ ys → Plays p y xs z (Err f) → Plays p x all z (Err f)
  refused_there xs ys l e k = record {
    ends = sym (l.whole ∙ ap (play (p.plays (p.fixed x)) (p.state y)) e ∙ first_part xs ys l.fixed k);
    fixed = k.fixed ∙ l.fixed;
    names = k.names ∙ l.names;
  }

  -- acts after others
  pub plays_then : (xs ys : List Act) {r : Result (Unit {0}) Fault} → Plays p x xs y (Ok tt) → Plays p y ys z r → Plays p x (xs ++ ys) z r
  plays_then xs ys h k = record {
    ends = k.ends ∙ ap (λ (v : p.Fixed). play (p.plays v) (p.state y) ys) h.fixed ∙ ap (and_then (λ t. play (p.plays (p.fixed x)) t ys)) h.ends ∙ sym (play_append (p.plays (p.fixed x)) xs ys (p.state x));
    fixed = k.fixed ∙ h.fixed;
    names = k.names ∙ h.names;
  }

  -- acts after others, where they hang on what no act changes
  pub plays_more : (xs : List Act) (ys : p.Fixed → List Act) {r : Result (Unit {0}) Fault} → Plays p x xs y (Ok tt) → Plays p y (ys (p.fixed y)) z r → Plays p x (xs ++ ys (p.fixed x)) z r
  plays_more xs ys {r} h k = plays_then xs (ys (p.fixed x)) h (subst (λ (v : p.Fixed). Plays p y (ys v) z r) h.fixed k)

-- the same acts, written in another way
pub plays_same : {Self : Type 0} (p : Playing Self) (x y : Self) {xs ys : List Act} {r : Result (Unit {0}) Fault} → xs ≡ ys → Plays p x xs y r → Plays p x ys y r
plays_same p x y {r = r} e k = subst (λ (v : List Act). Plays p x v y r) e k

-- acts that hang on what no act changes, seen from where playing began
pub seen_from : {Self : Type 0} (p : Playing Self) (x y : Self) {z : Self} {r : Result (Unit {0}) Fault} (acts : p.Fixed → List Act) → p.fixed y ≡ p.fixed x → Plays p y (acts (p.fixed y)) z r → Plays p y (acts (p.fixed x)) z r
seen_from p x y {z} {r} acts e k = subst (λ (v : p.Fixed). Plays p y (acts v) z r) e k

-- a part was refused, so what comes after it is not played
pub refused_in : {Self : Type 0} (p : Playing Self) {x y : Self} (xs ys : List Act) {f : Fault} → Plays p x xs y (Err f) → Plays p x (xs ++ ys) y (Err f)
refused_in p {x} xs ys k = record {
  ends = ap (and_then (λ t. play (p.plays (p.fixed x)) t ys)) k.ends ∙ sym (play_append (p.plays (p.fixed x)) xs ys (p.state x));
  fixed = k.fixed;
  names = k.names;
}

-- nothing is left
pub all_played : {Self : Type 0} (p : Playing Self) {x y : Self} {all rest : List Act} → ToPlay p x all y rest → rest ≡ [] → Plays p x all y (Ok tt)
all_played p {x} {y} l e = record {
  ends = sym (l.whole ∙ ap (play (p.plays (p.fixed x)) (p.state y)) e);
  fixed = l.fixed;
  names = l.names;
}

-- all is left, however it is written
pub none_played : {Self : Type 0} (p : Playing Self) (x : Self) {all rest : List Act} → all ≡ rest → ToPlay p x all x rest
none_played p x {all} e = record { whole = ap (play (p.plays (p.fixed x)) (p.state x)) e; fixed = refl; names = refl }
