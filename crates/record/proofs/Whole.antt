-- Tables that mean the same hold the same entries.
use Rattle.std.proofs.Common.{◌≡◌, ℕ, Bool, true, false, List, [], ◌∷◌, map, Decides, sym, refl, ap, ◌∙◌, arith}
use Rattle.std.proofs.lemmas.Bool.{false≢true}
use Rattle.std.proofs.lemmas.Bool.Decides.{Decides-like}
use Rattle.record.specs.Lists.{Lists}
use Rattle.record.specs.Meaning.{label_of, position_of}
use Rattle.record.specs.declared.entry.contents.ContentsEntry.{ContentsEntry}
use Rattle.record.specs.declared.entry.label.LabelEntry.{LabelEntry}
use Rattle.record.specs.Same.{label_by_value, contents_by_value}

pub lists_same : (a b : Lists) → a.labels ≡ b.labels → a.contents ≡ b.contents → a ≡ b
lists_same a b p q = λ i. record { labels = p i; contents = q i }

-- a function that tells values apart tells lists of them apart
map_apart : {X Y : Type 0} (f : X → Y) → ((x y : X) → f x ≡ f y → x ≡ y) → (xs ys : List X) → map f xs ≡ map f ys → xs ≡ ys
map_apart f one [] [] e = refl
map_apart f one [] (y ∷ ys) e = let z : ◌≡◌ {A = ℕ} 0 1 = cc in absurd (omega arith)
map_apart f one (x ∷ xs) [] e = let z : ◌≡◌ {A = ℕ} 0 1 = cc in absurd (omega arith)
map_apart f one (x ∷ xs) (y ∷ ys) e =
    let h : f x ≡ f y = cc in
    let t : map f xs ≡ map f ys = cc in
    λ i. one x y h i ∷ map_apart f one xs ys t i

-- a test of two lists is a test of what their elements mean, where that tells them apart
decides_mapped : {X Y : Type 0} (f : X → Y) → ((x y : X) → f x ≡ f y → x ≡ y) → (xs ys : List X) (r : Bool) → Decides r (xs ≡ ys) → Decides r (map f xs ≡ map f ys)
decides_mapped f one xs ys r d = Decides-like r (ap (map f)) (map_apart f one xs ys) d

pub decides_labels : (xs ys : List LabelEntry) (r : Bool) → Decides r (xs ≡ ys) → Decides r (map label_of xs ≡ map label_of ys)
decides_labels = decides_mapped label_of label_by_value

pub decides_contents : (xs ys : List ContentsEntry) (r : Bool) → Decides r (xs ≡ ys) → Decides r (map position_of xs ≡ map position_of ys)
decides_contents = decides_mapped position_of contents_by_value

-- the same test of the same lists under other names
pub decides_lists : {X : Type 0} {a b p q : List X} {r : Bool} → a ≡ p → b ≡ q → Decides r (a ≡ b) → Decides r (p ≡ q)
decides_lists e f d = (λ t. sym e ∙ d.0 t ∙ f, λ s. d.1 (e ∙ s ∙ sym f))

-- two lists are tested one after the other
module _ (a b : Lists) (r : Bool) (d : Decides r (a.labels ≡ b.labels)) where
  pub decides_both : (s : Bool) → r ≡ true → Decides s (a.contents ≡ b.contents) → Decides s (a ≡ b)
  decides_both s t e = (λ u. lists_same a b (d.0 t) (e.0 u), λ w. e.1 (ap (λ l. l.contents) w))

  pub decides_first : r ≡ false → Decides r (a ≡ b)
  decides_first f = (λ t. absurd (false≢true (sym f ∙ t)), λ w. d.1 (ap (λ l. l.labels) w))
