-- Formats of two parts, one after the other: how the tests of the parts test the whole.
use Rattle.std.proofs.Common.{◌≡◌, ℕ, ◌+◌, Bool, true, List, [], ◌++◌, drop}
use Rattle.columnar_base.specs.Format.{Format, Content, both, two_broken, IsSound, Fault, moved}

-- a content of two parts
pub record IsBoth (c : Content) : Type 0 where
  pub left : Content
  pub right : Content
  pub is : c ≡ both left right

-- a format of two parts, one after the other, with its own rule over both
pub record TwoParts (f a b : Format) (test : Content → Content → Bool) (rule : ℕ) : Type 0 where
  pub count : f.count ≡ a.count + b.count
  pub sizes : f.sizes ≡ a.sizes ++ b.sizes
  pub aligns : f.aligns ≡ a.aligns ++ b.aligns
  pub build : (ss : List (List ℕ)) → f.build ss ≡ both (a.build ss) (b.build (drop a.count ss))
  pub broken : (c : Content) → f.broken c ≡ two_broken a b test rule c

-- the soundness of both parts, and the own rule
pub record SoundTwo (a b : Format) (x y : Content) (test : Bool) : Type 0 where
  pub left : IsSound a x
  pub right : IsSound b y
  pub own : test ≡ true

abbrev pub no_slices : List (List ℕ)
no_slices = []

-- the rules that both parts break, with slices counted from `o`
abbrev pub both_broken : Format → Format → Content → Content → ℕ → List Fault
both_broken a b x y o = moved o (a.broken x) ++ moved (o + a.count) (b.broken y)
