-- Elements that are read from bytes and appended to a `Vec`.
use Rattle.std.proofs.Common.{◌≡◌, ℕ, ◌+◌, List, ◌++◌}
use Rattle.std.specs.List.{flat_map}
use Rattle.columnar_base.specs.Elements.{elements}

-- the old elements, then the elements of these bytes
pub record Appended {T : Type 0} (bytes : T → List ℕ) (old new : List T) (bs : List ℕ) : Type 0 where
  pub fresh : List T
  pub items : new ≡ old ++ fresh
  pub same : flat_map bytes fresh ≡ bs
