-- Why bytes are not a store of a type, or not only that store.
use Rattle.std.specs.Prelude.{ℕ, List, ◌≡◌, ◌<◌, length}
use Rattle.columnar_core.specs.Format.{Format}
use Rattle.columnar_bytes.specs.Accepted.{Accepts, IsFirstFault}
use Rattle.columnar_bytes.specs.Streams.{store_end}
use Rattle.columnar_bytes.specs.declared.stash.exact.ExactFault.{ExactFault}
use Rattle.columnar_bytes.specs.declared.stash.exact.ExactFault.TheVariants.{Store, After}

-- the first broken rule of bytes that are not accepted; or the end of the last slice of accepted bytes that continue
abbrev pub IsExactFault : Format → List ℕ → ExactFault → Type 0
IsExactFault f bytes (Store e) = (Accepts f bytes → ⊥) × IsFirstFault f bytes e
IsExactFault f bytes (After n) = Accepts f bytes × (n ≡ store_end bytes) × (n < length bytes)
