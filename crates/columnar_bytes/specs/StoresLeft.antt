-- What remains of an iterator of stores.
use Rattle.std.specs.Prelude.{ℕ, List}
use Rattle.columnar_bytes.specs.Streams.{stores_in, rest_in}
use Rattle.columnar_bytes.specs.declared.indexed.many.Stores.{Stores}

-- the remaining stores
abbrev pub stores_left : Stores → List (List ℕ)
stores_left s = stores_in s.bytes.now

-- the bytes after the last of them
abbrev pub rest_left : Stores → List ℕ
rest_left s = rest_in s.bytes.now
