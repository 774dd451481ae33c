-- Numbers in bytes.
use Rattle.std.specs.Prelude.{ℕ, List, ◌+◌, ◌*◌, ◌/◌, ◌<◌, slice_index}
use Rattle.std.specs.Int.{to_le_bytes, w64}
unfoldable pub use Rattle.columnar_base.specs.WordViews.{word}
pub use Rattle.columnar_base.specs.WordViews.{le_bytes}

-- the least multiple of eight that is not below n
abbrev pub rounded : ℕ → ℕ
rounded n = 8 * ((n + 7) / 8)

-- the eight bytes of a word, lowest first
unfoldable pub word_bytes : ℕ → List ℕ
word_bytes n = to_le_bytes w64 n

-- each is a byte
abbrev pub AreBytes : List ℕ → Type 0
AreBytes bs = (i : ℕ) → slice_index bs i < 256
