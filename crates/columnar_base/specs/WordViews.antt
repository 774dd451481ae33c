-- Words of 64 bits, stored as little-endian bytes.
use Rattle.std.specs.Prelude.{ℕ, List, [], ◌∷◌, ◌++◌, ◌*◌, ◌/◌, length, map, drop, slice_index}
use Rattle.std.specs.List.{flat_map}
use Rattle.std.specs.Int.{to_le_bytes, from_le_bytes, w64}
use Rattle.columnar_base.specs.declared.view.View.{View}
use Rattle.columnar_base.specs.Format.{Content, slice, both, part, plain}
use Rattle.columnar_base.specs.Elements.{pieces}
use Rattle.columnar_base.specs.Views.{items_content}

-- word i of a store: the number of the eight bytes from 8 * i on, lowest first; bytes past the end count as zeros
unfoldable pub word : List ℕ → ℕ → ℕ
word bytes i = from_le_bytes w64 (drop (8 * i) bytes)

-- the whole words of the bytes, eight bytes each
unfoldable pub words_in : List ℕ → List ℕ
words_in bs = map (from_le_bytes w64) (pieces 8 (length bs / 8) bs)

-- the bytes of words, lowest first
abbrev pub le_bytes : List ℕ → List ℕ
le_bytes xs = flat_map (to_le_bytes w64) xs

-- the bytes of a slice
abbrev pub bytes_of : Content → List ℕ
bytes_of (slice bs) = bs
bytes_of (both x y) = []
bytes_of (part l u x) = []
bytes_of (plain rs) = []

-- the bytes of the words of a view
abbrev pub view_bytes : View ℕ → List ℕ
view_bytes v = bytes_of (items_content (to_le_bytes w64) v.items)

-- the words of a view
abbrev pub view_words : View ℕ → List ℕ
view_words v = words_in (view_bytes v)

-- the words of bits: those of the first view, then the first word of the tail
abbrev pub bit_words : List ℕ → List ℕ → List ℕ
bit_words values tail = words_in values ++ slice_index (words_in tail) 0 ∷ []
