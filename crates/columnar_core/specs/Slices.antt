-- What a slice of a column holds.
use Rattle.std.specs.Prelude.{ℕ, Bool, List}
use Rattle.columnar_core.specs.declared.byte_slice.ByteSlice.{ByteSlice}
use Rattle.columnar_core.specs.SliceBytes.{element_bytes, are_words}

-- the bytes that a slice represents
abbrev pub bytes_in : ByteSlice → List ℕ
bytes_in slice = element_bytes slice.elements

-- the alignment of its elements, in bytes
abbrev pub alignment : ByteSlice → ℕ
alignment slice = slice.align

-- whether it is made of words in memory
abbrev pub has_words : ByteSlice → Bool
has_words slice = are_words slice.elements
