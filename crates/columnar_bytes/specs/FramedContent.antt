-- The content of accepted slices.
use Rattle.std.proofs.Common.{replicate}
use Rattle.columnar_core.specs.Format.{Format, Content}
use Rattle.columnar_core.specs.Store.{slices_in}
use Rattle.columnar_core.specs.declared.traits.Column.{Ghosts as ColumnOf}
use Rattle.columnar_bytes.specs.declared.stash.framed.Framed.{Framed}

-- the content of the slices
abbrev pub framed_content : {C : Type 0} {column : ColumnOf C} → Framed C column → Content
framed_content {C} {column} k = column.format.build (slices_in k.store)

-- Bytes that are read in place have alignment 1; apart from that the format is that of the type.
abbrev pub byte_format : Format → Format
byte_format f = record f { aligns = replicate f.count 1 }
