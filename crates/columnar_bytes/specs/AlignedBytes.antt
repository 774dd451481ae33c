-- The bytes of an encoding, shared.
use Rattle.std.specs.Prelude.{ℕ, List}
use Rattle.std.specs.Rc.{rc_slice_items}
use Rattle.columnar_bytes.specs.declared.stash.aligned.AlignedBytes.{AlignedBytes}

-- the bytes
abbrev pub aligned_bytes : AlignedBytes → List ℕ
aligned_bytes s = rc_slice_items s.shared
