-- The only store of slices with zeros between them and nothing after them.
use Rattle.std.specs.Prelude.{ℕ, List, ◌≡◌, ◌<◌, ◌≤◌, length, slice_index}
use Rattle.columnar_core.specs.Bytes.{rounded}
use Rattle.columnar_core.specs.Frame.{Frame, end_of, start_of}

-- the bytes frame the slices, with zeros between them and nothing after them
pub record FramesTightly (bytes : List ℕ) (slices : List (List ℕ)) : Type 0 where
  pub framed : Frame bytes slices
  pub zeros : (i j : ℕ) → i < length slices → end_of bytes i ≤ j → j < rounded (end_of bytes i) → slice_index bytes j ≡ 0
  pub nothing_after : length bytes ≡ start_of bytes (length slices)
