-- What a writer holds after an error.
use Rattle.std.specs.Prelude.{ℕ, List, ◌<◌, ◌≤◌, ◌*◌, ◌^◌, length, Option}
use Rattle.std.specs.Io.KnownBytes.{Keeps}
use Rattle.columnar_core.specs.Words.{words, store_bytes}
use Rattle.columnar_core.specs.Sent.{AppendsBeginning}
use Rattle.columnar_core.specs.declared.fault.WriteFault.{WriteFault}
use Rattle.columnar_core.specs.declared.fault.WriteFault.TheVariants.{Length, Writer}

-- Length: 64 bits cannot count the bytes, and none was written. Writer: they can, and a beginning of the bytes was
-- written, but not all.
abbrev pub IsLeftBy : {E : Type 0} → Option (List ℕ) → Option (List ℕ) → List (List ℕ) → WriteFault E → Type 0
IsLeftBy old new slices Length = (2 ^ 64 ≤ 8 * length (words slices)) × Keeps old new
IsLeftBy old new slices (Writer e) = (8 * length (words slices) < 2 ^ 64) × AppendsBeginning old new (store_bytes slices)

-- the same for any bytes
abbrev pub IsLeftOf : {E : Type 0} → Option (List ℕ) → Option (List ℕ) → List ℕ → WriteFault E → Type 0
IsLeftOf old new bytes Length = (2 ^ 64 ≤ length bytes) × Keeps old new
IsLeftOf old new bytes (Writer e) = (length bytes < 2 ^ 64) × AppendsBeginning old new bytes
