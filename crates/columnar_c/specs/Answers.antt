-- The report on a store to a program in C, for the text of a type.
use Rattle.std.specs.Prelude.{ℕ, List, Option, Some, None, ◌≡◌, ◌==◌, ◌↔◌, if◌then◌else◌, length}
use Rattle.columnar_core.specs.Format.{Format}
use Rattle.columnar_core.specs.Faults.{fault_number, fault_slice}
use Rattle.columnar_core.specs.Frame.{framed_slices}
use Rattle.columnar_core.specs.declared.fault.StoreFault.{StoreFault}
use Rattle.columnar_bytes.specs.Accepted.{Accepts, IsFirstFault}
use Rattle.columnar_schema.specs.Formats.{format_of}
use Rattle.columnar_syntax.specs.Names.{Names, a_type}
use Rattle.columnar_syntax.specs.Plain.{type_tokens}
use Rattle.columnar_syntax.specs.Unnamed.{NamesNothing}
use Rattle.columnar_syntax.specs.declared.schema.Bounds.{Bounds}
use Rattle.columnar_syntax.specs.declared.schema.Bounds.TheVariants.{Words, Strides, Unaries}
use Rattle.columnar_syntax.specs.declared.schema.Schema.{Schema}

-- how the ends of the lists of `Vec<T>` are stored
abbrev pub bounds_of : ℕ → Option Bounds
bounds_of n = if n == 0 then Some Words else (if n == 1 then Some Unaries else (if n == 2 then Some Strides else None))

-- The text names this type, with the ends of lists stored as the number says.
pub record IsTypeOf (bounds : ℕ) (text : List ℕ) (schema : Schema) : Type 0 where
  pub lists : Bounds
  pub kept : bounds_of bounds ≡ Some lists
  pub named : Names lists a_type (type_tokens text) schema

-- the text names no type within the limits, with the ends of lists stored as the number says
abbrev pub IsNoType : ℕ → List ℕ → Type 0
IsNoType bounds text = (lists : Bounds) → bounds_of bounds ≡ Some lists → NamesNothing lists text

-- the first rule that the bytes break, and its slice
pub record BreaksFirst (f : Format) (bytes : List ℕ) (rule slice : ℕ) : Type 0 where
  pub fault : StoreFault
  pub first : IsFirstFault f bytes fault
  pub number : rule ≡ fault_number fault
  pub place : slice ≡ fault_slice fault

-- The text names a type. The answer is 0 if and only if the bytes frame a well-formed column of it, else 1, with the
-- first broken rule.
pub record Judged (bounds : ℕ) (text bytes : List ℕ) (answer rule slice : ℕ) : Type 0 where
  pub schema : Schema
  pub named : IsTypeOf bounds text schema
  pub accepted : (answer ≡ 0) ↔ Accepts (format_of schema) bytes
  pub broken : answer ≡ 1 → BreaksFirst (format_of schema) bytes rule slice

-- the same, with the number of rows of an accepted store
pub record Counted (bounds : ℕ) (text bytes : List ℕ) (answer rows rule slice : ℕ) : Type 0 where
  pub judged : Judged bounds text bytes answer rule slice
  pub counted : answer ≡ 0 → rows ≡ length ((format_of judged.schema).rows ((format_of judged.schema).build (framed_slices bytes)))
