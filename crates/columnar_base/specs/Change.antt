-- The effects of growth, of a refusal and of a cut.
use Rattle.std.specs.Prelude.{ℕ, true, List, [], ◌++◌, length, ◌≡◌, ◌≤◌, ◌<◌, ◌+◌, take}
use Rattle.columnar_base.specs.Row.{Row}
use Rattle.columnar_base.specs.Format.{Format, Content, IsSound, lengths, all_alike, Excess, too_many, misplaced, refuses_more}
use Rattle.columnar_base.specs.declared.fault.GrowError.{GrowError}
use Rattle.columnar_base.specs.declared.fault.GrowError.TheVariants.{Memory, Length, Offset, Format as FormatError}

-- At each n up to `top` rows, both contents have the same lengths of all parts, and refuse the same rows.
pub record Keeps (f : Format) (old new : Content) (top : ℕ) : Type 0 where
  pub extents : (n : ℕ) → n ≤ top → f.extent new n ≡ f.extent old n
  pub limits : (n : ℕ) → n ≤ top → (e : Excess) (rs : List Row) → f.refuses e new n rs ≡ f.refuses e old n rs

-- the old rows, then the rows `added`
pub record Grew (f : Format) (old new : Content) (added : List Row) : Type 0 where
  pub sound : IsSound f new
  pub rows : f.rows new ≡ f.rows old ++ added
  pub kept : Keeps f old new (length (f.rows old))

-- The rows and the lengths of all parts are as before.
pub record Stayed (f : Format) (old new : Content) : Type 0 where
  pub sound : IsSound f new
  pub rows : f.rows new ≡ f.rows old
  pub lengths_same : lengths new ≡ lengths old
  pub kept : Keeps f old new (length (f.rows old))

-- Only the first n rows are left, and the lengths of all parts are those that n rows have.
pub record WasCut (f : Format) (old new : Content) (n : ℕ) : Type 0 where
  pub sound : IsSound f new
  pub rows : f.rows new ≡ take n (f.rows old)
  pub lengths_cut : lengths new ≡ f.extent old n
  pub kept : Keeps f old new n

-- The old rows, then rows that represent `added`, one each and in order. What the new column refuses, the old one
-- refused after the added rows.
pub record Took (f : Format) (old new : Content) (added : List Row) : Type 0 where
  pub fresh : List Row
  pub grew : Grew f old new fresh
  pub alike : all_alike f.alike fresh added ≡ true
  pub adds : (e : Excess) (rs : List Row) → refuses_more f e new rs ≡ true → refuses_more f e old (added ++ rs) ≡ true

-- `Took`; and a front of a view, copied into an empty column, has equal rows.
pub record Copied (f : Format) (old new : Content) (start : ℕ) (added : List Row) : Type 0 where
  pub took : Took f old new added
  pub front : f.rows old ≡ [] → start ≡ 0 → f.rows new ≡ added

-- The error has a true cause. Length: there are too many rows at some part. Offset: some offset is misplaced. Memory
-- has no cause that a contract can state, and no growth returns Format.
abbrev pub IsTrueOf : GrowError → Format → Content → List Row → Type 0
IsTrueOf Memory f c rs = Unit {0}
IsTrueOf Length f c rs = refuses_more f too_many c rs ≡ true
IsTrueOf Offset f c rs = refuses_more f misplaced c rs ≡ true
IsTrueOf FormatError f c rs = ⊥

-- A refused growth: nothing changed, and the error has a true cause.
pub record Refused (f : Format) (old new : Content) (added : List Row) (error : GrowError) : Type 0 where
  pub stayed : Stayed f old new
  pub cause : IsTrueOf error f old added

-- The items before item `count` were taken one by one; item `count`, the last one, was refused.
pub record StoppedAt (f : Format) (old new : Content) (items : List Row) (error : GrowError) : Type 0 where
  pub count : ℕ
  pub last : count + 1 ≡ length items
  pub took : Took f old new (take count items)
  pub cause : IsTrueOf error f old (take (count + 1) items)
