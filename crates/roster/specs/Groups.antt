-- Groups: one value, or a team of values.
use Rattle.std.specs.Prelude.{ℕ, Bool, nat_eq, ◌&&◌, ◌||◌}
use Rattle.std.proofs.Common.{Vec, Global}
use Rattle.columnar.specs.Row.{Row}
use Rattle.columnar.specs.Owned.{Unfit}
use Rattle.columnar.specs.Variants.{case, of_variant}
use Rattle.roster.specs.declared.group.Group.{Group}
use Rattle.roster.specs.declared.group.Group.TheVariants.{Solo, Team}
use Rattle.roster.specs.declared.group.GroupReference.{GroupReference}
use Rattle.roster.specs.declared.group.GroupReference.TheVariants.{Solo as SoloRow, Team as TeamRow}

-- the row of a group
abbrev pub group_row : {T : Type 0} → (T → Row) → (Vec T Global → Row) → Group T → Row
group_row one many (Solo x) = case 0 (one x)
group_row one many (Team v) = case 1 (many v)

abbrev pub group_valid : {T : Type 0} → (T → Type 0) → (Vec T Global → Type 0) → Group T → Type 0
group_valid one many (Solo x) = one x
group_valid one many (Team v) = many v

-- the row of a reference
abbrev pub reference_row : {S T : Type 0} → (S → Row) → (T → Row) → GroupReference S T → Row
reference_row one many (SoloRow x) = case 0 (one x)
reference_row one many (TeamRow v) = case 1 (many v)

abbrev pub reference_valid : {S T : Type 0} → (S → Type 0) → (T → Type 0) → GroupReference S T → Type 0
reference_valid one many (SoloRow x) = one x
reference_valid one many (TeamRow v) = many v

-- the row has no group
abbrev pub group_unfit : (Unfit → Row → Bool) → (Unfit → Row → Bool) → Unfit → Row → Bool
group_unfit one many u r = of_variant 0 (one u) r || of_variant 1 (many u) r
