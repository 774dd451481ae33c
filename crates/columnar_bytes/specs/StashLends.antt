-- The stash after what it lent has been returned.
use Rattle.std.specs.Borrow.{Fml, RattleType, MutBor, LendsIfOk, follows_so}
use Rattle.std.specs.Prelude.{Result, ⊤}
use mathlib.Core.Option.{none}
use Rattle.columnar_core.specs.declared.traits.Column.{Ghosts as ColumnOf}
use Rattle.columnar_bytes.specs.declared.stash.ByteStore.{Ghosts as BytesOf}
use Rattle.columnar_bytes.specs.declared.stash.Stash.{Stash}
use Rattle.columnar_bytes.specs.declared.stash.Stash.TheVariants.{Typed}
use Rattle.columnar_bytes.specs.contracts.stash.Stash.{the_row}

module _ (C B : RattleType) (column : ColumnOf C.Denot) (store : BytesOf B.Denot) (s : MutBor (Stash C.Denot B.Denot column store)) where
  -- the stash holds the column as the caller left it; if no column was lent, it is unchanged
  abbrev pub lends_typed : {E : Type 0} → Result (MutBor C.Denot) E → Fml
  lends_typed r = LendsIfOk (the_row C B column store) C s r Typed s.now

  -- P holds of the stash after what it lent for reading has been returned
  abbrev pub ends_as : (Stash C.Denot B.Denot column store → Type 0) → Fml
  ends_as P = follows_so (the_row C B column store) (the_row C B column store) s.ghost_name none (λ _ _. ⊤) P
