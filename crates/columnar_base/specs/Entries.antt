-- What the parts of a tuple receive: one entry for each part.
use Rattle.std.specs.Prelude.{ℕ, List, [], ◌∷◌, length, ◌≡◌, ◌≤◌, ◌-◌, take, drop}
use Rattle.columnar_base.specs.Row.{Row}
use Rattle.columnar_base.specs.Format.{Format, Content, slice, both, part, plain, IsSound}
use Rattle.columnar_base.specs.Change.{Copied}
use Rattle.columnar_base.specs.Tuples.{tuples}

-- The rows that a part receives. Rows of a view start at its row `start`. A pushed row is not the front of a view, so
-- its `start` is 1.
pub record Entry : Type 0 where
  pub start : ℕ
  pub rows : List Row

-- one row, pushed
abbrev pub pushed : Row → Entry
pushed r = record { start = 1; rows = r ∷ [] }

-- the rows `start..stop` of a view
abbrev pub piece : Format → Content → ℕ → ℕ → Entry
piece f c start stop = record { start = start; rows = take (stop - start) (drop start (f.rows c)) }

-- the same range of each part
abbrev pub entry_pieces : Format → List Format → Content → ℕ → ℕ → List Entry
entry_pieces a [] c start stop = piece a c start stop ∷ []
entry_pieces a (b ∷ fs) (both x y) start stop = piece a x start stop ∷ entry_pieces b fs y start stop
entry_pieces a (b ∷ fs) (slice bs) start stop = []
entry_pieces a (b ∷ fs) (part l u x) start stop = []
entry_pieces a (b ∷ fs) (plain rs) start stop = []

-- a range of rows of a well-formed view
pub record HasPiece (f : Format) (c : Content) (start stop : ℕ) : Type 0 where
  pub sound : IsSound f c
  pub ordered : start ≤ stop
  pub in_range : stop ≤ length (f.rows c)

-- each part has the range of rows
abbrev pub HavePieces : Format → List Format → Content → ℕ → ℕ → Type 0
HavePieces a [] c start stop = HasPiece a c start stop
HavePieces a (b ∷ fs) (both x y) start stop = HasPiece a x start stop × HavePieces b fs y start stop
HavePieces a (b ∷ fs) c start stop = ⊥

-- equally many rows for each part, from the same start
abbrev pub Level : Entry → List Entry → Type 0
Level p [] = Unit {0}
Level p (q ∷ qs) = (length p.rows ≡ length q.rows) × (p.start ≡ q.start) × Level q qs

-- the entry of the whole tuple
abbrev pub joined_entry : Entry → List Entry → Entry
joined_entry p [] = p
joined_entry p (q ∷ qs) = record { start = p.start; rows = tuples p.rows (joined_entry q qs).rows }

-- Rows that represent those of the entry were appended; a front of a view, copied into an empty column, has equal rows.
abbrev pub Entered : Format → Content → Content → Entry → Type 0
Entered f old new p = Copied f old new p.start p.rows
