-- A range of rows is well-formed if and only if its column is and has these rows.
use Rattle.std.proofs.Common.{ℕ, ◌≤◌, ◌&&◌, List, length, arith}
use Rattle.std.specs.Prelude.{nat_le}
use Rattle.std.proofs.lemmas.Bool.{and_parts, and_from, leb-true, le-leb}
use Rattle.columnar_base.specs.Row.{Row}
use Rattle.columnar_base.specs.Elements.{elements, elements_format, IsElement}
use Rattle.columnar_base.specs.ElementLaws.{length-typed}
use Rattle.columnar_base.specs.Format.{Format, Content, part, part_format, IsSound, unless, fault}
use Rattle.columnar_base.specs.FaultLaws.{nothing_left, nothing_both, unless_true, true_unless}

-- a range within the rows is sound
pub piece_from : (f : Format) {l u : ℕ} {c : Content} → IsSound f c → l ≤ u → u ≤ length (f.rows c) → IsSound (part_format f) (part l u c)
piece_from f {l} {u} {c} s a b = record { accepted = nothing_both (f.broken c) (unless (nat_le l u && nat_le u (length (f.rows c))) (fault 11 0)) s.accepted (true_unless (nat_le l u && nat_le u (length (f.rows c))) (fault 11 0) (and_from _ _ (le-leb l u a) (le-leb u (length (f.rows c)) b))) }

-- the soundness of the column, and that it has the range
pub record SoundPiece (f : Format) (l u : ℕ) (c : Content) : Type 0 where
  pub whole : IsSound f c
  pub ordered : l ≤ u
  pub within : u ≤ length (f.rows c)

pub piece_parts : (f : Format) {l u : ℕ} {c : Content} → IsSound (part_format f) (part l u c) → SoundPiece f l u c
piece_parts f {l} {u} {c} s =
    let p = nothing_left (f.broken c) (unless (nat_le l u && nat_le u (length (f.rows c))) (fault 11 0)) s.accepted in
    let q = and_parts (nat_le l u) (nat_le u (length (f.rows c))) (unless_true (nat_le l u && nat_le u (length (f.rows c))) (fault 11 0) p.1) in
    record { whole = record { accepted = p.0 }; ordered = leb-true l u q.0; within = leb-true u (length (f.rows c)) q.1 }

-- a range of the elements of a slice lies in the slice
pub piece_typed : {T : Type 0} {size l u : ℕ} {bytes : T → List ℕ} {row_of : List ℕ → Row} {meaning : T → Row} (align : ℕ) → IsElement size bytes row_of meaning → (xs : List T) → IsSound (part_format (elements_format size align row_of)) (part l u (elements bytes xs)) → (l ≤ u) × (l ≤ length xs) × (u ≤ length xs)
piece_typed {size = size} {l} {u} {row_of = row_of} align e xs s =
    let p = piece_parts (elements_format size align row_of) s in
    let w : u ≤ length xs = rw (length-typed e xs) at p.within in
    (p.ordered, omega (arith, p.ordered, w), w)
