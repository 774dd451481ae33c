use Rattle.std.proofs.Common.{◌<◌, ◌≡◌, length, refl, sym}
use Rattle.std.specs.Prelude.{slice_get, Some}
use Rattle.std.proofs.lemmas.Option.{slice_get-get_or}
use Rattle.columnar_base.specs.ElementLaws.{length-typed, row_typed}
use Rattle.columnar_cells.specs.WroteLaws.{elements_wrote}
use Rattle.columnar_cells.proofs.lent.VecValueMut.value_mut.Goals as goal

pub index_mut-requires : goal.index_mut-requires
index_mut-requires g c = rw (c.args.self.now.ok.0, sym (length-typed g.met.T.Element.element c.args.self.now.items)) c.requires.in_range

pub returns : goal.returns
returns g c =
    let e = g.met.T.Element.element in
    let xs = c.args.self.now.items in
    let i = c.args.index in
    let x = c.index_mut.result.now in
    let l : i < length xs = rw (length-typed e xs) at c.requires.in_range in
    let h : slice_get xs i ≡ Some x = rw (sym c.index_mut.ensures.value) at (slice_get-get_or xs i x l) in
    ((refl, λ w. refl), record { writes_back = tt; value = h; shows = row_typed e xs i x h; leaves = λ w. elements_wrote e xs i w })
