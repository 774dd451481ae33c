use Rattle.std.proofs.Common.{◌∙◌, arith}
use Rattle.columnar_sums.specs.CursorLaws.{stands_place}
use Rattle.columnar_sums.proofs.rank_select.cursor.Cursor.seek_to_rank_tallied.Goals as goal

pub overflow_add-place : goal.overflow_add-place
overflow_add-place g c =
    let f = stands_place c.args.rank c.in-Some.place c.self.invariant c.in-Some.ensures.value (rw (← c.self.view_is) at c.requires) in
    omega (arith, f.0, f.2)

pub seek_to_pos_tallied-requires : goal.seek_to_pos_tallied-requires
seek_to_pos_tallied-requires g c =
    let f = stands_place c.args.rank c.in-Some.place c.self.invariant c.in-Some.ensures.value (rw (← c.self.view_is) at c.requires) in
    rw (← c.self.view_is) (omega (arith, f.1))

pub returns-in-Some-clause-pos : goal.returns-in-Some-clause-pos
returns-in-Some-clause-pos g c =
    let f = stands_place c.args.rank c.in-Some.place c.self.invariant c.in-Some.ensures.value (rw (← c.self.view_is) at c.requires) in
    (rw (← c.self.view_is) at c.seek_to_pos_tallied.ensures.pos) ∙ omega (arith, f.0)
