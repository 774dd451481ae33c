use Rattle.std.proofs.Common.{◌<◌, ℕ, List, length, arith}
use Rattle.columnar_bits.specs.BoolColumns.{bits_in}
use Rattle.columnar_bits.specs.BoolLaws.{bits_length}
use Rattle.columnar_sums.specs.RankLaws.{length-ranks}
use Rattle.columnar_sums.specs.CursorLaws.{stands_words, stands_stepped}
use Rattle.columnar_sums.proofs.rank_select.cursor.Cursor.step_tallied.Goals as goal

pub step_in-bit-requires-clause-in_range : goal.step_in-bit-requires-clause-in_range
step_in-bit-requires-clause-in_range g c =
    let a : List ℕ = g.VC.Words.bytes c.self.inside.column.now.values.values in
    let b : List ℕ = g.WC.Words.bytes c.self.inside.column.now.values.tail in
    omega (arith, (stands_words c.self.invariant c.metered_words.ensures).3, c.self.invariant.inside, c.if-place-len.false, c.len.ensures, length-ranks a b, bits_length a b)

pub step_in-bit-requires-clause-fits : goal.step_in-bit-requires-clause-fits
step_in-bit-requires-clause-fits g c =
    let a : List ℕ = g.VC.Words.bytes c.self.inside.column.now.values.values in
    let b : List ℕ = g.WC.Words.bytes c.self.inside.column.now.values.tail in
    omega (arith, c.self.invariant.inside, c.if-place-len.false, c.len.ensures, c.len.type_inv, length-ranks a b, bits_length a b)

pub overflow_add-self : goal.overflow_add-self
overflow_add-self g c =
    let a : List ℕ = g.VC.Words.bytes c.self.inside.column.now.values.values in
    let b : List ℕ = g.WC.Words.bytes c.self.inside.column.now.values.tail in
    let l : c.self.inside.place.pos < length (bits_in a b) = omega (arith, c.self.invariant.inside, c.if-place-len.false, c.len.ensures, length-ranks a b, bits_length a b) in
    omega (arith, (stands_stepped c.self.invariant c.metered_words.ensures l c.step_in-bit.ensures.at c.step_in-bit.ensures.floor c.step_in-bit.ensures.value c.step_in-bit.ensures.pos c.one_of.ensures.value).fits)

pub invariant_of-self : goal.invariant_of-self
invariant_of-self g c =
    let a : List ℕ = g.VC.Words.bytes c.self.inside.column.now.values.values in
    let b : List ℕ = g.WC.Words.bytes c.self.inside.column.now.values.tail in
    let l : c.self.inside.place.pos < length (bits_in a b) = omega (arith, c.self.invariant.inside, c.if-place-len.false, c.len.ensures, length-ranks a b, bits_length a b) in
    (stands_stepped c.self.invariant c.metered_words.ensures l c.step_in-bit.ensures.at c.step_in-bit.ensures.floor c.step_in-bit.ensures.value c.step_in-bit.ensures.pos c.one_of.ensures.value).stands

pub returns-clause-answer : goal.returns-clause-answer
returns-clause-answer g c =
    let a : List ℕ = g.VC.Words.bytes c.self.inside.column.now.values.values in
    let b : List ℕ = g.WC.Words.bytes c.self.inside.column.now.values.tail in
    let l : c.self.inside.place.pos < length (bits_in a b) = omega (arith, c.self.invariant.inside, c.if-place-len.false, c.len.ensures, length-ranks a b, bits_length a b) in
    rw (← c.self.view_is) (l, (stands_stepped c.self.invariant c.metered_words.ensures l c.step_in-bit.ensures.at c.step_in-bit.ensures.floor c.step_in-bit.ensures.value c.step_in-bit.ensures.pos c.one_of.ensures.value).value, c.step_in-bit.ensures.pos)
