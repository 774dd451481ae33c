use Rattle.std.proofs.Common.{◌∙◌, ◌≤◌, ap, arith, length, length-take, map, ℕ}
use Rattle.std.proofs.lemmas.List.{length-map}
use Rattle.columnar_core.specs.Row.{truth}
use Rattle.columnar_core.specs.WordViews.{le_bytes}
use Rattle.columnar_bits.specs.Bits.{bit}
use Rattle.std.specs.Vec.{vec_capacity}
use Rattle.columnar_bits.specs.BoolColumns.{bools_format, bits_in, owned_content, owned_bits}
use Rattle.columnar_bits.specs.Rooms.{bits_top}
use Rattle.columnar_bits.specs.RoomLaws.{bits_freed}
use Rattle.columnar_bits.specs.BoolLaws.{bools_parts, two_words, word_there, owned_cut}
use Rattle.columnar_bits.proofs.bools.BoolsVecU64ArrayU642Truncate.truncate.Goals as goal

pub word_or_tail-requires-clause-tail : goal.word_or_tail-requires-clause-tail
word_or_tail-requires-clause-tail c = rw c.words-2.ensures (omega (arith, two_words (bools_parts c.requires.sound)))

pub word_or_tail-requires-clause-in_range : goal.word_or_tail-requires-clause-in_range
word_or_tail-requires-clause-in_range c =
    let l : c.args.n ≤ length (bits_in (le_bytes c.args.self.now.values.items) (le_bytes c.args.self.now.tail)) = omega (arith, c.requires.in_range, length-map (bits_in (le_bytes c.args.self.now.values.items) (le_bytes c.args.self.now.tail)) truth) in
    rw (c.words.ensures, c.words-2.ensures) (word_there c.args.n (bools_parts c.requires.sound) l)

pub returns-clause-cut : goal.returns-clause-cut
returns-clause-cut c = owned_cut c.args.self.now.values.items c.truncate.new.self.items c.args.self.now.tail c.tail_of-self.result c.requires.sound c.truncate.ensures.items c.tail_of-self.ensures c.requires.in_range c.low_bits-word.ensures.below
    (λ j l. c.low_bits-word.ensures.same j l ∙ ap (λ (x : ℕ). bit x j) (rw (c.words.ensures, c.words-2.ensures) at c.word_or_tail.ensures))

pub returns-clause-freed : goal.returns-clause-freed
returns-clause-freed c =
    let k = owned_cut c.args.self.now.values.items c.truncate.new.self.items c.args.self.now.tail c.tail_of-self.result c.requires.sound c.truncate.ensures.items c.tail_of-self.ensures c.requires.in_range c.low_bits-word.ensures.below
    (λ j l. c.low_bits-word.ensures.same j l ∙ ap (λ (x : ℕ). bit x j) (rw (c.words.ensures, c.words-2.ensures) at c.word_or_tail.ensures)) in
    let l = length-map (owned_bits c.args.self.now) truth in
    let m = length-map (bits_in (le_bytes c.truncate.new.self.items) (le_bytes c.tail_of-self.result)) truth in
    let n = length-take c.args.n (map truth (owned_bits c.args.self.now)) in
    let e = ap length k.rows in
    bits_freed bools_format (owned_content c.args.self.now) c.args.n (length (owned_bits c.args.self.now)) _ (bits_top (vec_capacity c.args.self.now.values)) (bits_top (vec_capacity c.truncate.new.self)) l (omega (arith, l, c.requires.in_range)) (omega (arith, m, e, n, c.requires.in_range)) (omega (arith, c.truncate.ensures.capacity))
