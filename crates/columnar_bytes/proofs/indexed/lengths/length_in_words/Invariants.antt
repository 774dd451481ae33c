use Rattle.std.proofs.Common.{◌≡◌, ◌+◌, ◌<◌, ◌*◌, ◌^◌, length, drop}
use Rattle.columnar_core.specs.Format.{slices_of}
use Rattle.std.specs.List.{flat_map}
use Rattle.columnar_core.specs.Words.{slice_words, words}
use Rattle.columnar_bytes.proofs.indexed.lengths.length_in_words.Given as goal

abbrev pub invariant-loop-i : goal.invariant-loop-i
invariant-loop-i g l = record {
  counted : l.total + length (flat_map slice_words (drop l.i (slices_of (g.S.Column.content l.item)))) ≡ length (words (slices_of (g.S.Column.content l.item)));
  fits : 8 * l.total < 2 ^ 64;
}
