use Rattle.std.proofs.Common.{◌∙◌, ◌/◌, ap, sym, length, List, ℕ}
use Rattle.columnar_base.specs.WordViews.{bytes_of, view_bytes}
use Rattle.columnar_base.specs.WordViewLaws.{typed_count, length-words_in}
use Rattle.columnar_base.proofs.words.word_count.Goals as goal

pub returns-in-Typed-clause-count : goal.returns-in-Typed-clause-count
returns-in-Typed-clause-count c = typed_count c.in-Typed.items.now (view_bytes c.args.view) (ap bytes_of c.in-Typed.ensures)

pub returns-in-Bytes-clause-count : goal.returns-in-Bytes-clause-count
returns-in-Bytes-clause-count c = ap (λ (bs : List ℕ). length bs / 8) (ap bytes_of c.in-Bytes.ensures) ∙ sym (length-words_in (view_bytes c.args.view))
