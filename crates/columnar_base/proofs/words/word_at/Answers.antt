use Rattle.std.proofs.Common.{◌∙◌, ◌<◌, ◌*◌, ap, sym, length, List, ℕ, arith, take, drop}
use Rattle.columnar_base.specs.WordViews.{bytes_of, view_bytes}
use Rattle.columnar_base.specs.WordViewLaws.{typed_count, typed_word, word_within, word_of_bytes}
use Rattle.columnar_base.proofs.words.word_at.Goals as goal

pub element_at-requires : goal.element_at-requires
element_at-requires c = omega (arith, c.requires, typed_count c.in-Typed.items.now (view_bytes c.args.view) (ap bytes_of c.in-Typed.ensures))

pub element_in-requires : goal.element_in-requires
element_in-requires c = omega (arith, word_within (view_bytes c.args.view) c.args.index c.requires, ap length (ap bytes_of c.in-Bytes.ensures))

pub returns-in-Typed : goal.returns-in-Typed
returns-in-Typed c =
    let e = ap bytes_of c.in-Typed.ensures in
    let l : c.args.index < length c.in-Typed.items.now = omega (arith, c.requires, typed_count c.in-Typed.items.now (view_bytes c.args.view) e) in
    typed_word c.in-Typed.items.now (view_bytes c.args.view) c.args.index c.element_at.result e c.element_at.ensures l c.element_at.type_inv

pub returns-in-Bytes : goal.returns-in-Bytes
returns-in-Bytes c =
    let e = ap bytes_of c.in-Bytes.ensures in
    sym (word_of_bytes (view_bytes c.args.view) c.args.index c.element_in.result c.requires c.element_in.type_inv
    (c.element_in.ensures ∙ ap (λ (bs : List ℕ). take 8 (drop (8 * c.args.index) bs)) e))
