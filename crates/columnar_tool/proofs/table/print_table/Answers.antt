use Rattle.std.proofs.Common.{ℕ, List, ◌++◌, ◌-◌, length}
use Rattle.std.specs.Prelude.{Err, Ok, OnErr, OnOk, Option, Result}
use Rattle.std.specs.Io.KnownBytes.{Appends}
use Rattle.columnar_core.specs.Frame.{start_of}
use Rattle.columnar_core.specs.Sent.{AppendsBeginning}
use Rattle.columnar_core.specs.SentLaws.{appends_both}
use Rattle.columnar_tool.specs.TableLaws.{began_last, began_more, began_part, if_fails}
use Rattle.columnar_tool.specs.Tables.{head_text, rows_text, tail_text}
use Rattle.columnar_tool.specs.Told.{Began}
use Rattle.columnar_tool.proofs.table.print_table.Goals as goal

-- three texts, one after the other
three_printed : {A E : Type 0} (r : Result A E) (old first second new : Option (List ℕ)) (a b c : List ℕ) → Appends old first a → Appends first second b → OnOk r (Appends second new c) → OnOk r (Appends old new (a ++ (b ++ c)))
three_printed (Ok x) old first second new a b c p q w = appends_both old first new a (b ++ c) p (appends_both first second new b c q w)
three_printed (Err e) old first second new a b c p q w = w

-- the third was begun
third_begun : {A E : Type 0} (r : Result A E) (old first second new : Option (List ℕ)) (a b c : List ℕ) → Appends old first a → Appends first second b → OnErr r (AppendsBeginning second new c) → OnErr r (Began old new (a ++ (b ++ c)))
third_begun (Ok x) old first second new a b c p q w = w
third_begun (Err e) old first second new a b c p q w = began_last old first new a (b ++ c) p (began_last first second new b c q (began_part second new c w))

pub returns-clause-printed : goal.returns-clause-printed
returns-clause-printed g c = rw c.requires.count (three_printed c.put-2.result (g.O.WriteBytes.contents c.args.out.now) (g.O.WriteBytes.contents c.put.new.out) (g.O.WriteBytes.contents c.print_rows.new.out) (g.O.WriteBytes.contents c.put-2.new.out) (head_text (length c.args.bytes.now) c.args.count) (rows_text c.args.bytes.now c.args.count) (tail_text (length c.args.bytes.now - start_of c.args.bytes.now c.args.count)) (rw (c.as_bytes.ensures.value, c.in_ok-first.ensures) at c.in_ok-put.ensures.printed) c.in_ok-print_rows.ensures.printed (rw (c.as_bytes-2.ensures.value, c.in_ok-last.ensures, c.rest_of.ensures) at c.put-2.ensures.printed))

pub returns-clause-begun : goal.returns-clause-begun
returns-clause-begun g c = rw c.requires.count (third_begun c.put-2.result (g.O.WriteBytes.contents c.args.out.now) (g.O.WriteBytes.contents c.put.new.out) (g.O.WriteBytes.contents c.print_rows.new.out) (g.O.WriteBytes.contents c.put-2.new.out) (head_text (length c.args.bytes.now) c.args.count) (rows_text c.args.bytes.now c.args.count) (tail_text (length c.args.bytes.now - start_of c.args.bytes.now c.args.count)) (rw (c.as_bytes.ensures.value, c.in_ok-first.ensures) at c.in_ok-put.ensures.printed) c.in_ok-print_rows.ensures.printed (rw (c.as_bytes-2.ensures.value, c.in_ok-last.ensures, c.rest_of.ensures) at c.put-2.ensures.begun))

pub returns-in_err-put-clause-begun : goal.returns-in_err-put-clause-begun
returns-in_err-put-clause-begun g c = if_fails c.from_residual-in_err-put.result (rw c.requires.count (began_more (g.O.WriteBytes.contents c.args.out.now) (g.O.WriteBytes.contents c.put.new.out) (head_text (length c.args.bytes.now) c.args.count) (rows_text c.args.bytes.now c.args.count ++ tail_text (length c.args.bytes.now - start_of c.args.bytes.now c.args.count)) (began_part (g.O.WriteBytes.contents c.args.out.now) (g.O.WriteBytes.contents c.put.new.out) (head_text (length c.args.bytes.now) c.args.count) (rw (c.as_bytes.ensures.value, c.in_ok-first.ensures) at c.in_err-put.ensures.begun))))

pub returns-in_err-print_rows-clause-begun : goal.returns-in_err-print_rows-clause-begun
returns-in_err-print_rows-clause-begun g c = if_fails c.from_residual-in_err-print_rows.result (rw c.requires.count (began_last (g.O.WriteBytes.contents c.args.out.now) (g.O.WriteBytes.contents c.put.new.out) (g.O.WriteBytes.contents c.print_rows.new.out) (head_text (length c.args.bytes.now) c.args.count) (rows_text c.args.bytes.now c.args.count ++ tail_text (length c.args.bytes.now - start_of c.args.bytes.now c.args.count)) (rw (c.as_bytes.ensures.value, c.in_ok-first.ensures) at c.in_ok-put.ensures.printed) (began_more (g.O.WriteBytes.contents c.put.new.out) (g.O.WriteBytes.contents c.print_rows.new.out) (rows_text c.args.bytes.now c.args.count) (tail_text (length c.args.bytes.now - start_of c.args.bytes.now c.args.count)) c.in_err-print_rows.ensures.begun)))
