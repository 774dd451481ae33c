use Rattle.std.proofs.Common.{◌≡◌, rules, false, true}
use Rattle.std.specs.Prelude.{codes}
use Rattle.columnar_tool.specs.Flags.{reads}
use Rattle.columnar_tool.specs.UseLaws.{make_two, slices_two}
use Rattle.columnar_tool.proofs.cli.two_words.Goals as goal

pub returns-in-slices : goal.returns-in-slices
returns-in-slices g c =
    let h : reads c.args.verb.now (codes "slices") ≡ true = search rules in
    slices_two c.args.verb.now c.args.word.now c.as_str-in-slices.result.now (g.I.Read.remaining c.args.input.now) c.list_slices.result (g.O.Write.contents c.args.out.now) (g.O.Write.contents c.list_slices.new.out) h c.as_str-in-slices.ensures.value c.list_slices.ensures

pub returns-in-make : goal.returns-in-make
returns-in-make g c =
    let h : reads c.args.verb.now (codes "slices") ≡ false = search rules in
    let k : reads c.args.verb.now (codes "table") ≡ false = search rules in
    let m : reads c.args.verb.now (codes "make") ≡ true = search rules in
    make_two c.args.verb.now c.args.word.now c.as_str-in-make.result.now (g.I.Read.remaining c.args.input.now) c.make_of_text.result (g.O.Write.contents c.args.out.now) (g.O.Write.contents c.make_of_text.new.out) h k m c.as_str-in-make.ensures.value c.make_of_text.ensures
