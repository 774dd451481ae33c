use Rattle.std.proofs.Common.{[], ap, sym, ◌∙◌, arith, length}
use Rattle.std.proofs.lemmas.Bool.{ltb-true, ltb-false}
use Rattle.std.proofs.lemmas.List.{nil_from_length}
use Rattle.columnar_sums.specs.Discriminants.{earlier}
use Rattle.columnar_sums.specs.DiscriminantLaws.{forms_parts}
use Rattle.columnar_sums.specs.FormLaws.{mixed_where, is_numbered_form}
use Rattle.columnar_sums.proofs.discriminant.Discriminant.is_heterogeneous.Goals as goal

pub returns : goal.returns
returns g c =
    let p = forms_parts c.requires in
    let vs = g.CVar.Variants.bytes c.args.self.now.variant in
    rw c.variants.ensures (record {
      mixed = mixed_where p;
      written = λ h. let n = is_numbered_form p (ltb-true 0 (length vs) h) in (sym n.all, n.numbers ∙ ap (earlier []) (sym n.all));
      bare = λ h. nil_from_length vs (omega (arith, ltb-false 0 (length vs) h));
    })
