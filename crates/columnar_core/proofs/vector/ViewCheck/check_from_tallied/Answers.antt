use Rattle.std.proofs.Common.{◌≡◌, subst}
use Rattle.std.specs.Prelude.{None}
use Rattle.columnar_base.specs.Format.{Content, first, moved}
use Rattle.columnar_base.specs.Elements.{elements_broken}
use Rattle.columnar_base.specs.ElementLaws.{typed_fine}
use Rattle.columnar_core.proofs.vector.ViewCheck.check_from_tallied.Goals as goal

pub returns-in-Typed-clause-exact : goal.returns-in-Typed-clause-exact
returns-in-Typed-clause-exact g c =
    let P : Content → Type 0 = λ x. None ≡ first (moved c.args.from (elements_broken g.T.Element.size x)) in
    subst P c.in-Typed.ensures (typed_fine g.T.Element.row_of g.met.T.Element.element c.in-Typed.field-0.now c.args.from)
