-- A view has the content and the format of its column.
use Rattle.std.proofs.Common.{◌≡◌, refl}
use Rattle.columnar_base.specs.Format.{Format, Content, both, IsSound}

pub same_contents : {v w x y : Content} → v ≡ x → w ≡ y → both v w ≡ both x y
same_contents p q = rw (p, q) refl

pub same_sound : {f g : Format} {x y : Content} → f ≡ g → x ≡ y → IsSound f x → IsSound g y
same_sound p q s = rw (p, q) at s
