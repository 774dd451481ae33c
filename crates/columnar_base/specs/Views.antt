-- The contents of views of elements.
use Rattle.std.specs.Prelude.{ℕ, List}
use Rattle.columnar_base.specs.declared.view.Items.{Items}
use Rattle.columnar_base.specs.declared.view.Items.TheVariants.{Typed, Bytes}
use Rattle.columnar_base.specs.Format.{Content, slice}
use Rattle.columnar_base.specs.Elements.{elements}

-- the bytes of the elements
abbrev pub items_content : {T : Type 0} → (T → List ℕ) → Items T → Content
items_content bytes (Typed xs) = elements bytes xs.now
items_content bytes (Bytes bs) = slice bs.now
