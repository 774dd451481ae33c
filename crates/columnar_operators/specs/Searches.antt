-- What a search of a column asks of a test.
use Rattle.std.specs.Prelude.{◌≡◌, Bool}
use Rattle.std.specs.Fn.{AlwaysReturns}
use Rattle.std.specs.Fn.{Mut}
use Rattle.columnar_base.specs.Row.{Row}

-- each call of the test answers what p says of the row that it was given
abbrev pub AnswersBy : {F A : Type 0} → Mut F (A × Unit {0}) Bool → (A → Row) → (Row → Bool) → F → Type 0
AnswersBy g meaning p = AlwaysReturns g (λ a r. r ≡ p (meaning a.0))
