-- Values that are always valid.
use Rattle.std.specs.Prelude.{Option, Some, None, Result, Ok, Err}
use Rattle.columnar_base.specs.OptionRows.{option_valid}
use Rattle.columnar_base.specs.ResultRows.{result_valid}
use Rattle.columnar_variants.specs.Nths.{nth_valid}
use Rattle.columnar_variants.specs.declared.cases.Nth.{Nth}
use Rattle.columnar_variants.specs.declared.cases.Nth.TheVariants.{This, Next}

pub option_always : {T : Type 0} (valid : T → Type 0) → ((x : T) → valid x) → (o : Option T) → option_valid valid o
option_always valid h None = tt
option_always valid h (Some x) = h x

pub result_always : {T E : Type 0} (of_value : T → Type 0) (of_error : E → Type 0) → ((x : T) → of_value x) → ((e : E) → of_error e) → (r : Result T E) → result_valid of_value of_error r
result_always of_value of_error h g (Ok x) = h x
result_always of_value of_error h g (Err e) = g e

pub nth_always : {A B : Type 0} (one : A → Type 0) → (other : B → Type 0) → ((x : A) → one x) → ((y : B) → other y) → (n : Nth A B) → nth_valid one other n
nth_always one other h g (This x) = h x
nth_always one other h g (Next y) = g y
