-- Tests of a column of variants, from the tests of its parts.
use Rattle.std.proofs.Common.{◌+◌, Bool, List, ◌++◌}
use Rattle.columnar_base.specs.Format.{Fault, fault, unless}

-- the rules of the whole: Variant, then Parts
abbrev pub own_broken : Bool → Bool → List Fault
own_broken below told = unless below (fault 17 0) ++ unless told (fault 10 0)
