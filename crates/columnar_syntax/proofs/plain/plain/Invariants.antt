use Rattle.std.proofs.Common.{◌≡◌, ◌≤◌, ◌++◌, drop}
use Rattle.columnar_syntax.specs.Plain.{last_mode, level, plain, plain_after}
use Rattle.columnar_syntax.specs.declared.plain.Mode.TheVariants.{Code}
use Rattle.columnar_syntax.proofs.plain.plain.Given as goal

abbrev pub invariant-loop-i : goal.invariant-loop-i
invariant-loop-i l = (plain l.text ≡ l.shown.items ++ plain_after l.mode (drop l.i l.text)) × ((last_mode Code l.text ≡ last_mode l.mode (drop l.i l.text)) × (level l.mode ≤ l.i))
