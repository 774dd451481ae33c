use Rattle.std.proofs.Common.{◌≡◌, false, take}
use Rattle.std.specs.List.{list_any}
use Rattle.columnar_json.specs.Csv.{is_special}
use Rattle.columnar_json.proofs.fields.has_quoted.Given as goal

abbrev pub invariant-loop-byte : goal.invariant-loop-byte
invariant-loop-byte l = list_any is_special (take l.byte-index l.value) ≡ false
