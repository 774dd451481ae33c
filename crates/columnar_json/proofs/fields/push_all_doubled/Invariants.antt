use Rattle.std.proofs.Common.{◌++◌, ◌≡◌, take}
use Rattle.std.specs.List.{flat_map}
use Rattle.columnar_json.specs.Csv.{doubled}
use Rattle.columnar_json.proofs.fields.push_all_doubled.Given as goal

abbrev pub invariant-loop-byte : goal.invariant-loop-byte
invariant-loop-byte l = l.out.items ≡ l.fn.out.items ++ flat_map doubled (take l.byte-index l.bytes)
