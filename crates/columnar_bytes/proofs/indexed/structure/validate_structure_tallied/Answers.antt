use Rattle.std.proofs.Common.{◌≡◌, ◌+◌, ◌*◌, arith, refl}
use Rattle.columnar_core.specs.Bytes.{word}
use Rattle.columnar_core.specs.Frame.{IsLegal}
use Rattle.columnar_core.specs.FrameLaws.{legal_by_table, store_of, count_of}
use Rattle.columnar_bytes.proofs.indexed.structure.validate_structure_tallied.Goals as goal

pub returns : goal.returns
returns g c =
    let first : word c.args.bytes.now 0 ≡ 8 * (c.args.expected + 1) = omega (arith, c.word_in_bytes-first.ensures) in
    let legal : IsLegal c.args.bytes.now c.args.expected = legal_by_table c.args.bytes.now c.args.expected (omega arith)
    (record { first = first; fits = omega arith; placed = λ i l. c.loop-i.invariant.before i (omega arith) }) in
    record {
      exact = (λ _. legal, λ _. refl);
      fault = tt;
      store = store_of c.args.bytes.now c.args.expected legal;
      count = count_of c.args.bytes.now c.args.expected legal;
      turns = omega arith;
      expected = omega arith;
      table = omega (arith, first);
    }
