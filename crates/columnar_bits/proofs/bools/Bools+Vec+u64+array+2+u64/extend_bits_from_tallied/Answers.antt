use Rattle.std.proofs.Common.{vec_capacity, ◌≤◌, ◌≡◌, ◌+◌, ◌-◌, ◌*◌, ◌/◌, ◌%◌, ℕ, refl, arith}
use Rattle.columnar_core.specs.ChangeLaws.{undone}
use Rattle.columnar_bits.specs.Bits.{bit}
use Rattle.columnar_bits.specs.BoolColumns.{owned_bits}
use Rattle.columnar_bits.specs.BitLaws.{copy_more}
use Rattle.columnar_bits.specs.BoolLaws.{bools_lawful, bools_parts, bools_grew, grew_to, length_added, bits_length, length_words_back}
use Rattle.columnar_core.specs.WordViews.{le_bytes}
use Rattle.columnar_bits.proofs.bools.Bools+Vec+u64+array+2+u64.extend_bits_from_tallied.Goals as goal

pub returns-clause-ok : goal.returns-clause-ok
returns-clause-ok g c =
    let n : ℕ = c.args.range.«end» - c.args.range.start in
    let own : owned_bits c.replace-own.result ≡ owned_bits c.args.self.now = rw (c.replace-own.ensures.value, c.reserve.ensures.items) refl in
    let e = rw (c.words-values.ensures, c.words-tail.ensures, own) at c.with_words.ensures.bits in
    copy_more _ _ _ _ (bit c.taken-rest.result) c.args.range.start (c.args.range.start + 64 * (n / 64)) _ (n % 64) e c.in-Ok.ensures.ok (rw (c.words-values.ensures, c.words-tail.ensures) at c.taken-rest.ensures.bits) (omega arith) (omega arith)

pub returns-in-Err-clause-err : goal.returns-in-Err-clause-err
returns-in-Err-clause-err g c =
    let own : owned_bits c.replace-own.result ≡ owned_bits c.args.self.now = rw (c.replace-own.ensures.value, c.reserve.ensures.items) refl in
    let e = rw (c.words-values.ensures, c.words-tail.ensures, own) at c.with_words.ensures.bits in
    let h = bools_grew (record { sound = bools_parts c.with_words.ensures.sound; bits = e }) in
    undone bools_lawful c.requires.sound (grew_to c.in-Err.ensures.err h) (rw c.len-start.ensures at c.truncate.ensures.cut)

pub returns-in-Err-clause-length : goal.returns-in-Err-clause-length
returns-in-Err-clause-length g c = λ r.
    let n : ℕ = c.args.range.«end» - c.args.range.start in
    let own : owned_bits c.replace-own.result ≡ owned_bits c.args.self.now = rw (c.replace-own.ensures.value, c.reserve.ensures.items) refl in
    let e = rw (c.words-values.ensures, c.words-tail.ensures, own) at c.with_words.ensures.bits in
    let h = c.in-Err.ensures.length r in
    let l = length_added _ _ _ c.args.range.start (c.args.range.start + 64 * (n / 64)) e (omega arith) (omega arith) in
    omega (arith, h, l)

pub returns-in_err-reserve-clause-wanted : goal.returns-in_err-reserve-clause-wanted
returns-in_err-reserve-clause-wanted g c = λ r.
    let n : ℕ = c.args.range.«end» - c.args.range.start in
    let f = bits_length (le_bytes c.args.self.now.values.items) (le_bytes c.args.self.now.tail) in
    let w = length_words_back c.args.self.now.values.items in
    let d : 64 * (n / 64) ≤ n = omega arith in
    omega (arith, f, w, d, c.in_err-reserve.ensures.full)

pub returns-in-Err-clause-wanted : goal.returns-in-Err-clause-wanted
returns-in-Err-clause-wanted g c = λ r.
    let n : ℕ = c.args.range.«end» - c.args.range.start in
    let own : owned_bits c.replace-own.result ≡ owned_bits c.args.self.now = rw (c.replace-own.ensures.value, c.reserve.ensures.items) refl in
    let e = rw (c.words-values.ensures, c.words-tail.ensures, own) at c.with_words.ensures.bits in
    let h = c.in-Err.ensures.wanted r in
    let l = length_added _ _ _ c.args.range.start (c.args.range.start + 64 * (n / 64)) e (omega arith) (omega arith) in
    let k : vec_capacity c.replace-own.result.values ≡ vec_capacity c.reserve.new.self = rw c.replace-own.ensures.value refl in
    omega (arith, h, l, k, c.with_words.ensures.capacity, c.reserve.ensures.capacity)
