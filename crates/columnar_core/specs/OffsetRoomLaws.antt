-- Room for offsets that needs only their number.
use Rattle.std.proofs.Common.{◌≡◌, ℕ, ◌+◌, ◌-◌, ◌^◌, ◌<◌, ◌≤◌, List, [], ◌∷◌, ◌++◌, length, map, refl, sym, ◌∙◌, arith, length-append}
use Rattle.std.proofs.lemmas.List.{length-map}
use Rattle.columnar_base.specs.Row.{Row, number, number_of}
use Rattle.columnar_base.specs.Room.{KeepsRoom, up_to_count}
use Rattle.columnar_core.specs.Bounds.{numbers, shifted}

pub length-shifted : (lower start : ℕ) (os : List Row) → length (shifted lower start (numbers os)) ≡ length os
length-shifted lower start os = length-map (numbers os) (λ n. number (start + (n - lower))) ∙ length-map os number_of

pub counted_follow : (len cap room last : ℕ) (os : List Row) → KeepsRoom (up_to_count room) (λ rs. len + length rs ≤ cap) → up_to_count room os → len + length (shifted 0 last (numbers os)) ≤ cap
counted_follow len cap room last os k h = k.keeps (shifted 0 last (numbers os)) (λ m. rw (length-shifted 0 last os) (h m))

pub counted_add : (room more last : ℕ) (os others : List Row) → ((xs : List Row) → up_to_count room xs → up_to_count more (xs ++ others)) → up_to_count room os → up_to_count more (os ++ shifted 0 last (numbers others))
counted_add room more last os others f h = λ m.
    let a = length-append os (shifted 0 last (numbers others)) in
    let b = length-append os others in
    let l = length-shifted 0 last others in
    let n = f os h m in
    omega (arith, a, b, l, n)
