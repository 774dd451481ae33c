use Rattle.std.proofs.Common.{◌≡◌, ℕ, suc, ◌+◌, ◌<◌, ◌≤◌, true, ◌&&◌, List, [], ◌∷◌, ◌++◌, length, take, map, get_or, refl, arith}
use Rattle.std.specs.Prelude.{nat_le, slice_get, Some}
use Rattle.std.proofs.lemmas.Option.{slice_get-map, slice_get_read}
use Rattle.columnar_core.specs.ChangeLaws.{take-suc_get}
use Rattle.columnar_bytes.specs.declared.stash.commands.Command.{Command}
use Rattle.columnar_bytes.specs.declared.stash.commands.Reply.{Reply}
use Rattle.columnar_bytes.specs.Machine.{State, IsHeld, Order, order_of, Answers, Ran}
use Rattle.std.proofs.lemmas.Bool.{and_parts, leb-true}
use Rattle.columnar_core.specs.Row.{Row}
use Rattle.columnar_core.specs.Format.{Format, Content, IsLawful, all_alike}
use Rattle.columnar_core.specs.Change.{Took}
use Rattle.columnar_core.specs.AlikeLaws.{alike_all, all_alike-append}

pub copy_ordered : (from to source : ℕ) → nat_le from to && nat_le to source ≡ true → from ≤ to
copy_ordered from to source h = leb-true from to (and_parts (nat_le from to) (nat_le to source) h).0

pub copy_within : (from to source : ℕ) → nat_le from to && nat_le to source ≡ true → to ≤ source
copy_within from to source h = leb-true to source (and_parts (nat_le from to) (nat_le to source) h).1

pub took_alike : {f : Format} {old new : Content} {more : List Row} → IsLawful f → Took f old new more → all_alike f.alike (f.rows new) (f.rows old ++ more) ≡ true
took_alike {f} {old} {new} {more} law t =
    rw t.grew.rows (all_alike-append f.alike (f.rows old) (f.rows old) t.fresh more (alike_all f.alike law.same (f.rows old)) t.alike)

pub same_alike : {f : Format} (rs ss : List Row) → IsLawful f → rs ≡ ss → all_alike f.alike rs ss ≡ true
same_alike {f} rs ss law e = rw e (alike_all f.alike law.same ss)

-- one more command
pub ran_more : (f : Format) (source : List Row) (old mid new : State) (os : List Order) (rs : List Reply) (o : Order) (r : Reply) → Ran f source old os rs mid → IsHeld f new → Answers f source mid new o r → Ran f source old (os ++ o ∷ []) (rs ++ r ∷ []) new
ran_more f source old mid new [] [] o r p s a = (new, (s, rw p at a, refl))
ran_more f source old mid new [] (x ∷ rs) o r p s a = absurd p
ran_more f source old mid new (x ∷ os) [] o r p s a = absurd p
ran_more f source old mid new (x ∷ os) (y ∷ rs) o r p s a = (p.0, (p.1.0, p.1.1, ran_more f source p.0 mid new os rs o r p.1.2 s a))

pub run_more : {T : Type 0} (f : Format) (meaning : T → Row) (source : List Row) (old mid new : State) (cs : List (Command T)) (rs ss : List Reply) (i : ℕ) (c : Command T) (r : Reply) → i < length cs → c ≡ get_or cs i c → Ran f source old (take i (map (order_of meaning) cs)) rs mid → IsHeld f new → Answers f source mid new (order_of meaning c) r → ss ≡ rs ++ r ∷ [] → Ran f source old (take (i + 1) (map (order_of meaning) cs)) ss new
run_more f meaning source old mid new cs rs ss i c r l h p s a e =
    let g : slice_get cs i ≡ Some c = slice_get_read cs (length cs) i c refl l h in
    let m : slice_get (map (order_of meaning) cs) i ≡ Some (order_of meaning c) = rw (slice_get-map, g) refl in
    let t : take (suc i) (map (order_of meaning) cs) ≡ take i (map (order_of meaning) cs) ++ order_of meaning c ∷ [] = take-suc_get i (map (order_of meaning) cs) (order_of meaning c) m in
    let k : i + 1 ≡ suc i = omega arith in
    rw (e, k, t) (ran_more f source old mid new (take i (map (order_of meaning) cs)) rs (order_of meaning c) r p s a)
