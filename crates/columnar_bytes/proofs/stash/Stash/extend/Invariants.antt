use Rattle.std.proofs.Common.{◌≡◌, [], map}
use Rattle.columnar_core.specs.Change.{Took}
use Rattle.columnar_core.specs.Room.{Leaves}
use Rattle.columnar_bytes.specs.Stashes.{stash_content, stash_room, variant_of, typed}
use Rattle.columnar_bytes.proofs.stash.Stash.extend.Given as goal

abbrev pub invariant-loop-item : goal.invariant-loop-item
invariant-loop-item g l = record {
  took : Took g.C.Column.format (stash_content l.initial.self) (stash_content l.self) (map g.T.Item.meaning l.yielded);
  left : Leaves (stash_room l.initial.self) (stash_room l.self) (map g.T.Item.meaning l.yielded);
  first : l.yielded ≡ [] → l.self ≡ l.initial.self;
  later : (l.yielded ≡ [] → ⊥) → variant_of l.self ≡ typed;
}
