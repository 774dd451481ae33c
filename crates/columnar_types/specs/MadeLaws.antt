-- Columns that are made from values, pushed in order, or why that failed.
use Rattle.std.proofs.Common.{List, [], ◌∷◌, ◌++◌, ◌≡◌, ◌∙◌, map, ap}
use Rattle.columnar_base.specs.Row.{Row}
use Rattle.columnar_base.specs.Format.{Format, Content, IsSound}
use Rattle.columnar_base.specs.Change.{Took, Refused}
use Rattle.columnar_base.specs.ExtendLaws.{extend_stopped}
use Rattle.columnar_base.specs.declared.fault.GrowError.{GrowError}
use Rattle.columnar_types.specs.Made.{Made, NotMade, StoppedMaking}

pub made : {f : Format} {start c : Content} {items : List Row} → f.rows start ≡ [] → Took f start c items → Made f c items
made {f} {start} {c} {items} e t = record {
  sound = t.grew.sound;
  alike = let r : f.rows c ≡ t.fresh = t.grew.rows ∙ ap (λ rs. rs ++ t.fresh) e in rw r t.alike;
}

pub stopped_making : {T : Type 0} {f : Format} {start mid new : Content} {error : GrowError} (meaning : T → Row) (xs : List T) (x : T) → IsSound f start → f.rows start ≡ [] → Took f start mid (map meaning xs) → Refused f mid new (meaning x ∷ []) error → StoppedMaking f (map meaning (xs ++ x ∷ [])) error
stopped_making {T} {f} {start} {mid} {new} {error} meaning xs x s e t r = record {
  start = start;
  end = new;
  sound = s;
  bare = e;
  stopped = extend_stopped meaning xs x t r;
}

-- all items in one call
pub not_made : {f : Format} {start new : Content} {items : List Row} {error : GrowError} → IsSound f start → f.rows start ≡ [] → Refused f start new items error → NotMade f items error
not_made {f} {start} {new} {items} {error} s e r = record { start = start; sound = s; bare = e; cause = r.cause }
