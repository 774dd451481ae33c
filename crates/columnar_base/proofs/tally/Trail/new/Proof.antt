-- `new` makes a struct without bytes, at the empty list. A trail owns no memory, so any list may stand beside it.
use Rattle.std.proofs.Common.{[], ◌∷◌, refl}
use Rattle.std.proofs.raw_atomic.Walks.{proved}
use mir.Val.{vstruct, vnil}
use base.Fml.{ftrue}
use types.Kit.{‵, raw, ◌$◌, ◌∵◌, !, qed, keep, suffices, done}
use types.Run.{enter, no_more, returns}
use types.Part.{agg}
use types.ByLocal.{alloc_all, pass_all, free_all, look_at, sets}
use denote.Shadow.{pure_i}
use denote.Steps.{nothing}
use denote.Triple.Entry.{on_entry}
use denote.Triple.Walked.{Stays, says, ends_at}
use Rattle.columnar_base.specs.contracts.tally.Trail.{the_row}
use Rattle.columnar_base.specs.contracts.tally.Trail.new as f
use Rattle.columnar_base.proofs.tally.Trail.new.Statement.{statement}
use Rattle.columnar_base.proofs.tally.Trail.new.Code as code

-- there are no parameters
abbrev stayed : Stays f.ended.signature.params f.ended.kept
stayed = tt

pub new_spec : {M : Type 1} → statement M
new_spec 𝓤 𝓛 𝓜 𝓡 wired =
    let c = f.clauses 𝓛 𝓜.mem 𝓡.returns in
    proved 𝓛 f.ended stayed c 𝓜 𝓡 tt f.Key.name code.function (code.unfolded 𝓤 𝓛.H 𝓜 𝓡 wired) (λ κs. tt) (λ κs. tt) (λ κs qs bounds a n are.
    let made : the_row.Denot = record { items = [] } in
    qed 𝓛 (raw (on_entry 𝓛 f.signature κs qs a tt) ∷ ‵ ftrue ∷ []) ∵ keep ! [] $
    enter ! _ _ _ _ _ $ alloc_all ! (λ l. pass_all ! refl tt $ sets ! (agg ! (no_more !)) refl (tt, tt) $
    returns ! (look_at ! 0 refl) $ free_all ! refl $
    suffices ! _ (ends_at 𝓛 f.ended stayed c ((κs, qs, bounds, a, tt), tt) (vstruct vnil) made tt tt) $ says ! refl $
    -- the result, beside no parameters and no tokens
    pure_i ! (the_row.own_val made (vstruct vnil ∷ [])) ((λ fields. (tt, tt)), tt) ((tt, (refl, tt)), tt) $
    nothing ! $ nothing ! $ done !))
