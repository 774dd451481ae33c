use Rattle.std.proofs.Common.{◌∙◌, arith, sym}
use Rattle.columnar_base.specs.ChangeLaws.{passed_on}
use Rattle.columnar_base.specs.Faults.{fault_of}
use Rattle.columnar_core.specs.Store.{slices_in}
use Rattle.columnar_schema.specs.Formats.{format_of}
use Rattle.columnar_schema.specs.RecalledLaws.{close_turns, distances_level, lookbacks_reach, lookbacks_stop, results_fault}
use Rattle.columnar_schema.proofs.judge.close_lookbacks.Goals as goal

pub all_reach-requires-clause-level : goal.all_reach-requires-clause-level
all_reach-requires-clause-level g c = distances_level (format_of c.args.values.now) c.args.offset c.args.after (slices_in c.args.store.now) c.requires.after c.from_store-bits.ensures.content c.distances_in-back.ensures (omega (arith, c.requires.after, c.requires.distances.room)) c.in_ok-close_results.ensures.exact

pub returns-in_err-close_results-clause-exact : goal.returns-in_err-close_results-clause-exact
returns-in_err-close_results-clause-exact g c = rw (passed_on c.from_residual.result c.from_residual.ensures.1) (results_fault (format_of c.args.values.now) c.args.offset (slices_in c.args.store.now) (fault_of c.in_err-close_results.field-0.0) c.in_err-close_results.ensures.exact)

pub returns-then-all_reach-clause-exact : goal.returns-then-all_reach-clause-exact
returns-then-all_reach-clause-exact g c = lookbacks_reach (format_of c.args.values.now) c.args.offset c.args.after (slices_in c.args.store.now) c.requires.after c.from_store-bits.ensures.content c.distances_in-back.ensures (λ vs h. sym c.if-all_reach.true ∙ c.all_reach.ensures.value vs h) (omega (arith, c.requires.after, c.requires.distances.room)) c.in_ok-close_results.ensures.exact

pub returns-then-all_reach-clause-turns : goal.returns-then-all_reach-clause-turns
returns-then-all_reach-clause-turns g c = close_turns c.args.offset (slices_in c.args.store.now) _ _ _ c.from_store-bits.ensures.content c.requires.bits c.close_results.ensures.turns c.all_reach.ensures.turns

pub returns-clause-exact : goal.returns-clause-exact
returns-clause-exact g c = lookbacks_stop (format_of c.args.values.now) c.args.offset c.args.after (slices_in c.args.store.now) c.requires.after c.from_store-bits.ensures.content c.distances_in-back.ensures (λ vs h. sym c.if-all_reach.false ∙ c.all_reach.ensures.value vs h) (omega (arith, c.requires.after, c.requires.distances.room)) c.in_ok-close_results.ensures.exact

pub returns-clause-turns : goal.returns-clause-turns
returns-clause-turns g c = close_turns c.args.offset (slices_in c.args.store.now) _ _ _ c.from_store-bits.ensures.content c.requires.bits c.close_results.ensures.turns c.all_reach.ensures.turns
