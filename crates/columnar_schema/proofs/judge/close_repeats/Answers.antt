use Rattle.std.proofs.Common.{sym, ◌∙◌}
use Rattle.columnar_base.specs.ChangeLaws.{passed_on}
use Rattle.columnar_base.specs.Faults.{fault_of}
use Rattle.columnar_core.specs.Store.{slices_in}
use Rattle.columnar_schema.specs.Formats.{format_of}
use Rattle.columnar_schema.specs.RepeatedLaws.{options_fault, repeats_started, repeats_unstarted}
use Rattle.columnar_schema.proofs.judge.close_repeats.Goals as goal

pub returns-in_err-close_options-clause-exact : goal.returns-in_err-close_options-clause-exact
returns-in_err-close_options-clause-exact g c = rw (passed_on c.from_residual.result c.from_residual.ensures.1) (options_fault (format_of c.args.values.now) c.args.offset (slices_in c.args.store.now) (fault_of c.in_err-close_options.field-0.0) c.in_err-close_options.ensures.exact)

pub returns-then-starts_in-clause-exact : goal.returns-then-starts_in-clause-exact
returns-then-starts_in-clause-exact g c = repeats_started (format_of c.args.values.now) c.args.offset (slices_in c.args.store.now) c.in_ok-close_options.ensures.exact (sym c.if-starts_in.true ∙ c.starts_in.ensures)

pub returns-else-starts_in-clause-exact : goal.returns-else-starts_in-clause-exact
returns-else-starts_in-clause-exact g c = repeats_unstarted (format_of c.args.values.now) c.args.offset (slices_in c.args.store.now) c.in_ok-close_options.ensures.exact (sym c.if-starts_in.false ∙ c.starts_in.ensures)
