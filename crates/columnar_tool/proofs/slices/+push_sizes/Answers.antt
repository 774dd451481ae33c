use Rattle.std.proofs.Common.{ℕ, List, ◌++◌, ◌≡◌, ◌∙◌, ap, sym, append_assoc}
use Rattle.std.specs.Prelude.{OnOk, Ok, Err, Result}
use Rattle.columnar_schema.specs.Formats.{format_of}
use Rattle.columnar_tool.specs.SliceLaws.{beside_sizes, sum_sizes, tuple_sizes}
use Rattle.columnar_tool.proofs.slices.+push_sizes.Goals as goal

-- the sizes of the one part, and then those of the other
two_parts : {A E : Type 0} (r : Result A E) (old mid new one other both : List ℕ) → both ≡ one ++ other → mid ≡ old ++ one → OnOk r (new ≡ mid ++ other) → OnOk r (new ≡ old ++ both)
two_parts (Ok x) old mid new one other both e p q = q ∙ (ap (λ w. w ++ other) p ∙ (append_assoc old one other ∙ ap (λ w. old ++ w) (sym e)))
two_parts (Err x) old mid new one other both e p q = q

pub returns-in_ok-push_sizes-in-Tuple : goal.returns-in_ok-push_sizes-in-Tuple
returns-in_ok-push_sizes-in-Tuple t c = two_parts c.push_sizes-in-Tuple-2.result c.args.sizes.now.items c.push_sizes-in-Tuple.new.sizes.items c.push_sizes-in-Tuple-2.new.sizes.items (format_of c.deref-in-Tuple.result.now).sizes (format_of c.deref-in-Tuple-2.result.now).sizes (format_of c.args.schema.now).sizes (rw (c.deref-in-Tuple.ensures, c.deref-in-Tuple-2.ensures) (tuple_sizes c.args.schema.now c.in-Tuple.is)) c.in_ok-push_sizes-in-Tuple.ensures c.push_sizes-in-Tuple-2.ensures

pub returns-in_ok-push_sizes-in-Beside : goal.returns-in_ok-push_sizes-in-Beside
returns-in_ok-push_sizes-in-Beside t c = two_parts c.push_sizes-in-Beside-2.result c.args.sizes.now.items c.push_sizes-in-Beside.new.sizes.items c.push_sizes-in-Beside-2.new.sizes.items (format_of c.deref-in-Beside.result.now).sizes (format_of c.deref-in-Beside-2.result.now).sizes (format_of c.args.schema.now).sizes (rw (c.deref-in-Beside.ensures, c.deref-in-Beside-2.ensures) (beside_sizes c.args.schema.now c.in-Beside.is)) c.in_ok-push_sizes-in-Beside.ensures c.push_sizes-in-Beside-2.ensures

pub returns-in_ok-push_sizes-in-Sum : goal.returns-in_ok-push_sizes-in-Sum
returns-in_ok-push_sizes-in-Sum t c = two_parts c.push_forms.result c.args.sizes.now.items c.push_sizes-in-Sum.new.sizes.items c.push_forms.new.sizes.items (format_of c.deref-in-Sum.result.now).sizes _ (format_of c.args.schema.now).sizes (rw c.deref-in-Sum.ensures (sum_sizes c.args.schema.now c.in-Sum.is)) c.in_ok-push_sizes-in-Sum.ensures c.push_forms.ensures
