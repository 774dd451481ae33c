use Rattle.std.proofs.Common.{◌+◌, ◌*◌}
use Rattle.columnar_syntax.proofs.text.+types.Given as goal

abbrev pub decreases-one_part : goal.decreases-one_part
decreases-one_part l = 1000 * l.depth + 600

abbrev pub decreases-two_parts : goal.decreases-two_parts
decreases-two_parts l = 1000 * l.depth + 600

abbrev pub decreases-fields_at : goal.decreases-fields_at
decreases-fields_at l = 1000 * l.depth + (l.most + 1)

abbrev pub decreases-tuple_at : goal.decreases-tuple_at
decreases-tuple_at l = 1000 * l.depth + 600

abbrev pub decreases-field_at : goal.decreases-field_at
decreases-field_at l = 1000 * l.depth + 1

abbrev pub decreases-named_fields_at : goal.decreases-named_fields_at
decreases-named_fields_at l = 1000 * l.depth + (l.most + 2)

abbrev pub decreases-object_at : goal.decreases-object_at
decreases-object_at l = 1000 * l.depth + 600

abbrev pub decreases-places_at : goal.decreases-places_at
decreases-places_at l = 1000 * l.depth + 600

abbrev pub decreases-body_at : goal.decreases-body_at
decreases-body_at l = 1000 * l.depth + 650

abbrev pub decreases-struct_at : goal.decreases-struct_at
decreases-struct_at l = 1000 * l.depth + 660

abbrev pub decreases-bare_value_at : goal.decreases-bare_value_at
decreases-bare_value_at l = 1000 * l.depth + 110

abbrev pub decreases-named_value_at : goal.decreases-named_value_at
decreases-named_value_at l = 1000 * l.depth + 110

abbrev pub decreases-case_at : goal.decreases-case_at
decreases-case_at l = 1000 * l.depth + 120

abbrev pub decreases-cases_at : goal.decreases-cases_at
decreases-cases_at l = 1000 * l.depth + (l.most + 121)

abbrev pub decreases-enum_at : goal.decreases-enum_at
decreases-enum_at l = 1000 * l.depth + 660

abbrev pub decreases-named : goal.decreases-named
decreases-named l = 1000 * l.depth + 700

abbrev pub decreases-type_at : goal.decreases-type_at
decreases-type_at l = 1000 * l.depth

abbrev pub decreases-array_at : goal.decreases-array_at
decreases-array_at l = 1000 * l.depth + 600

abbrev pub decreases-lookbacks_at : goal.decreases-lookbacks_at
decreases-lookbacks_at l = 1000 * l.depth + 600

abbrev pub decreases-declared_at : goal.decreases-declared_at
decreases-declared_at l = 1000 * l.depth + 600
