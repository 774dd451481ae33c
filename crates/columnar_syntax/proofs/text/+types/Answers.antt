use Rattle.std.proofs.Common.{rules, ◌≡◌, ◌∙◌, ap, sym, refl, arith, drop}
use Rattle.columnar_syntax.specs.NumberLaws.{array_goes_on}
use Rattle.columnar_syntax.specs.CaseNameLaws.{bare_goes_on, named_goes_on}
use Rattle.columnar_syntax.specs.NameLaws.{object_goes_on, places_go_on}
use Rattle.columnar_syntax.specs.ParsingLaws.{array_read, begins, body_object, body_places, case_braces, case_opens, case_plain, cases_items, declared_done, enum_done, field_as_item, field_unread, fields_end, fields_go, fields_items, first_field, item_fails, items_close, items_end, items_go, items_held, leaf_done, lookbacks_done, nests_some, never_twice, no_word, not_closed, others_unknown, part_done, parts_done, rest_begins, shape_read, some_cases, some_fields, some_named, some_token, struct_done, texts_done, tuple_read}
use Rattle.columnar_syntax.specs.Reading.{between, first_token}
use Rattle.columnar_syntax.specs.NumberLaws.{lookbacks_go_on}
use Rattle.columnar_syntax.specs.Names.{scope_of}
use Rattle.columnar_syntax.specs.ReadingLaws.{name_begins}
use Rattle.columnar_syntax.proofs.text.+types.Goals as goal

pub array_at-returns-clause-names : goal.array_at-returns-clause-names
array_at-returns-clause-names i c = array_goes_on (scope_of c.args.setting c.args.text.now) c.args.text.now c.args.at c.in_ok-part.next c.in_ok-next.next c.in_ok-items.next c.in_ok-next-2.next c.in_ok-items.items c.in_ok-part.part c.in_ok-schema.schema c.in_ok-part.ensures.names c.in_ok-next.ensures.stands c.in_ok-items.ensures.stands c.in_ok-next-2.ensures.stands c.in_ok-next-2.ensures.within c.in_ok-schema.ensures.ok

pub lookbacks_at-returns-clause-names : goal.lookbacks_at-returns-clause-names
lookbacks_at-returns-clause-names i c = lookbacks_go_on (scope_of c.args.setting c.args.text.now) c.args.text.now c.args.at c.in_ok-next.next c.in_ok-part.next c.in_ok-next-2.next c.in_ok-next-3.next c.in_ok-part.part c.in_ok-schema.schema c.in_ok-next.ensures.stands c.in_ok-part.ensures.names c.in_ok-next-2.ensures.stands c.in_ok-next-3.ensures.stands c.in_ok-next-3.ensures.within c.in_ok-schema.ensures.ok

pub object_at-returns-clause-names : goal.object_at-returns-clause-names
object_at-returns-clause-names i c = object_goes_on (scope_of c.args.setting c.args.text.now) c.args.text.now c.args.at c.in_ok-all.next c.in_ok-next.next c.in_ok-all.all c.in_ok-schema.schema c.in_ok-next.ensures.stands.0 c.in_ok-all.ensures.names c.in_ok-next.ensures.stands.1 c.in_ok-next.ensures.within c.in_ok-schema.ensures.ok

pub places_at-returns-clause-names : goal.places_at-returns-clause-names
places_at-returns-clause-names i c = places_go_on (scope_of c.args.setting c.args.text.now) c.args.text.now c.args.at c.in_ok-all.next c.in_ok-next.next c.in_ok-next-2.next c.in_ok-all.all c.in_ok-schema.schema c.in_ok-all.ensures.names c.in_ok-next.ensures.stands c.in_ok-next-2.ensures.stands c.in_ok-next-2.ensures.within c.in_ok-schema.ensures.ok

pub bare_value_at-returns-clause-names : goal.bare_value_at-returns-clause-names
bare_value_at-returns-clause-names i c = bare_goes_on (scope_of c.args.setting c.args.text.now) c.args.text.now c.args.name.now c.args.at c.in_ok-all.next c.in_ok-next.next c.in_ok-all.all c.value_of-value.result c.in_ok-schema.schema c.requires.name c.in_ok-all.ensures.names c.in_ok-next.ensures.stands c.in_ok-next.ensures.within c.value_of-value.ensures c.in_ok-schema.ensures.ok

pub named_value_at-returns-clause-names : goal.named_value_at-returns-clause-names
named_value_at-returns-clause-names i c = named_goes_on (scope_of c.args.setting c.args.text.now) c.args.text.now c.args.name.now c.args.at c.in_ok-all.next c.in_ok-next.next c.in_ok-all.all c.value_of-value.result c.in_ok-schema.schema c.in_ok-next.ensures.stands.0 c.requires.name c.in_ok-all.ensures.names c.in_ok-next.ensures.stands.1 c.in_ok-next.ensures.within c.value_of-value.ensures c.in_ok-schema.ensures.ok

-- ---- fields of tuples

pub fields_at-returns-then-most-eq0-clause-whole : goal.fields_at-returns-then-most-eq0-clause-whole
fields_at-returns-then-most-eq0-clause-whole i c u rest r m e h l =
    let some = some_fields m in
    let none : c.args.most ≡ 0 = search rules in
    absurd (omega (arith, some, none, l))

pub fields_at-returns-in_err-field-clause-whole : goal.fields_at-returns-in_err-field-clause-whole
fields_at-returns-in_err-field-clause-whole i c u rest r m e h l =
    let f = first_field m c.args.depth _ rest e h in
    let failed = c.in_err-field.ensures.whole f.words f.rest f.type f.names f.is f.nests in
    search rules

pub fields_at-returns-in_default-clause-whole : goal.fields_at-returns-in_default-clause-whole
fields_at-returns-in_default-clause-whole i c u rest r m e h l = fields_end m c.args.depth _ _ rest e h c.in_ok-field.ensures.whole c.in_default.ensures.none

pub fields_at-returns-in_err-later-clause-whole : goal.fields_at-returns-in_err-later-clause-whole
fields_at-returns-in_err-later-clause-whole i c u rest r m e h l =
    let f = fields_go m c.args.depth c.args.most _ _ _ rest e h l c.in_ok-field.ensures.whole c.in-Some.ensures.some in
    let failed = c.in_err-later.ensures.whole f.words rest f.type f.names f.is f.nests f.few in
    search rules

pub fields_at-returns-clause-whole : goal.fields_at-returns-clause-whole
fields_at-returns-clause-whole i c u rest r m e h l =
    let f = fields_go m c.args.depth c.args.most _ _ _ rest e h l c.in_ok-field.ensures.whole c.in-Some.ensures.some in
    c.in_ok-later.ensures.whole f.words rest f.type f.names f.is f.nests f.few

-- ---- tuples

pub tuple_at-returns-in-Some-clause-solo : goal.tuple_at-returns-in-Some-clause-solo
tuple_at-returns-in-Some-clause-solo i c t rest s n e h = not_closed (begins n) _ _ _ e c.in-Some.ensures.some

pub tuple_at-returns-in-Some-clause-whole : goal.tuple_at-returns-in-Some-clause-whole
tuple_at-returns-in-Some-clause-whole i c t u rest s r n m e h k f = not_closed (begins n) _ _ _ e c.in-Some.ensures.some

pub tuple_at-returns-in-Some-past-clause-whole : goal.tuple_at-returns-in-Some-past-clause-whole
tuple_at-returns-in-Some-past-clause-whole i c t u rest s r n m e h k f =
    let field = c.in_ok-first.ensures.whole t _ s n e h in
    not_closed (rest_begins m) _ _ _ (c.in_ok-next.ensures.passes _ field) c.in-Some-past.ensures.some

-- ---- fields with names

pub named_fields_at-returns-then-most-eq0-clause-whole : goal.named_fields_at-returns-then-most-eq0-clause-whole
named_fields_at-returns-then-most-eq0-clause-whole i c u rest comma r m e h l =
    let some = some_named m in
    let none : c.args.most ≡ 0 = search rules in
    absurd (omega (arith, some, none, l))

pub named_fields_at-returns-in_err-field-clause-whole : goal.named_fields_at-returns-in_err-field-clause-whole
named_fields_at-returns-in_err-field-clause-whole i c u rest comma r m e h l =
    let failed = field_unread (fields_items m c.args.depth c.args.most comma _ rest e h l) c.in_err-field.ensures.whole in
    search rules

pub named_fields_at-returns-in_default-clause-whole : goal.named_fields_at-returns-in_default-clause-whole
named_fields_at-returns-in_default-clause-whole i c u rest comma r m e h l = items_end (fields_items m c.args.depth c.args.most comma _ rest e h l) _ c.in_ok-field.field (field_as_item (scope_of c.args.setting c.args.text.now) c.args.depth _ _ _ c.in_ok-field.ensures.whole) c.in_default.ensures.none

pub named_fields_at-returns-then-stands_at-clause-whole : goal.named_fields_at-returns-then-stands_at-clause-whole
named_fields_at-returns-then-stands_at-clause-whole i c u rest comma r m e h l = items_close (fields_items m c.args.depth c.args.most comma _ rest e h l) _ _ c.in_ok-field.field (field_as_item (scope_of c.args.setting c.args.text.now) c.args.depth _ _ _ c.in_ok-field.ensures.whole) c.in-Some.ensures.some (sym c.stands_at.ensures ∙ c.if-stands_at.true)

pub named_fields_at-returns-in_err-later-clause-whole : goal.named_fields_at-returns-in_err-later-clause-whole
named_fields_at-returns-in_err-later-clause-whole i c u rest comma r m e h l =
    let g = items_go (fields_items m c.args.depth c.args.most comma _ rest e h l) _ _ c.in_ok-field.field (field_as_item (scope_of c.args.setting c.args.text.now) c.args.depth _ _ _ c.in_ok-field.ensures.whole) c.in-Some.ensures.some (sym c.stands_at.ensures ∙ c.if-stands_at.false) in
    let failed = c.in_err-later.ensures.whole g.words rest comma g.type g.names g.is g.nests g.few in
    search rules

pub named_fields_at-returns-then-shares_name-clause-whole : goal.named_fields_at-returns-then-shares_name-clause-whole
named_fields_at-returns-then-shares_name-clause-whole i c u rest comma r m e h l =
    let g = items_go (fields_items m c.args.depth c.args.most comma _ rest e h l) _ _ c.in_ok-field.field (field_as_item (scope_of c.args.setting c.args.text.now) c.args.depth _ _ _ c.in_ok-field.ensures.whole) c.in-Some.ensures.some (sym c.stands_at.ensures ∙ c.if-stands_at.false) in
    let read = c.in_ok-later.ensures.whole g.words rest comma g.type g.names g.is g.nests g.few in
    never_twice g c.in_ok-later.later read.1 (c.shares_name.ensures.shared c.if-shares_name.true)

pub named_fields_at-returns-clause-whole : goal.named_fields_at-returns-clause-whole
named_fields_at-returns-clause-whole i c u rest comma r m e h l =
    let g = items_go (fields_items m c.args.depth c.args.most comma _ rest e h l) _ _ c.in_ok-field.field (field_as_item (scope_of c.args.setting c.args.text.now) c.args.depth _ _ _ c.in_ok-field.ensures.whole) c.in-Some.ensures.some (sym c.stands_at.ensures ∙ c.if-stands_at.false) in
    let read = c.in_ok-later.ensures.whole g.words rest comma g.type g.names g.is g.nests g.few in
    (read.0, items_held g c.in_ok-later.later c.in_ok-schema.schema read.1 c.in_ok-schema.ensures.holds)

-- ---- structs

pub body_at-returns-in-Some-clause-whole : goal.body_at-returns-in-Some-clause-whole
body_at-returns-in-Some-clause-whole i c t rest s n e h = body_object n c.args.depth rest c.args.text.now c.in-Some.next c.object_at.result (sym e ∙ c.in-Some.ensures.some) h c.object_at.ensures.whole

pub body_at-returns-in-Some-past-clause-whole : goal.body_at-returns-in-Some-past-clause-whole
body_at-returns-in-Some-past-clause-whole i c t rest s n e h = body_places n c.args.depth rest c.args.text.now c.in-Some-past.next c.places_at.result (sym e ∙ c.in-Some-past.ensures.some) h c.places_at.ensures.whole

-- ---- variants

pub case_at-returns-in-Some-clause-whole : goal.case_at-returns-in-Some-clause-whole
case_at-returns-in-Some-clause-whole i c t rest s n e a h = case_opens n c.args.depth _ _ _ rest _ c.args.text.now c.bare_value_at.result e a h c.in_ok-start.ensures.passes c.in-Some.ensures.some c.bare_value_at.ensures.whole

pub case_at-returns-in-Some-past-clause-whole : goal.case_at-returns-in-Some-past-clause-whole
case_at-returns-in-Some-past-clause-whole i c t rest s n e a h = case_braces n c.args.depth _ _ _ rest _ c.args.text.now c.named_value_at.result e a h c.in_ok-start.ensures.passes c.in-Some-past.ensures.some c.named_value_at.ensures.whole

pub case_at-returns-clause-whole : goal.case_at-returns-clause-whole
case_at-returns-clause-whole i c t rest s n e a h = case_plain n _ _ rest _ c.in_ok-unvalued.field-0 e c.in_ok-start.ensures.passes c.in_default.ensures.none c.in_default-past.ensures.none c.in_ok-unvalued.ensures.holds

pub cases_at-returns-then-most-eq0-clause-whole : goal.cases_at-returns-then-most-eq0-clause-whole
cases_at-returns-then-most-eq0-clause-whole i c u rest comma r m e h l =
    let some = some_cases m in
    let none : c.args.most ≡ 0 = search rules in
    absurd (omega (arith, some, none, l))

pub cases_at-returns-in_err-case-clause-whole : goal.cases_at-returns-in_err-case-clause-whole
cases_at-returns-in_err-case-clause-whole i c u rest comma r m e h l =
    let failed = item_fails (cases_items m c.args.depth c.args.most comma _ rest e h l) c.in_err-case.ensures.whole in
    search rules

pub cases_at-returns-in_default-clause-whole : goal.cases_at-returns-in_default-clause-whole
cases_at-returns-in_default-clause-whole i c u rest comma r m e h l = items_end (cases_items m c.args.depth c.args.most comma _ rest e h l) _ c.in_ok-case.case c.in_ok-case.ensures.whole c.in_default.ensures.none

pub cases_at-returns-then-stands_at-clause-whole : goal.cases_at-returns-then-stands_at-clause-whole
cases_at-returns-then-stands_at-clause-whole i c u rest comma r m e h l = items_close (cases_items m c.args.depth c.args.most comma _ rest e h l) _ _ c.in_ok-case.case c.in_ok-case.ensures.whole c.in-Some.ensures.some (sym c.stands_at.ensures ∙ c.if-stands_at.true)

pub cases_at-returns-in_err-later-clause-whole : goal.cases_at-returns-in_err-later-clause-whole
cases_at-returns-in_err-later-clause-whole i c u rest comma r m e h l =
    let g = items_go (cases_items m c.args.depth c.args.most comma _ rest e h l) _ _ c.in_ok-case.case c.in_ok-case.ensures.whole c.in-Some.ensures.some (sym c.stands_at.ensures ∙ c.if-stands_at.false) in
    let failed = c.in_err-later.ensures.whole g.words rest comma g.type g.names g.is g.nests g.few in
    search rules

pub cases_at-returns-then-shares_name-clause-whole : goal.cases_at-returns-then-shares_name-clause-whole
cases_at-returns-then-shares_name-clause-whole i c u rest comma r m e h l =
    let g = items_go (cases_items m c.args.depth c.args.most comma _ rest e h l) _ _ c.in_ok-case.case c.in_ok-case.ensures.whole c.in-Some.ensures.some (sym c.stands_at.ensures ∙ c.if-stands_at.false) in
    let read = c.in_ok-later.ensures.whole g.words rest comma g.type g.names g.is g.nests g.few in
    never_twice g c.in_ok-later.later read.1 (c.shares_name.ensures.shared c.if-shares_name.true)

pub cases_at-returns-clause-whole : goal.cases_at-returns-clause-whole
cases_at-returns-clause-whole i c u rest comma r m e h l =
    let g = items_go (cases_items m c.args.depth c.args.most comma _ rest e h l) _ _ c.in_ok-case.case c.in_ok-case.ensures.whole c.in-Some.ensures.some (sym c.stands_at.ensures ∙ c.if-stands_at.false) in
    let read = c.in_ok-later.ensures.whole g.words rest comma g.type g.names g.is g.nests g.few in
    (read.0, items_held g c.in_ok-later.later c.in_ok-schema.schema read.1 c.in_ok-schema.ensures.holds)

-- ---- types that begin with a word

pub named-returns-in-Some-clause-whole : goal.named-returns-in-Some-clause-whole
named-returns-in-Some-clause-whole i c t rest s n w f o most d h = leaf_done (shape_read n most c.args.depth rest _ _ w f o d h) c.in-Some.leaf c.in-Some.ensures.some

pub named-returns-in-Some-head_of-clause-whole : goal.named-returns-in-Some-head_of-clause-whole
named-returns-in-Some-head_of-clause-whole i c t rest s n w f o most d h = part_done (shape_read n most c.args.depth rest _ _ w f o d h) c.in-Some-head_of.head c.in-Some-head_of.ensures.some c.args.text.now _ c.one_part.ensures.whole

pub named-returns-then-eq-clause-whole : goal.named-returns-then-eq-clause-whole
named-returns-then-eq-clause-whole i c t rest s n w f o most d h = parts_done (shape_read n most c.args.depth rest _ _ w f o d h) (search rules) c.args.text.now _ c.two_parts.ensures.whole

pub named-returns-then-eq-2-clause-whole : goal.named-returns-then-eq-2-clause-whole
named-returns-then-eq-2-clause-whole i c t rest s n w f o most d h = texts_done (shape_read n most c.args.depth rest _ _ w f o d h) (search rules) c.args.text.now _ c.texts_at.ensures.whole

pub named-returns-then-eq-3-clause-whole : goal.named-returns-then-eq-3-clause-whole
named-returns-then-eq-3-clause-whole i c t rest s n w f o most d h = struct_done (shape_read n most c.args.depth rest _ _ w f o d h) (search rules) c.args.text.now _ c.struct_at.ensures.whole

pub named-returns-then-eq-4-clause-whole : goal.named-returns-then-eq-4-clause-whole
named-returns-then-eq-4-clause-whole i c t rest s n w f o most d h = lookbacks_done (shape_read n most c.args.depth rest _ _ w f o d h) (search rules) c.args.text.now _ c.lookbacks_at.ensures.whole

pub named-returns-then-eq-5-clause-whole : goal.named-returns-then-eq-5-clause-whole
named-returns-then-eq-5-clause-whole i c t rest s n w f o most d h = enum_done (shape_read n most c.args.depth rest _ _ w f o d h) (search rules) c.args.text.now _ c.saturating_sub.result (omega (arith, c.saturating_sub.ensures)) c.enum_at.ensures.whole

pub named-declared_at-requires : goal.named-declared_at-requires
named-declared_at-requires i c =
    let unknown = others_unknown c.args.word.now c.requires.name c.in_default.ensures.none c.in_default-head_of.ensures.none (search rules) (search rules) (search rules) (search rules) (search rules) in
    (search rules, (c.requires.within, (c.requires.name, unknown)))

pub named-returns-clause-whole : goal.named-returns-clause-whole
named-returns-clause-whole i c t rest s n w f o most d h =
    let unknown = others_unknown c.args.word.now c.requires.name c.in_default.ensures.none c.in_default-head_of.ensures.none (search rules) (search rules) (search rules) (search rules) (search rules) in
    declared_done (shape_read n most c.args.depth rest _ _ w f o d h) unknown c.args.text.now _ c.declared_at.ensures.whole

pub declared_at-returns-in_default-clause-whole : goal.declared_at-returns-in_default-clause-whole
declared_at-returns-in_default-clause-whole i c t after s n e h = some_token n after (sym c.in_default.ensures.none ∙ e)

-- ---- types

pub type_at-returns-then-depth-eq0-clause-whole : goal.type_at-returns-then-depth-eq0-clause-whole
type_at-returns-then-depth-eq0-clause-whole i c t rest s n e h =
    let some = nests_some n c.args.depth h in
    let none : c.args.depth ≡ 0 = search rules in
    absurd (omega (arith, some, none))

pub type_at-returns-in-Some-clause-whole : goal.type_at-returns-in-Some-clause-whole
type_at-returns-in-Some-clause-whole i c t rest s n e h = tuple_read n c.args.depth rest c.args.text.now c.in-Some.next c.tuple_at.result (sym e ∙ (c.after_blanks-at.ensures.same ∙ c.in-Some.ensures.some)) h c.tuple_at.ensures.unit c.tuple_at.ensures.solo c.tuple_at.ensures.whole

pub type_at-returns-in-Some-past-clause-whole : goal.type_at-returns-in-Some-past-clause-whole
type_at-returns-in-Some-past-clause-whole i c t rest s n e h = array_read n c.args.depth rest c.args.text.now c.in-Some-past.next c.array_at.result (sym e ∙ (c.after_blanks-at.ensures.same ∙ c.in-Some-past.ensures.some)) h c.array_at.ensures.whole

pub type_at-returns-in_err-start-clause-whole : goal.type_at-returns-in_err-start-clause-whole
type_at-returns-in_err-start-clause-whole i c t rest s n e h = no_word (begins n) _ rest (sym c.after_blanks-at.ensures.same ∙ e) c.in_default.ensures.none c.in_default-past.ensures.none c.in_err-start.ensures.passes

pub type_at-returns-clause-whole : goal.type_at-returns-clause-whole
type_at-returns-clause-whole i c t rest s n e h =
    let there = sym c.in_ok-start.ensures.stands ∙ (sym c.after_blanks-at.ensures.same ∙ e) in
    c.named.ensures.whole t rest s n (ap first_token there) (ap (drop 1) there) (name_begins (between (c.in_ok-start.start, c.in_ok-start.end) c.args.text.now) c.in_ok-start.ensures.name) c.args.depth refl h
