use Rattle.std.proofs.Common.{rules, ◌≡◌, ◌≢◌, [], sym, append-nil, length, drop}
use Rattle.columnar_syntax.specs.ReadingLaws.{text_ends}
use Rattle.columnar_syntax.specs.Tokens.{tokens}
use Rattle.columnar_syntax.proofs.text.parse.Goals as goal

pub returns-in_err-schema-clause-whole : goal.returns-in_err-schema-clause-whole
returns-in_err-schema-clause-whole c s n h =
    let failed = c.in_err-schema.ensures.whole _ [] s n (sym (append-nil _)) h in
    search rules

pub returns-else-next-text-clause-whole : goal.returns-else-next-text-clause-whole
returns-else-next-text-clause-whole c s n h =
    let rest : tokens (drop c.in_ok-schema.next c.args.text.now) ≡ [] = c.in_ok-schema.ensures.whole _ [] s n (sym (append-nil _)) h in
    let ends = text_ends c.args.text.now c.in_ok-schema.next c.after_blanks-next.result c.after_blanks-next.ensures.same c.after_blanks-next.ensures.within c.after_blanks-next.ensures.ends rest in
    let differs : c.after_blanks-next.result ≢ length c.args.text.now = search rules in
    absurd (differs ends)
