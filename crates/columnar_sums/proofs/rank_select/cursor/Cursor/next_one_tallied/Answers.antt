use Rattle.std.proofs.Common.{arith}
use Rattle.columnar_sums.specs.CursorLaws.{stands_words, stands_found, stands_ended}
use Rattle.columnar_sums.proofs.rank_select.cursor.Cursor.next_one_tallied.Goals as goal

pub next_in-found-requires-clause-last : goal.next_in-found-requires-clause-last
next_in-found-requires-clause-last g c = (stands_words c.self.invariant c.metered_words.ensures).2

pub overflow_add-self : goal.overflow_add-self
overflow_add-self g c = omega (arith, (stands_found c.self.invariant c.metered_words.ensures c.in-Some.ensures.at c.in-Some.ensures.floor c.in-Some.ensures.found).fits)

pub invariant_of-self : goal.invariant_of-self
invariant_of-self g c = (stands_found c.self.invariant c.metered_words.ensures c.in-Some.ensures.at c.in-Some.ensures.floor c.in-Some.ensures.found).stands

pub invariant_of-self-in-None : goal.invariant_of-self-in-None
invariant_of-self-in-None g c = (stands_ended c.self.invariant c.metered_words.ensures c.in-None.ensures.at c.in-None.ensures.floor c.in-None.ensures.none).0

pub returns-in-Some-clause-found : goal.returns-in-Some-clause-found
returns-in-Some-clause-found g c = rw (← c.self.view_is) ((stands_found c.self.invariant c.metered_words.ensures c.in-Some.ensures.at c.in-Some.ensures.floor c.in-Some.ensures.found).next, c.in-Some.ensures.found.4)

pub returns-in-None-clause-none : goal.returns-in-None-clause-none
returns-in-None-clause-none g c = rw (← c.self.view_is) (stands_ended c.self.invariant c.metered_words.ensures c.in-None.ensures.at c.in-None.ensures.floor c.in-None.ensures.none).1

pub returns-in-Some-clause-inside : goal.returns-in-Some-clause-inside
returns-in-Some-clause-inside g c = (stands_found c.self.invariant c.metered_words.ensures c.in-Some.ensures.at c.in-Some.ensures.floor c.in-Some.ensures.found).stands.inside

pub returns-in-None-clause-inside : goal.returns-in-None-clause-inside
returns-in-None-clause-inside g c = (stands_ended c.self.invariant c.metered_words.ensures c.in-None.ensures.at c.in-None.ensures.floor c.in-None.ensures.none).0.inside
