use Rattle.std.proofs.Common.{◌≡◌, rules, None, arith}
use Rattle.std.proofs.lemmas.Grind.{common_steps}
use Rattle.ts_store.specs.write.LineTexts.{line_refusal_text}
use Rattle.ts_http.proofs.BatchLemmas.{counted_none, counted_some_first, counted_some_more}
use Rattle.ts_http.proofs.batch.BatchTally.count.Goals as goal

pub returns-then-is_none-clause-tally : goal.returns-then-is_none-clause-tally
returns-then-is_none-clause-tally c = λ os is. rw c.in-Some.is (counted_some_first os c.args.self.now c.in-Some.refusal (grind (arith, common_steps)) is)

pub returns-else-is_none-clause-tally : goal.returns-else-is_none-clause-tally
returns-else-is_none-clause-tally c = λ os is. rw c.in-Some.is (counted_some_more os c.args.self.now (line_refusal_text c.in-Some.refusal) (grind (arith, common_steps)) is)

pub returns-in_default-clause-tally : goal.returns-in_default-clause-tally
returns-in_default-clause-tally c = λ os is.
    let none : c.args.refusal ≡ None = search rules in
    rw none (counted_none os c.args.self.now is)
