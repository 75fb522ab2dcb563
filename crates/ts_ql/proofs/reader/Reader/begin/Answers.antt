use Rattle.std.proofs.Common.{sym, ap, ◌∙◌, Err, Result}
use Rattle.ts_ql.specs.QueryFaults.{Fault}
use Rattle.ts_ql.specs.Reading.{Progress, progress, begun}
use Rattle.ts_ql.specs.Tokens.{lexeme}
use Rattle.ts_ql.proofs.ReadingLemmas.{begun_other, begun_last}
use Rattle.ts_ql.proofs.reader.Reader.begin.Goals as goal

pub returns-else-self-eq0-clause-value : goal.returns-else-self-eq0-clause-value
unfolding begun
returns-else-self-eq0-clause-value g c = begun_last c.args.token.now.kind (lexeme c.args.token.now) (progress c.args.self.now) c.in-End.is c.if-self-eq0.false

pub returns-in_default-clause-value : goal.returns-in_default-clause-value
unfolding begun
returns-in_default-clause-value g c =
    let fails : Fault → Result Progress Fault = λ f. Err f in
    begun_other c.args.token.now.kind (lexeme c.args.token.now) (progress c.args.self.now) c.in_default.not-Keyword c.in_default.not-End ∙ ap fails (sym c.unexpected-in_default.ensures)
