use Rattle.std.proofs.Common.{subst}
use Rattle.ts_core.specs.facts.Facts.{Text}
use Rattle.ts_script.specs.LineReading.{IsTextOf}
use Rattle.ts_script.specs.MachineState.{StepTo}
use Rattle.ts_script.specs.ScriptReplies.{text_of}
use Rattle.ts_script.specs.declared.line_reader.Next.{Next}
use Rattle.ts_script.proofs.MachineLemmas.{was_too_long}
use Rattle.ts_script.proofs.engine.answer.Goals as goal

pub returns-in-TooLong : goal.returns-in-TooLong
returns-in-TooLong c = λ text s is i.
    was_too_long text (text_of c.refuse.result) s c.refuse.new.self (subst (λ (k : Next). IsTextOf text k c.args.line.now) c.in-TooLong.is is) (c.refuse.ensures s i)

pub returns-in-Line : goal.returns-in-Line
returns-in-Line c = λ text s is i.
    let same = subst (λ (k : Next). IsTextOf text k c.args.line.now) c.in-Line.is is in
    subst (λ (t : Text). StepTo t s (text_of c.serve.result) c.serve.new.self) same (c.serve.ensures s i)
