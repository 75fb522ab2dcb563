use Rattle.std.proofs.Common.{◌≡◌, ℕ, [], false, true≢false, refl, sym, ap, ◌∙◌, Result, Err, arith}
use Rattle.std.proofs.KnownBytes.{Consumes-nil}
use Rattle.std.proofs.lemmas.Result.{err_from_is_err_and}
use Rattle.ts_core.specs.io.Devices.{Input, Output}
use Rattle.ts_core.proofs.io.ReadCounts.{no_read_counts}
use Rattle.ts_script.specs.Script.{IsReplay}
use Rattle.ts_script.specs.declared.run_fault.RunFault.{RunFault}
use Rattle.ts_script.specs.declared.run_fault.RunFault.TheVariants.{OutOfMemory}
use Rattle.ts_script.proofs.Progress.{none_answered}
use Rattle.ts_script.proofs.engine.run_within.Goals as goal

-- nothing is read or written where there is no memory
without_memory : {T : Type 0} (reads : ℕ) (source : Input) (sink : Output) (result : Result T RunFault) → result ≡ Err OutOfMemory → IsReplay reads source sink result source sink
without_memory reads source sink result none = rw none record {
  came = [];
  ended = false;
  read = record { bytes = Consumes-nil source.remaining; end = λ h. absurd (true≢false (sym h)); ends = omega arith };
  whole = tt;
  answered = λ w. none_answered sink.contents;
  begun = λ w. cc;
  memory = λ e. (refl, refl);
  reader = omega arith;
  writer = omega arith;
  end = tt;
  within = omega arith;
  each = no_read_counts source;
  limit = λ e. cc;
}

pub returns-in_err-lines : goal.returns-in_err-lines
returns-in_err-lines g c =
    let p = err_from_is_err_and c.from_residual.result c.from_residual.ensures.1 in
    without_memory c.args.reads c.args.source.now c.args.sink.now c.from_residual.result (p.1 ∙ ap Err p.2)

pub returns-in_err-text : goal.returns-in_err-text
returns-in_err-text g c =
    let p = err_from_is_err_and c.from_residual-in_err-text.result c.from_residual-in_err-text.ensures.1 in
    without_memory c.args.reads c.args.source.now c.args.sink.now c.from_residual-in_err-text.result (p.1 ∙ ap Err p.2)

pub returns-in_err-answers : goal.returns-in_err-answers
returns-in_err-answers g c =
    let p = err_from_is_err_and c.from_residual-in_err-answers.result c.from_residual-in_err-answers.ensures.1 in
    without_memory c.args.reads c.args.source.now c.args.sink.now c.from_residual-in_err-answers.result (p.1 ∙ ap Err p.2)

pub returns-in_err-machine : goal.returns-in_err-machine
returns-in_err-machine g c =
    let p = err_from_is_err_and c.from_residual-in_err-machine.result c.from_residual-in_err-machine.ensures.1 in
    without_memory c.args.reads c.args.source.now c.args.sink.now c.from_residual-in_err-machine.result (p.1 ∙ ap Err p.2)
