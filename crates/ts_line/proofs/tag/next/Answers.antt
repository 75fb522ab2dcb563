use Rattle.std.proofs.Common.{◌≡◌, ◌+◌, arith}
use Rattle.std.proofs.lemmas.Result.{err_from_is_err_and}
use Rattle.ts_line.specs.declared.scan.Stops.TheVariants.{Equals}
use Rattle.ts_line.specs.PartTexts.{piece_at}
use Rattle.ts_line.proofs.KeyLemmas.{key_refused, key_taken}
use Rattle.ts_line.proofs.tag.next.Goals as goal

pub returns-in_err-check_key-clause-value : goal.returns-in_err-check_key-clause-value
returns-in_err-check_key-clause-value g c =
    let p = err_from_is_err_and c.from_residual-in_err-check_key.result c.from_residual-in_err-check_key.ensures.1 in
    rw (p.1, p.2) (key_refused c.args.before.now c.args.line.now c.args.start _ c.in_ok-key.key c.text.result.now c.in_err-check_key.field-0.0 c.in_ok-key_end.ensures.value (omega arith) c.in_ok-key.ensures c.text.ensures c.in_err-check_key.ensures.value)

pub returns-clause-value : goal.returns-clause-value
returns-clause-value g c =
    let value : c.in_ok-value.value ≡ piece_at Equals c.args.line.now (c.in_ok-key_end.key_end.at + 1) c.in_ok-key_end.value_end.at = rw (← c.after.ensures.value) c.in_ok-value.ensures in
    key_taken c.args.before.now c.args.line.now c.args.start _ c.in_ok-key.key c.in_ok-value.value c.text.result.now c.new.result c.in_ok-key_end.ensures.value (omega arith) c.in_ok-key.ensures value c.text.ensures c.in_ok-check_key.ensures.value c.new.ensures
