use Rattle.std.proofs.Common.{◌≡◌, ℕ, ◌-◌, List, length, take, drop, subst, arith, ap, sym, ◌∙◌}
use Rattle.std.proofs.lemmas.List.{take_rest}
use Rattle.std.proofs.lemmas.Fmt.{length-decimal-le}
use Rattle.ts_core.specs.io.OutputBuffering.{IsBuffered}
use Rattle.ts_script.proofs.reply.send_count.Goals as goal

pub write_digits-start-requires : goal.write_digits-start-requires
write_digits-start-requires g c = (length-decimal-le 20 c.args.count (omega arith) (omega arith) (omega arith), omega arith)

whole_rest : (n k : ℕ) (bs : List ℕ) → length bs ≡ n → take (n - k) (drop k bs) ≡ drop k bs
whole_rest n k bs e = ap (λ (j : ℕ). take (j - k) (drop k bs)) (sym e) ∙ take_rest bs k

pub returns : goal.returns
returns g c =
    let start = c.write_digits-start.result in
    let buf = c.write_digits-start.new.buf in
    let len : length buf ≡ 21 = omega (arith, c.write_digits-start.auto.buf) in
    record { sent = subst (λ (l : List ℕ). IsBuffered c.args.sink.now c.args.answers.now c.write_all.result l c.write_all.new.sink c.write_all.new.self) (whole_rest 21 start buf len ∙ c.write_digits-start.ensures.written) c.write_all.ensures }
