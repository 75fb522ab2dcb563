use Rattle.std.proofs.Common.{◌≡◌, ◌∙◌, ap, sym, string_bytes}
use Rattle.std.specs.Fmt.{decimal}
use Rattle.ts_core.specs.text.FaultCodes.{code_number}
use Rattle.ts_reply.specs.OutcomeViews.{given_text}
use Rattle.tsdb.specs.FaultTables.{is_wanted, is_listed}
use Rattle.tsdb.proofs.FaultTableLemmas.{row_put, row_left}
use Rattle.tsdb.proofs.fault_table.row_to.Goals as goal

pub returns-then-not-is_wanted : goal.returns-then-not-is_wanted
returns-then-not-is_wanted c =
    let digits : c.format-digits.result.now ≡ decimal (code_number c.args.code) = c.format-digits.ensures.text ∙ ap decimal c.number.ensures in
    let requested : is_listed (given_text c.args.requested) c.args.code ≡ c.is_wanted.result = sym (c.is_wanted.ensures ∙ ap (is_wanted (given_text c.args.requested)) digits) in
    row_left (is_listed (given_text c.args.requested)) c.args.code (string_bytes c.args.text.now) (requested ∙ c.if-not-is_wanted.true)

pub returns : goal.returns
returns c =
    let digits : c.format-digits.result.now ≡ decimal (code_number c.args.code) = c.format-digits.ensures.text ∙ ap decimal c.number.ensures in
    let requested : is_listed (given_text c.args.requested) c.args.code ≡ c.is_wanted.result = sym (c.is_wanted.ensures ∙ ap (is_wanted (given_text c.args.requested)) digits) in
    row_put c.push_all.result (is_listed (given_text c.args.requested)) c.args.code (string_bytes c.args.text.now) (string_bytes c.push_all.new.text) c.format-digits.result.now c.message.result.now
    (requested ∙ c.if-not-is_wanted.false) digits c.message.ensures c.push_all.ensures.ok
