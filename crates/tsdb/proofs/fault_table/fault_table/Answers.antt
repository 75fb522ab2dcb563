use Rattle.std.proofs.Common.{◌≡◌, ◌∙◌, ℕ, map, ap, arith, string_bytes}
use Rattle.std.specs.List.{concat, range_with_len}
use Rattle.ts_reply.specs.OutcomeViews.{given_text}
use Rattle.tsdb.specs.FaultNumbers.{requested_row}
use Rattle.tsdb.specs.FaultTables.{is_listed, fault_table}
use Rattle.tsdb.proofs.FaultTableLemmas.{rows_more, table_whole}
use Rattle.tsdb.proofs.fault_table.fault_table.Goals as goal

pub loop-number-preserved : goal.loop-number-preserved
loop-number-preserved c =
    rows_more (is_listed (given_text c.args.requested)) c.loop-number.number (string_bytes c.loop-number.text) (string_bytes c.numbered_row_to.new.text) c.loop-number.invariant c.in_ok-numbered_row_to.ensures

pub returns : goal.returns
unfolding fault_table
returns c =
    let all : c.loop-number.number ≡ 128 = omega arith in
    c.loop-number.invariant ∙ ap (λ (n : ℕ). concat (map (requested_row (is_listed (given_text c.args.requested))) (range_with_len 0 n))) all ∙ table_whole (is_listed (given_text c.args.requested))
