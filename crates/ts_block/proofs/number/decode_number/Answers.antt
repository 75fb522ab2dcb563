use Rattle.std.proofs.Common.{rules, ◌≤◌, ◌∙◌, length, arith}
use Rattle.ts_block.proofs.KnownNumbers.{first_there, first_last, first_high, second_known}
use Rattle.ts_block.proofs.number.decode_number.Goals as goal

pub bounds-bytes-0 : goal.bounds-bytes-0
bounds-bytes-0 c = first_there c.args.bytes.now c.requires

pub slice_bounds-result-count : goal.slice_bounds-result-count
slice_bounds-result-count c = let h = first_there c.args.bytes.now c.requires in omega arith

pub slice_bounds-result-start : goal.slice_bounds-result-start
slice_bounds-result-start c = let h : 1 ≤ length c.args.bytes.now = first_there c.args.bytes.now c.requires in search rules

pub decode_more-requires-clause-number : goal.decode_more-requires-clause-number
decode_more-requires-clause-number c = second_known c.args.bytes.now c.requires c.from-first.result c.from-first.ensures c.if-first-lt128.false

pub returns-then-first-lt128 : goal.returns-then-first-lt128
returns-then-first-lt128 c = first_last c.args.bytes.now c.requires c.from-first.result c.from-first.ensures c.if-first-lt128.true

pub returns-else-first-lt128 : goal.returns-else-first-lt128
returns-else-first-lt128 c = c.decode_more.ensures ∙ first_high c.args.bytes.now c.requires c.from-first.result c.from-first.ensures c.if-first-lt128.false
