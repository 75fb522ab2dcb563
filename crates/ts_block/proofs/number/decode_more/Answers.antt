use Rattle.std.proofs.Common.{rules, ◌<◌, ◌≤◌, length}
use Rattle.ts_block.proofs.KnownNumbers.{second_there, third_there, fourth_there, fifth_there, sixth_there, second_last, third_last, fourth_last, fifth_last, sixth_last}
use Rattle.ts_block.proofs.number.decode_more.Goals as goal

pub bounds-bytes-0 : goal.bounds-bytes-0
bounds-bytes-0 c = second_there c.args.low c.args.bytes.now c.requires.number

pub slice_bounds-result-count : goal.slice_bounds-result-count
slice_bounds-result-count c = second_there c.args.low c.args.bytes.now c.requires.number

pub slice_bounds-result-start : goal.slice_bounds-result-start
slice_bounds-result-start c = let h : 1 ≤ length c.args.bytes.now = second_there c.args.low c.args.bytes.now c.requires.number in search rules

pub returns-then-second-lt128 : goal.returns-then-second-lt128
returns-then-second-lt128 c = second_last c.args.low c.args.bytes.now c.requires.number c.from-second.result c.from-second.ensures c.if-second-lt128.true

pub bounds-bytes-1 : goal.bounds-bytes-1
bounds-bytes-1 c = let h : 1 < length c.args.bytes.now = third_there c.args.low c.args.bytes.now c.requires.number c.from-second.result c.from-second.ensures c.if-second-lt128.false in search rules

pub slice_bounds-result-count-then-third-lt128 : goal.slice_bounds-result-count-then-third-lt128
slice_bounds-result-count-then-third-lt128 c = third_there c.args.low c.args.bytes.now c.requires.number c.from-second.result c.from-second.ensures c.if-second-lt128.false

pub slice_bounds-result-start-then-third-lt128 : goal.slice_bounds-result-start-then-third-lt128
slice_bounds-result-start-then-third-lt128 c = let h : 2 ≤ length c.args.bytes.now = third_there c.args.low c.args.bytes.now c.requires.number c.from-second.result c.from-second.ensures c.if-second-lt128.false in search rules

pub returns-then-third-lt128 : goal.returns-then-third-lt128
returns-then-third-lt128 c = third_last c.args.low c.args.bytes.now c.requires.number c.from-second.result c.from-second.ensures c.if-second-lt128.false c.from-third.result c.from-third.ensures c.if-third-lt128.true

pub bounds-bytes-2 : goal.bounds-bytes-2
bounds-bytes-2 c = let h : 2 < length c.args.bytes.now = fourth_there c.args.low c.args.bytes.now c.requires.number c.from-second.result c.from-second.ensures c.if-second-lt128.false c.from-third.result c.from-third.ensures c.if-third-lt128.false in search rules

pub slice_bounds-result-count-then-fourth-lt128 : goal.slice_bounds-result-count-then-fourth-lt128
slice_bounds-result-count-then-fourth-lt128 c = fourth_there c.args.low c.args.bytes.now c.requires.number c.from-second.result c.from-second.ensures c.if-second-lt128.false c.from-third.result c.from-third.ensures c.if-third-lt128.false

pub slice_bounds-result-start-then-fourth-lt128 : goal.slice_bounds-result-start-then-fourth-lt128
slice_bounds-result-start-then-fourth-lt128 c = let h : 3 ≤ length c.args.bytes.now = fourth_there c.args.low c.args.bytes.now c.requires.number c.from-second.result c.from-second.ensures c.if-second-lt128.false c.from-third.result c.from-third.ensures c.if-third-lt128.false in search rules

pub returns-then-fourth-lt128 : goal.returns-then-fourth-lt128
returns-then-fourth-lt128 c = fourth_last c.args.low c.args.bytes.now c.requires.number c.from-second.result c.from-second.ensures c.if-second-lt128.false c.from-third.result c.from-third.ensures c.if-third-lt128.false c.from-fourth.result c.from-fourth.ensures c.if-fourth-lt128.true

pub bounds-bytes-3 : goal.bounds-bytes-3
bounds-bytes-3 c = let h : 3 < length c.args.bytes.now = fifth_there c.args.low c.args.bytes.now c.requires.number c.from-second.result c.from-second.ensures c.if-second-lt128.false c.from-third.result c.from-third.ensures c.if-third-lt128.false c.from-fourth.result c.from-fourth.ensures c.if-fourth-lt128.false in search rules

pub slice_bounds-result-count-then-fifth-lt128 : goal.slice_bounds-result-count-then-fifth-lt128
slice_bounds-result-count-then-fifth-lt128 c = fifth_there c.args.low c.args.bytes.now c.requires.number c.from-second.result c.from-second.ensures c.if-second-lt128.false c.from-third.result c.from-third.ensures c.if-third-lt128.false c.from-fourth.result c.from-fourth.ensures c.if-fourth-lt128.false

pub slice_bounds-result-start-then-fifth-lt128 : goal.slice_bounds-result-start-then-fifth-lt128
slice_bounds-result-start-then-fifth-lt128 c = let h : 4 ≤ length c.args.bytes.now = fifth_there c.args.low c.args.bytes.now c.requires.number c.from-second.result c.from-second.ensures c.if-second-lt128.false c.from-third.result c.from-third.ensures c.if-third-lt128.false c.from-fourth.result c.from-fourth.ensures c.if-fourth-lt128.false in search rules

pub returns-then-fifth-lt128 : goal.returns-then-fifth-lt128
returns-then-fifth-lt128 c = fifth_last c.args.low c.args.bytes.now c.requires.number c.from-second.result c.from-second.ensures c.if-second-lt128.false c.from-third.result c.from-third.ensures c.if-third-lt128.false c.from-fourth.result c.from-fourth.ensures c.if-fourth-lt128.false c.from-fifth.result c.from-fifth.ensures c.if-fifth-lt128.true

pub bounds-bytes-4 : goal.bounds-bytes-4
bounds-bytes-4 c = let h : 4 < length c.args.bytes.now = sixth_there c.args.low c.args.bytes.now c.requires.number c.from-second.result c.from-second.ensures c.if-second-lt128.false c.from-third.result c.from-third.ensures c.if-third-lt128.false c.from-fourth.result c.from-fourth.ensures c.if-fourth-lt128.false c.from-fifth.result c.from-fifth.ensures c.if-fifth-lt128.false in search rules

pub slice_bounds-result-count-then-sixth-lt128 : goal.slice_bounds-result-count-then-sixth-lt128
slice_bounds-result-count-then-sixth-lt128 c = sixth_there c.args.low c.args.bytes.now c.requires.number c.from-second.result c.from-second.ensures c.if-second-lt128.false c.from-third.result c.from-third.ensures c.if-third-lt128.false c.from-fourth.result c.from-fourth.ensures c.if-fourth-lt128.false c.from-fifth.result c.from-fifth.ensures c.if-fifth-lt128.false

pub slice_bounds-result-start-then-sixth-lt128 : goal.slice_bounds-result-start-then-sixth-lt128
slice_bounds-result-start-then-sixth-lt128 c = let h : 5 ≤ length c.args.bytes.now = sixth_there c.args.low c.args.bytes.now c.requires.number c.from-second.result c.from-second.ensures c.if-second-lt128.false c.from-third.result c.from-third.ensures c.if-third-lt128.false c.from-fourth.result c.from-fourth.ensures c.if-fourth-lt128.false c.from-fifth.result c.from-fifth.ensures c.if-fifth-lt128.false in search rules

pub returns-then-sixth-lt128 : goal.returns-then-sixth-lt128
returns-then-sixth-lt128 c = sixth_last c.args.low c.args.bytes.now c.requires.number c.from-second.result c.from-second.ensures c.if-second-lt128.false c.from-third.result c.from-third.ensures c.if-third-lt128.false c.from-fourth.result c.from-fourth.ensures c.if-fourth-lt128.false c.from-fifth.result c.from-fifth.ensures c.if-fifth-lt128.false c.from-sixth.result c.from-sixth.ensures c.if-sixth-lt128.true
