use Rattle.std.proofs.Common.{drop}
use Rattle.ts_raw.proofs.TaggedLemmas.{IsTaggedSoFar}
use Rattle.ts_raw.proofs.index.tagged.tagged_columns.Given as goal

abbrev pub invariant-loop-number : goal.invariant-loop-number
invariant-loop-number g l = IsTaggedSoFar l.series l.columns.columns l.field l.tag l.value l.numbers l.found.items (drop l.number-index l.numbers)
