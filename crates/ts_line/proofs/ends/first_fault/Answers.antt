use Rattle.std.proofs.lemmas.Str.{IsCharBoundary-start}
use Rattle.ts_line.proofs.ends.first_fault.Goals as goal

pub after_spaces-start-requires : goal.after_spaces-start-requires
after_spaces-start-requires c = IsCharBoundary-start c.content-line.result.now c.content-line.utf8
