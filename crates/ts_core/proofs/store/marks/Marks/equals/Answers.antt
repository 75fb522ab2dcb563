use Rattle.std.proofs.Common.{rules}
use Rattle.std.proofs.lemmas.Bool.Decides.{Decides-int_eq}
use Rattle.std.proofs.lemmas.Slice.Eq.{slice_eq-Decides}
use Rattle.ts_core.proofs.store.marks.Marks.equals.Goals as goal

pub returns-then-eq : goal.returns-then-eq
returns-then-eq g c =
    let same = slice_eq-Decides Decides-int_eq c.lows.result.now c.lows-then-eq.result.now c.eq-then-eq.result c.eq-then-eq.ensures in
    search (rules, same)
