use Rattle.std.proofs.Common.{length, ◌+◌, ◌-◌, ◌≡◌, ◌≤◌, bytes_eq}
use Rattle.ts_line.specs.declared.scan.Stops.TheVariants.{Equals}
use Rattle.ts_line.specs.PartTexts.{unescaped}
use Rattle.ts_line.proofs.PieceLemmas.{same_from}
use Rattle.ts_line.proofs.part.have_same_text.Given as goal

abbrev pub invariant-loop-at : goal.invariant-loop-at
invariant-loop-at l = record {
  left : l.at ≤ length l.lefts;
  right : l.other ≤ length l.rights;
  value : same_from Equals l.left l.at l.right l.other ≡ bytes_eq (unescaped Equals l.left) (unescaped Equals l.right);
}

abbrev pub decreases-loop-at : goal.decreases-loop-at
decreases-loop-at l = (length l.lefts - l.at) + (length l.rights - l.other)
