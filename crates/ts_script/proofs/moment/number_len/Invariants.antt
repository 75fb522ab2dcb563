use Rattle.std.proofs.Common.{◌≡◌, ◌+◌, drop}
use Rattle.std.specs.Str.{IsCharBoundary}
use Rattle.ts_script.specs.Moments.{number_len}
use Rattle.ts_script.proofs.moment.number_len.Given as goal

abbrev pub invariant-loop-i : goal.invariant-loop-i
invariant-loop-i l = record {
  cut : IsCharBoundary l.text l.i;
  same : number_len l.text ≡ l.i + number_len (drop l.i l.text);
}
