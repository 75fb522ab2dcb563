-- Reads one after another: each counts.
use Rattle.std.proofs.Common.{ℕ, ◌+◌, ◌≤◌, List, Option, Some, None, arith}
use Rattle.ts_core.specs.io.Devices.{Input, AreAtMostBytes, EachReadCounts}

at_most_same : (known : Option (List ℕ)) (n : ℕ) → AreAtMostBytes known known n n
at_most_same None n = tt
at_most_same (Some xs) n = omega arith

-- no read
pub no_read_counts : (input : Input) → EachReadCounts input input
no_read_counts input = at_most_same input.remaining (input.reads + input.failures + input.ends)

at_most_both : (a b c : Option (List ℕ)) (i j k l m n : ℕ) → m + (j + l) ≤ n + (i + k) → AreAtMostBytes a b i j → AreAtMostBytes b c k l → AreAtMostBytes a c m n
at_most_both None b c i j k l m n le h g = tt
at_most_both (Some xs) None c i j k l m n le h g = absurd h
at_most_both (Some xs) (Some ys) None i j k l m n le h g = absurd g
at_most_both (Some xs) (Some ys) (Some zs) i j k l m n le h g = omega (arith, le, h, g)

-- some reads, then others
pub reads_count_on : (old mid new : Input) → EachReadCounts old mid → EachReadCounts mid new → EachReadCounts old new
reads_count_on old mid new h g =
    at_most_both old.remaining mid.remaining new.remaining (mid.reads + old.failures + old.ends) (old.reads + mid.failures + mid.ends)
    (new.reads + mid.failures + mid.ends) (mid.reads + new.failures + new.ends) (new.reads + old.failures + old.ends) (old.reads + new.failures + new.ends)
    (omega arith) h g
