use Rattle.std.proofs.Common.{◌≡◌, ℕ, List, [], length, subst, sym, ap, arith}
use Rattle.ts_image.specs.FieldReading.{UsesBytes}
use Rattle.ts_image.proofs.Reading.{uses_none, calls_nothing}
use Rattle.ts_image.proofs.read.fields.FieldReader.read_string.Goals as goal

pub loop-self-init : goal.loop-self-init
loop-self-init g c =
    let none : c.args.bytes.now.items ≡ [] = c.requires.none in
    record {
      used = subst (λ (x : List ℕ). UsesBytes c.args.self.now c.args.source.now x c.args.self.now c.args.source.now) (sym none) (uses_none c.args.self.now c.args.source.now);
      few = let e : length c.args.bytes.now.items ≡ 0 = ap length none in omega arith;
      calls = calls_nothing c.args.self.now.ahead c.args.source.now c.requires.end;
    }
