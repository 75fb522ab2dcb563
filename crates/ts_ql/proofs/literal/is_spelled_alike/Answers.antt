use Rattle.std.proofs.Common.{◌≡◌}
use Rattle.std.specs.Str.Iter.{chars_rest}
use Rattle.ts_ql.proofs.LiteralLemmas.{alike}
use Rattle.ts_ql.proofs.literal.is_spelled_alike.Goals as goal

pub loop-c-init : goal.loop-c-init
loop-c-init c =
    let text : chars_rest c.chars-chars.result ≡ c.args.text.now = cc in
    let other : chars_rest c.chars-others.result ≡ c.args.other.now = cc in
    rw (text, other) (c.utf8.text, c.utf8.other, alike c.args.text.now c.args.other.now)
