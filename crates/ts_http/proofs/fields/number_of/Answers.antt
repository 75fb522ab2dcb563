use Rattle.std.proofs.Common.{rules, ◌≡◌}
use Rattle.ts_http.proofs.LengthLemmas.{length_is_text, length_parses}
use Rattle.ts_http.proofs.fields.number_of.Goals as goal

pub unreachable-requires : goal.unreachable-requires
unreachable-requires c = c.in_default.ensures.cases.0 (length_is_text c.args.value.now c.requires)

pub unreachable-requires-in-Err : goal.unreachable-requires-in-Err
unreachable-requires-in-Err c =
    let same : c.in-Ok.text.now ≡ c.args.value.now = search rules in
    c.in-Err.ensures.value.0 (rw same (length_parses c.args.value.now c.requires))
