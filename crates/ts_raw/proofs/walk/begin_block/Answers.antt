use Rattle.std.proofs.Common.{◌≡◌, ℤ, List, [], ◌++◌, ◌∙◌, ap, arith}
use Rattle.std.proofs.lemmas.List.{nil_from_length}
use Rattle.ts_raw.specs.CodedPoints.{coded_points}
use Rattle.ts_raw.proofs.WalkLemmas.{walk_begins, none_coded}
use Rattle.ts_raw.proofs.walk.begin_block.Goals as goal

pub returns-in-Some-clause-points : goal.returns-in-Some-clause-points
returns-in-Some-clause-points c =
    let none : c.args.decoder.now ≡ [] = nil_from_length c.args.decoder.now (let a = c.len.ensures in let b = c.if-len-gt0.false in omega arith) in
    let is = c.in-Some.ensures.cases.0 in
    ap (λ (x : List (ℤ × ℤ)). x ++ coded_points c.args.bytes.now c.in-Some.others.now) c.decoder_of.ensures
    ∙ walk_begins c.args.decoder.now c.args.bytes.now c.args.handles.now.now c.in-Some.handle.now c.in-Some.others.now none is

pub returns-in_default-clause-some : goal.returns-in_default-clause-some
returns-in_default-clause-some c = λ _. none_coded c.args.bytes.now c.args.handles.now.now c.in_default.ensures.cases
