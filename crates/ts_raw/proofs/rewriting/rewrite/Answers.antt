use Rattle.std.proofs.Common.{◌≤◌, ◌≤ℤ◌, length, vec_len, Result, Ok, Err, IfOk, ap, subst, arith}
use Rattle.std.specs.declared.alloc.AllocError.{AllocError}
use Rattle.std.proofs.lemmas.List.{length-take}
use Rattle.ts_raw.specs.declared.rewriting.Rewritten.{Rewritten}
use Rattle.ts_raw.specs.CodedPoints.{LieFrom}
use Rattle.ts_raw.specs.Rewriting.{blocks_of}
use Rattle.ts_raw.proofs.ApartLemmas.{from_less}
use Rattle.ts_raw.proofs.SplicedLemmas.{rest_last}
use Rattle.ts_raw.proofs.rewriting.rewrite.Goals as goal

pub rewrite_all-requires-2-clause-reached : goal.rewrite_all-requires-2-clause-reached
rewrite_all-requires-2-clause-reached g c =
    subst (λ z. c.args.point.now.0 ≤ℤ z) (rest_last c.args.bytes.now.items c.copy_last.new.bytes.items c.args.handle.now c.in_ok-rest.rest c.args.skip c.requires.marked c.requires.skip c.in_ok-rest.ensures.block) c.requires.reached

pub returns-clause-behind : goal.returns-clause-behind
returns-clause-behind g c =
    let size = ap length c.in_ok-rest.ensures.kept in
    let bound = length-take (vec_len c.args.bytes.now) c.copy_last.new.bytes.items in
    behind (omega (arith, size, bound, c.args.bytes.now.ok.0, c.copy_last.new.bytes.ok.0)) c.rewrite_all-2.result c.rewrite_all-2.ensures.behind
  where
    behind : (vec_len c.args.bytes.now ≤ vec_len c.copy_last.new.bytes) → (r : Result Rewritten AllocError) → IfOk r (λ n. LieFrom (vec_len c.copy_last.new.bytes) (blocks_of n)) → IfOk r (λ n. LieFrom (vec_len c.args.bytes.now) (blocks_of n))
    behind l (Ok n) h = from_less (vec_len c.args.bytes.now) (vec_len c.copy_last.new.bytes) (blocks_of n) l h
    behind l (Err e) h = tt
