use Rattle.std.proofs.Common.{rules, ◌≡◌, ◌++◌, refl, sym, subst, inl, unwrap_or, [], arith}
use Rattle.std.proofs.KnownBytes.{Consumes-nil}
use Rattle.ts_core.specs.facts.Facts.{Text}
use Rattle.ts_http.specs.BodiesTaken.{TellsBody}
use Rattle.ts_http.specs.OutcomeReplies.{ActsAs}
use Rattle.ts_http.proofs.serve.act_on_body.Goals as goal

pub returns-then-len-eq0-clause-acted : goal.returns-then-len-eq0-clause-acted
returns-then-len-eq0-clause-acted g c =
    let none : c.args.len ≡ 0 = c.if-len-eq0.true in
    record {
      acted = ([], Consumes-nil c.args.source.now.remaining, inl ([], c.args.head.now.after.now ++ ([] ++ unwrap_or c.args.source.now.remaining []), refl, sym none, refl, c.act.ensures));
      unread = tt;
      failures = search rules;
      reads = omega arith;
    }

pub returns-in-Whole-clause-acted : goal.returns-in-Whole-clause-acted
returns-in-Whole-clause-acted g c =
    let t = c.in_ok-body.ensures.taken in
    let told = subst (TellsBody c.args.len (c.args.head.now.after.now ++ (t.body.0 ++ unwrap_or c.receive_body.new.source.remaining []))) c.in-Whole.is t.body.2 in
    let did = subst (λ (b : Text). ActsAs c.args.now c.args.head.now.route c.args.head.now.method c.args.head.now.query.now b c.args.store.now c.act-in-Whole.result c.act-in-Whole.new.store) c.deref.ensures.value c.act-in-Whole.ensures in
    let quiet = rw c.in-Whole.is at t.ends in
    record {
      acted = (t.body.0, t.body.1, inl (c.in-Whole.body.items, told.0, told.1, told.2, quiet, did));
      unread = tt;
      failures = t.failures;
      reads = t.reads;
    }
