use Rattle.std.proofs.Common.{ap, inl, inr, refl}
use Rattle.ts_http.specs.Acts.{bad_reply}
use Rattle.ts_http.proofs.rules.refused.Goals as goal

pub returns-in-Ok : goal.returns-in-Ok
returns-in-Ok c = inl (ap bad_reply c.in-Ok.ensures)

pub returns-in-Err : goal.returns-in-Err
returns-in-Err c = inr refl
