-- Plans without a fault, which are valid, and so are their copies.
use Rattle.std.proofs.Common.{◌≡◌, sym, subst, ap, ◌∙◌, List, Some, None, Result, Err}
use Rattle.ts_core.specs.settings.Settings.{Settings}
use Rattle.ts_core.specs.store.Marks.{Marks}
use Rattle.ts_core.specs.plans.Pieces.{Piece, IsValid}
use Rattle.ts_core.specs.plans.Faults.{first_fault}
use Rattle.ts_core.proofs.plans.Validity.{first_fault-valid, first_fault-not_valid}
use Rattle.ts_ql.specs.Selects.{Select}
use Rattle.ts_check.specs.Checks.{Plan, IsValidPlan, IsCheckOf}
use Rattle.ts_check.specs.declared.fault.CheckError.{CheckError}
use Rattle.ts_check.specs.declared.fault.CheckFault.{CheckFault}
use Rattle.ts_check.specs.declared.fault.CheckError.TheVariants as errors

abbrev pub plan : Settings → Marks → Select → List Piece → Plan
plan s m q ps = record { settings = s; marks = m; select = q; pieces = ps }

-- a plan of the same parts is the same
pub same_plan : (s t : Settings) (m n : Marks) (q r : Select) (ps ns : List Piece) → s ≡ t → m ≡ n → q ≡ r → ps ≡ ns → plan s m q ps ≡ plan t n r ns
same_plan s t m n q r ps ns a b c d = λ i. plan (a i) (b i) (c i) (d i)

pub copy_valid : (p k : Plan) → k ≡ p → IsValidPlan p → IsValidPlan k
copy_valid p k e v = subst IsValidPlan (sym e) v

pub faultless_valid : (s : Settings) (m : Marks) (q : Select) (ps ns : List Piece) → ns ≡ ps → None ≡ first_fault s m q.query ns → IsValid s m q.query ps
faultless_valid s m q ps ns e h = subst (IsValid s m q.query) e ((first_fault-valid s m q.query ns).0 (sym h))

pub no_memory : (s : Settings) (m : Marks) (q : Select) (ps ns : List Piece) (r : Result Plan CheckError) → ns ≡ ps → None ≡ first_fault s m q.query ns → r ≡ Err errors.OutOfMemory → IsCheckOf (plan s m q ps) r
no_memory s m q ps ns r e h k = subst (IsCheckOf (plan s m q ps)) (sym k) (ap (first_fault s m q.query) (sym e) ∙ sym h, faultless_valid s m q ps ns e h)

-- a plan with a fault, and so not valid
pub faulty : (s : Settings) (m : Marks) (q : Select) (ps ns : List Piece) (f : CheckFault) → ns ≡ ps → Some (f.kind, f.piece) ≡ first_fault s m q.query ns → IsCheckOf (plan s m q ps) (Err (errors.Fault f))
faulty s m q ps ns f e h =
    let found : first_fault s m q.query ps ≡ Some (f.kind, f.piece) = ap (first_fault s m q.query) (sym e) ∙ sym h in
    (found, first_fault-not_valid s m q.query ps (f.kind, f.piece) found)
