use Rattle.std.proofs.Common.{◌∙◌, ap, Err}
use Rattle.std.proofs.lemmas.Result.{err_from_is_err_and}
use Rattle.ts_check.proofs.CheckedPlans.{same_plan, copy_valid, faultless_valid, no_memory, faulty}
use Rattle.ts_check.proofs.checked.check.Goals as goal

pub invariant_of-result : goal.invariant_of-result
invariant_of-result g c =
    copy_valid _ _ (same_plan _ _ _ _ _ _ _ _ c.in_ok-try_clone.ensures c.in_ok-try_clone-2.ensures c.in_ok-try_clone-3.ensures (c.in_ok-try_clone-4.ensures ∙ c.pieces-2.ensures.value))
    (faultless_valid c.args.settings.now c.args.marks.now c.args.query.now c.args.certificate.now _ c.pieces.ensures.value c.in_default.ensures)

pub returns : goal.returns
returns g c = (
  same_plan _ _ _ _ _ _ _ _ c.in_ok-try_clone.ensures c.in_ok-try_clone-2.ensures c.in_ok-try_clone-3.ensures (c.in_ok-try_clone-4.ensures ∙ c.pieces-2.ensures.value),
  faultless_valid c.args.settings.now c.args.marks.now c.args.query.now c.args.certificate.now _ c.pieces.ensures.value c.in_default.ensures,
)

pub returns-in-Some : goal.returns-in-Some
returns-in-Some g c = faulty c.args.settings.now c.args.marks.now c.args.query.now c.args.certificate.now _ (record { kind = c.in-Some.kind; piece = c.in-Some.piece }) c.pieces.ensures.value c.in-Some.ensures

pub returns-in_err-try_clone : goal.returns-in_err-try_clone
returns-in_err-try_clone g c =
    let p = err_from_is_err_and c.from_residual.result c.from_residual.ensures.1 in
    no_memory c.args.settings.now c.args.marks.now c.args.query.now c.args.certificate.now _ _ c.pieces.ensures.value c.in_default.ensures (p.1 ∙ ap (λ e. Err e) p.2)

pub returns-in_err-try_clone-2 : goal.returns-in_err-try_clone-2
returns-in_err-try_clone-2 g c =
    let p = err_from_is_err_and c.from_residual-in_err-try_clone-2.result c.from_residual-in_err-try_clone-2.ensures.1 in
    no_memory c.args.settings.now c.args.marks.now c.args.query.now c.args.certificate.now _ _ c.pieces.ensures.value c.in_default.ensures (p.1 ∙ ap (λ e. Err e) p.2)

pub returns-in_err-try_clone-3 : goal.returns-in_err-try_clone-3
returns-in_err-try_clone-3 g c =
    let p = err_from_is_err_and c.from_residual-in_err-try_clone-3.result c.from_residual-in_err-try_clone-3.ensures.1 in
    no_memory c.args.settings.now c.args.marks.now c.args.query.now c.args.certificate.now _ _ c.pieces.ensures.value c.in_default.ensures (p.1 ∙ ap (λ e. Err e) p.2)

pub returns-in_err-try_clone-4 : goal.returns-in_err-try_clone-4
returns-in_err-try_clone-4 g c =
    let p = err_from_is_err_and c.from_residual-in_err-try_clone-4.result c.from_residual-in_err-try_clone-4.ensures.1 in
    no_memory c.args.settings.now c.args.marks.now c.args.query.now c.args.certificate.now _ _ c.pieces.ensures.value c.in_default.ensures (p.1 ∙ ap (λ e. Err e) p.2)
