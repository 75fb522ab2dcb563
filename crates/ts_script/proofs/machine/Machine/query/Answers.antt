use Rattle.std.proofs.Common.{◌≡◌, ◌∙◌, ap, sym, subst, None, option_map, string_bytes}
use Rattle.ts_reply.specs.OutcomeViews.{given_text}
use Rattle.ts_script.specs.MachineState.{MachineState, IsMachineIn}
use Rattle.ts_script.proofs.MachineLemmas.{serving, was_replied, replied_no_memory}
use Rattle.ts_script.proofs.machine.Machine.query.Goals as goal

pub returns-in-Ok : goal.returns-in-Ok
returns-in-Ok c = λ s i.
    let m : MachineState = serving c.self.inside.moment c.self.inside.precision c.self.inside.epoch c.self.inside.fresh (option_map string_bytes c.self.inside.certificate) c.self.inside.store in
    let before = subst (λ (k : MachineState). IsMachineIn s k) (sym c.self.view_is) i in
    let own : given_text c.as_deref.result ≡ m.certificate = c.as_deref.ensures.value ∙ ap (option_map string_bytes) c.take-certificate.ensures.value in
    let none : option_map string_bytes c.take-certificate.new.self ≡ None = ap (option_map string_bytes) c.take-certificate.ensures.after in
    was_replied c.args.text.now (string_bytes c.in-Ok.body) (given_text c.as_deref.result) (option_map string_bytes c.take-certificate.new.self) s m before own none c.in-Ok.ensures

pub returns : goal.returns
returns c = λ s i.
    let m : MachineState = serving c.self.inside.moment c.self.inside.precision c.self.inside.epoch c.self.inside.fresh (option_map string_bytes c.self.inside.certificate) c.self.inside.store in
    let before = subst (λ (k : MachineState). IsMachineIn s k) (sym c.self.view_is) i in
    let none : option_map string_bytes c.take-certificate.new.self ≡ None = ap (option_map string_bytes) c.take-certificate.ensures.after in
    replied_no_memory c.args.text.now (option_map string_bytes c.take-certificate.new.self) s m before none
