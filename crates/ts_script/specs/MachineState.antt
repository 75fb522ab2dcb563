-- The machine that serves a script, and the state that it represents. (Own rule.)
use Rattle.std.specs.Prelude.{◌≡◌, ℕ, zero, suc, ℤ, Bool, Option, Some, None, refl}
use Rattle.std.specs.Coded.{Coded, code_by, coded×, coded_ℕ, coded_ℤ, coded_bool, coded_option}
use Rattle.ts_core.specs.facts.Facts.{Text}
use Rattle.ts_core.specs.store.StoreData.{StoreData}
use Rattle.ts_core.specs.store.StoreCodes.{coded_text, coded_store_data}
use Rattle.ts_core.specs.declared.facts.time_unit.TimeUnit.{TimeUnit}
use Rattle.ts_core.specs.declared.facts.time_unit.TimeUnit.TheVariants.{Nanoseconds, Microseconds, Milliseconds, Seconds, Minutes, Hours, Days, Weeks}
use Rattle.ts_store.specs.write.LineTexts.{IsStateOf as IsStoreIn}
use Rattle.ts_store.specs.store.Inventories.{inventory_of}
use Rattle.ts_reply.specs.Answering.{IsReply}
use Rattle.ts_reply.specs.Explaining.{IsExplanation}
use Rattle.ts_reply.specs.declared.epoch.Epoch.{Epoch}
use Rattle.ts_reply.specs.declared.epoch.Epoch.TheVariants as epochs
use Rattle.ts_script.specs.Commands.{Command}
use Rattle.ts_script.specs.Machine.{State, no_longer_fresh, Transition, Step}
use Rattle.ts_script.specs.ScriptReplies.{line, unknown_text}

pub record MachineState : Type 0 where
  pub moment : ℤ
  pub precision : TimeUnit
  pub epoch : Epoch
  pub fresh : Bool
  pub certificate : Option Text
  pub kept : StoreData

-- a machine with this store instead of its own
abbrev pub keeping : StoreData → MachineState → MachineState
keeping k m = record m { kept = k }

pub record IsMachineIn (s : State) (m : MachineState) : Type 0 where
  pub moment : m.moment ≡ s.moment
  pub precision : m.precision ≡ s.precision
  pub epoch : m.epoch ≡ s.epoch
  pub fresh : m.fresh ≡ s.fresh
  pub certificate : m.certificate ≡ s.certificate
  pub store : IsStoreIn s.store m.kept
  pub inventory : inventory_of m.kept ≡ s.inventory

-- in this state, queries have a reply with this body, here with an LF
abbrev pub HasReply : State → Text → Option Text → Text → Type 0
HasReply s text certificate answer = (body : Text) × ((good : Bool)
    × IsReply s.store.opening s.store.history s.moment text certificate s.epoch good body) × (answer ≡ line body)

-- in this state, queries have an explanation with this body, here with an LF
abbrev pub HasExplanation : State → Text → Text → Type 0
HasExplanation s text answer = (body : Text)
    × ((good : Bool) × IsExplanation s.store.opening s.store.history s.moment text good body) × (answer ≡ line body)

-- from this state, the machine represents a state that the command may lead to
abbrev pub TransitionTo : Command → State → Text → MachineState → Type 0
TransitionTo command s answer m = (s' : State) × Transition s command answer s' × IsMachineIn s' m

-- a line that isn't text or is too long was answered as an unknown command
abbrev pub Refused : State → Text → MachineState → Type 0
Refused s answer m = (answer ≡ line unknown_text) × IsMachineIn (no_longer_fresh s) m

abbrev pub StepTo : Text → State → Text → MachineState → Type 0
StepTo text s answer m = (s' : State) × Step s text answer s' × IsMachineIn s' m

-- ---- the code of a machine's value

abbrev pub unit_number : TimeUnit → ℕ
unit_number Nanoseconds = 0
unit_number Microseconds = 1
unit_number Milliseconds = 2
unit_number Seconds = 3
unit_number Minutes = 4
unit_number Hours = 5
unit_number Days = 6
unit_number Weeks = 7

abbrev pub numbered_unit : ℕ → TimeUnit
numbered_unit zero = Nanoseconds
numbered_unit (suc zero) = Microseconds
numbered_unit (suc (suc zero)) = Milliseconds
numbered_unit (suc (suc (suc zero))) = Seconds
numbered_unit (suc (suc (suc (suc zero)))) = Minutes
numbered_unit (suc (suc (suc (suc (suc zero))))) = Hours
numbered_unit (suc (suc (suc (suc (suc (suc zero)))))) = Days
numbered_unit (suc (suc (suc (suc (suc (suc (suc n))))))) = Weeks

pub numbered_unit-of : (p : TimeUnit) → numbered_unit (unit_number p) ≡ p
numbered_unit-of Nanoseconds = refl
numbered_unit-of Microseconds = refl
numbered_unit-of Milliseconds = refl
numbered_unit-of Seconds = refl
numbered_unit-of Minutes = refl
numbered_unit-of Hours = refl
numbered_unit-of Days = refl
numbered_unit-of Weeks = refl

abbrev pub coded_unit : Coded TimeUnit
coded_unit = code_by ℕ coded_ℕ unit_number numbered_unit numbered_unit-of

abbrev pub epoch_unit : Epoch → Option TimeUnit
epoch_unit epochs.Text = None
epoch_unit (epochs.Units unit) = Some unit

abbrev pub epoch_with : Option TimeUnit → Epoch
epoch_with None = epochs.Text
epoch_with (Some unit) = epochs.Units unit

pub epoch_with-of : (e : Epoch) → epoch_with (epoch_unit e) ≡ e
epoch_with-of epochs.Text = refl
epoch_with-of (epochs.Units unit) = refl

abbrev pub coded_epoch : Coded Epoch
coded_epoch = code_by (Option TimeUnit) (coded_option coded_unit) epoch_unit epoch_with epoch_with-of

abbrev pub coded_machine_state : Coded MachineState
coded_machine_state =
    code_by (ℤ × (TimeUnit × (Epoch × (Bool × (Option Text × StoreData)))))
    (coded× coded_ℤ (coded× coded_unit
    (coded× coded_epoch (coded× coded_bool (coded× (coded_option coded_text) coded_store_data)))))
    (λ m. (m.moment, (m.precision, (m.epoch, (m.fresh, (m.certificate, m.kept))))))
    (λ p. record {
      moment = p.0;
      precision = p.1.0;
      epoch = p.1.1.0;
      fresh = p.1.1.1.0;
      certificate = p.1.1.1.1.0;
      kept = p.1.1.1.1.1;
    }) (λ _. refl)
