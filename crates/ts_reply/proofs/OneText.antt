-- The text of a time, which is unique.
use Rattle.std.proofs.Common.{◌≡◌, ℤ, ◌∙◌, sym, refl}
use Rattle.jiff_core.proofs.DateLemmas.{epoch_day_injective}
use Rattle.jiff_core.proofs.DateTimeLemmas.{civil_nanos_injective, time_nanos_injective}
use Rattle.jiff_core.specs.declared.civil.datetime.DateTime.{DateTime}
use Rattle.jiff.specs.Names.{iso_datetime_text}
use Rattle.ts_core.specs.facts.Facts.{Text}
use Rattle.ts_reply.specs.TimeTexts.{IsTimeText}

same_clock : (a b : DateTime) → (a.date.year ≡ b.date.year) × (a.date.month ≡ b.date.month) × (a.date.day ≡ b.date.day)
    → (a.time.hour ≡ b.time.hour) × (a.time.minute ≡ b.time.minute) × (a.time.second ≡ b.time.second) × (a.time.subsec_nanosecond ≡ b.time.subsec_nanosecond)
    → iso_datetime_text a ≡ iso_datetime_text b
same_clock a b (year, month, day) (hour, minute, second, fraction) = rw (year, month, day, hour, minute, second, fraction) refl

pub one_text : (t : ℤ) (a b : Text) → IsTimeText t a → IsTimeText t b → a ≡ b
one_text t a b x y =
    let same = civil_nanos_injective x.clock y.clock (x.shows ∙ sym y.shows) in
    let text = same_clock x.clock y.clock (epoch_day_injective x.clock.date y.clock.date same.0) (time_nanos_injective x.clock.time y.clock.time same.1) in
    x.written ∙ rw text (sym y.written)
