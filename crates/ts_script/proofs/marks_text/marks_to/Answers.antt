use Rattle.std.proofs.Common.{rules, ◌≡◌, ◌+◌, ◌*◌, ◌∙◌, length, string_bytes, string_len, w64, SFits, to_z, of_z, to_z-of_z, arith, ap, ap₂}
use Rattle.ts_script.specs.MarksTexts.{lows_text}
use Rattle.ts_store.proofs.rules.ShortNames.{names_short}
use Rattle.ts_script.proofs.MarksTextLemmas.{marks_put, no_longer}
use Rattle.ts_script.proofs.marks_text.marks_to.Goals as goal

pub lows_to-requires : goal.lows_to-requires
lows_to-requires c = rw c.rules.ensures.value (names_short c.args.settings.now c.rules.ensures.faultless)

pub returns : goal.returns
returns c =
    let raw = c.in_ok-raw_to.ensures in
    let lows = c.lows_to.ensures in
    let fits : SFits w64 c.nanos.result = search rules in
    let whole : to_z w64 (of_z w64 c.nanos.result) ≡ c.nanos.result = to_z-of_z fits in
    record {
      ok = marks_put c.lows_to.result (string_bytes c.args.text.now) (string_bytes c.raw_to.new.text) (string_bytes c.lows_to.new.text) (lows_text c.rules.result.now c.lows.result.now) c.nanos.result
          c.args.settings.now c.args.marks.now (c.nanos.ensures.value ∙ c.raw.ensures) (ap₂ lows_text c.rules.ensures.value c.lows.ensures) (rw whole at raw.ok) lows.ok;
      long = no_longer c.lows_to.result (string_len c.lows_to.new.text) (string_len c.raw_to.new.text + 74 * length c.rules.result.now) (string_len c.args.text.now + 2414)
          (omega (arith, c.rules.ensures.valid.few, ap length c.rules.ensures.value, raw.long)) lows.long;
      spare = λ enough. lows.spare (omega (arith, enough, c.rules.ensures.valid.few, ap length c.rules.ensures.value, raw.long, raw.capacity));
      capacity = omega (arith, raw.capacity, lows.capacity);
    }
