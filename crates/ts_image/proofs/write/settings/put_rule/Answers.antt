use Rattle.std.proofs.Common.{rules, ◌≡◌, SFits, to_z, of_z, to_z-of_z, w64, ap, ◌∙◌}
use Rattle.std.specs.Prelude.{pos}
use Rattle.std.specs.Int.{w8}
use Rattle.std.proofs.Math.Facts.{to_z_pos}
use Rattle.ts_image.specs.SavedParts.{image_rule_of}
use Rattle.std.proofs.lemmas.Result.{err_from_is_err_and}
use Rattle.ts_image.specs.Formats.{signed_number, text, also, list_of}
use Rattle.ts_image.proofs.Putting.{puts_at, also_puts, also_stops, iso_puts}
use Rattle.ts_image.proofs.write.settings.put_rule.Goals as goal

pub returns-in_err-put_text : goal.returns-in_err-put_text
returns-in_err-put_text g c =
    let p = err_from_is_err_and c.from_residual.result c.from_residual.ensures.1 in
    rw p.1 ((iso_puts _ _ (image_rule_of c.args.rule.now) (also_stops (also text (also (signed_number w64) (also (signed_number w64) (also (signed_number w64) (list_of w8 text))))) _ _ (puts_at c.name.ensures c.in_err-put_text.ensures))))

pub returns-in_err-put_text-2 : goal.returns-in_err-put_text-2
returns-in_err-put_text-2 g c =
    let p = err_from_is_err_and c.from_residual-in_err-put_text-2.result c.from_residual-in_err-put_text-2.ensures.1 in
    rw p.1 ((iso_puts _ _ (image_rule_of c.args.rule.now) (also_puts (puts_at c.name.ensures c.in_ok-put_text.ensures) (also_stops (also (signed_number w64) (also (signed_number w64) (also (signed_number w64) (list_of w8 text)))) _ _ (puts_at c.measurement.ensures c.in_err-put_text-2.ensures)))))

pub returns-in_err-put_i64 : goal.returns-in_err-put_i64
returns-in_err-put_i64 g c =
    let f1 : SFits w64 c.interval.result = search rules in
    let i1 : to_z w64 (of_z w64 c.interval.result) ≡ c.args.rule.now.interval = to_z-of_z f1 ∙ c.interval.ensures in
    let p = err_from_is_err_and c.from_residual-in_err-put_i64.result c.from_residual-in_err-put_i64.ensures.1 in
    rw p.1 ((iso_puts _ _ (image_rule_of c.args.rule.now) (also_puts (puts_at c.name.ensures c.in_ok-put_text.ensures) (also_puts (puts_at c.measurement.ensures c.in_ok-put_text-2.ensures) (also_stops (also (signed_number w64) (also (signed_number w64) (list_of w8 text))) _ _ (puts_at i1 c.in_err-put_i64.ensures))))))

pub returns-in_err-put_i64-2 : goal.returns-in_err-put_i64-2
returns-in_err-put_i64-2 g c =
    let f1 : SFits w64 c.interval.result = search rules in
    let f2 : SFits w64 c.offset.result = search rules in
    let i1 : to_z w64 (of_z w64 c.interval.result) ≡ c.args.rule.now.interval = to_z-of_z f1 ∙ c.interval.ensures in
    let i2 : to_z w64 (of_z w64 c.offset.result) ≡ c.args.rule.now.offset = to_z-of_z f2 ∙ c.offset.ensures in
    let p = err_from_is_err_and c.from_residual-in_err-put_i64-2.result c.from_residual-in_err-put_i64-2.ensures.1 in
    rw p.1 ((iso_puts _ _ (image_rule_of c.args.rule.now) (also_puts (puts_at c.name.ensures c.in_ok-put_text.ensures) (also_puts (puts_at c.measurement.ensures c.in_ok-put_text-2.ensures) (also_puts (puts_at i1 c.in_ok-put_i64.ensures) (also_stops (also (signed_number w64) (list_of w8 text)) _ _ (puts_at i2 c.in_err-put_i64-2.ensures)))))))

pub returns-in_err-put_i64-3 : goal.returns-in_err-put_i64-3
returns-in_err-put_i64-3 g c =
    let f1 : SFits w64 c.interval.result = search rules in
    let f2 : SFits w64 c.offset.result = search rules in
    let i1 : to_z w64 (of_z w64 c.interval.result) ≡ c.args.rule.now.interval = to_z-of_z f1 ∙ c.interval.ensures in
    let i2 : to_z w64 (of_z w64 c.offset.result) ≡ c.args.rule.now.offset = to_z-of_z f2 ∙ c.offset.ensures in
    let i3 : to_z w64 c.duration.result ≡ pos c.args.rule.now.duration = ap (to_z w64) c.duration.ensures.value ∙ to_z_pos w64 c.duration.ensures.possible.duration in
    let p = err_from_is_err_and c.from_residual-in_err-put_i64-3.result c.from_residual-in_err-put_i64-3.ensures.1 in
    rw p.1 ((iso_puts _ _ (image_rule_of c.args.rule.now) (also_puts (puts_at c.name.ensures c.in_ok-put_text.ensures) (also_puts (puts_at c.measurement.ensures c.in_ok-put_text-2.ensures) (also_puts (puts_at i1 c.in_ok-put_i64.ensures) (also_puts (puts_at i2 c.in_ok-put_i64-2.ensures) (also_stops (list_of w8 text) _ _ (puts_at i3 c.in_err-put_i64-3.ensures))))))))

pub returns : goal.returns
returns g c =
    let f1 : SFits w64 c.interval.result = search rules in
    let f2 : SFits w64 c.offset.result = search rules in
    let i1 : to_z w64 (of_z w64 c.interval.result) ≡ c.args.rule.now.interval = to_z-of_z f1 ∙ c.interval.ensures in
    let i2 : to_z w64 (of_z w64 c.offset.result) ≡ c.args.rule.now.offset = to_z-of_z f2 ∙ c.offset.ensures in
    let i3 : to_z w64 c.duration.result ≡ pos c.args.rule.now.duration = ap (to_z w64) c.duration.ensures.value ∙ to_z_pos w64 c.duration.ensures.possible.duration in
    (iso_puts _ _ (image_rule_of c.args.rule.now) (also_puts (puts_at c.name.ensures c.in_ok-put_text.ensures) (also_puts (puts_at c.measurement.ensures c.in_ok-put_text-2.ensures) (also_puts (puts_at i1 c.in_ok-put_i64.ensures) (also_puts (puts_at i2 c.in_ok-put_i64-2.ensures) (also_puts (puts_at i3 c.in_ok-put_i64-3.ensures) (puts_at c.kept_tags.ensures c.put_counted_strings.ensures)))))))
