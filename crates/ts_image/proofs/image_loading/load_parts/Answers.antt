use Rattle.std.proofs.Common.{Option, refl, subst}
use Rattle.std.proofs.lemmas.Result.{err_from_is_err_and}
use Rattle.ts_core.specs.settings.Settings.{Settings}
use Rattle.ts_image.specs.ImageTests.{IsPossible, settings_of_image}
use Rattle.ts_image.specs.RuleParts.{settings_of_parts}
use Rattle.ts_image.specs.ImageReading.{image_of}
use Rattle.ts_image.specs.SettingsMade.{IsMadeIf}
use Rattle.ts_image.proofs.Loading.{not_read, is_loaded, contradicts, out_of_memory}
use Rattle.ts_image.proofs.image_loading.load_parts.Goals as goal

pub returns-in_err-read : goal.returns-in_err-read
returns-in_err-read g c =
    let p = err_from_is_err_and c.from_residual.result c.from_residual.ensures.1 in
    rw (p.1, p.2) (not_read g.row.A.Denot c.args.source.now c.args.reads c.read_parts.new.source _ c.in_err-read.ensures)

pub returns-in_err-settings : goal.returns-in_err-settings
returns-in_err-settings g c =
    let p = err_from_is_err_and c.from_residual-in_err-settings.result c.from_residual-in_err-settings.ensures.1 in
    rw (p.1, p.2) (out_of_memory g.row.A.Denot c.args.source.now c.args.reads c.read_parts.new.source c.in_ok-read.read.0 c.in_ok-read.read.1 c.in_ok-read.ensures)

pub returns-in-Some : goal.returns-in-Some
returns-in-Some g c =
    let v = c.in_ok-read.read.0 in
    let parts = c.in_ok-read.read.1 in
    let s = settings_of_parts parts.settings in
    let made = subst (λ (o : Option Settings). IsMadeIf (IsPossible v (image_of parts)) (settings_of_image s) o) c.in-Some.is c.in_ok-settings.ensures in
    is_loaded g.row.A.Denot c.args.source.now c.args.reads c.read_parts.new.source v parts c.in_ok-read.ensures c.in-Some.settings (made.some.0 refl) made.is

pub returns-in-None : goal.returns-in-None
returns-in-None g c =
    let v = c.in_ok-read.read.0 in
    let parts = c.in_ok-read.read.1 in
    let s = settings_of_parts parts.settings in
    let made = subst (λ (o : Option Settings). IsMadeIf (IsPossible v (image_of parts)) (settings_of_image s) o) c.in-None.is c.in_ok-settings.ensures in
    contradicts g.row.A.Denot c.args.source.now c.args.reads c.read_parts.new.source v parts c.in_ok-read.ensures (λ h. let e = made.some.1 h in absurd cc)
