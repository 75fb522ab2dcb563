use Rattle.std.proofs.Common.{◌≡◌, Bool, ap, subst}
use Rattle.std.specs.Str.{IsUtf8}
use Rattle.std.proofs.lemmas.Str.{IsUtf8-string_bytes}
use Rattle.std.specs.Prelude.{string_bytes}
use Rattle.ts_image.specs.FieldReading.{FieldsRead, CallsSource, FillsText}
use Rattle.ts_image.proofs.Reading.{fine, text_reads, text_is_none}
use Rattle.ts_image.proofs.read.fields.FieldReader.text.Goals as goal

pub returns : goal.returns
returns g c =
    let bytes = c.read_string.new.bytes.items in
    let whole = c.if-not-branch.false in
    let filled = subst (λ (b : Bool). FillsText c.u64.new.self c.u64.new.source c.in_ok-length.length (fine b) bytes c.read_string.new.self c.read_string.new.source) whole c.in_ok-read_string.ensures.text in
    let calls = subst (λ (b : Bool). CallsSource c.u64.new.self.ahead c.u64.new.source (fine b) c.read_string.new.self.ahead c.read_string.new.source) whole c.in_ok-read_string.ensures.calls in
    text_is_none string_bytes c.args.self.now c.u64.new.self c.read_string.new.self c.args.source.now c.u64.new.source c.read_string.new.source c.in_ok-length.length c.in_ok-length.ensures
    bytes filled.0 filled.1 (λ u. let k = c.in-Err.ensures.succeeds u in absurd cc) calls c.self.inside.at (ap (λ (r : FieldsRead). r.at) c.self.view_is)

pub returns-in-Ok : goal.returns-in-Ok
returns-in-Ok g c =
    let bytes = c.read_string.new.bytes.items in
    let whole = c.if-not-branch.false in
    let filled = subst (λ (b : Bool). FillsText c.u64.new.self c.u64.new.source c.in_ok-length.length (fine b) bytes c.read_string.new.self c.read_string.new.source) whole c.in_ok-read_string.ensures.text in
    let calls = subst (λ (b : Bool). CallsSource c.u64.new.self.ahead c.u64.new.source (fine b) c.read_string.new.self.ahead c.read_string.new.source) whole c.in_ok-read_string.ensures.calls in
    let same : string_bytes c.in-Ok.text ≡ bytes = ap (λ v. v.items) c.in-Ok.ensures.ok in
    text_reads string_bytes c.args.self.now c.u64.new.self c.read_string.new.self c.args.source.now c.u64.new.source c.read_string.new.source c.in_ok-length.length c.in_ok-length.ensures
    bytes c.in-Ok.text filled.0 filled.1 (subst IsUtf8 same (IsUtf8-string_bytes c.in-Ok.text)) same calls
