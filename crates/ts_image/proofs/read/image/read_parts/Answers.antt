use Rattle.std.proofs.Common.{subst}
use Rattle.std.proofs.lemmas.Result.{err_from_is_err_and}
use Rattle.ts_image.specs.declared.read.image.Head.{Head}
use Rattle.ts_image.specs.declared.read.image.Head.TheVariants as head
use Rattle.ts_image.specs.FieldReading.{FieldsRead}
use Rattle.ts_image.specs.HeadReading.{ReadsImageHead}
use Rattle.ts_image.proofs.Reading.{fine, faulty}
use Rattle.ts_image.proofs.WholeReading.{loads, body_faults, head_faults, not_an_image, other_version, no_memory}
use Rattle.ts_image.proofs.read.image.read_parts.Goals as goal

pub returns-in_err-reader : goal.returns-in_err-reader
returns-in_err-reader g c =
    let p = err_from_is_err_and c.from_residual.result c.from_residual.ensures.1 in
    rw (p.1, p.2) (no_memory c.args.reads c.args.source.now)

pub returns-in_err-read_head : goal.returns-in_err-read_head
returns-in_err-read_head g c =
    let p = err_from_is_err_and c.from_residual-in_err-read_head.result c.from_residual-in_err-read_head.ensures.1 in
    let e = c.in_err-read_head.field-0.0 in
    let hd = subst (λ (r : FieldsRead). ReadsImageHead r c.args.source.now (faulty Head e) c.read_head.new.reader c.read_head.new.source) c.in_ok-reader.ensures (c.in_err-read_head.ensures) in
    rw (p.1, p.2) (head_faults c.args.reads c.args.source.now g.row.A.Denot c.read_head.new.reader c.read_head.new.source e hd)

pub returns-in-None : goal.returns-in-None
returns-in-None g c =
    let hd = subst (λ (r : FieldsRead). ReadsImageHead r c.args.source.now (fine head.None) c.read_head.new.reader c.read_head.new.source) c.in_ok-reader.ensures (subst (λ (x : Head). ReadsImageHead c.in_ok-reader.reader c.args.source.now (fine x) c.read_head.new.reader c.read_head.new.source) c.in-None.is c.in_ok-read_head.ensures) in
    not_an_image c.args.reads c.args.source.now g.row.A.Denot c.read_head.new.reader c.read_head.new.source hd

pub returns-in-Other : goal.returns-in-Other
returns-in-Other g c =
    let hd = subst (λ (r : FieldsRead). ReadsImageHead r c.args.source.now (fine head.Other) c.read_head.new.reader c.read_head.new.source) c.in_ok-reader.ensures (subst (λ (x : Head). ReadsImageHead c.in_ok-reader.reader c.args.source.now (fine x) c.read_head.new.reader c.read_head.new.source) c.in-Other.is c.in_ok-read_head.ensures) in
    other_version c.args.reads c.args.source.now g.row.A.Denot c.read_head.new.reader c.read_head.new.source hd

pub returns-in_err-parts-in-Of : goal.returns-in_err-parts-in-Of
returns-in_err-parts-in-Of g c =
    let p = err_from_is_err_and c.from_residual-in_err-parts-in-Of.result c.from_residual-in_err-parts-in-Of.ensures.1 in
    let e = c.in_err-parts-in-Of.field-0.0 in
    let hd = subst (λ (r : FieldsRead). ReadsImageHead r c.args.source.now (fine (head.Of c.in-Of.version)) c.read_head.new.reader c.read_head.new.source) c.in_ok-reader.ensures (subst (λ (x : Head). ReadsImageHead c.in_ok-reader.reader c.args.source.now (fine x) c.read_head.new.reader c.read_head.new.source) c.in-Of.is c.in_ok-read_head.ensures) in
    rw (p.1, p.2) (body_faults c.args.reads c.args.source.now {A = g.row.A.Denot} c.read_head.new.reader c.read_whole_body.new.reader c.read_head.new.source c.read_whole_body.new.source c.in-Of.version hd e c.in_err-parts-in-Of.ensures)

pub returns : goal.returns
returns g c =
    let hd = subst (λ (r : FieldsRead). ReadsImageHead r c.args.source.now (fine (head.Of c.in-Of.version)) c.read_head.new.reader c.read_head.new.source) c.in_ok-reader.ensures (subst (λ (x : Head). ReadsImageHead c.in_ok-reader.reader c.args.source.now (fine x) c.read_head.new.reader c.read_head.new.source) c.in-Of.is c.in_ok-read_head.ensures) in
    loads c.args.reads c.args.source.now g.row.A.Denot c.read_head.new.reader c.read_head.new.source c.read_whole_body.new.reader c.read_whole_body.new.source c.in-Of.version hd c.in_ok-parts-in-Of.parts c.in_ok-parts-in-Of.ensures
