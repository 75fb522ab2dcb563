use Rattle.std.proofs.Common.{sym, ◌∙◌}
use Rattle.std.proofs.lemmas.Bool.{and_parts}
use Rattle.ts_ql.specs.Builders.{builder_state}
use Rattle.ts_ql.proofs.SelectsLemmas.{ends_outside}
use Rattle.ts_ql.proofs.reader.Reader.parse_token.Goals as goal

pub end-requires : goal.end-requires
end-requires g c =
    let ends = sym c.ends.ensures ∙ c.if-ends.true in
    let outside = ends_outside c.args.self.now.state c.args.token.now.kind (builder_state c.args.self.now.builder) (c.in_ok-self.field-0, builder_state c.finish_time.new.self) c.in_ok-self.ensures.value (and_parts _ _ ends).0 in
    let same = c.in_ok-self.ensures.selection in
    record { boundary = c.requires.boundary; columns = rw same (c.requires.columns outside) }
