use Rattle.std.proofs.Common.{◌≡◌, [], Ok, Err, arith, sym, ◌∙◌}
use Rattle.ts_ql.specs.declared.token.Kind.TheVariants as kinds
use Rattle.ts_ql.specs.Tokens.{lexeme}
use Rattle.ts_ql.proofs.ColumnLemmas.{leaves, none_left, not_end}
use Rattle.ts_ql.proofs.lists.column_reader.ColumnReader.next.Goals as goal

pub returns-clause-value : goal.returns-clause-value
returns-clause-value c = λ left w.
    none_left c.loop-token.self.text.now c.loop-token.self.at c.loop-token.self.state c.loop-token.self.call left (sym c.has_from.ensures ∙ c.loop-token-test.false) (c.loop-token.invariant.left left w)

pub returns-in_default-clause-value : goal.returns-in_default-clause-value
returns-in_default-clause-value c = λ left w.
    absurd (leaves c.loop-token.self.text.now c.loop-token.self.at c.loop-token.self.state (lexeme c.at-token.result) (Err c.in_default.field-0) c.loop-token.self.call c.parse_token.new.self left
    c.at-token.ensures.value (sym c.has_from.ensures ∙ c.loop-token-test.true) c.in_default.ensures (c.loop-token.invariant.left left w))

pub returns-in-Some-clause-later : goal.returns-in-Some-clause-later
returns-in-Some-clause-later c =
    let other : c.at-token.result.kind ≡ kinds.End → ⊥ = not_end c.loop-token.self.state c.in-Ok.state (lexeme c.at-token.result) c.in-Ok.column c.loop-token.self.call c.parse_token.new.self [] (c.in-Ok.ensures []) in
    omega (arith, c.at-token.ensures.from other, c.loop-token.invariant.order)

pub returns-in-Some-clause-value : goal.returns-in-Some-clause-value
returns-in-Some-clause-value c = λ left w.
    let after = leaves c.loop-token.self.text.now c.loop-token.self.at c.loop-token.self.state (lexeme c.at-token.result) (Ok (c.in-Ok.state, c.in-Ok.column)) c.loop-token.self.call c.parse_token.new.self left
    c.at-token.ensures.value (sym c.has_from.ensures ∙ c.loop-token-test.true) c.in-Ok.ensures (c.loop-token.invariant.left left w) in
    rw c.in-Some.is at after

pub loop-token-smaller : goal.loop-token-smaller
loop-token-smaller c =
    let other : c.at-token.result.kind ≡ kinds.End → ⊥ = not_end c.loop-token.self.state c.in-Ok.state (lexeme c.at-token.result) c.in-Ok.column c.loop-token.self.call c.parse_token.new.self [] (c.in-Ok.ensures []) in
    omega (arith, c.at-token.ensures.from other, c.at-token.ensures.boundary.0)

pub loop-token-preserved : goal.loop-token-preserved
loop-token-preserved c =
    let other : c.at-token.result.kind ≡ kinds.End → ⊥ = not_end c.loop-token.self.state c.in-Ok.state (lexeme c.at-token.result) c.in-Ok.column c.loop-token.self.call c.parse_token.new.self [] (c.in-Ok.ensures []) in
    let later = c.at-token.ensures.from other in
    record {
      boundary = c.at-token.ensures.boundary;
      text = c.loop-token.invariant.text;
      order = omega (arith, later, c.loop-token.invariant.order);
      left = λ left w.
          let after = leaves c.loop-token.self.text.now c.loop-token.self.at c.loop-token.self.state (lexeme c.at-token.result) (Ok (c.in-Ok.state, c.in-Ok.column)) c.loop-token.self.call c.parse_token.new.self left
          c.at-token.ensures.value (sym c.has_from.ensures ∙ c.loop-token-test.true) c.in-Ok.ensures (c.loop-token.invariant.left left w) in
          rw c.in_default-column.is at after;
    }
