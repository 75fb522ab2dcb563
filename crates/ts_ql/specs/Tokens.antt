-- Tokens with their offsets.
-- (InfluxData 1.8, InfluxQL reference: notation, identifiers, keywords, literals. Own rule: the unsupported parts.)
use Rattle.std.specs.Prelude.{ℕ}
use Rattle.ts_core.specs.facts.Facts.{Text}
use Rattle.ts_ql.specs.declared.token.Kind.{Kind}
use Rattle.ts_ql.specs.declared.token.Token.{Token}

-- a token: its kind, its byte offsets, its bytes in the text, and these without quotes
pub record Lexeme : Type 0 where
  pub kind : Kind
  pub start : ℕ
  pub end : ℕ
  pub raw : Text
  pub text : Text

abbrev pub lexeme : Token → Lexeme
lexeme t = record { kind = t.kind; start = t.start; end = t.end; raw = t.raw.now; text = t.text.now }
