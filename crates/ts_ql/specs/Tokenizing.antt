-- The tokens of a text, to its end.
-- (Own rule: the end of a text is a token.)
use Rattle.std.specs.Prelude.{ℕ, zero, suc, ◌+◌, List, [], ◌∷◌, length, Bool, true, false}
use Rattle.ts_core.specs.facts.Facts.{Text}
use Rattle.ts_ql.specs.declared.token.Kind.{Kind}
use Rattle.ts_ql.specs.declared.token.Kind.TheVariants as kinds
use Rattle.ts_ql.specs.Lexing.{token_at}
use Rattle.ts_ql.specs.Tokens.{Lexeme}

abbrev pub is_end_of_text : Kind → Bool
is_end_of_text kinds.End = true
is_end_of_text kind = false

-- the tokens after one that ends at this offset, unless it is the last
abbrev pub tokens_after : Bool → (ℕ → List Lexeme) → ℕ → List Lexeme
tokens_after true rest end = []
tokens_after false rest end = rest end

-- at most n tokens from an offset on, up to the end of the text
abbrev pub tokens_from : ℕ → Text → ℕ → List Lexeme
tokens_from zero text at = []
tokens_from (suc n) text at =
    token_at text at ∷ tokens_after (is_end_of_text (token_at text at).kind) (tokens_from n text) (token_at text at).end

-- the tokens of a text; at most one per byte, and one for the end
unfoldable pub tokens_of : Text → List Lexeme
tokens_of text = tokens_from (length text + 1) text 0
