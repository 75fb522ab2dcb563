-- Certificates in a script, with `;` instead of LF. (Own rule.)
use Rattle.std.specs.Prelude.{ℕ, Bool, map, ◌==◌, if◌then◌else◌}
use Rattle.ts_core.specs.facts.Facts.{Text}

abbrev pub is_semicolon : ℕ → Bool
is_semicolon b = b == 59

-- replaces each `;` by an LF
abbrev pub with_line_feeds : Text → Text
with_line_feeds text = map (λ b. if is_semicolon b then 10 else b) text
