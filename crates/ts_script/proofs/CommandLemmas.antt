-- Lines that are split at their first space.
use Rattle.std.proofs.Common.{◌≡◌, ℕ, List, length, refl, Option, Some, None, MatchOption, arith}
use Rattle.std.specs.Borrow.{Bor}
use Rattle.std.specs.List.{position_or_len}
use Rattle.std.proofs.lemmas.List.Folds.{list_any_none, list_any_at}
use Rattle.std.proofs.lemmas.List.Sums.{fails_before_first, passes_at_first}
use Rattle.std.proofs.lemmas.Str.Pattern.{IsSplitOnceResult, split_once_first}
use Rattle.ts_script.specs.Commands.{is_space, command_with, command_alone, command_of}

-- a line with a space has an argument
pub split_line : (line : List ℕ) (r : Option (Bor (List ℕ) × Bor (List ℕ))) → IsSplitOnceResult 32 line r → MatchOption r (command_of line ≡ command_alone line) (λ x. command_of line ≡ command_with x.0.now x.1.now)
unfolding command_of
split_line line None h =
    let none : position_or_len is_space line ≡ length line = split_once_first 32 line None h (omega arith) in
    rw (list_any_none is_space line (λ k d lt. fails_before_first is_space line k d (omega (arith, none, lt)))) refl
split_line line (Some x) h =
    let cut = split_once_first 32 line (Some x) h (omega arith) in
    rw (cut.1, cut.2, list_any_at is_space line (position_or_len is_space line) 0 cut.0 (passes_at_first is_space line 0 cut.0)) refl
