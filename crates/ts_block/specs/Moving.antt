-- Bytes that move up, from the last one on. (Own rule.)
use Rattle.std.specs.Prelude.{ℕ, ◌+◌, ◌-◌, List, ◌++◌, length, take, drop}

-- the bytes from `from` to `end` are moved to the end of all
abbrev pub moved_up : List ℕ → ℕ → ℕ → List ℕ
moved_up bytes end from = take (from + (length bytes - end)) bytes ++ drop from (take end bytes)
