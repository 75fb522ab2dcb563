-- The lines of a script, each ended by LF; the last may lack it. (Own rule.)
use Rattle.std.specs.Prelude.{ℕ, List, [], ◌∷◌, Bool, true, false, ◌==◌, if◌then◌else◌}

-- prepends a byte to the first line
abbrev pub onto_first : ℕ → List (List ℕ) → List (List ℕ)
onto_first b [] = (b ∷ []) ∷ []
onto_first b (line ∷ lines) = (b ∷ line) ∷ lines

-- limit of a line's length in bytes: 128 KiB
abbrev pub script_line_limit : ℕ
script_line_limit = 131072

-- limit of the number of reads
abbrev pub read_limit : ℕ
read_limit = 4294967296

abbrev pub lines_of : List ℕ → List (List ℕ)
lines_of [] = []
lines_of (b ∷ bs) = if b == 10 then [] ∷ lines_of bs else onto_first b (lines_of bs)

-- prepends a byte to the first line, if there is one
abbrev pub onto_ended : ℕ → List (List ℕ) → List (List ℕ)
onto_ended b [] = []
onto_ended b (line ∷ lines) = (b ∷ line) ∷ lines

-- the lines that an LF ends, without the bytes after the last LF
abbrev pub ended_lines : List ℕ → List (List ℕ)
ended_lines [] = []
ended_lines (b ∷ bs) = if b == 10 then [] ∷ ended_lines bs else onto_ended b (ended_lines bs)

-- the lines that were read whole: each to its LF, or the last to the end of input if this was read
abbrev pub lines_read : Bool → List ℕ → List (List ℕ)
lines_read false bytes = ended_lines bytes
lines_read true bytes = lines_of bytes
