-- The head of a request: whole, at fault, or absent. (RFC 9112, sections 2 to 5, by the grammar of the kit's
-- `httparse`, which also takes lines that end in LF alone. Own rules: at most 8,192 bytes and 64 fields.)
use Rattle.std.specs.Prelude.{◌≡◌, ◌≢◌, ◌≤◌, ◌<◌, ℕ, [], length, take}
use Rattle.httparse.specs.Grammar.{RequestHead, ReadsRequest, print_request, HasNoRequest, NeverHasRequest, MayBecomeRequest}
use Rattle.httparse.specs.Spans.{RequestOverflows, RequestExceeds}
use Rattle.ts_core.specs.facts.Facts.{Text}
use Rattle.ts_http.specs.declared.head.HeadFault.{HeadFault}
use Rattle.ts_http.specs.declared.head.HeadFault.TheVariants.{EndsEarly, TooLarge, Malformed}

-- the most bytes of a head
abbrev pub head_limit : ℕ
head_limit = 8192

-- the most fields of a head
abbrev pub field_limit : ℕ
field_limit = 64

-- The outcome of reading a head.
pub data HeadOutcome : Type 0 where
  -- the input is empty
  Nothing : HeadOutcome
  -- a head, and the bytes after it
  Whole : RequestHead → Text → HeadOutcome
  Fault : HeadFault → HeadOutcome

-- The bytes begin with a head within the limits, and these bytes follow it.
pub record IsWholeHead (bytes : Text) (head : RequestHead) (rest : Text) : Type 0 where
  pub reads : ReadsRequest bytes head rest
  pub short : length (print_request head) ≤ head_limit
  pub few : length head.fields ≤ field_limit

-- The bytes have no whole head, and may be a prefix of one.
abbrev pub IsUnfinishedHead : Text → Type 0
IsUnfinishedHead bytes = HasNoRequest bytes × MayBecomeRequest bytes

-- The possible outcomes of reading a head from the front of these bytes. A head within the limits is always found, and
-- nothing else then. Otherwise these faults are possible; if more than one fits, either may be found.
pub data ReadsHead (bytes : Text) : HeadOutcome → Type 0 where
  nothing : bytes ≡ [] → ReadsHead bytes Nothing
  whole : (head : RequestHead) (rest : Text) → IsWholeHead bytes head rest → ReadsHead bytes (Whole head rest)
  -- all of the bytes are a prefix of a head, or end inside its target
  ends_early : bytes ≢ [] → length bytes < head_limit → IsUnfinishedHead bytes → ReadsHead bytes (Fault EndsEarly)
  too_long : head_limit ≤ length bytes → IsUnfinishedHead (take head_limit bytes) → ReadsHead bytes (Fault TooLarge)
  -- the bytes begin with a start line and too many fields
  too_many : RequestExceeds field_limit bytes → RequestOverflows field_limit bytes → ReadsHead bytes (Fault TooLarge)
  -- whatever follows the bytes, there is no head
  malformed : NeverHasRequest bytes → ReadsHead bytes (Fault Malformed)
