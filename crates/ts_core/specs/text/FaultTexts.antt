-- Messages of faults: the number, and a detail. (Own rules.)
use Rattle.std.specs.Borrow.{Bor}
use Rattle.std.specs.Prelude.{◌≡◌, ◌≤◌, ◌+◌, ℕ, List, [], ◌∷◌, ◌++◌, length, codes, Result, IsOk, OnOk, OnErr, String, string_bytes, string_len, string_capacity}
use Rattle.std.specs.Fmt.{decimal, signed_decimal}
use Rattle.ts_core.specs.facts.Facts.{Text}
use Rattle.ts_core.specs.declared.text.fault_code.FaultCode.{FaultCode}
use Rattle.ts_core.specs.text.FaultCodes.{code_number}
use Rattle.ts_core.specs.declared.text.fault_text.FaultDetail.{FaultDetail}
use Rattle.ts_core.specs.declared.text.fault_text.FaultDetail.TheVariants.{Alone, At, AtToken, OfRule, OfPiece, Mark}

-- a byte offset in a text or a file
abbrev pub at_offset : ℕ → Text
at_offset offset = codes " at " ++ decimal offset

-- a byte offset, and the token there
abbrev pub at_token : ℕ → Text → Text
at_token offset token = codes " at " ++ (decimal offset ++ (codes " " ++ token))

-- the detail that follows the number
abbrev pub detail_text : FaultDetail → Text
detail_text Alone = []
detail_text (At offset) = at_offset offset
detail_text (AtToken offset token) = at_token offset token.now
detail_text (OfRule index) = codes " rule " ++ decimal index
detail_text (OfPiece index) = codes " piece " ++ decimal index
detail_text (Mark nanos) = codes " mark " ++ signed_decimal nanos

abbrev pub numbered_text : FaultCode → Text → Text
numbered_text code detail = codes "fault " ++ (decimal (code_number code) ++ detail)

abbrev pub fault_text : FaultCode → FaultDetail → Text
fault_text code detail = numbered_text code (detail_text detail)

-- the message of a call that ran out of memory, which has no number
abbrev pub memory_text : Text
memory_text = codes "fault memory"

-- parts, concatenated
abbrev pub parts_joined : List (Bor Text) → Text
parts_joined [] = []
parts_joined (word ∷ parts) = word.now ++ parts_joined parts

-- a prefix of the text was appended
pub record EndsEarly (text old new : Text) : Type 0 where
  pub written : Text
  pub missing : Text
  pub stands : new ≡ old ++ written
  pub whole : text ≡ written ++ missing

-- a call that appends a text: the whole of it, or when out of memory a prefix. It doesn't allocate if the string has
-- the capacity.
pub record IsAppended {A T E : Type 0} (text : Text) (old new : String A) (result : Result T E) : Type 0 where
  pub ok : OnOk result (string_bytes new ≡ string_bytes old ++ text)
  pub err : OnErr result (EndsEarly text (string_bytes old) (string_bytes new))
  pub spare : string_len old + length text ≤ string_capacity old → IsOk result
  pub capacity : string_capacity old ≤ string_capacity new
