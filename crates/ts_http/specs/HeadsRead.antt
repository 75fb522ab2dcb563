-- Reading a head and a body from a reader, by the received bytes. (Own rules.)
use Rattle.std.specs.Prelude.{◌≡◌, ⊤, ℕ, ◌+◌, ◌≤◌, ◌<◌, Bool, List, [], ◌++◌, length, take, drop, Option, Some, None, unwrap_or, Result, IfOk}
use Rattle.std.specs.Bool.{OnTrue, OnFalse}
use Rattle.std.specs.Io.KnownBytes.{Consumes, IsAtEnd}
use Rattle.httparse.specs.Grammar.{RequestHead, NeverHasRequest}
use Rattle.httparse.specs.Spans.{IsRequestAt, IsRequestOf, IsRequestWithin, RequestOverflows, RequestExceeds}
use Rattle.httparse.specs.declared.spans.HeaderSpan.{HeaderSpan}
use Rattle.ts_core.specs.facts.Facts.{Text}
use Rattle.ts_core.specs.io.Devices.{Input, one_if_err}
use Rattle.ts_http.specs.Heads.{Nothing, Fault, IsWholeHead, IsUnfinishedHead, ReadsHead, head_limit, field_limit}
use Rattle.ts_http.specs.declared.head.HeadFault.TheVariants.{EndsEarly, TooLarge, Malformed}
use Rattle.ts_http.specs.declared.head.HeadRead.{HeadRead}
use Rattle.ts_http.specs.declared.head.HeadRead.TheVariants as read

-- all bytes of a request: those received, and those that are left, if known
abbrev pub request_of : Text → Input → Text
request_of came left = came ++ unwrap_or left.remaining []

-- one read into a buffer, after its first `count` bytes
pub record IsReadAfter {E : Type 0}
    (old : Input) (count : ℕ) (buffer : Text) (result : Result ℕ E) (buffer' : Text) (new : Input) : Type 0 where
  pub size : length buffer' ≡ length buffer
  pub kept : take count buffer' ≡ take count buffer
  pub within : IfOk result (λ n. count + n ≤ length buffer)
  pub came : IfOk result (λ n. (got : Text) × (take (count + n) buffer' ≡ take count buffer ++ got)
      × (length got ≡ n) × Consumes old.remaining new.remaining got)
  pub end : IfOk result (λ n. n ≡ 0 → IsAtEnd new.remaining)
  pub ends : IfOk result (λ n. 0 < n → new.ends ≡ old.ends)
  pub failures : new.failures ≡ old.failures + one_if_err result
  pub reads : new.reads ≡ old.reads + 1

-- the outcome is one of reading the request's head, of which these bytes were received
abbrev pub TellsHead : Text → Text → List HeaderSpan → HeadRead → Type 0
TellsHead bytes came spans read.Nothing = ReadsHead bytes Nothing
TellsHead bytes came spans (read.Fault fault) = ReadsHead bytes (Fault fault)
TellsHead bytes came spans (read.Whole found) =
    IsRequestWithin came spans found
    × ((head : RequestHead) × IsRequestAt came spans found head × IsWholeHead bytes head (drop found.len bytes))

-- of a whole head
abbrev pub IfWhole : HeadRead → Type 0 → Type 0
IfWhole read.Nothing P = ⊤
IfWhole (read.Fault fault) P = ⊤
IfWhole (read.Whole found) P = P

-- a head is read into a buffer, whose first bytes are the request's; once it is whole, nothing more is read
pub record IsHeadRead {E : Type 0} (old : Input)
    (result : Result (ℕ × HeadRead) E) (buffer : Text) (spans : List HeaderSpan) (new : Input) : Type 0 where
  pub within : IfOk result (λ r. r.0 ≤ length buffer)
  pub bytes : IfOk result (λ r. Consumes old.remaining new.remaining (take r.0 buffer))
  pub head : IfOk result (λ r. TellsHead (request_of (take r.0 buffer) new) (take r.0 buffer) spans r.1)
  pub ends : IfOk result (λ r. IfWhole r.1 (new.ends ≡ old.ends))
  pub failures : new.failures ≡ old.failures + one_if_err result
  pub reads : new.reads ≤ old.reads + head_limit

-- the rest of a body is read after its first `count` bytes; the result is true if the body is whole
pub record IsBodyRead {E : Type 0}
    (old : Input) (count : ℕ) (body : Text) (result : Result Bool E) (body' : Text) (new : Input) : Type 0 where
  pub size : length body' ≡ length body
  pub whole : IfOk result (λ whole. OnTrue whole ((got : Text)
      × (body' ≡ take count body ++ got) × Consumes old.remaining new.remaining got))
  pub ends : IfOk result (λ whole. OnTrue whole (new.ends ≡ old.ends))
  pub cut : IfOk result (λ whole. OnFalse whole ((got : Text)
      × (count + length got < length body) × Consumes old.remaining new.remaining got × IsAtEnd new.remaining))
  pub failures : new.failures ≡ old.failures + one_if_err result
  pub reads : new.reads + count ≤ old.reads + length body

-- the outcome so far; none if the bytes may still become a head
abbrev pub TellsFront : Text → List HeaderSpan → Option HeadRead → Type 0
TellsFront came spans None = IsUnfinishedHead came
TellsFront came spans (Some read.Nothing) = ⊥
TellsFront came spans (Some (read.Whole found)) = IsRequestWithin came spans found × IsRequestOf came spans found
TellsFront came spans (Some (read.Fault EndsEarly)) = ⊥
TellsFront came spans (Some (read.Fault TooLarge)) = RequestExceeds field_limit came × RequestOverflows field_limit came
TellsFront came spans (Some (read.Fault Malformed)) = NeverHasRequest came
