-- Readers and writers, modelled by their bytes and by counts of their calls. (Own rules.)
use Rattle.std.specs.Prelude.{ℕ, ◌≡◌, ◌+◌, ◌≤◌, ⊤, None, Some, List, ◌++◌, Option, Result, Ok, Err, OnOk, OnErr, ◌==◌, if◌then◌else◌, length}
use Rattle.std.specs.Io.{ReadsAtMost, WritesAtMost}
use Rattle.std.specs.Io.KnownBytes.{Appends, ReadConsumes, WriteAppends}

-- a reader: the remaining bytes, if known, and counts of its reads, of its failures and of its ends. An end is a read
-- of no bytes into a non-empty buffer.
pub record Input : Type 0 where
  pub remaining : Option (List ℕ)
  pub reads : ℕ
  pub failures : ℕ
  pub ends : ℕ

-- a reader of these bytes before its first read
abbrev pub unread : Option (List ℕ) → Input
unread bytes = record { remaining = bytes; reads = 0; failures = 0; ends = 0 }

-- a writer: the bytes written, if known; its writes that failed or accepted none of some bytes
pub record Output : Type 0 where
  pub contents : Option (List ℕ)
  pub failures : ℕ

-- the number of errors that a call adds: 1 for an error, else 0
abbrev pub one_if_err : {T E : Type 0} → Result T E → ℕ
one_if_err (Ok x) = 0
one_if_err (Err e) = 1

-- 1 for a call that moved no byte though the buffer isn't empty, else 0
abbrev pub one_if_stuck : {E : Type 0} → Result ℕ E → List ℕ → ℕ
one_if_stuck (Ok n) bytes = if n == 0 then if length bytes == 0 then 0 else 1 else 0
one_if_stuck (Err e) bytes = 0

-- `reads`, if the known bytes are left from others, are at most these bytes and `others`
abbrev pub AreAtMostBytes : Option (List ℕ) → Option (List ℕ) → ℕ → ℕ → Type 0
AreAtMostBytes None new reads others = ⊤
AreAtMostBytes (Some xs) None reads others = ⊥
AreAtMostBytes (Some xs) (Some ys) reads others = reads + length ys ≤ others + length xs

-- each read since was a failure, an end or at least one byte, where the bytes are known
abbrev pub EachReadCounts : Input → Input → Type 0
EachReadCounts old new = AreAtMostBytes old.remaining new.remaining
    (new.reads + old.failures + old.ends) (old.reads + new.failures + new.ends)

-- appends a prefix of the bytes: none, some or all
abbrev pub AppendsFront : Option (List ℕ) → Option (List ℕ) → List ℕ → Type 0
AppendsFront old new bytes = (sent : List ℕ) × (rest : List ℕ) × (bytes ≡ sent ++ rest) × Appends old new sent

-- ---- the effect of a call

-- one read into a buffer that isn't empty, whose new content is `buffer`
pub record IsRead {E : Type 0} (old : Input) (result : Result ℕ E) (buffer : List ℕ) (new : Input) : Type 0 where
  pub bound : ReadsAtMost result buffer
  pub bytes : ReadConsumes old.remaining new.remaining result buffer
  pub reads : new.reads ≡ old.reads + 1
  pub failures : new.failures ≡ old.failures + one_if_err result
  pub ends : new.ends ≡ old.ends + one_if_stuck result buffer
  pub each : EachReadCounts old new

-- one write of some bytes
pub record IsWritten {E : Type 0} (old : Output) (result : Result ℕ E) (given : List ℕ) (new : Output) : Type 0 where
  pub bound : WritesAtMost result given
  pub bytes : WriteAppends old.contents new.contents result given
  pub failures : new.failures ≡ old.failures + one_if_err result + one_if_stuck result given

-- writes all bytes, or on an error a prefix of them
pub record IsPut {T E : Type 0} (old : Output) (result : Result T E) (bytes : List ℕ) (new : Output) : Type 0 where
  pub ok : OnOk result (Appends old.contents new.contents bytes)
  pub err : OnErr result (AppendsFront old.contents new.contents bytes)
  pub failures : new.failures ≡ old.failures + one_if_err result
