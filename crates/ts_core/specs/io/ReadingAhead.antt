-- A read buffer, with a limit on the number of reads. (Own rules.)
use Rattle.std.specs.Prelude.{◌≡◌, ◌≢◌, ℕ, ◌+◌, ◌-◌, ◌*◌, ◌≤◌, ◌<◌, List, [], ◌++◌, length, take, drop, Bool, true, false, not, nat_lt, Option, Result, Ok, Err, OnOk, OnErr, IfOk, if◌then◌else◌}
use Rattle.std.specs.Io.KnownBytes.{prepend_known, IsAtEnd, Consumes, Keeps}
use Rattle.ts_core.specs.io.Devices.{Input, EachReadCounts}
use Rattle.ts_core.specs.declared.io.read_ahead.ReadFault.{ReadFault}
use Rattle.ts_core.specs.declared.io.read_ahead.ReadFault.TheVariants.{Device, TooManyReads}

-- the consumed and the remaining bytes of the last read, the number of reads and its limit, and whether the end of
-- input was read
pub record Ahead : Type 0 where
  pub used : List ℕ
  pub buffered : List ℕ
  pub reads : ℕ
  pub limit : ℕ
  pub ended : Bool

-- before the first read
abbrev pub nothing_ahead : ℕ → Ahead
nothing_ahead limit = record { used = []; buffered = []; reads = 0; limit = limit; ended = false }

-- the bytes still to come, if known
abbrev pub pending : Ahead → Input → Option (List ℕ)
pending ahead input = prepend_known ahead.buffered input.remaining

-- after the end of input, no bytes are to come
abbrev pub EndIsEnd : Ahead → Input → Type 0
EndIsEnd ahead input = ahead.ended ≡ true → IsAtEnd (pending ahead input)

abbrev pub bit : Bool → ℕ
bit b = if b then 1 else 0

-- 1 for a failure of the source, else 0
abbrev pub one_if_device : {T : Type 0} → Result T ReadFault → ℕ
one_if_device (Ok x) = 0
one_if_device (Err Device) = 1
one_if_device (Err TooManyReads) = 0

-- the most bytes that one read returns: 64 KiB
abbrev pub most_ahead : ℕ
most_ahead = 65536

-- an upper bound on the work left: per read its bytes and the read itself, and the buffered bytes
abbrev pub weight : Ahead → ℕ
weight ahead = (ahead.limit - ahead.reads) * (most_ahead + 1) + length ahead.buffered

-- ---- the effect of a call

-- consumes the first `count` buffered bytes
pub record IsConsumed (old : Ahead) (count : ℕ) (new : Ahead) : Type 0 where
  pub used : new.used ≡ old.used ++ take count old.buffered
  pub buffered : new.buffered ≡ drop count old.buffered
  pub reads : new.reads ≡ old.reads
  pub limit : new.limit ≡ old.limit
  pub ended : new.ended ≡ old.ended
  pub within : new.reads ≤ new.limit
  pub bytes : (input : Input) → Consumes (pending old input) (pending new input) (take count old.buffered)
  pub end : (input : Input) → EndIsEnd old input → EndIsEnd new input
  pub less : weight new + count ≡ weight old

-- one read, after all buffered bytes were consumed; it returns false at the end of input
pub record IsFilled (old : Ahead)
    (source : Input) (result : Result Bool ReadFault) (new : Ahead) (source' : Input) : Type 0 where
  -- no byte is lost, and the end of input is reported only if it was read
  pub bytes : Keeps (pending old source) (pending new source')
  pub end : EndIsEnd new source'
  pub more : IfOk result (λ more. more ≡ not new.ended)
  pub some : IfOk result (λ more. more ≡ nat_lt 0 (length new.buffered))
  pub none : OnErr result (new.buffered ≡ [])
  pub unused : result ≢ Err TooManyReads → new.used ≡ []
  pub stays : OnErr result (new.ended ≡ false)
  pub bound : length new.buffered ≤ most_ahead
  -- the source's counts
  pub failures : source'.failures ≡ source.failures + one_if_device result
  pub reads : source'.reads + old.reads ≡ source.reads + new.reads
  pub ends : source'.ends ≡ source.ends + bit new.ended
  pub each : EachReadCounts source source'
  -- reads are counted up to the limit, at which nothing changes any more
  pub read_once : OnOk result (new.reads ≡ old.reads + 1)
  pub failed : result ≡ Err Device → new.reads ≡ old.reads + 1
  pub allowed : new.limit ≡ old.limit
  pub within : new.reads ≤ new.limit
  pub limit : result ≡ Err TooManyReads → new.reads ≡ new.limit
  pub kept : result ≡ Err TooManyReads → (new ≡ old) × (source' ≡ source)
  pub refused : old.reads ≡ old.limit → result ≡ Err TooManyReads
  pub less : OnOk result (weight new < weight old)
