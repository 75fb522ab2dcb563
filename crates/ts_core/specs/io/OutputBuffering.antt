-- A write buffer in front of a writer. (Own rules.)
use Rattle.std.specs.Prelude.{◌≡◌, ◌+◌, ◌++◌, [], Option, Result, OnOk, OnErr}
use Rattle.std.specs.Io.KnownBytes.{Appends}
use Rattle.ts_core.specs.facts.Facts.{Text}
use Rattle.ts_core.specs.io.Devices.{Output, AppendsFront, one_if_err}

-- a prefix of the bytes was written, and the rest is buffered
pub record AreWrittenBut (old new : Option Text) (bytes buffered : Text) : Type 0 where
  pub sent : Text
  pub bytes_are : bytes ≡ sent ++ buffered
  pub written : Appends old new sent

-- Appends bytes to the buffered ones. A prefix of all is written, in order, and the rest is buffered. After a refused
-- write a prefix of all was written, and nothing is buffered.
pub record IsBuffered {T E : Type 0} (old : Output)
    (buffered : Text) (result : Result T E) (bytes : Text) (new : Output) (buffered' : Text) : Type 0 where
  pub ok : OnOk result (AreWrittenBut old.contents new.contents (buffered ++ bytes) buffered')
  pub err : OnErr result (AppendsFront old.contents new.contents (buffered ++ bytes))
  pub lost : OnErr result (buffered' ≡ [])
  pub failures : new.failures ≡ old.failures + one_if_err result
