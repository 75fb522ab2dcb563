-- The outcome of reading a body. (Own rules.)
use Rattle.std.specs.Prelude.{◌≡◌, ◌<◌, ◌≤◌, ◌+◌, ℕ, ⊤, [], ◌++◌, length, unwrap_or, Result, IfOk}
use Rattle.std.specs.Io.KnownBytes.{Consumes}
use Rattle.ts_core.specs.facts.Facts.{Text}
use Rattle.ts_core.specs.io.Devices.{Input, one_if_err}
use Rattle.ts_http.specs.declared.body.Body.{Body}
use Rattle.ts_http.specs.declared.body.Body.TheVariants.{Whole, Cut, NoMemory}

-- of these bytes after a head
abbrev pub TellsBody : {A : Type 0} → ℕ → Text → Body A → Type 0
TellsBody len rest (Whole body) = (others : Text) × (rest ≡ body.items ++ others) × (length body.items ≡ len)
TellsBody len rest Cut = length rest < len
TellsBody len rest NoMemory = ⊤

-- of a whole body
abbrev pub IfTaken : {A : Type 0} → Body A → Type 0 → Type 0
IfTaken (Whole body) P = P
IfTaken Cut P = ⊤
IfTaken NoMemory P = ⊤

-- the bytes after the head, and those read then, begin with the body or end inside it
pub record IsBodyTaken {A E : Type 0}
    (old : Input) (after : Text) (len : ℕ) (result : Result (Body A) E) (new : Input) : Type 0 where
  pub body : IfOk result (λ body. (got : Text)
      × Consumes old.remaining new.remaining got × TellsBody len (after ++ (got ++ unwrap_or new.remaining [])) body)
  pub ends : IfOk result (λ body. IfTaken body (new.ends ≡ old.ends))
  pub failures : new.failures ≡ old.failures + one_if_err result
  pub reads : new.reads ≤ old.reads + len
