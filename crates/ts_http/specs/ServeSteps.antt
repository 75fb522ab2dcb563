-- Steps of serving one request, as the code takes them. (Own rules.)
use Rattle.std.specs.Prelude.{◌≡◌, ◌⊎◌, ◌<◌, ◌≤◌, ◌+◌, ℕ, ℤ, Bool, [], ◌++◌, length, unwrap_or, Some, None, Result, Ok, Err, IfOk, OnErr}
use Rattle.std.specs.Io.KnownBytes.{Consumes, Appends}
use Rattle.ts_core.specs.facts.Facts.{Text}
use Rattle.ts_core.specs.io.Devices.{Input, Output, AppendsFront, one_if_err}
use Rattle.ts_core.specs.store.StoreData.{StoreData}
use Rattle.ts_http.specs.OutcomeReplies.{ActsAs, reply_of}
use Rattle.ts_http.specs.Requests.{Fields, refused, body_length, body_limit}
use Rattle.ts_http.specs.declared.outcome.RequestOutcome.{RequestOutcome}
use Rattle.ts_http.specs.declared.outcome.RequestOutcome.TheVariants.{Refused}
use Rattle.ts_http.specs.declared.refusal.Refusal.{Refusal}
use Rattle.ts_http.specs.declared.refusal.Refusal.TheVariants.{BodyEndsEarly, OutOfMemory}
use Rattle.ts_http.specs.declared.route.Route.{Route}
use Rattle.ts_http.specs.declared.route.Method.{Method}
use Rattle.ts_http.specs.declared.serve.IoFault.{IoFault}
use Rattle.ts_http.specs.declared.serve.IoFault.TheVariants.{Writer}
use Rattle.ts_http.specs.declared.serve.Served.{Served}
use Rattle.ts_http.specs.declared.serve.Served.TheVariants as served

-- the length of the body, or the reason why the head is refused
abbrev pub IsLengthAnswer : Route → Method → Fields → Result ℕ Refusal → Type 0
IsLengthAnswer route method fields (Ok n) =
    (refused route method fields ≡ None) × (n ≡ body_length method fields) × (n ≤ body_limit)
IsLengthAnswer route method fields (Err r) = refused route method fields ≡ Some r

-- a request whose bytes after the head begin with a body of that length; `Quiet` holds where the body came whole
abbrev pub ActedOn : ℤ → Route → Method → Text → Text → ℕ → Type 0 → StoreData → RequestOutcome → StoreData → Type 0
ActedOn now route method query rest len Quiet old outcome new =
    ((body : Text) × (others : Text) × (rest ≡ body ++ others) × (length body ≡ len) × Quiet
    × ActsAs now route method query body old outcome new)
    ⊎ (((length rest < len) × (outcome ≡ Refused BodyEndsEarly) × (new ≡ old))
    ⊎ ((0 < len) × (outcome ≡ Refused OutOfMemory) × (new ≡ old)))

pub record IsActedOn {E : Type 0}
    (now : ℤ) (route : Route) (method : Method) (query after : Text) (len : ℕ) (old : StoreData)
    (source : Input) (result : Result RequestOutcome E) (new : StoreData) (source' : Input) : Type 0 where
  pub acted : IfOk result (λ outcome. (got : Text) × Consumes source.remaining source'.remaining got
      × ActedOn now route method query (after ++ (got ++ unwrap_or source'.remaining [])) len
      (source'.ends ≡ source.ends) old outcome new)
  pub unread : OnErr result (new ≡ old)
  pub failures : source'.failures ≡ source.failures + one_if_err result
  pub reads : source'.reads ≤ source.reads + len

-- a reply is sent, or a prefix of it
pub record IsSent (outcome : RequestOutcome)
    (route : Route) (to_head : Bool) (old : Output) (result : Result Served IoFault) (new : Output) : Type 0 where
  pub ok : IfOk result (λ s. (s ≡ served.Reply (reply_of to_head outcome).0 route)
      × Appends old.contents new.contents (reply_of to_head outcome).1)
  pub err : OnErr result (AppendsFront old.contents new.contents (reply_of to_head outcome).1)
  pub writer : OnErr result (result ≡ Err Writer)
  pub failures : new.failures ≡ old.failures + one_if_err result
