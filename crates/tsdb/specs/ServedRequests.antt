-- The effect of HTTP requests on a store, one after another. (Own rule.)
use Rattle.std.specs.Prelude.{◌≡◌, ◌⊎◌, ⊤, ℤ, Bool, true, false, List, [], ◌∷◌}
use Rattle.ts_core.specs.facts.Facts.{Text}
use Rattle.ts_core.specs.store.StoreData.{StoreData}
use Rattle.ts_store.specs.store.WholeStates.{WholeState, IsWholeStateOf}
use Rattle.ts_http.specs.Served.{Serves, ServedAs}
use Rattle.ts_http.specs.declared.route.Route.TheVariants as to
use Rattle.ts_http.specs.declared.serve.Served.{Served}
use Rattle.ts_http.specs.declared.serve.Served.TheVariants as served
use Rattle.ts_http.specs.declared.status.Status.TheVariants as status

-- the store is as before, or one request at this moment was served, whose reply may not have been received
abbrev pub WentByOne : ℤ → StoreData → StoreData → Type 0
WentByOne now old new =
    (new ≡ old) ⊎ ((bytes : Text) × (served : Served) × ServedAs now bytes ⊤ old served new (λ reply. ⊤))

-- one request: the moment at which it was served, its bytes, the way it was served, and the whole of its reply
pub record ServedRequest : Type 0 where
  pub now : ℤ
  pub bytes : Text
  pub served : Served
  pub reply : Text

-- From `old` these requests, the newest first, may leave that.
abbrev pub Leave : List ServedRequest → WholeState → WholeState → Type 0
Leave [] old new = new ≡ old
Leave (r ∷ rs) old new = (mid : WholeState) × Leave rs old mid × Serves r.now mid r.bytes r.served r.reply new

-- From each state that the old store was in, some requests may lead to a state that the new one is in.
abbrev pub WentBy : StoreData → StoreData → Type 0
WentBy old new = (s : WholeState)
    → IsWholeStateOf s old → (rs : List ServedRequest) × (s' : WholeState) × Leave rs s s' × IsWholeStateOf s' new

-- the image is saved after steps of a retention run were taken, or rules were changed
abbrev pub is_saved_after : Served → Bool
is_saved_after (served.Reply status.Success to.Maintain) = true
is_saved_after (served.Reply status.Success to.Rules) = true
is_saved_after other = false
