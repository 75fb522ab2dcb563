-- The theorem of each step. If a token leads to another state, each rest there is a rest here after the token. If not,
-- the tokens so far have a fault, or the token is unexpected. The first token of a rest leads to the remaining rest.
use Rattle.std.proofs.Common.{◌≡◌, ◌⊎◌, ℤ, List, [], ◌∷◌, true, Option, Some, None, Ok, Err, refl, ap, ◌∙◌, subst}
use Rattle.std.specs.Prelude.{⊤}
use Rattle.ts_ql.specs.Grammar.{Item, Examine}
use Rattle.ts_ql.specs.declared.state.State.{State}
use Rattle.ts_ql.specs.declared.state.State.TheVariants as states
use Rattle.ts_ql.specs.QueryFaults.{Fault, unexpected}
use Rattle.ts_ql.specs.Laws.{Reach, Within, Whole, At, ReadsTokens}
use Rattle.ts_ql.specs.MomentSteps.{moment_time}
use Rattle.ts_ql.specs.Reading.{Progress, Advance, is_done}
use Rattle.ts_ql.specs.Tokens.{Lexeme}
use Rattle.ts_ql.proofs.Rests.{Rest, left, all_said, Sound, Suits}

-- the progress with another state
abbrev pub at : State → Progress → Progress
at p s = record s { state = p }

-- ---- from the machine to trees

-- each rest after the token is a rest here
abbrev pub Back : ℤ → Progress → Progress → Lexeme → Type 0
Back now s n t =
    (r : Rest n.state) → Suits n r → (q : Rest s.state) × Suits s q
    × ((ts : List Lexeme) (reach : Reach) → ReadsTokens (left now n r) ts reach → ReadsTokens (left now s q) (t ∷ ts) reach)
    × (all_said now s q ≡ all_said now n r)

-- with some rest, the tokens so far have this fault, without the token or with it
abbrev pub Faulty : ℤ → Progress → Lexeme → Fault → Type 0
Faulty now s t f =
    (q : Rest s.state) × Suits s q × (ReadsTokens (left now s q) [] (At f) ⊎ ReadsTokens (left now s q) (t ∷ []) (At f))

abbrev pub Answer : ℤ → Progress → Lexeme → Advance → Type 0
Answer now s t (Ok n) = Sound n × Back now s n t
Answer now s t (Err f) = Faulty now s t f ⊎ (f ≡ unexpected t)

-- ---- from trees to the machine

-- the rest here leads to one after the token, or to a fault of the last token
abbrev pub Leads : ℤ → (s : Progress) → Rest s.state → List Lexeme → Reach → Advance → Type 0
Leads now s q ts reach (Ok n) =
    (r : Rest n.state) × Suits n r × ReadsTokens (left now n r) ts reach × (all_said now s q ≡ all_said now n r)
Leads now s q ts reach (Err f) = (ts ≡ []) × (reach ≡ At f)

-- the moment before its end isn't a valid time
abbrev pub IsPendingAt : State → Progress → Fault → Type 0
IsPendingAt states.AfterMoment s f = moment_time s.builder.moment ≡ Err f
IsPendingAt state s f = ⊥

abbrev pub IsPending : Progress → Fault → Type 0
IsPending s f = IsPendingAt s.state s f

-- where the tokens end
abbrev pub Stands : Reach → Progress → Type 0
Stands Within s = ⊤
Stands Whole s = is_done s.state ≡ true
Stands (At f) s = IsPending s f

-- ---- checks between tokens

pub passes : (e : Option Fault) (rest : List Item) (ts : List Lexeme) (reach : Reach) → e ≡ None → ReadsTokens rest ts reach → ReadsTokens (Examine e ∷ rest) ts reach
passes None rest ts reach same w = w
passes (Some f) rest ts reach same w = absurd cc

pub fails : (e : Option Fault) (rest : List Item) (f : Fault) → e ≡ Some f → ReadsTokens (Examine e ∷ rest) [] (At f)
fails None rest f same = absurd cc
fails (Some g) rest f same = let told : f ≡ g = cc in ap At told

-- the same spelling of an equal value
pub carried : {A : Type 0} (spelling : A → List Item) (ts : List Lexeme) (reach : Reach) (a b : A) → a ≡ b → ReadsTokens (spelling a) ts reach → ReadsTokens (spelling b) ts reach
carried {A} spelling ts reach a b same w = subst (λ (x : A). ReadsTokens (spelling x) ts reach) same w

pub passed : (e : Option Fault) (rest : List Item) (ts : List Lexeme) (reach : Reach) → e ≡ None → ReadsTokens (Examine e ∷ rest) ts reach → ReadsTokens rest ts reach
passed None rest ts reach same w = w
passed (Some f) rest ts reach same w = absurd cc

pub failed : (e : Option Fault) (rest : List Item) (ts : List Lexeme) (reach : Reach) (f : Fault) → e ≡ Some f → ReadsTokens (Examine e ∷ rest) ts reach → (ts ≡ []) × (reach ≡ At f)
failed None rest ts reach f same w = absurd cc
failed (Some g) rest [] reach f same w = let told : g ≡ f = cc in (refl, w ∙ ap At told)
failed (Some g) rest (t ∷ ts) reach f same w = absurd w
