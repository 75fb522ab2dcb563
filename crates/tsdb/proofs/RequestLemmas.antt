-- Requests one after another.
use Rattle.std.proofs.Common.{⊎_elim, inl, inr, ℤ, List, [], ◌∷◌, ◌++◌, refl, sym, subst, Result, Ok, Err}
use Rattle.std.specs.Prelude.{⊤}
use Rattle.ts_core.specs.facts.Facts.{Text}
use Rattle.ts_core.specs.io.Devices.{Input, Output}
use Rattle.ts_core.specs.store.StoreData.{StoreData}
use Rattle.ts_store.specs.store.WholeStates.{WholeState}
use Rattle.ts_http.specs.HeadsRead.{request_of}
use Rattle.ts_http.specs.Served.{Answers, ServedAs, IsServed}
use Rattle.ts_http.specs.declared.serve.IoFault.{IoFault}
use Rattle.ts_http.specs.declared.serve.IoFault.TheVariants.{Reader, Writer}
use Rattle.ts_http.specs.declared.serve.Served.{Served}
use Rattle.tsdb.specs.ServedRequests.{ServedRequest, Leave, WentBy, WentByOne}

pub stayed : (k : StoreData) → WentBy k k
stayed k = λ s here. ([], s, refl, here)

leave_on : (newer older : List ServedRequest) (a b c : WholeState) → Leave older a b → Leave newer b c → Leave (newer ++ older) a c
leave_on [] older a b c first e = subst (λ (s : WholeState). Leave older a s) (sym e) first
leave_on (r ∷ rs) older a b c first then = (then.0, leave_on rs older a b then.0 first then.1, then.2)

pub went_on : (old mid new : StoreData) → WentBy old mid → WentBy mid new → WentBy old new
went_on old mid new first then = λ s here.
    let one = first s here in
    let two = then one.1 one.3 in
    (two.0 ++ one.0, two.1, leave_on two.0 one.0 s one.1 two.1 one.2 two.2, two.3)

-- what went out doesn't matter, nor what was read
any_answer : (bytes : Text) (Quiet : Type 0) (old new : StoreData) (served : Served) (reply : Text) → Answers bytes Quiet old new served reply → Answers bytes ⊤ old new served reply
any_answer bytes Quiet old new served reply (Answers.nothing asks same) = Answers.nothing asks same
any_answer bytes Quiet old new served reply (Answers.refuses r route to_head asks same) = Answers.refuses r route to_head asks same
any_answer bytes Quiet old new served reply (Answers.acts route method query body status allow content asks quiet leaves) = Answers.acts route method query body status allow content asks tt leaves

any_sent : (now : ℤ) (bytes : Text) (Quiet : Type 0) (old : StoreData) (served : Served) (new : StoreData) (Sent : Text → Type 0) → ServedAs now bytes Quiet old served new Sent → WentByOne now old new
any_sent now bytes Quiet old served new Sent one = inr (bytes, served, record { reply = one.reply; sent = tt; answers = any_answer bytes Quiet old new served one.reply one.answers; states = one.states })

-- a request that was served, or done and not answered whole, or not read
pub went : (now : ℤ) (old : StoreData) (source : Input) (sink : Output) (result : Result Served IoFault) (new : StoreData) (source' : Input) (sink' : Output)
    → IsServed now old source sink result new source' sink' → WentByOne now old new
went now old source sink (Ok served) new source' sink' is = any_sent now (request_of is.answered.0 source') _ old served new _ is.answered.2
went now old source sink (Err Reader) new source' sink' is = inl (is.unread refl).0
went now old source sink (Err Writer) new source' sink' is =
    let begun = is.begun refl in
    any_sent now (request_of begun.0 source') _ old begun.2.0 new _ begun.2.1

pub by_one : (now : ℤ) (old new : StoreData) → WentByOne now old new → WentBy old new
by_one now old new one = ⊎_elim {C = WentBy old new} (λ same. subst (λ (k : StoreData). WentBy old k) (sym same) (stayed old))
    (λ w. λ s here.
    let done = w.2.states s here in
    (record { now = now; bytes = w.0; served = w.1; reply = w.2.reply } ∷ [], done.0, (s, refl, done.1), done.2))
    one
