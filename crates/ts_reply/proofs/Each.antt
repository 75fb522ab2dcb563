-- One element more, after those that have their items.
use Rattle.std.proofs.Common.{◌≡◌, ℕ, ◌+◌, ◌<◌, List, [], ◌∷◌, ◌++◌, length, map, take, get_or, sym, ap, ◌∙◌, subst}
use Rattle.std.proofs.lemmas.List.{take_more}
use Rattle.serde_json.specs.Data.{Data}
use Rattle.serde_json.specs.View.{items_of}
use Rattle.ts_ql.specs.Selects.{Select}
use Rattle.ts_reply.specs.Answering.{AreOutcomes}
use Rattle.ts_reply.specs.Outcomes.{Outcome}
use Rattle.ts_reply.specs.Replies.{AreEach}

pub each_more : {X : Type 0} (P : X → Data → Type 0) (xs : List X) (ds : List Data) (x : X) (d : Data) → AreEach P xs (items_of ds) → P x d → AreEach P (xs ++ x ∷ []) (items_of (ds ++ d ∷ []))
each_more P [] [] x d h p = (p, tt)
each_more P [] (e ∷ ds) x d h p = absurd h
each_more P (y ∷ ys) [] x d h p = absurd h
each_more P (y ∷ ys) (e ∷ ds) x d h p = (h.0, each_more P ys ds x d h.1 p)

outcomes_pushed : {X : Type 0} (told : X → Outcome) (Becomes : Select → Outcome → Type 0) (ss : List Select) (xs : List X) (s : Select) (x : X)
    → AreOutcomes Becomes ss (map told xs) → Becomes s (told x) → AreOutcomes Becomes (ss ++ s ∷ []) (map told (xs ++ x ∷ []))
outcomes_pushed told Becomes [] [] s x a is = (is, tt)
outcomes_pushed told Becomes [] (y ∷ ys) s x a is = absurd a
outcomes_pushed told Becomes (t ∷ ts) [] s x a is = absurd a
outcomes_pushed told Becomes (t ∷ ts) (y ∷ ys) s x a is = (a.0, outcomes_pushed told Becomes ts ys s x a.1 is)

pub outcomes_more : {X : Type 0} (told : X → Outcome) (Becomes : Select → Outcome → Type 0) (n : ℕ) (ss : List Select) (xs : List X) (s : Select) (x : X)
    → n < length ss → get_or ss n s ≡ s → AreOutcomes Becomes (take n ss) (map told xs) → Becomes s (told x) → AreOutcomes Becomes (take (n + 1) ss) (map told (xs ++ x ∷ []))
outcomes_more told Becomes n ss xs s x within here a is =
    let all : take (n + 1) ss ≡ take n ss ++ s ∷ [] = take_more ss n s within ∙ ap (λ (y : Select). take n ss ++ y ∷ []) here in
    subst (λ (ts : List Select). AreOutcomes Becomes ts (map told (xs ++ x ∷ []))) (sym all) (outcomes_pushed told Becomes (take n ss) xs s x a is)
