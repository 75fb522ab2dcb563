-- Latest facts in other words: each accepted id has exactly one, the fact accepted last.
use Rattle.std.proofs.lemmas.Bool.{not_from_false, false_from_ne_true, not-true}
use Rattle.std.proofs.Common.{◌≡◌, Bool, true, false, cond, not, List, [], ◌∷◌, refl, sym, ◌∙◌, ap, Some, None, inl, inr, ◌⊎◌, ⊎_elim, true≢false}
use Rattle.std.proofs.lemmas.Option.{same_Some}
use Rattle.ts_core.specs.lists.Members.{Among, AllDistinct}
use Rattle.ts_core.specs.facts.Facts.{Fact, id_of, same_id}
use Rattle.ts_core.specs.facts.Latest.{others, latest, value_at}
use Rattle.ts_core.proofs.lists.MembersLemmas.{Among-filter_passes, Among-filter_was, Among-filter_stays, AllDistinct-filter, filter-all}
use Rattle.ts_core.proofs.facts.Ids.{same_id-eq, same_id-refl}

abbrev is_other : Fact → Fact → Bool
is_other f g = not (same_id (id_of g) (id_of f))

-- each fact once
pub latest-distinct : (fs : List Fact) → AllDistinct (latest fs)
latest-distinct [] = tt
latest-distinct (f ∷ fs) = (
  λ k. true≢false (sym (same_id-refl (id_of f)) ∙ not-true _ (Among-filter_passes (is_other f) f (latest fs) k)),
  AllDistinct-filter (is_other f) (latest fs) (latest-distinct fs),
)

-- a latest fact is the newest of its id
pub value_at-latest : (fs : List Fact) (f : Fact) → Among f (latest fs) → value_at fs (id_of f) ≡ Some f.value
value_at-latest [] f h = absurd h
value_at-latest (g ∷ fs) f h =
    ⊎_elim {C = cond (same_id (id_of f) (id_of g)) (Some g.value) (value_at fs (id_of f)) ≡ Some f.value}
    (λ e. ap (λ b. cond b (Some g.value) (value_at fs (id_of f))) (ap (λ x. same_id (id_of x) (id_of g)) e ∙ same_id-refl (id_of g)) ∙ ap (λ x. Some x.value) (sym e))
    (λ k. ap (λ b. cond b (Some g.value) (value_at fs (id_of f))) (not-true _ (Among-filter_passes (is_other g) f (latest fs) k))
    ∙ value_at-latest fs f (Among-filter_was (is_other g) f (latest fs) k))
    h

pub same_fact : (f g : Fact) → id_of f ≡ id_of g → f.value ≡ g.value → f ≡ g
same_fact f g e k = λ i. record { column = (e i).column; time = (e i).time; value = k i }

-- and what is the newest of its id is latest
pub latest-value_at : (fs : List Fact) (f : Fact) → value_at fs (id_of f) ≡ Some f.value → Among f (latest fs)
latest-value_at [] f h = absurd (let n : None ≡ Some f.value = h in cc)
latest-value_at (g ∷ fs) f h =
    elim (same_id (id_of f) (id_of g)) as (λ b. same_id (id_of f) (id_of g) ≡ b → cond b (Some g.value) (value_at fs (id_of f)) ≡ Some f.value → (f ≡ g) ⊎ Among f (others g (latest fs))) [
      | true ↦ λ e k. inl (same_fact f g (same_id-eq (id_of f) (id_of g) e) (sym (same_Some g.value f.value k)))
      | false ↦ λ e k. inr (Among-filter_stays (is_other g) f (latest fs) (latest-value_at fs f k) (ap not e))
    ] refl h

-- the latest fact of an id is one alone
pub latest-one : (fs : List Fact) (f g : Fact) → Among f (latest fs) → Among g (latest fs) → id_of f ≡ id_of g → f ≡ g
latest-one fs f g a b e =
    same_fact f g e (same_Some f.value g.value (sym (value_at-latest fs f a) ∙ ap (value_at fs) e ∙ value_at-latest fs g b))

-- each accepted id has one
pub latest-each : (fs : List Fact) (f : Fact) → Among f fs → (g : Fact) × Among g (latest fs) × (id_of g ≡ id_of f)
latest-each [] f h = absurd h
latest-each (g ∷ fs) f h =
    ⊎_elim {C = (x : Fact) × Among x (latest (g ∷ fs)) × (id_of x ≡ id_of f)}
    (λ e. (g, inl refl, ap id_of (sym e)))
    (λ k.
    let r = latest-each fs f k in
    elim (same_id (id_of r.0) (id_of g)) as (λ b. same_id (id_of r.0) (id_of g) ≡ b → (x : Fact) × Among x (latest (g ∷ fs)) × (id_of x ≡ id_of f)) [
      | true ↦ λ e. (g, inl refl, sym (same_id-eq (id_of r.0) (id_of g) e) ∙ r.2)
      | false ↦ λ e. (r.0, inr (Among-filter_stays (is_other g) r.0 (latest fs) r.1 (ap not e)), r.2)
    ] refl)
    h

-- and it was accepted
pub latest-was : (fs : List Fact) (f : Fact) → Among f (latest fs) → Among f fs
latest-was [] f h = h
latest-was (g ∷ fs) f h = ⊎_elim {C = Among f (g ∷ fs)} (λ e. inl e) (λ k. inr (latest-was fs f (Among-filter_was (is_other g) f (latest fs) k))) h

-- a fact of a new id takes nothing out
pub others-new : (fs : List Fact) (f : Fact) → value_at fs (id_of f) ≡ None → others f (latest fs) ≡ latest fs
others-new fs f h =
    filter-all (is_other f) (latest fs) (λ g k.
    not_from_false _ (false_from_ne_true _ (λ e. let n : None ≡ Some g.value = sym h ∙ ap (value_at fs) (sym (same_id-eq (id_of g) (id_of f) e)) ∙ value_at-latest fs g k in cc)))
