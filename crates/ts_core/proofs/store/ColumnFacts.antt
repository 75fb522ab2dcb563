-- The points of each column of a store that represents a history: exactly the column's raw facts.
use Rattle.ts_core.proofs.lists.MembersLemmas.{Among-map, map_back, Among-left, Among-right, Among-append}
use Rattle.std.proofs.Common.{◌≡◌, ℕ, ◌+◌, ℤ, List, [], ◌∷◌, ◌++◌, map, length, sym, ◌∙◌, ap, subst, inl, inr, ⊎_elim}
use Rattle.ts_core.specs.lists.Members.{Among, AllDistinct}
use Rattle.ts_core.specs.facts.Facts.{Column, Fact}
use Rattle.ts_core.specs.settings.Settings.{Settings}
use Rattle.ts_core.specs.store.History.{History}
use Rattle.ts_core.specs.store.RawFacts.{raw_of}
use Rattle.ts_core.specs.store.StoreStates.{fact_at, ColumnPoints, column_of, facts_at, facts_of}

-- a column's facts are of that column
pub facts_at-column : (c : Column) (ps : List (ℤ × ℤ)) (f : Fact) → Among f (facts_at c ps) → f.column ≡ c
facts_at-column c ps f a = sym (ap (λ (g : Fact). g.column) (map_back (fact_at c) ps f a).2)

facts_of-column : (cs : List ColumnPoints) (f : Fact) → Among f (facts_of cs) → Among f.column (map column_of cs)
facts_of-column [] f a = absurd a
facts_of-column (c ∷ cs) f a =
    ⊎_elim {C = Among f.column (map column_of (c ∷ cs))} (λ k. inl (facts_at-column c.column c.points f k)) (λ k. inr (facts_of-column cs f k)) (Among-append f (facts_at c.column c.points) (facts_of cs) a)

pub facts_of-there : (cs : List ColumnPoints) (c : ColumnPoints) (f : Fact) → Among c cs → Among f (facts_at c.column c.points) → Among f (facts_of cs)
facts_of-there [] c f m a = absurd m
facts_of-there (d ∷ ds) c f m a =
    ⊎_elim {C = Among f (facts_of (d ∷ ds))}
    (λ e. Among-left f (facts_at d.column d.points) (facts_of ds) (subst (λ (x : ColumnPoints). Among f (facts_at x.column x.points)) e a))
    (λ k. Among-right f (facts_at d.column d.points) (facts_of ds) (facts_of-there ds c f k a)) m

pub column_there : (cs : List ColumnPoints) (c : ColumnPoints) → Among c cs → Among c.column (map column_of cs)
column_there cs c m = Among-map column_of c cs m

-- where columns are distinct, the facts of a column are in that one
pub facts_of-here : (cs : List ColumnPoints) (c : ColumnPoints) (f : Fact) → AllDistinct (map column_of cs) → Among c cs → f.column ≡ c.column → Among f (facts_of cs) → Among f (facts_at c.column c.points)
facts_of-here [] c f d m e a = absurd m
facts_of-here (b ∷ bs) c f d m e a =
    let split = Among-append f (facts_at b.column b.points) (facts_of bs) a in
    ⊎_elim {C = Among f (facts_at c.column c.points)}
    (λ same. ⊎_elim {C = Among f (facts_at c.column c.points)}
    (λ k. subst (λ (x : ColumnPoints). Among f (facts_at x.column x.points)) (sym same) k)
    (λ k. absurd (d.0 (subst (λ x. Among x (map column_of bs)) (e ∙ ap column_of same) (facts_of-column bs f k)))) split)
    (λ later. ⊎_elim {C = Among f (facts_at c.column c.points)}
    (λ k. absurd (d.0 (subst (λ x. Among x (map column_of bs)) (sym e ∙ facts_at-column b.column b.points f k) (column_there bs c later))))
    (λ k. facts_of-here bs c f d.1 later e k) split)
    m

pub distinct_parts : {X : Type 0} (xs ys : List X) → AllDistinct (xs ++ ys) → AllDistinct xs × AllDistinct ys
distinct_parts [] ys d = (tt, d)
distinct_parts (x ∷ xs) ys d = let r = distinct_parts xs ys d.1 in ((λ a. d.0 (Among-left x xs ys a), r.0), r.1)

pub facts_at-distinct : (cs : List ColumnPoints) (c : ColumnPoints) → AllDistinct (facts_of cs) → Among c cs → AllDistinct (facts_at c.column c.points)
facts_at-distinct [] c d m = absurd m
facts_at-distinct (b ∷ bs) c d m =
    let parts = distinct_parts (facts_at b.column b.points) (facts_of bs) d in
    ⊎_elim {C = AllDistinct (facts_at c.column c.points)} (λ e. subst (λ (x : ColumnPoints). AllDistinct (facts_at x.column x.points)) (sym e) parts.0) (λ k. facts_at-distinct bs c parts.1 k) m

-- the raw facts of all columns
abbrev pub raw_count : Settings → History → List Column → List ColumnPoints → ℕ
raw_count opening h waiting [] = 0
raw_count opening h waiting (c ∷ cs) = length (raw_of opening h waiting c.column) + raw_count opening h waiting cs
