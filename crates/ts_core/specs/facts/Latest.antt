-- The latest facts: the last accepted fact of each id. Nothing is ever removed.
-- (InfluxData 1.8, frequently asked questions, duplicate points: the newer field value wins.)
use Rattle.std.specs.Prelude.{ℕ, ℤ, not, if◌then◌else◌, List, [], ◌∷◌, length, Option, Some, None, filter}
use Rattle.ts_core.specs.facts.Facts.{Text, Fact, Id, id_of, same_id, is_asked}
use Rattle.ts_core.specs.store.History.{History, accepted}

-- the facts of other ids
abbrev pub others : Fact → List Fact → List Fact
others f fs = filter (λ (g : Fact). not (same_id (id_of g) (id_of f))) fs

-- the newest fact of each id, from a list of facts with the newest first
abbrev pub latest : List Fact → List Fact
latest [] = []
latest (f ∷ fs) = f ∷ others f (latest fs)

abbrev pub latest_of : History → List Fact
latest_of h = latest (accepted h)

-- the newest value of an id, from a list of facts with the newest first
abbrev pub value_at : List Fact → Id → Option ℤ
value_at [] i = None
value_at (f ∷ fs) i = if same_id i (id_of f) then Some f.value else value_at fs i

-- the number of latest facts of a measurement and a field, from a, inclusive, to b, exclusive
abbrev pub count_of : History → Text → Text → ℤ → ℤ → ℕ
count_of h measurement field a b = length (filter (is_asked measurement field a b) (latest_of h))
