-- Values of a group's tags, kept without the empty ones. (Own rules.)
use Rattle.std.specs.Prelude.{ℕ, zero, suc, ◌<◌, ◌≤◌, ◌==◌, if◌then◌else◌}
use Rattle.std.specs.Prelude.{List, [], ◌∷◌, length, get_or, map, Option, Some, None}
use Rattle.std.specs.declared.cmp.Ordering.{Ordering}
use Rattle.std.specs.Ordering.{ordering_then, nat_cmp}
use Rattle.std.specs.declared.cmp.Reverse.{Reverse}
use Rattle.std.specs.Borrow.{Bor}
use Rattle.ts_core.specs.facts.Facts.{Text, same_text, text_cmp}

-- a value that isn't empty, with its tag's index
abbrev pub SetValue : Type 0
SetValue = ℕ × Text

-- those of a list
abbrev pub seen_set : List (Reverse ℕ × Bor Text) → List SetValue
seen_set vs = map (λ (v : Reverse ℕ × Bor Text). (v.0.0, v.1.now)) vs

-- in rising order of indices, from i on and below n
abbrev pub AreSetValues : ℕ → ℕ → List SetValue → Type 0
AreSetValues i n [] = Unit {0}
AreSetValues i n (v ∷ vs) = (i ≤ v.0) × (v.0 < n) × (0 < length v.1) × AreSetValues (suc v.0) n vs

-- the values of n tags, of which the first has index i
abbrev pub all_values : ℕ → ℕ → List SetValue → List Text
all_values i zero vs = []
all_values i (suc n) [] = [] ∷ all_values (suc i) n []
all_values i (suc n) (v ∷ vs) = if v.0 == i then v.1 ∷ all_values (suc i) n vs else [] ∷ all_values (suc i) n (v ∷ vs)

-- the first of these values, if it is that of the tag with index i
abbrev pub first_value : ℕ → List SetValue → Option Text
first_value i [] = None
first_value i (v ∷ vs) = if v.0 == i then Some v.1 else None

-- an earlier tag's value comes after, as the other group has none there
abbrev pub set_value_cmp : SetValue → SetValue → Ordering
set_value_cmp v w = ordering_then (nat_cmp w.0 v.0) (text_cmp v.1 w.1)

-- the values of some tags, of which the first has index i, by the value of each, without the empty ones
abbrev pub set_values : ℕ → List Text → (Text → Text) → List SetValue
set_values i [] value_of = []
set_values i (tag ∷ tags) value_of =
    if length (value_of tag) == 0
    then set_values (suc i) tags value_of
    else (i, value_of tag) ∷ set_values (suc i) tags value_of

-- the index of a tag, if it is among those whose first has index i
abbrev pub tag_index : ℕ → List Text → Text → Option ℕ
tag_index i [] tag = None
tag_index i (t ∷ ts) tag = if same_text t tag then Some i else tag_index (suc i) ts tag

abbrev pub with_set : Option ℕ → Text → List SetValue → List SetValue
with_set None value rest = rest
with_set (Some i) value rest = if length value == 0 then rest else (i, value) ∷ rest

-- the values that a series' own tags give to some tags
abbrev pub own_values : List Text → List (Text × Text) → List SetValue
own_values tags [] = []
own_values tags (t ∷ own) = with_set (tag_index 0 tags t.0) t.1 (own_values tags own)

-- the index of each of some tags, of which the first has index i, that is among those kept, with its index there
abbrev pub with_kept : ℕ → Option ℕ → List (ℕ × ℕ) → List (ℕ × ℕ)
with_kept i None rest = rest
with_kept i (Some k) rest = (i, k) ∷ rest

abbrev pub kept_indices : ℕ → List Text → List Text → List (ℕ × ℕ)
kept_indices i [] kept = []
kept_indices i (tag ∷ tags) kept = with_kept i (tag_index 0 kept tag) (kept_indices (suc i) tags kept)

-- the values at such indices of a group of the kept tags
abbrev pub kept_values : List (ℕ × ℕ) → List Text → List SetValue
kept_values [] group = []
kept_values (p ∷ ps) group =
    if length (get_or group p.1 []) == 0
    then kept_values ps group
    else (p.0, get_or group p.1 []) ∷ kept_values ps group
