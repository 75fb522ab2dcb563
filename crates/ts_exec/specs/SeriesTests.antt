-- Tests of a series by its own tags. (Own rules.)
use Rattle.std.specs.Prelude.{◌≡◌, ◌==◌, Bool, not, ◌&&◌, ◌||◌, List, [], length, map, if◌then◌else◌}
use Rattle.std.specs.Borrow.{Bor}
use Rattle.std.specs.List.{list_all, list_any}
use Rattle.std.specs.List.Sorted.{IsSorted}
use Rattle.ts_core.specs.facts.Facts.{Text, same_text, tag_cmp, Series}
use Rattle.ts_core.specs.lists.Members.{AllDistinct}
use Rattle.ts_core.specs.queries.Queries.{Condition, meets}

-- conditions that a series without the tag doesn't meet, and tags with values of the others
pub record SeriesTests : Type 0 where
  pub needed : List Condition
  pub refused : List (Text × Text)

abbrev pub ArePairsSorted : List (Bor Text × Bor Text) → Type 0
ArePairsSorted pairs = IsSorted (λ (a b : Bor Text × Bor Text). tag_cmp (a.0.now, a.1.now) (b.0.now, b.1.now)) pairs

-- each tag once
abbrev pub AreDistinctTags : List (Text × Text) → Type 0
AreDistinctTags tags = AllDistinct (map (λ (t : Text × Text). t.0) tags)

abbrev pub is_empty_text : Text → Bool
is_empty_text text = length text == 0

-- a series without the tag meets the condition
abbrev pub holds_empty : Condition → Bool
holds_empty c = if c.negated then not (is_empty_text c.value) else is_empty_text c.value

abbrev pub has_pair : List (Text × Text) → Text × Text → Bool
has_pair pairs t = list_any (λ (p : Text × Text). same_text t.0 p.0 && same_text t.1 p.1) pairs

-- the tag must not have this value
abbrev pub is_refused : List (Text × Text) → Text × Text → Bool
is_refused pairs t = not (is_empty_text t.1) && (has_pair pairs t || has_pair pairs (t.0, []))

abbrev pub meets_tests : List Condition → List (Text × Text) → Series → Bool
meets_tests needed refused s =
    list_all (λ (t : Text × Text). not (is_refused refused t)) s.tags && list_all (meets s) needed

-- those that meet the tests are the series that meet the conditions
abbrev pub AreTestsOf : List Condition → SeriesTests → Type 0
AreTestsOf conditions tests = (s : Series)
    → AreDistinctTags s.tags → meets_tests tests.needed tests.refused s ≡ list_all (meets s) conditions
