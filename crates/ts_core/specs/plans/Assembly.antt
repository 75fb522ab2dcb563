-- The answer of a plan over a view: raw facts for some pieces, totals of cells for others.
-- (Own rules.)
use Rattle.std.specs.Prelude.{ℤ, pos, ◌==◌, Bool, not, ◌&&◌, List, [], ◌∷◌, ◌++◌, map, filter, zip, Option, Some, None, if◌then◌else◌}
use Rattle.ts_core.specs.facts.Facts.{Text, same_text, Fact, is_within}
use Rattle.ts_core.specs.aggregates.Buckets.{bucket_start}
use Rattle.ts_core.specs.aggregates.Partials.{fold_by}
use Rattle.ts_core.specs.aggregates.Aggregates.{Aggregate, empty_aggregate, merged, aggregate_of}
use Rattle.ts_core.specs.settings.Settings.{Rule}
use Rattle.ts_core.specs.queries.Queries.{Query, matches, group_of}
use Rattle.ts_core.specs.queries.Answers.{Row, Group, buckets_in, all_groups, is_in_row}
use Rattle.ts_core.specs.plans.Pieces.{Source, Raw, Rollup, Piece, start_of}
use Rattle.ts_core.specs.store.Cells.{Cell}
use Rattle.ts_core.specs.store.StoreStates.{facts_of, RuleCells}
use Rattle.ts_core.specs.store.Views.{ViewState, shown_total}

-- a cell matches as a representative fact would: one at the start of its bucket, in a series with the kept tags
abbrev pub representative : Rule → Cell → Fact
representative r k =
    record {
      column = record {
        series = record { measurement = r.measurement; tags = zip r.kept_tags k.group };
        field = k.field;
      };
      time = start_of r k.index;
      value = pos 0;
    }

-- the first rule of a name in the view
abbrev pub rule_shown : Text → List RuleCells → Option RuleCells
rule_shown name [] = None
rule_shown name (r ∷ rs) = if same_text r.rule.name name then Some r else rule_shown name rs

-- restricts a test of facts to times from a, inclusive, to b, exclusive
abbrev pub in_part : (Fact → Bool) → ℤ → ℤ → Fact → Bool
in_part test a b f = test f && is_within a b f.time

-- ---- rows

-- the merged totals of the matching cells
abbrev pub totals_given : Option RuleCells → (Fact → Bool) → Aggregate
totals_given None test = empty_aggregate
totals_given (Some r) test =
    fold_by empty_aggregate merged (shown_total r) (filter (λ (k : Cell). test (representative r.rule k)) r.cells)

abbrev pub aggregate_given : ViewState → Source → (Fact → Bool) → Aggregate
aggregate_given seen Raw test = aggregate_of (filter test (facts_of seen.columns))
aggregate_given seen (Rollup name) test = totals_given (rule_shown name seen.rules) test

-- the merged contributions of all pieces to a row
abbrev pub assembled : ViewState → Query → List Piece → List Text → ℤ → Aggregate
assembled seen q pieces g k = fold_by empty_aggregate merged
    (λ (p : Piece). aggregate_given seen p.source (in_part (is_in_row q g k) p.from p.to)) pieces

-- ---- groups

-- the groups of the matching cells that have data
abbrev pub cell_groups : Query → Option RuleCells → (Fact → Bool) → List (List Text)
cell_groups q None test = []
cell_groups q (Some r) test = map (λ (k : Cell). group_of q (representative r.rule k))
    (filter (λ (k : Cell). test (representative r.rule k) && not ((shown_total r k).count == 0)) r.cells)

abbrev pub groups_given : ViewState → Query → Source → (Fact → Bool) → List (List Text)
groups_given seen q Raw test = map (group_of q) (filter test (facts_of seen.columns))
groups_given seen q (Rollup name) test = cell_groups q (rule_shown name seen.rules) test

abbrev pub assembled_groups : ViewState → Query → List Piece → List (List Text)
assembled_groups seen q [] = []
assembled_groups seen q (p ∷ ps) =
    groups_given seen q p.source (in_part (matches q) p.from p.to) ++ assembled_groups seen q ps

-- ---- the answer

abbrev pub assembled_row : ViewState → Query → List Piece → List Text → ℤ → Row
assembled_row seen q pieces g k =
    record { start = bucket_start k q.interval q.offset; aggregate = assembled seen q pieces g k }

abbrev pub assembled_answer : ViewState → Query → List Piece → List Group
assembled_answer seen q pieces =
    map (λ g. record { values = g; rows = map (assembled_row seen q pieces g) (buckets_in q) })
    (all_groups (assembled_groups seen q pieces))
