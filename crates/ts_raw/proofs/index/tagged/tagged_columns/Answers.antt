use Rattle.std.proofs.Common.{◌≡◌, ℕ, ◌+◌, List, [], ◌∷◌, ◌++◌, drop, get_or, sym, subst, rules}
use Rattle.std.proofs.lemmas.List.{drop_more}
use Rattle.std.proofs.lemmas.Option.{slice_get-get_or}
use Rattle.ts_core.specs.facts.Facts.{Series, Text}
use Rattle.ts_core.proofs.lists.NumberedLemmas.{at_among}
use Rattle.ts_raw.specs.Tagged.{IsTaggedAt}
use Rattle.ts_raw.proofs.TaggedLemmas.{IsTaggedSoFar, tagged_none, tagged_some}
use Rattle.ts_raw.proofs.index.tagged.tagged_columns.Goals as goal
use Rattle.ts_raw.proofs.index.tagged.tagged_columns.Goals.{in-Some+in_ok-push, in_default}

pub loop-number-preserved : goal.loop-number-preserved
loop-number-preserved g c =
    let series : List Series = c.args.series.now in
    let columns : List (ℕ × ℕ) = c.args.columns.now.columns in
    let field : ℕ = c.args.field in
    let tag : Text = c.args.tag.now in
    let value : Text = c.args.value.now in
    let ns : List ℕ = c.args.numbers.now in
    let i : ℕ = c.loop-number.number-index in
    let k : ℕ = get_or ns i 0 in
    let found : List ℕ = c.loop-number.found.items in
    let before : IsTaggedSoFar series columns field tag value ns found (k ∷ drop (i + 1) ns) =
    subst (λ (left : List ℕ). IsTaggedSoFar series columns field tag value ns found left) (drop_more ns i 0 c.loop-number-test.true) c.loop-number.invariant in
    elim c.match-tagged_column.branch [
      | in-Some+in_ok-push w ↦
          let is : IsTaggedAt series columns field tag value k w.in-Some.column = w.in-Some.ensures.found in
          let pushed : c.match-tagged_column.found.items ≡ found ++ w.in-Some.column ∷ [] = search rules in
          subst (λ (xs : List ℕ). IsTaggedSoFar series columns field tag value ns xs (drop (i + 1) ns)) (sym pushed)
          (tagged_some series columns field tag value ns found (drop (i + 1) ns) k w.in-Some.column c.requires before (at_among ns i k (slice_get-get_or ns i 0 c.loop-number-test.true)) is)
      | in_default w ↦
          let none : (n : ℕ) → IsTaggedAt series columns field tag value k n → ⊥ = w.in_default.ensures.absent in
          let same : c.match-tagged_column.found.items ≡ found = search rules in
          subst (λ (xs : List ℕ). IsTaggedSoFar series columns field tag value ns xs (drop (i + 1) ns)) (sym same)
          (tagged_none series columns field tag value ns found (drop (i + 1) ns) k before none)
    ]
