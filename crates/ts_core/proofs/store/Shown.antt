-- A view that shows the history which the store represents.
use Rattle.std.proofs.Common.{◌≡◌, ℤ, List, [], ◌∷◌, sym, ◌∙◌, ap, ap₂, subst, ◌≤ℤ◌}
use Rattle.std.specs.List.{AllByRecursion}
use Rattle.ts_core.specs.facts.Facts.{Column, Fact}
use Rattle.ts_core.specs.settings.Settings.{Settings}
use Rattle.ts_core.specs.store.History.{History, raw_mark}
use Rattle.ts_core.specs.facts.Latest.{latest_of}
use Rattle.ts_core.specs.store.Marks.{Marks}
use Rattle.ts_core.specs.aggregates.Aggregates.{merged}
use Rattle.ts_core.specs.store.RawFacts.{kept_from}
use Rattle.ts_core.specs.store.StoreStates.{RuleCells, StoreState, StandsFor, HasCells, facts_of}
use Rattle.ts_core.specs.store.Views.{HasTotals, Shows, view_state_of}
use Rattle.ts_core.proofs.store.Cuts.{total_of-parts, Holds}
use Rattle.ts_core.proofs.store.StateLemmas.{is_kept-above, StandsFor-Holds}

all_totals : (cut : Column → ℤ) (fs : List Fact) (rs : List RuleCells) → AllByRecursion (HasCells cut fs) rs → AllByRecursion (HasTotals fs) rs
all_totals cut fs [] a = tt
all_totals cut fs (r ∷ rs) a = (
  record {
    once = a.0.once;
    there = a.0.there;
    totals = λ k l. ap₂ merged (a.0.frozen k l) (a.0.live k l) ∙ sym (total_of-parts cut r.rule k fs);
  },
  all_totals cut fs rs a.1,
)

pub stands_shows : (opening : Settings) (h : History) (s : StoreState) → StandsFor opening h s → Shows opening h (view_state_of s)
stands_shows opening h s st =
    let cut : Column → ℤ = kept_from opening h s.waiting in
    let held : Holds cut (latest_of h) (facts_of s.columns) = StandsFor-Holds opening h s st in
    let raw : s.marks.raw ≡ raw_mark opening h = ap (λ (m : Marks). m.raw) st.marks in
    record {
      lawful = st.lawful;
      settings = st.settings;
      marks = st.marks;
      columns_once = st.columns_once;
      columns_there = st.columns_there;
      once = st.once;
      raw = λ f m. (λ a. (held.only f a).0, λ a. held.all f a (is_kept-above opening h s.waiting f (subst (λ x. x ≤ℤ f.time) raw m)));
      rules = st.rules;
      lows = st.lows;
      rolled = all_totals cut (latest_of h) s.rules st.rolled;
    }
