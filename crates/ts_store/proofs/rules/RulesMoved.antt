-- A store with one more rule, or with one less: its invariant, and the history that it represents.
use Rattle.std.proofs.Common.{◌≡◌, ◌≤ℤ◌, ◌≤◌, ◌^◌, ℕ, ℤ, pos, List, [], ◌∷◌, ◌++◌, map, Option, Some, None, Result, Ok, Err, IfSome, is_some, refl, sym, ◌∙◌, ap, subst, inl, inr, unsigned_abs, FitsSigned, true≢false, arith, ◌<◌, zero, suc, Bool, true, false, cond, IsTrue, filter}
use Rattle.std.specs.Int.{w64}
use Rattle.std.specs.FinMap as finmap
use Rattle.std.specs.List.{AllByRecursion, remove, zip}
use Rattle.std.proofs.lemmas.Int.{ints}
use Rattle.std.proofs.lemmas.List.{map-append, length-append}
use Rattle.ts_core.specs.declared.settings.settings_fault.SettingsError.{SettingsError}
use Rattle.ts_core.specs.declared.settings.settings_fault.SettingsError.TheVariants.{Fault, OutOfMemory}
use Rattle.ts_core.specs.declared.settings.settings_fault.SettingsFault.{SettingsFault}
use Rattle.ts_core.specs.facts.Facts.{Column, Text}
use Rattle.ts_core.specs.facts.Times.{IsTime, least_time}
use Rattle.ts_core.specs.settings.Settings.{Rule, Settings, IsPossibleRule, with_rule, without_rule, is_unnamed}
use Rattle.ts_core.specs.settings.SettingsFaults.{settings_fault, added_fault, is_named}
use Rattle.ts_core.specs.aggregates.Buckets.{bucket_start}
use Rattle.ts_core.specs.store.Marks.{Marks, index_of, first_from}
use Rattle.ts_core.specs.aggregates.Aggregates.{Aggregate}
use Rattle.ts_core.specs.store.Cells.{cell_of, is_in_cell}
use Rattle.ts_core.specs.lists.Changes.{or_else}
use Rattle.ts_core.specs.store.StoreStates.{column_of, facts_of}
use Rattle.ts_core.specs.store.StoreData.{CellMap, RuleData, StoreData, store_settings, no_parts, IsLive}
use Rattle.ts_core.specs.moves.RuleMoves.{rule_added, IsRuleAt, stays_without, rule_dropped}
use Rattle.ts_core.proofs.aggregates.BucketsOrder.{bucket_le, bucket_of-start}
use Rattle.ts_core.proofs.aggregates.IndicesFit.{indices_fit}
use Rattle.ts_core.proofs.lists.ListSteps.{length-filter, map-push, all_push, all_filter, filter-map, map-remove}
use Rattle.ts_core.proofs.store.LowIndices.{first_from-is, first_near}
use Rattle.ts_core.proofs.store.RulesCome.{all_last}
use Rattle.ts_core.proofs.settings.RuleLaws.{with_rule-fault, without_rule-faultless}
use Rattle.ts_core.proofs.moves.RulesMove.{rule_comes, left_added, rule_goes, left_dropped}
use Rattle.ts_core.proofs.settings.SettingsLaws.{settings_are}
use Rattle.ts_core.proofs.moves.MovesStand.{key_there}
use Rattle.ts_store.specs.store.RuleLists.{rules_with}
use Rattle.ts_store.proofs.store.RuleListLemmas.{cells_each, its_settings, its_faultless, its_added, with_push, with_removed}
use Rattle.std.proofs.lemmas.Slice.Zip.{all_zipped_more}
use Rattle.ts_store.specs.store.CellCounts.{HoldsFew}
use Rattle.ts_store.specs.store.PossibleCells.{HasPossibleCells}
use Rattle.ts_store.specs.store.ColumnStates.{StoreContent}
use Rattle.ts_store.specs.retain.OpenRuns.{Run, data_of_parts}
use Rattle.ts_store.specs.store.SoundStores.{IsSoundStore}
use Rattle.ts_store.specs.rollup.Rollups.{RollupState, AreRollups, cells_of}
use Rattle.ts_store.specs.rules.RuleRollups.{IsRollupOf, with_rollup, without_rollup}
use Rattle.ts_store.specs.rules.RulesChanged.{RuleComes, AddsRule, RuleGoes, DropsRule}
use Rattle.ts_store.specs.store.SizedStores.{IsSizedRule}
use Rattle.ts_store.proofs.rollup.RollupsGrow.{IsOfRule}
use Rattle.std.proofs.lemmas.List.Edits.{length-remove}
use Rattle.ts_core.specs.lists.Beside.{kept_beside}

-- ---- the rule

-- a rule that may be added has buckets of a second or more
pub added_seconds : (settings : Settings) (r : Rule) → settings_fault settings ≡ None → added_fault settings r ≡ None → pos 1000000000 ≤ℤ r.interval
added_seconds settings r faultless well =
    all_last (λ (x : Rule). pos 1000000000 ≤ℤ x.interval) settings.rules r (settings_are (with_rule r settings) (with_rule-fault settings r faultless ∙ well)).seconds

pub added_wide : (settings : Settings) (r : Rule) → settings_fault settings ≡ None → added_fault settings r ≡ None → pos 1 ≤ℤ r.interval
added_wide settings r faultless well = let s = added_seconds settings r faultless well in omega (arith, ints, s)

-- its low index fits in 64 bits
pub low_fits : (settings : Settings) (r : Rule) (mark : ℤ) → settings_fault settings ≡ None → added_fault settings r ≡ None → IsPossibleRule r → IsTime mark → FitsSigned w64 (first_from r mark)
low_fits settings r mark faultless well possible time =
    let a = time.not_before in
    let b = time.not_after in
    indices_fit.first r mark (added_seconds settings r faultless well) possible.offset (let near : unsigned_abs mark ≤ 2 ^ 65 = omega (arith, ints, a, b) in near)

-- it lies between those of the least time and of the raw mark
first_least : (r : Rule) (mark : ℤ) → pos 1 ≤ℤ r.interval → IsTime mark → index_of r least_time ≤ℤ first_from r mark
first_least r mark w time =
    let starts = (first_from-is r mark w).starts in
    let before : least_time ≤ℤ bucket_start (first_from r mark) r.interval r.offset = (let a = time.not_before in omega (arith, ints, a, starts)) in
    subst (λ k. index_of r least_time ≤ℤ k) (bucket_of-start (first_from r mark) r.interval r.offset w) (bucket_le least_time (bucket_start (first_from r mark) r.interval r.offset) r.interval r.offset w before)

-- ---- lists without one of their items

rollups_removed : (rs : List Rule) (cs : List Column) (ss : List RollupState) (i : ℕ) → AreRollups rs cs ss → AreRollups (remove rs i) cs (remove ss i)
rollups_removed [] cs [] zero h = tt
rollups_removed [] cs [] (suc i) h = tt
rollups_removed (r ∷ rs) cs (s ∷ ss) zero h = h.1
rollups_removed (r ∷ rs) cs (s ∷ ss) (suc i) h = (h.0, rollups_removed rs cs ss i h.1)
rollups_removed _ cs _ i h = absurd h

-- the items whose neighbours pass a test, where both are read off one list
kept_parts : {X Y Z : Type 0} (p : Y → Bool) (f : X → Y) (g : X → Z) (xs : List X) → map g (filter (λ x. p (f x)) xs) ≡ kept_beside p (map f xs) (map g xs)
kept_parts p f g [] = refl
kept_parts p f g (x ∷ xs) =
    elim (p (f x)) as (λ b. map g (cond b (x ∷ filter (λ y. p (f y)) xs) (filter (λ y. p (f y)) xs)) ≡ map (λ z. z.1) (cond b ((f x, g x) ∷ filter (λ z. p z.0) (zip (map f xs) (map g xs))) (filter (λ z. p z.0) (zip (map f xs) (map g xs))))) [
      | true ↦ ap (λ zs. g x ∷ zs) (kept_parts p f g xs)
      | false ↦ kept_parts p f g xs
    ]

-- ---- the store

module _ (settings : Settings) (marks : Marks) (n : ℕ) (held : StoreContent) (run : Option Run) (kept : IsSoundStore settings marks n held run) where
  abbrev now : StoreData
  now = data_of_parts settings marks n held run

  its : store_settings now ≡ settings
  its = its_settings settings marks n held run kept now refl

  faultless : settings_fault settings ≡ None
  faultless = its_faultless settings marks n held run kept now refl

  -- ---- a rule is added

  module _ (r : Rule) (s : RollupState) (well : added_fault settings r ≡ None) (mark : IsTime marks.raw) (rollup : IsRollupOf held r (first_from r marks.raw) s) where
    abbrev low : ℤ
    low = first_from r marks.raw

    abbrev cells : CellMap
    cells = s.grid.cells

    abbrev later : StoreData
    later = rule_added r low cells now

    wide : pos 1 ≤ℤ r.interval
    wide = added_wide settings r faultless well

    few : HoldsFew n held.columns r cells
    few = λ k.
        let none : (or_else no_parts (finmap.get cells k)).frozen.count ≡ 0 = elim (finmap.get cells k) as (λ o. finmap.get cells k ≡ o → (or_else no_parts o).frozen.count ≡ 0) [
          | None ↦ λ e. refl
          | Some p ↦ λ e. ap (λ (a : Aggregate). a.count) (rollup.fresh.frozen k p e)
        ] refl in
        let some = length-filter (is_in_cell r k) (facts_of held.columns) in
        let all = kept.sized.facts in
        omega (arith, none, some, all)

    abbrev marks_later : Marks
    marks_later = record { raw = marks.raw; lows = marks.lows ++ low ∷ [] }

    abbrev more : StoreData
    more = data_of_parts (with_rule r settings) marks_later n (with_rollup s held) run

    its_rules : more.rules ≡ later.rules
    its_rules =
        ap (rules_with (settings.rules ++ r ∷ []) marks_later.lows) (map-append (λ (x : RollupState). x.grid.cells) held.rollups (s ∷ []))
        ∙ with_push settings.rules marks.lows (cells_of held.rollups) r low cells kept.lows (cells_each settings marks held (map column_of held.columns) kept.lows kept.rollups)

    pub is_added : more ≡ later
    is_added = λ i. record now { rules = its_rules i }

    settings_push : store_settings later ≡ with_rule r settings
    settings_push =
        ap (λ rs. record { raw_duration = settings.raw_duration; rules = rs }) (map-push (λ (x : RuleData). x.rule) now.rules (record { rule = r; low = low; cells = cells }))
        ∙ ap (with_rule r) its

    -- what holds of each rule and of the new one
    one_more : (P : RuleData → Type 0) → AllByRecursion P now.rules → P (record { rule = r; low = low; cells = cells }) → AllByRecursion P more.rules
    one_more P all one = subst (AllByRecursion P) (sym its_rules) (all_push P now.rules (record { rule = r; low = low; cells = cells }) all one)

    pub kept_added : IsSoundStore (with_rule r settings) marks_later n (with_rollup s held) run
    kept_added = record {
      rollups = all_zipped_more (IsOfRule (map column_of held.columns)) settings.rules held.rollups r s kept.rollups rollup.series;
      lows = (let d = kept.lows in let a = length-append marks.lows (low ∷ []) in let b = length-append settings.rules (r ∷ []) in omega arith);
      few = kept.few;
      counts = one_more (λ (x : RuleData). HoldsFew n held.columns x.rule x.cells) kept.counts few;
      live = one_more (λ (x : RuleData). IsLive held.columns x.rule x.cells) kept.live rollup.fresh.live;
      possible = one_more (λ (x : RuleData). HasPossibleCells x.rule x.cells) kept.possible rollup.possible;
      sized = record {
        settings = ap settings_fault (ap store_settings is_added ∙ settings_push) ∙ with_rule-fault settings r faultless ∙ well;
        content = kept.sized.content;
        rules = one_more (IsSizedRule marks.raw (facts_of held.columns)) kept.sized.rules (record {
          least = first_least r marks.raw wide mark;
          most = first_near r marks.raw wide;
          there = λ f a rolled above. key_there cells (cell_of r f) (λ none. rollup.fresh.there f a rolled above none);
        });
      };
    }

    pub comes : RuleComes now later r low
    comes = record {
      first = refl;
      cells = cells;
      fresh = rollup.fresh;
      whole = refl;
      history = λ opening h st. rule_comes opening h now r cells st (ap (λ x. added_fault x r) its ∙ well) rollup.fresh;
      inventory = record {
        columns = refl;
        waiting = refl;
        made = finmap.keys cells;
        cells = map-append (λ (x : RuleData). finmap.keys x.cells) now.rules (record { rule = r; low = low; cells = cells } ∷ []);
        filled = rollup.filled;
      };
      left = left_added now r low cells rollup.fresh;
    }

    abbrev HasCome : Settings → Marks → StoreContent → Type 0
    HasCome x m h = IsSoundStore x m n h run × RuleComes now (data_of_parts x m n h run) r low

    has_come : HasCome (with_rule r settings) marks_later (with_rollup s held)
    has_come = (kept_added, subst (λ (k : StoreData). RuleComes now k r low) (sym is_added) comes)

    pub parts_come : (x : Settings) (m : Marks) (h : StoreContent) → x ≡ with_rule r settings → m ≡ record { raw = marks.raw; lows = marks.lows ++ low ∷ [] } → h ≡ with_rollup s held → HasCome x m h
    parts_come x m h ex em eh = subst (λ (q : Settings × Marks × StoreContent). HasCome q.0 q.1 q.2) (λ i. (sym ex i, sym em i, sym eh i)) has_come

  -- ---- a rule is dropped

  module _ (name : Text) (i : ℕ) (at : IsRuleAt name settings.rules i) where
    abbrev without : StoreData
    without = rule_dropped name now

    named : IsTrue (is_named (store_settings now).rules name)
    named = subst (λ (x : Settings). IsTrue (is_named x.rules name)) (sym its) at.named

    abbrev settings_left : Settings
    settings_left = record { raw_duration = settings.raw_duration; rules = remove settings.rules i }

    abbrev marks_left : Marks
    marks_left = record { raw = marks.raw; lows = remove marks.lows i }

    abbrev fewer : StoreData
    fewer = data_of_parts settings_left marks_left n (without_rollup i held) run

    rules_left : fewer.rules ≡ without.rules
    rules_left =
        ap (rules_with settings_left.rules marks_left.lows) (map-remove (λ (s : RollupState). s.grid.cells) held.rollups i)
        ∙ with_removed settings.rules marks.lows (cells_of held.rollups) i kept.lows (cells_each settings marks held (map column_of held.columns) kept.lows kept.rollups)
        ∙ sym (at.data_without now.rules (ap (λ (x : Settings). x.rules) its))

    pub is_dropped : fewer ≡ without
    is_dropped = λ j. record now { rules = rules_left j }

    settings_without : store_settings without ≡ without_rule name settings
    settings_without = ap (λ rs. record { raw_duration = settings.raw_duration; rules = rs }) (sym (filter-map (is_unnamed name) (λ (x : RuleData). x.rule) now.rules)) ∙ ap (without_rule name) its

    -- what holds of each rule
    one_less : (P : RuleData → Type 0) → AllByRecursion P now.rules → AllByRecursion P fewer.rules
    one_less P all = subst (AllByRecursion P) (sym rules_left) (all_filter P (stays_without name) now.rules all)

    pub kept_dropped : IsSoundStore settings_left marks_left n (without_rollup i held) run
    kept_dropped = record {
      rollups = rollups_removed settings.rules (map column_of held.columns) held.rollups i kept.rollups;
      lows = let each = kept.lows in let low = length-remove marks.lows i (subst (λ k. i < k) (sym each) at.inside) in let rule = length-remove settings.rules i at.inside in omega arith;
      few = kept.few;
      counts = one_less (λ (x : RuleData). HoldsFew n held.columns x.rule x.cells) kept.counts;
      live = one_less (λ (x : RuleData). IsLive held.columns x.rule x.cells) kept.live;
      possible = one_less (λ (x : RuleData). HasPossibleCells x.rule x.cells) kept.possible;
      sized = record {
        settings = ap settings_fault (ap store_settings is_dropped ∙ settings_without) ∙ without_rule-faultless settings name faultless;
        content = kept.sized.content;
        rules = one_less (IsSizedRule marks.raw (facts_of held.columns)) kept.sized.rules;
      };
    }

    pub goes : RuleGoes now without name
    goes = record {
      whole = refl;
      history = λ opening h st. rule_goes opening h now name st named;
      columns = refl;
      waiting = refl;
      cells = kept_parts (is_unnamed name) (λ (x : RuleData). x.rule) (λ (x : RuleData). finmap.keys x.cells) now.rules;
      left = left_dropped now name;
    }

    -- the parts of the store after the call
    module _ (others : Settings) (lower : Marks) (left : StoreContent) (es : others ≡ settings_left) (em : lower ≡ marks_left) (eh : left ≡ without_rollup i held) where
      pub comes_later : data_of_parts others lower n left run ≡ without
      comes_later = (λ j. data_of_parts (es j) (em j) n (eh j) run) ∙ is_dropped

      pub kept_later : IsSoundStore others lower n left run
      kept_later = subst (λ (q : Settings × Marks × StoreContent). IsSoundStore q.0 q.1 n q.2 run) (λ j. (sym es j, sym em j, sym eh j)) kept_dropped

      dropped : {E : Type 0} → DropsRule {E = E} now without name (Ok tt)
      dropped = record { ok = goes; err = tt; unknown = (λ wrong. absurd (true≢false (sym wrong)), λ none. absurd (true≢false (sym named ∙ none))) }

      pub rule_went : {E : Type 0} (was : StoreData) → now ≡ was → DropsRule {E = E} was (data_of_parts others lower n left run) name (Ok tt)
      rule_went {E} was e = subst (λ (k : StoreData). DropsRule {E = E} k (data_of_parts others lower n left run) name (Ok tt)) e (subst (λ (k : StoreData). DropsRule {E = E} now k name (Ok tt)) (sym comes_later) dropped)

-- the same from what the calls ensure
pub rule_is_added : (settings : Settings) (marks : Marks) (n : ℕ) (held : StoreContent) (run : Option Run) (k : StoreData) (r : Rule) (low z : ℤ) (s : RollupState) (x : Settings) (m : Marks) (h : StoreContent) → IsSoundStore settings marks n held run → data_of_parts settings marks n held run ≡ k
    → added_fault (store_settings k) r ≡ None → IsTime k.raw_mark → low ≡ first_from r k.raw_mark → z ≡ low → IsRollupOf held r z s → x ≡ with_rule r settings → m ≡ record { raw = marks.raw; lows = marks.lows ++ z ∷ [] } → h ≡ with_rollup s held
    → IsSoundStore x m n h run × RuleComes k (data_of_parts x m n h run) r low
rule_is_added settings marks n held run k r low z s x m h kept view well mark first same rollup ex em eh =
    let is : low ≡ first_from r marks.raw = first ∙ ap (λ (c : StoreData). first_from r c.raw_mark) (sym view) in
    subst (λ (c : StoreData). IsSoundStore x m n h run × RuleComes c (data_of_parts x m n h run) r low) view
    (subst (λ (y : ℤ). IsSoundStore x m n h run × RuleComes (data_of_parts settings marks n held run) (data_of_parts x m n h run) r y) (sym is)
    (parts_come settings marks n held run kept r s (its_added settings marks n held run kept k view r well) (subst (λ (c : StoreData). IsTime c.raw_mark) (sym view) mark) (subst (λ (y : ℤ). IsRollupOf held r y s) (same ∙ is) rollup)
    x m h ex (em ∙ ap (λ (y : ℤ). record { raw = marks.raw; lows = marks.lows ++ y ∷ [] }) (same ∙ is)) eh))

-- ---- the call

abbrev failed : SettingsError → Result ℤ SettingsError
failed e = Err e

abbrev succeeded : ℤ → Result ℤ SettingsError
succeeded l = Ok l

pub refused_as : (k : StoreData) (r : Rule) (fault : SettingsFault) → added_fault (store_settings k) r ≡ Some fault → AddsRule k k r (Err (Fault fault))
refused_as k r fault e = record {
  ok = tt;
  err = refl;
  refused = subst (λ o. IfSome o (λ x. failed (Fault fault) ≡ failed (Fault x))) (sym e) refl;
  taken = λ none. absurd (true≢false (ap is_some (sym e) ∙ none));
}

pub out_of_memory : (k : StoreData) (r : Rule) → added_fault (store_settings k) r ≡ None → AddsRule k k r (Err OutOfMemory)
out_of_memory k r e = record { ok = tt; err = refl; refused = subst (λ o. IfSome o (λ x. failed OutOfMemory ≡ failed (Fault x))) (sym e) tt; taken = λ none. inr refl }

pub rule_came : (old new : StoreData) (r : Rule) (l : ℤ) → added_fault (store_settings old) r ≡ None → RuleComes old new r l → AddsRule old new r (Ok l)
rule_came old new r l e came = record { ok = came; err = tt; refused = subst (λ o. IfSome o (λ x. succeeded l ≡ failed (Fault x))) (sym e) tt; taken = λ none. inl (l, refl) }
