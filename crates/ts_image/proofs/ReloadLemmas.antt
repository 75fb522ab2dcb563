-- A store that was read back represents the same histories. Columns in another order have all facts and cuts, and cells
-- with the same frozen parts are those of the same facts.
use Rattle.std.proofs.Common.{◌≡◌, IsTrue, ℤ, ◌≤ℤ◌, Bool, true, false, cond, not, ◌&&◌, ◌+◌, ◌<◌, List, [], ◌∷◌, map, filter, refl, sym, ◌∙◌, ap, ap₂, subst, inl, inr, ⊎_elim, true≢false, arith, Option, Some, None}
use Rattle.std.specs.FinMap as finmap
use Rattle.std.specs.List.{AllByRecursion}
use Rattle.ts_core.specs.lists.Members.{Among, AllDistinct}
use Rattle.ts_core.specs.facts.Facts.{Series, Column, Fact}
use Rattle.ts_core.specs.settings.Settings.{Rule, Settings}
use Rattle.ts_core.specs.store.History.{History, accepted, raw_mark}
use Rattle.ts_core.specs.facts.Latest.{latest_of}
use Rattle.ts_core.specs.aggregates.Aggregates.{Aggregate, empty_aggregate, aggregate_of}
use Rattle.ts_core.specs.store.RawFacts.{is_waiting, earlier_mark, kept_from, is_kept}
use Rattle.ts_core.specs.store.Cells.{Cell, cell_of, is_rolled, is_in_cell, same_cell, frozen_of, live_of}
use Rattle.ts_core.specs.lists.Changes.{or_else}
use Rattle.ts_core.specs.store.StoreStates.{ColumnPoints, CellParts, StandsFor, HasCells, column_of, rule_of, lowest_of, facts_at, facts_of}
use Rattle.ts_core.specs.store.StoreData.{CellMap, RuleData, StoreData, no_parts, state_of, IsLive, AreLive, rule_cells}
use Rattle.ts_core.proofs.facts.Latests.{latest-distinct}
use Rattle.ts_core.proofs.plans.PieceCells.{same_cell-eq, same_cell-refl}
use Rattle.std.proofs.lemmas.Bool.{and_parts}
use Rattle.ts_core.proofs.lists.MembersLemmas.{no_members, Among-append, AllDistinct-append, Among-filter_was, Among-filter_passes, Among-filter_stays, map_back}
use Rattle.ts_core.proofs.store.Cuts.{aggregate_where, Holds, CutsAgree, Holds-agree, frozen_of-agree, live_of-held}
use Rattle.ts_core.proofs.store.StateLemmas.{is_waiting-there, is_waiting-not, Holds-raw_of, StandsFor-Holds}
use Rattle.ts_core.proofs.moves.MovesStand.{keys_once, key_there}
use Rattle.ts_core.proofs.moves.EachRule.{settings_same, marks_same}
use Rattle.std.proofs.lemmas.Simd.{map-map}
use Rattle.ts_core.proofs.store.ColumnFacts.{facts_of-there, column_there, facts_at-column, facts_at-distinct}
use Rattle.ts_store.proofs.store.Stands.{waiting_among}
use Rattle.ts_image.specs.Reloading.{HasSameParts, HaveSameParts, IsReloaded, Reloads}

-- ---- facts of columns in another order

-- a fact of columns is one of some column's
pub facts_of-from : (cs : List ColumnPoints) (f : Fact) → Among f (facts_of cs) → (c : ColumnPoints) × Among c cs × Among f (facts_at c.column c.points)
facts_of-from [] f a = absurd a
facts_of-from (d ∷ ds) f a =
    ⊎_elim {C = (c : ColumnPoints) × Among c (d ∷ ds) × Among f (facts_at c.column c.points)} (λ k. (d, inl refl, k)) (λ k. let s = facts_of-from ds f k in (s.0, inr s.1, s.2)) (Among-append f (facts_at d.column d.points) (facts_of ds) a)

abbrev pub SameMembers : {X : Type 0} → List X → List X → Type 0
SameMembers {X} xs ys = (x : X) → Among x xs → Among x ys

pub facts_same : (cs ds : List ColumnPoints) → SameMembers cs ds → SameMembers (facts_of cs) (facts_of ds)
facts_same cs ds h f a = let s = facts_of-from cs f a in facts_of-there ds s.0 f (h s.0 s.1) s.2

-- distinct columns, each with distinct facts
pub facts_once : (cs : List ColumnPoints) → AllDistinct (map column_of cs) → ((c : ColumnPoints) → Among c cs → AllDistinct (facts_at c.column c.points)) → AllDistinct (facts_of cs)
facts_once [] d h = tt
facts_once (c ∷ cs) d h =
    AllDistinct-append (facts_at c.column c.points) (facts_of cs) (h c (inl refl)) (facts_once cs d.1 (λ x a. h x (inr a)))
    (λ f a b. let s = facts_of-from cs f b in
    d.0 (subst (λ x. Among x (map column_of cs)) (sym (facts_at-column s.0.column s.0.points f s.2) ∙ facts_at-column c.column c.points f a) (column_there cs s.0 s.1)))

columns_same : (cs ds : List ColumnPoints) → SameMembers cs ds → SameMembers (map column_of cs) (map column_of ds)
columns_same cs ds h c a = let s = map_back column_of cs c a in subst (λ x. Among x (map column_of ds)) s.2 (column_there ds s.0 (h s.0 s.1))

-- ---- waiting columns in another order

waiting_same : (ws vs : List Column) → SameMembers ws vs → SameMembers vs ws → (c : Column) → is_waiting ws c ≡ is_waiting vs c
waiting_same ws vs h j c =
    elim (is_waiting vs c) as (λ b. is_waiting vs c ≡ b → is_waiting ws c ≡ b) [
      | true ↦ λ e. is_waiting-there c ws (j c (waiting_among c vs e))
      | false ↦ λ e. is_waiting-not c ws (λ a. true≢false (sym (is_waiting-there c vs (h c a)) ∙ e))
    ] refl

-- ---- cells

some_counted : (fs : List Fact) (f : Fact) → Among f fs → 0 < (aggregate_of fs).count
some_counted [] f a = absurd a
some_counted (g ∷ fs) f a = let e : (aggregate_of (g ∷ fs)).count ≡ 1 + (aggregate_of fs).count = refl in omega arith

is_counted : (fs : List Fact) (f : Fact) → Among f fs → aggregate_of fs ≡ empty_aggregate → ⊥
is_counted fs f a e = let c : (aggregate_of fs).count ≡ 0 = ap (λ (x : Aggregate). x.count) e in let s = some_counted fs f a in absurd (omega arith)

-- a fact that passes a test is counted
counted : (p : Fact → Bool) (fs : List Fact) (f : Fact) → Among f fs → p f ≡ true → aggregate_of (filter p fs) ≡ empty_aggregate → ⊥
counted p fs f a t e = is_counted (filter p fs) f (Among-filter_stays p f fs a t) e

-- at or above the low index, the cell of each latest fact is there: as a raw fact, or since its frozen part isn't empty
cells_there : (cut : Column → ℤ) (fs facts : List Fact) (r : Rule) (low : ℤ) (m n : CellMap) → Holds cut fs facts → HasSameParts r low facts m n
    → ((k : Cell) → low ≤ℤ k.index → (or_else no_parts (finmap.get m k)).frozen ≡ frozen_of cut r k fs)
    → (f : Fact) → Among f fs → IsTrue (is_rolled r f) → low ≤ℤ (cell_of r f).index → Among (cell_of r f) (finmap.keys n)
cells_there cut fs facts r low m n held same frozen f a t l =
    key_there n (cell_of r f) (λ z.
    elim (is_kept cut f) as (λ b. is_kept cut f ≡ b → ⊥) [
      | true ↦ λ e. same.there f (held.all f a e) t l z
      | false ↦ λ e. counted (λ (g : Fact). is_in_cell r (cell_of r f) g && not (is_kept cut g)) fs f a (ap₂ (λ x y. x && not y) (ap₂ (λ x y. x && y) t (same_cell-refl (cell_of r f))) e) (sym (frozen (cell_of r f) l) ∙ sym (same.parts (cell_of r f) l) ∙ ap (λ (o : Option CellParts). (or_else no_parts o).frozen) z)
    ] refl)

-- a cell that isn't there has no raw facts
none_there : (r : Rule) (low : ℤ) (facts : List Fact) (n : CellMap) → ((f : Fact) → Among f facts → is_rolled r f ≡ true → low ≤ℤ (cell_of r f).index → finmap.get n (cell_of r f) ≡ None → ⊥)
    → (k : Cell) → low ≤ℤ k.index → finmap.get n k ≡ None → aggregate_where (is_in_cell r k) facts ≡ empty_aggregate
none_there r low facts n there k l z =
    ap aggregate_of (no_members (filter (is_in_cell r k) facts) (λ f a.
    let t = and_parts (is_rolled r f) (same_cell (cell_of r f) k) (Among-filter_passes (is_in_cell r k) f facts a) in
    let at : cell_of r f ≡ k = same_cell-eq (cell_of r f) k t.1 in
    there f (Among-filter_was (is_in_cell r k) f facts a) t.0 (subst (λ (x : Cell). low ≤ℤ x.index) (sym at) l) (ap (finmap.get n) at ∙ z)))

-- the live part of each cell, there or not
live_there : (next : Column → ℤ) (fs : List Fact) (after : List ColumnPoints) → Holds next fs (facts_of after) → AllDistinct fs → (r : Rule) (low : ℤ) (n : CellMap)
    → ((f : Fact) → Among f (facts_of after) → is_rolled r f ≡ true → low ≤ℤ (cell_of r f).index → finmap.get n (cell_of r f) ≡ None → ⊥) → IsLive after r n
    → (k : Cell) → low ≤ℤ k.index → (or_else no_parts (finmap.get n k)).live ≡ live_of next r k fs
live_there next fs after held d r low n there live k l =
    elim (finmap.get n k) as (λ o. finmap.get n k ≡ o → (or_else no_parts o).live ≡ live_of next r k fs) [
      | None ↦ λ g. sym (none_there r low (facts_of after) n there k l g) ∙ sym (live_of-held next fs (facts_of after) held d r k)
      | Some p ↦ λ g. live k p g ∙ sym (live_of-held next fs (facts_of after) held d r k)
    ] refl

cells_stay : (cut next : Column → ℤ) (fs : List Fact) (before after : List ColumnPoints) → CutsAgree cut next fs → Holds cut fs (facts_of before) → Holds next fs (facts_of after) → SameMembers (facts_of after) (facts_of before) → AllDistinct fs
    → (rs ss : List RuleData) → HaveSameParts (facts_of before) rs ss → AreLive after ss → AllByRecursion (HasCells cut fs) (map rule_cells rs) → AllByRecursion (HasCells next fs) (map rule_cells ss)
cells_stay cut next fs before after agree held next_held same d [] [] e live a = tt
cells_stay cut next fs before after agree held next_held same d (x ∷ rs) (y ∷ ss) e live a =
    let r : Rule = y.rule in
    let low : ℤ = y.low in
    let m : CellMap = x.cells in
    let n : CellMap = y.cells in
    let parts : HasSameParts r low (facts_of before) m n =
    subst (λ (z : RuleData). HasSameParts z.rule z.low (facts_of before) m n) (λ i. record { rule = sym e.0.0 i; low = sym e.0.1 i; cells = m }) e.0.2 in
    let had : HasCells cut fs (rule_cells (record { rule = r; low = low; cells = m })) = subst (HasCells cut fs) (λ i. rule_cells (record { rule = sym e.0.0 i; low = sym e.0.1 i; cells = m })) a.0 in (
      record {
        once = keys_once n;
        there = cells_there cut fs (facts_of before) r low m n held parts (λ k l. had.frozen k l);
        frozen = λ k l. parts.parts k l ∙ had.frozen k l ∙ frozen_of-agree cut next fs agree r k;
        live = λ k l. live_there next fs after next_held d r low n (λ f q. parts.there f (same f q)) live.0 k l;
      },
      cells_stay cut next fs before after agree held next_held same d rs ss e.1 live.1 a.1,
    )
cells_stay cut next fs before after agree held next_held same d _ _ e live a = absurd e

-- ---- what was read back

-- the same store but for settings, marks, running and accepted, which are equal: stated with those of the old one
abbrev with_parts : StoreData → List Column → List Series → List ColumnPoints → List RuleData → StoreData
with_parts k waiting series columns rs = record k { waiting = waiting; series = series; columns = columns; rules = rs }

parts_stand : (opening : Settings) (h : History) (old new : StoreData) → IsReloaded old new → StandsFor opening h (state_of old) → StandsFor opening h (state_of (with_parts old new.waiting new.series new.columns new.rules))
parts_stand opening h old new t st =
    let SameParts : Rule → ℤ → CellMap → CellMap → Type 0 = λ r low. HasSameParts r low (facts_of old.columns) in
    let now : StoreData = with_parts old new.waiting new.series new.columns new.rules in
    let fs : List Fact = latest_of h in
    let cut : Column → ℤ = kept_from opening h old.waiting in
    let next : Column → ℤ = kept_from opening h new.waiting in
    let forth : SameMembers new.columns old.columns = λ c a. (t.columns c).0 a in
    let back : SameMembers old.columns new.columns = λ c a. (t.columns c).1 a in
    let agree : CutsAgree cut next fs = λ f a. ap (λ b. is_kept (λ (c : Column). cond b (earlier_mark opening h) (raw_mark opening h)) f) (sym (waiting_same new.waiting old.waiting (λ c k. (t.waiting c).0 k) (λ c k. (t.waiting c).1 k) f.column)) in
    let held : Holds cut fs (facts_of old.columns) = StandsFor-Holds opening h (state_of old) st in
    let again : Holds next fs (facts_of old.columns) = Holds-agree cut next fs (facts_of old.columns) agree held in
    let moved : Holds next fs (facts_of new.columns) = record {
      once = facts_once new.columns t.columns_once (λ c a. facts_at-distinct old.columns c st.once (forth c a));
      all = λ f a k. facts_same old.columns new.columns back f (again.all f a k);
      only = λ f a. again.only f (facts_same new.columns old.columns forth f a);
    } in
    record {
      lawful = st.lawful;
      settings = settings_same SameParts now old.rules t.cells ∙ st.settings;
      marks = marks_same SameParts now old.rules t.cells ∙ st.marks;
      accepted = st.accepted;
      running = st.running;
      waiting_once = t.waiting_once;
      waiting_there = λ c a. columns_same old.columns new.columns back c (st.waiting_there c ((t.waiting c).0 a));
      idle = λ e. no_members new.waiting (λ c a. subst (Among c) (st.idle e) ((t.waiting c).0 a));
      columns_once = t.columns_once;
      columns_there = λ f a. columns_same old.columns new.columns back f.column (st.columns_there f a);
      registered = λ c a. t.series c.series (st.registered c (columns_same new.columns old.columns forth c a));
      once = moved.once;
      raw = λ f. Holds-raw_of opening h new.waiting (facts_of new.columns) moved f;
      rules = map-map rule_of rule_cells new.rules;
      lows = map-map lowest_of rule_cells new.rules;
      rolled = cells_stay cut next fs old.columns new.columns agree held moved (facts_same new.columns old.columns forth) (latest-distinct (accepted h)) old.rules new.rules t.cells t.live st.rolled;
    }

same_store : (old new : StoreData) → IsReloaded old new → with_parts old new.waiting new.series new.columns new.rules ≡ new
same_store old new t i = record new {
  raw_duration = (sym t.settings i).raw_duration;
  raw_mark = (sym t.marks i).raw;
  running = sym t.running i;
  accepted = sym t.accepted i;
}

pub reloads : Reloads
reloads old new t opening h st = subst (λ (k : StoreData). StandsFor opening h (state_of k)) (same_store old new t) (parts_stand opening h old new t st)
