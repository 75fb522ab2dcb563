-- Inserting a line, fact by fact.
use Rattle.ts_core.proofs.queries.CellsInRows.{all_parts}
use Rattle.std.proofs.Common.{◌≡◌, ℕ, ◌+◌, ◌≤◌, ◌^◌, List, [], ◌∷◌, ◌++◌, length, map, refl, sym, ◌∙◌, subst, inl, arith}
use Rattle.std.specs.List.{AllByRecursion}
use Rattle.std.proofs.lemmas.List.{append-nil, append_assoc, length-append}
use Rattle.ts_core.specs.lists.Members.{Among, AllDistinct}
use Rattle.ts_core.specs.facts.Facts.{Fact}
use Rattle.ts_core.specs.settings.Settings.{Rule, Settings}
use Rattle.ts_core.specs.store.History.{History, Line, accepted, raw_mark, put_before, MayBeTaken, IsLawful}
use Rattle.ts_core.specs.store.StoreStates.{ColumnPoints, StoreState, StandsFor, column_of, facts_of}
use Rattle.ts_core.proofs.lists.MembersLemmas.{Among-right}
use Rattle.ts_core.proofs.store.Moves.{ColumnsToo}
use Rattle.ts_core.proofs.store.Lines.{line_begun, write_more}
use Rattle.ts_core.specs.store.StoreData.{RuleData, StoreData, rule_cells, state_of}
use Rattle.ts_core.specs.moves.StoreMoves.{GainEmptyCells, put_cell, put_cells, PutsFact, PutsFacts, put_facts}
use Rattle.ts_core.proofs.moves.EachRule.{AnyCells, stands_changed, each_in}
use Rattle.ts_core.proofs.moves.MovesStand.{HaveCellsOf, room_cells, cells_stay, too, written_rules}

pub length_before : (fs older : List Fact) → length (put_before fs older) ≡ length fs + length older
length_before [] older = omega arith
length_before (f ∷ fs) older = let h = length_before fs (f ∷ older) in omega arith

abbrev put_at : List ColumnPoints → List RuleData → ℕ → StoreData → StoreData
put_at columns rs n k = record k { columns = columns; accepted = n; rules = rs }

all_middle : (P : Fact → Type 0) (us : List Fact) (f : Fact) (vs : List Fact) → AllByRecursion P (us ++ f ∷ vs) → P f
all_middle P [] f vs a = a.0
all_middle P (u ∷ us) f vs a = all_middle P us f vs a.1

-- a beginning of a lawful line is lawful
front_lawful : (opening : Settings) (h : History) (us vs : List Fact) → IsLawful opening (Line (us ++ vs) ∷ h) → IsLawful opening (Line us ∷ h)
front_lawful opening h us vs l =
    let a = length_before us (accepted h) in
    let b = length_before (us ++ vs) (accepted h) in
    let c = length-append us vs in
    let few : length (put_before (us ++ vs) (accepted h)) ≤ 2 ^ 62 = l.2 in
    (l.0, (all_parts (MayBeTaken (raw_mark opening h)) us vs l.1).0, omega arith)

same_columns : (before after : List ColumnPoints) (f : Fact) → AllDistinct (map column_of before) → Among f.column (map column_of before) → map column_of after ≡ map column_of before → ColumnsToo before after f
same_columns before after f d a e = record {
  once = subst AllDistinct (sym e) d;
  new = subst (Among f.column) (sym e) a;
  stays = λ c b. subst (Among c) (sym e) b;
}

-- the move of the inserted facts of a line: with these columns and cells, and n facts
line_more : (opening : Settings) (h : History) (k : StoreData) (n : ℕ) (us vs facts : List Fact) (before after : List ColumnPoints) (rs ss : List RuleData) → us ++ vs ≡ facts → n ≡ length us → map column_of before ≡ map column_of k.columns
    → StandsFor opening (Line us ∷ h) (state_of (put_facts before rs n k)) → HaveCellsOf facts rs → ((f : Fact) → Among f facts → Among f.column (map column_of k.columns))
    → PutsFacts before rs after ss vs → IsLawful opening (Line facts ∷ h) → StandsFor opening (Line facts ∷ h) (state_of (put_facts after ss (length facts) k))
line_more opening h k n us [] facts before after rs ss e count same st cells there puts lawful =
    let all : us ≡ facts = sym (append-nil us) ∙ e in
    subst (λ fs. StandsFor opening (Line fs ∷ h) (state_of (put_facts after ss (length fs) k))) all
    (subst (λ cs. StandsFor opening (Line us ∷ h) (state_of (put_facts cs ss (length us) k))) (sym puts.0)
    (subst (λ xs. StandsFor opening (Line us ∷ h) (state_of (put_facts before xs (length us) k))) (sym puts.1)
    (subst (λ m. StandsFor opening (Line us ∷ h) (state_of (put_facts before rs m k))) count st)))
line_more opening h k n us (f ∷ vs) facts before after rs ss e count same st cells there puts lawful =
    let between : List ColumnPoints = puts.0 in
    let p : PutsFact before between f = puts.1 in
    let next : List RuleData = put_cells f (facts_of between) rs in
    let rest : (us ++ f ∷ []) ++ vs ≡ facts = append_assoc us (f ∷ []) vs ∙ e in
    let among : Among f facts = subst (Among f) e (Among-right f us (f ∷ vs) (inl refl)) in
    let whole : IsLawful opening (Line (us ++ f ∷ vs) ∷ h) = subst (λ fs. IsLawful opening (Line fs ∷ h)) (sym e) lawful in
    let front : IsLawful opening (Line (us ++ f ∷ []) ∷ h) = front_lawful opening h (us ++ f ∷ []) vs (subst (λ fs. IsLawful opening (Line fs ∷ h)) (sym rest) lawful) in
    let taken : MayBeTaken (raw_mark opening h) f = all_middle (MayBeTaken (raw_mark opening h)) us f vs whole.1 in
    let s : StoreState = state_of (put_facts before rs n k) in
    let columns : ColumnsToo before between f = same_columns before between f st.columns_once (subst (Among f.column) (sym same) (there f among)) p.0 in
    let there_next : StandsFor opening (Line (us ++ f ∷ []) ∷ h) (state_of (put_facts between next (n + 1) k)) =
    stands_changed AnyCells opening (Line (us ++ f ∷ []) ∷ h) (put_facts between next (n + 1) k) rs (each_in AnyCells (λ (r : Rule). put_cell r f (facts_of between)) (λ a. tt) rs)
    (subst (λ m. StandsFor opening (Line (us ++ f ∷ []) ∷ h) (record (state_of (put_at between next m k)) { settings = s.settings; marks = s.marks })) (let e : k.accepted + n + 1 ≡ k.accepted + (n + 1) = omega arith in e)
    (write_more opening h s us f k.series between (map rule_cells next) st taken front columns (λ c a. st.registered c (subst (Among c) p.0 a)) (too before between f p) (written_rules between f facts among rs cells))) in
    line_more opening h k (n + 1) (us ++ f ∷ []) vs facts between after next ss rest (let l = length-append us (f ∷ []) in omega arith) (p.0 ∙ same) there_next
    (cells_stay f (facts_of between) facts rs cells) there puts.2 lawful

pub line_put : (opening : Settings) (h : History) (k : StoreData) (columns : List ColumnPoints) (facts : List Fact) (rs ss : List RuleData) → StandsFor opening h (state_of k)
    → GainEmptyCells facts rs k.rules → ((f : Fact) → Among f facts → Among f.column (map column_of k.columns)) → PutsFacts k.columns k.rules columns ss facts → IsLawful opening (Line facts ∷ h)
    → StandsFor opening (Line facts ∷ h) (state_of (put_facts columns ss (length facts) k))
line_put opening h k columns facts rs ss st spare there puts lawful =
    line_more opening h k 0 [] facts facts k.columns columns k.rules ss refl refl refl
    (subst (λ m. StandsFor opening (Line [] ∷ h) (state_of (put_at k.columns k.rules m k))) (let e : k.accepted ≡ k.accepted + 0 = omega arith in e) (line_begun opening h (state_of k) st (front_lawful opening h [] facts lawful)))
    (room_cells facts rs k.rules spare) there puts lawful
