-- A line of several facts, inserted one by one.
use Rattle.std.proofs.Common.{◌≡◌, List, [], ◌∷◌, ◌++◌, length, map, refl, sym, subst, ◌≤◌, ◌^◌}
use Rattle.std.specs.List.{AllByRecursion, AllZip}
use Rattle.ts_core.specs.lists.Members.{Among}
use Rattle.ts_core.specs.facts.Facts.{Series, Column, Fact}
use Rattle.ts_core.specs.settings.Settings.{Settings}
use Rattle.ts_core.specs.store.History.{History, Line, put_before, accepted, raw_mark, MayBeTaken, IsLawful}
use Rattle.ts_core.specs.facts.Latest.{latest}
use Rattle.ts_core.specs.store.RawFacts.{kept_from}
use Rattle.ts_core.specs.store.StoreStates.{ColumnPoints, RuleCells, StoreState, StandsFor, HasCells, column_of, facts_of}
use Rattle.ts_core.proofs.store.Moves.{FactsToo, ColumnsToo, IsWritten, written}
use Rattle.ts_core.proofs.store.RunSteps.{stands_as}
use Rattle.ts_core.proofs.store.Writes.{is_other, write_stands}

pub put_before-push : (fs : List Fact) (f : Fact) (older : List Fact) → f ∷ put_before fs older ≡ put_before (fs ++ f ∷ []) older
put_before-push [] f older = refl
put_before-push (g ∷ fs) f older = put_before-push fs f (g ∷ older)

-- two lines at one time are one
pub lines_stand : (opening : Settings) (h : History) (s : StoreState) (fs : List Fact) (f : Fact) → StandsFor opening (Line (f ∷ []) ∷ Line fs ∷ h) s
    → IsLawful opening (Line (fs ++ f ∷ []) ∷ h) → StandsFor opening (Line (fs ++ f ∷ []) ∷ h) s
lines_stand opening h s fs f st lawful =
    let e : f ∷ put_before fs (accepted h) ≡ put_before (fs ++ f ∷ []) (accepted h) = put_before-push fs f (accepted h) in
    stands_as opening (Line (f ∷ []) ∷ Line fs ∷ h) (Line (fs ++ f ∷ []) ∷ h) s s.settings s.marks s.running s.rules st e refl lawful st.settings st.marks st.running st.idle st.rules st.lows
    (subst (λ xs. AllByRecursion (HasCells (kept_from opening h s.waiting) (latest xs)) s.rules) e st.rolled)

-- no fact yet
pub line_begun : (opening : Settings) (h : History) (s : StoreState) → StandsFor opening h s → IsLawful opening (Line [] ∷ h) → StandsFor opening (Line [] ∷ h) s
line_begun opening h s st lawful =
    stands_as opening h (Line [] ∷ h) s s.settings s.marks s.running s.rules st refl refl lawful st.settings st.marks st.running st.idle st.rules st.lows st.rolled

-- one more fact of the line
pub write_more : (opening : Settings) (h : History) (s : StoreState) (fs : List Fact) (f : Fact) (series : List Series) (columns : List ColumnPoints) (rules : List RuleCells) → StandsFor opening (Line fs ∷ h) s
    → MayBeTaken (raw_mark opening h) f → IsLawful opening (Line (fs ++ f ∷ []) ∷ h) → ColumnsToo s.columns columns f → ((c : Column) → Among c (map column_of columns) → Among c.series series)
    → FactsToo (facts_of s.columns) (facts_of columns) f (is_other f) → AllZip (IsWritten f columns) s.rules rules
    → StandsFor opening (Line (fs ++ f ∷ []) ∷ h) (written series columns rules s)
write_more opening h s fs f series columns rules st taken lawful there registered too t =
    let few : length (f ∷ put_before fs (accepted h)) ≤ 2 ^ 62 = subst (λ xs. length xs ≤ 2 ^ 62) (sym (put_before-push fs f (accepted h))) lawful.2 in
    lines_stand opening h (written series columns rules s) fs f (write_stands opening (Line fs ∷ h) s f series columns rules st (st.lawful, (taken, tt), few) there registered too t) lawful
