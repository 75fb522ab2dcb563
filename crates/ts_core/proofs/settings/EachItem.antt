-- Items of an array, read one after another; and the number of members of an object.
use Rattle.std.proofs.Common.{◌≡◌, ℕ, ◌+◌, ◌<◌, suc, List, [], ◌∷◌, ◌++◌, length, drop, get_or, Option, Some, None, option_map, String, refl, sym, ap, ◌∙◌, append_assoc, append-nil}
use Rattle.std.proofs.lemmas.List.{at_drop_more}
use Rattle.std.specs.declared.alloc.Global.{Global}
use Rattle.serde_json.specs.Data.{Data, item}
use Rattle.serde_json.specs.View.{view, items_view, members_view}
use Rattle.serde_json.specs.declared.value.Value.{Value}
use Rattle.ts_core.specs.settings.SettingsTexts.{each, members_count}

-- the items read, after those read before
abbrev pub behind : {X : Type 0} → List X → Option (List X) → Option (List X)
behind before o = option_map (λ xs. before ++ xs) o

pub behind_none : {X : Type 0} (o : Option (List X)) → behind [] o ≡ o
behind_none None = refl
behind_none (Some xs) = refl

pub behind_all : {X : Type 0} (before : List X) → behind before (Some []) ≡ Some before
behind_all before = ap Some (append-nil before)

more : {X : Type 0} (before : List X) (x : X) (o : Option (List X)) → behind before (option_map (λ xs. x ∷ xs) o) ≡ behind (before ++ x ∷ []) o
more before x None = refl
more before x (Some xs) = ap Some (sym (append_assoc before (x ∷ []) xs))

-- a value of a list more
pub read_more : {X : Type 0} (f : Data → Option X) (before : List X) (vs : List Value) (at : ℕ) (v : Value) (x : X) → at < length vs → get_or vs at v ≡ v → f (view v) ≡ Some x
    → behind before (each f (items_view (drop at vs))) ≡ behind (before ++ x ∷ []) (each f (items_view (drop (at + 1) vs)))
read_more f before vs at v x lt is read =
    at_drop_more (λ (ws : List Value). behind before (each f (items_view ws))) vs at v lt
    ∙ ap (λ (w : Value). behind before (each f (item (view w) (items_view (drop (at + 1) vs))))) is
    ∙ rw read (more before x (each f (items_view (drop (at + 1) vs))))

pub counts_members : (ms : List (String Global × Value)) → length ms ≡ members_count (members_view ms)
counts_members [] = refl
counts_members (m ∷ ms) = ap suc (counts_members ms)
