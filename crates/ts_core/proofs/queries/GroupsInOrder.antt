-- The groups of an answer: exactly those that have a matching fact, each once, in byte order.
use Rattle.std.proofs.Common.{◌≡◌, ◌↔◌, Bool, true, false, cond, ◌||◌, List, [], ◌∷◌, map, filter, refl, sym, ◌∙◌, ap, subst, true≢false, Option, Some, None, is_some, is_eq, Less, Equal, Greater, T}
use Rattle.std.specs.Cmp.{IsTotalOrder}
use Rattle.std.specs.List.{list_any}
use Rattle.std.specs.FinMap.{slice_cmp-IsAntisymmetric}
use Rattle.std.specs.FinMap.Entries.{by_order, put, find, is_sorted, is_sorted-put, find-put, is_some-find, same_entries}
use Rattle.std.proofs.lemmas.Cmp.{lists_total, nat_list_cmp_total, tied_itself}
use Rattle.std.proofs.lemmas.Map.Lookups.{exact_bytes}
use Rattle.ts_core.specs.lists.Members.{Among}
use Rattle.ts_core.specs.facts.Facts.{Text, Fact}
use Rattle.ts_core.specs.queries.Queries.{Query, matches, group_of}
use Rattle.ts_core.specs.queries.Answers.{group_cmp, same_group, placed, with_group, all_groups, groups_of}
use Rattle.ts_core.proofs.lists.MembersLemmas.{Among-from_any, any-from_Among, Among-filter_passes, Among-filter_was, Among-filter_stays, Among-map_as, map_back}
use Rattle.ts_core.proofs.facts.Ids.{equal_of}
use Rattle.ts_core.proofs.lists.Comparisons.{same_bool}

pub groups_total : IsTotalOrder group_cmp
groups_total = lists_total nat_list_cmp_total

pub exact_groups : (g k : List Text) → group_cmp g k ≡ Equal → g ≡ k
exact_groups = slice_cmp-IsAntisymmetric exact_bytes

pub same_group-eq : (g k : List Text) → same_group g k ≡ true → g ≡ k
same_group-eq g k h = exact_groups g k (equal_of (group_cmp g k) h)

pub same_group-refl : (g : List Text) → same_group g g ≡ true
same_group-refl g = ap is_eq (tied_itself groups_total g)

-- ---- groups as the keys of a sorted list of entries

abbrev pub entry : List Text → List Text × Unit {0}
entry g = (g, tt)

abbrev pub entries : List (List Text) → List (List Text × Unit {0})
entries gs = map entry gs

placed_entries : (g x : List Text) (xs : List (List Text)) → entries (with_group g xs) ≡ put group_cmp g tt (entries xs) → entries (with_group g (x ∷ xs)) ≡ put group_cmp g tt (entries (x ∷ xs))
placed_entries g x xs ih =
    elim (group_cmp g x) as (λ r. entries (placed r g x xs (with_group g xs)) ≡ by_order r (entry g ∷ entry x ∷ entries xs) (entry x ∷ entries xs) (entry x ∷ put group_cmp g tt (entries xs))) [
      | Less ↦ refl
      | Equal ↦ refl
      | Greater ↦ ap (λ z. entry x ∷ z) ih
    ]

pub with_group-entries : (g : List Text) (xs : List (List Text)) → entries (with_group g xs) ≡ put group_cmp g tt (entries xs)
with_group-entries g [] = refl
with_group-entries g (x ∷ xs) = placed_entries g x xs (with_group-entries g xs)

-- their keys strictly rise in byte order
unfoldable pub AreInOrder : List (List Text) → Type 0
AreInOrder gs = T (is_sorted group_cmp (entries gs))

pub all_groups-in_order : (gs : List (List Text)) → AreInOrder (all_groups gs)
unfolding AreInOrder
all_groups-in_order [] = tt
all_groups-in_order (g ∷ gs) =
    subst (λ es. T (is_sorted group_cmp es)) (sym (with_group-entries g (all_groups gs))) (is_sorted-put group_cmp groups_total g tt (entries (all_groups gs)) (all_groups-in_order gs))

pub keys_back : (gs : List (List Text)) → map (λ (e : List Text × Unit {0}). e.0) (entries gs) ≡ gs
keys_back [] = refl
keys_back (g ∷ gs) = ap (λ z. g ∷ z) (keys_back gs)

found_if : (b : Bool) (o : Option (Unit {0})) → is_some (cond b (Some tt) o) ≡ (b || is_some o)
found_if true o = refl
found_if false o = refl

found_in : (g : List Text) (gs : List (List Text)) → is_some (find group_cmp g (entries (all_groups gs))) ≡ list_any (same_group g) gs
found_in g [] = refl
found_in g (k ∷ gs) =
    ap (λ es. is_some (find group_cmp g es)) (with_group-entries k (all_groups gs))
    ∙ ap is_some (find-put group_cmp groups_total g k tt (entries (all_groups gs)))
    ∙ found_if (same_group g k) (find group_cmp g (entries (all_groups gs)))
    ∙ ap (λ b. same_group g k || b) (found_in g gs)

listed : (g : List Text) (gs : List (List Text)) → is_some (find group_cmp g (entries gs)) ≡ list_any (same_group g) gs
listed g gs = is_some-find group_cmp g (entries gs) ∙ ap (list_any (same_group g)) (keys_back gs)

pub any_among : (g : List Text) (gs : List (List Text)) → list_any (same_group g) gs ≡ true → Among g gs
any_among = Among-from_any same_group same_group-eq same_group-refl

pub among_any : (g : List Text) (gs : List (List Text)) → Among g gs → list_any (same_group g) gs ≡ true
among_any = any-from_Among same_group same_group-eq same_group-refl

pub all_groups-among : (g : List Text) (gs : List (List Text)) → Among g (all_groups gs) ↔ Among g gs
all_groups-among g gs = (
  λ a. any_among g gs (sym (found_in g gs) ∙ listed g (all_groups gs) ∙ among_any g (all_groups gs) a),
  λ a. any_among g (all_groups gs) (sym (listed g (all_groups gs)) ∙ found_in g gs ∙ among_any g gs a),
)

same_found : (o u : Option (Unit {0})) → is_some o ≡ is_some u → o ≡ u
same_found None (Some x) h = absurd (true≢false (sym h))
same_found (Some x) None h = absurd (true≢false h)
same_found _ _ h = refl

-- lists of the same groups are the same if they are in order
pub all_groups-same : (gs hs : List (List Text)) → ((g : List Text) → Among g gs → Among g hs) → ((g : List Text) → Among g hs → Among g gs) → all_groups gs ≡ all_groups hs
unfolding AreInOrder
all_groups-same gs hs a b =
    let e : entries (all_groups gs) ≡ entries (all_groups hs) =
    same_entries group_cmp groups_total exact_groups (entries (all_groups gs)) (entries (all_groups hs)) (all_groups-in_order gs) (all_groups-in_order hs) (λ g.
    same_found _ _ (found_in g gs ∙ same_bool _ _ (λ t. among_any g hs (a g (any_among g gs t))) (λ t. among_any g gs (b g (any_among g hs t))) ∙ sym (found_in g hs))) in
    sym (keys_back (all_groups gs)) ∙ ap (map (λ (x : List Text × Unit {0}). x.0)) e ∙ keys_back (all_groups hs)

-- ---- the groups of an answer

pub record HasMatch (q : Query) (facts : List Fact) (g : List Text) : Type 0 where
  pub fact : Fact
  pub among : Among fact facts
  pub matching : matches q fact ≡ true
  pub group : group_of q fact ≡ g

-- a group is reported exactly where it has a matching fact
pub groups_of-match : (q : Query) (facts : List Fact) (g : List Text) → Among g (groups_of q facts) ↔ HasMatch q facts g
groups_of-match q facts g = (
  λ a.
      let r = map_back (group_of q) (filter (matches q) facts) g ((all_groups-among g (map (group_of q) (filter (matches q) facts))).0 a) in
      record { fact = r.0; among = Among-filter_was (matches q) r.0 facts r.1; matching = Among-filter_passes (matches q) r.0 facts r.1; group = r.2 },
  λ h. (all_groups-among g (map (group_of q) (filter (matches q) facts))).1 (Among-map_as (group_of q) h.fact (filter (matches q) facts) g (Among-filter_stays (matches q) h.fact facts h.among h.matching) h.group),
)

-- groups are in byte order, each once
pub groups_of-in_order : (q : Query) (facts : List Fact) → AreInOrder (groups_of q facts)
groups_of-in_order q facts = all_groups-in_order (map (group_of q) (filter (matches q) facts))
