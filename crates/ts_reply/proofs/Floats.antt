-- The JSON of columns and tags: it consists of strings and has no float.
use Rattle.std.proofs.Common.{◌≡◌, Bool, true, false, ◌||◌, List, [], ◌∷◌, map, refl, Ordering, Less, Equal, Greater, nat_cmp, true≢false}
use Rattle.std.specs.Ordering.{match_ordering}
use Rattle.std.specs.Cmp.Lexicographic.{slice_cmp}
use Rattle.serde_json.specs.Data.{Data, string, Members, no_members, member, put}
use Rattle.serde_json.specs.View.{items_of}
use Rattle.serde_json.specs.Written.{has_float, items_have_float, members_have_float}
use Rattle.ts_core.specs.facts.Facts.{Text}
use Rattle.ts_ql.specs.Selects.{Projection, Select}
use Rattle.ts_reply.specs.Replies.{column_data, columns_data, tags_among}

either_false : (a b : Bool) → (a || b) ≡ false → (a ≡ false) × (b ≡ false)
either_false true b h = absurd (true≢false h)
either_false false b h = (refl, h)

names_without : (cs : List Projection) → items_have_float (items_of (map column_data cs)) ≡ false
names_without [] = refl
names_without (c ∷ cs) = names_without cs

pub columns_without : (s : Select) → has_float (columns_data s) ≡ false
columns_without s = names_without s.columns

put_by : (o : Ordering) (k s l : Text) (d : Data) (ms new : Members) → (has_float d || members_have_float ms) ≡ false → members_have_float new ≡ false
    → members_have_float (match_ordering o (member k (string s) (member l d ms)) (member l (string s) ms) (member l d new)) ≡ false
put_by Less k s l d ms new h n = h
put_by Equal k s l d ms new h n = (either_false (has_float d) _ h).1
put_by Greater k s l d ms new h n = rw ((either_false (has_float d) _ h).0) n

put_without : (k s : Text) (ms : Members) → members_have_float ms ≡ false → members_have_float (put k (string s) ms) ≡ false
put_without k s no_members h = refl
put_without k s (member l d ms) h = put_by (slice_cmp nat_cmp k l) k s l d ms _ h (put_without k s ms (either_false (has_float d) _ h).1)

pub tags_without : (tags values : List Text) (before : Members) → members_have_float before ≡ false → members_have_float (tags_among before tags values) ≡ false
tags_without [] values before h = h
tags_without (tag ∷ tags) [] before h = h
tags_without (tag ∷ tags) (value ∷ values) before h = tags_without tags values _ (put_without tag value before h)
