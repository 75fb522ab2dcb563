-- GROUP BY: the step of each token, and the tokens of each rest.
use Rattle.std.proofs.Common.{◌≡◌, inl, inr, ℤ, pos, List, [], ◌∷◌, ◌++◌, Bool, true, false, Option, Some, None, Result, Ok, Err, map, refl, sym, ap, ◌∙◌, subst}
use Rattle.std.specs.Prelude.{codes, int_le, if◌then◌else◌}
use Rattle.std.specs.Option.{unwrap_or}
use Rattle.ts_core.specs.declared.aggregates.bucket.Buckets.{Buckets}
use Rattle.ts_ql.specs.declared.state.State.{State}
use Rattle.ts_ql.specs.declared.state.State.TheVariants as states
use Rattle.ts_ql.specs.declared.token.Kind.{Kind}
use Rattle.ts_ql.specs.declared.token.Kind.TheVariants as kinds
use Rattle.ts_ql.specs.QueryFaults.{Fault, unexpected, OutOfRange}
use Rattle.ts_ql.specs.Grammar.{Item, Any, Of, Examine, Signed, Dimension, Every, ByTag, Stop, is_name}
use Rattle.ts_ql.specs.GroupSteps.{Grouped, Grouping, grouping_at, item_at, time_item, with_interval, with_offset}
use Rattle.ts_ql.specs.Builders.{meaning}
use Rattle.ts_ql.specs.Laws.{Reach, ReadsTokens}
use Rattle.ts_ql.specs.Literals.{is_word, literal, text_spelled}
use Rattle.ts_ql.specs.Meanings.{buckets_of, offset_by, after_dimension}
use Rattle.ts_ql.specs.Reading.{Progress, Advance, with_builder, in_groups}
use Rattle.ts_ql.specs.Selects.{Select, of_interval, moved, inserted_text}
use Rattle.ts_ql.specs.Productions.{literal_fault, again_fault, interval_fault, interval_fault_of, spell_offset, spell_tag_type}
use Rattle.ts_ql.specs.Tokens.{Lexeme}
use Rattle.ts_ql.specs.Keywords.{is_time_column}
use Rattle.ts_ql.proofs.Rests.{DimensionTail, left_at, left_dimensions, said_dimensions, with_buckets}
use Rattle.ts_ql.proofs.Steps.{at, Answer, Leads, passes, fails, passed, failed, carried}
use Rattle.ts_ql.proofs.WhereRuns.{time_is_name}

abbrev pub grouping : Progress → State → Grouping → Advance
grouping s p step = with_builder (at p s) (in_groups s.builder step)

-- the rest after an interval of these buckets: its tokens and its queries
abbrev pub every_left : ℤ → Progress → Option Signed × DimensionTail → Option Buckets → List Item
every_left now s r b = spell_offset r.0 (Any (Of kinds.RightParen) ∷ left_dimensions now s (with_buckets (meaning s.builder) (offset_by b r.0)) r.1)

abbrev pub every_said : ℤ → Progress → Option Signed × DimensionTail → Option Buckets → List (Result Select Fault)
every_said now s r b = map Ok s.queries ++ said_dimensions now s (with_buckets (meaning s.builder) (offset_by b r.0)) r.1

-- the rest after an offset: its tokens and its queries
abbrev pub moved_left : ℤ → Progress → DimensionTail → ℤ → List Item
moved_left now s r n = Any (Of kinds.RightParen) ∷ left_dimensions now s (with_buckets (meaning s.builder) (moved n s.builder.groups.buckets)) r

abbrev pub moved_said : ℤ → Progress → DimensionTail → ℤ → List (Result Select Fault)
moved_said now s r n = map Ok s.queries ++ said_dimensions now s (with_buckets (meaning s.builder) (moved n s.builder.groups.buckets)) r

-- a number, or 0 if it is out of range
abbrev pub or_zero : Option ℤ → ℤ
or_zero o = unwrap_or o (pos 0)

-- the statement ends
abbrev pub no_more : DimensionTail
no_more = ([], (None, Stop))

-- an interval is examined
interval_passes : (t : Lexeme) (i : ℤ) (b : Bool) → literal false t.text ≡ Some i → int_le (pos 1) i ≡ b
    → interval_fault t ≡ (if b then None else Some (OutOfRange t.start))
interval_passes t i b v long = ap (interval_fault_of t.start) v ∙ ap (λ (x : Bool). if x then None else Some (OutOfRange t.start)) long

-- ---- from the machine

by_or : (now : ℤ) (s : Progress) (t : Lexeme) → t.kind ≡ kinds.Keyword → (b : Bool) → is_word (codes "by") t.text ≡ b
    → Answer now (at states.GroupBy s) t (grouping s states.GroupBy (if b then Ok (states.Item, s.builder.groups) else Err (unexpected t)))
by_or now s t e true is = (tt, λ r suits. (r, tt, (λ ts reach w. ((e, is), w)), refl))
by_or now s t e false is = inr refl

tag_or : (now : ℤ) (s : Progress) (t : Lexeme) → t.kind ≡ kinds.Word → (b : Bool) → is_word (codes "tag") t.text ≡ b
    → Answer now (at states.GroupTagType s) t (grouping s states.GroupTagType (if b then Ok (states.AfterItem, s.builder.groups) else Err (unexpected t)))
tag_or now s t e true is = (tt, λ r suits. (r, tt, (λ ts reach w. ((e, is), w)), refl))
tag_or now s t e false is = inr refl

-- the first time(..), or another
timed : (now : ℤ) (s : Progress) (t : Lexeme) → is_time_column t.kind t.text ≡ true → (o : Option Buckets) → s.builder.groups.buckets ≡ o
    → Answer now (at states.Item s) t (grouping s states.Item (time_item t s.builder.groups o))
timed now s t is None v = (
  tt,
  λ r suits. (
    (Every t r.0 r.1.0, r.1.1),
    tt,
    (λ ts reach w. (
      refl,
      is,
      passes (again_fault s.builder.groups.buckets t) (left_at states.TimeOpen now (at states.TimeOpen s) r) ts reach
          (ap (λ (b : Option Buckets). again_fault b t) v) w,
    )),
    refl,
  ),
)
timed now s t is (Some b) v = inr refl

-- the column of time, or a tag
itemed : (now : ℤ) (s : Progress) (t : Lexeme) → is_name t.kind ≡ true → (b : Bool) → is_time_column t.kind t.text ≡ b
    → Answer now (at states.Item s) t (grouping s states.Item (if b then time_item t s.builder.groups s.builder.groups.buckets
    else Ok (states.AfterTag, record s.builder.groups { tags = inserted_text (text_spelled t.text) s.builder.groups.tags })))
itemed now s t e true is = timed now s t is s.builder.groups.buckets refl
itemed now s t e false is = (tt, λ r suits. ((ByTag t r.0, r.1), tt, (λ ts reach w. (refl, (e, is), w)), refl))

-- an interval of a nanosecond or more, or a shorter one
long_or : (now : ℤ) (s : Progress) (t : Lexeme) → t.kind ≡ kinds.Duration → (i : ℤ) → literal false t.text ≡ Some i → (b : Bool) → int_le (pos 1) i ≡ b
    → Answer now (at states.Interval s) t (grouping s states.Interval (if b then Ok (states.IntervalEnd, record s.builder.groups { buckets = of_interval i }) else Err (OutOfRange t.start)))
long_or now s t e i v true long =
    let value : of_interval i ≡ buckets_of (literal false t.text) = sym (ap buckets_of v) in (
      tt,
      λ r suits. (
        (t, r),
        tt,
        (λ ts reach w. (
          refl,
          e,
          passes (interval_fault t) (every_left now s r (buckets_of (literal false t.text))) ts reach (interval_passes t i true v long)
              (carried (every_left now s r) ts reach (of_interval i) (buckets_of (literal false t.text)) value w),
        )),
        ap (every_said now s r) (sym value),
      ),
    )
long_or now s t e i v false long =
    inl ((t, (None, no_more)), tt, inr (refl, e, fails (interval_fault t) (every_left now s (None, no_more) (buckets_of (literal false t.text))) (OutOfRange t.start) (interval_passes t i false v long)))

interval_or : (now : ℤ) (s : Progress) (t : Lexeme) → t.kind ≡ kinds.Duration → (o : Option ℤ) → literal false t.text ≡ o
    → Answer now (at states.Interval s) t (grouping s states.Interval (with_interval t s.builder.groups o))
interval_or now s t e (Some i) v = long_or now s t e i v (int_le (pos 1) i) refl
interval_or now s t e None v =
    inl ((t, (None, no_more)), tt, inr (refl, e, fails (interval_fault t) (every_left now s (None, no_more) (buckets_of (literal false t.text))) (OutOfRange t.start) (ap (interval_fault_of t.start) v)))

offset_or : (now : ℤ) (s : Progress) (t : Lexeme) → t.kind ≡ kinds.Duration → (o : Option ℤ) → literal false t.text ≡ o
    → Answer now (at states.Offset s) t (grouping s states.Offset (with_offset t.start s.builder.groups o))
offset_or now s t e (Some n) v =
    let value : n ≡ or_zero (literal false t.text) = sym (ap or_zero v) in (
      tt,
      λ r suits. (
        (record { minus = None; number = t }, r),
        tt,
        (λ ts reach w. (
          refl,
          e,
          passes (literal_fault t.start (literal false t.text)) (moved_left now s r (or_zero (literal false t.text))) ts reach (ap (literal_fault t.start) v)
              (carried (moved_left now s r) ts reach n (or_zero (literal false t.text)) value w),
        )),
        ap (moved_said now s r) (sym value),
      ),
    )
offset_or now s t e None v =
    inl ((record { minus = None; number = t }, no_more), tt, inr (refl, e, fails (literal_fault t.start (literal false t.text)) (moved_left now s no_more (or_zero (literal false t.text))) (OutOfRange t.start) (ap (literal_fault t.start) v)))

minus_or : (now : ℤ) (s : Progress) (t : Lexeme) → t.kind ≡ kinds.Duration → (o : Option ℤ) → literal true t.text ≡ o
    → Answer now (at states.OffsetMinus s) t (grouping s states.OffsetMinus (with_offset s.builder.groups.first s.builder.groups o))
minus_or now s t e (Some n) v =
    let value : n ≡ or_zero (literal true t.text) = sym (ap or_zero v) in (
      tt,
      λ r suits. (
        (t, r),
        tt,
        (λ ts reach w. (
          refl,
          e,
          passes (literal_fault s.builder.groups.first (literal true t.text)) (moved_left now s r (or_zero (literal true t.text))) ts reach (ap (literal_fault s.builder.groups.first) v)
              (carried (moved_left now s r) ts reach n (or_zero (literal true t.text)) value w),
        )),
        ap (moved_said now s r) (sym value),
      ),
    )
minus_or now s t e None v =
    inl ((t, no_more), tt, inr (refl, e, fails (literal_fault s.builder.groups.first (literal true t.text)) (moved_left now s no_more (or_zero (literal true t.text))) (OutOfRange s.builder.groups.first) (ap (literal_fault s.builder.groups.first) v)))

pub group_answers : (now : ℤ) (s : Progress) (p : State) (k : Kind) (t : Lexeme) → t.kind ≡ k
    → Answer now (at p s) t (grouping s p (grouping_at p k t s.builder.groups))
group_answers now s states.GroupBy kinds.Keyword t e = by_or now s t e (is_word (codes "by") t.text) refl
group_answers now s states.Item kinds.Word t e = itemed now s t (ap is_name e) (is_time_column t.kind t.text) refl
group_answers now s states.Item kinds.QuotedName t e = itemed now s t (ap is_name e) (is_time_column t.kind t.text) refl
group_answers now s states.TimeOpen kinds.LeftParen t e = (tt, λ r suits. (r, tt, (λ ts reach w. (e, w)), refl))
group_answers now s states.Interval kinds.Duration t e = interval_or now s t e (literal false t.text) refl
group_answers now s states.IntervalEnd kinds.Comma t e = (tt, λ r suits. ((Some r.0, r.1), tt, (λ ts reach w. (e, w)), refl))
group_answers now s states.IntervalEnd kinds.RightParen t e = (tt, λ r suits. ((None, r), tt, (λ ts reach w. (e, w)), refl))
group_answers now s states.Offset kinds.Minus t e =
    (tt, λ r suits. ((record { minus = Some t; number = r.0 }, r.1), tt, (λ ts reach w. (refl, e, w)), refl))
group_answers now s states.Offset kinds.Duration t e = offset_or now s t e (literal false t.text) refl
group_answers now s states.OffsetMinus kinds.Duration t e = minus_or now s t e (literal true t.text) refl
group_answers now s states.OffsetEnd kinds.RightParen t e = (tt, λ r suits. (r, tt, (λ ts reach w. (e, w)), refl))
group_answers now s states.AfterTag kinds.DoubleColon t e = (tt, λ r suits. ((true, r), tt, (λ ts reach w. (e, w)), refl))
group_answers now s states.AfterTag kinds.Comma t e = (tt, λ r suits. ((false, (r.0 ∷ r.1.0, r.1.1)), tt, (λ ts reach w. (e, w)), refl))
group_answers now s states.GroupTagType kinds.Word t e = tag_or now s t e (is_word (codes "tag") t.text) refl
group_answers now s states.AfterItem kinds.Comma t e = (tt, λ r suits. ((r.0 ∷ r.1.0, r.1.1), tt, (λ ts reach w. (e, w)), refl))
group_answers now s p k t e = inr refl

-- ---- from trees

-- the step by the kind of the token
abbrev pub group_steps : Progress → State → Lexeme → Kind → Advance
group_steps s p t k = grouping s p (grouping_at p k t s.builder.groups)

pub group_by_leads : (now : ℤ) (s : Progress) (q : Dimension × DimensionTail) (t : Lexeme) (ts : List Lexeme) (reach : Reach)
    → ReadsTokens (left_at states.GroupBy now (at states.GroupBy s) q) (t ∷ ts) reach → Leads now (at states.GroupBy s) q ts reach (group_steps s states.GroupBy t t.kind)
group_by_leads now s q t ts reach w =
    subst (λ (k : Kind). Leads now (at states.GroupBy s) q ts reach (group_steps s states.GroupBy t k)) (sym w.0.0)
    (subst (λ (b : Bool). Leads now (at states.GroupBy s) q ts reach (grouping s states.GroupBy (if b then Ok (states.Item, s.builder.groups) else Err (unexpected t)))) (sym w.0.1)
    (q, tt, w.1, refl))

name_begins : (k : Kind) (t : Lexeme) (g : Grouped) → is_name k ≡ true → grouping_at states.Item k t g ≡ item_at t g
name_begins kinds.Word t g is = refl
name_begins kinds.QuotedName t g is = refl
name_begins k t g is = absurd (cc)

-- the step of the name that begins an item: the time column or a tag
abbrev pub items : Progress → Lexeme → Bool → Advance
items s t b = grouping s states.Item (if b then time_item t s.builder.groups s.builder.groups.buckets
    else Ok (states.AfterTag, record s.builder.groups { tags = inserted_text (text_spelled t.text) s.builder.groups.tags }))

-- the first time(..) leads on, and another is at fault
again_leads : (now : ℤ) (s : Progress) (time : Lexeme) (q : Lexeme × (Option Signed × DimensionTail)) (t : Lexeme) (ts : List Lexeme) (reach : Reach) → t ≡ time
    → (o : Option Buckets) → s.builder.groups.buckets ≡ o
    → ReadsTokens (Examine (again_fault s.builder.groups.buckets time) ∷ left_at states.TimeOpen now (at states.TimeOpen s) q) ts reach
    → Leads now (at states.Item s) (Every time q.0 q.1.0, q.1.1) ts reach (grouping s states.Item (time_item t s.builder.groups o))
again_leads now s time q t ts reach same None v w =
    (q, tt, passed (again_fault s.builder.groups.buckets time) (left_at states.TimeOpen now (at states.TimeOpen s) q) ts reach (ap (λ (b : Option Buckets). again_fault b time) v) w, refl)
again_leads now s time q t ts reach same (Some b) v w =
    failed (again_fault s.builder.groups.buckets time) (left_at states.TimeOpen now (at states.TimeOpen s) q) ts reach (unexpected t)
    (ap (λ (b : Option Buckets). again_fault b time) v ∙ ap (λ (l : Lexeme). Some (unexpected l)) (sym same)) w

item_leads_at : (now : ℤ) (s : Progress) (d : Dimension) (r : DimensionTail) (t : Lexeme) (ts : List Lexeme) (reach : Reach)
    → ReadsTokens (left_at states.Item now (at states.Item s) (d, r)) (t ∷ ts) reach → Leads now (at states.Item s) (d, r) ts reach (group_steps s states.Item t t.kind)
item_leads_at now s (Every time interval offset) r t ts reach w =
    subst (λ (g : Grouping). Leads now (at states.Item s) (Every time interval offset, r) ts reach (grouping s states.Item g))
    (sym (name_begins t.kind t s.builder.groups (time_is_name t.kind t.text w.1)))
    (subst (λ (b : Bool). Leads now (at states.Item s) (Every time interval offset, r) ts reach (items s t b)) (sym w.1)
    (again_leads now s time (interval, (offset, r)) t ts reach w.0 s.builder.groups.buckets refl w.2))
item_leads_at now s (ByTag tag cast) r t ts reach w =
    subst (λ (g : Grouping). Leads now (at states.Item s) (ByTag tag cast, r) ts reach (grouping s states.Item g))
    (sym (name_begins t.kind t s.builder.groups w.1.0))
    (subst (λ (b : Bool). Leads now (at states.Item s) (ByTag tag cast, r) ts reach (items s t b)) (sym w.1.1) (
      (cast, r),
      tt,
      carried (λ (l : Lexeme). spell_tag_type cast (left_dimensions now s (after_dimension (meaning s.builder) (ByTag l cast)) r)) ts reach tag t (sym w.0) w.2,
      ap (λ (l : Lexeme). map Ok s.queries ++ said_dimensions now s (after_dimension (meaning s.builder) (ByTag l cast)) r) (sym w.0),
    ))

pub item_leads : (now : ℤ) (s : Progress) (q : Dimension × DimensionTail) (t : Lexeme) (ts : List Lexeme) (reach : Reach)
    → ReadsTokens (left_at states.Item now (at states.Item s) q) (t ∷ ts) reach → Leads now (at states.Item s) q ts reach (group_steps s states.Item t t.kind)
item_leads now s q t ts reach w = item_leads_at now s q.0 q.1 t ts reach w

pub time_open_leads : (now : ℤ) (s : Progress) (q : Lexeme × (Option Signed × DimensionTail)) (t : Lexeme) (ts : List Lexeme) (reach : Reach)
    → ReadsTokens (left_at states.TimeOpen now (at states.TimeOpen s) q) (t ∷ ts) reach → Leads now (at states.TimeOpen s) q ts reach (group_steps s states.TimeOpen t t.kind)
time_open_leads now s q t ts reach w =
    subst (λ (k : Kind). Leads now (at states.TimeOpen s) q ts reach (group_steps s states.TimeOpen t k)) (sym w.0) (q, tt, w.1, refl)

-- an interval of a nanosecond or more leads on; another is at fault
long_leads : (now : ℤ) (s : Progress) (t : Lexeme) (r : Option Signed × DimensionTail) (ts : List Lexeme) (reach : Reach) (i : ℤ) → literal false t.text ≡ Some i
    → (b : Bool) → int_le (pos 1) i ≡ b
    → ReadsTokens (Examine (interval_fault t) ∷ every_left now s r (buckets_of (literal false t.text))) ts reach
    → Leads now (at states.Interval s) (t, r) ts reach (grouping s states.Interval (if b then Ok (states.IntervalEnd, record s.builder.groups { buckets = of_interval i }) else Err (OutOfRange t.start)))
long_leads now s t r ts reach i v true long w =
    let value : buckets_of (literal false t.text) ≡ of_interval i = ap buckets_of v in (
      r,
      tt,
      carried (every_left now s r) ts reach (buckets_of (literal false t.text)) (of_interval i) value
          (passed (interval_fault t) (every_left now s r (buckets_of (literal false t.text))) ts reach (interval_passes t i true v long) w),
      ap (every_said now s r) value,
    )
long_leads now s t r ts reach i v false long w =
    failed (interval_fault t) (every_left now s r (buckets_of (literal false t.text))) ts reach (OutOfRange t.start) (interval_passes t i false v long) w

interval_leads_at : (now : ℤ) (s : Progress) (t : Lexeme) (r : Option Signed × DimensionTail) (ts : List Lexeme) (reach : Reach) (o : Option ℤ) → literal false t.text ≡ o
    → ReadsTokens (Examine (interval_fault t) ∷ every_left now s r (buckets_of (literal false t.text))) ts reach
    → Leads now (at states.Interval s) (t, r) ts reach (grouping s states.Interval (with_interval t s.builder.groups o))
interval_leads_at now s t r ts reach (Some i) v w = long_leads now s t r ts reach i v (int_le (pos 1) i) refl w
interval_leads_at now s t r ts reach None v w =
    failed (interval_fault t) (every_left now s r (buckets_of (literal false t.text))) ts reach (OutOfRange t.start) (ap (interval_fault_of t.start) v) w

pub interval_leads : (now : ℤ) (s : Progress) (q : Lexeme × (Option Signed × DimensionTail)) (t : Lexeme) (ts : List Lexeme) (reach : Reach)
    → ReadsTokens (left_at states.Interval now (at states.Interval s) q) (t ∷ ts) reach → Leads now (at states.Interval s) q ts reach (group_steps s states.Interval t t.kind)
interval_leads now s q t ts reach w =
    subst (λ (k : Kind). Leads now (at states.Interval s) q ts reach (group_steps s states.Interval t k)) (sym w.1)
    (subst (λ (l : Lexeme). ReadsTokens (Examine (interval_fault l) ∷ every_left now s q.1 (buckets_of (literal false l.text))) ts reach
    → Leads now (at states.Interval s) (l, q.1) ts reach (grouping s states.Interval (with_interval t s.builder.groups (literal false t.text)))) w.0
    (interval_leads_at now s t q.1 ts reach (literal false t.text) refl) w.2)

interval_end_leads_at : (now : ℤ) (s : Progress) (o : Option Signed) (r : DimensionTail) (t : Lexeme) (ts : List Lexeme) (reach : Reach)
    → ReadsTokens (left_at states.IntervalEnd now (at states.IntervalEnd s) (o, r)) (t ∷ ts) reach → Leads now (at states.IntervalEnd s) (o, r) ts reach (group_steps s states.IntervalEnd t t.kind)
interval_end_leads_at now s None r t ts reach w =
    subst (λ (k : Kind). Leads now (at states.IntervalEnd s) (None, r) ts reach (group_steps s states.IntervalEnd t k)) (sym w.0) (r, tt, w.1, refl)
interval_end_leads_at now s (Some o) r t ts reach w =
    subst (λ (k : Kind). Leads now (at states.IntervalEnd s) (Some o, r) ts reach (group_steps s states.IntervalEnd t k)) (sym w.0) ((o, r), tt, w.1, refl)

pub interval_end_leads : (now : ℤ) (s : Progress) (q : Option Signed × DimensionTail) (t : Lexeme) (ts : List Lexeme) (reach : Reach)
    → ReadsTokens (left_at states.IntervalEnd now (at states.IntervalEnd s) q) (t ∷ ts) reach → Leads now (at states.IntervalEnd s) q ts reach (group_steps s states.IntervalEnd t t.kind)
interval_end_leads now s q t ts reach w = interval_end_leads_at now s q.0 q.1 t ts reach w

-- an offset in its range leads on; another is at fault
plus_leads : (now : ℤ) (s : Progress) (t : Lexeme) (r : DimensionTail) (ts : List Lexeme) (reach : Reach) (o : Option ℤ) → literal false t.text ≡ o
    → ReadsTokens (Examine (literal_fault t.start (literal false t.text)) ∷ moved_left now s r (or_zero (literal false t.text))) ts reach
    → Leads now (at states.Offset s) (record { minus = None; number = t }, r) ts reach (grouping s states.Offset (with_offset t.start s.builder.groups o))
plus_leads now s t r ts reach (Some n) v w =
    let value : or_zero (literal false t.text) ≡ n = ap or_zero v in (
      r,
      tt,
      carried (moved_left now s r) ts reach (or_zero (literal false t.text)) n value
          (passed (literal_fault t.start (literal false t.text)) (moved_left now s r (or_zero (literal false t.text))) ts reach (ap (literal_fault t.start) v) w),
      ap (moved_said now s r) value,
    )
plus_leads now s t r ts reach None v w =
    failed (literal_fault t.start (literal false t.text)) (moved_left now s r (or_zero (literal false t.text))) ts reach (OutOfRange t.start) (ap (literal_fault t.start) v) w

minus_leads : (now : ℤ) (s : Progress) (t : Lexeme) (r : DimensionTail) (ts : List Lexeme) (reach : Reach) (o : Option ℤ) → literal true t.text ≡ o
    → ReadsTokens (Examine (literal_fault s.builder.groups.first (literal true t.text)) ∷ moved_left now s r (or_zero (literal true t.text))) ts reach
    → Leads now (at states.OffsetMinus s) (t, r) ts reach (grouping s states.OffsetMinus (with_offset s.builder.groups.first s.builder.groups o))
minus_leads now s t r ts reach (Some n) v w =
    let value : or_zero (literal true t.text) ≡ n = ap or_zero v in (
      r,
      tt,
      carried (moved_left now s r) ts reach (or_zero (literal true t.text)) n value
          (passed (literal_fault s.builder.groups.first (literal true t.text)) (moved_left now s r (or_zero (literal true t.text))) ts reach (ap (literal_fault s.builder.groups.first) v) w),
      ap (moved_said now s r) value,
    )
minus_leads now s t r ts reach None v w =
    failed (literal_fault s.builder.groups.first (literal true t.text)) (moved_left now s r (or_zero (literal true t.text))) ts reach (OutOfRange s.builder.groups.first) (ap (literal_fault s.builder.groups.first) v) w

offset_leads_at : (now : ℤ) (s : Progress) (m : Option Lexeme) (l : Lexeme) (r : DimensionTail) (t : Lexeme) (ts : List Lexeme) (reach : Reach)
    → ReadsTokens (left_at states.Offset now (at states.Offset s) (record { minus = m; number = l }, r)) (t ∷ ts) reach
    → Leads now (at states.Offset s) (record { minus = m; number = l }, r) ts reach (group_steps s states.Offset t t.kind)
offset_leads_at now s None l r t ts reach w =
    subst (λ (k : Kind). Leads now (at states.Offset s) (record { minus = None; number = l }, r) ts reach (group_steps s states.Offset t k)) (sym w.1)
    (subst (λ (x : Lexeme). ReadsTokens (Examine (literal_fault x.start (literal false x.text)) ∷ moved_left now s r (or_zero (literal false x.text))) ts reach
    → Leads now (at states.Offset s) (record { minus = None; number = x }, r) ts reach (grouping s states.Offset (with_offset t.start s.builder.groups (literal false t.text)))) w.0
    (plus_leads now s t r ts reach (literal false t.text) refl) w.2)
offset_leads_at now s (Some minus) l r t ts reach w =
    subst (λ (k : Kind). Leads now (at states.Offset s) (record { minus = Some minus; number = l }, r) ts reach (group_steps s states.Offset t k)) (sym w.1) (
      (l, r),
      tt,
      carried (λ (x : Lexeme). left_at states.OffsetMinus now (record (at states.OffsetMinus s) { builder = record s.builder { groups = record s.builder.groups { first = x.start } } }) (l, r)) ts reach minus t (sym w.0) w.2,
      refl,
    )

pub offset_leads : (now : ℤ) (s : Progress) (q : Signed × DimensionTail) (t : Lexeme) (ts : List Lexeme) (reach : Reach)
    → ReadsTokens (left_at states.Offset now (at states.Offset s) q) (t ∷ ts) reach → Leads now (at states.Offset s) q ts reach (group_steps s states.Offset t t.kind)
offset_leads now s q t ts reach w = offset_leads_at now s q.0.minus q.0.number q.1 t ts reach w

pub offset_minus_leads : (now : ℤ) (s : Progress) (q : Lexeme × DimensionTail) (t : Lexeme) (ts : List Lexeme) (reach : Reach)
    → ReadsTokens (left_at states.OffsetMinus now (at states.OffsetMinus s) q) (t ∷ ts) reach → Leads now (at states.OffsetMinus s) q ts reach (group_steps s states.OffsetMinus t t.kind)
offset_minus_leads now s q t ts reach w =
    subst (λ (k : Kind). Leads now (at states.OffsetMinus s) q ts reach (group_steps s states.OffsetMinus t k)) (sym w.1)
    (subst (λ (x : Lexeme). ReadsTokens (Examine (literal_fault s.builder.groups.first (literal true x.text)) ∷ moved_left now s q.1 (or_zero (literal true x.text))) ts reach
    → Leads now (at states.OffsetMinus s) (x, q.1) ts reach (grouping s states.OffsetMinus (with_offset s.builder.groups.first s.builder.groups (literal true t.text)))) w.0
    (minus_leads now s t q.1 ts reach (literal true t.text) refl) w.2)

pub offset_end_leads : (now : ℤ) (s : Progress) (q : DimensionTail) (t : Lexeme) (ts : List Lexeme) (reach : Reach)
    → ReadsTokens (left_at states.OffsetEnd now (at states.OffsetEnd s) q) (t ∷ ts) reach → Leads now (at states.OffsetEnd s) q ts reach (group_steps s states.OffsetEnd t t.kind)
offset_end_leads now s q t ts reach w =
    subst (λ (k : Kind). Leads now (at states.OffsetEnd s) q ts reach (group_steps s states.OffsetEnd t k)) (sym w.0) (q, tt, w.1, refl)

-- after a tag: its type, or a comma
pub tag_cast_leads : (now : ℤ) (s : Progress) (r : DimensionTail) (t : Lexeme) (ts : List Lexeme) (reach : Reach)
    → ReadsTokens (left_at states.AfterTag now (at states.AfterTag s) (true, r)) (t ∷ ts) reach → Leads now (at states.AfterTag s) (true, r) ts reach (group_steps s states.AfterTag t t.kind)
tag_cast_leads now s r t ts reach w =
    subst (λ (k : Kind). Leads now (at states.AfterTag s) (true, r) ts reach (group_steps s states.AfterTag t k)) (sym w.0) (r, tt, w.1, refl)

pub tag_comma_leads : (now : ℤ) (s : Progress) (d : Dimension) (r : DimensionTail) (t : Lexeme) (ts : List Lexeme) (reach : Reach)
    → ReadsTokens (left_at states.AfterTag now (at states.AfterTag s) (false, (d ∷ r.0, r.1))) (t ∷ ts) reach
    → Leads now (at states.AfterTag s) (false, (d ∷ r.0, r.1)) ts reach (group_steps s states.AfterTag t t.kind)
tag_comma_leads now s d r t ts reach w =
    subst (λ (k : Kind). Leads now (at states.AfterTag s) (false, (d ∷ r.0, r.1)) ts reach (group_steps s states.AfterTag t k)) (sym w.0) ((d, r), tt, w.1, refl)

pub group_tag_type_leads : (now : ℤ) (s : Progress) (q : DimensionTail) (t : Lexeme) (ts : List Lexeme) (reach : Reach)
    → ReadsTokens (left_at states.GroupTagType now (at states.GroupTagType s) q) (t ∷ ts) reach → Leads now (at states.GroupTagType s) q ts reach (group_steps s states.GroupTagType t t.kind)
group_tag_type_leads now s q t ts reach w =
    subst (λ (k : Kind). Leads now (at states.GroupTagType s) q ts reach (group_steps s states.GroupTagType t k)) (sym w.0.0)
    (subst (λ (b : Bool). Leads now (at states.GroupTagType s) q ts reach (grouping s states.GroupTagType (if b then Ok (states.AfterItem, s.builder.groups) else Err (unexpected t)))) (sym w.0.1)
    (q, tt, w.1, refl))

pub item_comma_leads : (now : ℤ) (s : Progress) (d : Dimension) (r : DimensionTail) (t : Lexeme) (ts : List Lexeme) (reach : Reach)
    → ReadsTokens (left_at states.AfterItem now (at states.AfterItem s) (d ∷ r.0, r.1)) (t ∷ ts) reach
    → Leads now (at states.AfterItem s) (d ∷ r.0, r.1) ts reach (group_steps s states.AfterItem t t.kind)
item_comma_leads now s d r t ts reach w =
    subst (λ (k : Kind). Leads now (at states.AfterItem s) (d ∷ r.0, r.1) ts reach (group_steps s states.AfterItem t k)) (sym w.0) ((d, r), tt, w.1, refl)
