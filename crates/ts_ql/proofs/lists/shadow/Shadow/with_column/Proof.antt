-- The lists with another column, without bytes.
use Rattle.std.proofs.Common.{[], ◌∷◌, refl}
use Rattle.std.proofs.raw_atomic.Walks.{proved}
use mir.Val.{Val, vstruct, vcons, vnil}
use contract.Running.{tables}
use types.Kit.{‵, raw, ◌⊛◌, ◌$◌, ◌∵◌, !, qed, keep, split, suffices, move, done}
use types.Run.{enter, no_more, and_then, returns}
use types.Part.{agg}
use types.ByLocal.{alloc_all, pass_all, free_all, look_at, get, sets}
use denote.Exit.{yes}
use denote.RattleType.{owns}
use denote.Ref.{shr_vals}
use denote.Shadow.{pure_i}
use denote.Signature.{plain, types_at, named_lft}
use denote.Triple.Entry.{alive}
use denote.Triple.Walked.{Stays, walk_of, stay_none_ref, Goes-none_ref, says, ends_at}
use Rattle.ts_ql.specs.declared.lists.shadow.Shadow.{Shadow}
use Rattle.ts_ql.specs.Lists.{column_appended}
use Rattle.ts_ql.specs.contracts.lists.shadow.Shadow.{the_row as R}
use Rattle.ts_ql.specs.contracts.lists.columns.Column as column
use Rattle.ts_ql.specs.contracts.lists.shadow.Shadow.with_column as f
use Rattle.ts_ql.proofs.lists.shadow.Shadow.with_column.Statement.{statement}
use Rattle.ts_ql.proofs.lists.shadow.Shadow.with_column.Code as code

abbrev stayed : Stays f.ended.signature.params f.ended.kept
stayed = (stay_none_ref (0 ∷ []) tt (plain (λ _. R)) yes, (stay_none_ref (1 ∷ []) tt (plain (λ κs. column.the_row (named_lft 3 2 tt κs))) yes, tt))

abbrev empty : Val
empty = vstruct vnil

abbrev value : Val
value = vstruct (vcons empty vnil)

pub with_column_spec : {M : Type 1} → statement M
with_column_spec 𝓤 𝓛 𝓜 𝓡 wired =
    let c = f.clauses 𝓛 𝓜.mem 𝓡.returns in let 𝓣 = tables 𝓤 𝓛.H 𝓜 𝓡 𝓡.env in let W = walk_of 𝓛 f.ended stayed c in
    proved 𝓛 f.ended stayed c 𝓜 𝓡 (Goes-none_ref 𝓛 3 (0 ∷ []) tt (plain (λ _. R)) yes, (Goes-none_ref 𝓛 3 (1 ∷ []) tt (plain (λ κs. column.the_row (named_lft 3 2 tt κs))) yes, tt))
    f.Key.name code.function (code.unfolded 𝓤 𝓛.H 𝓜 𝓡 wired)
    (λ κs. (shr_vals, (shr_vals, tt))) (λ κs. ((λ x vs w. w.0), ((λ x vs w. w.0), tt)))
    (λ κs qs bounds a g _.
    let shadow : Shadow = record { marker = record {}; lists = column_appended a.1.0.now a.0.now.lists } in
    let y : W.Ghost = ((κs, qs, bounds, a, (shr_vals a.0, (shr_vals a.1.0, tt))), g) in
    qed 𝓛 ((raw (alive 𝓛 f.signature κs qs) ⊛ ‵ (owns (types_at f.signature.params κs) a y.0.4)) ∷ raw ((c κs a).requires g) ∷ []) ∵
    split ! $ keep ! (0 ∷ 1 ∷ []) $
    enter ! 𝓣.C 𝓣.Λ code.function _ _ $ alloc_all ! (λ l. pass_all ! refl ((tt, tt), ((tt, tt), tt)) $
    sets ! (agg ! (no_more !)) refl (tt, tt) $
    sets ! (agg ! (and_then ! (get ! refl) (no_more !))) refl (tt, (tt, tt)) $
    returns ! (look_at ! 0 refl) $ free_all ! refl $
    suffices ! _ (ends_at 𝓛 f.ended stayed c y value shadow (tt, (tt, tt)) (tt, (tt, tt))) $ says ! refl $
    pure_i ! (R.own_val shadow (value ∷ [])) ((λ vss. (tt, ((λ uss. (tt, tt)), tt))), tt) (((empty ∷ [], tt), (refl, ((tt, (refl, tt)), tt))), tt) $
    move ! (1 ∷ 2 ∷ 0 ∷ []) $ done !))
