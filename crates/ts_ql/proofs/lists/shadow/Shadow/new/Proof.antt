-- Empty lists, without bytes.
use Rattle.std.proofs.Common.{[], ◌∷◌, refl}
use Rattle.std.proofs.raw_atomic.Walks.{proved}
use mir.Val.{Val, vstruct, vcons, vnil}
use contract.Running.{tables}
use types.Kit.{raw, ◌$◌, ◌∵◌, !, qed, keep, suffices, join, done}
use types.Run.{enter, no_more, and_then, returns}
use types.Part.{agg}
use types.ByLocal.{alloc_all, pass_all, free_all, look_at, get, sets}
use denote.Shadow.{pure_i}
use denote.Steps.{nothing}
use denote.Triple.Entry.{on_entry}
use denote.Triple.Walked.{says, ends_at}
use Rattle.ts_ql.specs.declared.lists.shadow.Shadow.{Shadow}
use Rattle.ts_ql.specs.Lists.{no_lists}
use Rattle.ts_ql.specs.contracts.lists.shadow.Shadow.{the_row as R}
use Rattle.ts_ql.specs.contracts.lists.shadow.Shadow.new as f
use Rattle.ts_ql.proofs.lists.shadow.Shadow.new.Statement.{statement}
use Rattle.ts_ql.proofs.lists.shadow.Shadow.new.Code as code

abbrev empty : Val
empty = vstruct vnil

abbrev value : Val
value = vstruct (vcons empty vnil)

abbrev shadow : Shadow
shadow = record { marker = record {}; lists = no_lists }

pub new_spec : {M : Type 1} → statement M
new_spec 𝓤 𝓛 𝓜 𝓡 wired =
    let c = f.clauses 𝓛 𝓜.mem 𝓡.returns in let 𝓣 = tables 𝓤 𝓛.H 𝓜 𝓡 𝓡.env in
    proved 𝓛 f.ended tt c 𝓜 𝓡 tt f.Key.name code.function (code.unfolded 𝓤 𝓛.H 𝓜 𝓡 wired) (λ κs. tt) (λ κs. tt) (λ κs qs bounds a g _.
    qed 𝓛 (raw (on_entry 𝓛 f.ended.signature κs qs a tt) ∷ raw ((c κs a).requires g) ∷ []) ∵ keep ! [] $
    enter ! 𝓣.C 𝓣.Λ code.function [] _ $ alloc_all ! (λ l. pass_all ! refl tt $
    sets ! (agg ! (no_more !)) refl (tt, tt) $
    sets ! (agg ! (and_then ! (get ! refl) (no_more !))) refl (tt, (tt, tt)) $
    returns ! (look_at ! 0 refl) $ free_all ! refl $
    pure_i ! (R.own_val shadow (value ∷ [])) ((λ vss. (tt, ((λ uss. (tt, tt)), tt))), tt) (((empty ∷ [], tt), (refl, ((tt, (refl, tt)), tt))), tt) $
    suffices ! _ (ends_at 𝓛 f.ended tt c ((κs, qs, bounds, a, tt), g) value shadow tt tt) $ says ! refl $
    nothing ! $ join ! $ nothing ! $ done !))
