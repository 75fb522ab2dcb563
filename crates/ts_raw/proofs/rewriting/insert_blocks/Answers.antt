use Rattle.std.proofs.Common.{◌+◌, List, ◌∷◌, ◌++◌, take, drop, set, insert, sym, ap, ◌∙◌, is_ok, if◌then◌else◌, option_to_list}
use Rattle.ts_raw.specs.declared.block_handle.BlockHandle.{BlockHandle}
use Rattle.ts_raw.specs.declared.rewriting.Rewritten.{Rewritten}
use Rattle.ts_raw.proofs.RewriteLemmas.{set_replaced, insert_replaced}
use Rattle.ts_raw.proofs.rewriting.insert_blocks.Goals as goal

pub returns-in-Some : goal.returns-in-Some
returns-in-Some g c =
    let r : Rewritten = c.args.new.now in
    let ms : List BlockHandle = c.args.handles.now.items in
    c.insert.ensures.items ∙ ap (λ x. if is_ok x then insert (set ms r.at r.first) (r.at + 1) c.in-Some.second else set ms r.at r.first) c.unwrap.ensures
    ∙ insert_replaced ms r.at r.first c.in-Some.second c.requires.within
    ∙ ap (λ s. take r.at ms ++ ((r.first ∷ option_to_list s) ++ drop (r.at + 1) ms)) (sym c.in-Some.is)

pub returns-in-None : goal.returns-in-None
returns-in-None g c =
    let r : Rewritten = c.args.new.now in
    let ms : List BlockHandle = c.args.handles.now.items in
    set_replaced ms r.at r.first c.requires.within ∙ ap (λ s. take r.at ms ++ ((r.first ∷ option_to_list s) ++ drop (r.at + 1) ms)) (sym c.in-None.is)
