use Rattle.std.proofs.Common.{◌≡◌, ◌<◌, ◌≤◌, ℕ, List, length, Some, slice_get, get_or, sym, ap, subst, ◌∙◌}
use Rattle.std.proofs.lemmas.Bool.{ltb-true}
use Rattle.std.proofs.lemmas.List.{length-map}
use Rattle.std.proofs.lemmas.Option.{slice_get-get_or}
use Rattle.ts_raw.specs.declared.block_handle.BlockHandle.{BlockHandle}
use Rattle.ts_raw.specs.BlockColumns.{texts_at}
use Rattle.ts_raw.specs.CodedPoints.{IsBlockHandle, block_text_at}
use Rattle.ts_raw.proofs.ColumnBlocks.{mark_found}
use Rattle.ts_raw.proofs.blocks.Blocks.get.Goals.{In_ok-handle}
use Rattle.ts_raw.proofs.blocks.Blocks.get.Goals as goal

found : (c : In_ok-handle) → IsBlockHandle c.self.inside.bytes.now c.in_ok-handle.handle.now × (slice_get (texts_at c.self.inside.bytes.now c.self.inside.handles.now) c.args.index ≡ Some (block_text_at c.self.inside.bytes.now c.in_ok-handle.handle.now))
found c =
    let ms : List BlockHandle = c.self.inside.handles.now in
    let m : BlockHandle = c.in_ok-handle.handle.now in
    let within : c.args.index < length ms = ltb-true c.args.index (length ms) (sym c.in_ok-handle.ensures.lookup.0) in
    let there : m ≡ get_or ms c.args.index m = c.in_ok-handle.ensures.lookup.1 in
    mark_found c.self.inside.bytes.now ms c.args.index m c.self.invariant.coded.marked (slice_get-get_or ms c.args.index m within ∙ ap Some (sym there))

pub text_of-requires : goal.text_of-requires
text_of-requires c = (found (goal.at.text_of-requires c).In_ok-handle).0

pub returns-clause-some : goal.returns-clause-some
returns-clause-some c =
    let at = (goal.at.returns-clause-some c).In_ok-handle in
    ap (λ (x : List (List ℕ)). slice_get x c.args.index) (sym c.self.view_is) ∙ (found at).1 ∙ ap Some (sym c.text_of.ensures)

pub returns-in_err-handle-clause-none : goal.returns-in_err-handle-clause-none
returns-in_err-handle-clause-none c = λ none.
    let same : length c.self.inside.handles.now ≡ length c.args.self.now = sym (length-map c.self.inside.handles.now (block_text_at c.self.inside.bytes.now)) ∙ ap length c.self.view_is in
    subst (λ n. n ≤ c.args.index) same c.in_err-handle.ensures.lookup.3
