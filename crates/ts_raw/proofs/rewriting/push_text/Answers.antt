use Rattle.std.proofs.Common.{◌≡◌, ◌∙◌, ℕ, ℤ, List, ◌++◌, length, vec_len, ap, subst, arith, is_ok, if◌then◌else◌}
use Rattle.ts_block.proofs.DecodingLemmas.{one_reading}
use Rattle.ts_block.proofs.SpacedLemmas.{apart_of}
use Rattle.ts_raw.specs.declared.block_handle.BlockHandle.{BlockHandle}
use Rattle.ts_raw.specs.Rewriting.{IsEncoded}
use Rattle.ts_raw.proofs.BlockLists.{block_at_end}
use Rattle.ts_raw.proofs.rewriting.push_text.Goals as goal

pub returns-clause-block : goal.returns-clause-block
returns-clause-block g c = λ points b.
    let old : List ℕ = c.args.bytes.now.items in
    let text : List ℕ = c.args.text.now in
    let new : List ℕ = c.extend_from_slice.new.self.items in
    let start : c.len-start.result ≡ length old = let e = ap length c.reserve_eighth.ensures.items in omega (arith, e, c.len-start.ensures, c.reserve_eighth.new.list.ok.0) in
    let end : c.len.result ≡ length new = omega (arith, c.len.ensures, c.extend_from_slice.new.self.ok.0) in
    let is : new ≡ old ++ text =
    c.extend_from_slice.ensures.items ∙ ap (λ r. if is_ok r then c.reserve_eighth.new.list.items ++ text else c.reserve_eighth.new.list.items) c.unwrap.ensures
    ∙ ap (λ (x : List ℕ). x ++ text) c.reserve_eighth.ensures.items in
    let same = one_reading text c.requires.0 points c.requires.1 b in
    let m : BlockHandle = record { start = c.len-start.result; values = c.args.values; end = c.len.result; count = c.args.count; last = c.args.last; spacing = c.spacing_of-spacing.result; summary = c.args.summary } in
    subst (λ n. IsEncoded n new m points) (let n : length old ≡ vec_len c.args.bytes.now = omega (arith, c.args.bytes.now.ok.0) in n) (subst (λ (x : List (ℤ × ℤ)). IsEncoded (length old) new m x) same
    (block_at_end old text new c.requires.0 m c.requires.1 is start end c.requires.2 c.requires.3 c.requires.4 (apart_of c.spacing_of-spacing.result c.requires.0 (c.spacing_of-spacing.ensures c.requires.0 c.requires.1)) c.requires.5))
