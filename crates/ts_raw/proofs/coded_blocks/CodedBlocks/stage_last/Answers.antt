use Rattle.std.proofs.Common.{rules, ◌≡◌, List, length, Result, Ok, Err, OnOk, inl, inr, subst, arith}
use Rattle.ts_raw.specs.declared.block_handle.BlockHandle.{BlockHandle}
use Rattle.ts_raw.specs.CodedPoints.{LastGrows}
use Rattle.ts_raw.proofs.coded_blocks.CodedBlocks.stage_last.Goals as goal

pub returns-then-can_grow-clause-room : goal.returns-then-can_grow-clause-room
returns-then-can_grow-clause-room g c =
    let grows : LastGrows c.len.result c.as_slice.result.now = c.can_grow.ensures.0 (search rules) in
    let size : c.len.result ≡ length c.open_last.new.self.bytes.items = omega (arith, c.len.ensures, c.open_last.new.self.bytes.ok.0) in
    record {
      spare = c.in_ok-open_last.ensures.spare;
      room = inl (subst (λ (x : List BlockHandle). LastGrows (length c.open_last.new.self.bytes.items) x) c.as_slice.ensures.value (subst (λ n. LastGrows n c.as_slice.result.now) size grows));
    }

pub returns-clause-room : goal.returns-clause-room
returns-clause-room g c = on_ok c.reserve_eighth.result (λ s. record { spare = c.in_ok-open_last.ensures.spare; room = inr (omega (arith, s)) }) c.reserve_eighth.ensures.spare
  where
    on_ok : {T E P Q : Type 0} (r : Result T E) → (P → Q) → OnOk r P → OnOk r Q
    on_ok (Ok x) f h = f h
    on_ok (Err e) f h = tt
