use Rattle.std.proofs.Common.{ℕ, refl, ◌+◌, ◌/◌, ◌%◌, ◌^◌, ◌<◌, ◌++◌, List, [], ◌∷◌, ◌∙◌, ap, sym, append_assoc, arith}
use Rattle.ts_block.specs.Varints.{digits_text}
use Rattle.ts_block.proofs.NumbersLemmas.{text_last, text_more}
use Rattle.ts_block.proofs.number.append_number.Goals as goal

pub loop-rest-init : goal.loop-rest-init
loop-rest-init g c = record { more = 9; few = omega arith; capacity = refl; fits = let h : c.args.number < 2 ^ 64 = omega arith in h; text = refl }

pub loop-rest-preserved : goal.loop-rest-preserved
loop-rest-preserved g c =
    let inv = c.loop-rest.invariant in
    let m = text_more inv.more c.loop-rest.rest c.loop-rest-test.true inv.fits in
    record {
      more = m.less;
      few = let a = inv.few in let b = m.is in omega (arith, c.push_reserved.ensures.len);
      capacity = c.push_reserved.ensures.capacity ∙ inv.capacity;
      fits = m.fits;
      text =
          ap (λ (xs : List ℕ). xs ++ digits_text m.less (c.loop-rest.rest / 128)) c.push_reserved.ensures.items
          ∙ append_assoc c.loop-rest.out.items ((128 + c.loop-rest.rest % 128) ∷ []) (digits_text m.less (c.loop-rest.rest / 128))
          ∙ ap (λ (xs : List ℕ). c.loop-rest.out.items ++ xs) (sym m.text)
          ∙ inv.text;
    }

pub returns-clause-items : goal.returns-clause-items
returns-clause-items g c =
    let inv = c.loop-rest.invariant in
    c.push_reserved-2.ensures.items
    ∙ ap (λ (xs : List ℕ). c.loop-rest.out.items ++ xs) (sym (text_last inv.more c.loop-rest.rest c.loop-rest-test.false inv.fits))
    ∙ inv.text
