use Rattle.std.proofs.Common.{ℕ, refl, ◌+◌, ◌/◌, ◌%◌, ◌^◌, ◌<◌, ◌++◌, List, [], ◌∷◌, ◌∙◌, ap, sym, append_assoc, length, take, arith}
use Rattle.std.proofs.lemmas.List.{take_more_set, length-set}
use Rattle.ts_block.specs.Varints.{digits_text}
use Rattle.ts_block.proofs.NumbersLemmas.{text_last, text_more}
use Rattle.ts_block.proofs.number.write_number.Goals as goal

pub loop-rest-init : goal.loop-rest-init
loop-rest-init c = record { more = 9; few = omega arith; long = c.requires.ten; fits = let h : c.args.number < 2 ^ 64 = omega arith in h; text = refl }

pub loop-rest-preserved : goal.loop-rest-preserved
loop-rest-preserved c =
    let inv = c.loop-rest.invariant in
    let m = text_more inv.more c.loop-rest.rest c.loop-rest-test.true inv.fits in
    let x : ℕ = 128 + c.loop-rest.rest % 128 in
    let within : c.loop-rest.size < length c.loop-rest.out = let a = inv.few in let b = inv.long in omega arith in
    record {
      more = m.less;
      few = let a = inv.few in let b = m.is in omega arith;
      long = length-set c.loop-rest.out c.loop-rest.size x ∙ inv.long;
      fits = m.fits;
      text =
          ap (λ (xs : List ℕ). xs ++ digits_text m.less (c.loop-rest.rest / 128)) (take_more_set c.loop-rest.out c.loop-rest.size x within)
          ∙ append_assoc (take c.loop-rest.size c.loop-rest.out) (x ∷ []) (digits_text m.less (c.loop-rest.rest / 128))
          ∙ ap (λ (xs : List ℕ). take c.loop-rest.size c.loop-rest.out ++ xs) (sym m.text)
          ∙ inv.text;
    }

pub returns-clause-text : goal.returns-clause-text
returns-clause-text c =
    let inv = c.loop-rest.invariant in
    let within : c.loop-rest.size < length c.loop-rest.out = let a = inv.few in let b = inv.long in omega arith in
    take_more_set c.loop-rest.out c.loop-rest.size c.loop-rest.rest within
    ∙ ap (λ (xs : List ℕ). take c.loop-rest.size c.loop-rest.out ++ xs) (sym (text_last inv.more c.loop-rest.rest c.loop-rest-test.false inv.fits))
    ∙ inv.text
