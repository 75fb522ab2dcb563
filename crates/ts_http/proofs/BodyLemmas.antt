-- A body with a part that came with the head.
use Rattle.std.proofs.Common.{◌≡◌, ℕ, zero, suc, [], ◌∷◌, ◌++◌, length, take, drop, refl, sym, ap, ◌∙◌, subst, arith}
use Rattle.std.proofs.Math.Seq.{take-append_seam}
use Rattle.ts_core.specs.facts.Facts.{Text}

none_got : (got : Text) → length got ≡ 0 → got ≡ []
none_got [] e = refl
none_got (b ∷ bs) e = absurd cc

pub body_behind : (len : ℕ) (after got left : Text) → length (take len after ++ got) ≡ len → after ++ (got ++ left) ≡ (take len after ++ got) ++ (drop len after ++ left)
body_behind zero after got left e = subst (λ (g : Text). after ++ (g ++ left) ≡ g ++ (after ++ left)) (sym (none_got got e)) refl
body_behind (suc n) [] got left e = refl
body_behind (suc n) (b ∷ bs) got left e = ap (λ (l : Text). b ∷ l) (body_behind n bs got left (omega (arith, e)))

pub taken_whole : (len : ℕ) (after front got left body : Text) → front ≡ take len after → body ≡ front ++ got → length body ≡ len → (others : Text) × (after ++ (got ++ left) ≡ body ++ others) × (length body ≡ len)
taken_whole len after front got left body f b size =
    let is : body ≡ take len after ++ got = b ∙ ap (λ (l : Text). l ++ got) f in
    (drop len after ++ left, body_behind len after got left (sym (ap length is) ∙ size) ∙ ap (λ (l : Text). l ++ (drop len after ++ left)) (sym is), size)

-- bytes that were written to all of a vector are all of it
pub written_back : (n : ℕ) (new items : Text) → n ≡ length new → take n (new ++ drop (length new) items) ≡ new
written_back n new items e = ap (λ (k : ℕ). take k (new ++ drop (length new) items)) e ∙ take-append_seam new (drop (length new) items)
