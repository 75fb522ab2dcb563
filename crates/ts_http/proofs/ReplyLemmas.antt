-- Texts appended one after another.
use Rattle.std.proofs.Common.{◌≡◌, [], ◌++◌, ap, ◌∙◌, append_assoc}
use Rattle.ts_core.specs.facts.Facts.{Text}

pub three_put : (old p d e a b c : Text) → a ≡ old ++ p → b ≡ a ++ d → c ≡ b ++ e → c ≡ old ++ (p ++ (d ++ e))
three_put old p d e a b c x y z =
    z ∙ ap (λ (t : Text). t ++ e) (y ∙ ap (λ (t : Text). t ++ d) x ∙ append_assoc old p d) ∙ append_assoc old (p ++ d) e ∙ ap (λ (t : Text). old ++ t) (append_assoc p d e)

pub six_put : (o p q r s t u a b c d e f : Text) → o ≡ [] → a ≡ o ++ p → b ≡ a ++ q → c ≡ b ++ r → d ≡ c ++ s → e ≡ d ++ t → f ≡ e ++ u → f ≡ p ++ (q ++ (r ++ (s ++ (t ++ u))))
six_put o p q r s t u a b c d e f none x y z w v g =
    let first : b ≡ p ++ q = y ∙ ap (λ (l : Text). l ++ q) (x ∙ ap (λ (l : Text). l ++ p) none) in
    let mid : e ≡ b ++ (r ++ (s ++ t)) = three_put b r s t c d e z w v in
    g ∙ ap (λ (l : Text). l ++ u) (mid ∙ ap (λ (l : Text). l ++ (r ++ (s ++ t))) first ∙ append_assoc p q (r ++ (s ++ t))) ∙ append_assoc p (q ++ (r ++ (s ++ t))) u
    ∙ ap (λ (l : Text). p ++ l) (append_assoc q (r ++ (s ++ t)) u ∙ ap (λ (l : Text). q ++ l) (append_assoc r (s ++ t) u ∙ ap (λ (l : Text). r ++ l) (append_assoc s t u)))
