-- The parts of a certificate's lines: the offsets where they are cut, and their only spelling.
use Rattle.std.proofs.Common.{◌≡◌, ◌≢◌, ◌⊎◌, inl, inr, ℕ, zero, suc, ◌<◌, ◌≤◌, ◌^◌, ℤ, pos, negsuc, FitsSigned, w64, to_z, of_z, not, eqb, true, false, List, [], ◌∷◌, ◌++◌, length, codes, refl, sym, ap, subst, ◌∙◌, arith, append_assoc, Option, Some, None, IfSome, IfNone, Ok, Err, Bor}
use Rattle.std.specs.List.{list_all}
use Rattle.std.specs.Fmt.{decimal, signed_decimal}
use Rattle.std.specs.Str.Parse.{IsNumeral, without_leading_sign, signed_digits_value}
use Rattle.std.proofs.lemmas.Bool.{and_parts, false≢true}
use Rattle.std.proofs.lemmas.Bool.Decides.{nat_tests}
use Rattle.std.proofs.lemmas.Fmt.{decimal_is_IsNumeral, parse-signed_decimal, signed_decimal_injective}
use Rattle.std.proofs.lemmas.Str.Parse.{digit_at}
use Rattle.std.proofs.lemmas.Str.Pattern.{IsSplitOnceResult, split_parts}
use Rattle.std.proofs.lemmas.Int.{to_z-of_z}
use lib.Signed.{mag}
use Rattle.ts_core.specs.facts.Facts.{Text}
use Rattle.ts_core.specs.plans.Pieces.{Source, Raw, Rollup, Piece}
use Rattle.ts_core.specs.settings.SettingsFaults.{is_between, is_name_byte, is_rule_name}
use Rattle.ts_core.proofs.plans.Walks.{same_piece as same_parts}
use Rattle.ts_check.specs.CertificateTexts.{HasRuleName, HasSpelling, source_text, range_text, piece_text, piece_line}
use Rattle.ts_check.specs.CertificateLines.{Lacks, IsNumber, IsRange, IsSource, IsPiece}

-- ---- a byte that a text lacks

pub lacks_cons : (c b : ℕ) (bs : Text) → b ≢ c → Lacks c bs → Lacks c (b ∷ bs)
lacks_cons c b bs ne l zero h = ne
lacks_cons c b bs ne l (suc i) h = l i (omega arith)

pub lacks_append : (c : ℕ) (xs ys : Text) → Lacks c xs → Lacks c ys → Lacks c (xs ++ ys)
lacks_append c [] ys l m = m
lacks_append c (x ∷ xs) ys l m = lacks_cons c x (xs ++ ys) (l 0 (omega arith)) (lacks_append c xs ys (λ i h. l (suc i) (omega arith)) m)

-- a test of it
not_it : (b c : ℕ) → not (eqb b c) ≡ true → b ≢ c
not_it b c e same = grind (arith, nat_tests)

pub lacks_test : (c : ℕ) (bs : Text) → list_all (λ b. not (eqb b c)) bs ≡ true → Lacks c bs
lacks_test c [] e = λ i h. absurd (omega arith)
lacks_test c (b ∷ bs) e =
    let p = and_parts (not (eqb b c)) (list_all (λ x. not (eqb x c)) bs) e in
    lacks_cons c b bs (not_it b c p.0) (lacks_test c bs p.1)

-- it doesn't follow the front of one
pub lacks_not : (c : ℕ) (xs ys : Text) → Lacks c (xs ++ (c ∷ ys)) → ⊥
lacks_not c [] ys l = l 0 (omega arith) refl
lacks_not c (x ∷ xs) ys l = lacks_not c xs ys (λ i h. l (suc i) (omega arith))

-- a text is cut at its first separator in one way
pub cut_same : (c : ℕ) (xs ys x y : Text) → Lacks c xs → Lacks c ys → xs ++ (c ∷ x) ≡ ys ++ (c ∷ y) → (xs ≡ ys) × (x ≡ y)
cut_same c [] [] x y l m e = (refl, cc)
cut_same c [] (b ∷ ys) x y l m e = let same : b ≡ c = cc in absurd (m 0 (omega arith) same)
cut_same c (a ∷ xs) [] x y l m e = let same : a ≡ c = cc in absurd (l 0 (omega arith) same)
cut_same c (a ∷ xs) (b ∷ ys) x y l m e =
    let tail : xs ++ (c ∷ x) ≡ ys ++ (c ∷ y) = cc in
    let rest = cut_same c xs ys x y (λ i h. l (suc i) (omega arith)) (λ i h. m (suc i) (omega arith)) tail in
    let front = rest.0 in
    (cc, rest.1)

pub cut_first : (c : ℕ) (bs : Text) (r : Option (Bor (List ℕ) × Bor (List ℕ))) → IsSplitOnceResult c bs r → c < 128 → IfSome r (λ x. Lacks c x.0.now)
cut_first c bs None h s = tt
cut_first c bs (Some x) h s = (split_parts c bs (Some x) h s).1

pub cut_none : (c : ℕ) (bs : Text) (r : Option (Bor (List ℕ) × Bor (List ℕ))) → IsSplitOnceResult c bs r → c < 128 → IfNone r (Lacks c bs)
cut_none c bs None h s = split_parts c bs None h s
cut_none c bs (Some x) h s = tt

-- ---- numbers

mag_small : (n : ℤ) → FitsSigned w64 n → mag n < 2 ^ 63
mag_small (pos n) h = let fits = h.sfits in omega arith
mag_small (negsuc n) h = let fits = h.sfits in omega arith

decimal_lacks : (c n : ℕ) → n < 2 ^ 64 → c < 48 → Lacks c (decimal n)
decimal_lacks c n h s i l e = let digit = digit_at (decimal n) i ((decimal_is_IsNumeral n h).0.1) l in omega (arith, digit.0, e)

-- a number has neither a space nor a line feed
pub number_lacks : (c : ℕ) (n : ℤ) → FitsSigned w64 n → c < 45 → Lacks c (signed_decimal n)
number_lacks c (pos n) h s = let fits = h.sfits in decimal_lacks c n (omega arith) (omega arith)
number_lacks c (negsuc n) h s =
    let fits = h.sfits in
    lacks_cons c 45 (decimal (suc n)) (λ e. omega (arith, e)) (decimal_lacks c (suc n) (omega arith) (omega arith))

pub same_number : (m n : ℤ) → FitsSigned w64 m → FitsSigned w64 n → signed_decimal m ≡ signed_decimal n → m ≡ n
same_number m n f g e = signed_decimal_injective m n (mag_small m f) (mag_small n g) e

-- the result of `parse` for a text
abbrev IsNumeralOf : Text → Type 0
IsNumeralOf text = IsNumeral 10 (without_leading_sign text) × FitsSigned w64 (signed_digits_value 10 text)

-- a text that it refuses isn't a number
pub unparsed : (text : Text) → (IsNumeralOf text → ⊥) → (n : ℤ) → IsNumber text n → ⊥
unparsed text h n w = let told : Err tt ≡ Ok n = parse-signed_decimal {E = Unit {0}} w64 n text (Err tt) w.fits (mag_small n w.fits) w.spelled h in cc

-- it returns the number, if there is one
pub misspelled : (text written : Text) (m : ℤ) → IsNumeralOf text × (m ≡ signed_digits_value 10 text) → written ≡ signed_decimal (to_z w64 (of_z w64 m)) → (written ≡ text → ⊥) → (n : ℤ) → IsNumber text n → ⊥
misspelled text written m h e other n w =
    let told : Ok m ≡ Ok n = parse-signed_decimal {E = Unit {0}} w64 n text (Ok m) w.fits (mag_small n w.fits) w.spelled h in
    let same : m ≡ n = cc in
    let fits : FitsSigned w64 m = subst (λ z. FitsSigned w64 z) (sym same) w.fits in
    other (e ∙ (ap signed_decimal (to_z-of_z w64 m fits ∙ same) ∙ sym w.spelled))

-- ---- names and sources

name_byte : (b : ℕ) → is_name_byte b ≡ true → 48 ≤ b
name_byte b e = grind (arith, nat_tests)

bytes_lack : (c : ℕ) (bs : Text) → list_all is_name_byte bs ≡ true → c < 48 → Lacks c bs
bytes_lack c [] e s = λ i h. absurd (omega arith)
bytes_lack c (b ∷ bs) e s =
    let p = and_parts (is_name_byte b) (list_all is_name_byte bs) e in
    let high = name_byte b p.0 in
    lacks_cons c b bs (λ x. omega (arith, x, high)) (bytes_lack c bs p.1 s)

pub name_lacks : (c : ℕ) (name : Text) → is_rule_name name ≡ true → c < 48 → Lacks c name
name_lacks c name e s = let p = and_parts (is_between 1 32 (length name)) (list_all is_name_byte name) e in bytes_lack c name p.1 s

-- ---- texts that a cut text can't be

pub not_cut : (c : ℕ) (text xs ys : Text) → Lacks c text → text ≡ xs ++ (c ∷ ys) → ⊥
not_cut c text xs ys l e = lacks_not c xs ys (subst (λ (t : Text). Lacks c t) e l)

-- two numbers are cut at their space
pub range_cut : (text from to : Text) → text ≡ from ++ (32 ∷ to) → Lacks 32 from → (r : ℤ × ℤ) → IsRange text r → IsNumber from r.0 × IsNumber to r.1
range_cut text from to e l r w =
    let cut = cut_same 32 from (signed_decimal r.0) to (signed_decimal r.1) l (number_lacks 32 r.0 w.from (omega arith)) (sym e ∙ w.spelled) in
    (record { fits = w.from; spelled = cut.0 }, record { fits = w.to; spelled = cut.1 })

pub range_uncut : (text : Text) → Lacks 32 text → (r : ℤ × ℤ) → IsRange text r → ⊥
range_uncut text l r w = not_cut 32 text (signed_decimal r.0) (signed_decimal r.1) l w.spelled

pub range_from : (text from to : Text) → text ≡ from ++ (32 ∷ to) → Lacks 32 from → ((n : ℤ) → IsNumber from n → ⊥) → (r : ℤ × ℤ) → IsRange text r → ⊥
range_from text from to e l none r w = none r.0 (range_cut text from to e l r w).0

pub range_to : (text from to : Text) → text ≡ from ++ (32 ∷ to) → Lacks 32 from → ((n : ℤ) → IsNumber to n → ⊥) → (r : ℤ × ℤ) → IsRange text r → ⊥
range_to text from to e l none r w = none r.1 (range_cut text from to e l r w).1

-- ---- sources

-- the first word of a line of a source
abbrev IsWord : Text → Text → Text → Type 0
IsWord word rest more = (word ≡ codes "raw") ⊎ ((word ≡ codes "rollup") × (name : Text) × (is_rule_name name ≡ true) × (rest ≡ name ++ (32 ∷ more)))

word_by : (s : Source) (word rest more : Text) → HasRuleName s → Lacks 32 word → word ++ (32 ∷ rest) ≡ source_text s ++ (codes " " ++ more) → IsWord word rest more
word_by Raw word rest more named l e = inl (cut_same 32 word (codes "raw") rest more l (lacks_test 32 (codes "raw") refl) e).0
word_by (Rollup name) word rest more named l e =
    let cut = cut_same 32 word (codes "rollup") rest (name ++ (32 ∷ more)) l (lacks_test 32 (codes "rollup") refl) e in
    inr (cut.0, name, named, cut.1)

word_of : (line word rest : Text) → line ≡ word ++ (32 ∷ rest) → Lacks 32 word → (x : Source × Text) → IsSource line x → IsWord word rest x.1
word_of line word rest e l x w = word_by x.0 word rest x.1 w.named l (sym e ∙ w.spelled)

pub source_uncut : (line : Text) → Lacks 32 line → (x : Source × Text) → IsSource line x → ⊥
source_uncut line l x w = not_cut 32 line (source_text x.0) x.1 l w.spelled

other_by : (word rest more : Text) → IsWord word rest more → (word ≡ codes "raw" → ⊥) → (word ≡ codes "rollup" → ⊥) → ⊥
other_by word rest more (inl w) raw rollup = raw w
other_by word rest more (inr w) raw rollup = rollup w.0

pub source_other : (line word rest : Text) → line ≡ word ++ (32 ∷ rest) → Lacks 32 word → (word ≡ codes "raw" → ⊥) → (word ≡ codes "rollup" → ⊥) → (x : Source × Text) → IsSource line x → ⊥
source_other line word rest e l raw rollup x w = other_by word rest x.1 (word_of line word rest e l x w) raw rollup

rollup_by : (word rest more : Text) → IsWord word rest more → word ≡ codes "rollup" → (name : Text) × (is_rule_name name ≡ true) × (rest ≡ name ++ (32 ∷ more))
rollup_by word rest more (inl w) rollup = let bad : ◌≡◌ {A = ℕ} 97 111 = cc in absurd (omega (arith, bad))
rollup_by word rest more (inr w) rollup = (w.1, w.2, w.3)

pub source_nameless : (line word rest : Text) → line ≡ word ++ (32 ∷ rest) → Lacks 32 word → word ≡ codes "rollup" → Lacks 32 rest → (x : Source × Text) → IsSource line x → ⊥
source_nameless line word rest e l rollup none x w =
    let told = rollup_by word rest x.1 (word_of line word rest e l x w) rollup in
    not_cut 32 rest told.0 x.1 none told.2

pub source_misnamed : (line word rest name behind : Text) → line ≡ word ++ (32 ∷ rest) → Lacks 32 word → word ≡ codes "rollup" → rest ≡ name ++ (32 ∷ behind) → Lacks 32 name → is_rule_name name ≡ false → (x : Source × Text) → IsSource line x → ⊥
source_misnamed line word rest name behind e l rollup f k bad x w =
    let told = rollup_by word rest x.1 (word_of line word rest e l x w) rollup in
    let cut = cut_same 32 name told.0 behind x.1 k (name_lacks 32 told.0 told.1 (omega arith)) (sym f ∙ told.2) in
    let good : is_rule_name name ≡ true = ap is_rule_name cut.0 ∙ told.1 in
    false≢true (sym bad ∙ good)

-- ---- pieces

source_same : (s t : Source) (x y : Text) → HasRuleName s → HasRuleName t → source_text s ++ (codes " " ++ x) ≡ source_text t ++ (codes " " ++ y) → (s ≡ t) × (x ≡ y)
source_same Raw Raw x y f g e = (refl, cc)
source_same Raw (Rollup name) x y f g e = let bad : ◌≡◌ {A = ℕ} 97 111 = cc in absurd (omega (arith, bad))
source_same (Rollup name) Raw x y f g e = let bad : ◌≡◌ {A = ℕ} 111 97 = cc in absurd (omega (arith, bad))
source_same (Rollup name) (Rollup other) x y f g e =
    let tails : name ++ (32 ∷ x) ≡ other ++ (32 ∷ y) = cc in
    let cut = cut_same 32 name other x y (name_lacks 32 name f (omega arith)) (name_lacks 32 other g (omega arith)) tails in
    (ap (λ (t : Text). Rollup t) cut.0, cut.1)

range_lacks : (a b : ℤ) → FitsSigned w64 a → FitsSigned w64 b → Lacks 10 (codes " " ++ range_text a b)
range_lacks a b f g =
    lacks_cons 10 32 (range_text a b) (λ e. omega (arith, e))
    (lacks_append 10 (signed_decimal a) (codes " " ++ signed_decimal b) (number_lacks 10 a f (omega arith)) (lacks_cons 10 32 (signed_decimal b) (λ e. omega (arith, e)) (number_lacks 10 b g (omega arith))))

source_lacks : (s : Source) → HasRuleName s → Lacks 10 (source_text s)
source_lacks Raw f = lacks_test 10 (codes "raw") refl
source_lacks (Rollup name) f = lacks_append 10 (codes "rollup ") name (lacks_test 10 (codes "rollup ") refl) (name_lacks 10 name f (omega arith))

pub piece_lacks : (p : Piece) → HasSpelling p → Lacks 10 (piece_text p)
piece_lacks p h = lacks_append 10 (source_text p.source) (codes " " ++ range_text p.from p.to) (source_lacks p.source h.named) (range_lacks p.from p.to h.from h.to)

same_text : (p q : Piece) → HasSpelling p → HasSpelling q → piece_text p ≡ piece_text q → p ≡ q
same_text p q f g e =
    let sources = source_same p.source q.source (range_text p.from p.to) (range_text q.from q.to) f.named g.named e in
    let numbers = range_cut (range_text p.from p.to) (signed_decimal q.from) (signed_decimal q.to) sources.1 (number_lacks 32 q.from g.from (omega arith)) (p.from, p.to) (record { from = f.from; to = f.to; spelled = refl }) in
    same_parts p q sources.0 (same_number p.from q.from f.from g.from (sym numbers.0.spelled)) (same_number p.to q.to f.to g.to (sym numbers.1.spelled))

pub same_piece : (p q : Piece) (x y : Text) → HasSpelling p → HasSpelling q → piece_line p ++ x ≡ piece_line q ++ y → (p ≡ q) × (x ≡ y)
same_piece p q x y f g e =
    let whole : piece_text p ++ (10 ∷ x) ≡ piece_text q ++ (10 ∷ y) = sym (append_assoc (piece_text p) (10 ∷ []) x) ∙ (e ∙ append_assoc (piece_text q) (10 ∷ []) y) in
    let cut = cut_same 10 (piece_text p) (piece_text q) x y (piece_lacks p f) (piece_lacks q g) whole in
    (same_text p q f g cut.0, cut.1)

pub piece_sourceless : (line : Text) → ((x : Source × Text) → IsSource line x → ⊥) → (p : Piece) → IsPiece line p → ⊥
piece_sourceless line none p w = none (p.source, range_text p.from p.to) (record { named = w.has.named; spelled = w.spelled })

pub piece_rangeless : (line : Text) (x : Source × Text) → IsSource line x → ((r : ℤ × ℤ) → IsRange x.1 r → ⊥) → (p : Piece) → IsPiece line p → ⊥
piece_rangeless line x v none p w =
    let same = source_same x.0 p.source x.1 (range_text p.from p.to) v.named w.has.named (sym v.spelled ∙ w.spelled) in
    none (p.from, p.to) (record { from = w.has.from; to = w.has.to; spelled = same.1 })
