-- The machine's reading of a text: the queries that it means by the grammar, or its first fault.
use Rattle.std.proofs.Common.{◌≡◌, ◌⊎◌, inl, inr, ℕ, ℤ, ◌<◌, ◌≤◌, List, length, nat_lt, Bool, true, false, Result, Ok, Err, refl, sym, ap, ◌∙◌, subst}
use Rattle.std.proofs.lemmas.Bool.{ltb-false}
use Rattle.std.specs.Prelude.{IsOk, IsErrAnd}
use Rattle.ts_core.specs.facts.Facts.{Text}
use Rattle.ts_ql.specs.declared.fault.QlFault.{QlFault}
use Rattle.ts_ql.specs.declared.fault.ParseError.{ParseError}
use Rattle.ts_ql.specs.declared.fault.ParseError.TheVariants as errors
use Rattle.ts_ql.specs.QueryFaults.{Fault, Syntax, as_fault, Gives}
use Rattle.ts_ql.specs.Laws.{Says, SaysUnless, IsFaultIf, TextSays, TextFault, Tells, RefusesAs, ReadsText, IsDecided}
use Rattle.ts_ql.specs.Reading.{queries_of}
use Rattle.ts_ql.specs.Selects.{Select}
use Rattle.ts_ql.specs.Tokenizing.{tokens_of}
use Rattle.ts_ql.proofs.GrammarLaws.{says, says_only, first_fault, fault_only}
use Rattle.ts_ql.proofs.ReadingLemmas.{long_text}
use Rattle.ts_ql.proofs.RunLemmas.{reads_ok, reads_err, runs_ok, runs_err}

short : (n : ℕ) → nat_lt 65536 n ≡ false → n ≤ 65536
short n e = ltb-false 65536 n e

-- a text that is too long
long_fault : (now : ℤ) (text : Text) → nat_lt 65536 (length text) ≡ true → queries_of now text ≡ Err (Syntax 65536)
unfolding queries_of
long_fault now text e = rw e refl

text_says_by : (now : ℤ) (text : Text) (queries : List Select) → queries_of now text ≡ Ok queries → (b : Bool) → nat_lt 65536 (length text) ≡ b → SaysUnless b now text queries
text_says_by now text queries e true long = let fault : queries_of now text ≡ Err (Syntax 65536) = long_fault now text long in absurd cc
text_says_by now text queries e false is =
    let w = reads_ok now text queries (short (length text) is) e in
    subst (λ (qs : List Select). Says now (tokens_of text) qs) (w.2) (says now w.0 (tokens_of text) w.1 w.3)

text_says : (now : ℤ) (text : Text) (queries : List Select) → queries_of now text ≡ Ok queries → TextSays now text queries
text_says now text queries e = text_says_by now text queries e (nat_lt 65536 (length text)) refl

text_fault_by : (now : ℤ) (text : Text) (f : Fault) → queries_of now text ≡ Err f → (b : Bool) → nat_lt 65536 (length text) ≡ b → IsFaultIf b now text f
text_fault_by now text f e true long = let fault : queries_of now text ≡ Err (Syntax 65536) = long_fault now text long in cc
text_fault_by now text f e false is = first_fault now (tokens_of text) f (reads_err now text f (short (length text) is) e)

text_fault : (now : ℤ) (text : Text) (f : Fault) → queries_of now text ≡ Err f → TextFault now text f
text_fault now text f e = text_fault_by now text f e (nat_lt 65536 (length text)) refl

says_text_by : (now : ℤ) (text : Text) (queries : List Select) (b : Bool) → nat_lt 65536 (length text) ≡ b → SaysUnless b now text queries → queries_of now text ≡ Ok queries
says_text_by now text queries true long w = absurd w
says_text_by now text queries false is w =
    let m = says_only now (tokens_of text) queries w in runs_ok now text m.0 (short (length text) is) m.1 ∙ ap Ok m.2

fault_text_by : (now : ℤ) (text : Text) (f : Fault) (b : Bool) → nat_lt 65536 (length text) ≡ b → IsFaultIf b now text f → queries_of now text ≡ Err f
fault_text_by now text f true long w = long_fault now text long ∙ ap Err (sym w)
fault_text_by now text f false is w = runs_err now text f (short (length text) is) (fault_only now (tokens_of text) f w)

said_as : (now : ℤ) (text : Text) (queries : List Select) → TextSays now text queries → queries_of now text ≡ Ok queries
said_as now text queries w = says_text_by now text queries (nat_lt 65536 (length text)) refl w

faulty_as : (now : ℤ) (text : Text) (f : Fault) → TextFault now text f → queries_of now text ≡ Err f
faulty_as now text f w = fault_text_by now text f (nat_lt 65536 (length text)) refl w

-- ---- each text says queries or has a first fault

some_of : (now : ℤ) (text : Text) (r : Result (List Select) Fault) → queries_of now text ≡ r
    → ((queries : List Select) × TextSays now text queries) ⊎ ((fault : Fault) × TextFault now text fault)
some_of now text (Ok queries) e = inl (queries, text_says now text queries e)
some_of now text (Err f) e = inr (f, text_fault now text f e)

apart : (queries : List Select) (f : Fault) (r : Result (List Select) Fault) → r ≡ Ok queries → r ≡ Err f → ⊥
apart queries f r said faulty = cc

one_ok : (queries others : List Select) (r : Result (List Select) Fault) → r ≡ Ok queries → r ≡ Ok others → queries ≡ others
one_ok queries others r said also = cc

one_err : (f other : Fault) (r : Result (List Select) Fault) → r ≡ Err f → r ≡ Err other → f ≡ other
one_err f other r told also = cc

pub decided : (now : ℤ) (text : Text) → IsDecided now text
decided now text = record {
  some = some_of now text (queries_of now text) refl;
  not_both = λ queries f said faulty. apart queries f (queries_of now text) (said_as now text queries said) (faulty_as now text f faulty);
  one_meaning = λ queries others said also. one_ok queries others (queries_of now text) (said_as now text queries said) (said_as now text others also);
  one_fault = λ f other told also. one_err f other (queries_of now text) (faulty_as now text f told) (faulty_as now text other also);
}

-- ---- the same for the result of a call

ok_says : (now : ℤ) (text : Text) (r : Result (List Select) Fault) → queries_of now text ≡ r → IsOk r → (queries : List Select) × TextSays now text queries
ok_says now text (Ok queries) e ok = (queries, text_says now text queries e)
ok_says now text (Err f) e ok = absurd cc

tells : {X : Type 0} (view : X → List Select) (now : ℤ) (text : Text) (r : Result X ParseError) → (r ≡ Err errors.OutOfMemory → IsOk (queries_of now text)) → Gives view r (queries_of now text) → Tells view now text r
tells {X} view now text (Ok x) memory e = text_says now text (view x) e
tells {X} view now text (Err errors.OutOfMemory) memory e = ok_says now text (queries_of now text) refl (memory refl)
tells {X} view now text (Err (errors.Fault f)) memory e = text_fault now text (as_fault f) e

gives_as : {X : Type 0} (view : X → List Select) (r : Result X ParseError) (a b : Result (List Select) Fault) → a ≡ b → Gives view r a → Gives view r b
gives_as {X} view r a b e w = subst (λ (said : Result (List Select) Fault). Gives view r said) e w

refuses : {X : Type 0} (view : X → List Select) (r : Result X ParseError) (said : Result (List Select) Fault) (f : Fault) → said ≡ Err f → (r ≡ Err errors.OutOfMemory → IsOk said) → Gives view r said → IsErrAnd r (RefusesAs f)
refuses {X} view (Ok x) said f faulty memory e = absurd cc
refuses {X} view (Err errors.OutOfMemory) said f faulty memory e = absurd (let ok = rw faulty at memory refl in cc)
refuses {X} view (Err (errors.Fault g)) said f faulty memory e = cc

pub reads_text : {X : Type 0} (view : X → List Select) (now : ℤ) (text : Text) (r : Result X ParseError) → (r ≡ Err errors.OutOfMemory → IsOk (queries_of now text)) → Gives view r (queries_of now text)
    → ReadsText view now text r
reads_text {X} view now text r memory e = record {
  tells = tells view now text r memory e;
  queries = λ queries said. gives_as view r (queries_of now text) (Ok queries) (said_as now text queries said) e;
  fault = λ f faulty. refuses view r (queries_of now text) f (faulty_as now text f faulty) memory e;
}

not_memory : {X : Type 0} (f : QlFault) (r : Result X ParseError) → r ≡ Err (errors.Fault f) → r ≡ Err errors.OutOfMemory → ⊥
not_memory {X} f r fault memory = cc

-- a text that is too long, refused at its first byte past the limit
pub refuses_text : {X : Type 0} (view : X → List Select) (now : ℤ) (text : Text) (f : QlFault) → 65536 < length text → as_fault f ≡ Syntax 65536 → ReadsText view now text (Err (errors.Fault f))
refuses_text {X} view now text f long is =
    reads_text view now text (Err (errors.Fault f)) (λ e. absurd (not_memory f _ refl e)) (long_text now text long ∙ ap Err (sym is))
