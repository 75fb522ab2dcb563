-- Commands as clap sees them, and the values of their arguments.
use Rattle.std.proofs.Common.{◌≡◌, ◌∙◌, ◌||◌, ℕ, Bool, refl, sym, ap, ap₂, subst, codes, List, Option, Some, None, Result, Ok, Err, true, false, inl, Bor}
use Rattle.std.specs.Prelude.{⊤, option_map, unwrap_or, IsErrAnd}
use Rattle.std.specs.Str.Parse.{ParsesUnsigned}
use Rattle.std.proofs.lemmas.Option.{none-some}
use Rattle.clap.specs.Words.{App, HasKind, Row, Rule, Text, fault_of, first_of, with_rule, with_subcommand, AddsArg, AddsSubcommand, one_text, one_of, rows_of, is_simple_and_free, is_simple, subcommand_name_of, subcommand_rows_of}
use Rattle.clap.specs.declared.builder.arg.Arg.{Arg}
use Rattle.clap.specs.declared.builder.command.Command.{Command}
use Rattle.clap.specs.declared.error.Error.{Error}
use Rattle.clap.specs.declared.parser.matches.ArgMatches.{ArgMatches}
use Rattle.clap.specs.declared.parser.matches.Found.{Found}
use Rattle.clap.proofs.OnLiterals.{clap_on_literals}
use Rattle.clap.proofs.WalkLemmas.{one_text-rows}
use Rattle.tsdb.specs.CommandLines.{IsArgument, IsCommand, IsActionOf, IsFlag, IsNumberIn, ParsesAs, program_app}
use Rattle.tsdb.specs.declared.command_line.Action.{Action}
use Rattle.tsdb.specs.declared.command_line.Action.TheVariants.{Faults}

pub argument_added : (old new : Command) (arg : Arg) (app : App) (rule : Rule) → IsCommand app old → IsArgument rule arg → AddsArg old arg new
    → IsCommand (with_rule app rule) new
argument_added old new arg app rule is given added =
    (added.shape given.1 ∙ ap₂ with_rule is.0 given.0, added.globals ∙ ap₂ (λ a b. a || b) is.1 given.1)

pub command_added : (old sub new : Command) (app below : App) → IsCommand app old → IsCommand below sub → AddsSubcommand old sub new
    → IsCommand (with_subcommand app below.top) new
command_added old sub new app below is given added =
    (added.shape given.1 ∙ ap₂ (λ (a b : App). with_subcommand a b.top) is.0 given.0, added.globals ∙ ap₂ (λ a b. a || b) is.1 given.1)

pub program_is_simple_and_free : is_simple_and_free program_app ≡ true
unfolding clap_on_literals
program_is_simple_and_free = refl

pub program_is_simple : is_simple program_app ≡ true
unfolding clap_on_literals
program_is_simple = refl

-- ---- values of arguments

module _ (bits : ℕ) where
  number_read : (value : Option Text) (n : ℕ) → (value ≡ None → Some n ≡ None)
      → ((text : Text) → value ≡ Some text → ParsesUnsigned {E = ⊤} bits 10 text (Ok n)) → IsNumberIn bits value n
  number_read None n none some = absurd (none-some n (sym (none refl)))
  number_read (Some text) n none some = some text refl

  number_unread : (value : Option Text) (n : ℕ) → ((text : Text) → value ≡ Some text → ParsesUnsigned {E = ⊤} bits 10 text (Err tt)) → IsNumberIn bits value n → ⊥
  number_unread None n some is = is
  number_unread (Some text) n some is = some text refl is.0

  pub value_read : (found : Found) (id : Text) (n : ℕ) → (one_text found id ≡ None → Some n ≡ None)
      → ((text : Text) → one_text found id ≡ Some text → ParsesUnsigned {E = ⊤} bits 10 text (Ok n)) → IsNumberIn bits (one_of id (rows_of found)) n
  value_read found id n none some =
      subst (λ (value : Option Text). IsNumberIn bits value n) (one_text-rows found id) (number_read (one_text found id) n none some)

  pub value_unread : (found : Found) (id : Text) (n : ℕ) → ((text : Text) → one_text found id ≡ Some text → ParsesUnsigned {E = ⊤} bits 10 text (Err tt))
      → IsNumberIn bits (one_of id (rows_of found)) n → ⊥
  value_unread found id n some is =
      number_unread (one_text found id) n some (subst (λ (value : Option Text). IsNumberIn bits value n) (sym (one_text-rows found id)) is)

pub flag_read : (found : Found) (id : Text) (flag : Bool) → (one_text found id ≡ None → flag ≡ false) → (one_text found id ≡ Some (codes "true") → flag ≡ true)
    → (one_text found id ≡ Some (codes "false") → flag ≡ false) → IsFlag (one_of id (rows_of found)) flag
flag_read found id flag missing set unset = subst (λ (value : Option Text). IsFlag value flag) (one_text-rows found id) (missing, set, unset)

-- the faults are requested, with this number
pub faults_requested : (entered : Option (Text × List Row)) (name : Text) (rows : List Row) (number : Option (Bor Text))
    → Some name ≡ option_map (λ p. p.0) entered → Some rows ≡ option_map (λ p. p.1) entered → name ≡ codes "faults"
    → option_map (λ n. n.now) number ≡ first_of (codes "N") rows → IsActionOf entered (Faults number)
faults_requested None name rows number named having is value = absurd (none-some name (sym named))
faults_requested (Some (name', rows')) name rows number named having is value =
    (sym (ap (λ o. unwrap_or o name) named) ∙ is, value ∙ ap (λ o. first_of (codes "N") (unwrap_or o rows)) having)

mapped : {X Y Z : Type 0} (f : X → Y) (g : Y → Z) (o : Option X) → option_map (λ x. g (f x)) o ≡ option_map g (option_map f o)
mapped f g None = refl
mapped f g (Some x) = refl

pub name_entered : (m : ArgMatches) → subcommand_name_of m ≡ option_map (λ p. p.0) (subcommand_rows_of m)
name_entered m = mapped _ (λ p. p.0) _

pub refused : (r : Result Action Error) (error : Error) (words : List Text) → IsErrAnd r (λ e. e ≡ error) → HasKind (fault_of program_app words) error → ParsesAs words r
refused (Ok action) error words is kind = absurd is
refused (Err e) error words is kind = subst (λ (x : Error). ParsesAs words (Err x)) (sym is) (inl kind)
