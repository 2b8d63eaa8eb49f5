-- Command sets that are equal take the same words.
use Rattle.std.proofs.Common.{◌≡◌, List, [], true, refl, sym, ap, ◌∙◌, subst}
use Rattle.clap.specs.Words.{App, HasMatchesOf, Text, is_simple, subcommand_of, subcommand_rows_of, takes}
use Rattle.clap.specs.declared.parser.matches.ArgMatches.{ArgMatches}
use Rattle.clap.specs.Faults.{fault_of, is_simple_and_free}
use Rattle.rpz_words.specs.Words.{rpz_app}

pub takes_same : (a b : App) (words : List Text) → a ≡ b → takes b words ≡ true → takes a words ≡ true
takes_same a b words e h = let P : App → Type 0 = λ x. takes x words ≡ true in subst P (sym e) h

simple : is_simple_and_free rpz_app ≡ true
simple = refl

-- words that the command set takes show no fault
pub no_fault : (a : App) (words : List Text) → a ≡ rpz_app → (is_simple_and_free a ≡ true → fault_of a words ≡ []) → fault_of rpz_app words ≡ []
no_fault a words e h = ap (λ x. fault_of x words) (sym e) ∙ h (ap is_simple_and_free e ∙ simple)

simple_rules : is_simple rpz_app ≡ true
simple_rules = refl

-- what the command set makes of words
pub matched : (a : App) (words : List Text) (m : ArgMatches) → a ≡ rpz_app → HasMatchesOf a words m → subcommand_rows_of m ≡ subcommand_of rpz_app words
matched a words m e h = (h (ap is_simple e ∙ simple_rules)).1 ∙ ap (λ x. subcommand_of x words) e
