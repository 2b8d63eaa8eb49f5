-- What is kept beside facts, and what is known.
use Rattle.std.proofs.Common.{◌≡◌, ℕ, Bool, true, false, cond, ◌&&◌, if◌then◌else◌, List, [], ◌∷◌, ◌++◌, Option, Some, None, refl, sym, ap, ◌∙◌, true≢false}
use Rattle.std.specs.Prelude.{◌==◌}
use Rattle.std.specs.List.{find, flat_map}
use Rattle.std.specs.Option.{option_map, option_to_list}
use Rattle.std.proofs.lemmas.List.{map-append}
use Rattle.std.proofs.lemmas.Slice.Eq.{slice_eq-Decides, bytes_eq-Decides}
use Rattle.std.specs.Cmp.Lexicographic.{pointwise}
use Rattle.std.specs.Str.{bytes_eq}
use Rattle.dns_name.specs.Alike.{same_name}
use Rattle.dns_name.specs.Labels.{lowered}
use Rattle.dns_record.specs.Address.{address_in}
use Rattle.dns_record.specs.Record.{PlainRecord}
use Rattle.dns_message.specs.declared.question.Question.{Question}
use Rattle.upstream_link.specs.declared.fact.Fact.{Fact}
use Rattle.upstream_link.specs.Chain.{name_in}
use Rattle.upstream_link.specs.Entries.{entry_of, entries_of, known_about}
use Rattle.upstream_link.specs.Fact.{same_question}
use Rattle.upstream_link.specs.Facts.{PlainFacts, fact_about, records_of}
use Rattle.upstream_link.specs.Known.{PlainKnown, named_servers}
use Rattle.upstream_link.specs.Question.{question_of}
use Rattle.upstream_link.specs.Servers.{addresses_in, servers_at, servers_in}

abbrev pub Name : Type 0
Name = List (List ℕ)

-- ---- look-ups

found_by : (b : Bool) (k : PlainKnown) (rest : Option PlainKnown) (facts : Option (Question × Fact)) → option_map (λ e. e.1) facts ≡ option_map (λ k. k.fact) rest → option_map (λ e. e.1) (cond b (Some (entry_of k)) facts) ≡ option_map (λ k. k.fact) (cond b (Some k) rest)
found_by true k rest facts e = refl
found_by false k rest facts e = e

pub fact_found : (all : List PlainKnown) (question : Question) → fact_about (entries_of all) question ≡ option_map (λ k. k.fact) (known_about all question)
fact_found [] question = refl
fact_found (k ∷ all) question = found_by (same_question k.question question) k (known_about all question) (find (λ e. same_question e.0 question) (entries_of all)) (fact_found all question)

passes_by : (b : Bool) (p : PlainKnown → Bool) (x : PlainKnown) (rest : Option PlainKnown) (k : PlainKnown) → p x ≡ b → (rest ≡ Some k → p k ≡ true) → cond b (Some x) rest ≡ Some k → p k ≡ true
passes_by true p x rest k is go e = cc (is, e)
passes_by false p x rest k is go e = go e

-- what is found passes the test
pub found_passes : (p : PlainKnown → Bool) (all : List PlainKnown) (k : PlainKnown) → find p all ≡ Some k → p k ≡ true
found_passes p [] k e = absurd cc
found_passes p (x ∷ all) k e = passes_by (p x) p x (find p all) k refl (found_passes p all k) e

-- ---- names that are alike own the same records

pub both : (a b : Bool) → (a && b) ≡ true → (a ≡ true) × (b ≡ true)
both true b e = (refl, e)
both false b e = absurd (true≢false (sym e))

pub alike : (a b : Name) → same_name a b ≡ true → lowered a ≡ lowered b
alike a b e = (slice_eq-Decides bytes_eq-Decides (lowered a) (lowered b) (same_name a b) refl).0 e

pub alike_if : (a b : Name) → lowered a ≡ lowered b → same_name a b ≡ true
alike_if a b e = (slice_eq-Decides bytes_eq-Decides (lowered a) (lowered b) (same_name a b) refl).1 e

owns : (a b owner : Name) → lowered a ≡ lowered b → same_name owner a ≡ same_name owner b
owns a b owner e = ap (λ (low : Name). pointwise bytes_eq (lowered owner) low) e

servers_of_alike : (a b : Name) (records : List PlainRecord) → lowered a ≡ lowered b → servers_in a records ≡ servers_in b records
servers_of_alike a b records e =
    ap (λ (low : Name). flat_map (λ (r : PlainRecord). option_to_list (if r.rtype == 2 && pointwise bytes_eq (lowered r.owner) low then option_map lowered (name_in r) else None)) records) e

pub addresses_of_alike : (a b : Name) (records : List PlainRecord) → lowered a ≡ lowered b → addresses_in a records ≡ addresses_in b records
addresses_of_alike a b records e =
    ap (λ (low : Name). flat_map (λ (r : PlainRecord). option_to_list (if pointwise bytes_eq (lowered r.owner) low then address_in r else None)) records) e

named_by : (b : Bool) (names : List Name) → b ≡ true → (if b then names else []) ≡ names
named_by true names e = refl
named_by false names e = absurd (true≢false (sym e))

-- the servers that a fact names are those of each name that is alike the name that was asked for
pub named_at : (all : List PlainKnown) (owner : Name) (k : PlainKnown) → known_about all (question_of owner 2) ≡ Some k → named_servers k.question k.fact ≡ servers_at (entries_of all) owner
named_at all owner k e =
    let test = both (same_name k.question.name owner) (k.question.qtype == 2 && k.question.qclass == 1) (found_passes (λ k. same_question k.question (question_of owner 2)) all k e) in
    let qtype = (both (k.question.qtype == 2) (k.question.qclass == 1) test.1).0 in
    named_by (k.question.qtype == 2) (servers_in k.question.name (records_of (Some k.fact))) qtype
    ∙ servers_of_alike k.question.name owner (records_of (Some k.fact)) (alike k.question.name owner test.0)
    ∙ ap (λ (fact : Option Fact). servers_in owner (records_of fact)) (sym (fact_found all (question_of owner 2) ∙ ap (λ (found : Option PlainKnown). option_map (λ k. k.fact) found) e))

pub none_at : (all : List PlainKnown) (owner : Name) → known_about all (question_of owner 2) ≡ None → servers_at (entries_of all) owner ≡ []
none_at all owner e = ap (λ (fact : Option Fact). servers_in owner (records_of fact)) (fact_found all (question_of owner 2) ∙ ap (λ (found : Option PlainKnown). option_map (λ k. k.fact) found) e)

-- ---- the list that is kept, and the facts that are seen

pub pushed_entries : (all longer : List PlainKnown) (known : PlainKnown) (question : Question) (fact : Fact) (ok : Bool) → longer ≡ cond ok (all ++ known ∷ []) all → known.question ≡ question → known.fact ≡ fact → entries_of longer ≡ cond ok (entries_of all ++ (question, fact) ∷ []) (entries_of all)
pushed_entries all longer known question fact true is q f = ap entries_of is ∙ map-append entry_of all (known ∷ []) ∙ (λ i. entries_of all ++ (q i, f i) ∷ [])
pushed_entries all longer known question fact false is q f = ap entries_of is

pub popped_entries : (all less : List PlainKnown) (last : Option PlainKnown) → all ≡ less ++ option_to_list last → entries_of all ≡ entries_of less ++ option_to_list (option_map entry_of last)
popped_entries all less None is = ap entries_of is ∙ map-append entry_of less []
popped_entries all less (Some k) is = ap entries_of is ∙ map-append entry_of less (k ∷ [])

module _ (all shown : List PlainKnown) (facts : PlainFacts) (seen : entries_of all ≡ facts) (is : shown ≡ all) where
  pub got : (question : Question) (found : Option PlainKnown) → found ≡ known_about shown question → option_map (λ k. k.fact) found ≡ fact_about facts question
  got question found e =
      ap (λ (f : Option PlainKnown). option_map (λ k. k.fact) f) (e ∙ ap (λ (ks : List PlainKnown). known_about ks question) is)
      ∙ sym (fact_found all question)
      ∙ ap (λ (f : PlainFacts). fact_about f question) seen

  pub kept_at : (owner : Name) (k : PlainKnown) → Some k ≡ known_about shown (question_of owner 2) → named_servers k.question k.fact ≡ servers_at facts owner
  kept_at owner k e =
      named_at all owner k (sym (e ∙ ap (λ (ks : List PlainKnown). known_about ks (question_of owner 2)) is))
      ∙ ap (λ (f : PlainFacts). servers_at f owner) seen

  pub nothing_at : (owner : Name) → None ≡ known_about shown (question_of owner 2) → servers_at facts owner ≡ []
  nothing_at owner e =
      sym (ap (λ (f : PlainFacts). servers_at f owner) seen)
      ∙ none_at all owner (sym (e ∙ ap (λ (ks : List PlainKnown). known_about ks (question_of owner 2)) is))
