-- What is kept of facts: where it stands, and whether any of it names a server.
use Rattle.std.proofs.Common.{◌≡◌, ℕ, zero, suc, ◌<◌, Bool, true, false, cond, ◌&&◌, ◌||◌, List, [], ◌∷◌, ◌++◌, length, get_or, Option, Some, None, is_some, refl, sym, ap, ◌∙◌, arith, nat_lt, true≢false}
use Rattle.std.specs.List.{find, flat_map, list_any}
use Rattle.std.specs.Option.{option_map}
use Rattle.std.proofs.lemmas.Bool.Decides.{nat_tests}
use Rattle.std.specs.Prelude.{◌==◌}
use Rattle.std.proofs.lemmas.Cmp.{lists_equiv, nat_eq_equiv, nat_list_eq_equiv}
use Rattle.dns_name.specs.Alike.{same_name}
use Rattle.dns_name.specs.Labels.{lowered}
use Rattle.dns_message.specs.declared.question.Question.{Question}
use Rattle.upstream_link.specs.declared.fact.Fact.{Fact}
use Rattle.upstream_link.specs.Entries.{entries_of, has_some, known_about}
use Rattle.upstream_link.specs.Fact.{same_question}
use Rattle.upstream_link.specs.Facts.{PlainFacts, AreDistinct, fact_about, is_known}
use Rattle.upstream_link.specs.Known.{PlainKnown, HaveSameMembers, named_servers}
use Rattle.upstream_link.specs.Question.{question_of}
use Rattle.upstream_link.specs.Servers.{ancestors, servers, servers_at}
use Rattle.upstream_link.proofs.Members.{here, none}
use Rattle.upstream_link.proofs.Found.{named_at, none_at}

-- ---- whether a question is answered

known_by : (b : Bool) (e : Question × Fact) (rest : Option (Question × Fact)) (any : Bool) → is_some (option_map (λ x. x.1) rest) ≡ any → is_some (option_map (λ x. x.1) (cond b (Some e) rest)) ≡ (b || any)
known_by true e rest any h = refl
known_by false e rest any h = h

pub known_if_any : (all : List PlainKnown) (question : Question) → is_known (entries_of all) question ≡ list_any (λ k. same_question k.question question) all
known_if_any [] question = refl
known_if_any (k ∷ all) question = known_by (same_question k.question question) (k.question, k.fact) (find (λ e. same_question e.0 question) (entries_of all)) (list_any (λ k. same_question k.question question) all) (known_if_any all question)

-- ---- facts that name no server

either_false : (a b : Bool) → (a || b) ≡ false → (a ≡ false) × (b ≡ false)
either_false true b e = absurd (true≢false e)
either_false false b e = (refl, e)

nothing_in : {X : Type 0} (xs : List X) → has_some xs ≡ false → xs ≡ []
nothing_in [] e = refl
nothing_in (x ∷ xs) e = absurd (true≢false e)

names : PlainKnown → Bool
names k = has_some (named_servers k.question k.fact)

found_by : (p : PlainKnown → Bool) (q : PlainKnown → Bool) (b : Bool) (x : PlainKnown) (rest : Option PlainKnown) (k : PlainKnown) → q x ≡ false → (rest ≡ Some k → q k ≡ false) → cond b (Some x) rest ≡ Some k → q k ≡ false
found_by p q true x rest k none go e = cc (none, e)
found_by p q false x rest k none go e = go e

found_without : (p : PlainKnown → Bool) (q : PlainKnown → Bool) (all : List PlainKnown) (k : PlainKnown) → list_any q all ≡ false → find p all ≡ Some k → q k ≡ false
found_without p q [] k none e = absurd cc
found_without p q (x ∷ all) k none e =
    let parts = either_false (q x) (list_any q all) none in
    found_by p q (p x) x (find p all) k parts.0 (found_without p q all k parts.1) e

none_of : (all : List PlainKnown) (owner : List (List ℕ)) (found : Option PlainKnown) → list_any (λ k. has_some (named_servers k.question k.fact)) all ≡ false → known_about all (question_of owner 2) ≡ found → servers_at (entries_of all) owner ≡ []
none_of all owner None none e = none_at all owner e
none_of all owner (Some k) none e =
    sym (named_at all owner k e)
    ∙ nothing_in (named_servers k.question k.fact) (found_without (λ k. same_question k.question (question_of owner 2)) (λ k. has_some (named_servers k.question k.fact)) all k none e)

no_flat : {X Y : Type 0} (f : X → List Y) (xs : List X) → ((x : X) → f x ≡ []) → flat_map f xs ≡ []
no_flat f [] none = refl
no_flat f (x ∷ xs) none = ap (λ l. l ++ flat_map f xs) (none x) ∙ no_flat f xs none

-- where no fact names a server, no name has one
pub no_servers : (all : List PlainKnown) (facts : PlainFacts) (name : List (List ℕ)) → entries_of all ≡ facts → list_any (λ k. has_some (named_servers k.question k.fact)) all ≡ false → servers facts name ≡ []
no_servers all facts name seen none =
    ap (λ (f : PlainFacts). servers f name) (sym seen)
    ∙ no_flat (servers_at (entries_of all)) (ancestors name) (λ owner. none_of all owner (known_about all (question_of owner 2)) none refl)

-- ---- the fact at a place

both : (a b : Bool) → a ≡ true → b ≡ true → (a && b) ≡ true
both true b h k = k
both false b h k = h

first_part : (a b : Bool) → (a && b) ≡ true → a ≡ true
first_part true b h = refl
first_part false b h = absurd (true≢false (sym h))

second_part : (a b : Bool) → (a && b) ≡ true → b ≡ true
second_part true b h = h
second_part false b h = absurd (true≢false (sym h))

abbrev same_names : Question → Question → Bool
same_names a b = same_name a.name b.name

abbrev same_types : Question → Question → Bool
same_types a b = a.qtype == b.qtype

abbrev same_classes : Question → Question → Bool
same_classes a b = a.qclass == b.qclass

-- questions that are alike a third are alike
alike : (a b c : Question) → same_question a c ≡ true → same_question b c ≡ true → same_question b a ≡ true
alike a b c h k =
    let lists = lists_equiv nat_list_eq_equiv in
    let rest_h = second_part (same_names a c) (same_types a c && same_classes a c) h in
    let rest_k = second_part (same_names b c) (same_types b c && same_classes b c) k in
    let name = lists.congr (lowered b.name) (lowered c.name) (lowered a.name) (first_part (same_names b c) (same_types b c && same_classes b c) k)
    ∙ lists.symm (lowered c.name) (lowered a.name) ∙ first_part (same_names a c) (same_types a c && same_classes a c) h in
    let qtype = nat_eq_equiv.congr b.qtype c.qtype a.qtype (first_part (same_types b c) (same_classes b c) rest_k) ∙ nat_eq_equiv.symm c.qtype a.qtype ∙ first_part (same_types a c) (same_classes a c) rest_h in
    let class = nat_eq_equiv.congr b.qclass c.qclass a.qclass (second_part (same_types b c) (same_classes b c) rest_k) ∙ nat_eq_equiv.symm c.qclass a.qclass ∙ second_part (same_types a c) (same_classes a c) rest_h in
    both (same_names b a) (same_types b a && same_classes b a) name (both (same_types b a) (same_classes b a) qtype class)

none_first : (b : Bool) (e : Question × Fact) (rest : Option (Question × Fact)) → option_map (λ y. y.1) (cond b (Some e) rest) ≡ None → (b ≡ false) × (option_map (λ y. y.1) rest ≡ None)
none_first true e rest n = absurd cc
none_first false e rest n = (refl, n)

-- a question that no fact answers isn't that of one of them
not_among : (all : List PlainKnown) (question : Question) (k : PlainKnown) (place : ℕ) → fact_about (entries_of all) question ≡ None → place < length all → same_question (get_or all place k).question question ≡ true → ⊥
not_among [] question k place none lt t = omega (arith, lt)
not_among (x ∷ all) question k zero none lt t =
    true≢false (sym t ∙ (none_first (same_question x.question question) (x.question, x.fact) (find (λ e. same_question e.0 question) (entries_of all)) none).0)
not_among (x ∷ all) question k (suc place) none lt t =
    not_among all question k place (none_first (same_question x.question question) (x.question, x.fact) (find (λ e. same_question e.0 question) (entries_of all)) none).1 (omega (arith, lt)) t

behind : (b : Bool) (x k : PlainKnown) (rest : Option PlainKnown) → (b ≡ true → ⊥) → Some k ≡ rest → Some k ≡ cond b (Some x) rest
behind true x k rest never e = absurd (never refl)
behind false x k rest never e = e

-- what is kept at a place is what is kept of its question, since no question is answered twice
pub at_place : (all : List PlainKnown) (question : Question) (k : PlainKnown) (place : ℕ) → AreDistinct (entries_of all) → place < length all → same_question (get_or all place k).question question ≡ true
    → Some (get_or all place k) ≡ known_about all question
at_place [] question k place d lt t = absurd (omega (arith, lt))
at_place (x ∷ all) question k zero d lt t = ap (λ (b : Bool). cond b (Some x) (known_about all question)) (sym t)
at_place (x ∷ all) question k (suc place) d lt t =
    behind (same_question x.question question) x (get_or all place k) (known_about all question)
    (λ h. not_among all x.question k place d.0 (omega (arith, lt)) (alike x.question (get_or all place k).question question h t))
    (at_place all question k place d.1 (omega (arith, lt)) t)

-- ---- servers that are kept

kept_by : (kept named : List (List (List ℕ))) → HaveSameMembers kept named → has_some kept ≡ has_some named
kept_by [] [] same = refl
kept_by [] (x ∷ xs) same = absurd (none x ((same x).1 (here x xs)))
kept_by (x ∷ xs) [] same = absurd (none x ((same x).0 (here x xs)))
kept_by (x ∷ xs) (y ∷ ys) same = refl

counted : {X : Type 0} (xs : List X) → nat_lt 0 (length xs) ≡ has_some xs
counted [] = refl
counted (x ∷ xs) = grind (arith, nat_tests)

pub kept_some : (kept named : List (List (List ℕ))) (count : ℕ) → count ≡ length kept → HaveSameMembers kept named → nat_lt 0 count ≡ has_some named
kept_some kept named count e same = ap (nat_lt 0) e ∙ counted kept ∙ kept_by kept named same
