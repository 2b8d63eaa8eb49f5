-- The canonical order of names is total, and names in lower case that it calls equal are one.
use Rattle.std.proofs.Common.{◌≡◌, ℕ, Bool, true, false, ◌&&◌, if◌then◌else◌, Option, None, Some, List, [], ◌∷◌, map, refl, sym, ◌∙◌, subst}
use Rattle.std.specs.Prelude.{All, ◌==◌}
use Rattle.std.proofs.lemmas.List.Elements.{All-append, All-cons, All-contains, All-nil, Contains-get_or}
use Rattle.std.proofs.lemmas.List.Kept.{Any-dedup, Contains-from_dedup, IsStrictlySortedBy-dedup}
use Rattle.std.proofs.lemmas.List.Sorted.{Contains-permutation, IsPermutation-sym, ranks_by}
use Rattle.std.proofs.lemmas.Str.Ascii.{lowercase-lowercase}
use Rattle.std.specs.Char.{to_ascii_lowercase}
use Rattle.std.specs.Cmp.{IsStrictWeakOrder, eq_by_cmp_equiv}
use Rattle.std.specs.List.{Contains, dedup}
use Rattle.std.specs.List.Sorted.{IsPermutation, IsSorted, IsStrictlySortedBy}
use Rattle.std.specs.Option.{option_map, option_to_list}
use Rattle.std.specs.Ordering.{is_eq, is_lt, eq_by_cmp}
use Rattle.std.specs.declared.cmp.Ordering.{Ordering}
use Rattle.std.specs.declared.cmp.Ordering.TheVariants.{Less, Equal, Greater}
use Rattle.dns_message.specs.declared.question.Question.{Question}
use Rattle.dns_name.specs.Alike.{same_name}
use Rattle.dns_name.specs.Labels.{lowered}
use Rattle.dns_name.specs.Order.{canonical_order}
use Rattle.dns_record.specs.Record.{PlainRecord}
use Rattle.upstream_link.specs.Chain.{name_in}
use Rattle.upstream_link.specs.Facts.{records_of}
use Rattle.upstream_link.specs.Known.{AreInOrder, HaveSameMembers, named_servers}
use Rattle.upstream_link.specs.Servers.{server_in, servers_in}
use Rattle.upstream_link.specs.declared.fact.Fact.{Fact}
use Rattle.dns_name.proofs.Orders.{canonical_total, alike_from_equal}

abbrev Name : Type 0
Name = List (List ℕ)

pub canonical_ranks : IsStrictWeakOrder (λ (a b : Name). is_lt (canonical_order a b))
canonical_ranks = ranks_by canonical_total (λ (name : Name). name)

equal_if : (o : Ordering) → is_eq o ≡ true → o ≡ Equal
equal_if Less e = cc e
equal_if Equal e = refl
equal_if Greater e = cc e

-- ---- names that are sorted, each of which is kept once

abbrev pub IsLower : Name → Type 0
IsLower name = lowered name ≡ name

module _ (all sorted kept : List Name) (moved : IsPermutation all sorted) (is : kept ≡ dedup (eq_by_cmp canonical_order) sorted) (lower : All IsLower all) where
  from_kept : (x : Name) → Contains kept x → Contains all x
  from_kept x c = Contains-permutation sorted all x (IsPermutation-sym all sorted moved) (Contains-from_dedup (eq_by_cmp canonical_order) sorted x (subst (λ (names : List Name). Contains names x) is c))

  one_of : (x y : Name) → Contains all x → Contains kept y → canonical_order x y ≡ Equal → y ≡ x
  one_of x y m k e =
      sym (All-contains IsLower all y lower (from_kept y k)) ∙ sym (alike_from_equal x y e) ∙ All-contains IsLower all x lower m

  into_kept : (x : Name) → Contains all x → Contains kept x
  into_kept x c =
      let met = Any-dedup (eq_by_cmp_equiv canonical_total) sorted x (Contains-permutation all sorted x moved c) in
      let there : Contains kept met.1 = subst (λ (names : List Name). Contains names met.1) (sym is) (met.0, met.2, met.3) in
      subst (λ (name : Name). Contains kept name) (one_of x met.1 c there (equal_if (canonical_order x met.1) met.4)) there

  pub same_members : HaveSameMembers kept all
  same_members x = (from_kept x, into_kept x)

  pub in_order : IsSorted canonical_order sorted → AreInOrder kept
  in_order up = record {
    sorted = subst (λ (names : List Name). IsStrictlySortedBy canonical_order names) (sym is) (IsStrictlySortedBy-dedup canonical_total (λ x y. refl) sorted up);
    lower = λ k d lt. All-contains IsLower all _ lower (from_kept _ (Contains-get_or kept k d lt));
  }

-- ---- servers are named in lower case

lower_case_label : (label : List ℕ) → map to_ascii_lowercase (map to_ascii_lowercase label) ≡ map to_ascii_lowercase label
lower_case_label [] = refl
lower_case_label (c ∷ cs) = λ i. lowercase-lowercase c i ∷ lower_case_label cs i

pub lowered-lowered : (name : Name) → lowered (lowered name) ≡ lowered name
lowered-lowered [] = refl
lowered-lowered (l ∷ ls) = λ i. lower_case_label l i ∷ lowered-lowered ls i

lower_if : (b : Bool) (name : Option Name) → All IsLower (option_to_list (if b then option_map lowered name else None))
lower_if true None = All-nil IsLower
lower_if true (Some name) = All-cons IsLower (lowered name) [] (lowered-lowered name) (All-nil IsLower)
lower_if false name = All-nil IsLower

lower_in : (owner : Name) (records : List PlainRecord) → All IsLower (servers_in owner records)
lower_in owner [] = All-nil IsLower
lower_in owner (r ∷ records) = All-append IsLower (option_to_list (server_in owner r)) (servers_in owner records) (lower_if (r.rtype == 2 && same_name r.owner owner) (name_in r)) (lower_in owner records)

lower_by : (b : Bool) (names : List Name) → All IsLower names → All IsLower (if b then names else [])
lower_by true names all = all
lower_by false names all = All-nil IsLower

pub named_lower : (question : Question) (fact : Fact) → All IsLower (named_servers question fact)
named_lower question fact = lower_by (question.qtype == 2) (servers_in question.name (records_of (Some fact))) (lower_in question.name (records_of (Some fact)))
