-- What rules are looked up by, and the rules that are hit.
use Rattle.std.proofs.Common.{◌≡◌, ℕ, Bool, true, false, cond, ◌&&◌, ◌||◌, Option, Some, None, List, [], ◌∷◌, refl, sym, ap, ◌∙◌}
use Rattle.std.specs.Cmp.{both_ways}
use Rattle.std.specs.List.{flat_map, list_any}
use Rattle.std.specs.Option.{option_to_list}
use Rattle.std.proofs.Math.Bool.{or-false}
use Rattle.std.proofs.lemmas.List.Folds.{list_any-append}
use Rattle.dns_name.specs.Alike.{same_name}
use Rattle.dns_record.specs.Address.{address_in}
use Rattle.dns_record.specs.Record.{PlainRecord}
use Rattle.ip_prefix.specs.declared.Addr.{Addr}
use Rattle.ip_prefix.specs.Prefix.{PlainPrefix, contains}
use Rattle.zone_index.specs.Addresses.{is_held, holds_within}
use Rattle.upstream_link.specs.Facts.{PlainFacts}
use Rattle.upstream_link.specs.Known.{HaveSameMembers}
use Rattle.upstream_link.specs.Servers.{address_of, address_records, addresses_in, addresses_of}
use Rattle.policy_snapshot.specs.Hits.{has_address}
use Rattle.policy_snapshot.proofs.ListTests.{any_at}
use Rattle.policy_snapshot.proofs.OneKind.{from_any}

module _ {X Y : Type 0} (p : Y → Bool) (f : X → List Y) where
  any_flat : (xs : List X) → list_any p (flat_map f xs) ≡ list_any (λ x. list_any p (f x)) xs
  any_flat [] = refl
  any_flat (x ∷ xs) = list_any-append p (f x) (flat_map f xs) ∙ ap (λ (b : Bool). list_any p (f x) || b) (any_flat xs)

any_alike : {X : Type 0} (p q : X → Bool) (xs : List X) → ((x : X) → p x ≡ q x) → list_any p xs ≡ list_any q xs
any_alike p q [] same = refl
any_alike p q (x ∷ xs) same = λ i. same x i || any_alike p q xs same i

held_by : (prefix : PlainPrefix) (found : Option Addr) → list_any (contains prefix) (option_to_list found) ≡ is_held prefix found
held_by prefix None = refl
held_by prefix (Some addr) = or-false (contains prefix addr)

held_if : (prefix : PlainPrefix) (b : Bool) (found : Option Addr) → list_any (contains prefix) (option_to_list (cond b found None)) ≡ (b && is_held prefix found)
held_if prefix true found = held_by prefix found
held_if prefix false found = refl

in_records : (prefix : PlainPrefix) (owner : List (List ℕ)) (records : List PlainRecord) → list_any (contains prefix) (addresses_in owner records) ≡ list_any (holds_within prefix owner) records
in_records prefix owner records =
    any_flat (contains prefix) (λ r. option_to_list (address_of owner r)) records
    ∙ any_alike (λ r. list_any (contains prefix) (option_to_list (address_of owner r))) (holds_within prefix owner) records (λ r. held_if prefix (same_name r.owner owner) (address_in r))

-- an address of a server is in the prefix exactly where one of all addresses is
pub some_address : (facts : PlainFacts) (prefix : PlainPrefix) (names : List (List (List ℕ))) → list_any (has_address facts prefix) names ≡ list_any (contains prefix) (addresses_of facts names)
some_address facts prefix names =
    any_alike (has_address facts prefix) (λ server. list_any (contains prefix) (addresses_in server (address_records facts server))) names (λ server. sym (in_records prefix server (address_records facts server)))
    ∙ sym (any_flat (contains prefix) (λ server. addresses_in server (address_records facts server)) names)

-- a test of some element depends only on which elements there are
pub any_member : {X : Type 0} (p : X → Bool) (xs ys : List X) → HaveSameMembers xs ys → list_any p xs ≡ list_any p ys
any_member p xs ys same =
    both_ways (list_any p xs) (list_any p ys)
    (λ t. let a = from_any p xs t in any_at p ys a.x ((same a.x).0 a.within) a.passes)
    (λ t. let a = from_any p ys t in any_at p xs a.x ((same a.x).1 a.within) a.passes)
