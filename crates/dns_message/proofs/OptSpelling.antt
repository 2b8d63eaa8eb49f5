-- The additional section as it is spelled, its OPT record last.
use Rattle.std.proofs.Common.{◌≡◌, ℕ, ◌+◌, ◌*◌, ◌/◌, ◌%◌, ◌<◌, eqb, false, not, List, [], ◌∷◌, ◌++◌, length, Option, Some, None, Ok, refl, sym, ap, subst, ◌∙◌, arith, length-append}
use Rattle.std.specs.Prelude.{IfSome}
use Rattle.std.specs.List.{filter, AllByRecursion}
use Rattle.std.proofs.lemmas.Bool.{cond_both}
use Rattle.std.proofs.lemmas.List.{append-nil}
use Rattle.std.proofs.lemmas.List.Concat.{flat_map-append}
use Rattle.dns_name.specs.Labels.{IsName}
use Rattle.dns_name.specs.Standing.{Stands}
use Rattle.dns_record.specs.declared.part.Part.{Part}
use Rattle.dns_record.specs.Number.{number_octets}
use Rattle.dns_record.specs.Part.{layout_of}
use Rattle.dns_record.specs.Record.{PlainRecord, IsData, IsRecord, record_octets}
use Rattle.dns_message.specs.declared.edns.Edns.{Edns}
use Rattle.dns_message.specs.Reading.{is_opt, edns_of, edns_in, records_at}
use Rattle.dns_message.specs.Spelling.{IsEdns, opt_count, opt_octets, records_octets}
use Rattle.dns_message.proofs.RecordsGrammar.{records_written}

-- the OPT record that is written
abbrev time_to_live : Edns → ℕ
time_to_live e = e.extended * 16777216 + e.version * 65536

abbrev pub opt_record : Edns → PlainRecord
opt_record e = record { owner = []; rtype = 41; class = e.payload; ttl = time_to_live e; rdata = [] }

four_octets : (n a b : ℕ) → n ≡ a * 16777216 + b * 65536 → a < 256 → b < 256 → number_octets 4 n ≡ a ∷ b ∷ 0 ∷ 0 ∷ []
unfolding number_octets
four_octets n a b e f g =
    let e1 : n / 16777216 % 256 ≡ a = omega arith in
    let e2 : n / 65536 % 256 ≡ b = omega arith in
    let e3 : n / 256 % 256 ≡ 0 = omega arith in
    let e4 : n % 256 ≡ 0 = omega arith in
    rw (e1, e2, e3, e4) refl

ttl_octets : (e : Edns) → IsEdns e → number_octets 4 (time_to_live e) ≡ e.extended ∷ e.version ∷ 0 ∷ 0 ∷ []
ttl_octets e is = four_octets (time_to_live e) e.extended e.version refl is.extended_fits is.version_fits

pub opt_spelled : (e : Edns) → IsEdns e → opt_octets (Some e) ≡ record_octets (opt_record e)
unfolding opt_octets record_octets
opt_spelled e is =
    let octets : List ℕ = number_octets 2 41 ++ number_octets 2 e.payload ++ (e.extended ∷ e.version ∷ 0 ∷ 0 ∷ []) ++ number_octets 2 0 in
    rw (ttl_octets e is) (ap (λ (l : List ℕ). 0 ∷ l) (sym (append-nil octets)))

root_is : IsName []
root_is = record { labels = tt; short = omega arith }

no_layout : (class : ℕ) → layout_of 41 class ≡ None
no_layout class = cond_both (eqb class 1) None None (λ (o : Option (List Part)). o ≡ None) (λ t. refl) (λ t. refl)

opt_data : (class : ℕ) → IsData 41 class []
opt_data class = record { parts = rw (no_layout class) tt; short = omega arith }

opt_is : (e : Edns) → IsEdns e → IsRecord (opt_record e)
opt_is e is = record { is_owner = root_is; type_fits = omega arith; class_fits = is.payload_fits; ttl_fits = omega (arith, is.extended_fits, is.version_fits); is_data = opt_data e.payload }

opt_told : (e : Edns) → IsEdns e → edns_of (opt_record e) ≡ e
opt_told e is =
    let version : time_to_live e / 65536 % 256 ≡ e.version = omega (arith, is.extended_fits, is.version_fits) in
    let extended : time_to_live e / 16777216 % 256 ≡ e.extended = omega (arith, is.extended_fits, is.version_fits) in
    rw (version, extended) refl

-- the OPT record that is written, if there is one
abbrev pub opt_list : Option Edns → List PlainRecord
opt_list None = []
opt_list (Some e) = opt_record e ∷ []

-- the records that are read where these are written, and what is told of them
pub record WrittenAdditional (records : List PlainRecord) (edns : Option Edns) (bytes : List ℕ) (at after : ℕ) : Type 0 where
  pub all : List PlainRecord
  pub read : records_at (length records + opt_count edns) bytes at ≡ Ok (all, after)
  pub told : edns_in (filter is_opt all) ≡ Ok edns
  pub others : filter (λ r. not (is_opt r)) all ≡ records

pub opts_counted : (edns : Option Edns) → length (opt_list edns) ≡ opt_count edns
opts_counted None = refl
opts_counted (Some e) = refl

pub opts_are : (edns : Option Edns) → IfSome edns IsEdns → AllByRecursion IsRecord (opt_list edns)
opts_are None is = tt
opts_are (Some e) is = (opt_is e is, tt)

opts_spelled : (edns : Option Edns) → IfSome edns IsEdns → records_octets (opt_list edns) ≡ opt_octets edns
unfolding records_octets opt_octets
opts_spelled None is = refl
opts_spelled (Some e) is = append-nil (record_octets (opt_record e)) ∙ sym (opt_spelled e is)

pub opts_told : (edns : Option Edns) → IfSome edns IsEdns → edns_in (filter is_opt (opt_list edns)) ≡ Ok edns
opts_told None is = refl
opts_told (Some e) is = ap (λ (x : Edns). Ok (Some x)) (opt_told e is)

pub opts_alone : (edns : Option Edns) → filter (λ r. not (is_opt r)) (opt_list edns) ≡ []
opts_alone None = refl
opts_alone (Some e) = refl

pub both_are : (records more : List PlainRecord) → AllByRecursion IsRecord records → AllByRecursion IsRecord more → AllByRecursion IsRecord (records ++ more)
both_are [] more a b = b
both_are (r ∷ rs) more a b = (a.0, both_are rs more a.1 b)

both_spelled : (records more : List PlainRecord) → records_octets (records ++ more) ≡ records_octets records ++ records_octets more
unfolding records_octets
both_spelled records more = flat_map-append record_octets records more

pub none_more : (records opts : List PlainRecord) → AllByRecursion (λ r. is_opt r ≡ false) records → filter is_opt (records ++ opts) ≡ filter is_opt opts
none_more [] opts plain = refl
none_more (r ∷ rs) opts plain =
    let e : is_opt r ≡ false = plain.0 in
    rw e (none_more rs opts plain.1)

pub all_others : (records opts : List PlainRecord) → AllByRecursion (λ r. is_opt r ≡ false) records → filter (λ r. not (is_opt r)) opts ≡ [] → filter (λ r. not (is_opt r)) (records ++ opts) ≡ records
all_others [] opts plain none = none
all_others (r ∷ rs) opts plain none =
    let e : is_opt r ≡ false = plain.0 in
    rw e (ap (λ (others : List PlainRecord). r ∷ others) (all_others rs opts plain.1 none))

-- what is written as the additional section is read as it
pub additional_written : (records : List PlainRecord) (edns : Option Edns) (bytes : List ℕ) (at after : ℕ) → AllByRecursion IsRecord records → AllByRecursion (λ r. is_opt r ≡ false) records → IfSome edns IsEdns
    → Stands (records_octets records ++ opt_octets edns) bytes at after → WrittenAdditional records edns bytes at after
additional_written records edns bytes at after each plain is s =
    let opts = opt_list edns in
    let octets : records_octets (records ++ opts) ≡ records_octets records ++ opt_octets edns = both_spelled records opts ∙ ap (λ (l : List ℕ). records_octets records ++ l) (opts_spelled edns is) in
    let count : length (records ++ opts) ≡ length records + opt_count edns = omega (arith, length-append records opts, opts_counted edns) in
    record {
      all = records ++ opts;
      read = ap (λ (n : ℕ). records_at n bytes at) (sym count) ∙ records_written (records ++ opts) bytes at after (both_are records opts each (opts_are edns is)) (subst (λ (l : List ℕ). Stands l bytes at after) (sym octets) s);
      told = ap edns_in (none_more records opts plain) ∙ opts_told edns is;
      others = all_others records opts plain (opts_alone edns);
    }
