-- A CNAME record is read back from the octets that it is written in.
use Rattle.std.proofs.Common.{◌≡◌, ℕ, List, [], length, Result, Ok, Err, refl, sym, subst, arith, lit<}
use Rattle.std.specs.Prelude.{IfOk, IsOk}
use Rattle.std.specs.declared.alloc.AllocError.{AllocError}
use Rattle.std.proofs.lemmas.List.{append-nil, take_all}
use Rattle.dns_name.specs.Labels.{IsName, name_octets}
use Rattle.dns_name.specs.Standing.{Stands}
use Rattle.dns_record.specs.declared.fault.RecordFault.{RecordFault}
use Rattle.dns_record.specs.Reading.{record_at}
use Rattle.dns_record.specs.Record.{IsRecord, PlainRecord}
use Rattle.load_gen.specs.Rules.{drawn_alias}

pub alias_is_record : (owner target : List (List ℕ)) → IsName owner → IsName target → IsRecord (drawn_alias owner target)
alias_is_record owner target o t = record {
  is_owner = o;
  type_fits = lit< tt;
  class_fits = lit< tt;
  ttl_fits = lit< tt;
  is_data = record { parts = (target, [], t, sym (append-nil (name_octets target)), refl); short = omega (arith, t.short) };
}

pub stands_whole : (octets : List ℕ) → Stands octets octets 0 (length octets)
stands_whole octets = record { begins = take_all (length octets) octets (omega arith); ends = omega arith }

pub can_be_read : (octets : List ℕ) (r : PlainRecord) (after : ℕ) → record_at octets 0 ≡ Ok (r, after) → IsOk (record_at octets 0)
can_be_read octets r after e = subst (λ (o : Result (PlainRecord × ℕ) RecordFault). IsOk o) (sym e) refl

pub what_is_read : (octets : List ℕ) (made : PlainRecord) (after : ℕ) (result : Result PlainRecord AllocError) → record_at octets 0 ≡ Ok (made, after)
    → IfOk result (λ r. IfOk (record_at octets 0) (λ read. read.0 ≡ r)) → IfOk result (λ r. r ≡ made)
what_is_read octets made after (Ok r) e h = sym (subst (λ (o : Result (PlainRecord × ℕ) RecordFault). IfOk o (λ read. read.0 ≡ r)) e h)
what_is_read octets made after (Err error) e h = tt
