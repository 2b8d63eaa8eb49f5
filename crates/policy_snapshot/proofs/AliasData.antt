-- A name in full is the data of a CNAME record.
use Rattle.std.proofs.Common.{◌≡◌, ℕ, List, [], length, refl, sym, ap, ◌∙◌, append-nil, arith}
use Rattle.dns_name.specs.Labels.{IsName, name_octets}
use Rattle.dns_record.specs.Record.{IsData}
use Rattle.dns_record.specs.declared.rtype.TheConstants.{CNAME}

pub alias_data : (name : List (List ℕ)) (octets : List ℕ) → IsName name → octets ≡ name_octets name → IsData CNAME 1 octets
alias_data name octets is e = record {
  parts = (name, [], is, e ∙ sym (append-nil (name_octets name)), refl);
  short = omega (arith, ap length e, is.short);
}
