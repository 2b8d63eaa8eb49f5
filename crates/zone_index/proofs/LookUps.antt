-- Look-ups in an index find what they would find among the rules of its rows.
use Rattle.std.proofs.Common.{◌≡◌, ℕ, List, Option, map, ap, ◌∙◌}
use Rattle.std.specs.Prelude.{All}
use Rattle.std.proofs.lemmas.List.Elements.{All-map}
use Rattle.dns_name.specs.Alike.{PlainPattern}
use Rattle.dns_record.specs.Row.{IsRow}
use Rattle.ip_prefix.specs.declared.Addr.{Addr}
use Rattle.ip_prefix.specs.Prefix.{PlainPrefix}
use Rattle.prefix_index.specs.Longest.{longest}
use Rattle.qname_index.specs.Best.{best}
use Rattle.packed_lists.specs.Blocks.{PlainRowList}
use Rattle.packed_lists.specs.Stored.{NumbersRise}
use Rattle.trigger_codec.specs.declared.trigger.Kind.{Kind}
use Rattle.trigger_codec.specs.declared.trigger.Trigger.{Trigger}
use Rattle.zone_index.specs.Entry.{PlainEntry}
use Rattle.zone_index.specs.Places.{AreLower, AreRanked, PlainPlaces, best_rule, has_rule, longest_rule, rule_at as entry_of}
use Rattle.zone_rows.specs.Stored.{plain_row}
use Rattle.zone_index.specs.Kinds.{has_kind}
use Rattle.zone_index.specs.Laws.{rule_at}
use Rattle.zone_index.specs.Placed.{IsIndexed, PlainIndexed, entry_shown, rules_in}
use Rattle.zone_index.proofs.Shown.{client_ip_found, entry_does, kind_found, nsdname_found, nsip_found, qname_found, response_ip_found, rule_found}
use Rattle.zone_index.proofs.Ties.{NameLaws}

-- the rows of a zone with their index
pub record Looking (origin : List (List ℕ)) (list : PlainRowList) (places : PlainPlaces) (value : PlainIndexed) : Type 0 where
  pub laws : NameLaws
  pub rise : NumbersRise 0 list.rows list.next
  pub is : IsIndexed origin list.rows places
  pub ranked : AreRanked places
  pub lower : AreLower places
  pub view : record { origin = origin; rows = map plain_row list.rows } ≡ value

module _ (origin : List (List ℕ)) (list : PlainRowList) (places : PlainPlaces) (value : PlainIndexed) (l : Looking origin list places value) where
  are : All IsRow (map plain_row list.rows)
  are = All-map IsRow plain_row list.rows (λ k d h. (l.is.stored k d h).is_row)

  pub has_looked : (kind : Kind) → has_rule places.rules kind ≡ has_kind (rules_in value) kind
  has_looked kind = kind_found l.laws origin list.rows list.next places l.rise l.is.index l.ranked l.lower are kind ∙ ap (λ (v : PlainIndexed). has_kind (rules_in v) kind) l.view

  pub rule_looked : (t : Trigger) (found : Option PlainEntry) → found ≡ entry_of places.rules t → entry_does list.rows found ≡ rule_at (rules_in value) t
  rule_looked t found e = rule_found l.laws origin list.rows list.next places l.rise l.is.index l.ranked l.lower are t found e ∙ ap (λ (v : PlainIndexed). rule_at (rules_in v) t) l.view

  pub client_ip_looked : (addr : Addr) (found : Option (PlainPrefix × PlainEntry)) → found ≡ longest_rule addr places.rules.client_ip → entry_shown list.rows found ≡ longest addr (rules_in value).client_ip
  client_ip_looked addr found e = client_ip_found l.laws origin list.rows list.next places l.rise l.is.index l.ranked l.lower are addr found e ∙ ap (λ (v : PlainIndexed). longest addr (rules_in v).client_ip) l.view

  pub qname_looked : (name : List (List ℕ)) (found : Option (PlainPattern × PlainEntry)) → found ≡ best_rule name places.rules.qname → entry_shown list.rows found ≡ best name (rules_in value).qname
  qname_looked name found e = qname_found l.laws origin list.rows list.next places l.rise l.is.index l.ranked l.lower are name found e ∙ ap (λ (v : PlainIndexed). best name (rules_in v).qname) l.view

  pub response_ip_looked : (addr : Addr) (found : Option (PlainPrefix × PlainEntry)) → found ≡ longest_rule addr places.rules.response_ip → entry_shown list.rows found ≡ longest addr (rules_in value).response_ip
  response_ip_looked addr found e = response_ip_found l.laws origin list.rows list.next places l.rise l.is.index l.ranked l.lower are addr found e ∙ ap (λ (v : PlainIndexed). longest addr (rules_in v).response_ip) l.view

  pub nsdname_looked : (name : List (List ℕ)) (found : Option (PlainPattern × PlainEntry)) → found ≡ best_rule name places.rules.nsdname → entry_shown list.rows found ≡ best name (rules_in value).nsdname
  nsdname_looked name found e = nsdname_found l.laws origin list.rows list.next places l.rise l.is.index l.ranked l.lower are name found e ∙ ap (λ (v : PlainIndexed). best name (rules_in v).nsdname) l.view

  pub nsip_looked : (addr : Addr) (found : Option (PlainPrefix × PlainEntry)) → found ≡ longest_rule addr places.rules.nsip → entry_shown list.rows found ≡ longest addr (rules_in value).nsip
  nsip_looked addr found e = nsip_found l.laws origin list.rows list.next places l.rise l.is.index l.ranked l.lower are addr found e ∙ ap (λ (v : PlainIndexed). longest addr (rules_in v).nsip) l.view
