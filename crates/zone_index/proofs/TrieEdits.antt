-- What stands at all places after an edit of the values.
use Rattle.std.proofs.Common.{◌≡◌, ℕ, List, sym, ap, subst, IfSome}
use Rattle.std.specs.BTreeMap.{is_at}
use Rattle.std.specs.List.{AllByRecursion}
use Rattle.std.specs.List.Sorted.{IsStrictlySortedBy}
use Rattle.std.specs.Map.{keys_of}
use Rattle.std.specs.Option.{option_map}
use Rattle.ip_prefix.specs.Prefix.{prefix_order}
use Rattle.qname_index.specs.Best.{pattern_order}
use Rattle.trie_keys.specs.declared.marked.Marked.{Marked}
use Rattle.trigger_codec.specs.Bases.{IsPattern}
use Rattle.trigger_codec.specs.declared.trigger.Trigger.TheVariants.{ClientIp, Qname, ResponseIp, NsDname, NsIp}
use Rattle.zone_index.proofs.Mapped.{insert_moved, keys_moved, lookup_moved, remove_moved, value_found, values_inserted, values_removed}
use Rattle.zone_index.specs.Entry.{PlainEntry}
use Rattle.zone_index.specs.Groups.{AreAllWell, IsWell, entries_in, entry_in, places_in}
use Rattle.zone_index.specs.Places.{AreLower, AreRanked, PlacesOf, entry_at, with_entry, without_entry}
use Rattle.zone_index.specs.declared.group.Group.{Group}
use Rattle.zone_index.specs.declared.kept.Kept.{Kept}
use Rattle.zone_index.specs.declared.place.Place.{Place}
use Rattle.zone_index.specs.declared.place.Place.TheVariants.{Rule, Other}

module _ (groups : List Group) (places : PlacesOf (Marked ℕ Kept)) where
  abbrev f : Marked ℕ Kept → PlainEntry
  f value = entry_in groups value

  pub at_place : (place : Place) → entry_at (places_in groups places) place ≡ option_map (entry_in groups) (entry_at places place)
  at_place (Rule (ClientIp p)) = lookup_moved f (is_at (prefix_order p)) places.rules.client_ip
  at_place (Rule (Qname p)) = lookup_moved f (is_at (pattern_order p)) places.rules.qname
  at_place (Rule (ResponseIp p)) = lookup_moved f (is_at (prefix_order p)) places.rules.response_ip
  at_place (Rule (NsDname p)) = lookup_moved f (is_at (pattern_order p)) places.rules.nsdname
  at_place (Rule (NsIp p)) = lookup_moved f (is_at (prefix_order p)) places.rules.nsip
  at_place (Other p) = lookup_moved f (is_at (pattern_order p)) places.other

  module _ (well : AreAllWell groups places) where
    pub well_at : (place : Place) → IfSome (entry_at places place) (IsWell groups)
    well_at (Rule (ClientIp p)) = value_found (IsWell groups) (is_at (prefix_order p)) places.rules.client_ip well.client_ip
    well_at (Rule (Qname p)) = value_found (IsWell groups) (is_at (pattern_order p)) places.rules.qname well.qname
    well_at (Rule (ResponseIp p)) = value_found (IsWell groups) (is_at (prefix_order p)) places.rules.response_ip well.response_ip
    well_at (Rule (NsDname p)) = value_found (IsWell groups) (is_at (pattern_order p)) places.rules.nsdname well.nsdname
    well_at (Rule (NsIp p)) = value_found (IsWell groups) (is_at (prefix_order p)) places.rules.nsip well.nsip
    well_at (Other p) = value_found (IsWell groups) (is_at (pattern_order p)) places.other well.other

  module _ (v : Marked ℕ Kept) where
    pub places_with : (place : Place) → places_in groups (with_entry places place v) ≡ with_entry (places_in groups places) place (entry_in groups v)
    places_with (Rule (ClientIp p)) = ap (λ es. let q : PlacesOf PlainEntry = places_in groups places in record q { rules = record q.rules { client_ip = es } }) (insert_moved f prefix_order p v places.rules.client_ip)
    places_with (Rule (Qname p)) = ap (λ es. let q : PlacesOf PlainEntry = places_in groups places in record q { rules = record q.rules { qname = es } }) (insert_moved f pattern_order p v places.rules.qname)
    places_with (Rule (ResponseIp p)) = ap (λ es. let q : PlacesOf PlainEntry = places_in groups places in record q { rules = record q.rules { response_ip = es } }) (insert_moved f prefix_order p v places.rules.response_ip)
    places_with (Rule (NsDname p)) = ap (λ es. let q : PlacesOf PlainEntry = places_in groups places in record q { rules = record q.rules { nsdname = es } }) (insert_moved f pattern_order p v places.rules.nsdname)
    places_with (Rule (NsIp p)) = ap (λ es. let q : PlacesOf PlainEntry = places_in groups places in record q { rules = record q.rules { nsip = es } }) (insert_moved f prefix_order p v places.rules.nsip)
    places_with (Other p) = ap (λ es. let q : PlacesOf PlainEntry = places_in groups places in record q { other = es }) (insert_moved f pattern_order p v places.other)

    pub well_with : (place : Place) → AreAllWell groups places → IsWell groups v → AreAllWell groups (with_entry places place v)
    well_with (Rule (ClientIp p)) well h = record {
      client_ip = values_inserted (IsWell groups) prefix_order p v places.rules.client_ip h well.client_ip;
      qname = well.qname;
      response_ip = well.response_ip;
      nsdname = well.nsdname;
      nsip = well.nsip;
      other = well.other;
    }
    well_with (Rule (Qname p)) well h = record {
      qname = values_inserted (IsWell groups) pattern_order p v places.rules.qname h well.qname;
      client_ip = well.client_ip;
      response_ip = well.response_ip;
      nsdname = well.nsdname;
      nsip = well.nsip;
      other = well.other;
    }
    well_with (Rule (ResponseIp p)) well h = record {
      response_ip = values_inserted (IsWell groups) prefix_order p v places.rules.response_ip h well.response_ip;
      client_ip = well.client_ip;
      qname = well.qname;
      nsdname = well.nsdname;
      nsip = well.nsip;
      other = well.other;
    }
    well_with (Rule (NsDname p)) well h = record {
      nsdname = values_inserted (IsWell groups) pattern_order p v places.rules.nsdname h well.nsdname;
      client_ip = well.client_ip;
      qname = well.qname;
      response_ip = well.response_ip;
      nsip = well.nsip;
      other = well.other;
    }
    well_with (Rule (NsIp p)) well h = record {
      nsip = values_inserted (IsWell groups) prefix_order p v places.rules.nsip h well.nsip;
      client_ip = well.client_ip;
      qname = well.qname;
      response_ip = well.response_ip;
      nsdname = well.nsdname;
      other = well.other;
    }
    well_with (Other p) well h = record {
      other = values_inserted (IsWell groups) pattern_order p v places.other h well.other;
      client_ip = well.client_ip;
      qname = well.qname;
      response_ip = well.response_ip;
      nsdname = well.nsdname;
      nsip = well.nsip;
    }

  pub places_without : (place : Place) → places_in groups (without_entry places place) ≡ without_entry (places_in groups places) place
  places_without (Rule (ClientIp p)) = ap (λ es. let q : PlacesOf PlainEntry = places_in groups places in record q { rules = record q.rules { client_ip = es } }) (remove_moved f (is_at (prefix_order p)) places.rules.client_ip)
  places_without (Rule (Qname p)) = ap (λ es. let q : PlacesOf PlainEntry = places_in groups places in record q { rules = record q.rules { qname = es } }) (remove_moved f (is_at (pattern_order p)) places.rules.qname)
  places_without (Rule (ResponseIp p)) = ap (λ es. let q : PlacesOf PlainEntry = places_in groups places in record q { rules = record q.rules { response_ip = es } }) (remove_moved f (is_at (prefix_order p)) places.rules.response_ip)
  places_without (Rule (NsDname p)) = ap (λ es. let q : PlacesOf PlainEntry = places_in groups places in record q { rules = record q.rules { nsdname = es } }) (remove_moved f (is_at (pattern_order p)) places.rules.nsdname)
  places_without (Rule (NsIp p)) = ap (λ es. let q : PlacesOf PlainEntry = places_in groups places in record q { rules = record q.rules { nsip = es } }) (remove_moved f (is_at (prefix_order p)) places.rules.nsip)
  places_without (Other p) = ap (λ es. let q : PlacesOf PlainEntry = places_in groups places in record q { other = es }) (remove_moved f (is_at (pattern_order p)) places.other)

  pub well_without : (place : Place) → AreAllWell groups places → AreAllWell groups (without_entry places place)
  well_without (Rule (ClientIp p)) well = record {
    client_ip = values_removed (IsWell groups) (is_at (prefix_order p)) places.rules.client_ip well.client_ip;
    qname = well.qname;
    response_ip = well.response_ip;
    nsdname = well.nsdname;
    nsip = well.nsip;
    other = well.other;
  }
  well_without (Rule (Qname p)) well = record {
    qname = values_removed (IsWell groups) (is_at (pattern_order p)) places.rules.qname well.qname;
    client_ip = well.client_ip;
    response_ip = well.response_ip;
    nsdname = well.nsdname;
    nsip = well.nsip;
    other = well.other;
  }
  well_without (Rule (ResponseIp p)) well = record {
    response_ip = values_removed (IsWell groups) (is_at (prefix_order p)) places.rules.response_ip well.response_ip;
    client_ip = well.client_ip;
    qname = well.qname;
    nsdname = well.nsdname;
    nsip = well.nsip;
    other = well.other;
  }
  well_without (Rule (NsDname p)) well = record {
    nsdname = values_removed (IsWell groups) (is_at (pattern_order p)) places.rules.nsdname well.nsdname;
    client_ip = well.client_ip;
    qname = well.qname;
    response_ip = well.response_ip;
    nsip = well.nsip;
    other = well.other;
  }
  well_without (Rule (NsIp p)) well = record {
    nsip = values_removed (IsWell groups) (is_at (prefix_order p)) places.rules.nsip well.nsip;
    client_ip = well.client_ip;
    qname = well.qname;
    response_ip = well.response_ip;
    nsdname = well.nsdname;
    other = well.other;
  }
  well_without (Other p) well = record {
    other = values_removed (IsWell groups) (is_at (pattern_order p)) places.other well.other;
    client_ip = well.client_ip;
    qname = well.qname;
    response_ip = well.response_ip;
    nsdname = well.nsdname;
    nsip = well.nsip;
  }

  keys : {K : Type 0} (es : List (K × Marked ℕ Kept)) → keys_of es ≡ keys_of (entries_in groups es)
  keys es = sym (keys_moved f es)

  pub ranked : AreRanked places → AreRanked (places_in groups places)
  ranked are = record {
    client_ip = subst (λ ks. IsStrictlySortedBy prefix_order ks) (keys places.rules.client_ip) are.client_ip;
    qname = subst (λ ks. IsStrictlySortedBy pattern_order ks) (keys places.rules.qname) are.qname;
    response_ip = subst (λ ks. IsStrictlySortedBy prefix_order ks) (keys places.rules.response_ip) are.response_ip;
    nsdname = subst (λ ks. IsStrictlySortedBy pattern_order ks) (keys places.rules.nsdname) are.nsdname;
    nsip = subst (λ ks. IsStrictlySortedBy prefix_order ks) (keys places.rules.nsip) are.nsip;
    other = subst (λ ks. IsStrictlySortedBy pattern_order ks) (keys places.other) are.other;
  }

  pub lower : AreLower places → AreLower (places_in groups places)
  lower are = record {
    qname = subst (λ ks. AllByRecursion IsPattern ks) (keys places.rules.qname) are.qname;
    nsdname = subst (λ ks. AllByRecursion IsPattern ks) (keys places.rules.nsdname) are.nsdname;
    other = subst (λ ks. AllByRecursion IsPattern ks) (keys places.other) are.other;
  }
