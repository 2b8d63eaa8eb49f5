-- What values stand for where groups come behind those that there are.
use Rattle.std.proofs.Common.{◌≡◌, ℕ, ◌<◌, zero, suc, List, [], ◌∷◌, ◌++◌, length, refl, sym, ap, ◌∙◌, arith, length-append}
use Rattle.std.specs.List.{slice_get}
use Rattle.trie_keys.specs.declared.marked.Marked.{Marked}
use Rattle.zone_index.specs.Does.{acts}
use Rattle.zone_index.specs.Groups.{AreAllWell, AreWell, IsThere, IsThereAt, IsWell, entries_in, entry_in, group_entry, marked_entry, places_in}
use Rattle.zone_index.specs.Places.{PlacesOf}
use Rattle.zone_index.specs.declared.group.Group.{Group as Rows}
use Rattle.zone_index.specs.declared.kept.Kept.{Kept}
use Rattle.zone_index.specs.declared.kept.Kept.TheVariants.{Absent, Nothing, NxDomain, NoData, PassThru, Drop, TcpOnly, Row, Group, IdleGroup}

got_first : {X : Type 0} (xs ys : List X) (n : ℕ) → n < length xs → slice_get (xs ++ ys) n ≡ slice_get xs n
got_first [] ys n h = absurd (omega arith)
got_first (x ∷ xs) ys zero h = refl
got_first (x ∷ xs) ys (suc n) h = got_first xs ys n (omega arith)

module _ (groups more : List Rows) where
  marked_stays : (n : ℕ) (mark : Kept) → IsThereAt groups n mark → marked_entry (groups ++ more) n mark ≡ marked_entry groups n mark
  marked_stays n Absent h = refl
  marked_stays n Nothing h = refl
  marked_stays n NxDomain h = refl
  marked_stays n NoData h = refl
  marked_stays n PassThru h = refl
  marked_stays n Drop h = refl
  marked_stays n TcpOnly h = refl
  marked_stays n Row h = refl
  marked_stays n Group h = ap group_entry (got_first groups more n h)
  marked_stays n IdleGroup h = ap group_entry (got_first groups more n h)

  longer : (n : ℕ) → n < length groups → n < length (groups ++ more)
  longer n h = simp length-append (omega arith)

  there_stays : (n : ℕ) (mark : Kept) → IsThereAt groups n mark → IsThereAt (groups ++ more) n mark
  there_stays n Absent h = tt
  there_stays n Nothing h = tt
  there_stays n NxDomain h = tt
  there_stays n NoData h = tt
  there_stays n PassThru h = tt
  there_stays n Drop h = tt
  there_stays n TcpOnly h = tt
  there_stays n Row h = tt
  there_stays n Group h = longer n h
  there_stays n IdleGroup h = longer n h

  pub entry_stays : (value : Marked ℕ Kept) → IsThere groups value → entry_in (groups ++ more) value ≡ entry_in groups value
  entry_stays value h = marked_stays value.value value.mark h

  pub well_stays : (value : Marked ℕ Kept) → IsWell groups value → IsWell (groups ++ more) value
  well_stays value well = record {
    there = there_stays value.value value.mark well.there;
    acts_so = well.acts_so ∙ sym (ap (λ e. acts e.does) (entry_stays value well.there));
  }

  module _ {K : Type 0} where
    pub entries_stay : (es : List (K × Marked ℕ Kept)) → AreWell groups es → entries_in (groups ++ more) es ≡ entries_in groups es
    entries_stay [] all = refl
    entries_stay (e ∷ es) all = λ i. (e.0, entry_stays e.1 all.0.there i) ∷ entries_stay es all.1 i

    pub all_stay : (es : List (K × Marked ℕ Kept)) → AreWell groups es → AreWell (groups ++ more) es
    all_stay [] all = tt
    all_stay (e ∷ es) all = (well_stays e.1 all.0, all_stay es all.1)

  pub places_stay : (places : PlacesOf (Marked ℕ Kept)) → AreAllWell groups places → places_in (groups ++ more) places ≡ places_in groups places
  places_stay places well = λ i. record {
    rules = record {
      client_ip = entries_stay places.rules.client_ip well.client_ip i;
      qname = entries_stay places.rules.qname well.qname i;
      response_ip = entries_stay places.rules.response_ip well.response_ip i;
      nsdname = entries_stay places.rules.nsdname well.nsdname i;
      nsip = entries_stay places.rules.nsip well.nsip i;
    };
    other = entries_stay places.other well.other i;
  }

  pub all_well_stay : (places : PlacesOf (Marked ℕ Kept)) → AreAllWell groups places → AreAllWell (groups ++ more) places
  all_well_stay places well = record {
    client_ip = all_stay places.rules.client_ip well.client_ip;
    qname = all_stay places.rules.qname well.qname;
    response_ip = all_stay places.rules.response_ip well.response_ip;
    nsdname = all_stay places.rules.nsdname well.nsdname;
    nsip = all_stay places.rules.nsip well.nsip;
    other = all_stay places.other well.other;
  }
