-- The table that finds the place of a suffix.
use Rattle.std.proofs.Common.{◌≡◌, ℕ, zero, suc, ◌+◌, ◌-◌, ◌≤◌, ◌<◌, inl, inr, Bool, true, false, cond, Option, Some, None, List, [], ◌∷◌, ◌++◌, length, map, set, get_or, replicate, refl, sym, ap, subst, ◌∙◌, arith, length-append, get_or-set_same, get_or-set_other}
use Rattle.std.proofs.Math.Seq.{get_or-append_seam}
use Rattle.std.proofs.Math.ListN.{length-set}
use Rattle.std.proofs.lemmas.Bool.{cases_lt, cases_eq}
use Rattle.std.proofs.lemmas.List.{length-replicate, get_or-map, get_or_append_left, get_or-replicate, length-map, map-append}
use Rattle.std.proofs.lemmas.Slice.Eq.{bytes_eq-Decides}
use Rattle.std.specs.List.{AllByRecursion}
use Rattle.dns_name.specs.Labels.{name_octets}
use Rattle.dns_name.specs.Wire.{labels_in, IsWire}
use Rattle.packed_names.specs.declared.table.SuffixEntry.{SuffixEntry}
use Rattle.packed_names.specs.Hash.{hash_of, bucket}
use Rattle.packed_names.specs.Places.{Place, same_octets, first_offset}
use Rattle.packed_names.specs.Table.{suffix_place, suffix_places, hashes_of, nexts_of, IsSuffixEntry, Skips, IsTable}

-- a list with one more item at its end
before_last : {A : Type 0} (xs : List A) (x d : A) (k : ℕ) → k < length xs → get_or (xs ++ x ∷ []) k d ≡ get_or xs k d
before_last xs x d k lt = get_or_append_left xs (x ∷ []) d k lt

at_last : {A : Type 0} (xs : List A) (x d : A) (k : ℕ) → k ≡ length xs → get_or (xs ++ x ∷ []) k d ≡ x
at_last xs x d k e = ap (λ (n : ℕ). get_or (xs ++ x ∷ []) n d) e ∙ get_or-append_seam xs x [] d

-- the first place of a name stays the first if more places are added
first-append_if : (v : Bool) (t : ℕ) (p : ℕ) (a b : Option ℕ) → cond v (Some p) a ≡ Some t → (a ≡ Some t → b ≡ Some t) → cond v (Some p) b ≡ Some t
first-append_if true t p a b e go = e
first-append_if false t p a b e go = go e

pub first-append : (a b : List Place) (labels : List (List ℕ)) (t : ℕ) → first_offset a labels ≡ Some t → first_offset (a ++ b) labels ≡ Some t
unfolding first_offset
first-append [] b labels t e = absurd cc
first-append (p ∷ a) b labels t e = first-append_if (same_octets p.labels labels) t p.offset (first_offset a labels) (first_offset (a ++ b) labels) e (first-append a b labels t)

none-append_if : (v : Bool) (p : ℕ) (a b c : Option ℕ) → cond v (Some p) a ≡ None → (a ≡ None → b ≡ c) → cond v (Some p) b ≡ c
none-append_if true p a b c e go = absurd cc
none-append_if false p a b c e go = go e

pub none-append : (a b : List Place) (labels : List (List ℕ)) → first_offset a labels ≡ None → first_offset (a ++ b) labels ≡ first_offset b labels
unfolding first_offset
none-append [] b labels e = refl
none-append (p ∷ a) b labels e = none-append_if (same_octets p.labels labels) p.offset (first_offset a labels) (first_offset (a ++ b) labels) (first_offset b labels) e (none-append a b labels)

-- a place is found by its own name
pub first-self : (p : Place) → first_offset (p ∷ []) p.labels ≡ Some p.offset
unfolding first_offset
first-self p =
    let e : same_octets p.labels p.labels ≡ true = (bytes_eq-Decides (name_octets p.labels) (name_octets p.labels)).1 refl in
    rw e refl

-- it isn't found by another name
differs_if : (v : Bool) (p : ℕ) (a : Option ℕ) → (v ≡ true → ⊥) → a ≡ None → cond v (Some p) a ≡ None
differs_if true p a differs e = absurd (differs refl)
differs_if false p a differs e = e

-- what is true of all entries is true of each
pub suffix_at : (P : SuffixEntry → Type 0) (suffixes : List SuffixEntry) (d : SuffixEntry) (k : ℕ) → AllByRecursion P suffixes → k < length suffixes → P (get_or suffixes k d)
suffix_at P [] d k h lt = absurd (omega arith)
suffix_at P (n ∷ suffixes) d zero h lt = h.0
suffix_at P (n ∷ suffixes) d (suc k) h lt = suffix_at P suffixes d k h.1 (omega arith)

each_pushed : (key : ℕ) (a b : List Place) (suffixes : List SuffixEntry) (suffix : SuffixEntry) → AllByRecursion (IsSuffixEntry key a) suffixes → IsSuffixEntry key (a ++ b) suffix → AllByRecursion (IsSuffixEntry key (a ++ b)) (suffixes ++ suffix ∷ [])
each_pushed key a b [] suffix h new = (new, tt)
each_pushed key a b (n ∷ suffixes) suffix h new =
    (record { wire = h.0.wire; hash = h.0.hash; first = first-append a b (labels_in n.octets.now) n.offset h.0.first; near = h.0.near }, each_pushed key a b suffixes suffix h.1 new)

-- the fields of an entry, as items of the lists of these fields
pub hash_at : (suffixes : List SuffixEntry) (d : SuffixEntry) (k : ℕ) → k < length suffixes → get_or (hashes_of suffixes) k 0 ≡ (get_or suffixes k d).hash
hash_at suffixes d k lt = get_or-map (λ (n : SuffixEntry). n.hash) suffixes k d 0 lt

next_at : (suffixes : List SuffixEntry) (d : SuffixEntry) (k : ℕ) → k < length suffixes → get_or (nexts_of suffixes) k 0 ≡ (get_or suffixes k d).next
next_at suffixes d k lt = get_or-map (λ (n : SuffixEntry). n.next) suffixes k d 0 lt

-- from an entry to the next one of its bucket
pub skips_next : (key : ℕ) (heads : List ℕ) (suffixes : List SuffixEntry) (d : SuffixEntry) (at hash from : ℕ) → IsTable key heads suffixes → at < length suffixes → from ≡ (get_or suffixes at d).next → bucket (get_or suffixes at d).hash ≡ bucket hash → Skips (hashes_of suffixes) from at (bucket hash)
skips_next key heads suffixes d at hash from t lt is same =
    let s = t.links at lt in
    let n : get_or (nexts_of suffixes) at 0 ≡ from = next_at suffixes d at lt ∙ sym is in
    let b : bucket (get_or (hashes_of suffixes) at 0) ≡ bucket hash = ap bucket (hash_at suffixes d at lt) ∙ same in
    record {
      order = omega (arith, s.order);
      others = λ k ge less e. s.others k (omega arith) less (e ∙ sym b);
    }

abbrev pub octets_of : List SuffixEntry → List (List ℕ)
octets_of suffixes = map (λ n. n.octets.now) suffixes

pub octets_at : (suffixes : List SuffixEntry) (d : SuffixEntry) (k : ℕ) → k < length suffixes → get_or (octets_of suffixes) k [] ≡ (get_or suffixes k d).octets.now
octets_at suffixes d k lt = get_or-map (λ (n : SuffixEntry). n.octets.now) suffixes k d [] lt

-- no entry from the index `left` on has the name
abbrev pub NoneFrom : List SuffixEntry → ℕ → List ℕ → Type 0
NoneFrom suffixes left octets = (k : ℕ) → left ≤ k → k < length suffixes → get_or (octets_of suffixes) k [] ≡ octets → ⊥

hash_is : (key : ℕ) (places : List Place) (suffixes : List SuffixEntry) (k : ℕ) → AllByRecursion (IsSuffixEntry key places) suffixes → k < length suffixes → get_or (hashes_of suffixes) k 0 ≡ hash_of key (get_or (octets_of suffixes) k [])
hash_is key places [] k h lt = absurd (omega arith)
hash_is key places (n ∷ suffixes) zero h lt = h.0.hash
hash_is key places (n ∷ suffixes) (suc k) h lt = hash_is key places suffixes k h.1 (omega arith)

none_skipped : (key : ℕ) (heads : List ℕ) (suffixes : List SuffixEntry) (octets : List ℕ) (hash from to : ℕ) → IsTable key heads suffixes → hash ≡ hash_of key octets → Skips (hashes_of suffixes) from to (bucket hash) → NoneFrom suffixes to octets → NoneFrom suffixes from octets
none_skipped key heads suffixes octets hash from to t is s h k ge lt e =
    elim (cases_lt k to) [
      | inl less ↦ s.others k ge less (ap bucket (hash_is key (suffix_places suffixes) suffixes k t.each lt ∙ ap (hash_of key) e ∙ sym is))
      | inr more ↦ h k more lt e
    ]

none_here : (suffixes : List SuffixEntry) (octets : List ℕ) (left here : ℕ) → here + 1 ≡ left → (get_or (octets_of suffixes) here [] ≡ octets → ⊥) → NoneFrom suffixes left octets → NoneFrom suffixes here octets
none_here suffixes octets left here is differs h k ge lt e =
    elim (cases_lt here k) [
      | inl less ↦ h k (omega arith) lt e
      | inr more ↦ differs (ap (λ (n : ℕ). get_or (octets_of suffixes) n []) (omega arith) ∙ e)
    ]

-- one turn of the loop: past an entry of another name, and past those that the chain leaves out
pub none_on : (key : ℕ) (heads : List ℕ) (suffixes : List SuffixEntry) (d : SuffixEntry) (octets : List ℕ) (hash left from : ℕ) → IsTable key heads suffixes → hash ≡ hash_of key octets → 0 < left → left ≤ length suffixes
    → ((get_or suffixes (left - 1) d).octets.now ≡ octets → ⊥) → Skips (hashes_of suffixes) from (left - 1) (bucket hash) → NoneFrom suffixes left octets → NoneFrom suffixes from octets
none_on key heads suffixes d octets hash left from t is pos inside differs s h =
    none_skipped key heads suffixes octets hash from (left - 1) t is s
    (none_here suffixes octets left (left - 1) (omega arith) (λ e. differs (sym (octets_at suffixes d (left - 1) (omega arith)) ∙ e)) h)

-- an entry with another hash is of another name
pub other_hash : (key : ℕ) (heads : List ℕ) (suffixes : List SuffixEntry) (d : SuffixEntry) (octets : List ℕ) (hash k : ℕ) → IsTable key heads suffixes → k < length suffixes → hash ≡ hash_of key octets → ((get_or suffixes k d).hash ≡ hash → ⊥) → (get_or suffixes k d).octets.now ≡ octets → ⊥
other_hash key heads suffixes d octets hash k t lt is differs e = differs ((suffix_at (IsSuffixEntry key (suffix_places suffixes)) suffixes d k t.each lt).hash ∙ ap (hash_of key) e ∙ sym is)

none_of : (key : ℕ) (places : List Place) (suffixes : List SuffixEntry) (octets : List ℕ) → IsWire octets → AllByRecursion (IsSuffixEntry key places) suffixes → NoneFrom suffixes 0 octets → first_offset (suffix_places suffixes) (labels_in octets) ≡ None
unfolding first_offset
none_of key places [] octets w each h = refl
none_of key places (n ∷ suffixes) octets w each h =
    differs_if (same_octets (labels_in n.octets.now) (labels_in octets)) n.offset (first_offset (suffix_places suffixes) (labels_in octets))
    (λ same. h 0 (omega arith) (omega arith) (each.0.wire.whole ∙ (bytes_eq-Decides (name_octets (labels_in n.octets.now)) (name_octets (labels_in octets))).0 same ∙ sym w.whole))
    (none_of key places suffixes octets w each.1 (λ k ge lt e. h (suc k) (omega arith) (omega arith) e))

-- if no entry has the name, the name has no place
pub none_found : (key : ℕ) (heads : List ℕ) (suffixes : List SuffixEntry) (octets : List ℕ) (left : ℕ) → IsTable key heads suffixes → IsWire octets → left ≤ 0 → NoneFrom suffixes left octets → first_offset (suffix_places suffixes) (labels_in octets) ≡ None
none_found key heads suffixes octets left t w z h = none_of key (suffix_places suffixes) suffixes octets w t.each (λ k ge lt e. h k (omega arith) lt e)

pub none_at_first : (key : ℕ) (heads : List ℕ) (suffixes : List SuffixEntry) (octets : List ℕ) (hash head : ℕ) → IsTable key heads suffixes → hash ≡ hash_of key octets → Skips (hashes_of suffixes) head (length suffixes) (bucket hash) → NoneFrom suffixes head octets
none_at_first key heads suffixes octets hash head t is s = none_skipped key heads suffixes octets hash head (length suffixes) t is s (λ k ge lt e. omega arith)

-- the first place of an entry's name is the entry's
pub place_at : (key : ℕ) (heads : List ℕ) (suffixes : List SuffixEntry) (d : SuffixEntry) (octets : List ℕ) (k : ℕ) → IsTable key heads suffixes → k < length suffixes → (get_or suffixes k d).octets.now ≡ octets → first_offset (suffix_places suffixes) (labels_in octets) ≡ Some (get_or suffixes k d).offset
place_at key heads suffixes d octets k t lt e = ap (λ (o : List ℕ). first_offset (suffix_places suffixes) (labels_in o)) (sym e) ∙ (suffix_at (IsSuffixEntry key (suffix_places suffixes)) suffixes d k t.each lt).first

pub near_at : (key : ℕ) (heads : List ℕ) (suffixes : List SuffixEntry) (d : SuffixEntry) (k : ℕ) → IsTable key heads suffixes → k < length suffixes → (get_or suffixes k d).offset < 16384
near_at key heads suffixes d k t lt = (suffix_at (IsSuffixEntry key (suffix_places suffixes)) suffixes d k t.each lt).near

-- one more entry behind the others
skips_more : (hashes : List ℕ) (h from to b : ℕ) → to ≤ length hashes → Skips hashes from to b → Skips (hashes ++ h ∷ []) from to b
skips_more hashes h from to b le s = record {
  order = s.order;
  others = λ k ge lt e. s.others k ge lt (ap bucket (sym (before_last hashes h 0 k (omega arith))) ∙ e);
}

links_pushed : (hashes nexts : List ℕ) (h n : ℕ) → length nexts ≡ length hashes → ((k : ℕ) → k < length hashes → Skips hashes (get_or nexts k 0) k (bucket (get_or hashes k 0))) → Skips hashes n (length hashes) (bucket h)
    → (k : ℕ) → k < length hashes + 1 → Skips (hashes ++ h ∷ []) (get_or (nexts ++ n ∷ []) k 0) k (bucket (get_or (hashes ++ h ∷ []) k 0))
links_pushed hashes nexts h n len links new k lt =
    elim (cases_lt k (length hashes)) [
      | inl less ↦
          let e1 : get_or (nexts ++ n ∷ []) k 0 ≡ get_or nexts k 0 = before_last nexts n 0 k (omega arith) in
          let e2 : get_or (hashes ++ h ∷ []) k 0 ≡ get_or hashes k 0 = before_last hashes h 0 k less in
          rw (e1, e2) (skips_more hashes h (get_or nexts k 0) k (bucket (get_or hashes k 0)) (omega arith) (links k less))
      | inr more ↦
          let k_is : k ≡ length hashes = omega arith in
          let e1 : get_or (nexts ++ n ∷ []) k 0 ≡ n = at_last nexts n 0 k (omega arith) in
          let e2 : get_or (hashes ++ h ∷ []) k 0 ≡ h = at_last hashes h 0 k k_is in
          rw (e1, e2) (skips_more hashes h n k (bucket h) (omega arith) (subst (λ (j : ℕ). Skips hashes n j (bucket h)) (sym k_is) new))
    ]

-- the heads after an entry was put behind the others: that of its bucket leads to it
pub record Follows (heads new : List ℕ) (b count : ℕ) : Type 0 where
  pub len : length new ≡ length heads
  pub here : b < length heads → get_or new b 0 ≡ count
  pub others : (k : ℕ) → (k ≡ b → ⊥) → get_or new k 0 ≡ get_or heads k 0

starts_pushed : (hashes heads new : List ℕ) (h : ℕ) → Follows heads new (bucket h) (length hashes + 1) → ((b : ℕ) → b < length heads → Skips hashes (get_or heads b 0) (length hashes) b)
    → (b : ℕ) → b < length new → Skips (hashes ++ h ∷ []) (get_or new b 0) (length hashes + 1) b
starts_pushed hashes heads new h f starts b lt =
    elim (cases_eq b (bucket h)) [
      | inl same ↦
          let e : get_or new b 0 ≡ length hashes + 1 = ap (λ (j : ℕ). get_or new j 0) same ∙ f.here (omega (arith, f.len, same)) in
          rw e (record { order = omega arith; others = λ k ge less is. omega arith })
      | inr other ↦
          let e : get_or new b 0 ≡ get_or heads b 0 = f.others b other in
          let s = starts b (omega (arith, f.len)) in
          rw e (record {
            order = omega (arith, s.order);
            others = λ k ge less is. elim (cases_lt k (length hashes)) [
              | inl before ↦ s.others k ge before (ap bucket (sym (before_last hashes h 0 k before)) ∙ is)
              | inr after ↦ other (sym is ∙ ap bucket (at_last hashes h 0 k (omega arith)))
            ];
          })
    ]

pub table_pushed : (key : ℕ) (heads new : List ℕ) (suffixes all : List SuffixEntry) (suffix : SuffixEntry) (hash : ℕ) (octets : List ℕ) → IsTable key heads suffixes → all ≡ suffixes ++ suffix ∷ [] → IsWire octets → hash ≡ hash_of key octets → first_offset (suffix_places suffixes) (labels_in octets) ≡ None
    → suffix.octets.now ≡ octets → suffix.hash ≡ hash → suffix.offset < 16384 → Skips (hashes_of suffixes) suffix.next (length suffixes) (bucket hash) → Follows heads new (bucket hash) (length suffixes + 1) → IsTable key new all
table_pushed key heads new suffixes all suffix hash octets t all_is wire hash_is none octets_is node_hash near s f =
    let places : suffix_places (suffixes ++ suffix ∷ []) ≡ suffix_places suffixes ++ suffix_place suffix ∷ [] = map-append suffix_place suffixes (suffix ∷ []) in
    let hashes : hashes_of (suffixes ++ suffix ∷ []) ≡ hashes_of suffixes ++ suffix.hash ∷ [] = map-append (λ (n : SuffixEntry). n.hash) suffixes (suffix ∷ []) in
    let nexts : nexts_of (suffixes ++ suffix ∷ []) ≡ nexts_of suffixes ++ suffix.next ∷ [] = map-append (λ (n : SuffixEntry). n.next) suffixes (suffix ∷ []) in
    let count : length (hashes_of suffixes) ≡ length suffixes = length-map suffixes (λ (n : SuffixEntry). n.hash) in
    let count' : length (nexts_of suffixes) ≡ length suffixes = length-map suffixes (λ (n : SuffixEntry). n.next) in
    let total : length (suffixes ++ suffix ∷ []) ≡ length (hashes_of suffixes) + 1 = omega (arith, length-append suffixes (suffix ∷ [])) in
    let fresh : first_offset (suffix_places suffixes) (labels_in suffix.octets.now) ≡ None = ap (λ (o : List ℕ). first_offset (suffix_places suffixes) (labels_in o)) octets_is ∙ none in
    let is_node : IsSuffixEntry key (suffix_places suffixes ++ suffix_place suffix ∷ []) suffix = record {
      wire = subst IsWire (sym octets_is) wire;
      hash = node_hash ∙ hash_is ∙ ap (hash_of key) (sym octets_is);
      first = none-append (suffix_places suffixes) (suffix_place suffix ∷ []) (labels_in suffix.octets.now) fresh ∙ first-self (suffix_place suffix);
      near = near;
    } in
    let behind : Skips (hashes_of suffixes) suffix.next (length (hashes_of suffixes)) (bucket suffix.hash) = subst (λ (b : ℕ). Skips (hashes_of suffixes) suffix.next (length (hashes_of suffixes)) (bucket b)) (sym node_hash) (subst (λ (n : ℕ). Skips (hashes_of suffixes) suffix.next n (bucket hash)) (sym count) s) in
    let follows : Follows heads new (bucket suffix.hash) (length (hashes_of suffixes) + 1) = subst (λ (b : ℕ). Follows heads new (bucket b) (length (hashes_of suffixes) + 1)) (sym node_hash) (subst (λ (n : ℕ). Follows heads new (bucket hash) (n + 1)) (sym count) f) in
    let old_starts : (b : ℕ) → b < length heads → Skips (hashes_of suffixes) (get_or heads b 0) (length (hashes_of suffixes)) b = λ b lt. subst (λ (n : ℕ). Skips (hashes_of suffixes) (get_or heads b 0) n b) (sym count) (t.starts b lt) in
    let new_each : AllByRecursion (IsSuffixEntry key (suffix_places (suffixes ++ suffix ∷ []))) (suffixes ++ suffix ∷ []) = subst (λ (ps : List Place). AllByRecursion (IsSuffixEntry key ps) (suffixes ++ suffix ∷ [])) (sym places) (each_pushed key (suffix_places suffixes) (suffix_place suffix ∷ []) suffixes suffix t.each is_node) in
    let new_links : (k : ℕ) → k < length (suffixes ++ suffix ∷ []) → Skips (hashes_of (suffixes ++ suffix ∷ [])) (get_or (nexts_of (suffixes ++ suffix ∷ [])) k 0) k (bucket (get_or (hashes_of (suffixes ++ suffix ∷ [])) k 0)) = λ k lt.
    rw (hashes, nexts) (links_pushed (hashes_of suffixes) (nexts_of suffixes) suffix.hash suffix.next (omega arith) (λ j less. t.links j (omega arith)) behind k (omega arith)) in
    let new_starts : (b : ℕ) → b < length new → Skips (hashes_of (suffixes ++ suffix ∷ [])) (get_or new b 0) (length (suffixes ++ suffix ∷ [])) b = λ b lt.
    rw (hashes, total) (starts_pushed (hashes_of suffixes) heads new suffix.hash follows old_starts b lt) in
    subst (λ (ns : List SuffixEntry). IsTable key new ns) (sym all_is) (record { each = new_each; links = new_links; starts = new_starts })

pub follows_set : (heads : List ℕ) (b count : ℕ) → b < length heads → Follows heads (set heads b count) b count
follows_set heads b count lt = record {
  len = omega (arith, length-set heads b count);
  here = λ less. get_or-set_same heads b count 0 lt;
  others = λ k differs. get_or-set_other heads b k count 0 differs;
}

pub follows_none : (heads : List ℕ) (b count : ℕ) → length heads ≤ b → Follows heads heads b count
follows_none heads b count le = record { len = refl; here = λ lt. absurd (omega arith); others = λ k differs. refl }

-- heads of empty buckets, behind all entries
pub table_headed : (key : ℕ) (heads new : List ℕ) (suffixes : List SuffixEntry) (count many : ℕ) → IsTable key heads suffixes → count ≡ length suffixes → new ≡ replicate many count → IsTable key new suffixes
table_headed key heads new suffixes count many t is new_is = record {
  each = t.each;
  links = t.links;
  starts = λ b lt.
      let len : length new ≡ many = ap length new_is ∙ length-replicate many count in
      let e : get_or new b 0 ≡ length suffixes = ap (λ (l : List ℕ). get_or l b 0) new_is ∙ get_or-replicate many b count 0 (omega arith) ∙ is in
      rw e (record { order = omega arith; others = λ k ge less same. omega arith });
}
