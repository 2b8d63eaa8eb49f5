-- Keys read label by label, and names written from them.
use Rattle.std.proofs.Common.{◌≡◌, ℕ, ◌+◌, ◌≤◌, List, [], ◌∷◌, ◌++◌, length, reverse, take, drop, refl, sym, ap, ◌∙◌, arith, append-nil, append_assoc, length-append, subst, Bool, Result, Ok, Err, IfOk}
use Rattle.std.proofs.Math.Seq.{take-append_seam, drop-append_seam}
use Rattle.std.proofs.lemmas.Grind.{flat_map-append}
use Rattle.std.proofs.lemmas.List.{reverse-append, reverse-reverse, take_all}
use Rattle.std.specs.List.{flat_map}
use Rattle.dns_name.specs.Alike.{PlainPattern}
use Rattle.dns_name.specs.Labels.{IsName, Label, Name, label_octets, lowered, name_octets}
use Rattle.dns_name.specs.Reading.{Fails, name_at}
use Rattle.dns_name.specs.Standing.{Stands}
use Rattle.dns_name.specs.declared.fault.NameError.{NameError}
use Rattle.dns_name.specs.declared.fault.NameError.TheVariants.{Fault}
use Rattle.dns_name.specs.declared.fault.NameFault.{NameFault}
use Rattle.octet_trie.specs.ListKeys.{entry_key}
use Rattle.qname_index.specs.Key.{name_key}
use Rattle.qname_index.specs.Patterns.{name_in, octets_in, pattern_in}
use Rattle.qname_index.specs.Ranked.{IsPatternKey}
use Rattle.qname_index.proofs.Back.{octets_back, wild_back}

-- the octets are those of labels, each behind its length, and these are so many less than the others
pub record AreRead (rest : List ℕ) (count : ℕ) (base : Name) : Type 0 where
  pub labels : List Label
  pub left : rest ≡ flat_map label_octets labels
  pub count_is : count + length labels ≡ length base

-- what stands in front of the octets
abbrev in_front : List Label → List ℕ
in_front labels = flat_map label_octets (reverse labels)

-- the octets are those of labels, and with these in front in the order of the name the others are the name
pub record AreTurned (rest : List ℕ) (written : List ℕ) (base : Name) : Type 0 where
  pub labels : List Label
  pub left : rest ≡ flat_map label_octets labels
  pub whole : name_octets base ≡ in_front labels ++ written

pub turned_at_first : (base : Name) (rest written : List ℕ) → rest ≡ name_key base → written ≡ 0 ∷ [] → AreTurned rest written base
turned_at_first base rest written key zero = record {
  labels = reverse base;
  left = key;
  whole = λ i. flat_map label_octets (sym (reverse-reverse base) i) ++ sym zero i;
}

-- of what is left, the first octet is the length of the first label
pub record IsFirst (len : ℕ) (others label behind : List ℕ) (m : Label) (labels : List Label) : Type 0 where
  pub label_is : label ≡ m
  pub behind_is : behind ≡ flat_map label_octets labels

no_first : (x : ℕ) (xs : List ℕ) → x ∷ xs ≡ [] → ⊥
no_first x xs e = cc e

split_same : (x y : ℕ) (xs ys : List ℕ) → x ∷ xs ≡ y ∷ ys → (x ≡ y) × (xs ≡ ys)
split_same x y xs ys e = (cc e, cc e)

parts : (len : ℕ) (others label behind : List ℕ) (m : Label) (labels : List Label) → len ∷ others ≡ flat_map label_octets (m ∷ labels) → label ≡ take len others → behind ≡ drop len others → IsFirst len others label behind m labels
parts len others label behind m labels e first second =
    let both : (len ≡ length m) × (others ≡ m ++ flat_map label_octets labels) = split_same len (length m) others (m ++ flat_map label_octets labels) e in
    record {
      label_is = first ∙ (λ i. take (both.0 i) (both.1 i)) ∙ take-append_seam m (flat_map label_octets labels);
      behind_is = second ∙ (λ i. drop (both.0 i) (both.1 i)) ∙ drop-append_seam m (flat_map label_octets labels);
    }

in_front_more : (m : Label) (labels : List Label) (written : List ℕ) → in_front (m ∷ labels) ++ written ≡ in_front labels ++ (label_octets m ++ written)
in_front_more m labels written =
    ap (λ xs. flat_map label_octets xs ++ written) (reverse-append (m ∷ []) labels)
    ∙ ap (λ xs. xs ++ written) (flat_map-append label_octets (reverse labels) (m ∷ []))
    ∙ ap (λ xs. (in_front labels ++ xs) ++ written) (append-nil (label_octets m))
    ∙ append_assoc (in_front labels) (label_octets m) written

turned_more_of : (labels : List Label) (base : Name) (rest written new : List ℕ) (len : ℕ) (others label behind : List ℕ)
    → rest ≡ flat_map label_octets labels → name_octets base ≡ in_front labels ++ written
    → rest ≡ len ∷ others → label ≡ take len others → behind ≡ drop len others → new ≡ label_octets label ++ written → AreTurned behind new base
turned_more_of [] base rest written new len others label behind left whole first at away put = absurd (no_first len others (sym first ∙ left))
turned_more_of (m ∷ labels) base rest written new len others label behind left whole first at away put =
    let is = parts len others label behind m labels (sym first ∙ left) at away in
    record {
      labels = labels;
      left = is.behind_is;
      whole = whole ∙ in_front_more m labels written ∙ ap (λ l. in_front labels ++ (label_octets l ++ written)) (sym is.label_is) ∙ ap (λ xs. in_front labels ++ xs) (sym put);
    }

pub turned_more : (base : Name) (rest written new : List ℕ) (len : ℕ) (others label behind : List ℕ)
    → AreTurned rest written base → rest ≡ len ∷ others → label ≡ take len others → behind ≡ drop len others → new ≡ label_octets label ++ written → AreTurned behind new base
turned_more base rest written new len others label behind t first at away put =
    turned_more_of t.labels base rest written new len others label behind t.left t.whole first at away put

-- there is as much as the first octet says, and it has room in front
pub record HasRoom (len : ℕ) (others label written : List ℕ) : Type 0 where
  pub there : len ≤ length others
  pub room : label ≡ take len others → length label + 1 + length written ≤ 255

room_of : (labels : List Label) (base : Name) (rest written : List ℕ) (len : ℕ) (others label : List ℕ) → IsName base
    → rest ≡ flat_map label_octets labels → name_octets base ≡ in_front labels ++ written → rest ≡ len ∷ others → HasRoom len others label written
room_of [] base rest written len others label is left whole first = absurd (no_first len others (sym first ∙ left))
room_of (m ∷ labels) base rest written len others label is left whole first =
    let both : (len ≡ length m) × (others ≡ m ++ flat_map label_octets labels) = split_same len (length m) others (m ++ flat_map label_octets labels) (sym first ∙ left) in
    record {
      there = omega (arith, both.0, ap length both.1, length-append m (flat_map label_octets labels));
      room = λ at.
          let same : label ≡ m = at ∙ (λ i. take (both.0 i) (both.1 i)) ∙ take-append_seam m (flat_map label_octets labels) in
          let long : length (name_octets base) ≡ length (in_front labels) + length (label_octets m ++ written) = ap length (whole ∙ in_front_more m labels written) ∙ length-append (in_front labels) (label_octets m ++ written) in
          omega (arith, is.short, long, length-append (label_octets m) written, ap length same);
    }

pub has_room : (base : Name) (rest written : List ℕ) (len : ℕ) (others label : List ℕ) → IsName base → AreTurned rest written base → rest ≡ len ∷ others → HasRoom len others label written
has_room base rest written len others label is t first = room_of t.labels base rest written len others label is t.left t.whole first

turned_all : (labels : List Label) (base : Name) (rest written : List ℕ) → rest ≡ flat_map label_octets labels → name_octets base ≡ in_front labels ++ written → rest ≡ [] → written ≡ name_octets base
turned_all [] base rest written left whole none = sym whole
turned_all (m ∷ labels) base rest written left whole none = absurd (no_first (length m) (m ++ flat_map label_octets labels) (sym left ∙ none))

no_octets : (xs : List ℕ) → length xs ≡ 0 → xs ≡ []
no_octets [] e = refl
no_octets (x ∷ xs) e = absurd (omega (arith, e))

pub turned_at_last : (base : Name) (rest written : List ℕ) → AreTurned rest written base → length rest ≡ 0 → written ≡ name_octets base
turned_at_last base rest written t none = turned_all t.labels base rest written t.left t.whole (no_octets rest none)

-- ---- counting

pub read_at_first : (base : Name) (rest : List ℕ) → rest ≡ name_key base → AreRead rest 0 base
read_at_first base rest key = record { labels = reverse base; left = key; count_is = length_reversed base } where
  length_reversed : (name : Name) → 0 + length (reverse name) ≡ length name
  length_reversed [] = refl
  length_reversed (m ∷ name) = omega (arith, ap length (reverse-append (m ∷ []) name), length-append (reverse name) (m ∷ []), length_reversed name)

read_more_of : (labels : List Label) (base : Name) (rest : List ℕ) (count len : ℕ) (others behind : List ℕ)
    → rest ≡ flat_map label_octets labels → count + length labels ≡ length base → rest ≡ len ∷ others → behind ≡ drop len others → AreRead behind (count + 1) base
read_more_of [] base rest count len others behind left is first away = absurd (no_first len others (sym first ∙ left))
read_more_of (m ∷ labels) base rest count len others behind left is first away =
    record { labels = labels; left = (parts len others (take len others) behind m labels (sym first ∙ left) refl away).behind_is; count_is = omega (arith, is) }

pub read_more : (base : Name) (rest : List ℕ) (count len : ℕ) (others behind : List ℕ) → AreRead rest count base → rest ≡ len ∷ others → behind ≡ drop len others → AreRead behind (count + 1) base
read_more base rest count len others behind r first away = read_more_of r.labels base rest count len others behind r.left r.count_is first away

read_all : (labels : List Label) (base : Name) (rest : List ℕ) (count : ℕ) → rest ≡ flat_map label_octets labels → count + length labels ≡ length base → rest ≡ [] → count ≡ length base
read_all [] base rest count left is none = omega (arith, is)
read_all (m ∷ labels) base rest count left is none = absurd (no_first (length m) (m ++ flat_map label_octets labels) (sym left ∙ none))

pub read_at_last : (base : Name) (rest : List ℕ) (count : ℕ) → AreRead rest count base → length rest ≡ 0 → count ≡ length base
read_at_last base rest count r none = read_all r.labels base rest count r.left r.count_is (no_octets rest none)

many_octets : (name : Name) → length name ≤ length (flat_map label_octets name)
many_octets [] = omega arith
many_octets (m ∷ name) = omega (arith, many_octets name, length-append (label_octets m) (flat_map label_octets name))

pub few_labels : (base : Name) → IsName base → length base ≤ 255
few_labels base is = omega (arith, is.short, many_octets base, length-append (flat_map label_octets base) (0 ∷ []))

there_of : (labels : List Label) (rest : List ℕ) (len : ℕ) (others : List ℕ) → rest ≡ flat_map label_octets labels → rest ≡ len ∷ others → len ≤ length others
there_of [] rest len others left first = absurd (no_first len others (sym first ∙ left))
there_of (m ∷ labels) rest len others left first =
    let both : (len ≡ length m) × (others ≡ m ++ flat_map label_octets labels) = split_same len (length m) others (m ++ flat_map label_octets labels) (sym first ∙ left) in
    omega (arith, both.0, ap length both.1, length-append m (flat_map label_octets labels))

pub is_there : (base : Name) (rest : List ℕ) (count len : ℕ) (others : List ℕ) → AreRead rest count base → rest ≡ len ∷ others → len ≤ length others
is_there base rest count len others r first = there_of r.labels rest len others r.left first

few_of : (labels : List Label) (base : Name) (rest : List ℕ) (count len : ℕ) (others : List ℕ) → IsName base → rest ≡ flat_map label_octets labels → count + length labels ≡ length base → rest ≡ len ∷ others → count ≤ 254
few_of [] base rest count len others is left c first = absurd (no_first len others (sym first ∙ left))
few_of (m ∷ labels) base rest count len others is left c first = omega (arith, c, few_labels base is)

pub count_is_small : (base : Name) (rest : List ℕ) (count len : ℕ) (others : List ℕ) → IsName base → AreRead rest count base → rest ≡ len ∷ others → count ≤ 254
count_is_small base rest count len others is r first = few_of r.labels base rest count len others is r.left r.count_is first

-- ---- reading

pub stands_whole : (octets : List ℕ) → Stands octets octets 0 (length octets)
stands_whole octets = record { begins = take_all (length octets) octets (omega arith); ends = omega arith }

stands_as : (octets written : List ℕ) → octets ≡ written → Stands written octets 0 (length octets)
stands_as octets written same = subst (λ xs. Stands xs octets 0 (length octets)) same (stands_whole octets)

-- what is written is read where it stands
abbrev pub IsReadBack : Type 0
IsReadBack = (name : Name) (message : List ℕ) (at after : ℕ) → IsName name → Stands (name_octets name) message at after → name_at message at ≡ Ok (name, after)

pub read_back : (base : Name) (octets written : List ℕ) → IsReadBack → IsName base → octets ≡ written → written ≡ name_octets base → name_at octets 0 ≡ Ok (base, length octets)
read_back base octets written law is here as_written = law base octets 0 (length octets) is (stands_as octets (name_octets base) (here ∙ as_written))

pub no_fault : (e : NameError) (f : NameFault) (read : Result (Name × ℕ) NameFault) (x : Name × ℕ) → e ≡ Fault f → Fails e read → read ≡ Ok x → ⊥
no_fault e f read x is fails ok = differs f x (sym (subst (λ (d : NameError). Fails d read) is fails) ∙ ok) where
  differs : (f : NameFault) (x : Name × ℕ) → ◌≡◌ {A = Result (Name × ℕ) NameFault} (Err f) (Ok x) → ⊥
  differs f x e = cc e

same_first : (x y : Name × ℕ) → ◌≡◌ {A = Result (Name × ℕ) NameFault} (Ok x) (Ok y) → x.0 ≡ y.0
same_first x y e = let same : x ≡ y = cc e in ap (λ (z : Name × ℕ). z.0) same

-- the pattern of the name that was read is the one of the key
pub as_pattern : {E : Type 0} (r : Result PlainPattern E) (found : Name × ℕ) (base : Name) (n : ℕ) (read : Result (Name × ℕ) NameFault) (wild : Bool) (p : PlainPattern)
    → IfOk r (λ q. q ≡ record { base = lowered found.0; wild = wild }) → read ≡ Ok found → read ≡ Ok (base, n) → lowered base ≡ base → record { base = base; wild = wild } ≡ p → IfOk r (λ q. q ≡ p)
as_pattern (Ok q) found base n read wild p made first second lower is =
    let same : found.0 ≡ base = same_first found (base, n) (sym first ∙ second) in
    made ∙ ap (λ (b : Name). let r : PlainPattern = record { base = lowered b; wild = wild } in r) same ∙ ap (λ (b : Name). let r : PlainPattern = record { base = b; wild = wild } in r) lower ∙ is
as_pattern (Err e) found base n read wild p made first second lower is = made

-- ---- of the key of an entry

pub base_is : (octets : List ℕ) (wild : Bool) → name_in octets ≡ (pattern_in (entry_key octets wild)).base
base_is octets wild = ap name_in (sym (octets_back octets wild))

pub key_is : (octets : List ℕ) (wild : Bool) → IsPatternKey (entry_key octets wild) → octets ≡ name_key (pattern_in (entry_key octets wild)).base
key_is octets wild is =
    let p = pattern_in (entry_key octets wild) in
    sym (octets_back octets wild) ∙ ap octets_in is.same ∙ octets_back (name_key p.base) p.wild

pub key_in : (octets : List ℕ) (wild : Bool) → IsPatternKey (entry_key octets wild) → octets ≡ name_key (name_in octets)
key_in octets wild is = key_is octets wild is ∙ ap name_key (sym (base_is octets wild))

pub name_of_key : (octets : List ℕ) (wild : Bool) → IsPatternKey (entry_key octets wild) → IsName (name_in octets)
name_of_key octets wild is = subst IsName (sym (base_is octets wild)) is.pattern.name

pub lower_of_key : (octets : List ℕ) (wild : Bool) → IsPatternKey (entry_key octets wild) → lowered (name_in octets) ≡ name_in octets
lower_of_key octets wild is = subst (λ b. lowered b ≡ b) (sym (base_is octets wild)) is.pattern.lower_case

pub pattern_of_key : (octets : List ℕ) (wild : Bool) → record { base = name_in octets; wild = wild } ≡ pattern_in (entry_key octets wild)
pattern_of_key octets wild = λ i. record { base = base_is octets wild i; wild = sym (wild_back octets wild) i }
