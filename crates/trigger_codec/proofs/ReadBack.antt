-- A trigger is read back from its canonical labels.
use Rattle.std.proofs.Common.{◌≡◌, ℕ, ◌-◌, List, [], ◌∷◌, ◌++◌, length, Bool, true, false, ◌||◌, ◌↔◌, IsTrue, Option, Some, None, Result, Ok, Err, refl, sym, ap, subst, ◌∙◌, arith, length-append}
use Rattle.std.specs.Prelude.{codes, if◌then◌else◌, ◌==◌, nat_lt}
use Rattle.std.specs.Char.{is_ascii_digit}
use Rattle.std.specs.Fmt.{decimal}
use Rattle.std.proofs.lemmas.List.{map-append, length-map, take_at}
use Rattle.dns_name.specs.Alike.{PlainPattern, ends_with}
use Rattle.dns_name.specs.Labels.{lowered, EndsWith}
use Rattle.ip_prefix.specs.declared.Addr.{Addr}
use Rattle.ip_prefix.specs.declared.Addr.TheVariants.{V4, V6}
use Rattle.ip_prefix.specs.declared.prefix.PrefixFault.{PrefixFault}
use Rattle.ip_prefix.specs.declared.prefix.PrefixFault.TheVariants as faults
use Rattle.ip_prefix.specs.Prefix.{PlainPrefix, IsPrefix, prefix_of, width, has_host_bits}
use Rattle.trigger_codec.specs.Address.{length_read, address_read, as_inert, prefix_made, prefix_read}
use Rattle.trigger_codec.specs.Canonical.{address_labels, prefix_labels, trigger_labels, canonical_owner}
use Rattle.trigger_codec.specs.Decode.{labels_before, pattern_read, by_prefix, by_marker, labels_trigger, trigger}
use Rattle.trigger_codec.specs.Trigger.{Marker, marker_of, client_ip, response_ip, nsip, nsdname, unknown, plain}
use Rattle.trigger_codec.specs.declared.inert.Inert.{Inert}
use Rattle.trigger_codec.specs.declared.inert.Inert.TheVariants as inerts
use Rattle.trigger_codec.specs.declared.trigger.Trigger.{Trigger}
use Rattle.trigger_codec.specs.declared.trigger.Trigger.TheVariants.{ClientIp, Qname, ResponseIp, NsDname, NsIp}
use Rattle.trigger_codec.proofs.AddressLaw.{written_read, v4_back, v6_back}
use Rattle.trigger_codec.proofs.Firsts.{no_labels}
use Rattle.trigger_codec.proofs.JoinLemmas.{joined_is}
use Rattle.trigger_codec.proofs.NumeralLemmas.{decimal_writes}
use Rattle.trigger_codec.proofs.PatternLaw.{lower_case, marker-lower_case, pattern_labels-read, pattern_read-lowered, last_of, last_names}
use Rattle.trigger_codec.proofs.RangeLaw.{HasWidth, address_range}
use Rattle.trigger_codec.proofs.ShortLemmas.{prefix_len}

address_back : (addr : Addr) → HasWidth addr → address_read (address_labels addr) ≡ Some addr
unfolding address_labels
address_back (V4 number) h = v4_back number h
address_back (V6 number) h = v6_back number h

-- what was read of a prefix
record IsRead (addr : Option Addr) (prefix : PlainPrefix) : Type 0 where
  address : addr ≡ Some prefix.addr
  is_prefix : IsPrefix prefix

no_inert : (r : Result PlainPrefix PrefixFault) (p : PlainPrefix) → as_inert r ≡ Ok p → r ≡ Ok p
no_inert (Ok made) p h = let e : made ≡ p = cc in ap (λ (q : PlainPrefix). Ok q) e
no_inert (Err faults.Length) p h = absurd cc
no_inert (Err faults.HostBits) p h = absurd cc

made_case : (b c : Bool) (made p : PlainPrefix) → (if b then Err faults.Length else (if c then Err faults.HostBits else Ok made)) ≡ Ok p → made ≡ p
made_case true c made p h = absurd cc
made_case false true made p h = absurd cc
made_case false false made p h = cc

is_read : (len : Option ℕ) (addr : Option Addr) (p : PlainPrefix) → prefix_made len addr ≡ Ok p → IsRead addr p
is_read None addr p h = absurd (no_length addr h) where
  no_length : (a : Option Addr) → prefix_made None a ≡ Ok p → ⊥
  no_length None e = cc
  no_length (Some a) e = cc
is_read (Some len) None p h = absurd cc
is_read (Some len) (Some addr) p h =
    let made : PlainPrefix = record { addr = addr; length = len } in
    let ok : prefix_of addr len ≡ Ok p = no_inert (prefix_of addr len) p h in
    let same : made ≡ p = made_case (len == 0 || nat_lt (width addr) len) (has_host_bits addr len) made p ok in
    record {
      address = ap (λ (q : PlainPrefix). Some q.addr) same;
      is_prefix = record { made = subst (λ (q : PlainPrefix). prefix_of q.addr q.length ≡ Ok p) same ok };
    }

prefix_back : (labels : List (List ℕ)) (p : PlainPrefix) → prefix_read labels ≡ Ok p → prefix_read (prefix_labels p) ≡ Ok p
unfolding prefix_read
prefix_back [] p h = absurd cc
prefix_back (first ∷ labels) p h =
    let r = is_read (length_read first) (address_read labels) p h in
    let len : length_read (decimal p.length) ≡ Some p.length = (let small_enough = prefix_len p r.is_prefix in written_read 3 10 is_ascii_digit p.length (decimal p.length) (decimal_writes p.length (omega arith))) in
    ap (λ (o : Option ℕ). prefix_made o (address_read (address_labels p.addr))) len
    ∙ ap (prefix_made (Some p.length)) (address_back p.addr (address_range labels p.addr r.address))
    ∙ ap as_inert r.is_prefix.made

-- the prefix of a trigger
record Holds (kind : PlainPrefix → Trigger) (read : Result PlainPrefix Inert) (t : Trigger) : Type 0 where
  prefix : PlainPrefix
  ok : read ≡ Ok prefix
  is : kind prefix ≡ t

prefix_holds : (kind : PlainPrefix → Trigger) (read : Result PlainPrefix Inert) (t : Trigger) → by_prefix kind read ≡ Ok t → Holds kind read t
prefix_holds kind (Ok prefix) t h = record { prefix = prefix; ok = refl; is = cc }
prefix_holds kind (Err inert) t h = absurd cc

abbrev IsBack : Trigger → Type 0
IsBack t = labels_trigger (trigger_labels t) ≡ Ok t

client_back : (front : List (List ℕ)) (p : PlainPrefix) → prefix_read front ≡ Ok p → IsBack (ClientIp p)
unfolding trigger_labels
client_back front p h = last_names (prefix_labels p) (codes "rpz-client-ip") ∙ ap (by_prefix (λ q. ClientIp q)) (prefix_back front p h)

response_back : (front : List (List ℕ)) (p : PlainPrefix) → prefix_read front ≡ Ok p → IsBack (ResponseIp p)
unfolding trigger_labels
response_back front p h = last_names (prefix_labels p) (codes "rpz-ip") ∙ ap (by_prefix (λ q. ResponseIp q)) (prefix_back front p h)

ns_ip_back : (front : List (List ℕ)) (p : PlainPrefix) → prefix_read front ≡ Ok p → IsBack (NsIp p)
unfolding trigger_labels
ns_ip_back front p h = last_names (prefix_labels p) (codes "rpz-nsip") ∙ ap (by_prefix (λ q. NsIp q)) (prefix_back front p h)

-- names of name servers
abbrev servers : ℕ → Trigger → Result Trigger Inert
servers count t = if count == 0 then Err inerts.Marker else Ok t

same_trigger : (b : Bool) (u t : Trigger) → (if b then Err inerts.Marker else Ok u) ≡ Ok t → u ≡ t
same_trigger true u t h = absurd cc
same_trigger false u t h = cc

servers_back : (front : List (List ℕ)) (t : Trigger) → servers (length front) (NsDname (pattern_read front)) ≡ Ok t → IsBack (NsDname (pattern_read front))
unfolding trigger_labels
servers_back front t h =
    let marker : List ℕ = codes "rpz-nsdname" in
    let made : NsDname (pattern_read front) ≡ t = same_trigger (length front == 0) (NsDname (pattern_read front)) t h in
    ap (λ (ls : List (List ℕ)). labels_trigger (ls ++ marker ∷ [])) (pattern_labels-read front)
    ∙ last_names (lowered front) marker
    ∙ ap (λ (n : ℕ). servers n (NsDname (pattern_read (lowered front)))) (length-map front lower_case)
    ∙ ap (λ (pattern : PlainPattern). servers (length front) (NsDname pattern)) (pattern_read-lowered front)
    ∙ h ∙ ap (λ (u : Trigger). Ok u) (sym made)

-- names that are asked for
name_back : (front : List (List ℕ)) (last : List ℕ) → marker_of last ≡ plain → IsBack (Qname (pattern_read (front ++ last ∷ [])))
unfolding trigger_labels
name_back front last h =
    let labels : List (List ℕ) = front ++ last ∷ [] in
    let cut : lowered labels ≡ lowered front ++ lower_case last ∷ [] = map-append lower_case front (last ∷ []) in
    ap labels_trigger (pattern_labels-read labels ∙ cut)
    ∙ last_names (lowered front) (lower_case last)
    ∙ ap (λ (m : Marker). by_marker m (lowered front) (lowered front ++ lower_case last ∷ [])) (marker-lower_case last ∙ h)
    ∙ ap (λ (ls : List (List ℕ)). Ok (Qname (pattern_read ls))) (sym cut)
    ∙ ap (λ (pattern : PlainPattern). Ok (Qname pattern)) (pattern_read-lowered labels)

marker_back : (m : Marker) (front : List (List ℕ)) (last : List ℕ) (t : Trigger) → marker_of last ≡ m → by_marker m front (front ++ last ∷ []) ≡ Ok t → IsBack t
marker_back client_ip front last t e h = let p = prefix_holds (λ q. ClientIp q) (prefix_read front) t h in subst IsBack p.is (client_back front p.prefix p.ok)
marker_back response_ip front last t e h = let p = prefix_holds (λ q. ResponseIp q) (prefix_read front) t h in subst IsBack p.is (response_back front p.prefix p.ok)
marker_back nsip front last t e h = let p = prefix_holds (λ q. NsIp q) (prefix_read front) t h in subst IsBack p.is (ns_ip_back front p.prefix p.ok)
marker_back nsdname front last t e h = subst IsBack (same_trigger (length front == 0) (NsDname (pattern_read front)) t h) (servers_back front t h)
marker_back unknown front last t e h = absurd cc
marker_back plain front last t e h = let is : Qname (pattern_read (front ++ last ∷ [])) ≡ t = cc in subst IsBack is (name_back front last e)

labels_back : (labels : List (List ℕ)) (t : Trigger) → labels_trigger labels ≡ Ok t → IsBack t
labels_back [] t h = let none : Err inerts.Apex ≡ Ok t = sym no_labels ∙ h in absurd cc
labels_back (first ∷ others) t h =
    let e = last_of first others in
    marker_back (marker_of e.last) e.front e.last t refl (sym (last_names e.front e.last) ∙ ap labels_trigger (sym e.whole) ∙ h)

-- in a zone
in_zone : (b : Bool) (r : Result Trigger Inert) (t : Trigger) → (if b then r else Err inerts.OutOfZone) ≡ Ok t → r ≡ Ok t
in_zone true r t h = h
in_zone false r t h = absurd cc

names_before : (front origin : List (List ℕ)) → ends_with (front ++ origin) origin ≡ true → trigger (front ++ origin) origin ≡ labels_trigger front
unfolding trigger
names_before front origin within =
    let count : length front ≡ length (front ++ origin) - length origin = omega (arith, length-append front origin) in
    rw within (ap labels_trigger (take_at front origin (length (front ++ origin) - length origin) count))

pub trigger_back : ((name zone : List (List ℕ)) → IsTrue (ends_with name zone) ↔ EndsWith name zone) → (owner origin : List (List ℕ)) (t : Trigger) (name : List (List ℕ)) → trigger owner origin ≡ Ok t → canonical_owner t origin ≡ Ok name → trigger name origin ≡ Ok t
unfolding trigger
trigger_back within owner origin t name h k =
    let front : List (List ℕ) = trigger_labels t in
    let whole : front ++ origin ≡ name = joined_is front origin name k in
    let under : ends_with (front ++ origin) origin ≡ true = (within (front ++ origin) origin).1 (lowered front, map-append lower_case front origin) in
    let back : IsBack t = labels_back (labels_before owner origin) t (in_zone (ends_with owner origin) (labels_trigger (labels_before owner origin)) t h) in
    ap (λ (n : List (List ℕ)). trigger n origin) (sym whole) ∙ names_before front origin under ∙ back
