-- The data of a SOA record: what it is written as, and what is read of it.
use Rattle.std.proofs.Common.{◌≡◌, ℕ, ◌+◌, ◌≤◌, List, [], ◌∷◌, ◌++◌, length, take, drop, Ok, refl, sym, ap, subst, ◌∙◌, append_assoc, arith, length-append}
use Rattle.std.specs.Prelude.{IsOk}
use Rattle.std.proofs.lemmas.List.{append-nil, take_at, drop_at, take_all}
use Rattle.dns_name.specs.Labels.{IsName, name_octets}
use Rattle.dns_name.specs.Reading.{NameOutcome, name_at}
use Rattle.dns_name.specs.Standing.{Stands}
use Rattle.dns_name.proofs.Standing.{name_written, stands_both}
use Rattle.dns_record.specs.declared.part.Part.TheVariants.{Name, Fixed}
use Rattle.dns_record.specs.declared.soa.Soa.{Soa}
use Rattle.dns_record.specs.Number.{number_at, number_octets, AreOctets}
use Rattle.dns_record.specs.Part.{HasParts}
use Rattle.dns_record.specs.Record.{IsData}
use Rattle.dns_record.specs.Soa.{soa_in, soa_octets}
use Rattle.dns_record.proofs.Data.{is_data}
use Rattle.dns_record.proofs.Numbers.{length-number_octets, u32_stands}

pub length-soa_numbers : (a b c d e : ℕ) → length (number_octets 4 a ++ (number_octets 4 b ++ (number_octets 4 c ++ (number_octets 4 d ++ number_octets 4 e)))) ≡ 20
length-soa_numbers a b c d e =
    omega (
      arith,
      length-append (number_octets 4 a) (number_octets 4 b ++ (number_octets 4 c ++ (number_octets 4 d ++ number_octets 4 e))),
      length-append (number_octets 4 b) (number_octets 4 c ++ (number_octets 4 d ++ number_octets 4 e)),
      length-append (number_octets 4 c) (number_octets 4 d ++ number_octets 4 e),
      length-append (number_octets 4 d) (number_octets 4 e),
      length-number_octets 4 a,
      length-number_octets 4 b,
      length-number_octets 4 c,
      length-number_octets 4 d,
      length-number_octets 4 e,
    )

abbrev soa_numbers : Soa → List ℕ
soa_numbers soa = number_octets 4 soa.serial ++ (number_octets 4 soa.refresh ++ (number_octets 4 soa.retry ++ (number_octets 4 soa.expire ++ number_octets 4 soa.minimum)))

soa_parts : (soa : Soa) → soa_octets soa ≡ name_octets soa.mname ++ (name_octets soa.rname ++ soa_numbers soa)
unfolding soa_octets
soa_parts soa = simp append_assoc

pub soa_is_data : (soa : Soa) → IsName soa.mname → IsName soa.rname → IsData 6 1 (soa_octets soa)
soa_is_data soa m r =
    let numbers = soa_numbers soa in
    is_data 6 1 (soa_octets soa) (Name ∷ Name ∷ Fixed 20 ∷ []) refl
    (soa.mname, name_octets soa.rname ++ numbers, m, soa_parts soa, (soa.rname, numbers, r, refl, (numbers, [], length-soa_numbers soa.serial soa.refresh soa.retry soa.expire soa.minimum, sym (append-nil numbers), refl)))

-- the data holds two names, and 20 octets behind them
pub record HoldsSoa (rdata : List ℕ) : Type 0 where
  pub mname : List (List ℕ)
  pub rname : List (List ℕ)
  pub first : name_at rdata 0 ≡ Ok (mname, length (name_octets mname))
  pub second : name_at rdata (length (name_octets mname)) ≡ Ok (rname, length (name_octets mname) + length (name_octets rname))
  pub mname_stands : Stands (name_octets mname) rdata 0 (length (name_octets mname))
  pub rname_stands : Stands (name_octets rname) rdata (length (name_octets mname)) (length (name_octets mname) + length (name_octets rname))
  pub long : length (name_octets mname) + length (name_octets rname) + 20 ≡ length rdata

pub holds_soa : (rdata : List ℕ) → HasParts (Name ∷ Name ∷ Fixed 20 ∷ []) rdata → HoldsSoa rdata
holds_soa rdata h =
    let second = h.4 in
    let numbers = second.4 in
    let m = name_octets h.0 in
    let r = name_octets second.0 in
    let stands_m : Stands m rdata 0 (length m) = record { begins = ap (take (length m)) h.3 ∙ take_at m h.1 (length m) refl; ends = omega arith } in
    let rest : drop (length m) rdata ≡ r ++ second.1 = ap (drop (length m)) h.3 ∙ drop_at m h.1 (length m) refl ∙ second.3 in
    let stands_r : Stands r rdata (length m) (length m + length r) = record { begins = ap (take (length r)) rest ∙ take_at r second.1 (length r) refl; ends = refl } in
    record {
      mname = h.0;
      rname = second.0;
      first = name_written h.0 rdata 0 (length m) h.2 stands_m;
      second = name_written second.0 rdata (length m) (length m + length r) second.2 stands_r;
      mname_stands = stands_m;
      rname_stands = stands_r;
      long = omega (arith, numbers.2, ap length h.3, ap length second.3, ap length numbers.3, ap length numbers.4, length-append m h.1, length-append r second.1, length-append numbers.0 numbers.1);
    }

same_name : (read : NameOutcome) (x y : List (List ℕ) × ℕ) → read ≡ Ok x → read ≡ Ok y → x ≡ y
same_name read x y e f = cc

-- two names that were read in the data of a SOA stand there in full, and its numbers behind them
pub record NamesStand (rdata : List ℕ) (m r : List (List ℕ)) (p q : ℕ) : Type 0 where
  pub first : Stands (name_octets m) rdata 0 p
  pub second : Stands (name_octets r) rdata p q
  pub long : q + 20 ≡ length rdata

pub names_stand : (rdata : List ℕ) (m r : List (List ℕ)) (p q : ℕ) → HasParts (Name ∷ Name ∷ Fixed 20 ∷ []) rdata → name_at rdata 0 ≡ Ok (m, p) → name_at rdata p ≡ Ok (r, q) → NamesStand rdata m r p q
names_stand rdata m r p q h e f =
    let holds = holds_soa rdata h in
    let middle = length (name_octets holds.mname) in
    let end = middle + length (name_octets holds.rname) in
    let same : (holds.mname, middle) ≡ (m, p) = same_name (name_at rdata 0) (holds.mname, middle) (m, p) holds.first e in
    let at : middle ≡ p = ap (λ (x : List (List ℕ) × ℕ). x.1) same in
    let again : (holds.rname, end) ≡ (r, q) = same_name (name_at rdata p) (holds.rname, end) (r, q) (ap (name_at rdata) (sym at) ∙ holds.second) f in
    let ends : end ≡ q = ap (λ (x : List (List ℕ) × ℕ). x.1) again in
    let second : Stands (name_octets holds.rname) rdata p end = subst (λ (n : ℕ). Stands (name_octets holds.rname) rdata n end) at holds.rname_stands in
    record {
      first = subst (λ (x : List (List ℕ) × ℕ). Stands (name_octets x.0) rdata 0 x.1) same holds.mname_stands;
      second = subst (λ (x : List (List ℕ) × ℕ). Stands (name_octets x.0) rdata p x.1) again second;
      long = subst (λ (n : ℕ). n + 20 ≡ length rdata) ends holds.long;
    }

pub second_name_is : (rdata : List ℕ) (m : List (List ℕ)) (p : ℕ) → HasParts (Name ∷ Name ∷ Fixed 20 ∷ []) rdata → name_at rdata 0 ≡ Ok (m, p) → IsOk (name_at rdata p)
second_name_is rdata m p h e =
    let holds = holds_soa rdata h in
    let same : (holds.mname, length (name_octets holds.mname)) ≡ (m, p) = same_name (name_at rdata 0) (holds.mname, length (name_octets holds.mname)) (m, p) holds.first e in
    let at : p ≡ length (name_octets holds.mname) = sym (ap (λ (x : List (List ℕ) × ℕ). x.1) same) in
    rw (at, holds.second) refl

pub first_name_is : (rdata : List ℕ) → HasParts (Name ∷ Name ∷ Fixed 20 ∷ []) rdata → IsOk (name_at rdata 0)
first_name_is rdata h =
    let holds = holds_soa rdata h in
    rw holds.first refl

pub soa_read : (rdata : List ℕ) (soa : Soa) (p q : ℕ) → name_at rdata 0 ≡ Ok (soa.mname, p) → name_at rdata p ≡ Ok (soa.rname, q)
    → soa.serial ≡ number_at 4 rdata q → soa.refresh ≡ number_at 4 rdata (q + 4) → soa.retry ≡ number_at 4 rdata (q + 8) → soa.expire ≡ number_at 4 rdata (q + 12) → soa.minimum ≡ number_at 4 rdata (q + 16)
    → soa_in soa.ttl rdata ≡ Ok soa
unfolding soa_in
soa_read rdata soa p q e f a b c d g = rw (e, f, ← a, ← b, ← c, ← d, ← g) refl

whole_list : (octets rdata : List ℕ) (after : ℕ) → Stands octets rdata 0 after → after ≡ length rdata → octets ≡ rdata
whole_list octets rdata after h e =
    let len : length rdata ≤ length octets = omega (arith, h.ends, e) in
    sym h.begins ∙ take_all (length octets) rdata len

pub soa_spelled : (rdata : List ℕ) (soa : Soa) (p q : ℕ) → AreOctets rdata → NamesStand rdata soa.mname soa.rname p q
    → soa.serial ≡ number_at 4 rdata q → soa.refresh ≡ number_at 4 rdata (q + 4) → soa.retry ≡ number_at 4 rdata (q + 8) → soa.expire ≡ number_at 4 rdata (q + 12) → soa.minimum ≡ number_at 4 rdata (q + 16)
    → soa_octets soa ≡ rdata
soa_spelled rdata soa p q octets names a b c d g =
    let len = names.long in
    let at : (n k k' : ℕ) → n ≡ number_at 4 rdata k → k' ≡ k + 4 → k + 4 ≤ length rdata → Stands (number_octets 4 n) rdata k k' =
    λ n k k' s t l. rw (s, t) (u32_stands rdata k octets l) in
    let n5 = at soa.minimum (q + 16) (q + 20) g (omega arith) (omega arith) in
    let n4 = stands_both _ _ rdata (q + 12) (q + 16) (q + 20) (at soa.expire (q + 12) (q + 16) d (omega arith) (omega arith)) n5 in
    let n3 = stands_both _ _ rdata (q + 8) (q + 12) (q + 20) (at soa.retry (q + 8) (q + 12) c (omega arith) (omega arith)) n4 in
    let n2 = stands_both _ _ rdata (q + 4) (q + 8) (q + 20) (at soa.refresh (q + 4) (q + 8) b (omega arith) (omega arith)) n3 in
    let n1 = stands_both _ _ rdata q (q + 4) (q + 20) (at soa.serial q (q + 4) a refl (omega arith)) n2 in
    let second = stands_both _ _ rdata p q (q + 20) names.second n1 in
    let first = stands_both _ _ rdata 0 p (q + 20) names.first second in
    soa_parts soa ∙ whole_list _ rdata (q + 20) first len
