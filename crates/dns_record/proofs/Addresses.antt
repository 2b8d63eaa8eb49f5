-- The data of records that hold an address is long enough.
use Rattle.std.proofs.Common.{◌≡◌, ℕ, ◌+◌, ◌≤◌, List, [], ◌∷◌, length, ap, subst, arith, length-append}
use Rattle.dns_record.specs.Part.{HasParts}
use Rattle.dns_record.specs.declared.part.Part.TheVariants.{Fixed}
use Rattle.dns_record.specs.Record.{IsData}

fixed_long : (count : ℕ) (rdata : List ℕ) → HasParts (Fixed count ∷ []) rdata → 0 + count ≤ length rdata
fixed_long count rdata h = omega (arith, h.2, ap length h.3, length-append h.0 h.1)

pub four_octets : (rtype class : ℕ) (rdata : List ℕ) → rtype ≡ 1 → class ≡ 1 → IsData rtype class rdata → 0 + 4 ≤ length rdata
four_octets rtype class rdata t c h =
    let is : IsData 1 1 rdata = subst (λ (n : ℕ). IsData 1 n rdata) c (subst (λ (n : ℕ). IsData n class rdata) t h) in
    fixed_long 4 rdata is.parts

pub sixteen_octets : (rtype class : ℕ) (rdata : List ℕ) → rtype ≡ 28 → class ≡ 1 → IsData rtype class rdata → 0 + 16 ≤ length rdata
sixteen_octets rtype class rdata t c h =
    let is : IsData 28 1 rdata = subst (λ (n : ℕ). IsData 28 n rdata) c (subst (λ (n : ℕ). IsData n class rdata) t h) in
    fixed_long 16 rdata is.parts
