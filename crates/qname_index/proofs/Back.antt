-- A pattern is told from its key.
use Rattle.std.proofs.Common.{◌≡◌, ℕ, zero, suc, ◌+◌, ◌-◌, ◌==◌, ◌≤◌, Bool, true, false, cond, List, [], ◌∷◌, ◌++◌, length, drop, reverse, refl, ap, ◌∙◌, arith, length-append}
use Rattle.std.proofs.Math.Seq.{take-append_seam, drop-append_seam}
use Rattle.std.proofs.lemmas.List.{reverse-reverse}
use Rattle.std.specs.List.{flat_map}
use Rattle.dns_name.specs.Alike.{PlainPattern}
use Rattle.dns_name.specs.Labels.{Label, Name, label_octets}
use Rattle.octet_trie.specs.ListKeys.{entry_key}
use Rattle.qname_index.specs.Key.{name_key}
use Rattle.qname_index.specs.Patterns.{is_wild_in, labels_behind, name_in, octets_in, pattern_in}

pub octets_back : (octets : List ℕ) (wild : Bool) → octets_in (entry_key octets wild) ≡ octets
octets_back [] wild = refl
octets_back (x ∷ []) wild = λ i. (let h : x + 2 - 2 ≡ x = omega arith in h i) ∷ []
octets_back (x ∷ y ∷ octets) wild = λ i. (let h : x + 2 - 2 ≡ x = omega arith in h i) ∷ octets_back (y ∷ octets) wild i

wild_end : (wild : Bool) → (cond wild 1 0 == 1) ≡ wild
wild_end true = refl
wild_end false = refl

pub wild_back : (octets : List ℕ) (wild : Bool) → is_wild_in (entry_key octets wild) ≡ wild
wild_back [] wild = wild_end wild
wild_back (x ∷ []) wild = wild_end wild
wild_back (x ∷ y ∷ octets) wild = wild_back (y ∷ octets) wild

labels_back : (n : ℕ) (labels : List Label) → length (flat_map label_octets labels) ≤ n → labels_behind n (flat_map label_octets labels) ≡ labels
labels_back zero [] h = refl
labels_back (suc n) [] h = refl
labels_back zero (l ∷ labels) h = absurd (omega arith)
labels_back (suc n) (l ∷ labels) h =
    let rest : drop (length l) (l ++ flat_map label_octets labels) ≡ flat_map label_octets labels = drop-append_seam l (flat_map label_octets labels) in
    let short : length (flat_map label_octets labels) ≤ n = omega (arith, length-append l (flat_map label_octets labels)) in
    λ i. take-append_seam l (flat_map label_octets labels) i ∷ (ap (labels_behind n) rest ∙ labels_back n labels short) i

pub name_back : (name : Name) → name_in (name_key name) ≡ name
name_back name = ap reverse (labels_back (length (name_key name)) (reverse name) (omega arith)) ∙ reverse-reverse name

pub pattern_back : (pattern : PlainPattern) → pattern_in (entry_key (name_key pattern.base) pattern.wild) ≡ pattern
pattern_back p =
    let base : name_in (octets_in (entry_key (name_key p.base) p.wild)) ≡ p.base = ap name_in (octets_back (name_key p.base) p.wild) ∙ name_back p.base in
    λ i. record { base = base i; wild = wild_back (name_key p.base) p.wild i }
