-- Rows in a list of octets that grows.
use Rattle.std.proofs.Common.{◌≡◌, ℕ, ◌+◌, ◌-◌, ◌≤◌, List, [], ◌∷◌, ◌++◌, length, map, take, drop, slice_range, refl, ap, ◌∙◌, arith, length-append, append_assoc}
use Rattle.std.proofs.lemmas.List.{take-append-le, drop-append-le, map-append, length-drop}
use Rattle.std.proofs.Math.Seq.{take-append_seam, drop-append_seam, take-length}
use Rattle.std.specs.List.{AllByRecursion}
use Rattle.packed_lists.specs.Packed.{unpacked, LiesWithin}
use Rattle.packed_lists.specs.declared.entry.Entry.{Entry}

range_left : (xs ys : List ℕ) (a b : ℕ) → a ≤ b → b ≤ length xs → slice_range (xs ++ ys) a b ≡ slice_range xs a b
range_left xs ys a b h k =
    ap (take (b - a)) (drop-append-le a xs ys (omega arith)) ∙ take-append-le (b - a) (drop a xs) ys (omega (arith, length-drop a xs))

range_middle : (xs ys zs : List ℕ) (a b : ℕ) → a ≡ length xs → b ≡ a + length ys → slice_range ((xs ++ ys) ++ zs) a b ≡ ys
range_middle xs ys zs a b e f =
    let n : b - a ≡ length ys = omega arith in
    ap (λ l. take (b - a) (drop a l)) (append_assoc xs ys zs) ∙ ap (λ m. take (b - a) (drop m (xs ++ (ys ++ zs)))) e
    ∙ ap (take (b - a)) (drop-append_seam xs (ys ++ zs)) ∙ ap (λ m. take m (ys ++ zs)) n ∙ take-append_seam ys zs

range_end : (xs ys : List ℕ) (a b : ℕ) → a ≡ length xs → b ≡ a + length ys → slice_range (xs ++ ys) a b ≡ ys
range_end xs ys a b e f =
    let n : b - a ≡ length ys = omega arith in
    ap (λ m. take (b - a) (drop m (xs ++ ys))) e ∙ ap (take (b - a)) (drop-append_seam xs ys) ∙ ap (λ m. take m ys) n ∙ take-length ys

within_more : (m n : ℕ) (es : List Entry) → m ≤ n → AllByRecursion (LiesWithin m) es → AllByRecursion (LiesWithin n) es
within_more m n [] h all = tt
within_more m n (e ∷ es) h all = (omega (arith, all.0), within_more m n es h all.1)

unpacked_more : (xs ys : List ℕ) (e : Entry) → LiesWithin (length xs) e → unpacked (xs ++ ys) e ≡ unpacked xs e
unpacked_more xs ys e h = λ i. record {
  number = e.number;
  owner = range_left xs ys e.start (e.start + e.owner_len) (omega arith) (omega arith) i;
  rtype = e.rtype;
  ttl = e.ttl;
  rdata = range_left xs ys (e.start + e.owner_len) (e.start + e.owner_len + e.data_len) (omega arith) h i;
}

pub rows_more : (xs ys : List ℕ) (es : List Entry) → AllByRecursion (LiesWithin (length xs)) es → map (unpacked (xs ++ ys)) es ≡ map (unpacked xs) es
rows_more xs ys [] all = refl
rows_more xs ys (e ∷ es) all = λ i. unpacked_more xs ys e all.0 i ∷ rows_more xs ys es all.1 i

-- octets came behind
pub kept_rows : (xs ys new : List ℕ) (es : List Entry) → new ≡ xs ++ ys → AllByRecursion (LiesWithin (length xs)) es → map (unpacked new) es ≡ map (unpacked xs) es
kept_rows xs ys new es e all = ap (λ l. map (unpacked l) es) e ∙ rows_more xs ys es all

pub kept_within : (xs ys new : List ℕ) (es : List Entry) → new ≡ xs ++ ys → AllByRecursion (LiesWithin (length xs)) es → AllByRecursion (LiesWithin (length new)) es
kept_within xs ys new es e all = within_more (length xs) (length new) es (omega (arith, ap length e, length-append xs ys)) all

all_append : (n : ℕ) (es : List Entry) (e : Entry) → AllByRecursion (LiesWithin n) es → LiesWithin n e → AllByRecursion (LiesWithin n) (es ++ e ∷ [])
all_append n [] e all h = (h, tt)
all_append n (x ∷ es) e all h = (all.0, all_append n es e all.1 h)

-- an entry came behind, and its octets
pub record Came (xs owner rdata new : List ℕ) (es news : List Entry) (e : Entry) : Type 0 where
  pub octets : new ≡ (xs ++ owner) ++ rdata
  pub entries : news ≡ es ++ e ∷ []
  pub start : e.start ≡ length xs
  pub owner_len : e.owner_len ≡ length owner
  pub data_len : e.data_len ≡ length rdata

pub came_rows : (xs owner rdata new : List ℕ) (es news : List Entry) (e : Entry) → Came xs owner rdata new es news e → AllByRecursion (LiesWithin (length xs)) es
    → map (unpacked new) news ≡ map (unpacked xs) es ++ record { number = e.number; owner = owner; rtype = e.rtype; ttl = e.ttl; rdata = rdata } ∷ []
came_rows xs owner rdata new es news e came all =
    let whole : new ≡ xs ++ (owner ++ rdata) = came.octets ∙ append_assoc xs owner rdata in
    let a : slice_range new e.start (e.start + e.owner_len) ≡ owner = ap (λ l. slice_range l e.start (e.start + e.owner_len)) came.octets ∙ range_middle xs owner rdata e.start (e.start + e.owner_len) came.start (omega (arith, came.owner_len)) in
    let b : slice_range new (e.start + e.owner_len) (e.start + e.owner_len + e.data_len) ≡ rdata =
    ap (λ l. slice_range l (e.start + e.owner_len) (e.start + e.owner_len + e.data_len)) came.octets
    ∙ range_end (xs ++ owner) rdata (e.start + e.owner_len) (e.start + e.owner_len + e.data_len) (omega (arith, came.start, came.owner_len, length-append xs owner)) (omega (arith, came.data_len)) in
    ap (map (unpacked new)) came.entries ∙ map-append (unpacked new) es (e ∷ [])
    ∙ (λ i. kept_rows xs (owner ++ rdata) new es whole all i ++ record { number = e.number; owner = a i; rtype = e.rtype; ttl = e.ttl; rdata = b i } ∷ [])

pub came_within : (xs owner rdata new : List ℕ) (es news : List Entry) (e : Entry) → Came xs owner rdata new es news e → AllByRecursion (LiesWithin (length xs)) es → AllByRecursion (LiesWithin (length new)) news
came_within xs owner rdata new es news e came all =
    let long : length new ≡ length xs + length owner + length rdata = omega (arith, ap length came.octets, length-append (xs ++ owner) rdata, length-append xs owner) in
    rw came.entries (all_append (length new) es e (within_more (length xs) (length new) es (omega (arith, long)) all) (omega (arith, long, came.start, came.owner_len, came.data_len)))

pub numbers_same : (octets : List ℕ) (es : List Entry) → map (λ r. r.number) (map (unpacked octets) es) ≡ map (λ e. e.number) es
numbers_same octets [] = refl
numbers_same octets (e ∷ es) = ap (λ l. e.number ∷ l) (numbers_same octets es)

pub as_many : (octets : List ℕ) (es : List Entry) → length (map (unpacked octets) es) ≡ length es
as_many octets [] = refl
as_many octets (e ∷ es) = omega (arith, as_many octets es)
