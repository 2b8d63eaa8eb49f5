-- Lists that have the same rows, of which none differ in the TTL alone, have the same rows in their order.
use Rattle.std.proofs.Common.{◌≡◌, ℕ, ◌<◌, inl, inr, List, [], ◌∷◌, ◌++◌, length, get_or, zero, suc, refl, sym, ap, subst, ◌∙◌, ◌↔◌, arith, append_assoc}
use Rattle.std.specs.Cmp.{tied_back, alike_right}
use Rattle.std.specs.List.{All, AllByRecursion, Contains}
use Rattle.std.specs.List.Sorted.{IsStrictlySortedBy}
use Rattle.std.specs.Ordering.{ordering_reverse}
use Rattle.std.specs.declared.cmp.Ordering.{Ordering}
use Rattle.std.specs.declared.cmp.Ordering.TheVariants.{Less, Equal, Greater}
use Rattle.std.proofs.lemmas.List.Elements.{All-contains}
use Rattle.dns_name.specs.Labels.{name_octets}
use Rattle.dns_record.specs.Number.{number_octets}
use Rattle.dns_record.specs.Row.{PlainRow, IsRow, AreAlike, identity}
use Rattle.action_codec.specs.Laws.{HasOneFor, HaveOneTtl, HaveSameRows}
use Rattle.action_codec.specs.Local.{data_key, rule_rows}
use Rattle.action_codec.proofs.RowOrders.{by_data, by_owner, by_data_total, same_data, both_no_later}
use Rattle.dns_name.proofs.Orders.{alike_from_equal as same_name}
use Rattle.action_codec.proofs.PlacedRows.{IsIn, StandsFor, HasFor, at_in, rule_rows-sorted, in_rule_rows, rule_rows_has}

-- ---- sorted lists of which each has one for each row of the other

-- what two of them are that stand for each other
abbrev AreOne : List PlainRow → List PlainRow → Type 0
AreOne ls ms = (l m : PlainRow) → IsIn l ls → IsIn m ms → StandsFor l m → StandsFor m l → l ≡ m

less_not_equal : (o : Ordering) → o ≡ Less → o ≡ Equal → ⊥
less_not_equal o h k = let both : Less ≡ Equal = sym h ∙ k in cc both

less_not_back : (l m : PlainRow) → by_data l m ≡ Less → by_data m l ≡ Less → ⊥
less_not_back l m h k = let both : Greater ≡ Less = ap ordering_reverse (sym k) ∙ sym (by_data_total.antisymm l m) ∙ h in cc both

-- a row that stands for one further on comes before what that one is behind
behind_it : (l x m : PlainRow) (ls : List PlainRow) → AllByRecursion (λ y. by_data l y ≡ Less) ls → IsIn x ls → StandsFor x m → by_data l m ≡ Less
behind_it l x m ls behind is_in stands = sym (alike_right by_data_total x m l stands.data_is) ∙ at_in (λ y. by_data l y ≡ Less) x ls behind is_in

first_stands : (l m : PlainRow) (ls ms : List PlainRow) → AllByRecursion (λ y. by_data l y ≡ Less) ls → AllByRecursion (λ y. by_data m y ≡ Less) ms
    → HasFor (m ∷ ms) l → HasFor (l ∷ ls) m → StandsFor m l
first_stands l m ls ms behind_l behind_m for_l for_m = at for_l.kept for_l.is_in for_l.stands for_m.kept for_m.is_in for_m.stands where
  at : (x : PlainRow) → IsIn x (m ∷ ms) → StandsFor x l → (y : PlainRow) → IsIn y (l ∷ ls) → StandsFor y m → StandsFor m l
  at x (inl e) s y is_in t = subst (λ z. StandsFor z l) (sym e) s
  at x (inr h) s y (inl e) t = absurd (less_not_equal (by_data m l) (behind_it m x l ms behind_m h s) (tied_back by_data_total l m (subst (λ z. by_data z m ≡ Equal) (sym e) t.data_is)))
  at x (inr h) s y (inr k) t = absurd (less_not_back m l (behind_it m x l ms behind_m h s) (behind_it l y m ls behind_l k t))

-- one of the others stands for one of the others
others_stand : (l m : PlainRow) (ls ms : List PlainRow) → AllByRecursion (λ y. by_data l y ≡ Less) ls → StandsFor m l → (x : PlainRow) → IsIn x ls → HasFor (m ∷ ms) x → HasFor ms x
others_stand l m ls ms behind first x is_in for = at for.kept for.is_in for.stands where
  at : (y : PlainRow) → IsIn y (m ∷ ms) → StandsFor y x → HasFor ms x
  at y (inl e) s = absurd (less_not_equal (by_data l x) (at_in (λ z. by_data l z ≡ Less) x ls behind is_in) (sym (by_data_total.congr m l x first.data_is) ∙ subst (λ z. by_data z x ≡ Equal) (sym e) s.data_is))
  at y (inr h) s = record { kept = y; is_in = h; stands = s }

none_for : (l : PlainRow) → HasFor [] l → ⊥
none_for l h = h.is_in

pub same_lists : (ls ms : List PlainRow) → IsStrictlySortedBy by_data ls → IsStrictlySortedBy by_data ms
    → ((l : PlainRow) → IsIn l ls → HasFor ms l) → ((m : PlainRow) → IsIn m ms → HasFor ls m) → AreOne ls ms → ls ≡ ms
unfolding IsStrictlySortedBy
same_lists [] [] s t to back one = refl
same_lists [] (m ∷ ms) s t to back one = absurd (none_for m (back m (inl refl)))
same_lists (l ∷ ls) [] s t to back one = absurd (none_for l (to l (inl refl)))
same_lists (l ∷ ls) (m ∷ ms) s t to back one =
    let for_l = to l (inl refl) in
    let for_m = back m (inl refl) in
    let m_stands : StandsFor m l = first_stands l m ls ms s.0 t.0 for_l for_m in
    let l_stands : StandsFor l m = first_stands m l ms ls t.0 s.0 for_m for_l in
    let first : l ≡ m = one l m (inl refl) (inl refl) l_stands m_stands in
    let others : ls ≡ ms =
    same_lists ls ms s.1 t.1
    (λ x h. others_stand l m ls ms s.0 m_stands x h (to x (inr h)))
    (λ x h. others_stand m l ms ls t.0 l_stands x h (back x (inr h)))
    (λ x y h k. one x y (inr h) (inr k)) in
    λ i. first i ∷ others i

-- ---- a row among rows

in_at : (row : PlainRow) (rows : List PlainRow) (k : ℕ) → k < length rows → get_or rows k row ≡ row → IsIn row rows
in_at row [] k lt e = absurd (omega arith)
in_at row (x ∷ xs) zero lt e = inl e
in_at row (x ∷ xs) (suc k) lt e = inr (in_at row xs k (omega arith) e)

in_contained : (row : PlainRow) (rows : List PlainRow) → Contains rows row → IsIn row rows
in_contained row rows h = in_at row rows h.0 h.1 h.2

contained_in : (row : PlainRow) (rows : List PlainRow) → IsIn row rows → Contains rows row
contained_in row [] h = absurd h
contained_in row (x ∷ xs) (inl e) = (0, omega arith, e)
contained_in row (x ∷ xs) (inr h) = let rest = contained_in row xs h in let lt : rest.0 < length xs = rest.1 in (suc rest.0, omega arith, rest.2)

pub rule_rows_contained : (rows : List PlainRow) (row : PlainRow) → Contains (rule_rows rows) row → Contains rows row
rule_rows_contained rows row h = contained_in row rows (in_rule_rows row rows (in_contained row (rule_rows rows) h))

pub rule_rows_has_one : (rows : List PlainRow) (row : PlainRow) → Contains rows row → HasOneFor (rule_rows rows) row
rule_rows_has_one rows row h =
    let found = rule_rows_has row rows (in_contained row rows h) in
    record {
      kept = found.kept;
      contained = contained_in found.kept (rule_rows rows) found.is_in;
      is_kept = record { same = same_data found.kept row found.stands.data_is; owner = found.stands.owner_is };
    }

-- ---- rows of a zone

-- rows of one identity differ in the TTL alone
abbrev pub ByIdentity : Type 0
ByIdentity = (row other : PlainRow) → IsRow row → IsRow other → (identity row ≡ identity other) ↔ AreAlike row other

same_owner : (a b : PlainRow) → IsRow a → IsRow b → by_owner a b ≡ Equal → a.owner ≡ b.owner
same_owner a b is_a is_b h = sym is_a.owner_is_lower_case ∙ same_name a.owner b.owner h ∙ is_b.owner_is_lower_case

identity_is : (row : PlainRow) → identity row ≡ name_octets row.owner ++ data_key row
unfolding identity data_key
identity_is row = append_assoc (name_octets row.owner) (number_octets 2 row.rtype) row.rdata

one_row : ByIdentity → (a b : PlainRow) → IsRow a → IsRow b → (AreAlike a b → a.ttl ≡ b.ttl) → StandsFor a b → StandsFor b a → a ≡ b
one_row by_identity a b is_a is_b ttl s t =
    let owner : a.owner ≡ b.owner = same_owner a b is_a is_b (both_no_later a b s.owner_is t.owner_is) in
    let key : data_key a ≡ data_key b = same_data a b s.data_is in
    let same : identity a ≡ identity b = identity_is a ∙ (λ i. name_octets (owner i) ++ key i) ∙ sym (identity_is b) in
    let alike : AreAlike a b = (by_identity a b is_a is_b).0 same in
    let live : a.ttl ≡ b.ttl = ttl alike in
    λ i. record { owner = owner i; rtype = alike.rtype i; ttl = live i; rdata = alike.rdata i }

pub rows_in_any_order : ByIdentity → (rows other : List PlainRow) → All IsRow rows → HaveOneTtl rows → HaveSameRows rows other → rule_rows rows ≡ rule_rows other
rows_in_any_order by_identity rows other are_rows one_ttl same =
    let there : (q : PlainRow) → IsIn q rows → IsIn q other = λ (q : PlainRow) (h : IsIn q rows). in_contained q other ((same q).0 (contained_in q rows h)) in
    let back : (q : PlainRow) → IsIn q other → IsIn q rows = λ (q : PlainRow) (h : IsIn q other). in_contained q rows ((same q).1 (contained_in q other h)) in
    same_lists (rule_rows rows) (rule_rows other) (rule_rows-sorted rows) (rule_rows-sorted other)
    (λ q h. rule_rows_has q other (there q (in_rule_rows q rows h)))
    (λ q h. rule_rows_has q rows (back q (in_rule_rows q other h)))
    (λ a b in_a in_b s t.
    let has_a : Contains rows a = contained_in a rows (in_rule_rows a rows in_a) in
    let has_b : Contains rows b = contained_in b rows (back b (in_rule_rows b other in_b)) in
    one_row by_identity a b (All-contains IsRow rows a are_rows has_a) (All-contains IsRow rows b are_rows has_b) (one_ttl a b has_a has_b) s t)
