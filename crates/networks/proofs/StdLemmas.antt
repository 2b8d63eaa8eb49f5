-- The texts of the library's grammar are texts of this one.
use Rattle.std.proofs.Common.{◌≡◌, ℕ, ◌+◌, ◌-◌, ◌*◌, ◌/◌, ◌%◌, ◌<◌, true, false, List, [], ◌∷◌, ◌++◌, length, replicate, Some, refl, sym, ap, ◌∙◌, subst, arith, append_assoc, inl, inr}
use Rattle.std.specs.Char.{digit_value, is_ascii_hexdigit}
use Rattle.std.specs.List.{list_all}
use Rattle.std.specs.Net.Addr.{segments_of}
use Rattle.std.specs.Net.Grammar as library
use Rattle.std.specs.Net.Grammar.{IsDotted, IsGroupsAfter, IsGroups, IsElided, IsColonHex}
use Rattle.std.specs.Str.Parse.{AllDigits}
use Rattle.std.proofs.lemmas.Bool.{and_from}
use Rattle.std.proofs.lemmas.Bool.Decides.{nat_tests}
use Rattle.std.proofs.lemmas.List.{append-nil}
use Rattle.networks.specs.Dotted.{tail_of}
use Rattle.networks.specs.Grammar as grammar
use Rattle.networks.specs.Grammar.{IsGroup, AreGroups, AreLastGroups, MayBe, IsV6Text, halves}
use Rattle.networks.proofs.DecimalLemmas.{dotted_read}
use Rattle.networks.proofs.OnlyLemmas.{before_last}

hex_digit_is : (c : ℕ) → digit_value c < 16 → is_ascii_hexdigit c ≡ true
hex_digit_is c h = grind (arith, nat_tests)

all_hex : (text : List ℕ) → AllDigits 16 text → list_all is_ascii_hexdigit text ≡ true
all_hex [] h = refl
all_hex (c ∷ cs) h = and_from _ _ (hex_digit_is c h.0) (all_hex cs h.1)

group_from : (text : List ℕ) (group : ℕ) → library.IsGroup text group → IsGroup text group
group_from text group g = record { some = omega (arith, g.0.0.0); few = g.1; digits = all_hex text g.0.0.1; value = g.0.1 }

-- two groups of four octets
high_half : (a b c d : ℕ) → b < 256 → c < 256 → d < 256 → (((a * 256 + b) * 256 + c) * 256 + d) / 65536 ≡ a * 256 + b
high_half a b c d fb fc fd = omega arith

low_half : (a b c d : ℕ) → b < 256 → c < 256 → d < 256 → (((a * 256 + b) * 256 + c) * 256 + d) % 65536 ≡ c * 256 + d
low_half a b c d fb fc fd = omega arith

pair_is : (x y z w : ℕ) → x ≡ z → y ≡ w → x ∷ y ∷ [] ≡ z ∷ w ∷ []
pair_is x y z w e f = cc

dotted_from : (text octets groups : List ℕ) → IsDotted text octets → groups ≡ segments_of octets → AreLastGroups text groups
dotted_from text octets groups d e =
    let number : ℕ = ((d.a * 256 + d.b) * 256 + d.c) * 256 + d.d in
    let reads : tail_of text ≡ Some number = ap tail_of d.spelled ∙ dotted_read true d.a d.b d.c d.d d.fit.0 d.fit.1 d.fit.2 d.fit.3 in
    let same : halves number ≡ groups = pair_is _ _ _ _ (high_half d.a d.b d.c d.d d.fit.1 d.fit.2 d.fit.3) (low_half d.a d.b d.c d.d d.fit.1 d.fit.2 d.fit.3) ∙ ap segments_of (sym d.value) ∙ sym e in
    subst (AreLastGroups text) same (grammar.dotted text number reads)

-- what stands behind a leading text
record Behind (Are : List ℕ → List ℕ → Type 0) (lead text groups : List ℕ) : Type 0 where
  body : List ℕ
  is : text ≡ lead ++ body
  are : Are body groups

plain_behind : (groups : List ℕ) (first : ℕ) (lead text : List ℕ) → IsGroupsAfter false lead text (first ∷ groups) → Behind AreGroups lead text (first ∷ groups)
plain_behind [] first lead text (inl (group, rest, e, g, ended)) = record {
  body = group;
  is = e ∙ ap (λ (r : List ℕ). (lead ++ group) ++ r) ended ∙ append-nil (lead ++ group);
  are = grammar.one group first (group_from group first g);
}
plain_behind (next ∷ groups) first lead text (inl (group, rest, e, g, others)) =
    let b = plain_behind groups next (58 ∷ []) rest others in
    record {
      body = group ++ (58 ∷ b.body);
      is = e ∙ ap (λ (r : List ℕ). (lead ++ group) ++ r) b.is ∙ append_assoc lead group (58 ∷ b.body);
      are = grammar.more group b.body first (next ∷ groups) (group_from group first g) b.are;
    }
plain_behind groups first lead text (inr (last, octets, is_true, e, d, same)) = absurd cc

last_behind : (groups : List ℕ) (first : ℕ) (lead text : List ℕ) → IsGroupsAfter true lead text (first ∷ groups) → Behind AreLastGroups lead text (first ∷ groups)
last_behind [] first lead text (inl (group, rest, e, g, ended)) = record {
  body = group;
  is = e ∙ ap (λ (r : List ℕ). (lead ++ group) ++ r) ended ∙ append-nil (lead ++ group);
  are = grammar.plain group (first ∷ []) (grammar.one group first (group_from group first g));
}
last_behind (next ∷ groups) first lead text (inl (group, rest, e, g, others)) =
    let b = last_behind groups next (58 ∷ []) rest others in
    record {
      body = group ++ (58 ∷ b.body);
      is = e ∙ ap (λ (r : List ℕ). (lead ++ group) ++ r) b.is ∙ append_assoc lead group (58 ∷ b.body);
      are = before_last group first (group_from group first g) b.body (next ∷ groups) b.are;
    }
last_behind groups first lead text (inr (last, octets, is_true, e, d, same)) = record { body = last; is = e; are = dotted_from last octets (first ∷ groups) d same }

before_from : (groups text : List ℕ) → IsGroups false text groups → MayBe AreGroups text groups
before_from [] text h = inl (h, refl)
before_from (first ∷ groups) text h = let b = plain_behind groups first [] text h in inr (subst (λ (t : List ℕ). AreGroups t (first ∷ groups)) (sym b.is) b.are)

last_from : (groups : List ℕ) (first : ℕ) (text : List ℕ) → IsGroups true text (first ∷ groups) → AreLastGroups text (first ∷ groups)
last_from groups first text h = let b = last_behind groups first [] text h in subst (λ (t : List ℕ). AreLastGroups t (first ∷ groups)) (sym b.is) b.are

after_from : (groups text : List ℕ) → IsGroups true text groups → MayBe AreLastGroups text groups
after_from [] text h = inl (h, refl)
after_from (first ∷ groups) text h = inr (last_from groups first text h)

elided_from : (text groups : List ℕ) → IsElided text groups → IsV6Text text groups
elided_from text groups el =
    let count : 8 - length el.head - length el.tail ≡ 8 - (length el.head + length el.tail) = omega arith in
    let spelled : el.head_text ++ (58 ∷ 58 ∷ el.tail_text) ≡ text = sym (append_assoc el.head_text (58 ∷ 58 ∷ []) el.tail_text) ∙ sym el.spelled in
    let value : el.head ++ (replicate (8 - (length el.head + length el.tail)) 0 ++ el.tail) ≡ groups =
    ap (λ (n : ℕ). el.head ++ (replicate n 0 ++ el.tail)) (sym count) ∙ sym (append_assoc el.head (replicate (8 - length el.head - length el.tail) 0) el.tail) ∙ sym el.value in
    subst (IsV6Text text) value (subst (λ (t : List ℕ). IsV6Text t (el.head ++ (replicate (8 - (length el.head + length el.tail)) 0 ++ el.tail))) spelled
    (grammar.elided el.head_text el.tail_text el.head el.tail (before_from el.head el.head_text el.head_groups) (after_from el.tail el.tail_text el.tail_groups) (omega (arith, el.room))))

whole_from : (text groups : List ℕ) → IsGroups true text groups → length groups ≡ 8 → IsV6Text text groups
whole_from text [] h eight = absurd (omega arith)
whole_from text (first ∷ groups) h eight = grammar.whole text (first ∷ groups) (last_from groups first text h) eight

pub library_text : (text groups : List ℕ) → IsColonHex text groups → IsV6Text text groups
library_text text groups (inl both) = whole_from text groups both.0 both.1
library_text text groups (inr el) = elided_from text groups el
