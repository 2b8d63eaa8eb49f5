-- The rules that are drawn, one more.
use Rattle.std.proofs.Common.{◌≡◌, ℕ, suc, ◌+◌, ◌*◌, List, [], ◌∷◌, ◌++◌, length, refl, sym, ap, ◌∙◌, arith}
use Rattle.std.specs.Prelude.{All}
use Rattle.std.proofs.lemmas.List.{length_push}
use Rattle.std.proofs.lemmas.List.Elements.{All-nil, All-push}
use Rattle.dns_record.specs.Record.{PlainRecord}
use Rattle.load_gen.specs.Draws.{after_three, drawn_in, state_after}
use Rattle.load_gen.specs.Loads.{IsIn}
use Rattle.load_gen.specs.Rules.{first_rules, rule_at, rule_from, rule_record}
use Rattle.load_gen.proofs.Drawn.{behind_rule, none, one, three, two}

drawn_rule : (seed place : ℕ) → rule_from (state_after seed (3 * place)) ≡ rule_at seed place
drawn_rule seed place = λ i.
    rule_record (drawn_in (sym (one seed (3 * place)) i)) (drawn_in (sym (two seed (3 * place)) i)) (drawn_in (sym (three seed (3 * place)) i))

next : (seed count : ℕ) → first_rules seed (suc count) ≡ first_rules seed count ++ rule_at seed count ∷ []
unfolding first_rules
next seed count = refl

no_rules : (seed : ℕ) → first_rules seed 0 ≡ []
unfolding first_rules
no_rules seed = refl

-- so many rules are drawn
pub record HasDrawn (seed place : ℕ) (rows : List PlainRecord) (state : ℕ) : Type 0 where
  pub rules : rows ≡ first_rules seed place
  pub in_class : All IsIn rows
  pub count : length rows ≡ place
  pub behind : state ≡ state_after seed (3 * place)

pub begins : (seed : ℕ) (rows : List PlainRecord) → rows ≡ [] → HasDrawn seed 0 rows seed
begins seed rows e = record {
  rules = e ∙ sym (no_rules seed);
  in_class = rw e (All-nil IsIn);
  count = ap length e;
  behind = sym (none seed);
}

pub goes_on : (seed place : ℕ) (rows after : List PlainRecord) (state next_one : ℕ) (r : PlainRecord) → HasDrawn seed place rows state
    → r ≡ rule_from state → next_one ≡ after_three state → after ≡ rows ++ r ∷ [] → HasDrawn seed (place + 1) after next_one
goes_on seed place rows after state next_one r h is behind e =
    let step : place + 1 ≡ suc place = omega arith in
    let rule : r ≡ rule_at seed place = is ∙ (ap rule_from h.behind ∙ drawn_rule seed place) in
    let same : after ≡ first_rules seed (place + 1) =
    e ∙ ((λ i. h.rules i ++ rule i ∷ []) ∙ (sym (next seed place) ∙ ap (λ n. first_rules seed n) (sym step))) in
    let class : r.class ≡ 1 = ap (λ (x : PlainRecord). x.class) is in
    let all : All IsIn (rows ++ r ∷ []) = All-push IsIn rows r h.in_class class in
    record {
      rules = same;
      in_class = rw e all;
      count = omega (arith, ap length e, length_push rows r, h.count);
      behind = behind ∙ (ap after_three h.behind ∙ sym (behind_rule seed place));
    }
