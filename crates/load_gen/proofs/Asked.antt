-- The queries that are drawn, one more.
use Rattle.std.proofs.Common.{◌≡◌, ℕ, suc, ◌+◌, ◌*◌, ◌%◌, List, [], ◌∷◌, ◌++◌, length, refl, sym, ap, ◌∙◌, arith}
use Rattle.std.proofs.lemmas.List.{length_push}
use Rattle.load_gen.specs.declared.load.LoadQuery.{LoadQuery}
use Rattle.load_gen.specs.Draws.{after_four, drawn_in, state_after}
use Rattle.load_gen.specs.Queries.{first_queries, query_at, query_from, query_of}
use Rattle.load_gen.proofs.Drawn.{behind_query, four, none, one, three, two}

drawn_query : (seed place : ℕ) → query_from ((place + 1) % 65536) (state_after seed (4 * place)) ≡ query_at seed place
drawn_query seed place = λ i.
    query_of ((place + 1) % 65536) (drawn_in (sym (one seed (4 * place)) i)) (drawn_in (sym (two seed (4 * place)) i))
    (drawn_in (sym (three seed (4 * place)) i)) (drawn_in (sym (four seed (4 * place)) i))

next : (seed count : ℕ) → first_queries seed (suc count) ≡ first_queries seed count ++ query_at seed count ∷ []
unfolding first_queries
next seed count = refl

no_queries : (seed : ℕ) → first_queries seed 0 ≡ []
unfolding first_queries
no_queries seed = refl

-- so many queries are drawn
pub record HasAsked (seed place : ℕ) (queries : List LoadQuery) (state : ℕ) : Type 0 where
  pub queries_are : queries ≡ first_queries seed place
  pub count : length queries ≡ place
  pub behind : state ≡ state_after seed (4 * place)

pub begins : (seed : ℕ) (queries : List LoadQuery) → queries ≡ [] → HasAsked seed 0 queries seed
begins seed queries e = record {
  queries_are = e ∙ sym (no_queries seed);
  count = ap length e;
  behind = sym (none seed);
}

pub goes_on : (seed place : ℕ) (queries after : List LoadQuery) (state next_one : ℕ) (q : LoadQuery) → HasAsked seed place queries state
    → q ≡ query_from ((place + 1) % 65536) state → next_one ≡ after_four state → after ≡ queries ++ q ∷ [] → HasAsked seed (place + 1) after next_one
goes_on seed place queries after state next_one q h is behind e =
    let step : place + 1 ≡ suc place = omega arith in
    let query : q ≡ query_at seed place = is ∙ (ap (query_from ((place + 1) % 65536)) h.behind ∙ drawn_query seed place) in
    record {
      queries_are = e ∙ ((λ i. h.queries_are i ++ query i ∷ []) ∙ (sym (next seed place) ∙ ap (λ n. first_queries seed n) (sym step)));
      count = omega (arith, ap length e, length_push queries q, h.count);
      behind = behind ∙ (ap after_four h.behind ∙ sym (behind_query seed place));
    }
