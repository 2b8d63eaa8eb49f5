-- Turns of one server, with the opening of an endpoint that was held back.
use Rattle.std.proofs.Common.{◌≡◌, ℕ, List, [], ◌∷◌, ◌++◌, Bool, true, false, true≢false, Option, Some, None, Result, Ok, Err, refl, sym, ◌∙◌, ap, subst, arith}
use Rattle.std.specs.Prelude.{◌⊎◌, IfOk, IsSome, OnErr, is_none}
use Rattle.std.proofs.lemmas.List.{append-nil}
use Rattle.edge_io.specs.Chain.{Stage}
use Rattle.edge_io.specs.Edge.{WritesPrefix}
use Rattle.server_io.specs.Wired.{PlainWires}
use Rattle.policy_feed.specs.Feed.{PlainFeeder}
use Rattle.policy_feed.specs.Hastening.{IsLoaded}
use Rattle.rpz_program.specs.Serving.{Wrote}
use Rattle.rpz_program.specs.Turning.{Advances, MayTry, Reaches, StopsAdvancing, StopsReaching}
use Rattle.rpz_program.specs.Turns.{IsOver, RunTurn, ServerState, Turns, binds, opened_told, opens_at_once, run_lines, server_state, with_turn_notices}
use Rattle.rpz_program.specs.declared.plan.ServerPlan.{ServerPlan}
use Rattle.rpz_program.specs.declared.progress.Progress.{Progress}
use Rattle.rpz_program.specs.declared.serve_error.ServeError.{ServeError}
use Rattle.rpz_program.specs.declared.sums.Sums.{Sums}
use Rattle.rpz_program.proofs.Outputs.{wrote_prefix}
use Rattle.rpz_program.proofs.Turned.{chained, lines_behind, starts_both, sums_both}

-- a hold that is there lets polls be tried anew
pub may_hold : (hold : Option ℕ) → is_none hold ≡ false → IsSome hold
may_hold None e = absurd (true≢false e)
may_hold (Some seconds) e = refl

-- the state behind the opening
pub opened_is : (plan : ServerPlan) (feeder : PlainFeeder) (told told_then : Option PlainWires) (faults faults_then : ℕ) (ids moments : Option (List ℕ)) (second : ℕ) (is_open : Bool) → told_then ≡ opened_told plan told → faults_then ≡ faults
    → server_state feeder told_then faults_then ids moments second true
    ≡ (let b : ServerState = server_state feeder told faults ids moments second is_open in server_state b.feed.feeder (opened_told plan b.feed.told) b.feed.faults b.feed.ids b.moments b.second true)
opened_is plan feeder told told_then faults faults_then ids moments second is_open t f = rw (t, f) refl

abbrev opening_of : ServerState → Stage ServerState RunTurn
opening_of b = record { turn = binds; before = b }

module _ (plan : ServerPlan) (began : ℕ) where
  -- no turn
  pub reached_nothing : (state : ServerState) (p : Progress) (held : Option (List ℕ)) → Reaches plan began state p held state p held
  reached_nothing state p held =
      record {
        stages = [];
        chain = refl;
        wrote = λ lines first was. subst (λ (l : List ℕ). Wrote p.is_cut l first held) (sym (append-nil lines)) was;
        notices = refl;
        starts = refl;
      }

  -- an endpoint that is not held back
  pub reached_at_once : (feeder : PlainFeeder) (told : Option PlainWires) (faults : ℕ) (ids moments : Option (List ℕ)) (p : Progress) (held : Option (List ℕ)) → opens_at_once plan ≡ true
      → Reaches plan began (server_state feeder told faults ids moments p.second (opens_at_once plan)) p held (server_state feeder told faults ids moments p.second true) p held
  reached_at_once feeder told faults ids moments p held at_once =
      subst (λ (b : Bool). Reaches plan began (server_state feeder told faults ids moments p.second b) p held (server_state feeder told faults ids moments p.second true) p held) (sym at_once)
      (reached_nothing (server_state feeder told faults ids moments p.second true) p held)

  -- turns, and then the opening
  pub opened_behind : (a b c : ServerState) (p q : Progress) (h h1 : Option (List ℕ)) → Advances true a p h None b q h1 → MayTry true plan → b.is_open ≡ false → IsLoaded b.feed.feeder ⊎ IsOver plan.hold began b.second
      → c ≡ server_state b.feed.feeder (opened_told plan b.feed.told) b.feed.faults b.feed.ids b.moments b.second true → Reaches plan began a p h c q h1
  opened_behind a b c p q h h1 one may closed opens_now is =
      record {
        stages = opening_of b ∷ one.stages;
        chain = (record { was_closed = closed; may_open = opens_now; after_is = is }, one.chain plan began may);
        wrote = λ lines first was. subst (λ (l : List ℕ). Wrote q.is_cut (lines ++ l) first h1) (sym (append-nil (run_lines one.stages))) (one.wrote lines first was);
        notices = one.notices;
        starts = let none = one.starts in omega (arith, none);
      }

  -- turns behind these
  pub reached_more : (a b c : ServerState) (p q r : Progress) (h h1 h2 : Option (List ℕ)) (e : Option ℕ) → Reaches plan began a p h b q h1 → Advances false b q h1 e c r h2 → Reaches plan began a p h c r h2
  reached_more a b c p q r h h1 h2 e one two =
      record {
        stages = two.stages ++ one.stages;
        chain = chained (Turns plan began) a b c one.stages two.stages one.chain (two.chain plan began tt);
        wrote = λ lines first was. subst (λ (l : List ℕ). Wrote r.is_cut l first h2) (lines_behind lines one.stages two.stages) (two.wrote (lines ++ run_lines one.stages) first (one.wrote lines first was));
        notices = two.notices ∙ ap (λ (s : Sums). with_turn_notices s two.stages) one.notices ∙ sym (sums_both p.notices one.stages two.stages);
        starts = let both = starts_both one.stages two.stages in let first = one.starts in let next = two.starts in omega (arith, both, first, next);
      }

  -- a run that ended early while the endpoint was held back
  pub stopped_waiting : (a : ServerState) (p : Progress) (h h1 : Option (List ℕ)) → StopsAdvancing true a p h h1 → MayTry true plan → StopsReaching plan began a p h h1
  stopped_waiting a p h h1 one may = record { stages = one.stages; last = one.last; chain = one.chain plan began may; written = one.written }

  -- one whose endpoint could not be opened
  pub stopped_opening : (a b : ServerState) (p q : Progress) (h h1 : Option (List ℕ)) → Advances true a p h None b q h1 → MayTry true plan → StopsReaching plan began a p h h1
  stopped_opening a b p q h h1 one may =
      record {
        stages = one.stages;
        last = b;
        chain = one.chain plan began may;
        written = λ lines first was. wrote_prefix q.is_cut (lines ++ run_lines one.stages) first h1 (one.wrote lines first was);
      }

  -- one that ended early behind the opening
  pub stopped_more : (a b : ServerState) (p q : Progress) (h h1 h2 : Option (List ℕ)) → Reaches plan began a p h b q h1 → StopsAdvancing false b q h1 h2 → StopsReaching plan began a p h h2
  stopped_more a b p q h h1 h2 one two =
      record {
        stages = two.stages ++ one.stages;
        last = two.last;
        chain = chained (Turns plan began) a b two.last one.stages two.stages one.chain (two.chain plan began tt);
        written = λ lines first was. subst (λ (l : List ℕ). WritesPrefix l first h2) (lines_behind lines one.stages two.stages) (two.written (lines ++ run_lines one.stages) first (one.wrote lines first was));
      }

  -- the same, however the turns behind ended
  pub more_reached : (result : Result Progress ServeError) (a b : ServerState) (c : Progress → ServerState) (p q : Progress) (h h1 h2 : Option (List ℕ)) → Reaches plan began a p h b q h1 → IfOk result (λ to. Advances false b q h1 None (c to) to h2) → IfOk result (λ to. Reaches plan began a p h (c to) to h2)
  more_reached (Ok to) a b c p q h h1 h2 one two = reached_more a b (c to) p q to h h1 h2 None one two
  more_reached (Err why) a b c p q h h1 h2 one two = tt

  pub more_stopped : (result : Result Progress ServeError) (a b : ServerState) (p q : Progress) (h h1 h2 : Option (List ℕ)) → Reaches plan began a p h b q h1 → OnErr result (StopsAdvancing false b q h1 h2) → OnErr result (StopsReaching plan began a p h h2)
  more_stopped (Ok to) a b p q h h1 h2 one two = tt
  more_stopped (Err why) a b p q h h1 h2 one two = stopped_more a b p q h h1 h2 one two
