-- Turns, one behind the other.
use Rattle.std.proofs.Common.{◌≡◌, ◌≤◌, ◌+◌, ◌*◌, ℕ, suc, List, [], ◌∷◌, ◌++◌, Bool, true, false, true≢false, Option, Some, None, refl, sym, ◌∙◌, ap, subst, append_assoc, add-one, arith}
use Rattle.std.specs.Prelude.{IsSome}
use Rattle.std.specs.Option.{option_map}
use Rattle.std.proofs.Math.Nat.{mul-suc}
use Rattle.std.proofs.lemmas.List.{append-nil}
use Rattle.edge_io.specs.Chain.{Chain, Stage}
use Rattle.edge_io.specs.Edge.{Rose, WritesPrefix}
use Rattle.edge_io.specs.Told.{ComesNext}
use Rattle.edge_io.specs.declared.endpoint.Endpoint.{Endpoint}
use Rattle.server_io.specs.Wired.{PlainWires, with_inlet, with_linked}
use Rattle.server_io.specs.declared.wake.Wake.{Wake}
use Rattle.server_io.specs.declared.wake.Wake.TheVariants as wake
use Rattle.policy_feed.specs.Feed.{PlainFeeder, feed_of}
use Rattle.policy_feed.specs.Waking.{TakesWake}
use Rattle.policy_feed.specs.declared.notice.Notice.{Notice}
use Rattle.rpz_program.specs.Serving.{Wrote}
use Rattle.rpz_program.specs.Turning.{Advances, EndsIf, MayTry, StopsAdvancing, WakesUp, ended_by}
use Rattle.rpz_program.specs.Turns.{ServerState, RunTurn, TakesNext, Turns, inlet_told, inlets_told, linked_told, run_lines, server_state, start_count, turn_lines, wakes, with_turn_notice, with_turn_notices}
use Rattle.rpz_program.specs.declared.plan.ServerPlan.{ServerPlan}
use Rattle.rpz_program.specs.declared.progress.Progress.{Progress}
use Rattle.rpz_program.specs.declared.sums.Sums.{Sums}
use Rattle.rpz_program.proofs.Outputs.{wrote_nothing}

-- two chains, one behind the other
pub chained : {X T : Type 0} (step : X → T → X → Type 0) (a b c : X) (first next : List (Stage X T)) → Chain step a first b → Chain step b next c → Chain step a (next ++ first) c
chained step a b c first [] one two = let P : _ → Type 0 = λ x. Chain step a first x in subst P (sym two) one
chained step a b c first (s ∷ ss) one two = (two.0, chained step a b s.before first ss one two.1)

pub lines_both : (first next : List (Stage ServerState RunTurn)) → run_lines (next ++ first) ≡ run_lines first ++ run_lines next
lines_both first [] = sym (append-nil (run_lines first))
lines_both first (s ∷ ss) = ap (λ l. l ++ turn_lines s.turn) (lines_both first ss) ∙ append_assoc (run_lines first) (run_lines ss) (turn_lines s.turn)

pub sums_both : (sums : Sums) (first next : List (Stage ServerState RunTurn)) → with_turn_notices sums (next ++ first) ≡ with_turn_notices (with_turn_notices sums first) next
sums_both sums first [] = refl
sums_both sums first (s ∷ ss) = ap (λ x. with_turn_notice x s.turn) (sums_both sums first ss)

pub starts_both : (first next : List (Stage ServerState RunTurn)) → start_count (next ++ first) ≡ start_count next + start_count first
starts_both first [] = omega arith
starts_both first (s ∷ ss) = let so_far = starts_both first ss in omega (arith, so_far)

pub end_both : (ended : Option ℕ) (first next : List (Stage ServerState RunTurn)) → EndsIf ended next → EndsIf ended (next ++ first)
end_both None first next h = tt
end_both (Some dropped) first [] h = absurd h
end_both (Some dropped) first (s ∷ ss) h = h

-- lines, and those of turns, and those of turns behind these
pub lines_behind : (lines : List ℕ) (first next : List (Stage ServerState RunTurn)) → (lines ++ run_lines first) ++ run_lines next ≡ lines ++ run_lines (next ++ first)
lines_behind lines first next = append_assoc lines (run_lines first) (run_lines next) ∙ ap (λ l. lines ++ l) (sym (lines_both first next))

-- no turn
pub advanced_nothing : (tries : Bool) (state : ServerState) (p : Progress) (held : Option (List ℕ)) → Advances tries state p held None state p held
advanced_nothing tries state p held =
    record {
      stages = [];
      chain = λ plan began may. refl;
      wrote = λ lines first was. subst (λ (l : List ℕ). Wrote p.is_cut l first held) (sym (append-nil lines)) was;
      notices = refl;
      starts = refl;
      ends = tt;
    }

-- one turn
pub advanced_once : (tries : Bool) (before after : ServerState) (from to : Progress) (held held_then : Option (List ℕ)) (second : ℕ) (woken : Wake) (lines : List ℕ) (what : Option Notice) → ((plan : ServerPlan) → MayTry tries plan → TakesNext plan before second woken lines what after)
    → ((before_lines : List ℕ) (first : Option (List ℕ)) → Wrote from.is_cut before_lines first held → Wrote to.is_cut (before_lines ++ lines) first held_then) → to.notices ≡ with_turn_notice from.notices (wakes second woken lines what) → Advances tries before from held (ended_by woken) after to held_then
advanced_once tries before after from to held held_then second woken lines what takes wrote notices =
    record {
      stages = record { turn = wakes second woken lines what; before = before } ∷ [];
      chain = λ plan began may. (takes plan may, refl);
      wrote = wrote;
      notices = notices;
      starts = refl;
      ends = ends_by woken second lines what before;
    }
  where
    ends_by : (woken : Wake) (second : ℕ) (lines : List ℕ) (what : Option Notice) (before : ServerState) → EndsIf (ended_by woken) (record { turn = wakes second woken lines what; before = before } ∷ [])
    ends_by (wake.Ended dropped) second lines what before = refl
    ends_by wake.Due second lines what before = tt
    ends_by (wake.Frame order bytes) second lines what before = tt
    ends_by (wake.Over order why) second lines what before = tt
    ends_by (wake.Notify peer transport bytes) second lines what before = tt

-- polls may be tried anew where that is said
may_some : (tries : Bool) (plan : ServerPlan) → MayTry tries plan → tries ≡ true → IsSome plan.hold
may_some true plan may e = may
may_some false plan may e = absurd (true≢false (sym e))

-- a turn from its parts
pub turned : (tries anew : Bool) (feeder feeder_then : PlainFeeder) (told told_mid told_then : Option PlainWires) (faults faults_mid faults_then : ℕ) (ids ids_then moments moments_then : Option (List ℕ)) (second was : ℕ) (is_open : Bool) (woken : Wake) (lines : List ℕ) (what : Option Notice) → WakesUp woken told told_mid faults faults_mid → ComesNext moments second moments_then
    → (anew ≡ true → tries ≡ true) → TakesWake second anew (feed_of feeder told_mid faults_mid ids) woken lines what (feed_of feeder_then told_then faults_then ids_then)
    → (plan : ServerPlan) → MayTry tries plan → TakesNext plan (server_state feeder told faults ids moments was is_open) second woken lines what (server_state feeder_then told_then faults_then ids_then moments_then second is_open)
turned tries anew feeder feeder_then told told_mid told_then faults faults_mid faults_then ids ids_then moments moments_then second was is_open woken lines what woke moment tried takes plan may =
    record {
      next = woke.next;
      faults = faults_mid;
      count = woke.count;
      blames = woke.blames;
      moment = moment;
      second_is = refl;
      is_open = refl;
      is_anew = anew;
      may_try = λ e. may_some tries plan may (tried e);
      takes = subst (λ (t : Option PlainWires). TakesWake second anew (feed_of feeder t faults_mid ids) woken lines what (feed_of feeder_then told_then faults_then ids_then)) woke.told_is takes;
    }

-- turns of which the end is not asked
pub advanced_open : (tries : Bool) (a b : ServerState) (p q : Progress) (h h1 : Option (List ℕ)) (e : Option ℕ) → Advances tries a p h e b q h1 → Advances tries a p h None b q h1
advanced_open tries a b p q h h1 e one = record { stages = one.stages; chain = one.chain; wrote = one.wrote; notices = one.notices; starts = one.starts; ends = tt }

-- a count that rises where a write fails, over turns and turns behind them
pub rose_both : (one two three : ℕ) (first middle last : Bool) → (middle ≡ true → first ≡ false → Rose one two) → one ≤ two → (last ≡ true → middle ≡ false → Rose two three) → two ≤ three → last ≡ true → first ≡ false → Rose one three
rose_both one two three first true last a le b le2 cut whole = let r = a refl whole in omega (arith, r, le2)
rose_both one two three first false last a le b le2 cut whole = let r = b cut refl in omega (arith, r, le)

-- turns behind turns
pub advanced_both : (tries : Bool) (a b c : ServerState) (p q r : Progress) (h h1 h2 : Option (List ℕ)) (e1 e2 : Option ℕ) → Advances tries a p h e1 b q h1 → Advances tries b q h1 e2 c r h2 → Advances tries a p h e2 c r h2
advanced_both tries a b c p q r h h1 h2 e1 e2 one two =
    record {
      stages = two.stages ++ one.stages;
      chain = λ plan began may. chained (Turns plan began) a b c one.stages two.stages (one.chain plan began may) (two.chain plan began may);
      wrote = λ lines first was. subst (λ (l : List ℕ). Wrote r.is_cut l first h2) (lines_behind lines one.stages two.stages) (two.wrote (lines ++ run_lines one.stages) first (one.wrote lines first was));
      notices = two.notices ∙ ap (λ (s : Sums). with_turn_notices s two.stages) one.notices ∙ sym (sums_both p.notices one.stages two.stages);
      starts = let both = starts_both one.stages two.stages in let first = one.starts in let next = two.starts in omega (arith, both, first, next);
      ends = end_both e2 one.stages two.stages two.ends;
    }

-- a run that ended early, behind turns
pub stopped_behind : (tries : Bool) (a b : ServerState) (p q : Progress) (h h1 h2 : Option (List ℕ)) (e : Option ℕ) → Advances tries a p h e b q h1 → StopsAdvancing tries b q h1 h2 → StopsAdvancing tries a p h h2
stopped_behind tries a b p q h h1 h2 e one two =
    record {
      stages = two.stages ++ one.stages;
      last = two.last;
      chain = λ plan began may. chained (Turns plan began) a b two.last one.stages two.stages (one.chain plan began may) (two.chain plan began may);
      written = λ lines first was. subst (λ (l : List ℕ). WritesPrefix l first h2) (lines_behind lines one.stages two.stages) (two.written (lines ++ run_lines one.stages) first (one.wrote lines first was));
    }

-- one that ended where nothing more was written
pub stopped_now : (tries : Bool) (state : ServerState) (p : Progress) (held held_then : Option (List ℕ)) → held_then ≡ held → StopsAdvancing tries state p held held_then
stopped_now tries state p held held_then same =
    record {
      stages = [];
      last = state;
      chain = λ plan began may. refl;
      written = λ lines first was. subst (λ (h : Option (List ℕ)). WritesPrefix (lines ++ []) first h) (sym same) (wrote_nothing p.is_cut lines [] first held was);
    }

-- one that ended in the write of the lines of a turn
pub stopped_writing : (tries : Bool) (before after : ServerState) (from : Progress) (held held_then : Option (List ℕ)) (second : ℕ) (woken : Wake) (lines : List ℕ) (what : Option Notice) → ((plan : ServerPlan) → MayTry tries plan → TakesNext plan before second woken lines what after)
    → ((before_lines : List ℕ) (first : Option (List ℕ)) → Wrote from.is_cut before_lines first held → WritesPrefix (before_lines ++ lines) first held_then) → StopsAdvancing tries before from held held_then
stopped_writing tries before after from held held_then second woken lines what takes written =
    record {
      stages = record { turn = wakes second woken lines what; before = before } ∷ [];
      last = after;
      chain = λ plan began may. (takes plan may, refl);
      written = written;
    }

-- one more link
pub linked_next : (before now next : Option PlainWires) (at : Endpoint) (n : ℕ) → next ≡ option_map (with_linked at) now → now ≡ linked_told at n before → next ≡ linked_told at (n + 1) before
linked_next before now next at n e so_far = e ∙ ap (option_map (with_linked at)) so_far ∙ sym (linked_more before at n)
  where
    linked_more : (before : Option PlainWires) (at : Endpoint) (n : ℕ) → linked_told at (n + 1) before ≡ option_map (with_linked at) (linked_told at n before)
    linked_more before at n = rw add-one refl

-- the inlets of one more listener
pub inlets_next : (before now next : Option PlainWires) (workers n : ℕ) → next ≡ inlet_told n workers now → now ≡ inlets_told workers n before → next ≡ inlets_told workers (n + 1) before
inlets_next before now next workers n e so_far = e ∙ ap (inlet_told n workers) so_far ∙ sym (inlets_more before workers n)
  where
    inlets_more : (before : Option PlainWires) (workers n : ℕ) → inlets_told workers (n + 1) before ≡ inlet_told n workers (inlets_told workers n before)
    inlets_more before workers n = rw add-one refl

-- the workers of one more listener
pub workers_next : (before now next workers n : ℕ) → next ≡ now + workers → now ≡ before + workers * n → next ≡ before + workers * (n + 1)
workers_next before now next workers n e so_far =
    let more : workers * (n + 1) ≡ workers * n + workers = ap (λ (m : ℕ). workers * m) (add-one n) ∙ mul-suc workers n in
    omega (arith, e, so_far, more)

-- one more inlet
pub inlet_next : (before now next : Option PlainWires) (listener n : ℕ) → next ≡ option_map (with_inlet listener) now → now ≡ inlet_told listener n before → next ≡ inlet_told listener (n + 1) before
inlet_next before now next listener n e so_far = e ∙ ap (option_map (with_inlet listener)) so_far ∙ sym (inlet_more before listener n)
  where
    inlet_more : (before : Option PlainWires) (listener n : ℕ) → inlet_told listener (n + 1) before ≡ option_map (with_inlet listener) (inlet_told listener n before)
    inlet_more before listener n = rw add-one refl
