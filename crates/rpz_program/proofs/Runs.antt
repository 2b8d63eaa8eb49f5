-- Parts of a server's run.
use Rattle.std.proofs.Common.{◌≡◌, ℕ, List, [], ◌∷◌, ◌++◌, length, Bool, true, false, Option, Some, Result, Ok, Err, refl, sym, ◌∙◌, ap, subst, arith, inl, inr}
use Rattle.std.specs.Prelude.{IfOk, OnErr, OnOk, ◌⊎◌}
use Rattle.std.proofs.lemmas.List.{append-nil}
use Rattle.policy_override.specs.ZoneSet.{origins_in}
use Rattle.edge_io.specs.Chain.{Stage}
use Rattle.edge_io.specs.Edge.{WritesPrefix, appended}
use Rattle.edge_io.specs.Told.{ComesNext}
use Rattle.edge_io.proofs.Written.{both_written, message_cut}
use Rattle.server_io.specs.Wired.{PlainWires}
use Rattle.policy_publish.specs.Lists.{Published}
use Rattle.policy_feed.specs.Feed.{Feed, PlainFeeder, first_feeder}
use Rattle.rpz_workers.specs.declared.report.Report.{Report}
use Rattle.rpz_program.specs.Serving.{Gathering, IsWhole, ServesBy, StopsIn, Wrote, sums_line}
use Rattle.rpz_program.specs.Sums.{GathersAll, no_sums}
use Rattle.rpz_program.specs.Turning.{Advances, OrdersFirst, Reaches, RunsAll, StopsAdvancing, StopsFirst, StopsReaching, StopsRunning}
use Rattle.rpz_program.specs.Turns.{ServerStart, ServerState, RunTurn, RunsOn, RunsTo, Turns, inlets_told, linked_told, nothing_published, opens_at_once, run_lines, server_state, starts, with_turn_notices}
use Rattle.rpz_program.specs.declared.plan.ServerPlan.{ServerPlan}
use Rattle.rpz_program.specs.declared.progress.Progress.{Progress}
use Rattle.rpz_program.specs.declared.serve_error.ServeError.{ServeError}
use Rattle.rpz_program.specs.declared.sums.Sums.{Sums}
use Rattle.rpz_program.proofs.Outputs.{wrote_prefix}
use Rattle.rpz_program.proofs.Turned.{chained, end_both, lines_behind, starts_both, sums_both}

-- behind the first orders
abbrev pub begun_at : Feed → ServerState → ServerState
begun_at feed before = record { feed = feed; moments = before.moments; second = before.second; is_open = before.is_open }

-- the workers were started
abbrev pub started_from : ServerPlan → ServerState → ServerState
started_from plan b = server_state b.feed.feeder (inlets_told plan.workers (length plan.listen) (linked_told plan.upstream plan.askers b.feed.told)) b.feed.faults b.feed.ids b.moments b.second true

abbrev pub start_at : ServerState → Stage ServerState RunTurn
start_at b = record { turn = starts; before = b }

-- the lines of turns behind the start of the workers
lines_from : (lines : List ℕ) (b : ServerState) (first next : List (Stage ServerState RunTurn)) → (lines ++ run_lines first) ++ run_lines next ≡ lines ++ run_lines (next ++ start_at b ∷ first)
lines_from lines b first next = ap (λ (l : List ℕ). (lines ++ l) ++ run_lines next) (sym (append-nil (run_lines first))) ∙ lines_behind lines (start_at b ∷ first) next

-- turns from the second of the first orders on
pub reach_at : (plan : ServerPlan) (second : ℕ) (feed : Feed) (moments : Option (List ℕ)) (is_open : Bool) (b : ServerState) (p0 p1 : Progress) (h0 h1 : Option (List ℕ)) → p0.second ≡ second → Reaches plan second (record { feed = feed; moments = moments; second = p0.second; is_open = is_open }) p0 h0 b p1 h1
    → Reaches plan second (record { feed = feed; moments = moments; second = second; is_open = is_open }) p0 h0 b p1 h1
reach_at plan second feed moments is_open b p0 p1 h0 h1 e reaches =
    subst (λ (n : ℕ). Reaches plan second (let s : ServerState = record { feed = feed; moments = moments; second = n; is_open = is_open } in s) p0 h0 b p1 h1) e reaches

pub stop_at : (plan : ServerPlan) (second : ℕ) (feed : Feed) (moments : Option (List ℕ)) (is_open : Bool) (p0 : Progress) (h0 h1 : Option (List ℕ)) → p0.second ≡ second → StopsReaching plan second (record { feed = feed; moments = moments; second = p0.second; is_open = is_open }) p0 h0 h1
    → StopsReaching plan second (record { feed = feed; moments = moments; second = second; is_open = is_open }) p0 h0 h1
stop_at plan second feed moments is_open p0 h0 h1 e stops =
    subst (λ (n : ℕ). StopsReaching plan second (let s : ServerState = record { feed = feed; moments = moments; second = n; is_open = is_open } in s) p0 h0 h1) e stops

module _ (plan : ServerPlan) (second : ℕ) (before : ServerState) (held : Option (List ℕ)) where
  -- all turns of a run
  pub all_run : (feed : Feed) (b d : ServerState) (p0 p1 p2 : Progress) (h0 h1 h2 : Option (List ℕ)) (dropped : ℕ) → OrdersFirst second before.feed held feed p0 h0 → Reaches plan second (begun_at feed before) p0 h0 b p1 h1
      → b.is_open ≡ true → Advances false (started_from plan b) p1 h1 (Some dropped) d p2 h2 → RunsAll plan second before held d p2 dropped h2
  all_run feed b d p0 p1 p2 h0 h1 h2 dropped first one was_opened two =
      let chain = chained (Turns plan second) (begun_at feed before) (started_from plan b) d (start_at b ∷ one.stages) two.stages (record { is_open = was_opened; after_is = refl }, one.chain) (two.chain plan second tt) in
      record {
        stages = two.stages ++ start_at b ∷ one.stages;
        lines = first.lines ++ run_lines (two.stages ++ start_at b ∷ one.stages);
        runs = record { begun = begun_at feed before; first = first.lines; orders = first.orders; moments = refl; second_is = refl; is_open = refl; chain = chain; lines_are = refl };
        started = let both = starts_both (start_at b ∷ one.stages) two.stages in let x = one.starts in let y = two.starts in omega (arith, both, x, y);
        ended = end_both (Some dropped) (start_at b ∷ one.stages) two.stages two.ends;
        notices = two.notices ∙ ap (λ (s : Sums). with_turn_notices s two.stages) (one.notices ∙ ap (λ (s : Sums). with_turn_notices s one.stages) first.notices) ∙ sym (sums_both no_sums (start_at b ∷ one.stages) two.stages);
        wrote = subst (λ (l : List ℕ). Wrote p2.is_cut l held h2) (lines_from first.lines b one.stages two.stages) (two.wrote (first.lines ++ run_lines one.stages) held (one.wrote first.lines held first.wrote));
      }

  -- a run that ended in the first orders
  pub stopped_first : (h1 : Option (List ℕ)) → StopsFirst second before.feed held h1 → StopsRunning plan second before held h1
  stopped_first h1 (inl same) = inl same
  stopped_first h1 (inr (lines, after, orders, part)) =
      inr (record {
        stages = [];
        lines = lines;
        last = begun_at after before;
        runs = record { begun = begun_at after before; first = lines; orders = orders; moments = refl; second_is = refl; is_open = refl; chain = refl; lines_are = sym (append-nil lines) };
        written = part;
      })

  -- one that ended before the workers were started
  pub stopped_in_pass : (feed : Feed) (p0 : Progress) (h0 h1 : Option (List ℕ)) → OrdersFirst second before.feed held feed p0 h0 → StopsReaching plan second (begun_at feed before) p0 h0 h1 → StopsRunning plan second before held h1
  stopped_in_pass feed p0 h0 h1 first one =
      inr (record {
        stages = one.stages;
        lines = first.lines ++ run_lines one.stages;
        last = one.last;
        runs = record { begun = begun_at feed before; first = first.lines; orders = first.orders; moments = refl; second_is = refl; is_open = refl; chain = one.chain; lines_are = refl };
        written = one.written first.lines held first.wrote;
      })

  -- one that ended where the workers were to be started
  pub stopped_at_start : (feed : Feed) (b : ServerState) (p0 p1 : Progress) (h0 h1 h2 : Option (List ℕ)) → OrdersFirst second before.feed held feed p0 h0 → Reaches plan second (begun_at feed before) p0 h0 b p1 h1 → h2 ≡ h1 → StopsRunning plan second before held h2
  stopped_at_start feed b p0 p1 h0 h1 h2 first one same =
      inr (record {
        stages = one.stages;
        lines = first.lines ++ run_lines one.stages;
        last = b;
        runs = record { begun = begun_at feed before; first = first.lines; orders = first.orders; moments = refl; second_is = refl; is_open = refl; chain = one.chain; lines_are = refl };
        written = subst (λ (h : Option (List ℕ)). WritesPrefix (first.lines ++ run_lines one.stages) held h) (sym same) (wrote_prefix p1.is_cut (first.lines ++ run_lines one.stages) held h1 (one.wrote first.lines held first.wrote));
      })

  -- one that ended behind the start of the workers
  pub stopped_in_turns : (feed : Feed) (b : ServerState) (p0 p1 : Progress) (h0 h1 h2 : Option (List ℕ)) → OrdersFirst second before.feed held feed p0 h0 → Reaches plan second (begun_at feed before) p0 h0 b p1 h1
      → b.is_open ≡ true → StopsAdvancing false (started_from plan b) p1 h1 h2 → StopsRunning plan second before held h2
  stopped_in_turns feed b p0 p1 h0 h1 h2 first one was_opened two =
      let chain = chained (Turns plan second) (begun_at feed before) (started_from plan b) two.last (start_at b ∷ one.stages) two.stages (record { is_open = was_opened; after_is = refl }, one.chain) (two.chain plan second tt) in
      inr (record {
        stages = two.stages ++ start_at b ∷ one.stages;
        lines = first.lines ++ run_lines (two.stages ++ start_at b ∷ one.stages);
        last = two.last;
        runs = record { begun = begun_at feed before; first = first.lines; orders = first.orders; moments = refl; second_is = refl; is_open = refl; chain = chain; lines_are = refl };
        written = subst (λ (l : List ℕ). WritesPrefix l held h2) (lines_from first.lines b one.stages two.stages) (two.written (first.lines ++ run_lines one.stages) held (one.wrote first.lines held first.wrote));
      })

  -- the turns behind the start of the workers, however they ended
  pub all_turns : (result : Result (Progress × ℕ) ServeError) (feed : Feed) (b s : ServerState) (d : Progress × ℕ → ServerState) (p0 p1 : Progress) (h0 h1 h2 : Option (List ℕ)) → OrdersFirst second before.feed held feed p0 h0 → Reaches plan second (begun_at feed before) p0 h0 b p1 h1
      → b.is_open ≡ true → s ≡ started_from plan b → IfOk result (λ done. Advances false s p1 h1 (Some done.1) (d done) done.0 h2) → IfOk result (λ done. RunsAll plan second before held (d done) done.0 done.1 h2)
  all_turns (Ok done) feed b s d p0 p1 h0 h1 h2 first one was_opened same two =
      all_run feed b (d done) p0 p1 done.0 h0 h1 h2 done.1 first one was_opened (subst (λ (x : ServerState). Advances false x p1 h1 (Some done.1) (d done) done.0 h2) same two)
  all_turns (Err why) feed b s d p0 p1 h0 h1 h2 first one was_opened same two = tt

  pub some_turns : (result : Result (Progress × ℕ) ServeError) (feed : Feed) (b s : ServerState) (p0 p1 : Progress) (h0 h1 h2 : Option (List ℕ)) → OrdersFirst second before.feed held feed p0 h0 → Reaches plan second (begun_at feed before) p0 h0 b p1 h1
      → b.is_open ≡ true → s ≡ started_from plan b → OnErr result (StopsAdvancing false s p1 h1 h2) → OnErr result (StopsRunning plan second before held h2)
  some_turns (Ok done) feed b s p0 p1 h0 h1 h2 first one was_opened same two = tt
  some_turns (Err why) feed b s p0 p1 h0 h1 h2 first one was_opened same two =
      stopped_in_turns feed b p0 p1 h0 h1 h2 first one was_opened (subst (λ (x : ServerState). StopsAdvancing false x p1 h1 h2) same two)

  -- the last line of a run whose turns were all taken
  whole_of : (turns : Option ℕ) (gathering : Gathering) (d : ServerState) (p : Progress) (dropped : ℕ) (h1 : Option (List ℕ)) (sums : Sums) (all : RunsAll plan second before held d p dropped h1) → GathersAll gathering.waiting gathering.before gathering.after sums
      → IsWhole turns all.stages gathering (sums_line turns sums p.notices dropped)
  whole_of turns gathering d p dropped h1 sums all gathers =
      record { started = all.started; dropped = dropped; ended = all.ended; sums = sums; gathers = gathers; line_is = ap (λ (s : Sums). sums_line turns sums s dropped) all.notices }

  -- a run is done
  pub run_done : (turns : Option ℕ) (gathering : Gathering) (d : ServerState) (p : Progress) (dropped : ℕ) (h1 h2 : Option (List ℕ)) (sums : Sums) (told : Option PlainWires) → RunsAll plan second before held d p dropped h1 → GathersAll gathering.waiting gathering.before gathering.after sums
      → p.is_cut ≡ false → h2 ≡ appended h1 (sums_line turns sums p.notices dropped) → told ≡ d.feed.told → ServesBy (RunsOn plan second before) turns gathering held h2 told
  run_done turns gathering d p dropped h1 h2 sums told all gathers whole line told_is =
      let wrote : Wrote false all.lines held h1 = subst (λ (b : Bool). Wrote b all.lines held h1) whole all.wrote in
      record {
        stages = all.stages;
        lines = all.lines;
        last = d;
        run = all.runs;
        line = sums_line turns sums p.notices dropped;
        whole = whole_of turns gathering d p dropped h1 sums all gathers;
        written = both_written held h1 h2 all.lines (sums_line turns sums p.notices dropped) wrote line;
        told_is = told_is;
      }

  -- a run whose turns were all taken, and whose last line was not written whole
  pub run_cut : (turns : Option ℕ) (gathering : Gathering) (d : ServerState) (p : Progress) (dropped : ℕ) (h1 h2 : Option (List ℕ)) (sums : Sums) → RunsAll plan second before held d p dropped h1 → GathersAll gathering.waiting gathering.before gathering.after sums
      → ((p.is_cut ≡ true) × (h2 ≡ h1)) ⊎ ((p.is_cut ≡ false) × WritesPrefix (sums_line turns sums p.notices dropped) h1 h2) → StopsIn (RunsOn plan second before) turns gathering held h2
  run_cut turns gathering d p dropped h1 h2 sums all gathers (inl (cut, same)) =
      inr (record {
        stages = all.stages;
        lines = all.lines;
        last = d;
        run = all.runs;
        written = inl (subst (λ (h : Option (List ℕ)). WritesPrefix all.lines held h) (sym same) (wrote_prefix p.is_cut all.lines held h1 all.wrote));
      })
  run_cut turns gathering d p dropped h1 h2 sums all gathers (inr (whole, part)) =
      let wrote : Wrote false all.lines held h1 = subst (λ (b : Bool). Wrote b all.lines held h1) whole all.wrote in
      inr (record {
        stages = all.stages;
        lines = all.lines;
        last = d;
        run = all.runs;
        written = inr (sums_line turns sums p.notices dropped, whole_of turns gathering d p dropped h1 sums all gathers, message_cut held h1 h2 all.lines (sums_line turns sums p.notices dropped) wrote part);
      })

  -- a run that ended before all turns were taken
  pub run_stopped : (turns : Option ℕ) (gathering : Gathering) (h1 : Option (List ℕ)) → StopsRunning plan second before held h1 → StopsIn (RunsOn plan second before) turns gathering held h1
  run_stopped turns gathering h1 (inl same) = inl same
  run_stopped turns gathering h1 (inr some) =
      inr (record { stages = some.stages; lines = some.lines; last = some.last; run = some.runs; written = inl some.written })

-- what holds of each value holds of one
pub if_all : {X E Y : Type 0} (result : Result X E) (P : X → Y → Type 0) (y : Y) → IfOk result (λ x. (z : Y) → P x z) → IfOk result (λ x. P x y)
if_all (Ok x) P y h = h y
if_all (Err e) P y h = tt

pub err_all : {X E Y : Type 0} (result : Result X E) (P : Y → Type 0) (y : Y) → OnErr result ((z : Y) → P z) → OnErr result (P y)
err_all (Ok x) P y h = h
err_all (Err e) P y h = h y

-- the state behind the start of the workers
pub start_is : (plan : ServerPlan) (feeder : PlainFeeder) (told told_then : Option PlainWires) (faults faults_then : ℕ) (ids ids_then moments moments_then : Option (List ℕ)) (second : ℕ) → told_then ≡ inlets_told plan.workers (length plan.listen) (linked_told plan.upstream plan.askers told) → faults_then ≡ faults → ids_then ≡ ids → moments_then ≡ moments
    → server_state feeder told_then faults_then ids_then moments_then second true ≡ started_from plan (server_state feeder told faults ids moments second true)
start_is plan feeder told told_then faults faults_then ids ids_then moments moments_then second t f i m = rw (t, f, i, m) refl

-- what is gathered of workers that were started before
pub gathers_from : (waiting waiting_then : ℕ) (before before_then after : Option (List Report)) (sums : Sums) → waiting_then ≡ waiting → before_then ≡ before → GathersAll waiting_then before_then after sums → GathersAll waiting before after sums
gathers_from waiting waiting_then before before_then after sums w b all =
    subst (λ (n : ℕ). GathersAll n before after sums) w (subst (λ (x : Option (List Report)). GathersAll waiting_then x after sums) b all)

-- what follows where there is no error
pub on_ok : {X E P Q : Type 0} (result : Result X E) → (P → Q) → OnOk result P → OnOk result Q
on_ok (Ok x) more h = more h
on_ok (Err e) more h = h

-- a run of one kind is one of another
pub serves_too : (one other : List (Stage ServerState RunTurn) → List ℕ → ServerState → Type 0) (turns : Option ℕ) (gathering : Gathering) (before after : Option (List ℕ)) (told : Option PlainWires)
    → ((stages : List (Stage ServerState RunTurn)) (lines : List ℕ) (last : ServerState) → one stages lines last → other stages lines last) → ServesBy one turns gathering before after told → ServesBy other turns gathering before after told
serves_too one other turns gathering before after told each s =
    record { stages = s.stages; lines = s.lines; last = s.last; run = each s.stages s.lines s.last s.run; line = s.line; whole = s.whole; written = s.written; told_is = s.told_is }

pub stops_too : (one other : List (Stage ServerState RunTurn) → List ℕ → ServerState → Type 0) (turns : Option ℕ) (gathering : Gathering) (before after : Option (List ℕ))
    → ((stages : List (Stage ServerState RunTurn)) (lines : List ℕ) (last : ServerState) → one stages lines last → other stages lines last) → StopsIn one turns gathering before after → StopsIn other turns gathering before after
stops_too one other turns gathering before after each (inl same) = inl same
stops_too one other turns gathering before after each (inr s) =
    inr (record { stages = s.stages; lines = s.lines; last = s.last; run = each s.stages s.lines s.last s.run; written = s.written })

-- a run from where a server begins
pub begins_so : (start : ServerStart) (feeder : PlainFeeder) (published : Published) (second : ℕ) (moments : Option (List ℕ)) → feeder ≡ first_feeder start.allowed (origins_in start.zones) start.primaries published second → published ≡ nothing_published start.zones → ComesNext start.moments second moments
    → (stages : List (Stage ServerState RunTurn)) (lines : List ℕ) (last : ServerState) → RunsOn start.plan second (server_state feeder start.told start.faults start.ids moments second (opens_at_once start.plan)) stages lines last → RunsTo start stages lines last
begins_so start feeder published second moments feeder_is published_is moment stages lines last runs =
    let same : feeder ≡ first_feeder start.allowed (origins_in start.zones) start.primaries (nothing_published start.zones) second =
    feeder_is ∙ ap (λ (p : Published). first_feeder start.allowed (origins_in start.zones) start.primaries p second) published_is in
    record {
      second = second;
      moments = moments;
      moment = moment;
      runs = subst (λ (f : PlainFeeder). RunsOn start.plan second (server_state f start.told start.faults start.ids moments second (opens_at_once start.plan)) stages lines last) same runs;
    }
