use Rattle.std.proofs.Common.{◌≡◌, ◌+◌, [], drop, sym, ap, ◌∙◌, arith}
use Rattle.std.proofs.lemmas.List.{drop_all}
use Rattle.trigger_codec.specs.Canonical.{Run, longer_run, longest_run}
use Rattle.trigger_codec.specs.Seen.{run_seen}
use Rattle.trigger_codec.proofs.RunLemmas.{longer-assoc, longest_more, longest_last, longest_within}
use Rattle.trigger_codec.proofs.runs.longest_run.Goals as goal
use Rattle.trigger_codec.proofs.runs.longest_run.Goals.{After-loop-place}

pub loop-place-init : goal.loop-place-init
loop-place-init c = longest_more c.args.words.now 0 (omega (arith, c.told-words)) ∙ ap (λ (r : Run). longer_run r (longest_run 1 (drop 1 c.args.words.now))) (sym c.run_at-run.ensures)

pub loop-place-preserved : goal.loop-place-preserved
loop-place-preserved c =
    let words = c.args.words.now in
    let place = c.loop-place.place in
    let rest : Run = longest_run (place + 1) (drop (place + 1) words) in
    c.loop-place.invariant
    ∙ ap (longer_run (run_seen c.loop-place.run)) (longest_more words place (omega (arith, c.told-words, c.loop-place-test.true)) ∙ ap (λ (r : Run). longer_run r rest) (sym c.run_at.ensures))
    ∙ sym (longer-assoc (run_seen c.loop-place.run) (run_seen c.run_at.result) rest)
    ∙ ap (λ (r : Run). longer_run r rest) (sym c.longer-run.ensures)

longest : (c : After-loop-place) → run_seen c.loop-place.run ≡ longest_run 0 c.args.words.now
longest c =
    let none : drop c.loop-place.place c.args.words.now ≡ [] = drop_all c.loop-place.place c.args.words.now (omega (arith, c.told-words, c.loop-place-test.false)) in
    sym (c.loop-place.invariant ∙ ap (λ ws. longer_run (run_seen c.loop-place.run) (longest_run c.loop-place.place ws)) none ∙ longest_last (run_seen c.loop-place.run) c.loop-place.place)

pub returns : goal.returns
returns c = record {
  longest = longest c;
  within = omega (arith, longest_within 0 c.args.words.now, ap (λ (r : Run). r.place + r.long) (longest c));
}
