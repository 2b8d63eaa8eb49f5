use Rattle.std.proofs.Common.{◌∙◌, map}
use Rattle.rpz_words.proofs.Taken.{matched, no_fault, takes_same}
use Rattle.rpz_words.proofs.reading.matches_of.Goals as goal

pub returns : goal.returns
returns c = record {
  ok = tt;
  taken = tt;
  usage = λ cause e h. c.in_default.not-OutOfMemory (c.kind.ensures ∙ c.in-Err.ensures.passes (takes_same _ _ _ c.in_ok-command.ensures h));
  words = λ cause e. cc;
}

pub returns-in-Ok-clause-taken : goal.returns-in-Ok-clause-taken
returns-in-Ok-clause-taken c =
    no_fault _ (map (λ word. word.now) c.args.words.now) c.in_ok-command.ensures c.in-Ok.ensures.kinds

pub returns-in-Ok-clause-ok : goal.returns-in-Ok-clause-ok
returns-in-Ok-clause-ok c =
    matched _ (map (λ word. word.now) c.args.words.now) _ c.in_ok-command.ensures c.in-Ok.ensures.matches
