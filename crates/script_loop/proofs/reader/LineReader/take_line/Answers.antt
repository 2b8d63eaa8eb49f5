use Rattle.std.proofs.Common.{◌+◌, ◌-◌, ◌≤◌, ◌++◌, ◌∷◌, ℕ, List, take, drop, sym, ap, ◌∙◌, arith}
use Rattle.std.proofs.lemmas.List.{length-take-le}
use Rattle.script_loop.proofs.Lines.{buffer_after}
use Rattle.script_loop.proofs.reader.LineReader.take_line.Goals as goal

pub returns-in_ok-extend_from_slice-in-Some-clause-ok : goal.returns-in_ok-extend_from_slice-in-Some-clause-ok
returns-in_ok-extend_from_slice-in-Some-clause-ok c =
    let r = c.self.inside in
    let at = c.in-Some.at in
    let found = c.in-Some.ensures in
    let buffer : List ℕ = take (r.end - r.start) (drop r.start r.chunk) in
    let fits : r.start + (at + 1) ≤ r.end = omega (arith, found.0, length-take-le {A = ℕ}) in
    let front : List ℕ = take at buffer in
    record {
      piece = front;
      no_feed = found.1;
      split = sym c.self.view_is ∙ found.2 ∙ ap (λ (l : List ℕ). front ++ 10 ∷ l) (buffer_after r.chunk r.start r.end (at + 1) fits);
      added = c.in_ok-extend_from_slice-in-Some.ensures.items;
    }
