use Rattle.std.proofs.Common.{◌≤◌, Some, sym, ap, ◌∙◌}
use Rattle.std.specs.Option.{option_map}
use Rattle.ip_prefix.specs.Prefix.{PlainPrefix}
use Rattle.trie_keys.specs.declared.marked.Marked.{Marked}
use Rattle.prefix_index.specs.Bits.{PlainBits, bits_keys}
use Rattle.prefix_index.specs.Longest.{longest_acting}
use Rattle.prefix_index.specs.Ranked.{prefix_four, prefix_six}
use Rattle.prefix_index.specs.Walk.{acts_at, is_hit, last_hit}
use Rattle.prefix_index.proofs.Finding.{longest_four, longest_six}
use Rattle.prefix_index.proofs.Last.{last_all}
use Rattle.prefix_index.proofs.map.PrefixTrie.longest.Goals as goal

pub prefix-requires : goal.prefix-requires
prefix-requires g c = last_all (is_hit (bits_keys 32) (acts_at g.M.Mark.acts) c.new.result) (λ y. 1 ≤ y.0.len) c.self.inside.four c.in-Some.found c.self.invariant.0 (sym c.in-Some.ensures.found)

pub returns-in-Some-clause-found : goal.returns-in-Some-clause-found
returns-in-Some-clause-found g c =
    let f = λ (e : PlainBits × Marked g.row.N.Denot g.row.M.Denot). let r : PlainPrefix × Marked g.row.N.Denot g.row.M.Denot = (prefix_four e.0, e.1) in r in
    ap (λ (p : PlainPrefix). Some (p, c.in-Some.found.1)) c.prefix.ensures
    ∙ ap (option_map f) c.in-Some.ensures.found
    ∙ ap (λ (key : PlainBits). option_map f (last_hit (bits_keys 32) (acts_at g.M.Mark.acts) key c.self.inside.four)) c.new.ensures
    ∙ longest_four (acts_at g.M.Mark.acts) c.self.inside.four c.self.inside.six c.in-V4.number c.longest.ensures.entries
    ∙ (λ i. longest_acting g.M.Mark.acts (sym c.in-V4.is i) (c.self.view_is i))

pub returns-in-None-clause-found : goal.returns-in-None-clause-found
returns-in-None-clause-found g c =
    let f = λ (e : PlainBits × Marked g.row.N.Denot g.row.M.Denot). let r : PlainPrefix × Marked g.row.N.Denot g.row.M.Denot = (prefix_four e.0, e.1) in r in
    ap (option_map f) c.in-None.ensures.found
    ∙ ap (λ (key : PlainBits). option_map f (last_hit (bits_keys 32) (acts_at g.M.Mark.acts) key c.self.inside.four)) c.new.ensures
    ∙ longest_four (acts_at g.M.Mark.acts) c.self.inside.four c.self.inside.six c.in-V4.number c.longest.ensures.entries
    ∙ (λ i. longest_acting g.M.Mark.acts (sym c.in-V4.is i) (c.self.view_is i))

pub prefix-requires-in-Some-longest : goal.prefix-requires-in-Some-longest
prefix-requires-in-Some-longest g c = last_all (is_hit (bits_keys 128) (acts_at g.M.Mark.acts) c.new-in-V6.result) (λ y. 1 ≤ y.0.len) c.self.inside.six c.in-Some-longest.found c.self.invariant.1 (sym c.in-Some-longest.ensures.found)

pub returns-in-Some-longest-clause-found : goal.returns-in-Some-longest-clause-found
returns-in-Some-longest-clause-found g c =
    let f = λ (e : PlainBits × Marked g.row.N.Denot g.row.M.Denot). let r : PlainPrefix × Marked g.row.N.Denot g.row.M.Denot = (prefix_six e.0, e.1) in r in
    ap (λ (p : PlainPrefix). Some (p, c.in-Some-longest.found.1)) c.prefix-in-Some-longest.ensures
    ∙ ap (option_map f) c.in-Some-longest.ensures.found
    ∙ ap (λ (key : PlainBits). option_map f (last_hit (bits_keys 128) (acts_at g.M.Mark.acts) key c.self.inside.six)) c.new-in-V6.ensures
    ∙ longest_six (acts_at g.M.Mark.acts) c.self.inside.four c.self.inside.six c.in-V6.number c.longest-in-V6.ensures.entries
    ∙ (λ i. longest_acting g.M.Mark.acts (sym c.in-V6.is i) (c.self.view_is i))

pub returns-in-None-longest-clause-found : goal.returns-in-None-longest-clause-found
returns-in-None-longest-clause-found g c =
    let f = λ (e : PlainBits × Marked g.row.N.Denot g.row.M.Denot). let r : PlainPrefix × Marked g.row.N.Denot g.row.M.Denot = (prefix_six e.0, e.1) in r in
    ap (option_map f) c.in-None-longest.ensures.found
    ∙ ap (λ (key : PlainBits). option_map f (last_hit (bits_keys 128) (acts_at g.M.Mark.acts) key c.self.inside.six)) c.new-in-V6.ensures
    ∙ longest_six (acts_at g.M.Mark.acts) c.self.inside.four c.self.inside.six c.in-V6.number c.longest-in-V6.ensures.entries
    ∙ (λ i. longest_acting g.M.Mark.acts (sym c.in-V6.is i) (c.self.view_is i))
