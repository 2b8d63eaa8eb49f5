use Rattle.std.proofs.Common.{◌≡◌, ◌∷◌, codes, map, string_bytes, take}
use Rattle.rpz_words.proofs.reading.with_program_name.Given as goal

abbrev pub invariant-loop-word : goal.invariant-loop-word
invariant-loop-word l = map (λ word. word.now) l.argv.items ≡ codes "rpz" ∷ map string_bytes (take l.word-index l.words)
