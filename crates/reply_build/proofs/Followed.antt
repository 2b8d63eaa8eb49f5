-- The aliases that an answer shows of names, one name after another.
use Rattle.std.proofs.Common.{◌≡◌, ℕ, suc, ◌+◌, cond, is_some, List, [], ◌∷◌, ◌++◌, length, map, filter, drop, get_or, Option, Some, None, refl, sym, ap, ◌∙◌}
use Rattle.std.specs.Prelude.{◌<◌, ◌≤◌, OnOk, Result, Ok, Err}
use Rattle.std.specs.Option.{option_to_list}
use Rattle.std.proofs.lemmas.List.{at_drop_more, drop_all, length-map, map-append}
use Rattle.dns_name.specs.Labels.{Name}
use Rattle.dns_record.specs.Record.{PlainRecord}
use Rattle.dns_message.specs.Aged.{aged}
use Rattle.dns_message.specs.Progress.{Writing, writing_after}
use Rattle.dns_message.proofs.ProgressSteps.{writing_append, writing_none}
use Rattle.upstream_link.specs.Chain.{alias_of, chain_aliases}
use Rattle.reply_build.specs.Seen.{has_alias}

count_by : (name : Name) (names : List Name) (others : List PlainRecord) (alias : Option PlainRecord)
    → length names ≡ length others → length (cond (is_some alias) (name ∷ names) names) ≡ length (option_to_list alias ++ others)
count_by name names others None e = e
count_by name names others (Some r) e = ap (λ (n : ℕ). suc n) e

-- as many aliases as there are names that have one
count_followed : (records : List PlainRecord) (names : List Name) → length (filter (has_alias records) names) ≡ length (chain_aliases records names)
count_followed records [] = refl
count_followed records (name ∷ names) =
    count_by name (filter (has_alias records) names) (chain_aliases records names) (alias_of records name) (count_followed records names)

pub count_aged : (seconds : ℕ) (records : List PlainRecord) (names : List Name) → length (filter (has_alias records) names) ≡ length (map (aged seconds) (chain_aliases records names))
count_aged seconds records names = count_followed records names ∙ sym (length-map (chain_aliases records names) (aged seconds))

pub no_alias : (seconds : ℕ) (alias : Option PlainRecord) (w : Writing) → alias ≡ None → w ≡ writing_after w (map (aged seconds) (option_to_list alias))
no_alias seconds alias w e = rw e (sym (writing_none w))

pub some_alias : {X Y : Type 0} (result : Result X Y) (seconds : ℕ) (alias : Option PlainRecord) (r : PlainRecord) (w next : Writing) → alias ≡ Some r
    → OnOk result (next ≡ writing_after w (aged seconds r ∷ [])) → OnOk result (next ≡ writing_after w (map (aged seconds) (option_to_list alias)))
some_alias (Ok x) seconds alias r w next e h = h ∙ ap (λ (o : Option PlainRecord). writing_after w (map (aged seconds) (option_to_list o))) (sym e)
some_alias (Err y) seconds alias r w next e h = h

-- the aliases of these names, with what is left of their TTLs
abbrev pub kept : ℕ → List PlainRecord → List Name → List PlainRecord
kept seconds records names = map (aged seconds) (chain_aliases records names)

-- the alias of one name and those of the others
kept_first : (seconds : ℕ) (records : List PlainRecord) (name : Name) (names : List Name)
    → kept seconds records (name ∷ names) ≡ map (aged seconds) (option_to_list (alias_of records name)) ++ kept seconds records names
kept_first seconds records name names = map-append (aged seconds) (option_to_list (alias_of records name)) (chain_aliases records names)

pub kept_more : (seconds : ℕ) (records : List PlainRecord) (names : List Name) (i : ℕ) (name : Name) (w next whole : Writing) → i < length names
    → next ≡ writing_after w (map (aged seconds) (option_to_list (alias_of records (get_or names i name))))
    → writing_after w (kept seconds records (drop i names)) ≡ whole → writing_after next (kept seconds records (drop (i + 1) names)) ≡ whole
kept_more seconds records names i name w next whole lt e h =
    let one = map (aged seconds) (option_to_list (alias_of records (get_or names i name))) in
    let others = kept seconds records (drop (i + 1) names) in
    ap (λ (v : Writing). writing_after v others) e
    ∙ writing_append w one others
    ∙ ap (writing_after w) (sym (at_drop_more (kept seconds records) names i name lt ∙ kept_first seconds records (get_or names i name) (drop (i + 1) names)))
    ∙ h

pub kept_all : (seconds : ℕ) (records : List PlainRecord) (names : List Name) (i : ℕ) (w whole : Writing) → length names ≤ i → writing_after w (kept seconds records (drop i names)) ≡ whole → w ≡ whole
kept_all seconds records names i w whole le h = sym (ap (λ (l : List Name). writing_after w (kept seconds records l)) (drop_all i names le) ∙ writing_none w) ∙ h
