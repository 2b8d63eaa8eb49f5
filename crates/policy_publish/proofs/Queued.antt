-- What a writer shows next, where one version waits behind what it shows.
use Rattle.std.proofs.Common.{◌≡◌, false, List, [], ◌∷◌, Result, Ok, Err, sym, ap, subst, ◌∙◌, true≢false}
use Rattle.std.specs.Arc.{arc_value}
use Rattle.std.specs.List.{fold}
use Rattle.std.specs.Result.{MatchResult, is_err}
use Rattle.policy_snapshot.specs.Stands.{PlainSnapshot, StandsFor}
use Rattle.policy_snapshot.specs.declared.snapshot.Snapshot.{Snapshot}
use Rattle.policy_publish.specs.Shows.{IsOf}
use Rattle.policy_publish.specs.Stores.{Store}
use Rattle.policy_publish.specs.declared.front.Line.{Line}
use Rattle.policy_publish.specs.declared.shown.Shown.{Shown}

-- what is said of a call that gave no error
pub where_ok : {A E : Type 0} (r : Result A E) (P : A → Type 0) (Q : E → Type 0) (R : Type 0) → is_err r ≡ false → MatchResult r P Q → ((a : A) → P a → R) → R
where_ok (Ok a) P Q R ok m f = f a m
where_ok (Err e) P Q R ok m f = absurd (true≢false ok)

-- a version and a line that are those of something of the store
pub is_of_same : (store : Store) (shown next : Shown) → arc_value next.version ≡ arc_value shown.version → next.line ≡ shown.line → IsOf store shown → IsOf store next
is_of_same store shown next version line is = record {
  book = ap (λ (l : Line). l.book) line ∙ is.book;
  stands = subst (λ (v : PlainSnapshot). StandsFor store.settings v next.line.entries) (sym version)
      (subst (λ (l : Line). StandsFor store.settings (arc_value shown.version) l.entries) (sym line) is.stands);
}

-- what clauses see of what is shown
abbrev pub Seen : Type 0
Seen = Snapshot × Line

abbrev pub seen_of : Shown → Seen
seen_of shown = (arc_value shown.version, shown.line)

-- behind one version that waits, that one is shown
pub shows_queued : (value again : Shown) (waiting : List Shown) (seen : Seen) → seen ≡ fold (λ (_ : Seen) s. seen_of s) (seen_of value) waiting → waiting ≡ again ∷ [] → seen ≡ seen_of again
shows_queued value again waiting seen is one = is ∙ ap (fold (λ (_ : Seen) s. seen_of s) (seen_of value)) one
