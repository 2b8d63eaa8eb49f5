use Rattle.std.proofs.Common.{◌≡◌, ap, sym, ◌∙◌, drop, [], ◌∷◌, ◌++◌}
use Rattle.policy_publish.proofs.Queued.{Seen, is_of_same, seen_of, shows_queued, where_ok}
use Rattle.policy_publish.proofs.publisher.Publisher.over.Goals as goal

pub publish_as-writer-requires : goal.publish_as-writer-requires
publish_as-writer-requires g c = λ next is views of there.
    let again = c.in_ok-again.again in
    let writer = c.append.new.self in
    let waiting = drop writer.behind writer.log.items in
    let one : waiting ≡ again ∷ [] =
    where_ok c.append.result _ _ (waiting ≡ again ∷ []) (sym c.is_err.ensures.value ∙ c.if-is_err.false) c.append.ensures.pending (λ a e. e ∙ ap (λ l. l ++ again ∷ []) c.in_ok-writer.ensures.1) in
    let seen : seen_of next ≡ seen_of again = shows_queued writer.desk.shown.value again waiting (seen_of next) is one in
    let next_is = is_of_same g.N.StoreName.store c.args.shown next (ap (λ (p : Seen). p.0) seen ∙ c.in_ok-again.ensures.0) (ap (λ (p : Seen). p.1) seen ∙ c.in_ok-again.ensures.1) c.requires.store.0 in
    (tt, next_is, next_is)

pub invariant_of-result : goal.invariant_of-result
invariant_of-result g c =
    let again = c.in_ok-again.again in
    let writer = c.append.new.self in
    let waiting = drop writer.behind writer.log.items in
    let one : waiting ≡ again ∷ [] =
    where_ok c.append.result _ _ (waiting ≡ again ∷ []) (sym c.is_err.ensures.value ∙ c.if-is_err.false) c.append.ensures.pending (λ a e. e ∙ ap (λ l. l ++ again ∷ []) c.in_ok-writer.ensures.1) in
    let shows = where_ok c.publish_as-writer.result.1 _ _ _ (sym c.is_err-2.ensures.value ∙ c.if-is_err-2.false) c.publish_as-writer.ensures.values (λ a v. v) in
    let seen : seen_of c.publish_as-writer.result.0.desk.shown.value ≡ seen_of again =
    shows_queued writer.desk.shown.value again waiting (seen_of c.publish_as-writer.result.0.desk.shown.value) shows.0 one in (
      c.requires.store.0,
      c.requires.store.1,
      (shows.1, ap (λ (p : Seen). p.1) seen ∙ c.in_ok-again.ensures.1, ap (λ (p : Seen). p.0) seen ∙ c.in_ok-again.ensures.0),
    )
