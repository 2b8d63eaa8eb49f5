use Rattle.query_session.proofs.StandingReply.{reply_stands}
use Rattle.query_session.proofs.laws.a_reply_stands.Goals as goal

pub returns : goal.returns
returns c = λ policy incoming facts more rows extends few.
    reply_stands policy facts more extends few
    (λ question fact. c.what_is_known_stays_known.ensures.known facts more question fact extends)
    (λ query. c.nothing_unasked_could_matter.ensures.next policy query facts more rows extends) incoming
