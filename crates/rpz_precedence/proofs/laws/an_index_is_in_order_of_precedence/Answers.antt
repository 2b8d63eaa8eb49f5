use Rattle.std.proofs.Common.{◌∙◌}
use Rattle.trigger_codec.specs.declared.trigger.Trigger.TheVariants.{ClientIp, Qname, ResponseIp, NsDname, NsIp}
use Rattle.rpz_precedence.proofs.OneServer.{servers}
use Rattle.rpz_precedence.proofs.Places.{at_one_place}
use Rattle.rpz_precedence.proofs.laws.an_index_is_in_order_of_precedence.Goals as goal

pub returns-clause-client_ip : goal.returns-clause-client_ip
returns-clause-client_ip c = λ position zone p q. at_one_place position zone (ClientIp p) (ClientIp q)

pub returns-clause-qname : goal.returns-clause-qname
returns-clause-qname c = λ position zone p q. at_one_place position zone (Qname p) (Qname q)

pub returns-clause-response_ip : goal.returns-clause-response_ip
returns-clause-response_ip c = λ position zone p q. at_one_place position zone (ResponseIp p) (ResponseIp q)

pub returns-clause-ns_ip : goal.returns-clause-ns_ip
returns-clause-ns_ip c = λ position zone p q. at_one_place position zone (NsIp p) (NsIp q)

pub returns-clause-ns_dname : goal.returns-clause-ns_dname
returns-clause-ns_dname c = λ position zone p q server hp hq h.
    at_one_place position zone (NsDname q) (NsDname p)
    ∙ servers c.names_that_are_alike.ensures.same c.names_that_are_alike.ensures.within p q server hp hq h
