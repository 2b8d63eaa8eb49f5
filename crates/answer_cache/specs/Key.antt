-- The keys of a cache.
use Rattle.std.specs.Prelude.{ℕ, List, ◌++◌}
use Rattle.dns_name.specs.Labels.{lowered, name_octets}
use Rattle.dns_record.specs.Number.{number_octets}
use Rattle.dns_message.specs.declared.question.Question.{Question}

-- a question as a message has it, with its name in lower case (RFC 1035, sections 2.3.3 and 4.1.2)
unfoldable pub key_of : Question → List ℕ
key_of question =
    (name_octets (lowered question.name) ++ number_octets 2 question.qtype)
    ++ number_octets 2 question.qclass
