-- What is asked of the upstream.
use Rattle.std.specs.Prelude.{ℕ, true, List, [], Some, None}
use Rattle.dns_name.specs.Labels.{lowered, Name}
use Rattle.dns_record.specs.declared.class.TheConstants.{IN}
use Rattle.dns_message.specs.declared.message.Message.{Message}
use Rattle.dns_message.specs.declared.question.Question.{Question}
use Rattle.dns_message.specs.declared.request.Query.{Query}
use Rattle.dns_message.specs.Request.{request_header}
use Rattle.dns_message.specs.Spelling.{spelling}

-- a question of class IN
abbrev pub question_of : Name → ℕ → Question
question_of name qtype = record { name = name; qtype = qtype; qclass = IN }

-- what is asked about a query: its own question
abbrev pub main_question : Query → Question
main_question query = question_of query.question.name query.question.qtype

-- a message that asks this: RD is 1, and the name in lower case (RFC 1035, section 4.1.1)
abbrev pub question_message : ℕ → Question → Message
question_message id question = record {
  header = request_header id true;
  question = Some (record {
    name = lowered question.name;
    qtype = question.qtype;
    qclass = question.qclass;
  });
  answer = [];
  authority = [];
  additional = [];
  edns = None;
}

-- The octets of the message that asks a question.
abbrev pub question_bytes : ℕ → Question → List ℕ
question_bytes id question = spelling (question_message id question)
