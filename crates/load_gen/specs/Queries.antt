-- The queries of a load, each from four draws.
use Rattle.std.specs.Prelude.{ℕ, zero, suc, ◌+◌, ◌*◌, ◌/◌, ◌%◌, ◌^◌, ◌==◌, true, if◌then◌else◌, List, [], ◌∷◌, ◌++◌, Some, None, codes}
use Rattle.dns_name.specs.Labels.{Name}
use Rattle.ip_prefix.specs.declared.Addr.{Addr}
use Rattle.ip_prefix.specs.declared.Addr.TheVariants.{V4}
use Rattle.dns_record.specs.declared.rtype.TheConstants.{A}
use Rattle.dns_record.specs.declared.class.TheConstants.{IN}
use Rattle.dns_message.specs.declared.message.Message.{Message}
use Rattle.dns_message.specs.Request.{request_header}
use Rattle.dns_message.specs.Spelling.{spelling}
use Rattle.load_gen.specs.declared.load.LoadQuery.{LoadQuery}
use Rattle.load_gen.specs.Draws.{after_four, after_three, after_two, draw, drawn_in, next_state}
use Rattle.load_gen.specs.Written.{host_text, written_name}

-- `hH.gG.example`, with `w.` before it where the first draw is odd
abbrev pub query_text : ℕ → ℕ → ℕ → List ℕ
query_text a b c =
    if a % 2 == 1 then codes "w." ++ host_text (b % 4096) (c % 64) (codes ".example")
    else host_text (b % 4096) (c % 64) (codes ".example")

-- a request with recursion desired, of type A and class IN, with no OPT record
abbrev pub load_request : ℕ → Name → Message
load_request id name = record {
  header = request_header id true;
  question = Some (record { name = name; qtype = A; qclass = IN });
  answer = [];
  authority = [];
  additional = [];
  edns = None;
}

-- 10.(d mod 256).((d div 256) mod 256).1
abbrev pub client_of : ℕ → Addr
client_of d = V4 (10 * 2 ^ 24 + d % 256 * 2 ^ 16 + d / 256 % 256 * 2 ^ 8 + 1)

-- a query by its ID and its four draws
abbrev pub query_of : ℕ → ℕ → ℕ → ℕ → ℕ → LoadQuery
query_of id a b c d =
    record {
      client = client_of d;
      message = spelling (load_request id (written_name (query_text a b c)));
    }

-- the query that comes after so many others, where this state stands before the first; IDs count from 1
abbrev pub query_at : ℕ → ℕ → LoadQuery
query_at seed place =
    query_of ((place + 1) % 65536) (draw seed (4 * place)) (draw seed (4 * place + 1))
    (draw seed (4 * place + 2)) (draw seed (4 * place + 3))

-- the first queries from a state on, so many
unfoldable pub first_queries : ℕ → ℕ → List LoadQuery
first_queries seed zero = []
first_queries seed (suc count) = first_queries seed count ++ query_at seed count ∷ []

-- the query of this ID that is drawn in a state
abbrev pub query_from : ℕ → ℕ → LoadQuery
query_from id x =
    query_of id (drawn_in (next_state x)) (drawn_in (after_two x)) (drawn_in (after_three x))
    (drawn_in (after_four x))
