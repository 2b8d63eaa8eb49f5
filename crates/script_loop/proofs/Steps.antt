-- How far a replay has come, and what it has done where it ends.
use Rattle.std.proofs.Common.{◌≡◌, ◌≢◌, ℕ, ◌+◌, ◌<◌, ◌≤◌, inl, inr, List, [], ◌∷◌, ◌++◌, Option, Some, None, Ok, Err, Result, IfSome, take, drop, refl, sym, ◌∙◌, ap, subst, arith, append_assoc, length}
use Rattle.std.specs.List.{AllByRecursion}
use Rattle.std.proofs.lemmas.List.{append-nil, take-append-drop}
use Rattle.std.proofs.lemmas.List.Elements.{recursion_from_All}
use Rattle.edge_io.specs.Edge.{prepended, appended, IsAtEnd}
use Rattle.script_loop.proofs.Moving.{prepended-prepended, prepended-nil, appended-appended, appended-nil}
use Rattle.script_loop.specs.declared.replay.Stop.{Stop}
use Rattle.script_loop.specs.declared.replay.Stop.TheVariants.{BadLine, ReadFault, WriteFault, OutOfMemory}
use Rattle.script_loop.specs.declared.reader.SourceError.{SourceError}
use Rattle.script_loop.specs.declared.reader.SourceError.TheVariants.{ReadFault as Fault, OutOfMemory as Memory}
use Rattle.script_loop.specs.Reader.{Reads}
use Rattle.script_loop.specs.Lines.{NoFeed, lines_of, whole_lines}
use Rattle.script_loop.specs.Fold.{Run, run_of, line_outcome, why_unread, transcript, verdict}
use Rattle.script_loop.specs.Replay.{IsPrefix, Moves, BeginsTranscript, Answers, Ends, Takes, TakesPart, ReadsNoFurther, StopsAt}
use Rattle.script_loop.proofs.Lines.{Feedless, bytes_of, bytes_of-push, each-push, lines_of-whole, lines_of-one, lines_of-bytes_of, whole_lines-bytes_of, whole_lines-part, first_line}
use Rattle.script_loop.proofs.Folds.{after, run_of-append, run_of-counts, run_of-refused, run_of-taken, line_outcome-long}

-- these lines were read, and answered
pub record Progress {M W : Type 0} (too_many too_long : W) (step : M → List ℕ → Result (M × List ℕ) W) (first : M) (left_before left_now out_before out_now : Option (List ℕ)) (buffer : List ℕ) (here : ℕ × M) : Type 0 where
  pub lines : List (List ℕ)
  pub written : List ℕ
  pub each : AllByRecursion Feedless lines
  pub answered : run_of too_many too_long step (1, first) lines ≡ (written, Ok here)
  pub from_source : left_before ≡ prepended (bytes_of lines ++ buffer) left_now
  pub to_sink : out_now ≡ appended out_before written

bad_number : {W : Type 0} → Result (Unit {0}) (Stop W) → ℕ
bad_number (Err (BadLine number why)) = number
bad_number (Err ReadFault) = 0
bad_number (Err WriteFault) = 0
bad_number (Err OutOfMemory) = 0
bad_number (Ok u) = 0

-- a replay that stops
abbrev pub stop_of : {W : Type 0} → Stop W → Result (Unit {0}) (Stop W)
stop_of stop = Err stop

bad_is : {W : Type 0} (number : ℕ) (other : W) (bad : ℕ) (why : W) → stop_of (BadLine number other) ≡ stop_of (BadLine bad why) → bad ≡ number
unfolding bad_number
bad_is {W} number other bad why is = sym (ap (λ (r : Result (Unit {0}) (Stop W)). bad_number r) is)

if_some : {X : Type 0} (o : Option X) (P : X → Type 0) → ((x : X) → o ≡ Some x → P x) → IfSome o P
if_some None P each = tt
if_some (Some x) P each = each x refl

-- where the source tells, what is left is the rest of the script
record Rest (left : Option (List ℕ)) (read script : List ℕ) : Type 0 where
  pub rest : List ℕ
  pub known : left ≡ Some rest
  pub split : script ≡ read ++ rest

rest_of : (left : Option (List ℕ)) (read script : List ℕ) → Some script ≡ prepended read left → Rest left read script
rest_of None read script is = absurd (cc)
rest_of (Some rest) read script is = record { rest = rest; known = refl; split = cc }

at_end : (rest : List ℕ) (left : Option (List ℕ)) → left ≡ Some rest → IsAtEnd left → rest ≡ []
at_end rest left known end = subst IsAtEnd known end

module _ {M W : Type 0} {too_many too_long : W} {step : M → List ℕ → Result (M × List ℕ) W} {first : M} {left_before left_now out_before out_now : Option (List ℕ)} {buffer : List ℕ} {here : ℕ × M} (so : Progress too_many too_long step first left_before left_now out_before out_now buffer here) where
  -- more was read: x is the buffer, and what came
  read_on : (x : List ℕ) (left : Option (List ℕ)) → prepended buffer left_now ≡ prepended x left → left_before ≡ prepended (bytes_of so.lines ++ x) left
  read_on x left came =
      so.from_source
      ∙ sym (prepended-prepended left_now (bytes_of so.lines) buffer)
      ∙ ap (λ (o : Option (List ℕ)). prepended (bytes_of so.lines) o) came
      ∙ prepended-prepended left (bytes_of so.lines) x

  -- the run over all that was read
  run_over : (x : List ℕ) → run_of too_many too_long step (1, first) (lines_of (bytes_of so.lines ++ x)) ≡ after so.written (run_of too_many too_long step here (lines_of x))
  run_over x = ap (λ (l : List (List ℕ)). run_of too_many too_long step (1, first) l) (lines_of-bytes_of so.lines x so.each) ∙ run_of-append too_many too_long step so.lines (lines_of x) (1, first) here so.written so.answered

  wrote_on : (out : List ℕ) (out_after : Option (List ℕ)) → out_after ≡ appended out_now out → out_after ≡ appended out_before (so.written ++ out)
  wrote_on out out_after is = is ∙ ap (λ (o : Option (List ℕ)). appended o out) so.to_sink ∙ appended-appended out_before so.written out

  -- what was written begins the transcript
  pub begins : (x out : List ℕ) (left out_after : Option (List ℕ)) → prepended buffer left_now ≡ prepended x left → out_after ≡ appended out_now out → IsPrefix out (run_of too_many too_long step here (lines_of x)).0
      → Moves left_before left out_before out_after (BeginsTranscript too_many too_long step first)
  begins x out left out_after came gone front = record {
    read = bytes_of so.lines ++ x;
    written = so.written ++ out;
    from_source = read_on x left came;
    to_sink = wrote_on out out_after gone;
    have = (front.0, ap (λ (r : Run M W). r.0) (run_over x) ∙ ap (λ (l : List ℕ). so.written ++ l) front.1 ∙ sym (append_assoc so.written out front.0));
  }

  -- nothing was written since
  pub begins_same : (x : List ℕ) (left out_after : Option (List ℕ)) → prepended buffer left_now ≡ prepended x left → out_after ≡ out_now → Moves left_before left out_before out_after (BeginsTranscript too_many too_long step first)
  begins_same x left out_after came same = begins x [] left out_after came (same ∙ sym (appended-nil out_now)) ((run_of too_many too_long step here (lines_of x)).0, refl)

  -- the run over the whole script, where the source tells
  script_runs : (x out : List ℕ) (left : Option (List ℕ)) (end : Result (ℕ × M) (ℕ × W)) (script : List ℕ) → left_before ≡ Some script → prepended buffer left_now ≡ prepended x left
      → ((rest : List ℕ) → left ≡ Some rest → run_of too_many too_long step here (lines_of (x ++ rest)) ≡ (out, end))
      → run_of too_many too_long step (1, first) (lines_of script) ≡ (so.written ++ out, end)
  script_runs x out left end script known came ends =
      let r = rest_of left (bytes_of so.lines ++ x) script (sym known ∙ read_on x left came) in
      ap (λ (l : List ℕ). run_of too_many too_long step (1, first) (lines_of l)) (r.split ∙ append_assoc (bytes_of so.lines) x r.rest)
      ∙ run_over (x ++ r.rest)
      ∙ ap (after so.written) (ends r.rest r.known)

  -- a line is refused
  pub ends_bad : (last : M) (x : List ℕ) (left out_after : Option (List ℕ)) (number : ℕ) (why : W) → prepended buffer left_now ≡ prepended x left → out_after ≡ out_now
      → ((rest : List ℕ) → left ≡ Some rest → run_of too_many too_long step here (lines_of (x ++ rest)) ≡ ([], Err (number, why)))
      → Ends too_many too_long step (Err (BadLine number why)) first last left_before left out_before out_after
  ends_bad last x left out_after number why came same ends = if_some left_before _ (λ script known.
      let all = script_runs x [] left (Err (number, why)) script known came ends in
      let out : so.written ++ [] ≡ transcript too_many too_long step first script = sym (ap (λ (r : Run M W). r.0) all) in (
        ap (λ (r : Run M W). r.1) all,
        wrote_on [] out_after (same ∙ sym (appended-nil out_now)) ∙ ap (λ (l : List ℕ). appended out_before l) out,
      ))

  -- the script is done
  pub ends_done : (x out : List ℕ) (left out_after : Option (List ℕ)) (new : ℕ × M) → prepended buffer left_now ≡ prepended x left → IsAtEnd left → out_after ≡ appended out_now out → run_of too_many too_long step here (lines_of x) ≡ (out, Ok new)
      → Ends too_many too_long step (Ok tt) first new.1 left_before left out_before out_after
  ends_done x out left out_after new came end gone runs = if_some left_before _ (λ script known.
      let ends = λ (rest : List ℕ) (is : left ≡ Some rest). ap (λ (l : List ℕ). run_of too_many too_long step here (lines_of l)) (ap (λ (l : List ℕ). x ++ l) (at_end rest left is end) ∙ append-nil x) ∙ runs in
      let all = script_runs x out left (Ok new) script known came ends in
      let r = rest_of left (bytes_of so.lines ++ x) script (sym known ∙ read_on x left came) in
      let verdict_is : verdict too_many too_long step first script ≡ Ok new = ap (λ (r : Run M W). r.1) all in
      let out_is : so.written ++ out ≡ transcript too_many too_long step first script = sym (ap (λ (r : Run M W). r.0) all) in (
        r.known ∙ ap (λ (l : List ℕ). Some l) (at_end r.rest left r.known end),
        rw verdict_is refl,
        wrote_on out out_after gone ∙ ap (λ (l : List ℕ). appended out_before l) out_is,
      ))

  -- the source failed within a line
  pub ends_fault : (last : M) (line : List ℕ) (left out_after : Option (List ℕ)) → NoFeed line → prepended buffer left_now ≡ prepended line left → out_after ≡ out_now
      → Ends too_many too_long step (Err ReadFault) first last left_before left out_before out_after
  ends_fault last line left out_after no_feed came same = record {
    read = bytes_of so.lines ++ line;
    written = so.written ++ [];
    from_source = read_on line left came;
    to_sink = wrote_on [] out_after (same ∙ sym (appended-nil out_now));
    have =
        let none : whole_lines line ≡ [] = whole_lines-part line (recursion_from_All _ line no_feed) in
        let all : whole_lines (bytes_of so.lines ++ line) ≡ so.lines ++ [] = whole_lines-bytes_of so.lines line so.each ∙ ap (λ (l : List (List ℕ)). so.lines ++ l) none in
        (here, ap (λ (l : List (List ℕ)). run_of too_many too_long step (1, first) l) all ∙ run_of-append too_many too_long step so.lines [] (1, first) here so.written so.answered);
  }

  -- a whole line was answered
  pub goes_on : (line buffer_next : List ℕ) (left out_after : Option (List ℕ)) (new : M) → NoFeed line → prepended buffer left_now ≡ prepended (line ++ 10 ∷ buffer_next) left → Takes too_many too_long step here line (here.0 + 1, new) out_now out_after
      → Progress too_many too_long step first left_before left out_before out_after buffer_next (here.0 + 1, new)
  goes_on line buffer_next left out_after new no_feed came takes = record {
    lines = so.lines ++ line ∷ [];
    written = so.written ++ takes.written;
    each = each-push so.lines line so.each (recursion_from_All _ line no_feed);
    answered =
        run_of-append too_many too_long step so.lines (line ∷ []) (1, first) here so.written so.answered
        ∙ ap (λ (r : Run M W). after so.written r) (run_of-taken too_many too_long step here (here.0 + 1, new) line takes.written [] takes.does)
        ∙ ap (λ (l : List ℕ). (so.written ++ l, Ok (here.0 + 1, new))) (append-nil takes.written);
    from_source = read_on (line ++ 10 ∷ buffer_next) left came ∙ ap (λ (l : List ℕ). prepended l left) (sym (bytes_of-push so.lines line buffer_next));
    to_sink = wrote_on takes.written out_after takes.to_sink;
  }

  runs_on : (x line written : List ℕ) (others : List (List ℕ)) (new : ℕ × M) → lines_of x ≡ line ∷ others → line_outcome too_many too_long step here line ≡ Ok (new, written) → run_of too_many too_long step here (lines_of x) ≡ after written (run_of too_many too_long step new others)
  runs_on x line written others new first does = ap (λ (l : List (List ℕ)). run_of too_many too_long step here l) first ∙ run_of-taken too_many too_long step here new line written others does

  -- the first of what a line outputs was written
  part_prefix : (line x : List ℕ) (others : List (List ℕ)) (left out_after : Option (List ℕ)) → prepended buffer left_now ≡ prepended x left → lines_of x ≡ line ∷ others
      → TakesPart too_many too_long step here line out_now out_after → Moves left_before left out_before out_after (BeginsTranscript too_many too_long step first)
  part_prefix line x others left out_after came one takes =
      let more : List ℕ = (run_of too_many too_long step takes.next others).0 in
      begins x (take takes.count takes.written) left out_after came takes.to_sink (
        drop takes.count takes.written ++ more,
        ap (λ (r : Run M W). r.0) (runs_on x line takes.written others takes.next one takes.does)
            ∙ ap (λ (l : List ℕ). l ++ more) (sym (take-append-drop takes.count takes.written))
            ∙ append_assoc (take takes.count takes.written) (drop takes.count takes.written) more,
      )

  -- whatever an answer did, what was written begins the transcript
  pub answered_prefix : (result : Result (Unit {0}) (Stop W)) (line x : List ℕ) (others : List (List ℕ)) (new : M) (left out_after : Option (List ℕ)) → prepended buffer left_now ≡ prepended x left → lines_of x ≡ line ∷ others
      → Answers too_many too_long step result here.0 here.1 line new out_now out_after → Moves left_before left out_before out_after (BeginsTranscript too_many too_long step first)
  answered_prefix (Ok u) line x others new left out_after came one takes =
      begins x takes.written left out_after came takes.to_sink ((run_of too_many too_long step (here.0 + 1, new) others).0, ap (λ (r : Run M W). r.0) (runs_on x line takes.written others (here.0 + 1, new) one takes.does))
  answered_prefix (Err (BadLine number why)) line x others new left out_after came one answers = begins_same x left out_after came answers.2
  answered_prefix (Err ReadFault) line x others new left out_after came one answers = absurd answers
  answered_prefix (Err WriteFault) line x others new left out_after came one takes = part_prefix line x others left out_after came one takes
  answered_prefix (Err OutOfMemory) line x others new left out_after came one (inl same) = begins_same x left out_after came same
  answered_prefix (Err OutOfMemory) line x others new left out_after came one (inr takes) = part_prefix line x others left out_after came one takes

  -- the last line was answered, which has no line feed
  pub answered_last : (result : Result (Unit {0}) (Stop W)) (line : List ℕ) (new : M) (left out_after : Option (List ℕ)) → NoFeed line → line ≢ [] → prepended buffer left_now ≡ prepended line left → IsAtEnd left
      → Answers too_many too_long step result here.0 here.1 line new out_now out_after → Ends too_many too_long step result first new left_before left out_before out_after
  answered_last (Ok u) line new left out_after no_feed some came end takes =
      let one = lines_of-one line (recursion_from_All _ line no_feed) some in
      ends_done line takes.written left out_after (here.0 + 1, new) came end takes.to_sink (runs_on line line takes.written [] (here.0 + 1, new) one takes.does ∙ ap (λ (l : List ℕ). (l, Ok (here.0 + 1, new))) (append-nil takes.written))
  answered_last (Err (BadLine number why)) line new left out_after no_feed some came end answers =
      let one = lines_of-one line (recursion_from_All _ line no_feed) some in
      ends_bad new line left out_after number why came answers.2 (λ rest known.
      ap (λ (l : List ℕ). run_of too_many too_long step here (lines_of l)) (ap (λ (l : List ℕ). line ++ l) (at_end rest left known end) ∙ append-nil line)
      ∙ ap (λ (l : List (List ℕ)). run_of too_many too_long step here l) one
      ∙ run_of-refused too_many too_long step here line [] why answers.1
      ∙ ap (λ (n : ℕ). ([], Err (n, why))) (sym answers.0))
  answered_last (Err ReadFault) line new left out_after no_feed some came end answers = absurd answers
  answered_last (Err WriteFault) line new left out_after no_feed some came end answers = tt
  answered_last (Err OutOfMemory) line new left out_after no_feed some came end answers = tt

  -- a whole line stopped the replay
  pub answered_whole : (stop : Stop W) (line buffer_next : List ℕ) (new : M) (left out_after : Option (List ℕ)) → NoFeed line → prepended buffer left_now ≡ prepended (line ++ 10 ∷ buffer_next) left
      → Answers too_many too_long step (Err stop) here.0 here.1 line new out_now out_after → Ends too_many too_long step (Err stop) first new left_before left out_before out_after
  answered_whole (BadLine number why) line buffer_next new left out_after no_feed came answers =
      ends_bad new (line ++ 10 ∷ buffer_next) left out_after number why came answers.2 (λ rest known.
      ap (λ (l : List ℕ). run_of too_many too_long step here (lines_of l)) (append_assoc line (10 ∷ buffer_next) rest)
      ∙ ap (λ (l : List (List ℕ)). run_of too_many too_long step here l) (lines_of-whole line (buffer_next ++ rest) (recursion_from_All _ line no_feed))
      ∙ run_of-refused too_many too_long step here line (lines_of (buffer_next ++ rest)) why answers.1
      ∙ ap (λ (n : ℕ). ([], Err (n, why))) (sym answers.0))
  answered_whole ReadFault line buffer_next new left out_after no_feed came answers = absurd answers
  answered_whole WriteFault line buffer_next new left out_after no_feed came answers = tt
  answered_whole OutOfMemory line buffer_next new left out_after no_feed came answers = tt

  -- a line is longer than a line may be
  pub cut_short : (last : M) (line buffer_next : List ℕ) (left : Option (List ℕ)) → NoFeed line → 200000 < length line → prepended buffer left_now ≡ prepended (line ++ buffer_next) left
      → Ends too_many too_long step (Err (BadLine here.0 (why_unread too_many too_long here.0))) first last left_before left out_before out_now
  cut_short last [] buffer_next left no_feed long came = absurd (omega arith)
  cut_short last (b ∷ part) buffer_next left no_feed long came =
      ends_bad last ((b ∷ part) ++ buffer_next) left out_now here.0 (why_unread too_many too_long here.0) came refl (λ rest known.
      let found = first_line b part (buffer_next ++ rest) (recursion_from_All _ (b ∷ part) no_feed) in
      ap (λ (l : List ℕ). run_of too_many too_long step here (lines_of l)) (append_assoc (b ∷ part) buffer_next rest)
      ∙ ap (λ (l : List (List ℕ)). run_of too_many too_long step here l) found.first
      ∙ run_of-refused too_many too_long step here found.line found.lines (why_unread too_many too_long here.0) (line_outcome-long too_many too_long step here found.line (omega (arith, found.longer, long))))

  -- the source failed, or memory ran out, while a line was read
  pub stopped_reading : (last : M) (error : SourceError) (stop : Stop W) (line buffer_next : List ℕ) (left : Option (List ℕ)) → NoFeed line → StopsAt error stop → Reads (Err error) (prepended buffer left_now) line buffer_next left
      → Ends too_many too_long step (Err stop) first last left_before left out_before out_now
  stopped_reading last Fault stop line buffer_next left no_feed is came =
      subst (λ (s : Stop W). Ends too_many too_long step (Err s) first last left_before left out_before out_now) (sym is) (ends_fault last line left out_now no_feed came refl)
  stopped_reading last Memory stop line buffer_next left no_feed is came = subst (λ (s : Stop W). Ends too_many too_long step (Err s) first last left_before left out_before out_now) (sym is) tt

  pub stopped_prefix : (error : SourceError) (line buffer_next : List ℕ) (left : Option (List ℕ)) → Reads (Err error) (prepended buffer left_now) line buffer_next left → Moves left_before left out_before out_now (BeginsTranscript too_many too_long step first)
  stopped_prefix Fault line buffer_next left came = begins_same line left out_now came refl
  stopped_prefix Memory line buffer_next left came = begins_same (line ++ buffer_next) left out_now came refl

  -- the line feeds of all that was read before a line end the lines before it
  feeds_before : (line : List ℕ) → NoFeed line → length (whole_lines (bytes_of so.lines ++ line)) ≡ length so.lines
  feeds_before line no_feed =
      let none : whole_lines line ≡ [] = whole_lines-part line (recursion_from_All _ line no_feed) in
      ap (λ (l : List (List ℕ)). length l) (whole_lines-bytes_of so.lines line so.each ∙ ap (λ (l : List (List ℕ)). so.lines ++ l) none ∙ append-nil so.lines)

  -- what was read behind the line is a chunk
  pub read_no_further : (line chunk : List ℕ) (left : Option (List ℕ)) → NoFeed line → length chunk ≤ 8192 → prepended buffer left_now ≡ prepended (line ++ chunk) left → ReadsNoFurther here.0 left_before left
  read_no_further line chunk left no_feed fits came = record {
    first = bytes_of so.lines ++ line;
    chunk = chunk;
    from_source = read_on (line ++ chunk) left came ∙ ap (λ (l : List ℕ). prepended l left) (sym (append_assoc (bytes_of so.lines) line chunk));
    is_chunk = fits;
    is_short = omega (arith, feeds_before line no_feed, run_of-counts too_many too_long step so.lines (1, first) here so.written so.answered);
  }

  -- the line that an answer refuses
  pub refused_no_further : (result : Result (Unit {0}) (Stop W)) (bad : ℕ) (why : W) (answered line chunk : List ℕ) (new : M) (left before after : Option (List ℕ)) → NoFeed line → length chunk ≤ 8192 → prepended buffer left_now ≡ prepended (line ++ chunk) left
      → Answers too_many too_long step result here.0 here.1 answered new before after → result ≡ stop_of (BadLine bad why) → ReadsNoFurther bad left_before left
  refused_no_further (Ok u) bad why answered line chunk new left before after no_feed fits came answers is = absurd cc
  refused_no_further (Err (BadLine number other)) bad why answered line chunk new left before after no_feed fits came answers is =
      let same : bad ≡ here.0 = bad_is number other bad why is ∙ answers.0 in
      subst (λ (n : ℕ). ReadsNoFurther n left_before left) (sym same) (read_no_further line chunk left no_feed fits came)
  refused_no_further (Err ReadFault) bad why answered line chunk new left before after no_feed fits came answers is = absurd cc
  refused_no_further (Err WriteFault) bad why answered line chunk new left before after no_feed fits came answers is = absurd cc
  refused_no_further (Err OutOfMemory) bad why answered line chunk new left before after no_feed fits came answers is = absurd cc

  -- a line that is too long, or one too many
  pub unread_no_further : (other : W) (bad : ℕ) (why : W) (line chunk : List ℕ) (left : Option (List ℕ)) → NoFeed line → length chunk ≤ 8192 → prepended buffer left_now ≡ prepended (line ++ chunk) left
      → stop_of (BadLine here.0 other) ≡ stop_of (BadLine bad why) → ReadsNoFurther bad left_before left
  unread_no_further other bad why line chunk left no_feed fits came is =
      subst (λ (n : ℕ). ReadsNoFurther n left_before left) (sym (bad_is here.0 other bad why is)) (read_no_further line chunk left no_feed fits came)

  -- no line is refused where none could be read
  pub stopped_no_further : (error : SourceError) (stop : Stop W) (bad : ℕ) (why : W) (left : Option (List ℕ)) → StopsAt error stop → stop_of stop ≡ stop_of (BadLine bad why) → ReadsNoFurther bad left_before left
  stopped_no_further Fault stop bad why left is answers = absurd cc
  stopped_no_further Memory stop bad why left is answers = absurd cc

  -- nothing is left
  pub done : (line : List ℕ) (left : Option (List ℕ)) → line ≡ [] → prepended buffer left_now ≡ prepended line left → IsAtEnd left → Ends too_many too_long step (Ok tt) first here.1 left_before left out_before out_now
  done line left none came end = ends_done [] [] left out_now here (came ∙ ap (λ (l : List ℕ). prepended l left) none) end (sym (appended-nil out_now)) refl

-- before the first line
pub started : {M W : Type 0} (too_many too_long : W) (step : M → List ℕ → Result (M × List ℕ) W) (first : M) (left out_now : Option (List ℕ)) (buffer : List ℕ) → buffer ≡ [] → Progress too_many too_long step first left left out_now out_now buffer (1, first)
started too_many too_long step first left out_now buffer none = record {
  lines = [];
  written = [];
  each = tt;
  answered = refl;
  from_source = sym (prepended-nil left) ∙ ap (λ (l : List ℕ). prepended l left) (sym none);
  to_sink = sym (appended-nil out_now);
}
