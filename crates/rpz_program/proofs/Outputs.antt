-- What was written of lines, and then of more.
use Rattle.std.proofs.Common.{◌≡◌, ℕ, List, [], ◌++◌, Bool, true, false, true≢false, Option, length, sym, ◌∙◌, ap}
use Rattle.std.proofs.Math.Seq.{take-length}
use Rattle.edge_io.specs.Edge.{WritesPrefix, appended}
use Rattle.edge_io.proofs.Edges.{appended-nil}
use Rattle.edge_io.proofs.Written.{both_written, message_cut, size_cut}
use Rattle.rpz_program.specs.Serving.{Wrote}

-- all of the lines is a prefix of them
pub whole_prefix : (lines : List ℕ) (before after : Option (List ℕ)) → after ≡ appended before lines → WritesPrefix lines before after
whole_prefix lines before after e = (length lines, e ∙ ap (appended before) (sym (take-length lines)))

pub wrote_prefix : (cut : Bool) (lines : List ℕ) (before after : Option (List ℕ)) → Wrote cut lines before after → WritesPrefix lines before after
wrote_prefix false lines before after e = whole_prefix lines before after e
wrote_prefix true lines before after h = h

-- all lines are written, and then more
pub wrote_more : (lines more : List ℕ) (first held now : Option (List ℕ)) → Wrote false lines first held → now ≡ appended held more → Wrote false (lines ++ more) first now
wrote_more lines more first held now was e = both_written first held now lines more was e

-- all lines are written, and then a part of more
pub wrote_part : (lines more : List ℕ) (first held now : Option (List ℕ)) → Wrote false lines first held → WritesPrefix more held now → WritesPrefix (lines ++ more) first now
wrote_part lines more first held now was part = message_cut first held now lines more was part

-- the same where none has failed before
pub wrote_part_of : (cut : Bool) (lines more : List ℕ) (first held now : Option (List ℕ)) → cut ≡ false → Wrote cut lines first held → WritesPrefix more held now → WritesPrefix (lines ++ more) first now
wrote_part_of false lines more first held now e was part = wrote_part lines more first held now was part
wrote_part_of true lines more first held now e was part = absurd (true≢false e)

-- nothing more is written
pub wrote_nothing : (cut : Bool) (lines more : List ℕ) (first held : Option (List ℕ)) → Wrote cut lines first held → WritesPrefix (lines ++ more) first held
wrote_nothing cut lines more first held was = size_cut first held lines more (wrote_prefix cut lines first held was)

-- nothing was written, and then lines
pub wrote_none : (held : Option (List ℕ)) → Wrote false [] held held
wrote_none held = sym (appended-nil held)
