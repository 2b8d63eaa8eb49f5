-- A frame that is written in two calls.
use Rattle.std.proofs.Common.{◌≡◌, ◌≤◌, ℕ, ◌+◌, List, ◌++◌, Option, Result, Ok, Err, take, length, sym, ◌∙◌, ap, arith}
use Rattle.std.specs.Prelude.{OnErr}
use Rattle.std.proofs.Math.Seq.{take-append-add}
use Rattle.std.proofs.lemmas.List.{take-append-le, length-take, take_min}
use Rattle.edge_io.specs.Edge.{appended, WritesPrefix}
use Rattle.edge_io.proofs.Edges.{appended-appended}

-- as many as a prefix has
take_own : (n : ℕ) (xs : List ℕ) → take (length (take n xs)) xs ≡ take n xs
take_own n xs = ap (λ (k : ℕ). take k xs) (length-take n xs) ∙ take_min n xs

prefix_of : (n : ℕ) (xs ys : List ℕ) → take (length (take n xs)) (xs ++ ys) ≡ take n xs
prefix_of n xs ys =
    let short : length (take n xs) ≤ length xs = omega (arith, length-take n xs) in
    take-append-le (length (take n xs)) xs ys short ∙ take_own n xs

-- all of the length, and all of the message
pub both_written : (a b c : Option (List ℕ)) (size message : List ℕ) → b ≡ appended a size → c ≡ appended b message → c ≡ appended a (size ++ message)
both_written a b c size message e f = f ∙ ap (λ h. appended h message) e ∙ appended-appended a size message

-- a part of the length
pub size_cut : (a b : Option (List ℕ)) (size message : List ℕ) → WritesPrefix size a b → WritesPrefix (size ++ message) a b
size_cut a b size message (n, e) = (length (take n size), e ∙ ap (appended a) (sym (prefix_of n size message)))

-- all of the length, and a part of the message
pub message_cut : (a b c : Option (List ℕ)) (size message : List ℕ) → b ≡ appended a size → WritesPrefix message b c → WritesPrefix (size ++ message) a c
message_cut a b c size message e (n, f) = (length size + n, both_written a b c size (take n message) e f ∙ ap (appended a) (sym (take-append-add size message n)))

-- what follows where there is an error
pub on_err : {X E P Q : Type 0} (result : Result X E) → (P → Q) → OnErr result P → OnErr result Q
on_err (Ok x) more h = h
on_err (Err e) more h = more h
