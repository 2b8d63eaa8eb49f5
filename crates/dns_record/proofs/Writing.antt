-- What is written in several steps, one after another.
use Rattle.std.proofs.Common.{◌≡◌, ℕ, List, ◌++◌, append_assoc}

-- a name, four numbers in one piece and the data after what stands before them
pub regrouped : (before name a b c d rdata : List ℕ) → ((before ++ name) ++ (((a ++ b) ++ c) ++ d)) ++ rdata ≡ before ++ (((((name ++ a) ++ b) ++ c) ++ d) ++ rdata)
regrouped before name a b c d rdata = simp append_assoc

-- three pieces after what stands before them
pub joined_three : (before a b c : List ℕ) → ((before ++ a) ++ b) ++ c ≡ before ++ ((a ++ b) ++ c)
joined_three before a b c = simp append_assoc
