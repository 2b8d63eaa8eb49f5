-- How bytes that are read or written in several calls add up.
use Rattle.std.proofs.Common.{◌≡◌, ℕ, List, [], ◌++◌, Option, Some, None, refl, sym, ap, append_assoc}
use Rattle.std.proofs.lemmas.List.{append-nil}
use Rattle.edge_io.specs.Edge.{prepended, appended}

pub appended-appended : (out : Option (List ℕ)) (first next : List ℕ) → appended (appended out first) next ≡ appended out (first ++ next)
appended-appended None first next = refl
appended-appended (Some bytes) first next = ap (λ (all : List ℕ). Some all) (append_assoc bytes first next)

pub prepended-prepended : (left : Option (List ℕ)) (first next : List ℕ) → prepended first (prepended next left) ≡ prepended (first ++ next) left
prepended-prepended None first next = refl
prepended-prepended (Some bytes) first next = ap (λ (all : List ℕ). Some all) (sym (append_assoc first next bytes))

pub appended-nil : (out : Option (List ℕ)) → appended out [] ≡ out
appended-nil None = refl
appended-nil (Some bytes) = ap (λ (all : List ℕ). Some all) (append-nil bytes)

pub prepended-nil : (left : Option (List ℕ)) → prepended [] left ≡ left
prepended-nil None = refl
prepended-nil (Some bytes) = refl
