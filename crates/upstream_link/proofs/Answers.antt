-- What is kept of an answer is one.
use Rattle.std.proofs.Common.{◌≡◌, ℕ, Bool, true, false, ◌||◌, ◌&&◌, cond, ◌⊎◌, inl, inr, List, [], ◌∷◌, filter, Some, refl}
use Rattle.std.specs.Prelude.{IfSome, ◌==◌}
use Rattle.std.specs.List.{list_all, find}
use Rattle.std.proofs.lemmas.Bool.{eqb-true}
use Rattle.dns_record.specs.Record.{PlainRecord}
use Rattle.dns_message.specs.declared.message.Message.{Message}
use Rattle.upstream_link.specs.Fact.{answer_in, is_soa, is_answer_rcode}
use Rattle.upstream_link.specs.Kept.{IsAnswer, IsSoa}

either : (a b : Bool) → (a || b) ≡ true → (a ≡ true) ⊎ (b ≡ true)
either true b e = inl refl
either false b e = inr e

both : (a b : Bool) → (a && b) ≡ true → (a ≡ true) × (b ≡ true)
both true b e = (refl, e)
both false b e = absurd cc

kept_by : (p : PlainRecord → Bool) (r : PlainRecord) (rs : List PlainRecord) (b : Bool) → p r ≡ b → list_all p (filter p rs) ≡ true → list_all p (cond b (r ∷ filter p rs) (filter p rs)) ≡ true
kept_by p r rs true e h = rw e h
kept_by p r rs false e h = h

kept_all : (p : PlainRecord → Bool) (rs : List PlainRecord) → list_all p (filter p rs) ≡ true
kept_all p [] = refl
kept_all p (r ∷ rs) = kept_by p r rs (p r) refl (kept_all p rs)

found_by : (r : PlainRecord) (rs : List PlainRecord) (b : Bool) → is_soa r ≡ b → IfSome (find is_soa rs) IsSoa → IfSome (cond b (Some r) (find is_soa rs)) IsSoa
found_by r rs true e h = let q = both (r.rtype == 6) (r.class == 1) e in (eqb-true r.rtype 6 q.0, eqb-true r.class 1 q.1)
found_by r rs false e h = h

found : (rs : List PlainRecord) → IfSome (find is_soa rs) IsSoa
found [] = tt
found (r ∷ rs) = found_by r rs (is_soa r) refl (found rs)

told_by : (rcode : ℕ) → ((rcode == 0) ≡ true) ⊎ ((rcode == 3) ≡ true) → (rcode ≡ 0) ⊎ (rcode ≡ 3)
told_by rcode (inl e) = inl (eqb-true rcode 0 e)
told_by rcode (inr e) = inr (eqb-true rcode 3 e)

pub is_answer : (m : Message) → is_answer_rcode m.header.rcode ≡ true → IsAnswer (answer_in m)
is_answer m told = record {
  is_answer_rcode = told_by m.header.rcode (either (m.header.rcode == 0) (m.header.rcode == 3) told);
  in_class = kept_all (λ r. r.class == 1) m.answer;
  is_soa = found m.authority;
}
