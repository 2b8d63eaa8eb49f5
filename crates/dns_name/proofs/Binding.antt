-- Results that follow one another, taken apart.
use Rattle.std.proofs.Common.{◌≡◌, ◌⊎◌, inl, inr, Result, Ok, Err, refl, ap}
use Rattle.dns_name.specs.Reading.{◌>>=◌}

-- where the whole is read, its first part is read, and what follows
pub bind_ok : {E A B : Type 0} (r : Result A E) (f : A → Result B E) (y : B) → r >>= f ≡ Ok y → (x : A) × (r ≡ Ok x) × (f x ≡ Ok y)
bind_ok (Ok x) f y e = (x, refl, e)
bind_ok (Err fault) f y e = absurd cc

same_ok : {E A : Type 0} (r : Result A E) (x y : A) → r ≡ Ok x → r ≡ Ok y → x ≡ y
same_ok r x y e f = cc

-- a result gives one value
pub ok_is : {E A : Type 0} (x y : A) → (let r : Result A E = Ok x in r ≡ Ok y) → x ≡ y
ok_is {E = E} {A = A} x y e = same_ok {E = E} {A = A} (Ok x) x y refl e

same_err : {E A : Type 0} (r : Result A E) (x y : E) → r ≡ Err x → r ≡ Err y → x ≡ y
same_err r x y e f = cc

-- a result gives one fault
pub err_is : {E A : Type 0} (x y : E) → (let r : Result A E = Err x in r ≡ Err y) → x ≡ y
err_is {E = E} {A = A} x y e = same_err {E = E} {A = A} (Err x) x y refl e

-- where the whole is a fault, its first part is, or what follows
pub bind_err : {E A B : Type 0} (r : Result A E) (f : A → Result B E) (e : E) → r >>= f ≡ Err e → (r ≡ Err e) ⊎ ((x : A) × (r ≡ Ok x) × (f x ≡ Err e))
bind_err (Ok x) f e h = inr (x, refl, h)
bind_err {E = E} {B = B} (Err fault) f e h = inl (ap (λ (g : E). Err g) (err_is {E = E} {A = B} fault e h))
