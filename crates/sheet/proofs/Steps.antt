-- Steps of the check: how they go on, and how they end with a fault.
use Rattle.std.proofs.Common.{◌≡◌, Bool, true, false, ◌⊎◌, Ok, Err, refl, ap, inl, inr}
use Rattle.sheet.specs.Faults.{Fault, Checked, ◌>>=◌, must}

-- a step that is passed
pub bind_is : {A B : Type 0} {r : Checked A} {a : A} (next : A → Checked B) → r ≡ Ok a → (r >>= next) ≡ next a
bind_is next e = ap (λ r. r >>= next) e

pub must_is : {B : Type 0} {t : Bool} (e : Fault) (next : Unit {0} → Checked B) → t ≡ true → (must t e >>= next) ≡ next tt
must_is e next h = ap (λ t. must t e >>= next) h

-- steps that were all passed
pub bind_ok : {A B : Type 0} (r : Checked A) (next : A → Checked B) (b : B) → (r >>= next) ≡ Ok b → (a : A) × (r ≡ Ok a) × (next a ≡ Ok b)
bind_ok (Ok a) next b h = (a, refl, h)
bind_ok (Err e) next b h = cc

pub must_ok : {B : Type 0} (t : Bool) (e : Fault) (next : Unit {0} → Checked B) (b : B) → (must t e >>= next) ≡ Ok b → (t ≡ true) × (next tt ≡ Ok b)
must_ok true e next b h = (refl, h)
must_ok false e next b h = cc

-- steps that came to a fault: the first of them has it, or it was passed
pub bind_err : {A B : Type 0} (r : Checked A) (next : A → Checked B) (f : Fault) → (r >>= next) ≡ Err f → (r ≡ Err f) ⊎ ((a : A) × (r ≡ Ok a) × (next a ≡ Err f))
bind_err (Ok a) next f h = inr (a, refl, h)
bind_err (Err e) next f h = let s : e ≡ f = cc in inl (ap (λ (x : Fault). Err x) s)

pub must_err : {B : Type 0} (t : Bool) (e : Fault) (next : Unit {0} → Checked B) (f : Fault) → (must t e >>= next) ≡ Err f → (e ≡ f) ⊎ ((t ≡ true) × (next tt ≡ Err f))
must_err true e next f h = inr (refl, h)
must_err false e next f h = inl (cc)
