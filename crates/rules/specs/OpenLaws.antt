-- The open rule keeps every law.
use Rattle.std.specs.Prelude.{◌≡◌, ℕ, ◌+◌, ◌≤◌, true, List, [], ◌∷◌, ◌++◌, Some, None, Option, nat_le, refl}
use Rattle.std.proofs.Common.{arith}
use Rattle.std.specs.Option.{unwrap_or}
use Rattle.std.proofs.lemmas.Bool.Decides.{nat_tests}
use Rattle.limits.specs.Strokes.{rises_from, never_falls, NoLater}
use Rattle.rules.specs.Rules.{Order, Early, Late, Reach, may, open_rule}

-- with no last stroke it is as with one at 0
rises : (o : Option ℕ) (ts : List ℕ) → (open_rule o).allows ts ≡ rises_from (unwrap_or o 0) ts
rises None ts = refl
rises (Some u) ts = refl

pub open_may : (o : Option ℕ) (t : ℕ) → may (open_rule o) t ≡ nat_le (unwrap_or o 0) t
open_may o t = let e = rises o (t ∷ []) in grind arith

rising : (u : ℕ) (ts : List ℕ) → rises_from u ts ≡ true → never_falls ts ≡ true
rising u [] h = refl
rising u (t ∷ ts) h = grind (arith, nat_tests)

beginning : (u : ℕ) (ts us : List ℕ) → rises_from u (ts ++ us) ≡ true → rises_from u ts ≡ true
beginning u [] us h = refl
beginning u (t ∷ ts) us h = let rest = beginning t ts us in grind arith

early : (u u' : ℕ) (ts us : List ℕ) (v : ℕ) → u ≤ u' → NoLater ts us → rises_from u ts ≡ true → rises_from u' (us ++ (v ∷ [])) ≡ true → rises_from u (ts ++ (v ∷ [])) ≡ true
early u u' [] [] v uu nl h k = grind (arith, nat_tests)
early u u' [] (x ∷ us) v uu nl h k = absurd nl
early u u' (t ∷ ts) [] v uu nl h k = absurd nl
early u u' (t ∷ ts) (x ∷ us) v uu nl h k = let rest = early t x ts us v nl.0 nl.1 in grind (arith, nat_tests)

late : (u : ℕ) (ts : List ℕ) (a b : ℕ) → a ≤ b → rises_from u (ts ++ (a ∷ [])) ≡ true → rises_from u (ts ++ (b ∷ [])) ≡ true
late u [] a b ab h = grind (arith, nat_tests)
late u (t ∷ ts) a b ab h = let rest = late t ts a b ab in grind (arith, nat_tests)

next : (u : ℕ) (ts : List ℕ) (a : ℕ) → rises_from u (ts ++ (a ∷ [])) ≡ true → rises_from u (ts ++ (a ∷ (a + 0) ∷ [])) ≡ true
next u [] a h = grind (arith, nat_tests)
next u (t ∷ ts) a h = let rest = next t ts a in grind (arith, nat_tests)

pub open_order : (o : Option ℕ) → Order (open_rule o)
open_order None = record { rising = λ ts h. h; empty = refl; beginning = beginning 0 }
open_order (Some u) = record { rising = rising u; empty = refl; beginning = beginning u }

pub open_early : (o : Option ℕ) → Early (open_rule o)
open_early None ts us v = early 0 0 ts us v (omega arith)
open_early (Some u) ts us v = early u u ts us v (omega arith)

pub open_late : (o : Option ℕ) → Late (open_rule o)
open_late None = late 0
open_late (Some u) = late u

pub open_reach : (o : Option ℕ) → Reach (open_rule o) 0
open_reach None = record { unstruck = λ e t. grind (arith, nat_tests); again = λ u e. absurd (let z : ◌≡◌ {A = ℕ} 0 1 = cc in omega arith); next = next 0 }
open_reach (Some u) = record { unstruck = λ e t. absurd (let z : ◌≡◌ {A = ℕ} 0 1 = cc in omega arith); again = λ v e. let same : u ≡ v = cc in grind (arith, nat_tests); next = next u }
