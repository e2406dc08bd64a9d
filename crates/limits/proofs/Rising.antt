-- Lists that never fall, and the largest of a list.
use Rattle.std.proofs.Common.{◌≡◌, ℕ, ◌-◌, max, true, ◌&&◌, leb, List, [], ◌∷◌, ◌++◌, length, Some, refl, ap, ◌∙◌, arith}
use Rattle.std.specs.List.{slice_get}
use Rattle.std.specs.Option.{unwrap_or}
use Rattle.std.proofs.lemmas.Bool.Decides.{nat_tests}
use Rattle.limits.specs.Strokes.{rises_from, never_falls}
use Rattle.limits.specs.Limits.{largest}

pub largest_push : (ds : List ℕ) (d : ℕ) → largest (ds ++ (d ∷ [])) ≡ max (largest ds) d
largest_push [] d = omega arith
largest_push (x ∷ ds) d = let rest = largest_push ds d in omega arith

rises_push : (t : ℕ) (ds : List ℕ) (d : ℕ) → rises_from t (ds ++ (d ∷ [])) ≡ (rises_from t ds && leb (max t (largest ds)) d)
rises_push t [] d = grind (arith, nat_tests)
rises_push t (x ∷ ds) d = let rest = rises_push x ds d in grind (arith, nat_tests)

-- one more at the end does not fall if it is no smaller than the largest
pub rising_push : (ds : List ℕ) (d : ℕ) → never_falls (ds ++ (d ∷ [])) ≡ (never_falls ds && leb (largest ds) d)
rising_push ds d = let e = rises_push 0 ds d in let z : max 0 (largest ds) ≡ largest ds = omega arith in e ∙ ap (λ (x : ℕ). never_falls ds && leb x d) z

-- so the last of a rising list is its largest
last_of : (x : ℕ) (xs : List ℕ) → rises_from x xs ≡ true → slice_get (x ∷ xs) (length xs) ≡ Some (largest (x ∷ xs))
last_of x [] h = grind arith
last_of x (y ∷ ys) h = let rest = last_of y ys in grind (arith, nat_tests)

pub largest_last : (xs : List ℕ) → never_falls xs ≡ true → unwrap_or (slice_get xs (length xs - 1)) 0 ≡ largest xs
largest_last [] h = refl
largest_last (x ∷ xs) h = let last = last_of x xs in grind (arith, nat_tests)
