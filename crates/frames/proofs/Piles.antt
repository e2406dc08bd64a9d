-- Piles of the same limits mean the same.
use Rattle.std.proofs.Common.{◌≡◌, ℕ, zero, suc, ◌⊎◌, IsTrue, Contains, List, [], ◌∷◌, Some, None, Option, sym, refl, ap, ◌∙◌, inl, inr, arith}
use Rattle.std.proofs.Math.Path.{fun_ext}
use Rattle.std.proofs.lemmas.Bool.{and_parts, and_from}
use Rattle.limits.specs.Strokes.{never_falls}
use Rattle.limits.specs.Limits.{Limit, keeps}
use Rattle.rules.specs.Rules.{Meaning, pile}
use Rattle.rules.proofs.Meanings.{same_meaning}
use Rattle.frames.specs.Bells.{Bell, Bells, fresh}
use Rattle.frames.specs.Runs.{SameLimits, Exchanged, Rehung}

-- the list never falls, and keeps each limit of the pile
abbrev KeptBy : List Limit → List ℕ → Type 0
KeptBy xs ts = IsTrue (never_falls ts) × ((x : Limit) → Contains xs x → IsTrue (keeps x ts))

first_or_rest : (x y : Limit) (xs : List Limit) → Contains (y ∷ xs) x → (y ≡ x) ⊎ Contains xs x
first_or_rest x y xs (zero, l, e) = inl e
first_or_rest x y xs (suc k, l, e) = inr (k, omega (arith, l), e)

pile_allows : (xs : List Limit) (ts : List ℕ) → IsTrue ((pile xs).allows ts) → KeptBy xs ts
pile_allows [] ts h = (h, λ x i. absurd (omega (arith, i.1)))
pile_allows (y ∷ xs) ts h =
    let both = and_parts ((pile xs).allows ts) (keeps y ts) h in
    let kept = pile_allows xs ts both.0 in
    (kept.0, λ x i. elim (first_or_rest x y xs i) [ inl e ↦ rw (← e) both.1 | inr j ↦ kept.1 x j ])

allows_pile : (xs : List Limit) (ts : List ℕ) → KeptBy xs ts → IsTrue ((pile xs).allows ts)
allows_pile [] ts h = h.0
allows_pile (y ∷ xs) ts h =
    let rest = allows_pile xs ts (h.0, λ x i. h.1 x (suc i.0, omega (arith, i.1), i.2)) in
    and_from ((pile xs).allows ts) (keeps y ts) rest (h.1 y (zero, omega arith, refl))

pile_last : (xs : List Limit) → (pile xs).last ≡ None
pile_last [] = refl
pile_last (x ∷ xs) = pile_last xs

-- what a pile allows is allowed by a pile of no other limits
passes : (xs ys : List Limit) → ((x : Limit) → Contains ys x → Contains xs x) → (ts : List ℕ) → IsTrue ((pile xs).allows ts) → IsTrue ((pile ys).allows ts)
passes xs ys within ts h = let kept = pile_allows xs ts h in allows_pile ys ts (kept.0, λ x i. kept.1 x (within x i))

same_pile : (xs ys : List Limit) → SameLimits xs ys → pile xs ≡ pile ys
same_pile xs ys s = same_meaning (pile xs) (pile ys) (pile_last xs ∙ sym (pile_last ys)) (λ ts. grind (arith, passes xs ys s.1 ts, passes ys xs s.0 ts))

exchanged : (o p : Option Bell) → Exchanged o p → p ≡ o
exchanged o p (inl e) = sym e
exchanged o p (inr r) = r.4 ∙ ap (λ (m : Meaning). Some (fresh m)) (sym (same_pile r.0 r.1 r.2)) ∙ sym r.3

pub same_frame : (f g : Bells) → Rehung f g → g ≡ f
same_frame f g h = fun_ext (λ n. exchanged (f n) (g n) (h n))
